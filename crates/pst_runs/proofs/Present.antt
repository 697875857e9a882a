-- What is there of lists.
use Rattle.std.proofs.Common.{◌≡◌, List, [], ◌∷◌, ◌++◌, map, Option, Some, None, refl, ap, ◌∙◌}
use Rattle.std.proofs.lemmas.List.{append-nil, map-append}
use Rattle.pst_case.specs.declared.case.Command.{Command}
use Rattle.pst_runs.specs.Commands.{present}
use Rattle.pst_runs.specs.Reading.{readable, readable_part}
use Rattle.pst_runs.specs.declared.commands.SpelledCommand.{SpelledCommand}

present_append : {A : Type 0} (a b : List (Option A)) → present (a ++ b) ≡ present a ++ present b
present_append [] b = refl
present_append (None ∷ a) b = present_append a b
present_append (Some x ∷ a) b = ap (λ l. x ∷ l) (present_append a b)

both : (cs : List SpelledCommand) (c : SpelledCommand) → readable_part (cs ++ c ∷ []) ≡ readable_part cs ++ present (readable c ∷ [])
both cs c = ap present (map-append readable cs (c ∷ [])) ∙ present_append (map readable cs) (readable c ∷ [])

pub one_readable : (cs : List SpelledCommand) (c : SpelledCommand) (read : Command) → readable c ≡ Some read → readable_part (cs ++ c ∷ []) ≡ readable_part cs ++ read ∷ []
one_readable cs c read e = both cs c ∙ ap (λ r. readable_part cs ++ present (r ∷ [])) e

pub none_readable : (cs : List SpelledCommand) (c : SpelledCommand) → readable c ≡ None → readable_part (cs ++ c ∷ []) ≡ readable_part cs
none_readable cs c e = both cs c ∙ ap (λ r. readable_part cs ++ present (r ∷ [])) e ∙ append-nil (readable_part cs)
