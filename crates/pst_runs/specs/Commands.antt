-- The commands that trees spell.
use Rattle.std.specs.Prelude.{ℕ, Bool, true, false, if◌then◌else◌, List, [], ◌∷◌, map, Option, Some, None}
use Rattle.pst_model.specs.Parts.{operation_number}
use Rattle.pst_model.specs.declared.model.Source.{Source}
use Rattle.pst_runs.specs.Values.{each, value_of, in_arguments}
use Rattle.pst_sexpr.specs.Parts.{and_then, word_of, node_of}
use Rattle.pst_runs.specs.declared.commands.SpelledCommand.{SpelledCommand}
use Rattle.pst_runs.specs.declared.commands.SpelledCommand.TheVariants.{Whole, Partial, Unknown}
use Rattle.pst_sexpr.specs.declared.form.Form.{Form}
use Rattle.pst_value.specs.declared.value.Value.{Value}

-- those that are there
abbrev pub present : {A : Type 0} → List (Option A) → List A
present [] = []
present (None ∷ more) = present more
present (Some a ∷ more) = a ∷ present more

-- whether all are there
abbrev pub are_present : {A : Type 0} → List (Option A) → Bool
are_present [] = true
are_present (None ∷ more) = false
are_present (Some a ∷ more) = are_present more

-- the values that arguments spell
abbrev pub arguments_of : Source → List Form → List (Option Value)
arguments_of m forms = map (value_of (in_arguments m)) forms

-- the command of an operation, if there is one, with the arguments that spell values
abbrev pub spelled : Option ℕ → List (Option Value) → SpelledCommand
spelled None args = Unknown
spelled (Some op) args =
    if are_present args then Whole (record { op = op; args = present args })
    else Partial (record { op = op; args = present args })

abbrev pub command_in : Source → List Form → Option SpelledCommand
command_in m [] = None
command_in m (first ∷ args) =
    and_then (word_of first) (λ name. Some (spelled (operation_number m.items name) (arguments_of m args)))

-- the name of an operation, and then arguments
abbrev pub command_of : Source → Form → Option SpelledCommand
command_of m form = and_then (node_of form) (command_in m)

abbrev pub commands_of : Source → List Form → Option (List SpelledCommand)
commands_of m forms = each (command_of m) forms
