-- Where no number changes, no value and no command does.
use Rattle.std.proofs.Common.{◌≡◌, ℕ, List, [], ◌∷◌, map, refl, ap, ◌∙◌}
use Rattle.std.specs.List.{AllByRecursion}
use Rattle.pst_case.specs.declared.case.Command.{Command}
use Rattle.pst_case.proofs.Renumbering.{renumbered-Int, renumbered-Truth, renumbered-Text, renumbered-Tuple, renumbered-ListOf, renumbered-MapOf, renumbered-Var, renumbered-Ref, renumbered-Call}
use Rattle.pst_case.specs.Laws.{NumbersThatStay}
use Rattle.pst_case.specs.Renumber.{renumbered, renumbered_command}
use Rattle.pst_value.proofs.Forms.{value_induction}
use Rattle.pst_value.specs.declared.value.Value.{Value, Tuple, List as ListOf, Map as MapOf, Var, Ref, Call}

module _ (f : ℕ → ℕ) (same : (n : ℕ) → f n ≡ n) where
  abbrev Stays : Value → Type 0
  Stays v = renumbered f v ≡ v

  all_stay : (xs : List Value) → AllByRecursion Stays xs → map (renumbered f) xs ≡ xs
  all_stay [] h = refl
  all_stay (x ∷ xs) h = ap (λ y. y ∷ map (renumbered f) xs) h.0 ∙ ap (λ ys. x ∷ ys) (all_stay xs h.1)

  value_stays : (v : Value) → Stays v
  value_stays = value_induction Stays (record {
    int = renumbered-Int f;
    truth = renumbered-Truth f;
    text = renumbered-Text f;
    tuple = λ xs h. renumbered-Tuple f xs ∙ ap Tuple (all_stay xs h);
    items = λ xs h. renumbered-ListOf f xs ∙ ap ListOf (all_stay xs h);
    maps = λ ks xs h. renumbered-MapOf f ks xs ∙ ap (MapOf ks) (all_stay xs h);
    var = λ n. renumbered-Var f n ∙ ap Var (same n);
    ref = λ n v h. renumbered-Ref f n v ∙ ap (λ k. Ref k (renumbered f v)) (same n) ∙ ap (λ w. Ref n w) h;
    call = λ op xs h. renumbered-Call f op xs ∙ ap (λ ys. Call op ys) (all_stay xs h);
  })

  values_stay : (xs : List Value) → map (renumbered f) xs ≡ xs
  values_stay [] = refl
  values_stay (x ∷ xs) = ap (λ y. y ∷ map (renumbered f) xs) (value_stays x) ∙ ap (λ ys. x ∷ ys) (values_stay xs)

  command_stays : (c : Command) → renumbered_command f c ≡ c
  command_stays c = ap (λ args. record { op = c.op; args = args }) (values_stay c.args)

pub renumbered-stays : NumbersThatStay
renumbered-stays f same = (value_stays f same, command_stays f same)
