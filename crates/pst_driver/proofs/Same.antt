-- Lists of commands, and of known results, that compare as equal are equal.
use Rattle.std.proofs.Common.{◌≡◌, Bool, true, ◌&&◌, List, [], ◌∷◌, Option, Some, None, refl, ap, nat_eq}
use Rattle.std.proofs.lemmas.Bool.{eqb-true}
use Rattle.std.specs.List.{AllByRecursion}
use Rattle.std.specs.Cmp.Lexicographic.{pointwise}
use Rattle.std.specs.Option.{option_eq}
use Rattle.pst_case.specs.declared.case.Command.{Command}
use Rattle.pst_value.proofs.Exact.{same_value-exact}
use Rattle.pst_value.proofs.ItemsExact.{IsExactAt, lists_exact, both_first, both_second}
use Rattle.pst_value.specs.Equality.{same_value}
use Rattle.pst_value.specs.declared.value.Value.{Value}

every : {A : Type 0} (P : A → Type 0) → ((x : A) → P x) → (xs : List A) → AllByRecursion P xs
every P f [] = tt
every P f (x ∷ xs) = (f x, every P f xs)

pub values_exact : (xs ys : List Value) → pointwise same_value xs ys ≡ true → xs ≡ ys
values_exact xs = lists_exact same_value xs (every _ same_value-exact xs)

abbrev pub same_command : Command → Command → Bool
same_command a b = nat_eq a.op b.op && pointwise same_value a.args b.args

command_exact : (a : Command) → IsExactAt same_command a
command_exact a b e =
    let p : a.op ≡ b.op = eqb-true a.op b.op (both_first (nat_eq a.op b.op) _ e) in
    let q : a.args ≡ b.args = values_exact a.args b.args (both_second (nat_eq a.op b.op) _ e) in
    λ i. record { op = p i; args = q i }

pub commands_exact : (xs ys : List Command) → pointwise same_command xs ys ≡ true → xs ≡ ys
commands_exact xs = lists_exact same_command xs (every _ command_exact xs)

option_exact : (a : Option Value) → IsExactAt (option_eq same_value) a
option_exact None None e = refl
option_exact None (Some y) e = cc
option_exact (Some x) None e = cc
option_exact (Some x) (Some y) e = ap Some (same_value-exact x y e)

pub known_exact : (xs ys : List (Option Value)) → pointwise (option_eq same_value) xs ys ≡ true → xs ≡ ys
known_exact xs = lists_exact (option_eq same_value) xs (every _ option_exact xs)
