-- Which values are truths, lists and numbers.
use Rattle.std.proofs.Common.{◌≡◌, ℕ, List, sym, ap, ◌∙◌}
use Rattle.std.specs.Prelude.{Bool, pos}
use Rattle.pst_value.specs.declared.value.Value.{Value, out-Value, roll-Value, out-roll-Value, roll-out-Value}
use Rattle.pst_value.specs.declared.value.Value.TheOpen.{Value-F}
use Rattle.pst_operators.specs.Operators.{truth_at, truth_of, items_at, items_of, bool, list, int}
use Rattle.pst_operators.specs.Outcome.{Outcome, Gives, Faults, Stuck}
use Rattle.pst_machine.specs.Machine.{index_at, index_of}

pub truth_bool : (b : Bool) → truth_of (bool b) ≡ Gives b
truth_bool b = ap truth_at (out-roll-Value (Value-F.Bool b))

pub items_list : (vs : List Value) → items_of (list vs) ≡ Gives vs
items_list vs = ap items_at (out-roll-Value (Value-F.List vs))

pub index_int : (n : ℕ) → index_of (int (pos n)) ≡ Gives n
index_int n = ap index_at (out-roll-Value (Value-F.Int (pos n)))

truth_layer : (l : Value-F Value) (b : Bool) → truth_at l ≡ Gives b → l ≡ Value-F.Bool b
truth_layer (Value-F.Int n) b e = cc
truth_layer (Value-F.Bool c) b e = cc
truth_layer (Value-F.Tuple vs) b e = cc
truth_layer (Value-F.List vs) b e = cc
truth_layer (Value-F.Map ks vs) b e = cc
truth_layer (Value-F.Text t) b e = cc
truth_layer (Value-F.Call n vs) b e = cc
truth_layer (Value-F.Var n) b e = cc
truth_layer (Value-F.Ref n v) b e = cc

pub truth_is : (v : Value) (b : Bool) → truth_of v ≡ Gives b → v ≡ bool b
truth_is v b e = sym (roll-out-Value v) ∙ ap roll-Value (truth_layer (out-Value v) b e)

items_layer : (l : Value-F Value) (vs : List Value) → items_at l ≡ Gives vs → l ≡ Value-F.List vs
items_layer (Value-F.Int n) ws e = cc
items_layer (Value-F.Bool c) ws e = cc
items_layer (Value-F.Tuple vs) ws e = cc
items_layer (Value-F.List vs) ws e = cc
items_layer (Value-F.Map ks vs) ws e = cc
items_layer (Value-F.Text t) ws e = cc
items_layer (Value-F.Call n vs) ws e = cc
items_layer (Value-F.Var n) ws e = cc
items_layer (Value-F.Ref n v) ws e = cc

pub items_is : (v : Value) (vs : List Value) → items_of v ≡ Gives vs → v ≡ list vs
items_is v vs e = sym (roll-out-Value v) ∙ ap roll-Value (items_layer (out-Value v) vs e)

-- an operator that is stuck or gives a value
abbrev pub IsQuiet : {A : Type 0} → Outcome A → Type 0
IsQuiet (Gives a) = Unit {0}
IsQuiet (Faults why) = ⊥
IsQuiet Stuck = Unit {0}

truth_layer_quiet : (l : Value-F Value) → IsQuiet (truth_at l)
truth_layer_quiet (Value-F.Int n) = tt
truth_layer_quiet (Value-F.Bool c) = tt
truth_layer_quiet (Value-F.Tuple vs) = tt
truth_layer_quiet (Value-F.List vs) = tt
truth_layer_quiet (Value-F.Map ks vs) = tt
truth_layer_quiet (Value-F.Text t) = tt
truth_layer_quiet (Value-F.Call n vs) = tt
truth_layer_quiet (Value-F.Var n) = tt
truth_layer_quiet (Value-F.Ref n v) = tt

pub truth_quiet : (v : Value) → IsQuiet (truth_of v)
truth_quiet v = truth_layer_quiet (out-Value v)

items_layer_quiet : (l : Value-F Value) → IsQuiet (items_at l)
items_layer_quiet (Value-F.Int n) = tt
items_layer_quiet (Value-F.Bool c) = tt
items_layer_quiet (Value-F.Tuple vs) = tt
items_layer_quiet (Value-F.List vs) = tt
items_layer_quiet (Value-F.Map ks vs) = tt
items_layer_quiet (Value-F.Text t) = tt
items_layer_quiet (Value-F.Call n vs) = tt
items_layer_quiet (Value-F.Var n) = tt
items_layer_quiet (Value-F.Ref n v) = tt

pub items_quiet : (v : Value) → IsQuiet (items_of v)
items_quiet v = items_layer_quiet (out-Value v)
