-- The value that each form of JSON spells.
use Rattle.std.proofs.Common.{◌≡◌, ℕ, List, [], ◌∷◌, length, refl, arith}
use Rattle.std.specs.Borrow.{Bor}
use Rattle.json.specs.Value.{items_view, members_view}
use Rattle.json.specs.declared.value.Value.{Value as Tree}
use Rattle.json.proofs.Trees.{view-Array, view-Object}
use Rattle.pst_json_runs.specs.Reading.{count, size}

pub count-items : {A : Type 0} (ps : List (Tree A)) → count (items_view ps) ≡ length ps
count-items [] = refl
count-items (p ∷ ps) = let e = count-items ps in omega arith

pub size-members : {A : Type 0} (ms : List (Bor (List ℕ) × Tree A)) → size (members_view ms) ≡ length ms
size-members [] = refl
size-members (m ∷ ms) = let e = size-members ms in omega arith

pub ruleset wanted = (view-Array, view-Object, count-items, size-members)
