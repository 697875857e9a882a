-- The calls of drives that the answers of clients make together ended as they may.
use Rattle.std.proofs.Common.{◌≡◌, ℕ, suc, ◌<◌, All, IfSome, List, [], ◌∷◌, Option, Some, None, slice_get, subst}
use Rattle.std.proofs.lemmas.List.Elements.{All-nil, All-cons, All-get_or}
use Rattle.std.proofs.lemmas.Option.{get_or_from_slice_get, slice_get_within}
use Rattle.pst_clients.proofs.Said.{Answering, Failing, answer_made}
use Rattle.pst_clients.specs.Bursting.{AreDrives, AreHeard, AreZipped, calls_of}
use Rattle.pst_clients.specs.declared.burst.BurstAnswer.{BurstAnswer}
use Rattle.pst_system.specs.Bursts.{IsMade, IsMadeDrive}
use Rattle.pst_system.specs.declared.burst.BurstCase.{BurstCase}
use Rattle.pst_system.specs.declared.burst.BurstDrive.{BurstDrive}
use Rattle.pst_system.specs.declared.burst.MadeCall.{MadeCall}
use Rattle.pst_value.specs.declared.ty.Ty.{Ty}

all_at : {X : Type 0} (P : X → Type 0) (xs : List X) (i : ℕ) (x : X) → All P xs → slice_get xs i ≡ Some x → P x
all_at P xs i x all e = subst P (get_or_from_slice_get xs i x x e) (All-get_or P xs i x (slice_get_within xs i x e) all)

module _ (may_give : List ℕ → Type 0) (may_fail may_run_ahead may_break : Type 0) (n : ℕ) (results : List Ty) where
  abbrev Made : List MadeCall → Type 0
  Made = All (IsMade (Answering may_give may_fail may_run_ahead may_break n results)
      (Failing may_give may_fail may_run_ahead may_break n results))

  zipped_made : (c : BurstCase) (first k : ℕ) (answers : List BurstAnswer) (branches : List (List MadeCall))
      → AreHeard may_give results c first answers → AreZipped k answers branches → All Made branches
  zipped_made c first k [] [] heard z = All-nil Made
  zipped_made c first k [] (b ∷ bs) heard z = absurd z
  zipped_made c first k (a ∷ rest) [] heard z = absurd z
  zipped_made c first k (a ∷ rest) (b ∷ bs) heard z =
      All-cons Made b bs
      (all_at Made a.lists.items z.0.0 b
      (answer_made may_give may_fail may_run_ahead may_break n results heard.0.0 heard.0.1 (calls_of c first) a heard.0.2)
      z.0.2)
      (zipped_made c (suc first) k rest bs heard.1 z.1)

  pub drives_made : (c : BurstCase) (most : ℕ) (found : Option (List BurstDrive)) → IfSome found (AreDrives may_give results c n most)
      → IfSome found (All (IsMadeDrive (Answering may_give may_fail may_run_ahead may_break n results)
      (Failing may_give may_fail may_run_ahead may_break n results)))
  drives_made c most None h = h
  drives_made c most (Some drives) h = λ i d less.
      let z = h.all.zipped i d less in
      record { branches = zipped_made c 0 z.0 h.answers _ h.heard z.1 }
