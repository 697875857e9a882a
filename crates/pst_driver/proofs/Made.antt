-- Calls that a system made are calls of one that is kept; a call that compares as equal is equal.
use Rattle.std.proofs.Common.{◌≡◌, All, IfSome, Bool, true, ◌&&◌, List, Option, Some, None, Result, Ok, Err, MatchResult, nat_eq, subst}
use Rattle.std.proofs.lemmas.Bool.{eqb-true}
use Rattle.std.specs.Cmp.Lexicographic.{pointwise, bytes_decides}
use Rattle.pst_driver.proofs.Same.{values_exact}
use Rattle.pst_system.specs.Bursts.{MayEnd, IsMade, IsMadeDrive}
use Rattle.pst_system.specs.Kept.{Answers, Fails, ResetFails, AreKept}
use Rattle.pst_system.specs.declared.burst.BurstDrive.{BurstDrive}
use Rattle.pst_system.specs.declared.burst.CallEnd.{CallEnd}
use Rattle.pst_system.specs.declared.burst.CallEnd.TheVariants.{Answered, Fault}
use Rattle.pst_system.specs.declared.burst.MadeCall.{MadeCall}
use Rattle.pst_system.specs.declared.system.CallFault.{CallFault}
use Rattle.pst_system.specs.declared.system.RealCall.{RealCall}
use Rattle.pst_value.proofs.ItemsExact.{both_first, both_second}
use Rattle.pst_value.specs.Equality.{same_value}
use Rattle.pst_value.specs.declared.value.Value.{Value}

module _ {A A' : Answers} {F F' : Fails} {R R' : ResetFails} (kept : AreKept A A' F F' R R') where
  end_kept : (c : RealCall) (e : CallEnd) → MayEnd A F c e → MayEnd A' F' c e
  end_kept c (Answered v) h = (kept.answering c v).0 h
  end_kept c (Fault f) h = (kept.failing c f).0 h

  call_kept : (m : MadeCall) → IsMade A F m → IsMade A' F' m
  call_kept m h = record { ended = end_kept m.call m.end h.ended }

  drive_kept : (d : BurstDrive) → IsMadeDrive A F d → IsMadeDrive A' F' d
  drive_kept d h = record { branches = λ k b less. λ i m within. call_kept _ (h.branches k b less i m within) }

  pub drives_kept : (found : Option (List BurstDrive)) → IfSome found (λ drives. All (IsMadeDrive A F) drives)
      → IfSome found (All (IsMadeDrive A' F'))
  drives_kept None h = h
  drives_kept (Some drives) h = λ k d less. drive_kept _ (h k d less)

-- ---- calls that compare as equal

abbrev pub same_call : RealCall → RealCall → Bool
same_call a b = nat_eq a.op b.op && (pointwise nat_eq a.name b.name && pointwise same_value a.args b.args)

call_exact : (a b : RealCall) → same_call a b ≡ true → a ≡ b
call_exact a b e =
    let p : a.op ≡ b.op = eqb-true a.op b.op (both_first (nat_eq a.op b.op) _ e) in
    let rest = both_second (nat_eq a.op b.op) _ e in
    let q : a.name ≡ b.name = (bytes_decides a.name b.name).0 (both_first (pointwise nat_eq a.name b.name) _ rest) in
    let r : a.args ≡ b.args = values_exact a.args b.args (both_second (pointwise nat_eq a.name b.name) _ rest) in
    λ i. record { op = p i; name = q i; args = r i }

module _ {A : Answers} {F : Fails} (m : MadeCall) (c : RealCall) (made : IsMade A F m) (same : same_call m.call c ≡ true) where
  -- the end of an equal call is one of this call
  pub ends_so : (found : Option (Result Value CallFault))
      → IfSome found (λ copy. MatchResult copy (λ v. m.end ≡ Answered v) (λ f. m.end ≡ Fault f))
      → IfSome found (λ end. MatchResult end (λ v. A c v) (λ f. F c f))
  ends_so None h = h
  ends_so (Some (Ok v)) is = subst (λ c. A c v) (call_exact m.call c same) (subst (MayEnd A F m.call) is made.ended)
  ends_so (Some (Err f)) is = subst (λ c. F c f) (call_exact m.call c same) (subst (MayEnd A F m.call) is made.ended)
