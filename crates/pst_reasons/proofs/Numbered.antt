-- The numbers of the events of a history are those of the commands of its case.
use Rattle.std.proofs.Common.{◌≡◌, ℕ, zero, suc, ◌+◌, ◌≤◌, List, [], ◌∷◌, length, Option, Some, subst, slice_get, arith, length-append}
use Rattle.pst_case.specs.Recorded.{recorded}
use Rattle.pst_case.specs.Shape.{joined, before_suffix}
use Rattle.pst_case.specs.declared.case.Case.{Case}
use Rattle.pst_case.specs.declared.case.Command.{Command}
use Rattle.pst_case.specs.declared.history.History.{History}
use Rattle.pst_case.specs.declared.history.Reply.{Reply}
use Rattle.pst_case.specs.declared.history.Reply.TheVariants.{Value as Answered, Misfit, Failed, NotRun, Unknown}
use Rattle.pst_judge.specs.Replay.{part_events, branches_events, prefix_events, branch_events, suffix_events}
use Rattle.pst_judge.specs.declared.events.Event.{Event}
use Rattle.pst_reasons.proofs.Fewer.{EachEvent, EachOfBranches}
use Rattle.pst_reasons.specs.Reasons.{number_of_commands}
use Rattle.pst_value.specs.declared.value.Value.{Value}

-- the event has a number up to the last one
abbrev pub IsUpTo : ℕ → Event → Type 0
IsUpTo last e = (1 ≤ e.number) × (e.number ≤ last)

each_at : (P : Event → Type 0) (es : List Event) (i : ℕ) (e : Event) → EachEvent P es → slice_get es i ≡ Some e → P e
each_at P [] i e each h = absurd (cc)
each_at P (d ∷ es) zero e each h = let q : d ≡ e = cc in subst P q each.0
each_at P (d ∷ es) (suc i) e each h = each_at P es i e each.1 h

module _ (last : ℕ) (results : List (Option Value)) where
  part_up_to : (number : ℕ) (cs : List Command) (rs : List Reply) → 1 ≤ number → number + length cs ≤ suc last → EachEvent (IsUpTo last) (part_events results number cs rs)
  part_up_to number [] rs low high = tt
  part_up_to number (c ∷ cs) [] low high = tt
  part_up_to number (c ∷ cs) (Answered r ∷ rs) low high = ((low, omega (arith, high)), part_up_to (number + 1) cs rs (omega (arith, low)) (omega (arith, high)))
  part_up_to number (c ∷ cs) (Misfit ∷ rs) low high = tt
  part_up_to number (c ∷ cs) (Failed ∷ rs) low high = tt
  part_up_to number (c ∷ cs) (NotRun ∷ rs) low high = tt
  part_up_to number (c ∷ cs) (Unknown ∷ rs) low high = tt

  branches_up_to : (number : ℕ) (bs : List (List Command)) (rs : List (List Reply)) → 1 ≤ number → number + length (joined bs) ≤ suc last → EachOfBranches (IsUpTo last) (branches_events results number bs rs)
  branches_up_to number [] rs low high b i e h = absurd (cc)
  branches_up_to number (c ∷ bs) [] low high b i e h = absurd (cc)
  branches_up_to number (c ∷ bs) (r ∷ rs) low high zero i e h =
      let l = length-append c (joined bs) in
      each_at (IsUpTo last) (part_events results number c r) i e (part_up_to number c r low (omega (arith, high, l))) h
  branches_up_to number (c ∷ bs) (r ∷ rs) low high (suc b) i e h =
      let l = length-append c (joined bs) in
      branches_up_to (number + length c) bs rs (omega (arith, low)) (omega (arith, high, l)) b i e h

module _ (c : Case) (h : History) where
  pub prefix_numbered : EachEvent (IsUpTo (number_of_commands c)) (prefix_events c h)
  prefix_numbered =
      let l = length-append c.prefix (joined c.branches) in
      part_up_to (number_of_commands c) (recorded h) 1 c.prefix h.prefix (omega arith) (omega (arith, l))

  pub branches_numbered : EachOfBranches (IsUpTo (number_of_commands c)) (branch_events c h)
  branches_numbered =
      let l = length-append c.prefix (joined c.branches) in
      branches_up_to (number_of_commands c) (recorded h) (1 + length c.prefix) c.branches h.branches (omega arith) (omega (arith, l))

  pub suffix_numbered : EachEvent (IsUpTo (number_of_commands c)) (suffix_events c h)
  suffix_numbered = part_up_to (number_of_commands c) (recorded h) (1 + before_suffix c) c.suffix h.suffix (omega arith) (omega arith)
