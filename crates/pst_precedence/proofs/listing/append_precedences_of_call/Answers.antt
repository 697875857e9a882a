use Rattle.std.proofs.Common.{◌≡◌, Some, ap, sym, ◌∙◌, length, subst, arith}
use Rattle.std.proofs.lemmas.Option.{slice_get_read}
use Rattle.std.specs.Prelude.{slice_get}
use Rattle.pst_precedence.proofs.Adding.{all_first, last_precedes, none_precedes, IsFromFirst}
use Rattle.pst_precedence.specs.Listing.{Adds}
use Rattle.pst_precedence.proofs.listing.append_precedences_of_call.Goals as goal
use Rattle.pst_precedence.proofs.listing.append_precedences_of_call.Goals.{in-Some+in_ok-push, in_default}

pub loop-branch-preserved : goal.loop-branch-preserved
loop-branch-preserved c =
    let times = c.args.times.now in
    let calls = c.as_slice.result.now in
    let at : slice_get times c.loop-branch.branch ≡ Some calls =
    slice_get_read times (length times) c.loop-branch.branch c.index-times-branch.result (omega arith) (omega arith) c.index-times-branch.is ∙ ap Some (sym c.as_slice.ensures) in
    elim c.match-last_preceding.branch [
      | in-Some+in_ok-push w ↦ rw (w.list-is, w.in_ok-push.ensures.items)
          (last_precedes times c.args.later c.args.time calls c.loop-branch.branch c.requires at c.args.list.now.items c.loop-branch.list.items w.in-Some.index w.in-Some.ensures c.loop-branch.invariant)
      | in_default w ↦ rw w.list-is
          (none_precedes times c.args.later c.args.time calls c.loop-branch.branch c.requires at c.args.list.now.items c.loop-branch.list.items w.in_default.ensures c.loop-branch.invariant)
    ]

pub returns : goal.returns
returns c =
    let times = c.args.times.now in
    let end : c.loop-branch.branch ≡ length times = omega arith in
    all_first times c.args.later c.args.list.now.items c.loop-branch.list.items
    (subst (λ n. Adds times (IsFromFirst c.args.later n) c.args.list.now.items c.loop-branch.list.items) end c.loop-branch.invariant)
