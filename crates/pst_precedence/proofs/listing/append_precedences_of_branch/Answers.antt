use Rattle.std.proofs.Common.{◌≡◌, Some, ap, sym, ◌∙◌, length, subst, arith}
use Rattle.std.proofs.lemmas.Option.{slice_get_read}
use Rattle.std.specs.Prelude.{slice_get}
use Rattle.pst_precedence.proofs.Adding.{all_to_first, one_to_first, IsToFirst}
use Rattle.pst_precedence.specs.Listing.{Adds}
use Rattle.pst_precedence.proofs.listing.append_precedences_of_branch.Goals as goal

pub loop-index-preserved : goal.loop-index-preserved
loop-index-preserved c =
    one_to_first c.args.times.now c.args.branch c.loop-index.index c.args.list.now.items c.loop-index.list.items c.append_precedences_of_call.new.list.items
    c.loop-index.invariant c.in_ok-append_precedences_of_call.ensures

pub returns : goal.returns
returns c =
    let times = c.args.times.now in
    let calls = c.as_slice-calls.result.now in
    let at : slice_get times c.args.branch ≡ Some calls =
    slice_get_read times (length times) c.args.branch c.index-times-branch.result (omega arith) (omega arith) c.index-times-branch.is ∙ ap Some (sym c.as_slice-calls.ensures) in
    let end : c.loop-index.index ≡ length calls = omega arith in
    all_to_first times c.args.branch calls c.args.list.now.items c.loop-index.list.items at
    (subst (λ n. Adds times (IsToFirst c.args.branch n) c.args.list.now.items c.loop-index.list.items) end c.loop-index.invariant)
