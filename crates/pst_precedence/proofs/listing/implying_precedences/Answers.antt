use Rattle.std.proofs.Common.{◌≡◌, [], length, subst, arith}
use Rattle.pst_precedence.proofs.Adding.{all_listed, one_listed, IsToBranches}
use Rattle.pst_precedence.specs.Listing.{Adds}
use Rattle.pst_precedence.proofs.listing.implying_precedences.Goals as goal

pub loop-branch-preserved : goal.loop-branch-preserved
loop-branch-preserved c =
    one_listed c.args.times.now c.loop-branch.branch [] c.loop-branch.list.items c.append_precedences_of_branch.new.list.items
    c.loop-branch.invariant c.in_ok-append_precedences_of_branch.ensures

pub returns : goal.returns
returns c =
    let times = c.args.times.now in
    let end : c.loop-branch.branch ≡ length times = omega arith in
    all_listed times c.loop-branch.list.items
    (subst (λ n. Adds times (IsToBranches n) [] c.loop-branch.list.items) end c.loop-branch.invariant)
