use Rattle.std.proofs.Common.{arith, ◌≡◌, ◌<◌, length}
use Rattle.pst_campaign.proofs.Zips.{zip_length}
use Rattle.pst_campaign.proofs.Given.{of_table, all_given}
use Rattle.pst_campaign.proofs.campaigns.run_campaign_with_workers.Goals as goal

pub close-requires-clause-own : goal.close-requires-clause-own
close-requires-clause-own g c κs =
    of_table (g.P.Worker.may_end c.args.plan.now) (g.P.Worker.may_give c.args.plan.now) c.in_ok-ledger.ledger.table c.args.systems.items c.run_workers_on_threads_or_here-worked.result.items c.run_workers_on_threads_or_here-worked.ensures

pub unreachable-requires : goal.unreachable-requires
unreachable-requires g c =
    let same = zip_length _ _ _ c.run_workers_on_threads_or_here-worked.ensures in
    absurd (c.in-Err.ensures.0 (omega (arith, same, c.in_ok-ledger.ensures.count, c.len-workers.ensures, c.args.systems.ok.0)))

pub returns-clause-given : goal.returns-clause-given
returns-clause-given g c =
    let some_systems : 0 < length c.args.systems.items = omega (arith, c.len-workers.ensures, c.if-workers-eq0.false, c.args.systems.ok.0) in
    let closed = c.in-Ok.ensures.1 in
    all_given (g.P.Worker.may_end c.args.plan.now) (g.P.Worker.may_give c.args.plan.now) c.in_ok-ledger.ledger.table c.args.systems.items c.run_workers_on_threads_or_here-worked.result.items
    _ _ _ some_systems c.run_workers_on_threads_or_here-worked.ensures closed.1
