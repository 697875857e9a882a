use Rattle.std.proofs.Common.{arith, ◌≡◌, ◌∷◌, [], length, length-append, ap, ◌∙◌, subst}
use Rattle.std.specs.Prelude.{All}
use Rattle.pst_campaign.specs.Workers.{IsWorked, IsFresh}
use Rattle.pst_campaign.proofs.Zips.{zip_snoc, zip_length}
use Rattle.pst_campaign.proofs.threads.+run_workers_in_scope_or_here.Goals as goal
use Rattle.pst_ledger.proofs.Closing.{all_front, all_head, all_back}

pub push_reserved-requires : goal.push_reserved-requires
push_reserved-requires g t c =
    let same = zip_length _ _ _ c.run_workers_in_scope_or_here-worked.ensures.worked in
    let long = ap length c.in-Some-pop.ensures.items ∙ length-append c.pop-2.new.self.items (c.in-Some-pop.system ∷ []) in
    let room = c.run_workers_in_scope_or_here-worked.ensures.room in
    omega (arith, same, long, room, c.in-Some.ensures.capacity, c.requires.pairs, c.args.seats.ok.0, c.args.seats.ok.1, c.run_workers_in_scope_or_here-worked.result.ok.0)

pub push_reserved-requires-in-Err : goal.push_reserved-requires-in-Err
push_reserved-requires-in-Err g t c =
    let same = zip_length _ _ _ c.run_workers_in_scope_or_here-worked-in-Err.ensures.worked in
    let long = ap length c.in-Some-pop.ensures.items ∙ length-append c.pop-2.new.self.items (c.in-Some-pop.system ∷ []) in
    let room = c.run_workers_in_scope_or_here-worked-in-Err.ensures.room in
    omega (arith, same, long, room, c.in-Some.ensures.capacity, c.requires.pairs, c.args.seats.ok.0, c.args.seats.ok.1, c.run_workers_in_scope_or_here-worked-in-Err.result.ok.0)

pub run_workers_in_scope_or_here-worked-requires-in-Err-clause-fresh : goal.run_workers_in_scope_or_here-worked-requires-in-Err-clause-fresh
run_workers_in_scope_or_here-worked-requires-in-Err-clause-fresh g t c κs within =
    let P = IsFresh c.args.ledger.now.table in
    all_front P c.pop.new.self.items (c.in-Some.seat ∷ []) (subst (All P) c.in-Some.ensures.items c.requires.fresh)

pub run-own-requires : goal.run-own-requires
run-own-requires g t c κs within =
    let P = IsFresh c.args.ledger.now.table in
    let fresh : IsFresh c.args.ledger.now.table c.in-Some.seat
    = all_head P c.in-Some.seat [] (all_back P c.pop.new.self.items (c.in-Some.seat ∷ []) (subst (All P) c.in-Some.ensures.items c.requires.fresh)) in
    (within.0, (within.1.0, (within.1.1, rw c.in-Err.ensures.err (fresh, c.requires.trials))))

pub returns-in-Ok-clause-worked : goal.returns-in-Ok-clause-worked
returns-in-Ok-clause-worked g t c =
    let own : IsWorked (g.P.Worker.may_end c.args.plan.now) (g.P.Worker.may_give c.args.plan.now c.in-Some-pop.system) c.args.ledger.now.table c.join-own.result
    = rw (c.in-Ok.ensures.ok, c.of.ensures) at c.join-own.ensures in
    rw (c.in-Some-pop.ensures.items, c.push_reserved.ensures.items) (zip_snoc _ _ _ _ _ c.run_workers_in_scope_or_here-worked.ensures.worked own)

pub returns-in-Err-clause-worked : goal.returns-in-Err-clause-worked
returns-in-Err-clause-worked g t c =
    let own : IsWorked (g.P.Worker.may_end c.args.plan.now) (g.P.Worker.may_give c.args.plan.now c.in-Some-pop.system) c.args.ledger.now.table c.run-own.result
    = rw c.in-Err.ensures.err at c.run-own.ensures in
    rw (c.in-Some-pop.ensures.items, c.push_reserved-in-Err.ensures.items) (zip_snoc _ _ _ _ _ c.run_workers_in_scope_or_here-worked-in-Err.ensures.worked own)
