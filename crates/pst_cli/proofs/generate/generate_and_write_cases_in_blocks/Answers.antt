use Rattle.std.proofs.Common.{◌≡◌, ◌≤◌, ◌-◌, subst, arith}
use Rattle.std.proofs.Math.Nat.{le_refl}
use Rattle.pst_cli.proofs.Generated.{goes_on, nothing_written, stops}
use Rattle.pst_cli.specs.Generating.{AreWritten}
use Rattle.pst_cli.specs.declared.answer.Status.TheVariants.{Accepted}
use Rattle.pst_cli.proofs.generate.generate_and_write_cases_in_blocks.Goals as goal

pub loop-next-init : goal.loop-next-init
loop-next-init g c =
    let none : 0 ≡ c.args.first - c.args.first = omega arith in
    let taken = g.W.Sink.taken c.args.sink.now in
    let broken = g.W.Sink.broken c.args.sink.now in
    record {
      above = le_refl _;
      below = c.requires.order;
      stands = c.requires.stands;
      done = subst (λ n. AreWritten c.args.form c.args.plan.now c.args.first n Accepted taken taken broken Accepted) none
          (nothing_written c.args.form c.args.plan.now c.args.first Accepted taken broken c.requires.stands);
    }

pub returns-in-Err : goal.returns-in-Err
returns-in-Err g c =
    let so_far = c.loop-next.invariant in
    let below : c.min-end.result ≤ c.args.behind = omega (arith, c.min-end.ensures) in
    let beyond : c.loop-next.next ≤ c.min-end.result = omega (arith, c.min-end.ensures, c.saturating_add.ensures, so_far.below) in
    stops c.args.form c.args.plan.now c.args.first c.loop-next.next c.args.behind so_far.above so_far.below _ _ _ _ so_far.done c.min-end.result _ _ c.in-Err.cut below beyond c.in-Err.ensures

pub loop-next-preserved : goal.loop-next-preserved
loop-next-preserved g c =
    let so_far = c.loop-next.invariant in
    let below : c.min-end.result ≤ c.args.behind = omega (arith, c.min-end.ensures) in
    let beyond : c.loop-next.next ≤ c.min-end.result = omega (arith, c.min-end.ensures, c.saturating_add.ensures, so_far.below) in
    let above : c.args.first ≤ c.min-end.result = omega (arith, so_far.above, beyond) in
    record {
      above = above;
      below = below;
      stands = c.in-Ok.ensures.written.stands;
      done = goes_on c.args.form c.args.plan.now c.args.first c.loop-next.next c.args.behind so_far.above so_far.below _ _ _ _ so_far.done c.min-end.result _ _ _ beyond c.in-Ok.ensures;
    }
