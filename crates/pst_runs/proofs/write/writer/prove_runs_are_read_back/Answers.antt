use Rattle.std.proofs.Common.{subst}
use Rattle.std.proofs.lemmas.List.{take_all}
use Rattle.pst_runs.proofs.ItemAgain.{runs_read, runs_lawful}
use Rattle.pst_runs.proofs.Lines.{run_lawful, read_next, lines_spell}
use Rattle.pst_runs.proofs.write.writer.prove_runs_are_read_back.Goals as goal
use Rattle.pst_runs.specs.ReadAgain.{AreRead}

pub prove_run_is_read_back-requires : goal.prove_run_is_read_back-requires
prove_run_is_read_back-requires c =
    run_lawful c.args.typed.now c.args.runs.now c.loop-run.run-index c.run-item.result c.requires c.loop-run-test.true c.run-item.is

pub loop-run-preserved : goal.loop-run-preserved
loop-run-preserved c =
    read_next c.args.typed.now c.args.runs.now c.loop-run.run-index c.run-item.result c.loop-run-test.true c.run-item.is c.loop-run.invariant c.prove_run_is_read_back.ensures

pub returns-clause-spelled : goal.returns-clause-spelled
returns-clause-spelled c =
    let all = subst (AreRead c.args.typed.now) (take_all c.loop-run.run-index c.args.runs.now c.loop-run-test.false) c.loop-run.invariant in
    lines_spell _ (runs_lawful c.args.typed.now c.args.runs.now all)

pub returns-clause-read : goal.returns-clause-read
returns-clause-read c =
    let all = subst (AreRead c.args.typed.now) (take_all c.loop-run.run-index c.args.runs.now c.loop-run-test.false) c.loop-run.invariant in
    runs_read c.args.typed.now c.args.runs.now all
