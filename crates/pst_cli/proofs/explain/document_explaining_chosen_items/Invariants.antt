use Rattle.std.proofs.Common.{length}
use Rattle.pst_cli.specs.Output.{AreJudged}
use Rattle.pst_runs.specs.Lawful.{AreLawful}
use Rattle.pst_cli.proofs.explain.document_explaining_chosen_items.Given as goal

abbrev pub invariant-loop-run : goal.invariant-loop-run
invariant-loop-run l = record {
  lawful : AreLawful l.judge.callbacks.now l.rest;
  judged : AreJudged l.judge.order l.judge.callbacks.now l.rest l.left;
}

abbrev pub decreases-loop-run : goal.decreases-loop-run
decreases-loop-run l = length l.rest
