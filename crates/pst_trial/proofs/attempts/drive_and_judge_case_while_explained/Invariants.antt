use Rattle.std.proofs.Common.{◌≡◌, length}
use Rattle.pst_trial.specs.JudgedRuns.{AreExplained}
use Rattle.pst_trial.proofs.attempts.drive_and_judge_case_while_explained.Given as goal

abbrev pub invariant-loop-turn : goal.invariant-loop-turn
invariant-loop-turn g l = record {
  explained : AreExplained (g.D.Driver.may_drive l.fn.driver) l.plan.model l.plan.settings.order l.valid.case l.runs;
  count : length l.runs ≡ l._turn;
  keeps : g.D.Driver.keeps l.fn.driver l.driver;
}
