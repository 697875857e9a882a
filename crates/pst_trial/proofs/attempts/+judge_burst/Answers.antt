use Rattle.std.proofs.Common.{sym, ◌∙◌}
use Rattle.std.proofs.lemmas.Result.{IfOk-weaker}
use Rattle.pst_trial.proofs.Bursts.{ends_burst, last_of_burst, later_in_burst}
use Rattle.pst_trial.proofs.attempts.+judge_burst.Goals as goal

pub returns-then-not-is_explained-clause-counts : goal.returns-then-not-is_explained-clause-counts
returns-then-not-is_explained-clause-counts g t c =
    ends_burst _ _ _ c.args.first.now c.in_ok-run.run' (c.in_ok-run.ensures.history ∙ c.in_ok-copy.ensures)
    c.args.rest.now (sym c.is_explained.ensures ∙ c.if-not-is_explained.true)

pub returns-in-Some-clause-counts : goal.returns-in-Some-clause-counts
returns-in-Some-clause-counts g t c =
    IfOk-weaker c.judge_burst.result _ _
    (λ run counts. later_in_burst _ _ _ c.args.first.now c.in_ok-run.run' (c.in_ok-run.ensures.history ∙ c.in_ok-copy.ensures)
    c.args.rest.now run c.in_ok-run.ensures.run.judged
    (sym c.is_explained.ensures ∙ c.if-not-is_explained.false) (rw c.in-Some.ensures.parts counts))
    c.judge_burst.ensures.counts

pub returns-in-None-clause-counts : goal.returns-in-None-clause-counts
returns-in-None-clause-counts g t c =
    last_of_burst _ _ _ c.args.first.now c.in_ok-run.run' (c.in_ok-run.ensures.history ∙ c.in_ok-copy.ensures)
    c.args.rest.now c.in-None.ensures.parts
