use Rattle.pst_cli.proofs.judge.judge_answer.Goals as goal

pub returns-then-options-clause-output : goal.returns-then-options-clause-output
returns-then-options-clause-output g c = rw (c.in-Text.is, c.if-options.true) c.judge_each-then-options.ensures.output

pub returns-in-Json-clause-output : goal.returns-in-Json-clause-output
returns-in-Json-clause-output g c = rw c.in-Json.is c.judge_each.ensures.output
