use Rattle.pst_cli.proofs.Printing.{prints}
use Rattle.pst_cli.specs.RunOutput.{IsRunOutput}
use Rattle.pst_cli.proofs.drive.run_text.Goals as goal

pub returns-clause-prints : goal.returns-clause-prints
returns-clause-prints g c =
    let s = (g.dyn-1.0.entry c.args.system.now.vtable).1 in
    let value = c.args.system.now.value in
    prints (IsRunOutput (s.answers value) (s.fails value) (s.reset_fails value) c.args.input.now) _ _ _ _ c.drive_answer-answer.result c.drive_answer-answer.ensures.output c.send.ensures
