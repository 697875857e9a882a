use Rattle.pst_cli.proofs.Printing.{reaches}
use Rattle.pst_cli.specs.Commands.{IsDriveAnswer}
use Rattle.pst_cli.proofs.drive.drive_items.Goals as goal

pub returns-clause-prints : goal.returns-clause-prints
returns-clause-prints g c =
    let s = (g.dyn-1.0.entry c.args.system.now.vtable).1 in
    let value = c.args.system.now.value in
    reaches _ (IsDriveAnswer c.args.options (s.answers value) (s.fails value) (s.reset_fails value) c.args.input.now) _ c.drive_answer-answer.result c.drive_answer-answer.ensures.output
    (rw c.memory_text.ensures at c.deliver.ensures)
