use Rattle.pst_cli.proofs.model_commands.check_answer.Goals as goal

pub returns-in-Text : goal.returns-in-Text
returns-in-Text c = rw c.in-Text.is c.check_line_answer.ensures
