use Rattle.pst_cli.proofs.Reading.{read_as_text}
use Rattle.pst_cli.proofs.input.read_model_and_runs_of_input.Goals as goal

pub returns : goal.returns
returns c = read_as_text c.args.input.now c.read_model_and_runs_in_form.result c.read_model_and_runs_in_form.ensures
