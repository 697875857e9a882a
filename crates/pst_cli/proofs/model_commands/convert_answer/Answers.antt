use Rattle.std.proofs.Common.{◌≡◌, refl, rules}
use Rattle.pst_cli.proofs.Printing.{answers_so}
use Rattle.pst_cli.proofs.Reading.{items_are_lawful}
use Rattle.pst_cli.specs.ConvertOutput.{IsConvertOutput, converted, refused, lines_in}
use Rattle.pst_cli.specs.Output.{IsFirstRefusal}
use Rattle.pst_runs.specs.Lawful.{AreLawful}
use Rattle.pst_cli.proofs.model_commands.convert_answer.Goals as goal

pub item_lines_in_form-requires : goal.item_lines_in_form-requires
item_lines_in_form-requires c =
    let m = c.in-Ok.read.compiled in
    let held = rw c.in-Ok.is at c.in_ok-read.ensures in
    let lawful : AreLawful m c.in-Ok.read.runs.items = items_are_lawful c.args.input.now m c.in-Ok.read.runs.items held in
    search rules

pub returns-in-Err : goal.returns-in-Err
returns-in-Err c =
    answers_so (IsFirstRefusal c.args.input.now) (IsConvertOutput c.args.form c.args.input.now) (λ text status h. refused h) c.in-Err.answer
    (rw c.in-Err.is at c.in_ok-read.ensures)

pub returns : goal.returns
returns c =
    let m = c.in-Ok.read.compiled in
    let held = rw c.in-Ok.is at c.in_ok-read.ensures in
    let same : c.in_ok-text.text.items ≡ lines_in c.args.form m c.in-Ok.read.runs.items = search rules in
    record { output = converted m c.in-Ok.read.runs.items held same refl; refusing = λ e. absurd (cc) }
