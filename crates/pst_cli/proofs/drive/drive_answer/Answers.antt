use Rattle.std.proofs.Common.{◌≡◌, List, All, ap, ◌∙◌, rules, subst}
use Rattle.std.specs.List.{AllZip}
use Rattle.pst_case.specs.declared.history.Run.{Run}
use Rattle.pst_cli.proofs.Printing.{answers_so}
use Rattle.pst_cli.proofs.Reading.{items_are_lawful}
use Rattle.pst_cli.proofs.Reporting.{all_printable}
use Rattle.pst_cli.specs.Commands.{IsDriveAnswer}
use Rattle.pst_cli.specs.DrivenItems.{IsDrivenItem}
use Rattle.pst_cli.specs.ItemReports.{IsPrintable}
use Rattle.pst_cli.specs.RunOutput.{IsRefusedIn, driven, items_in, refused, worst_of_items}
use Rattle.pst_cli.specs.declared.answer.Status.TheVariants.{Accepted}
use Rattle.pst_cli.specs.declared.driven_item.DrivenItem.{DrivenItem}
use Rattle.pst_runs.specs.Lawful.{AreLawful}
use Rattle.pst_cli.proofs.drive.drive_answer.Goals as goal

pub drive_each_item-requires : goal.drive_each_item-requires
drive_each_item-requires g c =
    let m = c.in-Ok.read.compiled in
    let lawful : AreLawful m c.in-Ok.read.runs.items = items_are_lawful c.args.input.now m c.in-Ok.read.runs.items (rw c.in-Ok.is at c.in_ok-read.ensures) in
    search rules

pub output_of_items-requires : goal.output_of_items-requires
output_of_items-requires g c =
    let s = (g.dyn-1.0.entry c.args.system.now.vtable).1 in
    let value = c.args.system.now.value in
    let m = c.in-Ok.read.compiled in
    let all : All (λ (item : DrivenItem). IsPrintable m item.report) c.in_ok-items.items.items =
    all_printable c.args.options.order m (s.answers value) (s.fails value) (s.reset_fails value) c.args.options.repeats c.as_slice-runs.result.now c.in_ok-items.items.items c.in_ok-items.ensures.driven in
    search rules

pub returns-in-Err-clause-output : goal.returns-in-Err-clause-output
returns-in-Err-clause-output g c =
    let s = (g.dyn-1.0.entry c.args.system.now.vtable).1 in
    let value = c.args.system.now.value in
    answers_so (IsRefusedIn c.args.options.form c.args.input.now) (IsDriveAnswer c.args.options (s.answers value) (s.fails value) (s.reset_fails value) c.args.input.now)
    (λ text status h. refused h) c.in-Err.answer (rw c.in-Err.is at c.in_ok-read.ensures)

pub returns-clause-output : goal.returns-clause-output
returns-clause-output g c =
    let s = (g.dyn-1.0.entry c.args.system.now.vtable).1 in
    let value = c.args.system.now.value in
    let held = rw c.in-Ok.is at c.in_ok-read.ensures in
    let form = c.args.options.form in
    let m = c.in-Ok.read.compiled in
    let items = c.in_ok-items.items.items in
    let OfRuns : List Run → Type 0 = λ rs. AllZip (IsDrivenItem c.args.options.order m (s.answers value) (s.fails value) (s.reset_fails value) c.args.options.repeats) rs items in
    let text : c.in_ok-written.written.text.items ≡ items_in form m 1 items =
    c.in_ok-written.ensures.text ∙ (ap (λ n. items_in form n 1 c.as_slice.result.now) c.typed.ensures ∙ ap (items_in form m 1) c.as_slice.ensures.value) in
    let status : c.in_ok-written.written.status ≡ worst_of_items Accepted items = c.in_ok-written.ensures.status ∙ ap (worst_of_items Accepted) c.as_slice.ensures.value in
    record {
      output = driven m c.in-Ok.read.runs.items items held (subst OfRuns c.as_slice-runs.ensures.value c.in_ok-items.ensures.driven) text status;
      refusing = λ e. absurd (cc);
    }
