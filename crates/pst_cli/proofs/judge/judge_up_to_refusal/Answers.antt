use Rattle.std.proofs.Common.{ap, ◌∙◌}
use Rattle.pst_cli.proofs.JudgedRuns.{lawful_parts}
use Rattle.pst_cli.proofs.Printing.{answers_so}
use Rattle.pst_cli.specs.Output.{IsFirstRefusal, IsShownOutput, judged, refused, shown_lines, status_of}
use Rattle.pst_cli.proofs.judge.judge_up_to_refusal.Goals as goal

pub returns-in-Err-clause-output : goal.returns-in-Err-clause-output
returns-in-Err-clause-output g c =
    answers_so (IsFirstRefusal c.args.input.now) (IsShownOutput c.args.order c.args.shown c.args.input.now) (λ text status h. refused h) c.in-Err.answer
    (rw c.in-Err.is at c.in_ok-file.ensures)

pub returns-clause-output : goal.returns-clause-output
returns-clause-output g c =
    let file = c.in-Ok.file in
    let read = rw c.in-Ok.is at c.in_ok-file.ensures in
    record {
      output = judged file.compiled read.runs file.judged.items read.holds read.judged (
        ap (λ v. v.items) c.into_bytes.ensures.value ∙ c.in_ok-text.ensures ∙ ap (shown_lines c.args.shown) c.as_slice.ensures.value,
        c.status_of_judgements.ensures ∙ ap status_of c.as_slice-2.ensures.value,
      );
      refusing = λ e. absurd (cc);
    }

pub returns-clause-held : goal.returns-clause-held
returns-clause-held g c =
    let file = c.in-Ok.file in
    let read = rw c.in-Ok.is at c.in_ok-file.ensures in (
      record { runs = read.runs; holds = read.holds; judged = read.judged; lawful = read.lawful; are_kept = λ e. absurd (cc) },
      lawful_parts file.compiled file.runs.items read.lawful,
    )
