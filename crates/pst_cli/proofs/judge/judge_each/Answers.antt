use Rattle.std.proofs.Common.{ap, ◌∙◌}
use Rattle.pst_cli.proofs.KeepingOn.{each_answered, each_refused}
use Rattle.pst_cli.proofs.Printing.{refuses_so}
use Rattle.pst_cli.specs.Answers.{shown_results}
use Rattle.pst_cli.specs.Commands.{each_answer}
use Rattle.pst_cli.specs.KeepingOn.{HoldsAnswers, worst_status}
use Rattle.pst_cli.specs.declared.answer.Status.TheVariants.{Accepted}
use Rattle.pst_cli.proofs.judge.judge_each.Goals as goal

pub returns-in-Err-clause-output : goal.returns-in-Err-clause-output
returns-in-Err-clause-output g c =
    let a = c.in_ok-refused_model_answer-in-Err.field-0 in
    refuses_so (each_answer c.args.order c.args.form c.args.shown c.args.input.now) _ a c.in_ok-refused_model_answer-in-Err.ensures
    (each_refused c.args.order c.args.form c.args.shown c.args.input.now c.in-Err.refusal a.text.items a.status (rw c.in-Err.is at c.in_ok-answered.ensures))

pub returns-clause-output : goal.returns-clause-output
returns-clause-output g c =
    let m = c.in-Ok.answered.file.compiled in
    let trees = c.in-Ok.answered.file.trees.items in
    let answers = c.in-Ok.answered.answers.items in
    let held : HoldsAnswers c.args.order c.args.input.now m trees answers = rw c.in-Ok.is at c.in_ok-answered.ensures in
    record {
      output = each_answered c.args.order c.args.form c.args.shown c.args.input.now m trees answers _ _ held
          (c.in_ok-shown_item_results.ensures ∙ ap (shown_results c.args.form c.args.shown) c.as_slice-answers.ensures.value)
          (c.worst_status_of_item_results.ensures ∙ ap (worst_status Accepted) c.as_slice-answers.ensures.value);
      refusing = λ e. absurd (cc);
    }
