use Rattle.std.proofs.Common.{◌∙◌, refl}
use Rattle.pst_cli.proofs.Printing.{refuses_so}
use Rattle.pst_cli.proofs.Reporting.{if_ok_then}
use Rattle.pst_cli.specs.Answers.{Answers, IsRefusalBy}
use Rattle.pst_cli.specs.Head.{refusal_line}
use Rattle.pst_cli.specs.ListOutput.{IsListOutput, accepted, refused}
use Rattle.pst_cli.specs.declared.answer.Status.TheVariants.{Refused}
use Rattle.pst_cli.proofs.model_commands.list_answer.Goals as goal

pub returns-in_ok-listing-in-Ok : goal.returns-in_ok-listing-in-Ok
returns-in_ok-listing-in-Ok c = record {
  output = accepted c.in-Ok.file.compiled c.in-Ok.file.trees.items (rw c.in-Ok.is at c.in_ok-file.ensures) (c.into_vec.ensures ∙ c.in_ok-listing-in-Ok.ensures) refl;
  refusing = λ e. absurd (cc);
}

pub returns-in-Err : goal.returns-in-Err
returns-in-Err c =
    let line = refusal_line c.in-Err.refusal in
    if_ok_then (IsRefusalBy line Refused) (Answers (IsListOutput c.args.input.now))
    (λ a is. refuses_so (IsListOutput c.args.input.now) line a is (refused c.in-Err.refusal (rw c.in-Err.is at c.in_ok-file.ensures)))
    c.refusal_answer.result c.refusal_answer.ensures
