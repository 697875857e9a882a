use Rattle.std.proofs.Common.{refl}
use Rattle.pst_cli.proofs.Printing.{refuses_so}
use Rattle.pst_cli.proofs.Reporting.{if_ok_then}
use Rattle.pst_cli.specs.Answers.{Answers, IsRefusalBy}
use Rattle.pst_cli.specs.JsonOutput.{IsModelObject, accepted, refused, refusal_object}
use Rattle.pst_cli.specs.declared.answer.Status.TheVariants.{Refused}
use Rattle.pst_cli.proofs.objects.model_object_answer.Goals as goal

pub returns-in_ok-accepted_model_json_object-in-Ok : goal.returns-in_ok-accepted_model_json_object-in-Ok
returns-in_ok-accepted_model_json_object-in-Ok c = record {
  output = accepted c.in-Ok.file.typed c.in-Ok.file.trees.items (rw c.in-Ok.is at c.in_ok-file.ensures) c.in_ok-accepted_model_json_object-in-Ok.ensures refl;
  refusing = λ e. absurd (cc);
}

pub returns-in-Err : goal.returns-in-Err
returns-in-Err c =
    let line = refusal_object c.in-Err.refusal in
    if_ok_then (IsRefusalBy line Refused) (Answers (IsModelObject c.args.input.now))
    (λ a is. refuses_so (IsModelObject c.args.input.now) line a is (refused c.in-Err.refusal (rw c.in-Err.is at c.in_ok-file.ensures)))
    c.refusal_object_answer.result c.refusal_object_answer.ensures
