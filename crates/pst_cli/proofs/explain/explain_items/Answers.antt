use Rattle.pst_cli.proofs.Printing.{meant, reaches}
use Rattle.pst_cli.specs.Commands.{OutputOf}
use Rattle.pst_cli.specs.ExplainOutput.{IsExplainOutput}
use Rattle.pst_cli.proofs.explain.explain_items.Goals as goal

pub returns : goal.returns
returns g c =
    let IsSo : OutputOf = λ plain. IsExplainOutput c.args.options.order plain c.args.options.chosen in
    record {
      prints =
          meant _ IsSo _ _ _ c.plain.ensures
          (reaches _ (IsSo c.plain.result.now) _ c.explain_answer-answer.result c.explain_answer-answer.ensures c.deliver.ensures);
    }
