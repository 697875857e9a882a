use Rattle.pst_cli.proofs.Printing.{meant, reaches}
use Rattle.pst_cli.specs.Commands.{OutputOf}
use Rattle.pst_cli.specs.GraphOutput.{IsGraphOutput}
use Rattle.pst_cli.proofs.graph.draw_item.Goals as goal

pub returns : goal.returns
returns g c =
    let IsSo : OutputOf = λ plain. IsGraphOutput c.args.order plain c.args.item in
    record {
      prints = meant _ IsSo _ _ _ c.plain.ensures (reaches _ (IsSo c.plain.result.now) _ c.graph_answer-answer.result c.graph_answer-answer.ensures c.deliver.ensures);
    }
