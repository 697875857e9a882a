use Rattle.pst_cli.proofs.Printing.{prints}
use Rattle.pst_cli.specs.GraphOutput.{IsGraphOutput}
use Rattle.pst_judge.specs.declared.by_order.CallOrder.TheVariants.{Any}
use Rattle.pst_cli.proofs.graph.write_search_graph_of_item.Goals as goal

pub returns : goal.returns
returns g c = prints (IsGraphOutput Any c.args.input.now c.args.item) _ _ _ _ c.graph_answer.result c.graph_answer.ensures c.send.ensures
