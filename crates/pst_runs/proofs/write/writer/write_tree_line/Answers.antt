use Rattle.pst_runs.proofs.write.writer.write_tree_line.Goals as goal
use Rattle.pst_sexpr.proofs.Sequence.{one_then_two}

pub returns : goal.returns
returns g c = one_then_two c.in_ok-write.ensures.written c.put_all.ensures
