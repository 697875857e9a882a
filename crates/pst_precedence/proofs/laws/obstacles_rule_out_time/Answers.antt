use Rattle.pst_precedence.proofs.Ruling.{obstacles_rule_out_time}
use Rattle.pst_precedence.proofs.laws.obstacles_rule_out_time.Goals as goal

pub returns : goal.returns
returns c = obstacles_rule_out_time
