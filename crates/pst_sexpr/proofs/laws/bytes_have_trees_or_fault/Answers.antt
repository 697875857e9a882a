use Rattle.pst_sexpr.proofs.Answer.{either_way}
use Rattle.pst_sexpr.specs.Scan.{outcome, start}
use Rattle.std.proofs.Common.{refl}
use Rattle.pst_sexpr.proofs.laws.bytes_have_trees_or_fault.Goals as goal

pub returns : goal.returns
returns c bytes n = either_way bytes n (outcome 100 start 0 bytes) refl
