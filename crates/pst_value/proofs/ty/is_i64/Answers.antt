use Rattle.std.proofs.Common.{sym}
use Rattle.pst_value.proofs.Typing.{is_i64-fits}
use Rattle.pst_value.proofs.ty.is_i64.Goals as goal

pub returns : goal.returns
returns c = sym (is_i64-fits c.args.number c.ranges.number)
