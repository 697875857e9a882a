use Rattle.std.proofs.Common.{sym, ◌∙◌}
use Rattle.pst_sexpr.proofs.Complete.{spelled_outcome}
use Rattle.pst_sexpr.proofs.Answer.{same_value}
use Rattle.pst_sexpr.proofs.laws.bytes_have_one_reading.Goals as goal

pub returns : goal.returns
returns c bytes trees others a b = same_value trees others (sym (spelled_outcome 100 bytes trees a) ∙ spelled_outcome 100 bytes others b)
