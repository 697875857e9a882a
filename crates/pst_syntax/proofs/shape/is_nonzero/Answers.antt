use Rattle.std.proofs.Common.{sym, ◌∙◌}
use Rattle.pst_sexpr.specs.Integers.{magnitude}
use Rattle.pst_sexpr.proofs.Growing.{wide_is_positive, narrow_is_positive}
use Rattle.pst_syntax.proofs.shape.is_nonzero.Goals as goal

pub returns-in-Some : goal.returns-in-Some
returns-in-Some c =
    narrow_is_positive (magnitude 0 c.args.digits.now) c.in-Some.number (sym c.magnitude_of.ensures ∙ c.in-Some.is)

pub returns-in-None : goal.returns-in-None
returns-in-None c = sym (wide_is_positive (magnitude 0 c.args.digits.now) (sym c.magnitude_of.ensures ∙ c.in-None.is))
