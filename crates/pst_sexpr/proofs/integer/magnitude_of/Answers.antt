use Rattle.std.proofs.Common.{◌≡◌, None, sym, ◌∙◌}
use Rattle.pst_sexpr.specs.Integers.{in_u64, magnitude}
use Rattle.pst_sexpr.proofs.Growing.{passes, ends}
use Rattle.pst_sexpr.proofs.integer.magnitude_of.Goals as goal

pub returns-in_err-number : goal.returns-in_err-number
returns-in_err-number c =
    let e : in_u64 (magnitude 0 c.args.digits.now) ≡ None =
    passes c.args.digits.now c.loop-digit.number c.loop-digit.digit-index c.loop-digit-test.true c.loop-digit.invariant.same (sym c.append_decimal_digit.ensures ∙ c.in_err-number.was) in
    cc

pub returns : goal.returns
returns c = sym (ends c.args.digits.now c.loop-digit.number c.loop-digit.digit-index c.loop-digit.invariant.fits c.loop-digit-test.false c.loop-digit.invariant.same)
