use Rattle.std.proofs.Common.{◌≡◌, ◌<◌, ◌^◌, drop}
use Rattle.pst_sexpr.specs.Integers.{magnitude}
use Rattle.pst_sexpr.proofs.integer.magnitude_of.Given as goal

abbrev pub invariant-loop-digit : goal.invariant-loop-digit
invariant-loop-digit l = record {
  same : magnitude 0 l.digits ≡ magnitude l.number (drop l.digit-index l.digits);
  fits : l.number < 2 ^ 64;
}
