use Rattle.std.proofs.Common.{refl, sym, ◌∙◌}
use Rattle.pst_cli.specs.Smaller.{before, fewer}
use Rattle.pst_cli.proofs.smallest.smaller_failure.Goals as goal

pub returns-then-is_less : goal.returns-then-is_less
returns-then-is_less c = fewer c.in-Some.smallest c.in-Some.is (sym c.is_less.ensures ∙ c.if-is_less.true) refl

pub returns-else-is_less : goal.returns-else-is_less
returns-else-is_less c = before c.in-Some.smallest c.in-Some.is (sym c.is_less.ensures ∙ c.if-is_less.false) refl
