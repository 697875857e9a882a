use Rattle.std.proofs.Common.{◌≡◌, ℕ, List, Bor, [], ◌++◌, ◌<◌, ◌+◌, length, get_or, drop, drop-cons, add-one, refl}
use Rattle.pst_sexpr.specs.Writing.{joined}
use Rattle.pst_sexpr.proofs.Sequence.{then_all, then_fails}
use Rattle.pst_sexpr.proofs.sink.put_each.Goals as goal

-- some slice, to read past the end
abbrev nowhere : Bor (List ℕ)
nowhere = record { ref_ptr = (0, 0); now = [] }

joined_at : (parts : List (Bor (List ℕ))) (i : ℕ) → i < length parts → joined (drop i parts) ≡ (get_or parts i nowhere).now ++ joined (drop (i + 1) parts)
joined_at parts i h = rw (add-one, drop-cons parts i nowhere) refl

pub returns-in_err-put_all : goal.returns-in_err-put_all
returns-in_err-put_all g c =
    then_fails _ c.from_residual.ensures.0 c.loop-part.invariant c.in_err-put_all.ensures (joined_at c.args.parts.now c.loop-part.part-index c.loop-part-test.true)

pub loop-part-preserved : goal.loop-part-preserved
loop-part-preserved g c =
    then_all _ c.loop-part.invariant c.in_ok-put_all.ensures (joined_at c.args.parts.now c.loop-part.part-index c.loop-part-test.true)
