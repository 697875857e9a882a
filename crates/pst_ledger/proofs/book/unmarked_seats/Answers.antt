use Rattle.std.proofs.Common.{arith, ◌∷◌, ◌++◌, [], length, ap, ◌∙◌}
use Rattle.std.proofs.lemmas.List.{length-replicate}
use Rattle.pst_ledger.proofs.Opening.{replicate-more}
use Rattle.std.proofs.Common.{false}
use Rattle.pst_ledger.proofs.book.unmarked_seats.Goals as goal

pub push_reserved-requires : goal.push_reserved-requires
push_reserved-requires c =
    let n = ap length c.loop.invariant.pushed ∙ length-replicate c.loop.counter false in
    let room = c.loop.invariant.room in
    omega (arith, n, room, c.loop.marks.ok.0, c.loop-test.true)

pub loop-preserved : goal.loop-preserved
loop-preserved c = record {
  pushed = c.push_reserved.ensures.items ∙ (ap (λ l. l ++ false ∷ []) c.loop.invariant.pushed ∙ replicate-more c.loop.counter false);
  room = c.push_reserved.ensures.capacity ∙ c.loop.invariant.room;
}
