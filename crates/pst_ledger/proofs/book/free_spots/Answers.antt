use Rattle.std.proofs.Common.{arith, ◌∷◌, ◌++◌, [], length, ap, ◌∙◌}
use Rattle.std.proofs.lemmas.List.{length-replicate}
use Rattle.pst_ledger.proofs.Opening.{replicate-more}
use Rattle.pst_ledger.specs.declared.book.Spot.TheVariants.{Free}
use Rattle.pst_ledger.proofs.book.free_spots.Goals as goal

pub push_reserved-requires : goal.push_reserved-requires
push_reserved-requires g c =
    let n = ap length c.loop.invariant.pushed ∙ length-replicate c.loop.counter Free in
    let room = c.loop.invariant.room in
    omega (arith, n, room, c.loop.spots.ok.0, c.loop-test.true)

pub loop-preserved : goal.loop-preserved
loop-preserved g c = record {
  pushed = c.push_reserved.ensures.items ∙ (ap (λ l. l ++ Free ∷ []) c.loop.invariant.pushed ∙ replicate-more c.loop.counter Free);
  room = c.push_reserved.ensures.capacity ∙ c.loop.invariant.room;
}
