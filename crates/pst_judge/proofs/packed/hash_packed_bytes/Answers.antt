use Rattle.std.proofs.Common.{ap, ◌∙◌}
use Rattle.std.proofs.lemmas.List.{take_rest}
use Rattle.std.specs.Hash.{le_bytes}
use Rattle.pst_judge.proofs.Feeding.{feed-more}
use Rattle.pst_judge.proofs.packed.hash_packed_bytes.Goals as goal

pub loop-rest-preserved : goal.loop-rest-preserved
loop-rest-preserved g c =
    c.loop-rest.invariant
    ∙ feed-more g.H.Hasher.write c.loop-rest.state c.write_u64.new.self c.loop-rest.rest.now _ c.in-len8-up.len_at_least (take_rest c.loop-rest.rest.now 8)
    (c.write_u64.ensures ∙ ap (λ n. g.H.Hasher.write c.loop-rest.state (le_bytes 8 n)) c.from_le_bytes.ensures)
