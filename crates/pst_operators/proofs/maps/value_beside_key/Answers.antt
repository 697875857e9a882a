use Rattle.std.proofs.Common.{◌<◌, length, arith, sym, ◌∙◌}
use Rattle.pst_operators.proofs.Places.{beside_at}
use Rattle.pst_operators.proofs.maps.value_beside_key.Goals as goal

pub returns-then-at-keys : goal.returns-then-at-keys
returns-then-at-keys c =
    let there : c.index_of_key_or_len-at.result < length c.args.keys.now = omega arith in
    c.value_at.ensures ∙ sym (beside_at c.args.key.now c.args.keys.now c.args.values.now c.index_of_key_or_len-at.result c.index_of_key_or_len-at.ensures there)
