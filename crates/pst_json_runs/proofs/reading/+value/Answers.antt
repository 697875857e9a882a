use Rattle.std.proofs.Common.{◌<◌, length, sym, subst, rules}
use Rattle.json.specs.Tree.{json_tokens, items_tokens, members_tokens}
use Rattle.json.specs.Value.{value_view, items_view, members_view}
use Rattle.json.proofs.Trees.{item_smaller, member_smaller}
use Rattle.pst_json_runs.proofs.reading.+value.Goals as goal

pub map_from_json_members-value_from_json-requires : goal.map_from_json_members-value_from_json-requires
map_from_json_members-value_from_json-requires t c =
    let ms = c.args.members.now in
    let m = c.loop-name-item.result in
    let smaller : length (json_tokens (value_view m.1)) < length (members_tokens (members_view ms)) =
    subst (λ y. length (json_tokens (value_view y.1)) < length (members_tokens (members_view ms))) (sym c.loop-name-item.is) (member_smaller ms c.loop-name.name-index m c.loop-name-test.true) in
    search rules

pub values_from_json-value_from_json-requires : goal.values_from_json-value_from_json-requires
values_from_json-value_from_json-requires t c =
    let ps = c.args.parts.now in
    let p = c.part-item.result in
    let smaller : length (json_tokens (value_view p)) < length (items_tokens (items_view ps)) =
    subst (λ y. length (json_tokens (value_view y)) < length (items_tokens (items_view ps))) (sym c.part-item.is) (item_smaller ps c.loop-part.part-index p c.loop-part-test.true) in
    search rules
