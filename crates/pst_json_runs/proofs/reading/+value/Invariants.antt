use Rattle.std.proofs.Common.{◌≡◌, ◌++◌, drop, length, option_map, option_copied}
use Rattle.json.specs.Tree.{json_tokens, items_tokens, members_tokens}
use Rattle.json.specs.Value.{value_view, items_view, members_view}
use Rattle.pst_json_runs.specs.Reading.{values_in, map_in}
use Rattle.pst_json_runs.proofs.reading.+value.Given as goal

abbrev pub decreases-value_from_json : goal.decreases-value_from_json
decreases-value_from_json l = length (json_tokens (value_view l.json.now))

abbrev pub decreases-values_from_json : goal.decreases-values_from_json
decreases-values_from_json l = length (items_tokens (items_view l.parts.now))

abbrev pub decreases-map_from_json_members : goal.decreases-map_from_json_members
decreases-map_from_json_members l = length (members_tokens (members_view l.members.now))

abbrev pub invariant-values_from_json-loop-part : goal.invariant-values_from_json-loop-part
invariant-values_from_json-loop-part l =
    values_in l.initial.rest (option_copied l.ty) (items_view l.parts)
    ≡ option_map (λ more. l.values ++ more) (values_in l.rest (option_copied l.ty) (items_view (drop l.part-index l.parts)))

abbrev pub invariant-map_from_json_members-loop-name : goal.invariant-map_from_json_members-loop-name
invariant-map_from_json_members-loop-name l =
    map_in l.kind (option_copied l.ty) l.initial.keys l.initial.values (members_view l.members)
    ≡ map_in l.kind (option_copied l.ty) l.keys l.values (members_view (drop l.name-index l.members))
