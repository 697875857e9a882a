use Rattle.std.proofs.Common.{◌≡◌, ◌+◌, drop}
use Rattle.pst_json_runs.specs.Reading.{place_of}
use Rattle.pst_json_runs.proofs.reading.sorted_place_of_map_key.Given as goal

abbrev pub invariant-loop-other : goal.invariant-loop-other
invariant-loop-other l = (place_of l.key l.keys ≡ l.place + place_of l.key (drop l.other-index l.keys)) × (l.place ≡ l.other-index)
