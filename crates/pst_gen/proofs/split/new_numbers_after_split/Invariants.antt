use Rattle.std.proofs.Common.{◌≡◌, ◌+◌, ◌++◌, map}
use Rattle.std.specs.List.{range_with_len}
use Rattle.pst_gen.specs.Split.{place_of}
use Rattle.pst_gen.proofs.split.new_numbers_after_split.Given as goal

abbrev pub invariant-loop-index : goal.invariant-loop-index
invariant-loop-index l = l.numbers.items ≡ range_with_len 1 l.prefix ++ map (λ i. 1 + l.prefix + place_of l.branches i) (range_with_len 0 l.index)
