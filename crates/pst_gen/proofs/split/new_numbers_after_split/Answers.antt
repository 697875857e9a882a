use Rattle.std.proofs.Common.{◌+◌, ap}
use Rattle.std.specs.List.{range_with_len}
use Rattle.pst_gen.proofs.Ranges.{after_more}
use Rattle.pst_gen.specs.Split.{place_of}
use Rattle.pst_gen.proofs.split.new_numbers_after_split.Goals as goal

pub loop-index-preserved : goal.loop-index-preserved
loop-index-preserved c =
    after_more (λ i. 1 + c.args.prefix + place_of c.args.branches.now i) (range_with_len 1 c.args.prefix) c.loop-index.index c.loop-index.numbers.items c.push.new.self.items (1 + c.args.prefix + c.place_of_parallel_command.result)
    c.loop-index.invariant (ap (λ n. 1 + c.args.prefix + n) c.place_of_parallel_command.ensures.place) c.in_ok-push.ensures.items
