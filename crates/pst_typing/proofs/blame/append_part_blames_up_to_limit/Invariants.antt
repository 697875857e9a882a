use Rattle.std.proofs.Common.{◌≡◌, ◌++◌, map}
use Rattle.pst_typing.specs.Gathering.{inside}
use Rattle.pst_typing.proofs.blame.append_part_blames_up_to_limit.Given as goal

abbrev pub invariant-loop-blame : goal.invariant-loop-blame
invariant-loop-blame l = l.all ≡ l.fn.blames ++ map (inside l.number) l.yielded
