use Rattle.std.proofs.Common.{[]}
use Rattle.pst_tests.proofs.parts.initial_call_count_turns_or_fault.Goals as goal

pub command-requires : goal.command-requires
command-requires c = ([], [], rw c.in-Ok.is at (c.in_ok-opening.ensures.fits [] []))
