use Rattle.std.proofs.Common.{◌≡◌, ◌+◌}
use Rattle.pst_sources.specs.Files.{start_of}
use Rattle.pst_sources.proofs.input.find_file_of_place.Given as goal

abbrev pub invariant-loop-number : goal.invariant-loop-number
invariant-loop-number l = l.place ≡ start_of l.files l.number + l.rest
