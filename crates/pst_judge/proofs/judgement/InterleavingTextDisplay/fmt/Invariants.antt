use Rattle.std.proofs.Common.{take, map}
use Rattle.std.specs.Fmt.{HasWritten, IsPlainFormatter}
use Rattle.pst_judge.specs.Words.{letter}
use Rattle.pst_judge.proofs.judgement.InterleavingTextDisplay.fmt.Given as goal

abbrev pub invariant-loop-branch : goal.invariant-loop-branch
invariant-loop-branch g l =
    IsPlainFormatter l.initial.f → HasWritten g.W.Write.write_str_gives l.initial.f (map letter (take l.branch-index l.self.branches.now)) l.f
