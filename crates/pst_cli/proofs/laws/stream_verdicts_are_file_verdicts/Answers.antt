use Rattle.std.proofs.Common.{refl}
use Rattle.pst_cli.specs.KeepingOn.{answered}
use Rattle.pst_typing.specs.Loading.{items_of}
use Rattle.pst_rejudge.specs.Lines.{lines_of}
use Rattle.pst_cli.proofs.laws.stream_verdicts_are_file_verdicts.Goals as goal

pub returns : goal.returns
returns c = λ order input bytes m trees answers holds spelled answers_are.
    answered m trees answers holds (c.stream_lines_are_judged_as_items.ensures order m (lines_of bytes) (items_of trees) answers spelled answers_are) refl refl
