use Rattle.std.proofs.Common.{◌≡◌, ◌∙◌, suc, map, sym, ap, arith, rules}
use Rattle.pst_rejudge.proofs.Answering.{all_whole, ended_before}
use Rattle.pst_rejudge.proofs.stream_reading.read_once_and_judge_ended_lines.Goals as goal
use Rattle.pst_sexpr.specs.Reading.{max_bytes}

pub returns-then-count-eq0-clause-block : goal.returns-then-count-eq0-clause-block
returns-then-count-eq0-clause-block g c = λ line kept.
    record {
      rest = ended_before _ _ _ _ c.if-count-eq0.true c.in_ok-count.ensures.read (c.in_ok-count.ensures.end c.if-count-eq0.true c.requires.room);
      answered = all_whole _ _ c.in_ok-lines.lines.items _ _ (c.in_ok-lines.ensures (suc max_bytes) line (omega arith) kept)
          (rw c.as_slice.ensures.value at c.in_ok-answers.ensures);
    }

pub returns-clause-block : goal.returns-clause-block
returns-clause-block g c = λ line kept.
    record {
      bytes = _;
      read = c.in_ok-count.ensures.read;
      kept_line = c.in_ok-split_bytes_into_lines.ensures.kept line kept;
      answered = all_whole _ _ c.split_bytes_into_lines.new.lines.items _ _ (rw c.new-lines.ensures.items at c.in_ok-split_bytes_into_lines.ensures.lines line kept)
          (rw c.as_slice-2.ensures.value at c.in_ok-answers-2.ensures);
    }
