use Rattle.std.proofs.Common.{[], refl, sym, subst, rules}
use Rattle.pst_cli.proofs.Streaming.{begins, ends, goes_on, stops, stops_by, stops_in}
use Rattle.pst_cli.specs.Streaming.{IsCutShort}
use Rattle.pst_cli.specs.declared.stream.Cut.{Cut}
use Rattle.pst_cli.specs.declared.stream.Cut.TheVariants as cut
use Rattle.pst_cli.proofs.stream.judge_stream_and_write_lines.Goals as goal

pub returns-in_default : goal.returns-in_default
returns-in_default g c =
    let here = begins c.args.judge.now.order c.args.judge.now.callbacks.now (g.I.BlockSource.remaining c.args.source.now) (g.W.Sink.taken c.args.sink.now) (g.W.Sink.broken c.args.sink.now) [] _ c.requires refl refl in
    stops _ _ _ _ _ _ _ _ _ here _ cut.NoMemory here.lines tt

pub loop-turn-init : goal.loop-turn-init
loop-turn-init g c = record {
  room = search rules;
  stands = c.requires;
  come = begins c.args.judge.now.order c.args.judge.now.callbacks.now (g.I.BlockSource.remaining c.args.source.now) (g.W.Sink.taken c.args.sink.now) (g.W.Sink.broken c.args.sink.now) _ _ c.requires c.new-kept.ensures.items refl;
}

pub returns-in-Err : goal.returns-in-Err
returns-in-Err g c =
    subst (λ (why : Cut). IsCutShort c.args.judge.now.order c.args.judge.now.callbacks.now (g.I.BlockSource.remaining c.args.source.now) (g.W.Sink.taken c.args.sink.now) (g.W.Sink.taken c.loop-turn.sink) (g.W.Sink.broken c.loop-turn.sink) g.I.BlockSource.may_fail why)
    (sym c.cut_for_stream_fault.ensures) (stops_by _ _ _ _ _ _ _ _ _ c.loop-turn.invariant.come _ c.in-Err.fault c.in-Err.ensures.fault)

pub returns-in-Err-write_item_result_lines_of_block : goal.returns-in-Err-write_item_result_lines_of_block
returns-in-Err-write_item_result_lines_of_block g c =
    let come = c.loop-turn.invariant.come in
    stops_in _ _ _ _ _ _ _ _ _ come _ _ _ _ _ _ _ c.in-Err-write_item_result_lines_of_block.cut (c.in-Ok-read_once_and_judge_ended_lines.ensures.block _ come.kept_line)
    (rw c.as_slice-answers.ensures.value at c.in-Err-write_item_result_lines_of_block.ensures)

pub returns-then-block : goal.returns-then-block
returns-then-block g c =
    let come = c.loop-turn.invariant.come in
    let block = rw c.if-block.true at c.in-Ok-read_once_and_judge_ended_lines.ensures.block _ come.kept_line in
    let done = rw c.as_slice-answers.ensures.value at c.in-Ok-write_item_result_lines_of_block.ensures in
    ends _ _ _ _ _ _ _ _ _ come _ _ _ _ _ _ block done.0 done.1

pub loop-turn-preserved : goal.loop-turn-preserved
loop-turn-preserved g c =
    let come = c.loop-turn.invariant.come in
    let block = rw c.if-block.false at c.in-Ok-read_once_and_judge_ended_lines.ensures.block _ come.kept_line in
    let done = rw c.as_slice-answers.ensures.value at c.in-Ok-write_item_result_lines_of_block.ensures in
    record {
      room = search rules;
      stands = done.1.stands;
      come = goes_on _ _ _ _ _ _ _ _ _ come _ _ _ _ _ _ block done.0 done.1;
    }

pub returns : goal.returns
returns g c =
    let come = c.loop-turn.invariant.come in
    stops _ _ _ _ _ _ _ _ _ come _ cut.NoMemory come.lines tt
