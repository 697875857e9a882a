use Rattle.std.proofs.Common.{◌≡◌, Some, ap, sym, ◌∙◌, arith}
use Rattle.std.proofs.lemmas.Option.{slice_get-get_or}
use Rattle.pst_case.proofs.Counting.{called_more}
use Rattle.pst_case.proofs.times.count_called.Goals as goal

pub loop-reply-preserved : goal.loop-reply-preserved
loop-reply-preserved c =
    let replies = c.args.replies.now in
    let i = c.loop-reply.reply-index in
    let reply = c.reply-item.result in
    let at = slice_get-get_or replies i reply c.loop-reply-test.true ∙ ap Some (sym c.reply-item.is) in
    let more = called_more replies i reply at in (
      omega (arith, more, c.loop-reply.invariant.0, c.calls_of-count.ensures.count),
      omega (arith, c.loop-reply.invariant.1, c.calls_of-count.ensures.one),
    )
