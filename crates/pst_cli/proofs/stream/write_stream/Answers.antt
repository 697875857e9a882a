use Rattle.std.proofs.Common.{inl, inr, refl}
use Rattle.pst_cli.proofs.Streamed.{whole_prints, unread_prints, no_memory_prints, unwritten_prints}
use Rattle.pst_cli.proofs.stream.write_stream.Goals as goal

pub returns-in-Ok : goal.returns-in-Ok
returns-in-Ok g c = λ input bytes trees holds known.
    whole_prints _ c.args.judge.now.order input bytes _ trees holds _ _ known c.in-Ok.ensures

pub returns-in-Err-Unread : goal.returns-in-Err-Unread
returns-in-Err-Unread g c = λ input bytes trees holds known.
    let w = rw c.in-Err-Unread.field-0-is at c.in-Err-Unread.ensures in
    unread_prints _ c.args.judge.now.order input bytes _ trees holds _ _ known _ _ (inl (w.may_cut, refl, refl)) w c.send_text.ensures

pub returns-in-Err-NoMemory : goal.returns-in-Err-NoMemory
returns-in-Err-NoMemory g c = λ input bytes trees holds known.
    no_memory_prints _ c.args.judge.now.order input bytes _ trees holds _ _ known _ _ (inr (refl, refl)) (rw c.in-Err-NoMemory.field-0-is at c.in-Err-NoMemory.ensures) c.send_text-in-Err-NoMemory.ensures

pub returns-in-Err-Unwritten : goal.returns-in-Err-Unwritten
returns-in-Err-Unwritten g c = λ input bytes trees holds known.
    unwritten_prints _ c.args.judge.now.order input bytes _ trees holds _ _ known (rw c.in-Err-Unwritten.field-0-is at c.in-Err-Unwritten.ensures)
