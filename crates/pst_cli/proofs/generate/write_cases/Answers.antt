use Rattle.std.proofs.Common.{◌≡◌, ◌+◌, ◌-◌, arith}
use Rattle.pst_cli.proofs.Generated.{whole_prints, unread_prints, no_memory_prints, unwritten_prints}
use Rattle.pst_cli.proofs.generate.write_cases.Goals as goal

pub returns-in-Ok : goal.returns-in-Ok
returns-in-Ok g c = λ input trees holds.
    let all : (c.args.first + c.args.count) - c.args.first ≡ c.args.count = omega arith in
    whole_prints c.args.form input c.args.plan.now.settings c.args.first c.args.count _ trees holds _ (rw all at c.in-Ok.ensures)

pub returns-in-Err-Unread : goal.returns-in-Err-Unread
returns-in-Err-Unread g c = λ input trees holds.
    let all : (c.args.first + c.args.count) - c.args.first ≡ c.args.count = omega arith in
    unread_prints c.args.form input c.args.plan.now.settings c.args.first c.args.count _ trees holds _
    (rw (all, c.in-Err-Unread.field-0-is) at c.in-Err-Unread.ensures)
    (rw (c.memory_text-memory.ensures, c.form_beside.ensures) at c.send_text.ensures)

pub returns-in-Err-NoMemory : goal.returns-in-Err-NoMemory
returns-in-Err-NoMemory g c = λ input trees holds.
    let all : (c.args.first + c.args.count) - c.args.first ≡ c.args.count = omega arith in
    no_memory_prints c.args.form input c.args.plan.now.settings c.args.first c.args.count _ trees holds _
    (rw (all, c.in-Err-NoMemory.field-0-is) at c.in-Err-NoMemory.ensures)
    (rw (c.memory_text-memory.ensures, c.form_beside.ensures) at c.send_text-in-Err-NoMemory.ensures)

pub returns-in-Err-Unwritten : goal.returns-in-Err-Unwritten
returns-in-Err-Unwritten g c = λ input trees holds.
    let all : (c.args.first + c.args.count) - c.args.first ≡ c.args.count = omega arith in
    unwritten_prints c.args.form input c.args.plan.now.settings c.args.first c.args.count _ trees holds _
    (rw (all, c.in-Err-Unwritten.field-0-is) at c.in-Err-Unwritten.ensures)
