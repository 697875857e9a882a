use Rattle.std.proofs.Common.{◌≤◌, length, arith}
use Rattle.pst_gen.proofs.Whole.{whole-accepted}
use Rattle.pst_gen.proofs.generating.+valid_case_with_most_parallel_commands.Goals as goal

pub unreachable-requires : goal.unreachable-requires
unreachable-requires g t c =
    let refused = rw c.in-None.is at c.in_ok-valid.ensures in
    let e = rw c.if-parallel-eq0.true at c.in_ok-case.ensures in
    let few : length c.args.before.now ≤ 64 = (let l = c.requires.few in omega (arith, l)) in
    let whole = whole-accepted c.args.typed.now c.args.before.now c.args.suffix.now c.requires.done.0 c.requires.done.1 few c.requires.short c.args.branches c.args.word c.requires.some c.requires.branches in
    refused (rw e whole)
