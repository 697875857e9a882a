use Rattle.std.proofs.Common.{◌≡◌, length, ap, arith}
use Rattle.pst_judge.proofs.Sizes.{sizes}
use Rattle.pst_judge.proofs.unknown_calls.known_calls_of_prefix.Goals as goal

pub append_known_events-requires : goal.append_known_events-requires
append_known_events-requires c =
    let s = sizes c.args.shaped.now.model c.case.result.now c.args.shaped.now.case c.case.ensures.same c.case.ensures.shape in
    let n : length c.as_slice-commands.result.now ≡ length c.case.result.now.prefix = ap length c.as_slice-commands.ensures in
    omega arith
