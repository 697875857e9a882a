use Rattle.std.proofs.lemmas.Str.{IsUtf8-from_ascii}
use Rattle.pst_sexpr.proofs.scan.append_ascii.Goals as goal

pub unreachable-requires : goal.unreachable-requires
unreachable-requires c = c.in-Err.ensures.cases.0 (IsUtf8-from_ascii c.args.more.now c.requires)
