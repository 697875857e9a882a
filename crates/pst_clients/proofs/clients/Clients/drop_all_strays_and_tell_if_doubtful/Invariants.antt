use Rattle.std.proofs.Common.{IsTrue}
use Rattle.pst_clients.specs.Losing.{IsExtra}
use Rattle.pst_clients.proofs.clients.Clients.drop_all_strays_and_tell_if_doubtful.Given as goal

abbrev pub invariant-loop : goal.invariant-loop
invariant-loop g l = IsTrue l.is_astray → ∥ IsExtra g.I.LineSource.may_give g.I.LineSource.may_run_ahead ∥₁
