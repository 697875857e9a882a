use Rattle.std.proofs.Common.{vec_len}
use Rattle.pst_campaign.proofs.threads.+run_workers_in_scope_or_here.Given as goal

abbrev pub decreases-run_workers_in_scope_or_here : goal.decreases-run_workers_in_scope_or_here
decreases-run_workers_in_scope_or_here g l = vec_len l.seats
