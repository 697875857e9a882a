use Rattle.std.proofs.Common.{◌-◌}
use Rattle.pst_clients.proofs.clients.Clients.+receive_bursts.Given as goal

abbrev pub decreases-receive_bursts : goal.decreases-receive_bursts
decreases-receive_bursts g l = 4294967296 - l.branch
