use Rattle.std.proofs.Common.{◌≡◌, None}
use Rattle.pst_campaign.specs.Working.{Adds}
use Rattle.pst_campaign.proofs.runner.run_trials_until_campaign_over.Given as goal

abbrev pub invariant-loop : goal.invariant-loop
invariant-loop g l = record {
  place : l.seat.table ≡ l.initial.seat.table;
  idle : l.seat.held ≡ None;
  ends : Adds (g.P.TrialRunner.may_give l.plan l.initial.system) l.initial.seat.ends l.seat.ends;
  keeps : g.P.TrialRunner.keeps l.initial.system l.system;
}
