use Rattle.std.specs.Arc.{arc_value}
use Rattle.pst_campaign.proofs.crews.run_trials_on_system_with_crew.Given as goal

-- the relations of the system, and the model of the plan
abbrev pub ghosts-run_trials_with_new_crew : goal.ghosts-run_trials_with_new_crew
ghosts-run_trials_with_new_crew g a = record {
  model = (arc_value a.plan.now).model;
  answering = g.S.Subject.may_answer a.system;
  failing = g.S.Subject.may_fail a.system;
  resetting = g.S.Subject.may_refuse_reset a.system;
}
