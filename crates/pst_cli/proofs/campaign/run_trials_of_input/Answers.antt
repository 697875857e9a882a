use Rattle.pst_campaign.specs.Entries.{MayGive}
use Rattle.pst_cli.proofs.Campaigning.{not_begun_if_refused, refused_so}
use Rattle.pst_cli.proofs.campaign.run_trials_of_input.Goals as goal

pub returns-in-Ok-Ok-clause-refusal : goal.returns-in-Ok-Ok-clause-refusal
returns-in-Ok-Ok-clause-refusal g c =
    not_begun_if_refused c.args.form (g.K.StopCondition.may_end c.args.watch.now) (λ s. MayGive ((g.dyn-1.0.entry s.vtable).1.answers s.value)
    ((g.dyn-1.0.entry s.vtable).1.fails s.value) ((g.dyn-1.0.entry s.vtable).1.reset_fails s.value)) c.args.settings c.args.systems.items c.args.input.now
    c.in-Ok-Ok.file.typed c.in-Ok-Ok.file.trees.items (rw c.in-Ok-Ok.field-0-is at c.in-Ok-Ok.ensures) c.run_trials_of_model.result c.run_trials_of_model.ensures.refusal

pub returns-in-Ok-Err-clause-refusal : goal.returns-in-Ok-Err-clause-refusal
returns-in-Ok-Err-clause-refusal g c =
    refused_so c.args.form (g.K.StopCondition.may_end c.args.watch.now) (λ s. MayGive ((g.dyn-1.0.entry s.vtable).1.answers s.value)
    ((g.dyn-1.0.entry s.vtable).1.fails s.value) ((g.dyn-1.0.entry s.vtable).1.reset_fails s.value)) c.args.settings c.args.systems.items c.args.input.now
    c.in-Ok-Err.refusal (rw c.in-Ok-Err.field-0-is at c.in-Ok-Err.ensures) c.refused_model_answer.result c.refused_model_answer.ensures
