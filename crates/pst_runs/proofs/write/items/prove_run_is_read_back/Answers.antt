use Rattle.pst_runs.proofs.ItemAgain.{lawful_is_read}
use Rattle.pst_runs.proofs.write.items.prove_run_is_read_back.Goals as goal

pub returns : goal.returns
returns c =
    let source = c.source-model.ensures in
    lawful_is_read c.args.typed.now c.source-model.result.now c.args.run.now source.same c.case-case.ensures.shape source.well source.operations source.language c.prove_times_are_small.ensures c.requires
