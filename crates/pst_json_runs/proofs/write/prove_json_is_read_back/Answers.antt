use Rattle.pst_json_runs.proofs.ItemBack.{json_is_tree}
use Rattle.pst_json_runs.proofs.write.prove_json_is_read_back.Goals as goal

pub returns : goal.returns
returns c =
    let source = c.source-model.ensures in
    json_is_tree c.args.typed.now c.source-model.result.now c.args.run.now source.same c.case-case.ensures.shape source.well source.operations source.language c.prove_times_are_small.ensures c.requires
