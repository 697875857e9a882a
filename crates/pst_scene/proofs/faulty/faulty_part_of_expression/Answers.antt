use Rattle.pst_eval.specs.Callbacks.{at_names}
use Rattle.pst_eval.specs.Env.{env_of}
use Rattle.pst_scene.proofs.Descending.{found_in, none_of_stuck, none_of_value}
use Rattle.pst_scene.proofs.faulty.faulty_part_of_expression.Goals as goal
use Rattle.pst_scene.proofs.faulty.faulty_part_of_expression.Goals.{in-Ok, in-Err-Fault+in_ok-descend_to_faulty_part-in-Err-Fault, in-Err-Stuck, in-Err-NoMemory}

pub returns : goal.returns
returns c =
    elim c.match-branch-2.branch [
      | in-Ok w ↦ rw w.result-is (none_of_value c.args.model.now.items (at_names c.args.model.now c.args.expr.now (env_of c.args.env.now)) _ (rw w.in-Ok.is at c.in_ok-evaluate_expression_of_model.ensures))
      | in-Err-Fault+in_ok-descend_to_faulty_part-in-Err-Fault w ↦ rw w.result-is (found_in c.args.model.now w.evaluation_context_of_model.result c.args.expr.now (env_of c.args.env.now) _ _ w.evaluation_context_of_model.ensures.items w.evaluation_context_of_model.ensures.earlier w.in_ok-descend_to_faulty_part-in-Err-Fault.ensures (rw (w.in-Err-Fault.is, w.in-Err-Fault.field-0-is) at c.in_ok-evaluate_expression_of_model.ensures))
      | in-Err-Stuck w ↦ rw w.result-is (none_of_stuck c.args.model.now.items (at_names c.args.model.now c.args.expr.now (env_of c.args.env.now)) (rw (w.in-Err-Stuck.is, w.in-Err-Stuck.field-0-is) at c.in_ok-evaluate_expression_of_model.ensures))
      | in-Err-NoMemory w ↦ rw w.result-is tt
    ]
