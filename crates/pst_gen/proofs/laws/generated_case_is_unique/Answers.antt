use Rattle.pst_gen.proofs.Once.{generated-once}
use Rattle.pst_gen.proofs.laws.generated_case_is_unique.Goals as goal

pub returns : goal.returns
returns c = generated-once
