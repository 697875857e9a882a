use Rattle.std.proofs.Common.{sym, ap, ◌∙◌}
use Rattle.pst_syntax.specs.Faults.{first}
use Rattle.pst_syntax.proofs.FirstOfModel as syntax
use Rattle.pst_syntax_problems.proofs.UnplacedModel.{model_same}
use Rattle.pst_syntax_problems.proofs.laws.reader_refuses_first_placed_fault.Goals as goal

pub returns : goal.returns
returns c = λ trees. syntax.model_same trees ∙ ap first (sym (model_same trees))
