use Rattle.std.proofs.Common.{refl}
use Rattle.pst_input.proofs.One.{itself_alone}
use Rattle.pst_input.specs.Meaning.{trees}
use Rattle.pst_input.proofs.laws.inputs_without_json_mean_themselves.Goals as goal

pub returns : goal.returns
returns c = record { itself = λ input none. trees none refl; alone = itself_alone }
