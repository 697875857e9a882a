use Rattle.pst_model.specs.Rules.{Has}
use Rattle.pst_typing.proofs.Complete.{complete}
use Rattle.pst_typing.proofs.Sound.{found_right}
use Rattle.pst_typing.proofs.laws.inferred_type_agrees_with_rules.Goals as goal

pub returns : goal.returns
returns c = record {
  found = λ items earlier post G e T h. found_right items earlier post e G T h;
  typed = λ items earlier post G e T h. complete items earlier post (Has G e T) h;
}
