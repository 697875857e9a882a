use Rattle.std.proofs.Common.{◌∙◌, ℕ, List, ap, subst}
use Rattle.pst_input.specs.Meaning.{Means}
use Rattle.pst_input.specs.Plain.{plain_of}
use Rattle.pst_sources.specs.Files.{text_of}
use Rattle.pst_input.proofs.text.InputText.of_files.Goals as goal

pub invariant_of-result : goal.invariant_of-result
invariant_of-result c =
    let IsSo : List ℕ → Type 0 = λ bytes. Means bytes (plain_of bytes c.in_ok-plain.plain) in
    record {
      joined = c.in_ok-bytes.ensures ∙ ap text_of c.as_slice.ensures.value;
      means = subst IsSo c.as_slice-2.ensures.value c.in_ok-plain.ensures;
    }
