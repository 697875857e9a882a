-- What the functions say that find the meaning of an input.
use Rattle.std.specs.Prelude.{◌≡◌, ℕ, List, Option, Some, None}
use Rattle.std.specs.declared.alloc.Global.{Global}
use Rattle.std.specs.declared.vec.Vec.{Vec}
use Rattle.pst_input.specs.Lines.{blanked}
use Rattle.pst_input.specs.Meaning.{Means}
use Rattle.pst_json_runs.specs.Lines.{trees_text}
use Rattle.pst_model.specs.declared.model.Source.{Source}
use Rattle.pst_sexpr.specs.Reading.{IsFault}
use Rattle.pst_sexpr.specs.declared.form.Form.{Form}
use Rattle.pst_sexpr.specs.declared.reader.SexprFault.{SexprFault}
use Rattle.pst_sources.specs.Files.{text_of}
use Rattle.pst_sources.specs.declared.input.SourceFile.{SourceFile}
use Rattle.pst_typing.specs.Loading.{IsFile}

-- the plain text by the last two cases of what an input means
pub data MeansTrees (m : Source) (input plain : List ℕ) : Type 0 where
  blanks : (fault : SexprFault) → IsFault (blanked input) fault → plain ≡ blanked input → MeansTrees m input plain
  trees : (around : List Form) → IsFile (blanked input) around → plain ≡ trees_text m input → MeansTrees m input plain

-- the plain text, if it is another than the input
abbrev pub plain_of : List ℕ → Option (Vec ℕ Global) → List ℕ
plain_of input None = input
plain_of input (Some plain) = plain.items

-- the bytes are those of the files, and mean the plain text
pub record IsInput (files : List SourceFile) (bytes plain : List ℕ) : Type 0 where
  pub joined : bytes ≡ text_of files
  pub means : Means bytes plain
