-- The text of an input that stands in several files, and places in it.
use Rattle.std.specs.Prelude.{◌≡◌, ℕ, zero, suc, ◌+◌, ◌<◌, ◌≤◌, List, [], ◌∷◌, ◌++◌, length, drop}
use Rattle.pst_sources.specs.declared.input.FilePlace.{FilePlace}
use Rattle.pst_sources.specs.declared.input.SourceFile.{SourceFile}

-- files one behind another, with a line end before each
abbrev pub behind : List SourceFile → List ℕ
behind [] = []
behind (file ∷ files) = 10 ∷ (file.bytes.items ++ behind files)

-- files one behind another, with a line end between two
abbrev pub text_of : List SourceFile → List ℕ
text_of [] = []
text_of (file ∷ files) = file.bytes.items ++ behind files

-- the place in the text where the file of a number begins: behind those before it, each with its line end
abbrev pub start_of : List SourceFile → ℕ → ℕ
start_of [] number = 0
start_of (file ∷ files) zero = 0
start_of (file ∷ files) (suc number) = (length file.bytes.items + 1) + start_of files number

-- how many bytes the file of a number has
abbrev pub length_of : List SourceFile → ℕ → ℕ
length_of [] number = 0
length_of (file ∷ files) zero = length file.bytes.items
length_of (file ∷ files) (suc number) = length_of files number

-- a place of the text is a place of this file, or its end
pub record IsPlaceIn (files : List SourceFile) (at : ℕ) (found : FilePlace) : Type 0 where
  pub has_file : found.file < length files
  pub is_there : at ≡ start_of files found.file + found.place
  pub is_within : found.place ≤ length_of files found.file

-- where a file begins in the text, it and those behind it stand
abbrev pub EachStarts : Type 0
EachStarts =
    (files : List SourceFile) (number : ℕ) → number < length files
    → drop (start_of files number) (text_of files) ≡ text_of (drop number files)
