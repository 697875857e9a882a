-- Where files begin in their text.
use Rattle.std.proofs.Common.{◌≡◌, ◌∙◌, ◌<◌, ◌≤◌, ◌+◌, ℕ, zero, suc, List, [], ◌∷◌, ◌++◌, length, get_or, drop, refl, sym, ap, arith, length-append}
use Rattle.pst_sources.specs.Files.{behind, text_of, start_of, length_of}
use Rattle.pst_sources.specs.declared.input.SourceFile.{SourceFile}

-- behind some bytes and one more
skip : (bytes : List ℕ) (more byte : ℕ) (text : List ℕ)
    → drop ((length bytes + 1) + more) (bytes ++ (byte ∷ text)) ≡ drop more text
skip [] more byte text =
    let e : (0 + 1) + more ≡ suc more = omega arith in
    rw e refl
skip (b ∷ bytes) more byte text =
    let e : (suc (length bytes) + 1) + more ≡ suc ((length bytes + 1) + more) = omega arith in
    rw e (skip bytes more byte text)

pub begins : (files : List SourceFile) (number : ℕ) → number < length files
    → drop (start_of files number) (text_of files) ≡ text_of (drop number files)
begins [] number h = absurd (omega arith)
begins (file ∷ files) zero h = refl
begins (file ∷ []) (suc number) h = absurd (omega arith)
begins (file ∷ next ∷ files) (suc number) h =
    skip file.bytes.items (start_of (next ∷ files) number) 10 (text_of (next ∷ files))
    ∙ begins (next ∷ files) number (omega arith)

-- how many bytes the file at an index has
pub length_at : (files : List SourceFile) (number : ℕ) (file : SourceFile) → number < length files
    → file ≡ get_or files number file → length_of files number ≡ length file.bytes.items
length_at [] number file h is = absurd (omega arith)
length_at (first ∷ files) zero file h is = ap (λ (f : SourceFile). length f.bytes.items) (sym is)
length_at (first ∷ files) (suc number) file h is = length_at files number file (omega arith) is

start_first : (files : List SourceFile) → start_of files 0 ≡ 0
start_first [] = refl
start_first (file ∷ files) = refl

-- the next file begins behind a file and its line end
pub start_next : (files : List SourceFile) (number : ℕ) → number < length files
    → start_of files (number + 1) ≡ (start_of files number + length_of files number) + 1
start_next [] number h = absurd (omega arith)
start_next (file ∷ files) zero h =
    let e : start_of files 0 ≡ 0 = start_first files in
    omega (arith, e)
start_next (file ∷ files) (suc number) h =
    let i : number < length files = omega arith in
    let e = start_next files number i in
    let s : suc number + 1 ≡ suc (number + 1) = omega arith in
    rw s (omega (arith, e))

-- no byte of the text stands behind all files
pub text_within : (files : List SourceFile) (number : ℕ) → length files ≤ number
    → length (text_of files) ≤ start_of files number
text_within [] number h = omega arith
text_within (file ∷ files) zero h = absurd (omega arith)
text_within (file ∷ []) (suc number) h =
    let e = length-append file.bytes.items [] in
    omega (arith, e)
text_within (file ∷ next ∷ files) (suc number) h =
    let e = length-append file.bytes.items (behind (next ∷ files)) in
    let f = text_within (next ∷ files) number (omega arith) in
    omega (arith, e, f)

pub ruleset starting = (length_at, start_next, text_within)
