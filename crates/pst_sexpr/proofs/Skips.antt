-- Bytes that a word or a text takes at once.
use Rattle.std.proofs.Common.{◌≡◌, ℕ, zero, suc, ◌+◌, ◌<◌, ◌≤◌, true, refl, sym, ap, ◌∙◌, subst, arith, Ok, Err, List, [], ◌∷◌, ◌++◌, length, get_or, take, drop, append_assoc}
use Rattle.std.proofs.lemmas.Bool.Decides.{nat_tests}
use Rattle.std.proofs.lemmas.List.{append-nil, take-append-drop, drop-drop, drop_at, drop_more, length-drop, length-append}
use Rattle.std.specs.Str.{IsAscii}
use Rattle.pst_sexpr.specs.declared.form.Form.{Form}
use Rattle.pst_sexpr.specs.declared.reader.SexprFault.{SexprFault}
use Rattle.pst_sexpr.specs.declared.levels.Level.{Level}
use Rattle.pst_sexpr.specs.declared.scan.Mode.{Mode}
use Rattle.pst_sexpr.specs.declared.scan.Mode.TheVariants.{Plain, Quoted, Escaped, Comment}
use Rattle.pst_sexpr.specs.declared.scan.Scanner.{Scanner}
use Rattle.pst_sexpr.specs.Bytes.{is_word_byte, is_text_byte}
use Rattle.pst_sexpr.specs.Grammar.{IsWordBytes}
use Rattle.pst_sexpr.specs.Scan.{step, run, scanner, and_then, with_part}
use Rattle.pst_sexpr.specs.Spans.{ArePlain, IsSpan, IsSpanOf}
use Rattle.pst_sexpr.proofs.Complete.{step_word, step_itself}

-- ---- their classes

pub nil_is_span : (bytes : List ℕ) → IsSpanOf bytes []
nil_is_span bytes = (bytes, refl)

pub front_is_span : (bytes : List ℕ) (n : ℕ) → IsSpanOf bytes (take n bytes)
front_is_span bytes n = (drop n bytes, sym (take-append-drop n bytes))

pub word_more : (bytes : List ℕ) (n : ℕ) → n < length bytes → IsWordBytes (take n bytes) → is_word_byte (get_or bytes n 0) ≡ true → IsWordBytes (take (suc n) bytes)
word_more [] n l h e = absurd (omega arith)
word_more (b ∷ bytes) zero l h e = (e, tt)
word_more (b ∷ bytes) (suc n) l h e = let m : n < length bytes = omega arith in (h.0, word_more bytes n m h.1 e)

pub plain_more : (bytes : List ℕ) (n : ℕ) → n < length bytes → ArePlain (take n bytes) → is_text_byte (get_or bytes n 0) ≡ true → ArePlain (take (suc n) bytes)
plain_more [] n l h e = absurd (omega arith)
plain_more (b ∷ bytes) zero l h e = (e, tt)
plain_more (b ∷ bytes) (suc n) l h e = let m : n < length bytes = omega arith in (h.0, plain_more bytes n m h.1 e)

pub word_next : (bytes : List ℕ) (n : ℕ) → n < length bytes → IsWordBytes (take n bytes) → is_word_byte (get_or bytes n 0) ≡ true → IsWordBytes (take (n + 1) bytes)
word_next bytes n l h e = let m : suc n ≡ n + 1 = omega arith in subst (λ k. IsWordBytes (take k bytes)) m (word_more bytes n l h e)

pub plain_next : (bytes : List ℕ) (n : ℕ) → n < length bytes → ArePlain (take n bytes) → is_text_byte (get_or bytes n 0) ≡ true → ArePlain (take (n + 1) bytes)
plain_next bytes n l h e = let m : suc n ≡ n + 1 = omega arith in subst (λ k. ArePlain (take k bytes)) m (plain_more bytes n l h e)

word_byte_ascii : (b : ℕ) → is_word_byte b ≡ true → b < 128
unfolding is_word_byte
word_byte_ascii b h = grind (arith, nat_tests)

text_byte_ascii : (b : ℕ) → is_text_byte b ≡ true → b < 128
unfolding is_text_byte
text_byte_ascii b h = grind (arith, nat_tests)

word_ascii : (w : List ℕ) → IsWordBytes w → IsAscii w
word_ascii [] h i = omega arith
word_ascii (b ∷ w) h zero = word_byte_ascii b h.0
word_ascii (b ∷ w) h (suc i) = word_ascii w h.1 i

plain_ascii : (w : List ℕ) → ArePlain w → IsAscii w
plain_ascii [] h i = omega arith
plain_ascii (b ∷ w) h zero = text_byte_ascii b h.0
plain_ascii (b ∷ w) h (suc i) = plain_ascii w h.1 i

pub span_ascii : (mode : Mode) (w : List ℕ) → IsSpan mode w → IsAscii w
span_ascii Plain w h = word_ascii w h
span_ascii Quoted w h = plain_ascii w h
span_ascii Escaped w h = word_ascii w (subst IsWordBytes (sym h) tt)
span_ascii Comment w h = word_ascii w (subst IsWordBytes (sym h) tt)

-- ---- what a scan does with them

module _ (limit : ℕ) where
  abbrev Skips : Mode → List ℕ → Type 0
  Skips mode w =
      (rest : List ℕ) (at q : ℕ) (part : List ℕ) (done : List Form) (nodes : List Level) →
      run limit (scanner mode q part done nodes) at (w ++ rest) ≡ run limit (scanner mode q (part ++ w) done nodes) (at + length w) rest

  skips_nothing : (mode : Mode) → Skips mode []
  skips_nothing mode rest at q part done nodes =
      let n : at ≡ at + 0 = omega arith in
      ap (λ p. run limit (scanner mode q p done nodes) at rest) (sym (append-nil part)) ∙ ap (λ m. run limit (scanner mode q (part ++ []) done nodes) m rest) n

  skips_more : (mode : Mode) (b : ℕ) (w : List ℕ) →
      ((at q : ℕ) (part : List ℕ) (done : List Form) (nodes : List Level) → step limit (scanner mode q part done nodes) at b ≡ Ok (scanner mode q (part ++ b ∷ []) done nodes)) →
      Skips mode w → Skips mode (b ∷ w)
  skips_more mode b w one more rest at q part done nodes =
      let n : suc at + length w ≡ at + suc (length w) = omega arith in
      ap (λ r. and_then r (λ u. run limit u (suc at) (w ++ rest))) (one at q part done nodes)
      ∙ more rest (suc at) q (part ++ b ∷ []) done nodes
      ∙ ap (λ p. run limit (scanner mode q p done nodes) (suc at + length w) rest) (append_assoc part (b ∷ []) w)
      ∙ ap (λ m. run limit (scanner mode q (part ++ b ∷ w) done nodes) m rest) n

  skips_word : (w : List ℕ) → IsWordBytes w → Skips Plain w
  skips_word [] h = skips_nothing Plain
  skips_word (b ∷ w) h = skips_more Plain b w (λ at q part done nodes. step_word limit at b q part done nodes h.0) (skips_word w h.1)

  skips_plain : (w : List ℕ) → ArePlain w → Skips Quoted w
  skips_plain [] h = skips_nothing Quoted
  skips_plain (b ∷ w) h = skips_more Quoted b w (λ at q part done nodes. step_itself limit at b q part done nodes h.0) (skips_plain w h.1)

  skips : (mode : Mode) (w : List ℕ) → IsSpan mode w → Skips mode w
  skips Plain w h = skips_word w h
  skips Quoted w h = skips_plain w h
  skips Escaped w h = subst (Skips Escaped) (sym h) (skips_nothing Escaped)
  skips Comment w h = subst (Skips Comment) (sym h) (skips_nothing Comment)

  -- behind a span
  pub spanned : (s t : Scanner) (bytes : List ℕ) (place : ℕ) (span : List ℕ) → IsSpan s.mode span → IsSpanOf (drop place bytes) span →
      t ≡ with_part (s.part ++ span) s → run limit s place (drop place bytes) ≡ run limit t (place + length span) (drop (place + length span) bytes)
  spanned s t bytes place span h front e =
      let rest = front.0 in
      let left : drop (place + length span) bytes ≡ rest = sym (drop-drop (length span) place bytes) ∙ ap (drop (length span)) front.1 ∙ drop_at span rest (length span) refl in
      ap (run limit s place) front.1
      ∙ skips s.mode span h rest place s.quote s.part s.done s.nodes
      ∙ ap (λ u. run limit u (place + length span) rest) (sym e)
      ∙ ap (run limit t (place + length span)) (sym left)

  -- behind a byte
  pub stepped : (s t : Scanner) (bytes : List ℕ) (place : ℕ) → place < length bytes → step limit s place (get_or bytes place 0) ≡ Ok t →
      run limit s place (drop place bytes) ≡ run limit t (place + 1) (drop (place + 1) bytes)
  stepped s t bytes place l e =
      let n : suc place ≡ place + 1 = omega arith in
      ap (run limit s place) (drop_more bytes place 0 l)
      ∙ ap (λ r. and_then r (λ u. run limit u (suc place) (drop (place + 1) bytes))) e
      ∙ ap (λ m. run limit t m (drop (place + 1) bytes)) n

  -- at a byte that is at fault
  pub failed : (s : Scanner) (f : SexprFault) (bytes : List ℕ) (place : ℕ) → place < length bytes → step limit s place (get_or bytes place 0) ≡ Err f →
      run limit s place (drop place bytes) ≡ Err f
  failed s f bytes place l e =
      ap (run limit s place) (drop_more bytes place 0 l) ∙ ap (λ r. and_then r (λ u. run limit u (suc place) (drop (place + 1) bytes))) e

-- a span ends within the bytes
pub span_within : (bytes : List ℕ) (place : ℕ) (span : List ℕ) → place < length bytes → IsSpanOf (drop place bytes) span → place + length span ≤ length bytes
span_within bytes place span l front =
    let e = ap length front.1 in
    omega (arith, length-drop place bytes, length-append span front.0, e)

pub ruleset reading = (spanned, stepped, failed, span_within)
