-- Files of trees, one behind the other.
use Rattle.std.proofs.Common.{◌≡◌, ℕ, true, refl, sym, subst, List, [], ◌∷◌, ◌++◌, append_assoc, append-nil}
use Rattle.pst_sexpr.specs.declared.form.Form.{Form}
use Rattle.pst_sexpr.specs.Bytes.{is_word_byte}
use Rattle.pst_sexpr.specs.Grammar.{IsWordBytes, EndsWord, IsLine, Begins, nothing, blank, comment, last_comment, word, text, node}
use Rattle.pst_sexpr.specs.Reading.{Spells}
use Rattle.pst_sexpr.proofs.Sound.{join}
use Rattle.pst_rejudge.specs.Parts.{EndsLine}

-- the last byte, if there is one, is a line end
abbrev Ended : List ℕ → Type 0
Ended [] = Unit {0}
Ended (byte ∷ []) = byte ≡ 10
Ended (byte ∷ next ∷ bytes) = Ended (next ∷ bytes)

ends_line : (before : List ℕ) → Ended (before ++ 10 ∷ [])
ends_line [] = refl
ends_line (byte ∷ []) = refl
ends_line (byte ∷ next ∷ before) = ends_line (next ∷ before)

ended_tail : (byte : ℕ) (bytes : List ℕ) → Ended (byte ∷ bytes) → Ended bytes
ended_tail byte [] e = tt
ended_tail byte (next ∷ bytes) e = e

ended_rest : (front rest : List ℕ) → Ended (front ++ rest) → Ended rest
ended_rest [] rest e = e
ended_rest (byte ∷ front) rest e = ended_rest front rest (ended_tail byte (front ++ rest) e)

line_not_ended : (byte : ℕ) (line : List ℕ) → (byte ≡ 10 → ⊥) → IsLine line → Ended (byte ∷ line) → ⊥
line_not_ended byte [] h hs e = h e
line_not_ended byte (next ∷ line) h hs e = line_not_ended next line hs.0 hs.1 e

no_line_end : is_word_byte 10 ≡ true → ⊥
unfolding is_word_byte
no_line_end h = cc

word_not_ended : (byte : ℕ) (letters : List ℕ) → is_word_byte byte ≡ true → IsWordBytes letters → Ended (byte ∷ letters) → ⊥
word_not_ended byte [] h hs e = no_line_end (subst (λ b. is_word_byte b ≡ true) e h)
word_not_ended byte (next ∷ letters) h hs e = word_not_ended next letters hs.0 hs.1 e

-- a word that ends before the end of the bytes ends there with more bytes behind them
word_ends : (byte : ℕ) (letters bytes more : List ℕ) → is_word_byte byte ≡ true → IsWordBytes letters
    → Ended (byte ∷ letters ++ bytes) → EndsWord bytes → EndsWord (bytes ++ more)
word_ends byte letters [] more h hs e w = absurd (word_not_ended byte letters h hs (subst Ended (append-nil (byte ∷ letters)) e))
word_ends byte letters (next ∷ bytes) more h hs e w = w

ended_left : {limit depth : ℕ} {bytes left : List ℕ} {trees : List Form} → Begins limit depth bytes trees left → Ended bytes → Ended left
ended_left nothing e = e
ended_left (blank {byte} {bytes} h begun) e = ended_left begun (ended_tail byte bytes e)
ended_left (comment line {bytes} h begun) e =
    ended_left begun (ended_tail 10 bytes (ended_rest line (10 ∷ bytes) (ended_tail 59 (line ++ 10 ∷ bytes) e)))
ended_left (last_comment h) e = tt
ended_left (word {byte} {word = letters} {bytes} h hs ends begun) e = ended_left begun (ended_rest letters bytes (ended_tail byte (letters ++ bytes) e))
ended_left (text {spelled} {bytes} h begun) e =
    ended_left begun (ended_tail 34 bytes (ended_rest spelled (34 ∷ bytes) (ended_tail 34 (spelled ++ 34 ∷ bytes) e)))
ended_left (node {inside} {bytes} h within begun) e =
    ended_left begun (ended_tail 41 bytes (ended_left within (ended_tail 40 inside e)))

-- bytes that end with a line begin with the same trees with more bytes behind them
followed : (more : List ℕ) {limit depth : ℕ} {bytes left : List ℕ} {trees : List Form} → Begins limit depth bytes trees left → Ended bytes
    → Begins limit depth (bytes ++ more) trees (left ++ more)
followed more nothing e = nothing
followed more (blank {byte} {bytes} h begun) e = blank h (followed more begun (ended_tail byte bytes e))
followed more {limit} {depth} {left} {trees} (comment line {bytes} h begun) e =
    subst (λ l. Begins limit depth (59 ∷ l) trees (left ++ more)) (sym (append_assoc line (10 ∷ bytes) more))
    (comment line h (followed more begun (ended_tail 10 bytes (ended_rest line (10 ∷ bytes) (ended_tail 59 (line ++ 10 ∷ bytes) e)))))
followed more (last_comment {line} h) e = absurd (line_not_ended 59 line (λ d. cc) h e)
followed more {limit} {depth} {left} {trees} (word {byte} {word = letters} {bytes} h hs ends begun) e =
    subst (λ l. Begins limit depth (byte ∷ l) trees (left ++ more)) (sym (append_assoc letters bytes more))
    (word h hs (word_ends byte letters bytes more h hs e ends) (followed more begun (ended_rest letters bytes (ended_tail byte (letters ++ bytes) e))))
followed more {limit} {depth} {left} {trees} (text {spelled} {bytes} h begun) e =
    subst (λ l. Begins limit depth (34 ∷ l) trees (left ++ more)) (sym (append_assoc spelled (34 ∷ bytes) more))
    (text h (followed more begun (ended_tail 34 bytes (ended_rest spelled (34 ∷ bytes) (ended_tail 34 (spelled ++ 34 ∷ bytes) e)))))
followed more (node {inside} {bytes} h within begun) e =
    let inner = ended_tail 40 inside e in
    node h (followed more within inner) (followed more begun (ended_tail 41 bytes (ended_left within inner)))

-- a file that ends with a line, and another behind it, are a file of the trees of both
pub joined : {a b : List ℕ} {trees more : List Form} → EndsLine a → Spells a trees → Spells b more → Spells (a ++ b) (trees ++ more)
joined {b} h s t = join (followed b s (subst Ended (sym h.1) (ends_line h.0))) t
