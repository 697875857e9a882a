-- What the grammar spells is scanned to its trees.
use Rattle.std.proofs.Common.{◌≡◌, ℕ, suc, ◌+◌, ◌<◌, true, refl, sym, ap, ◌∙◌, arith, Ok, List, [], ◌∷◌, ◌++◌, length, append_assoc}
use Rattle.std.proofs.lemmas.Bool.{lt-ltb, ne_eqb}
use Rattle.std.proofs.lemmas.List.{append-nil}
use Rattle.pst_sexpr.specs.declared.form.Form.{Form}
use Rattle.pst_sexpr.specs.declared.form.Form.TheVariants.{Word, Text, Node}
use Rattle.pst_sexpr.specs.declared.levels.Level.{Level}
use Rattle.pst_sexpr.specs.declared.scan.Mode.TheVariants.{Plain, Quoted, Escaped, Comment}
use Rattle.pst_sexpr.specs.declared.scan.Scanner.{Scanner}
use Rattle.pst_sexpr.specs.Bytes.{is_blank, is_word_byte, is_text_byte, is_escaped_byte}
use Rattle.pst_sexpr.specs.Grammar.{IsWordBytes, EndsWord, IsLine, Escapes, none, itself, behind, Begins, nothing, blank, comment, last_comment, word, text, node}
use Rattle.pst_sexpr.specs.Scan as spec
use Rattle.pst_sexpr.specs.Scan.{step, run, finish, outcome, scanner, with_word, and_then, between, plain, quoted, escaped}
use Rattle.pst_sexpr.proofs.Classes.{blank_ends_word, text_apart}

pub outcome_step : (limit : ℕ) (s t : Scanner) (at b : ℕ) (bytes : List ℕ) → step limit s at b ≡ Ok t → outcome limit s at (b ∷ bytes) ≡ outcome limit t (suc at) bytes
outcome_step limit s t at b bytes e = ap (λ r. and_then (and_then r (λ u. run limit u (suc at) bytes)) finish) e

-- a state between trees
abbrev pub plainly : ℕ → List Form → List Level → Scanner
plainly q done nodes = scanner Plain q [] done nodes

module _ (limit : ℕ) where
  pub step_word : (at b q : ℕ) (part : List ℕ) (done : List Form) (nodes : List Level) → is_word_byte b ≡ true →
      step limit (scanner Plain q part done nodes) at b ≡ Ok (scanner Plain q (part ++ b ∷ []) done nodes)
  unfolding plain
  step_word at b q part done nodes h = rw h refl

  step_blank : (at b q : ℕ) (done : List Form) (nodes : List Level) → is_blank b ≡ true →
      step limit (plainly q done nodes) at b ≡ Ok (plainly q done nodes)
  unfolding plain between
  step_blank at b q done nodes h = let e = blank_ends_word b h in rw (e, h) refl

  pub step_open : (at q : ℕ) (part : List ℕ) (done : List Form) (nodes : List Level) → length nodes < limit →
      step limit (scanner Plain q part done nodes) at 40 ≡ Ok (plainly q [] (record { place = at; done = with_word part done } ∷ nodes))
  unfolding plain between is_word_byte is_blank
  step_open at q part done nodes h = let e = lt-ltb (length nodes) limit h in rw e refl

  pub step_close : (at q : ℕ) (part : List ℕ) (done : List Form) (level : Level) (nodes : List Level) →
      step limit (scanner Plain q part done (level ∷ nodes)) at 41 ≡ Ok (plainly q (level.done ++ Node (with_word part done) ∷ []) nodes)
  unfolding plain between is_word_byte is_blank
  step_close at q part done level nodes = refl

  pub step_quote : (at q : ℕ) (done : List Form) (nodes : List Level) →
      step limit (plainly q done nodes) at 34 ≡ Ok (scanner Quoted at [] done nodes)
  unfolding plain between is_word_byte is_blank
  step_quote at q done nodes = refl

  step_comment : (at q : ℕ) (done : List Form) (nodes : List Level) →
      step limit (plainly q done nodes) at 59 ≡ Ok (scanner Comment q [] done nodes)
  unfolding plain between is_word_byte is_blank
  step_comment at q done nodes = refl

  pub step_unquote : (at q : ℕ) (part : List ℕ) (done : List Form) (nodes : List Level) →
      step limit (scanner Quoted q part done nodes) at 34 ≡ Ok (plainly q (done ++ Text part ∷ []) nodes)
  unfolding quoted
  step_unquote at q part done nodes = refl

  pub step_itself : (at b q : ℕ) (part : List ℕ) (done : List Form) (nodes : List Level) → is_text_byte b ≡ true →
      step limit (scanner Quoted q part done nodes) at b ≡ Ok (scanner Quoted q (part ++ b ∷ []) done nodes)
  unfolding quoted
  step_itself at b q part done nodes h =
      let apart = text_apart b h in
      rw (ne_eqb b 34 apart.0, ne_eqb b 92 apart.1, h) refl

  pub step_behind : (at q : ℕ) (part : List ℕ) (done : List Form) (nodes : List Level) →
      step limit (scanner Quoted q part done nodes) at 92 ≡ Ok (scanner Escaped q part done nodes)
  unfolding quoted
  step_behind at q part done nodes = refl

  pub step_escaped : (at b q : ℕ) (part : List ℕ) (done : List Form) (nodes : List Level) → is_escaped_byte b ≡ true →
      step limit (scanner Escaped q part done nodes) at b ≡ Ok (scanner Quoted q (part ++ b ∷ []) done nodes)
  unfolding escaped
  step_escaped at b q part done nodes h = rw h refl

  step_in_line : (at b q : ℕ) (part : List ℕ) (done : List Form) (nodes : List Level) → (b ≡ 10 → ⊥) →
      step limit (scanner Comment q part done nodes) at b ≡ Ok (scanner Comment q part done nodes)
  unfolding spec.comment
  step_in_line at b q part done nodes h = rw (ne_eqb b 10 h) refl

  pub step_line_end : (at q : ℕ) (part : List ℕ) (done : List Form) (nodes : List Level) →
      step limit (scanner Comment q part done nodes) at 10 ≡ Ok (scanner Plain q part done nodes)
  unfolding spec.comment
  step_line_end at q part done nodes = refl

  -- the outcome from one state is that from another, at some place
  abbrev pub GoesOn : Scanner → ℕ → List ℕ → Scanner → List ℕ → Type 0
  GoesOn s at bytes t left = (place : ℕ) × (outcome limit s at bytes ≡ outcome limit t place left) × (place + length left ≡ at + length bytes)

  over_word : (bytes w : List ℕ) (at q : ℕ) (part : List ℕ) (done : List Form) (nodes : List Level) → IsWordBytes w →
      GoesOn (scanner Plain q part done nodes) at (w ++ bytes) (scanner Plain q (part ++ w) done nodes) bytes
  over_word bytes [] at q part done nodes h = (at, ap (λ p. outcome limit (scanner Plain q p done nodes) at bytes) (sym (append-nil part)), refl)
  over_word bytes (b ∷ w) at q part done nodes h =
      let more = over_word bytes w (suc at) q (part ++ b ∷ []) done nodes h.1 in
      let here = outcome_step limit (scanner Plain q part done nodes) _ at b (w ++ bytes) (step_word at b q part done nodes h.0) in
      let there = ap (λ p. outcome limit (scanner Plain q p done nodes) more.0 bytes) (append_assoc part (b ∷ []) w) in
      (more.0, here ∙ more.1 ∙ there, omega (arith, more.2))

  word_ends : (bytes : List ℕ) (at q : ℕ) (part : List ℕ) (done : List Form) (nodes : List Level) → EndsWord bytes →
      outcome limit (scanner Plain q part done nodes) at bytes ≡ outcome limit (plainly q (with_word part done) nodes) at bytes
  unfolding plain
  word_ends [] at q part done nodes h = refl
  word_ends (b ∷ bytes) at q part done nodes h = rw h refl

  over_text : {spelled text : List ℕ} → Escapes spelled text → (bytes : List ℕ) (at q : ℕ) (part : List ℕ) (done : List Form) (nodes : List Level) →
      GoesOn (scanner Quoted q part done nodes) at (spelled ++ bytes) (scanner Quoted q (part ++ text) done nodes) bytes
  over_text none bytes at q part done nodes = (at, ap (λ p. outcome limit (scanner Quoted q p done nodes) at bytes) (sym (append-nil part)), refl)
  over_text (itself {byte = b} {spelled} {text} h more) bytes at q part done nodes =
      let next = over_text more bytes (suc at) q (part ++ b ∷ []) done nodes in
      let here = outcome_step limit (scanner Quoted q part done nodes) _ at b (spelled ++ bytes) (step_itself at b q part done nodes h) in
      let there = ap (λ p. outcome limit (scanner Quoted q p done nodes) next.0 bytes) (append_assoc part (b ∷ []) text) in
      (next.0, here ∙ next.1 ∙ there, omega (arith, next.2))
  over_text (behind {byte = b} {spelled} {text} h more) bytes at q part done nodes =
      let next = over_text more bytes (suc (suc at)) q (part ++ b ∷ []) done nodes in
      let first = outcome_step limit (scanner Quoted q part done nodes) _ at 92 (b ∷ spelled ++ bytes) (step_behind at q part done nodes) in
      let here = outcome_step limit (scanner Escaped q part done nodes) _ (suc at) b (spelled ++ bytes) (step_escaped (suc at) b q part done nodes h) in
      let there = ap (λ p. outcome limit (scanner Quoted q p done nodes) next.0 bytes) (append_assoc part (b ∷ []) text) in
      (next.0, first ∙ here ∙ next.1 ∙ there, omega (arith, next.2))

  over_line : (bytes line : List ℕ) (at q : ℕ) (done : List Form) (nodes : List Level) → IsLine line →
      GoesOn (scanner Comment q [] done nodes) at (line ++ bytes) (scanner Comment q [] done nodes) bytes
  over_line bytes [] at q done nodes h = (at, refl, refl)
  over_line bytes (b ∷ line) at q done nodes h =
      let more = over_line bytes line (suc at) q done nodes h.1 in
      (more.0, outcome_step limit (scanner Comment q [] done nodes) _ at b (line ++ bytes) (step_in_line at b q [] done nodes h.0) ∙ more.1, omega (arith, more.2))

  -- what is spelled is scanned
  pub complete : {depth : ℕ} {bytes left : List ℕ} {trees : List Form} → Begins limit depth bytes trees left →
      (at q : ℕ) (done : List Form) (nodes : List Level) → length nodes ≡ depth →
      (place quote : ℕ) × (outcome limit (plainly q done nodes) at bytes ≡ outcome limit (plainly quote (done ++ trees) nodes) place left) × (place + length left ≡ at + length bytes)
  complete {depth} {bytes} {left} nothing at q done nodes n = (at, q, ap (λ d. outcome limit (plainly q d nodes) at bytes) (sym (append-nil done)), refl)
  complete (blank {depth} {byte = b} {bytes} h more) at q done nodes n =
      let next = complete more (suc at) q done nodes n in
      (next.0, next.1, outcome_step limit (plainly q done nodes) _ at b bytes (step_blank at b q done nodes h) ∙ next.2, omega (arith, next.3))
  complete (comment {depth} line {bytes} h more) at q done nodes n =
      let begun = outcome_step limit (plainly q done nodes) _ at 59 (line ++ 10 ∷ bytes) (step_comment at q done nodes) in
      let over = over_line (10 ∷ bytes) line (suc at) q done nodes h in
      let ended = outcome_step limit (scanner Comment q [] done nodes) _ over.0 10 bytes (step_line_end over.0 q [] done nodes) in
      let next = complete more (suc over.0) q done nodes n in
      (next.0, next.1, begun ∙ over.1 ∙ ended ∙ next.2, omega (arith, over.2, next.3))
  complete (last_comment {depth} {line} h) at q done nodes n =
      let begun = outcome_step limit (plainly q done nodes) _ at 59 line (step_comment at q done nodes) in
      let over = over_line [] line (suc at) q done nodes h in
      let same = ap (λ l. outcome limit (scanner Comment q [] done nodes) (suc at) l) (sym (append-nil line)) in
      (over.0, q, begun ∙ same ∙ over.1 ∙ ap (λ d. outcome limit (plainly q d nodes) over.0 []) (sym (append-nil done)), (let e = ap length (append-nil line) in omega (arith, over.2, e)))
  complete (word {depth} {byte = b} {word = w} {bytes} {left} {trees} h hs ends more) at q done nodes n =
      let over = over_word bytes (b ∷ w) at q [] done nodes (h, hs) in
      let ended = word_ends bytes over.0 q (b ∷ w) done nodes ends in
      let next = complete more over.0 q (done ++ Word (b ∷ w) ∷ []) nodes n in
      let there = ap (λ d. outcome limit (plainly next.1 d nodes) next.0 left) (append_assoc done (Word (b ∷ w) ∷ []) trees) in
      (next.0, next.1, over.1 ∙ ended ∙ next.2 ∙ there, omega (arith, over.2, next.3))
  complete (text {depth} {spelled} {text = t} {bytes} {left} {trees} h more) at q done nodes n =
      let begun = outcome_step limit (plainly q done nodes) _ at 34 (spelled ++ 34 ∷ bytes) (step_quote at q done nodes) in
      let over = over_text h (34 ∷ bytes) (suc at) at [] done nodes in
      let ended = outcome_step limit (scanner Quoted at t done nodes) _ over.0 34 bytes (step_unquote over.0 at t done nodes) in
      let next = complete more (suc over.0) at (done ++ Text t ∷ []) nodes n in
      let there = ap (λ d. outcome limit (plainly next.1 d nodes) next.0 left) (append_assoc done (Text t ∷ []) trees) in
      (next.0, next.1, begun ∙ over.1 ∙ ended ∙ next.2 ∙ there, omega (arith, over.2, next.3))
  complete (node {depth} {inside} {bytes} {left} {inner} {trees} h within more) at q done nodes n =
      let fits : length nodes < limit = omega arith in
      let begun = outcome_step limit (plainly q done nodes) _ at 40 inside (step_open at q [] done nodes fits) in
      let level : Level = record { place = at; done = done } in
      let over = complete within (suc at) q [] (level ∷ nodes) (ap suc n) in
      let ended = outcome_step limit (plainly over.1 inner (level ∷ nodes)) _ over.0 41 bytes (step_close over.0 over.1 [] inner level nodes) in
      let next = complete more (suc over.0) over.1 (done ++ Node inner ∷ []) nodes n in
      let there = ap (λ d. outcome limit (plainly next.1 d nodes) next.0 left) (append_assoc done (Node inner ∷ []) trees) in
      (next.0, next.1, begun ∙ over.2 ∙ ended ∙ next.2 ∙ there, omega (arith, over.3, next.3))

  -- what is spelled has the outcome that it spells
  pub spelled_outcome : (bytes : List ℕ) (trees : List Form) → Begins limit 0 bytes trees [] → outcome limit spec.start 0 bytes ≡ Ok trees
  spelled_outcome bytes trees h = let e = complete h 0 0 [] [] refl in e.2
