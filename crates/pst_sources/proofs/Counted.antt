-- How the loops that find the ends of trees count bytes.
use Rattle.std.proofs.Common.{◌≡◌, ◌∙◌, ◌<◌, ◌≤◌, ◌+◌, ℕ, suc, true, false, ◌&&◌, ◌==◌, cond, List, ◌∷◌}
use Rattle.std.proofs.Common.{length, get_or, drop, refl, sym, ap, arith, Bool}
use Rattle.std.proofs.lemmas.Bool.{ne_eqb}
use Rattle.std.proofs.lemmas.Bool.Decides.{nat_tests}
use Rattle.std.proofs.lemmas.List.{at_drop_more, at_drop_all}
use Rattle.pst_sources.specs.declared.scan.State.{State}
use Rattle.pst_sources.specs.Scanning.{outside, after, is_blank, blanks, is_word, word_bytes, depth_after}
use Rattle.pst_sources.specs.Scanning.{is_end, closed_bytes}

pub and_false : (b : Bool) → (b && false) ≡ false
and_false true = refl
and_false false = refl

-- ---- bytes before a tree

blanks_cons : (state : State) (byte : ℕ) (bytes : List ℕ)
    → blanks state (byte ∷ bytes)
    ≡ cond (is_blank (after state byte) byte) (suc (blanks (after state byte) bytes)) 0
unfolding blanks
blanks_cons state byte bytes = refl

blanks_by : (state next : State) (byte : ℕ) (bytes : List ℕ) (is : Bool) → after state byte ≡ next
    → is_blank next byte ≡ is → blanks state (byte ∷ bytes) ≡ cond is (suc (blanks next bytes)) 0
blanks_by state next byte bytes is then h =
    blanks_cons state byte bytes
    ∙ ap (λ s. cond (is_blank s byte) (suc (blanks s bytes)) 0) then
    ∙ ap (λ b. cond b (suc (blanks next bytes)) 0) h

-- a byte that belongs to no tree
pub blanks_step : (state next : State) (byte : ℕ) (bytes : List ℕ) → after state byte ≡ next
    → is_blank next byte ≡ true → blanks state (byte ∷ bytes) ≡ suc (blanks next bytes)
blanks_step state next byte bytes then h = blanks_by state next byte bytes true then h

-- a byte with which a tree begins
pub blanks_none : (state next : State) (byte : ℕ) (bytes : List ℕ) → after state byte ≡ next
    → is_blank next byte ≡ false → blanks state (byte ∷ bytes) ≡ 0
blanks_none state next byte bytes then h = blanks_by state next byte bytes false then h

-- ---- the bytes of a word

word_cons : (byte : ℕ) (bytes : List ℕ)
    → word_bytes (byte ∷ bytes) ≡ cond (is_word (outside byte)) (suc (word_bytes bytes)) 0
unfolding word_bytes
word_cons byte bytes = refl

-- a byte of a word
pub word_step : (byte : ℕ) (bytes : List ℕ) → is_word (outside byte) ≡ true
    → word_bytes (byte ∷ bytes) ≡ suc (word_bytes bytes)
word_step byte bytes h = word_cons byte bytes ∙ ap (λ b. cond b (suc (word_bytes bytes)) 0) h

-- a byte that ends a word
pub word_ends : (byte : ℕ) (bytes : List ℕ) → is_word (outside byte) ≡ false → word_bytes (byte ∷ bytes) ≡ 0
word_ends byte bytes h = word_cons byte bytes ∙ ap (λ b. cond b (suc (word_bytes bytes)) 0) h

-- ---- the bytes of a text or a node

pub closed_cons : (state : State) (depth byte : ℕ) (bytes : List ℕ)
    → closed_bytes state depth (byte ∷ bytes)
    ≡ cond (depth_after state depth byte == 0 && is_end state byte (after state byte)) 1
    (suc (closed_bytes (after state byte) (depth_after state depth byte) bytes))
unfolding closed_bytes
closed_cons state depth byte bytes = refl

-- a byte, by the state and the depth after it
closed_by : (state next : State) (depth deep byte : ℕ) (bytes : List ℕ) → after state byte ≡ next
    → depth_after state depth byte ≡ deep
    → closed_bytes state depth (byte ∷ bytes)
    ≡ cond (deep == 0 && is_end state byte next) 1 (suc (closed_bytes next deep bytes))
closed_by state next depth deep byte bytes then d =
    closed_cons state depth byte bytes
    ∙ ap (λ s. cond (depth_after state depth byte == 0 && is_end state byte s) 1
    (suc (closed_bytes s (depth_after state depth byte) bytes))) then
    ∙ ap (λ n. cond (n == 0 && is_end state byte next) 1 (suc (closed_bytes next n bytes))) d

-- a byte that ends neither
pub closed_keep : (state next : State) (depth deep byte : ℕ) (bytes : List ℕ) → after state byte ≡ next
    → depth_after state depth byte ≡ deep → is_end state byte next ≡ false
    → closed_bytes state depth (byte ∷ bytes) ≡ suc (closed_bytes next deep bytes)
closed_keep state next depth deep byte bytes then d h =
    closed_by state next depth deep byte bytes then d
    ∙ ap (λ b. cond (deep == 0 && b) 1 (suc (closed_bytes next deep bytes))) h
    ∙ ap (λ b. cond b 1 (suc (closed_bytes next deep bytes))) (and_false (deep == 0))

-- a byte within a node
pub closed_inside : (state next : State) (depth deep byte : ℕ) (bytes : List ℕ) → after state byte ≡ next
    → depth_after state depth byte ≡ deep → 0 < deep
    → closed_bytes state depth (byte ∷ bytes) ≡ suc (closed_bytes next deep bytes)
closed_inside state next depth deep byte bytes then d h =
    let some : (deep == 0) ≡ false = ne_eqb deep 0 (λ z. omega arith) in
    closed_by state next depth deep byte bytes then d
    ∙ ap (λ b. cond (b && is_end state byte next) 1 (suc (closed_bytes next deep bytes))) some

-- the byte that ends it
pub closed_here : (state next : State) (depth byte : ℕ) (bytes : List ℕ) → after state byte ≡ next
    → depth_after state depth byte ≡ 0 → is_end state byte next ≡ true
    → closed_bytes state depth (byte ∷ bytes) ≡ 1
closed_here state next depth byte bytes then d h =
    closed_by state next depth 0 byte bytes then d
    ∙ ap (λ b. cond b 1 (suc (closed_bytes next 0 bytes))) h

-- ---- the same at a place of the input

module _ (bytes : List ℕ) (at byte : ℕ) where
  -- what is left at a place: its byte, and what is left behind it
  left_at : {Y : Type 0} (count : List ℕ → Y) → at < length bytes → byte ≡ get_or bytes at 0
      → count (drop at bytes) ≡ count (byte ∷ drop (at + 1) bytes)
  left_at count within is =
      at_drop_more count bytes at 0 within ∙ ap (λ b. count (b ∷ drop (at + 1) bytes)) (sym is)

  pub blanks_more : (state next : State) → at < length bytes → byte ≡ get_or bytes at 0
      → next ≡ after state byte → is_blank next byte ≡ true
      → blanks state (drop at bytes) ≡ suc (blanks next (drop (at + 1) bytes))
  blanks_more state next within is then h =
      left_at (blanks state) within is ∙ blanks_step state next byte (drop (at + 1) bytes) (sym then) h

  pub blanks_stop : (state next : State) → at < length bytes → byte ≡ get_or bytes at 0
      → next ≡ after state byte → is_blank next byte ≡ false → blanks state (drop at bytes) ≡ 0
  blanks_stop state next within is then h =
      left_at (blanks state) within is ∙ blanks_none state next byte (drop (at + 1) bytes) (sym then) h

  pub word_more : at < length bytes → byte ≡ get_or bytes at 0 → is_word (outside byte) ≡ true
      → word_bytes (drop at bytes) ≡ suc (word_bytes (drop (at + 1) bytes))
  word_more within is h = left_at word_bytes within is ∙ word_step byte (drop (at + 1) bytes) h

  pub word_stop : at < length bytes → byte ≡ get_or bytes at 0 → is_word (outside byte) ≡ false
      → word_bytes (drop at bytes) ≡ 0
  word_stop within is h = left_at word_bytes within is ∙ word_ends byte (drop (at + 1) bytes) h

  pub closed_stop : (state next : State) (depth deep : ℕ) → at < length bytes → byte ≡ get_or bytes at 0
      → next ≡ after state byte → deep ≡ depth_after state depth byte → deep ≡ 0
      → is_end state byte next ≡ true → closed_bytes state depth (drop at bytes) ≡ 1
  closed_stop state next depth deep within is then d none h =
      left_at (closed_bytes state depth) within is
      ∙ closed_here state next depth byte (drop (at + 1) bytes) (sym then) (sym d ∙ none) h

  pub closed_deep : (state next : State) (depth deep : ℕ) → at < length bytes → byte ≡ get_or bytes at 0
      → next ≡ after state byte → deep ≡ depth_after state depth byte → 0 < deep
      → closed_bytes state depth (drop at bytes) ≡ suc (closed_bytes next deep (drop (at + 1) bytes))
  closed_deep state next depth deep within is then d h =
      left_at (closed_bytes state depth) within is
      ∙ closed_inside state next depth deep byte (drop (at + 1) bytes) (sym then) (sym d) h

  pub closed_more : (state next : State) (depth deep : ℕ) → at < length bytes → byte ≡ get_or bytes at 0
      → next ≡ after state byte → deep ≡ depth_after state depth byte → is_end state byte next ≡ false
      → closed_bytes state depth (drop at bytes) ≡ suc (closed_bytes next deep (drop (at + 1) bytes))
  closed_more state next depth deep within is then d h =
      left_at (closed_bytes state depth) within is
      ∙ closed_keep state next depth deep byte (drop (at + 1) bytes) (sym then) (sym d) h

-- ---- no byte is left

pub blanks_end : (state : State) (bytes : List ℕ) (at : ℕ) → length bytes ≤ at
    → blanks state (drop at bytes) ≡ 0
unfolding blanks
blanks_end state bytes at past = at_drop_all (blanks state) bytes at past

pub word_last : (bytes : List ℕ) (at : ℕ) → length bytes ≤ at → word_bytes (drop at bytes) ≡ 0
unfolding word_bytes
word_last bytes at past = at_drop_all word_bytes bytes at past

pub closed_last : (state : State) (depth : ℕ) (bytes : List ℕ) (at : ℕ) → length bytes ≤ at
    → closed_bytes state depth (drop at bytes) ≡ 0
unfolding closed_bytes
closed_last state depth bytes at past = at_drop_all (closed_bytes state depth) bytes at past

-- one more node may be open
pub depth_more : (state : State) (depth byte : ℕ) → depth_after state depth byte ≤ depth + 1
unfolding depth_after
depth_more state depth byte = grind (arith, nat_tests)

pub ruleset counted = (
  blanks_more,
  blanks_stop,
  blanks_end,
  word_more,
  word_stop,
  word_last,
  closed_stop,
  closed_deep,
  closed_more,
  closed_last,
  depth_more,
)
