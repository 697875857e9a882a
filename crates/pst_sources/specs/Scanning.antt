-- Where trees begin and end, byte after byte. The contracts of the functions that find trees cite it.
-- Those of `span_at_path_or_whole_input` and `deepest_span_on_path_in_tree` do not.
use Rattle.std.specs.Prelude.{◌≡◌, ℕ, suc, ◌-◌, ◌≤◌, Bool, true, false, ◌&&◌, ◌||◌, ◌==◌, if◌then◌else◌}
use Rattle.std.specs.Prelude.{List, [], ◌∷◌, drop, length}
use Rattle.pst_sexpr.specs.declared.form.Form.{Form}
use Rattle.pst_sexpr.specs.Grammar.{Begins}
use Rattle.pst_sexpr.specs.Reading.{max_levels}
use Rattle.pst_sources.specs.declared.scan.State.{State}
use Rattle.pst_sources.specs.declared.scan.State.TheVariants.{Between, Comment, Word, Text, Escape}

-- white space
unfoldable pub is_space : ℕ → Bool
is_space byte = byte == 32 || byte == 9 || byte == 10 || byte == 13

-- the state after a byte outside of texts and comments
unfoldable pub outside : ℕ → State
outside byte =
    if byte == 59 then Comment else
    (if byte == 34 then Text else
    (if byte == 40 || byte == 41 || is_space byte then Between else Word))

-- the state after a byte
unfoldable pub after : State → ℕ → State
after Between byte = outside byte
after Word byte = outside byte
after Comment byte = if byte == 10 then Between else Comment
after Text byte = if byte == 34 then Between else (if byte == 92 then Escape else Text)
after Escape byte = Text

-- neither in a text nor in a comment
abbrev pub is_outside : State → Bool
is_outside Between = true
is_outside Comment = false
is_outside Word = true
is_outside Text = false
is_outside Escape = false

-- a byte in a state is this bracket
unfoldable pub is_bracket : State → ℕ → ℕ → Bool
is_bracket state byte bracket = byte == bracket && is_outside state

-- a byte, and the state after it, belong to no tree
unfoldable pub is_blank : State → ℕ → Bool
is_blank Between byte = is_space byte
is_blank Comment byte = true
is_blank Word byte = false
is_blank Text byte = false
is_blank Escape byte = false

-- how many bytes stand before the first tree
unfoldable pub blanks : State → List ℕ → ℕ
blanks state [] = 0
blanks state (byte ∷ bytes) =
    if is_blank (after state byte) byte then suc (blanks (after state byte) bytes) else 0

-- a word goes on in this state
abbrev pub is_word : State → Bool
is_word Between = false
is_word Comment = false
is_word Word = true
is_word Text = false
is_word Escape = false

-- how many bytes the first word has
unfoldable pub word_bytes : List ℕ → ℕ
word_bytes [] = 0
word_bytes (byte ∷ bytes) = if is_word (outside byte) then suc (word_bytes bytes) else 0

-- how many nodes are open after a byte
unfoldable pub depth_after : State → ℕ → ℕ → ℕ
depth_after state depth byte =
    if is_bracket state byte 40 then suc depth else (if is_bracket state byte 41 then depth - 1 else depth)

-- a text or a node ends with a byte, by the states before and after it
unfoldable pub is_end : State → ℕ → State → Bool
is_end Between byte Between = byte == 41
is_end Comment byte Between = byte == 41
is_end Word byte Between = byte == 41
is_end Text byte Between = true
is_end Escape byte Between = byte == 41
is_end state byte last = false

-- how many bytes stand up to the end of the first text or node
unfoldable pub closed_bytes : State → ℕ → List ℕ → ℕ
closed_bytes state depth [] = 0
closed_bytes state depth (byte ∷ bytes) =
    if depth_after state depth byte == 0 && is_end state byte (after state byte) then 1 else
    suc (closed_bytes (after state byte) (depth_after state depth byte) bytes)

-- how many bytes the tree has that begins here
unfoldable pub tree_bytes : List ℕ → ℕ
tree_bytes [] = 0
tree_bytes (byte ∷ bytes) =
    if byte == 40 || byte == 34 then closed_bytes Between 0 (byte ∷ bytes) else
    (if byte == 41 then 1 else word_bytes (byte ∷ bytes))

-- the end, or a `)`
abbrev pub IsEnd : List ℕ → Type 0
IsEnd [] = Unit {0}
IsEnd (byte ∷ bytes) = byte ≡ 41

-- the bytes from a place on begin with the trees, and then comes the end or a `)`
pub record HasTreesFrom (input : List ℕ) (from : ℕ) (trees : List Form) : Type 0 where
  pub within : from ≤ length input
  pub depth : ℕ
  pub left : List ℕ
  pub begins : Begins max_levels depth (drop from input) trees left
  pub ends : IsEnd left
