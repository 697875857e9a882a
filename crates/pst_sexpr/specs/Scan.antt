-- The reader's automaton: one byte after another, with the open nodes. It is private to the crate, and stands
-- here because the contracts of the reader's private functions cite it. No public contract does.
use Rattle.std.specs.Prelude.{ℕ, suc, ◌==◌, nat_lt, if◌then◌else◌, List, [], ◌∷◌, ◌++◌, length, Result, Ok, Err}
use Rattle.pst_sexpr.specs.declared.form.Form.{Form}
use Rattle.pst_sexpr.specs.declared.form.Form.TheVariants.{Word, Text, Node}
use Rattle.pst_sexpr.specs.declared.reader.SexprFault.{SexprFault}
use Rattle.pst_sexpr.specs.declared.reader.FaultKind.{FaultKind}
use Rattle.pst_sexpr.specs.declared.reader.FaultKind.TheVariants.{BadByte, UnclosedText, UnclosedNode, StrayClose, TooDeep}
use Rattle.pst_sexpr.specs.declared.levels.Level.{Level}
use Rattle.pst_sexpr.specs.declared.scan.Mode.{Mode}
use Rattle.pst_sexpr.specs.declared.scan.Mode.TheVariants.{Plain, Quoted, Escaped, Comment}
use Rattle.pst_sexpr.specs.declared.scan.Scanner.{Scanner}
use Rattle.pst_sexpr.specs.Bytes.{is_blank, is_word_byte, is_text_byte, is_escaped_byte}

-- a fault of a kind at a place
abbrev pub fault : FaultKind → ℕ → SexprFault
fault kind place = record { kind = kind; place = place }

-- a state, by its parts
abbrev pub scanner : Mode → ℕ → List ℕ → List Form → List Level → Scanner
scanner mode quote part done nodes =
    record { mode = mode; quote = quote; part = part; done = done; nodes = nodes }

-- the state with other bytes of its word or text
abbrev pub with_part : List ℕ → Scanner → Scanner
with_part part s = record s { part = part }

-- the trees of this level, with the word that has just ended
abbrev pub with_word : List ℕ → List Form → List Form
with_word [] done = done
with_word (byte ∷ bytes) done = done ++ Word (byte ∷ bytes) ∷ []

-- the state once the word has ended, if there is one
abbrev pub after_word : Scanner → Scanner
after_word s = record s { part = []; done = with_word s.part s.done }

abbrev pub closed_by : ℕ → Scanner → List Level → Result Scanner SexprFault
closed_by place s [] = Err (fault StrayClose place)
closed_by place s (level ∷ nodes) = Ok (record s { done = level.done ++ Node s.done ∷ []; nodes = nodes })

-- the innermost node ends
abbrev pub closed : ℕ → Scanner → Result Scanner SexprFault
closed place s = closed_by place s s.nodes

-- a node begins
abbrev pub opened : ℕ → ℕ → Scanner → Result Scanner SexprFault
opened limit place s =
    if nat_lt (length s.nodes) limit then
    Ok (record s { done = []; nodes = record { place = place; done = s.done } ∷ s.nodes })
    else Err (fault TooDeep place)

-- a byte between trees
unfoldable pub between : ℕ → ℕ → ℕ → Scanner → Result Scanner SexprFault
between limit place byte s =
    if is_blank byte then Ok s else
    (if byte == 40 then opened limit place s else
    (if byte == 41 then closed place s else
    (if byte == 34 then Ok (record s { mode = Quoted; quote = place }) else
    (if byte == 59 then Ok (record s { mode = Comment }) else
    Err (fault BadByte place)))))

-- a byte in a word or between trees
unfoldable pub plain : ℕ → ℕ → ℕ → Scanner → Result Scanner SexprFault
plain limit place byte s =
    if is_word_byte byte then Ok (record s { part = s.part ++ byte ∷ [] }) else
    between limit place byte (after_word s)

-- a byte in a text
unfoldable pub quoted : ℕ → ℕ → Scanner → Result Scanner SexprFault
quoted place byte s =
    if byte == 34 then Ok (record s { mode = Plain; part = []; done = s.done ++ Text s.part ∷ [] }) else
    (if byte == 92 then Ok (record s { mode = Escaped }) else
    (if is_text_byte byte then Ok (record s { part = s.part ++ byte ∷ [] }) else Err (fault BadByte place)))

-- a byte in a text, behind \
unfoldable pub escaped : ℕ → ℕ → Scanner → Result Scanner SexprFault
escaped place byte s =
    if is_escaped_byte byte then Ok (record s { mode = Quoted; part = s.part ++ byte ∷ [] }) else
    Err (fault BadByte place)

-- a byte in a comment
unfoldable pub comment : ℕ → Scanner → Scanner
comment byte s = if byte == 10 then record s { mode = Plain } else s

abbrev pub step_by : Mode → ℕ → Scanner → ℕ → ℕ → Result Scanner SexprFault
step_by Plain limit s place byte = plain limit place byte s
step_by Quoted limit s place byte = quoted place byte s
step_by Escaped limit s place byte = escaped place byte s
step_by Comment limit s place byte = Ok (comment byte s)

-- the byte at a place
abbrev pub step : ℕ → Scanner → ℕ → ℕ → Result Scanner SexprFault
step limit s place byte = step_by s.mode limit s place byte

abbrev pub and_then : {A B : Type 0} → Result A SexprFault → (A → Result B SexprFault) → Result B SexprFault
and_then (Ok x) next = next x
and_then (Err fault) next = Err fault

-- all bytes, the first of them at a place
abbrev pub run : ℕ → Scanner → ℕ → List ℕ → Result Scanner SexprFault
run limit s place [] = Ok s
run limit s place (byte ∷ bytes) = and_then (step limit s place byte) (λ t. run limit t (suc place) bytes)

abbrev pub ends_plain : List Form → List Level → Result (List Form) SexprFault
ends_plain done [] = Ok done
ends_plain done (level ∷ nodes) = Err (fault UnclosedNode level.place)

abbrev pub finish_by : Mode → ℕ → List ℕ → List Form → List Level → Result (List Form) SexprFault
finish_by Plain quote part done nodes = ends_plain (with_word part done) nodes
finish_by Quoted quote part done nodes = Err (fault UnclosedText quote)
finish_by Escaped quote part done nodes = Err (fault UnclosedText quote)
finish_by Comment quote part done nodes = ends_plain (with_word part done) nodes

-- the trees, where the bytes end here
abbrev pub finish : Scanner → Result (List Form) SexprFault
finish s = finish_by s.mode s.quote s.part s.done s.nodes

-- the trees that the bytes spell from here on, or their first fault
abbrev pub outcome : ℕ → Scanner → ℕ → List ℕ → Result (List Form) SexprFault
outcome limit s place bytes = and_then (run limit s place bytes) finish

-- before the first byte
abbrev pub start : Scanner
start = scanner Plain 0 [] [] []
