-- The lines of a stream of bytes.
use Rattle.std.specs.Prelude.{ℕ, ◌==◌, if◌then◌else◌, List, [], ◌∷◌, ◌++◌}

-- the line that has begun after these bytes, where this one had begun before them
abbrev pub begun : List ℕ → List ℕ → List ℕ
begun line [] = line
begun line (byte ∷ bytes) = if byte == 10 then begun [] bytes else begun (line ++ byte ∷ []) bytes

-- the lines that end in these bytes, without their ends, where this one had begun before them
abbrev pub ended : List ℕ → List ℕ → List (List ℕ)
ended line [] = []
ended line (byte ∷ bytes) = if byte == 10 then line ∷ ended [] bytes else ended (line ++ byte ∷ []) bytes

-- a line that the end of the stream ends: none where no byte of it was read
abbrev pub last_line : List ℕ → List (List ℕ)
last_line [] = []
last_line (byte ∷ bytes) = (byte ∷ bytes) ∷ []

-- the lines of a stream, without their ends
abbrev pub lines_of : List ℕ → List (List ℕ)
lines_of bytes = ended [] bytes ++ last_line (begun [] bytes)
