-- The JSON of a line that is UTF-8, and of one that is not.
use Rattle.std.proofs.Common.{◌≡◌, ℕ, Bool, true, false, List, None, refl, ap}
use Rattle.std.specs.Prelude.{if◌then◌else◌}
use Rattle.std.specs.Str.{IsUtf8, is_utf8}
use Rattle.std.proofs.lemmas.Str.{is_utf8-from_IsUtf8, IsUtf8-from_is_utf8}
use Rattle.json.specs.Json.{document}
use Rattle.pst_json_runs.specs.Lines.{json_in}

pub json_utf8 : (line : List ℕ) → IsUtf8 line → json_in line ≡ document line
json_utf8 line h = ap (λ b. if b then document line else None) (is_utf8-from_IsUtf8 line h)

none_by : (b : Bool) (line : List ℕ) → (b ≡ true → ⊥) → (if b then document line else None) ≡ None
none_by true line h = absurd (h refl)
none_by false line h = refl

pub json_other : (line : List ℕ) → (IsUtf8 line → ⊥) → json_in line ≡ None
json_other line h = none_by (is_utf8 line) line (λ e. h (IsUtf8-from_is_utf8 line e))

pub ruleset utf8 = (json_utf8, json_other)
