-- The first of many.
use Rattle.std.specs.Prelude.{ℕ, ◌-◌, List, ◌++◌, length, take}

-- some, and as many more as there is room for below a limit
unfoldable pub keep : {A : Type 0} → ℕ → List A → List A → List A
keep limit some more = some ++ take (limit - length some) more
