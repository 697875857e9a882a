-- What borrowed parts of JSON stand for.
use Rattle.std.specs.Prelude.{Option, Some, None}
use Rattle.std.specs.Borrow.{Bor}
use Rattle.json.specs.Json.{Json}
use Rattle.json.specs.Value.{value_view}
use Rattle.json.specs.declared.value.Value.{Value}

abbrev pub shown : {A : Type 0} → Option (Bor (Value A)) → Option Json
shown None = None
shown (Some json) = Some (value_view json.now)
