-- The limits of models.
use Rattle.std.specs.Prelude.{ℕ}
use Rattle.pst_model.specs.Operations.{max_operations, max_levels}
use Rattle.pst_value.specs.Text.{limit}

-- a model has at most so many trees, its own among them
abbrev pub max_trees : ℕ
max_trees = 20000

-- a model has at most so many functions, and at most so many operations
abbrev pub max_declared : ℕ
max_declared = max_operations

-- a name has at most so many bytes
abbrev pub max_name : ℕ
max_name = 32

-- a text has at most so many bytes, as a value has
abbrev pub max_text : ℕ
max_text = limit

-- a tuple has at most so many items, a comprehension so many clauses, and a list of parameters so many of
-- them
abbrev pub max_parts : ℕ
max_parts = 8

-- a type has at most so many levels
abbrev pub ty_room : ℕ
ty_room = max_levels

-- an expression has at most so many levels
abbrev pub expr_room : ℕ
expr_room = 64
