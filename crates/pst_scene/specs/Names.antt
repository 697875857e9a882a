-- Names with their values.
use Rattle.std.specs.Prelude.{List, map}
use Rattle.pst_eval.specs.Meaning.{Env}
use Rattle.pst_scene.specs.declared.faulty.Binding.{Binding}

-- the names that an expression sees, the inner ones first
abbrev pub named : List Binding → Env
named = map (λ b. (b.name, b.value))
