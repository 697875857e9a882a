-- The names of the systems that the program can make.
use Rattle.std.specs.Prelude.{◌≡◌, ℕ, List, codes}
use Rattle.pst_cli.specs.declared.known.KnownSystem.{KnownSystem}
use Rattle.pst_cli.specs.declared.known.KnownSystem.TheVariants.{Counter, Racy, Stuck, Registry, Queue, Meet}

-- the name of a system
abbrev pub name_of : KnownSystem → List ℕ
name_of Counter = codes "counter"
name_of Racy = codes "racy"
name_of Stuck = codes "stuck"
name_of Registry = codes "registry"
name_of Queue = codes "queue"
name_of Meet = codes "meet"

-- the program can make a system of that name
abbrev pub IsKnown : List ℕ → Type 0
IsKnown name = (system : KnownSystem) × (name ≡ name_of system)
