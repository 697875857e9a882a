use Rattle.std.proofs.Common.{◌≡◌, ◌+◌, ◌*◌, ◌++◌, drop, Ok}
use Rattle.pst_syntax.specs.Reading.{◌>>=◌, each, ty_of}
use Rattle.pst_syntax.proofs.types.+read_ty.Given as goal

abbrev pub decreases-read_ty : goal.decreases-read_ty
decreases-read_ty l = 3 * l.room

abbrev pub decreases-read_type_of_shape : goal.decreases-read_type_of_shape
decreases-read_type_of_shape l = 3 * l.room + 2

abbrev pub decreases-read_types : goal.decreases-read_types
decreases-read_types l = 3 * l.room + 1

abbrev pub invariant-read_types-loop-form : goal.invariant-read_types-loop-form
invariant-read_types-loop-form l = each (ty_of l.has_maps l.room) l.forms ≡ (each (ty_of l.has_maps l.room) (drop l.form-index l.forms) >>= (λ more. Ok (l.types ++ more)))

abbrev pub decreases-read_boxed_type : goal.decreases-read_boxed_type
decreases-read_boxed_type l = 3 * l.room + 1
