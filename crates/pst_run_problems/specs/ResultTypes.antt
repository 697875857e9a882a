-- The types of the results of the commands in the parts of a case.
use Rattle.std.specs.Prelude.{ℕ, List, [], ◌∷◌, ◌++◌, map, Option, None}
use Rattle.pst_case.specs.Shape.{type_in}
use Rattle.pst_run_problems.specs.declared.command.Part.{Part}
use Rattle.pst_model.specs.Parts.{operation_number, operation_of}
use Rattle.pst_model.specs.declared.model.Op.{Op}
use Rattle.pst_model.specs.declared.model.Source.{Source}
use Rattle.pst_runs.specs.Replies.{listed}
use Rattle.pst_sexpr.specs.Parts.{and_then, word_of}
use Rattle.pst_sexpr.specs.declared.form.Form.{Form}
use Rattle.pst_value.specs.declared.ty.Ty.{Ty}

abbrev pub head_in : List Form → Option (List ℕ)
head_in [] = None
head_in (first ∷ trees) = word_of first

-- the operation that a command calls
abbrev pub operation_in : Source → Form → Option Op
operation_in m form =
    and_then (head_in (listed form)) (λ name.
    and_then (operation_number m.items name) (operation_of m.items))

abbrev pub result_type : Source → Form → Ty
result_type m form = type_in (operation_in m form)

-- by the numbers of the commands from 1
abbrev pub result_types : Source → List Part → List Ty
result_types m [] = []
result_types m (part ∷ parts) = map (result_type m) part.commands.now ++ result_types m parts
