-- What the borrowed bindings and the context of the evaluator stand for.
use Rattle.std.specs.Prelude.{List, ◌∷◌, map, reverse}
use Rattle.pst_eval.specs.Meaning.{Env, Called, Mean, Part, frame, called, mean, part}
use Rattle.pst_eval.specs.declared.context.Context.{Context}
use Rattle.pst_eval.specs.declared.context.Env.{Env as Bindings, Frame, With'}
use Rattle.pst_model.specs.declared.expr.Clause.{Clause}
use Rattle.pst_model.specs.declared.expr.Expr.{Expr}

abbrev pub env_of : Bindings → Env
env_of (Frame params values) = frame params.now values.now
env_of (With' name value r outer) = (name.now, value.now) ∷ env_of outer

-- the functions that may be applied
abbrev pub functions_in : Context → List Called
functions_in c = called c.items.now (reverse c.earlier.now)

abbrev pub mean_in : Context → Expr → Mean
mean_in c = mean c.items.now (functions_in c)

abbrev pub parts_in : Context → List Clause → List Part
parts_in c clauses = map (part c.items.now (functions_in c)) clauses
