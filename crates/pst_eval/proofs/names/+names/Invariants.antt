use Rattle.std.proofs.Common.{◌≡◌, false, take}
use Rattle.std.specs.List.{list_any}
use Rattle.pst_eval.specs.Names.{names, clause_names}
use Rattle.pst_eval.proofs.names.+names.Given as goal

abbrev pub invariant-does_name_stand_in_any-loop-part : goal.invariant-does_name_stand_in_any-loop-part
invariant-does_name_stand_in_any-loop-part l = list_any (names l.name) (take l.part-index l.parts) ≡ false

abbrev pub invariant-does_name_stand_in_clauses-loop-clause : goal.invariant-does_name_stand_in_clauses-loop-clause
invariant-does_name_stand_in_clauses-loop-clause l = list_any (clause_names l.name) (take l.clause-index l.clauses) ≡ false
