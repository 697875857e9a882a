use Rattle.std.proofs.Common.{◌≡◌, ℕ, ◌||◌, true, false, sym, ap, ◌∙◌}
use Rattle.std.specs.List.{list_any}
use Rattle.pst_eval.specs.Names as spec
use Rattle.pst_eval.proofs.Naming.{names-Tuple, names-List, names-Call, names-Apply, names-For}
use Rattle.pst_eval.proofs.names.+names.Goals as goal

pub does_name_stand_in-returns-in-Tuple : goal.does_name_stand_in-returns-in-Tuple
does_name_stand_in-returns-in-Tuple t c =
    c.does_name_stand_in_any.ensures ∙ ap (list_any (spec.names c.args.name.now)) c.as_slice.ensures
    ∙ sym (ap (spec.names c.args.name.now) c.in-Tuple.is ∙ names-Tuple c.args.name.now c.in-Tuple.parts)

pub does_name_stand_in-returns-in-List : goal.does_name_stand_in-returns-in-List
does_name_stand_in-returns-in-List t c =
    c.does_name_stand_in_any-in-List.ensures ∙ ap (list_any (spec.names c.args.name.now)) c.as_slice-in-List.ensures
    ∙ sym (ap (spec.names c.args.name.now) c.in-List.is ∙ names-List c.args.name.now c.in-List.field-0 c.in-List.parts)

pub does_name_stand_in-returns-in-Call : goal.does_name_stand_in-returns-in-Call
does_name_stand_in-returns-in-Call t c =
    c.does_name_stand_in_any-in-Call.ensures ∙ ap (list_any (spec.names c.args.name.now)) c.as_slice-in-Call.ensures
    ∙ sym (ap (spec.names c.args.name.now) c.in-Call.is ∙ names-Call c.args.name.now c.in-Call.field-0 c.in-Call.parts)

pub does_name_stand_in-returns-in-Apply : goal.does_name_stand_in-returns-in-Apply
does_name_stand_in-returns-in-Apply t c =
    c.does_name_stand_in_any-in-Apply.ensures ∙ ap (list_any (spec.names c.args.name.now)) c.as_slice-in-Apply.ensures
    ∙ sym (ap (spec.names c.args.name.now) c.in-Apply.is ∙ names-Apply c.args.name.now c.in-Apply.field-0 c.in-Apply.parts)

pub does_name_stand_in-returns-then-does_name_stand_in_clauses :
    goal.does_name_stand_in-returns-then-does_name_stand_in_clauses
does_name_stand_in-returns-then-does_name_stand_in_clauses t c =
    c.if-does_name_stand_in_clauses.true
    ∙ sym (ap (spec.names c.args.name.now) c.in-For.is ∙ names-For c.args.name.now c.in-For.clauses c.in-For.body
    ∙ ap (λ b. b || spec.names c.args.name.now c.in-For.body)
    (ap (list_any (spec.clause_names c.args.name.now)) (sym c.as_slice-in-For.ensures)
    ∙ sym c.does_name_stand_in_clauses.ensures ∙ c.if-does_name_stand_in_clauses.true))

pub does_name_stand_in-returns-else-does_name_stand_in_clauses :
    goal.does_name_stand_in-returns-else-does_name_stand_in_clauses
does_name_stand_in-returns-else-does_name_stand_in_clauses t c =
    c.does_name_stand_in.ensures ∙ ap (spec.names c.args.name.now) c.get.ensures
    ∙ sym (ap (spec.names c.args.name.now) c.in-For.is ∙ names-For c.args.name.now c.in-For.clauses c.in-For.body
    ∙ ap (λ b. b || spec.names c.args.name.now c.in-For.body)
    (ap (list_any (spec.clause_names c.args.name.now)) (sym c.as_slice-in-For.ensures)
    ∙ sym c.does_name_stand_in_clauses.ensures ∙ c.if-does_name_stand_in_clauses.false))
