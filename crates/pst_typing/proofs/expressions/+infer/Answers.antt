use Rattle.std.proofs.Common.{refl, sym, ◌∙◌, reverse, arith}
use Rattle.pst_typing.specs.Blamed.{parts_int, parts_bool, parts_text, parts_name, parts_let, parts_if, parts_and, parts_or, parts_unary, parts_binary, parts_tuple, parts_at, parts_list, parts_fold, parts_map, parts_put, parts_call, parts_apply}
use Rattle.pst_typing.specs.Scope.{names_in, type_in}
use Rattle.pst_eval.proofs.Weights.{item_weight}
use Rattle.pst_typing.proofs.Blaming.{named_leaf, named, named_for, judged_ok, ill_parts}
use Rattle.pst_typing.proofs.Gathers.{ok_one, ok_more, ok_let, ok_let_ill, fold_no_list, fold_no_first, fold_goes, each_more, ok_body, ok_when, ok_in, in_ends}
use Rattle.pst_typing.proofs.expressions.+infer.Goals as goal

pub infer_kinds_of_parts-returns-in-Int : goal.infer_kinds_of_parts-returns-in-Int
infer_kinds_of_parts-returns-in-Int t c =
    named_leaf (type_in c.args.context.now) (names_in c.args.names.now) c.args.expr.now _ c.in-Int.is _ (parts_int _) c.new.ensures

pub infer_kinds_of_parts-returns-in-Bool : goal.infer_kinds_of_parts-returns-in-Bool
infer_kinds_of_parts-returns-in-Bool t c =
    named_leaf (type_in c.args.context.now) (names_in c.args.names.now) c.args.expr.now _ c.in-Bool.is _ (parts_bool _) c.new-in-Bool.ensures

pub infer_kinds_of_parts-returns-in-Text : goal.infer_kinds_of_parts-returns-in-Text
infer_kinds_of_parts-returns-in-Text t c =
    named_leaf (type_in c.args.context.now) (names_in c.args.names.now) c.args.expr.now _ c.in-Text.is _ (parts_text _) c.new-in-Text.ensures

pub infer_kinds_of_parts-returns-in-Name : goal.infer_kinds_of_parts-returns-in-Name
infer_kinds_of_parts-returns-in-Name t c =
    named_leaf (type_in c.args.context.now) (names_in c.args.names.now) c.args.expr.now _ c.in-Name.is _ (parts_name _) c.new-in-Name.ensures

pub infer_kinds_of_parts-returns-in-Map : goal.infer_kinds_of_parts-returns-in-Map
infer_kinds_of_parts-returns-in-Map t c =
    named_leaf (type_in c.args.context.now) (names_in c.args.names.now) c.args.expr.now _ c.in-Map.is _ (parts_map _ _) c.new-in-Map.ensures

pub infer_kinds_of_parts-returns-in-Let : goal.infer_kinds_of_parts-returns-in-Let
infer_kinds_of_parts-returns-in-Let t c =
    named (type_in c.args.context.now) (names_in c.args.names.now) c.args.expr.now _ c.in-Let.is _ _ (parts_let _ _ _) c.infer_let_parts.ensures

pub infer_kinds_of_parts-returns-in-If : goal.infer_kinds_of_parts-returns-in-If
infer_kinds_of_parts-returns-in-If t c =
    named (type_in c.args.context.now) (names_in c.args.names.now) c.args.expr.now _ c.in-If.is _ _ (parts_if _ _ _) c.infer_three_parts.ensures

pub infer_kinds_of_parts-returns-in-And : goal.infer_kinds_of_parts-returns-in-And
infer_kinds_of_parts-returns-in-And t c =
    named (type_in c.args.context.now) (names_in c.args.names.now) c.args.expr.now _ c.in-And.is _ _ (parts_and _ _) c.infer_two_parts.ensures

pub infer_kinds_of_parts-returns-in-Or : goal.infer_kinds_of_parts-returns-in-Or
infer_kinds_of_parts-returns-in-Or t c =
    named (type_in c.args.context.now) (names_in c.args.names.now) c.args.expr.now _ c.in-Or.is _ _ (parts_or _ _) c.infer_two_parts-in-Or.ensures

pub infer_kinds_of_parts-returns-in-Unary : goal.infer_kinds_of_parts-returns-in-Unary
infer_kinds_of_parts-returns-in-Unary t c =
    named (type_in c.args.context.now) (names_in c.args.names.now) c.args.expr.now _ c.in-Unary.is _ _ (parts_unary _ _) c.infer_one_part.ensures

pub infer_kinds_of_parts-returns-in-Binary : goal.infer_kinds_of_parts-returns-in-Binary
infer_kinds_of_parts-returns-in-Binary t c =
    named (type_in c.args.context.now) (names_in c.args.names.now) c.args.expr.now _ c.in-Binary.is _ _ (parts_binary _ _ _) c.infer_two_parts-in-Binary.ensures

pub infer_kinds_of_parts-returns-in-Tuple : goal.infer_kinds_of_parts-returns-in-Tuple
infer_kinds_of_parts-returns-in-Tuple t c =
    named (type_in c.args.context.now) (names_in c.args.names.now) c.args.expr.now _ c.in-Tuple.is _ _ (parts_tuple _) (rw c.as_slice.ensures at c.infer_each_part.ensures)

pub infer_kinds_of_parts-returns-in-At : goal.infer_kinds_of_parts-returns-in-At
infer_kinds_of_parts-returns-in-At t c =
    named (type_in c.args.context.now) (names_in c.args.names.now) c.args.expr.now _ c.in-At.is _ _ (parts_at _ _) c.infer_one_part-in-At.ensures

pub infer_kinds_of_parts-returns-in-List : goal.infer_kinds_of_parts-returns-in-List
infer_kinds_of_parts-returns-in-List t c =
    named (type_in c.args.context.now) (names_in c.args.names.now) c.args.expr.now _ c.in-List.is _ _ (parts_list _ _) (rw c.as_slice-in-List.ensures at c.infer_each_part-in-List.ensures)

pub infer_kinds_of_parts-returns-in-Fold : goal.infer_kinds_of_parts-returns-in-Fold
infer_kinds_of_parts-returns-in-Fold t c =
    named (type_in c.args.context.now) (names_in c.args.names.now) c.args.expr.now _ c.in-Fold.is _ _ (parts_fold _ _ _ _ _) c.infer_fold_parts.ensures

pub infer_kinds_of_parts-returns-in-Put : goal.infer_kinds_of_parts-returns-in-Put
infer_kinds_of_parts-returns-in-Put t c =
    named (type_in c.args.context.now) (names_in c.args.names.now) c.args.expr.now _ c.in-Put.is _ _ (parts_put _ _ _) c.infer_three_parts-in-Put.ensures

pub infer_kinds_of_parts-returns-in-Call : goal.infer_kinds_of_parts-returns-in-Call
infer_kinds_of_parts-returns-in-Call t c =
    named (type_in c.args.context.now) (names_in c.args.names.now) c.args.expr.now _ c.in-Call.is _ _ (parts_call _ _) (rw c.as_slice-in-Call.ensures at c.infer_each_part-in-Call.ensures)

pub infer_kinds_of_parts-returns-in-Apply : goal.infer_kinds_of_parts-returns-in-Apply
infer_kinds_of_parts-returns-in-Apply t c =
    named (type_in c.args.context.now) (names_in c.args.names.now) c.args.expr.now _ c.in-Apply.is _ _ (parts_apply _ _) (rw c.as_slice-in-Apply.ensures at c.infer_each_part-in-Apply.ensures)

pub infer_kinds_of_parts-returns-in-For : goal.infer_kinds_of_parts-returns-in-For
infer_kinds_of_parts-returns-in-For t c =
    named_for (type_in c.args.context.now) (names_in c.args.names.now) c.args.expr.now _ c.in-For.is _ _ _ _ refl c.new-none.ensures (rw (c.as_slice-in-For.ensures, c.get.ensures) at c.infer_clauses_and_body.ensures)

pub infer_kind-returns-then-is_empty : goal.infer_kind-returns-then-is_empty
infer_kind-returns-then-is_empty t c =
    let d = c.args.context.now in
    judged_ok d.items.now (reverse d.earlier.now) d.is_post (names_in c.args.names.now) c.args.expr.now c.in_ok-kinds.field-0 c.in_ok-kinds.ensures (c.is_empty.ensures.0 c.if-is_empty.true) c.kind_or_blame_by_parts.result c.kind_or_blame_by_parts.ensures

pub infer_kind-returns-else-is_empty : goal.infer_kind-returns-else-is_empty
infer_kind-returns-else-is_empty t c =
    let d = c.args.context.now in
    ill_parts d.items.now (reverse d.earlier.now) d.is_post (names_in c.args.names.now) c.args.expr.now c.in_ok-kinds.field-0 c.in_ok-kinds.ensures (λ e. let g = c.is_empty.ensures.1 e in let h = c.if-is_empty.false in absurd (cc))

pub infer_clauses_and_body-returns-in_ok-found-in-None : goal.infer_clauses_and_body-returns-in_ok-found-in-None
infer_clauses_and_body-returns-in_ok-found-in-None t c =
    ok_body (type_in c.args.context.now) (names_in c.args.names.now) c.args.clauses.now c.args.body.now c.args.all c.in_ok-found-in-None.found c.with_found_part.result c.in-None.ensures c.in_ok-found-in-None.ensures c.with_found_part.ensures

pub infer_clauses_and_body-returns-in_ok-all-in-When : goal.infer_clauses_and_body-returns-in_ok-all-in-When
infer_clauses_and_body-returns-in_ok-all-in-When t c =
    ok_when (type_in c.args.context.now) (names_in c.args.names.now) c.in-When.test c.args.clauses.now c.in-Some.rest.now c.in-Some.first.now c.args.body.now c.args.all _ _ _ c.in-Some.ensures c.in-When.is c.in_ok-found-in-When.ensures c.in_ok-all-in-When.ensures c.infer_clauses_and_body.ensures

pub infer_each_part-infer_kind-requires : goal.infer_each_part-infer_kind-requires
infer_each_part-infer_kind-requires t c =
    let h = rw (sym c.expr-item.is) at (item_weight c.args.exprs.now c.loop-expr.expr-index c.expr-item.result c.loop-expr-test.true) in
    (omega (arith, h), tt)

pub infer_each_part-loop-expr-preserved : goal.infer_each_part-loop-expr-preserved
infer_each_part-loop-expr-preserved t c =
    each_more (type_in c.args.context.now) (names_in c.args.names.now) c.args.exprs.now c.loop-expr.expr-index c.expr-item.result c.loop-expr.all _ c.in_ok-found.found c.loop-expr-test.true c.expr-item.is c.loop-expr.invariant c.in_ok-found.ensures c.in_ok-all.ensures

pub infer_fold_parts-returns-in_default : goal.infer_fold_parts-returns-in_default
infer_fold_parts-returns-in_default t c =
    fold_no_list (type_in c.args.context.now) c.args.name.now c.args.list.now c.args.acc.now c.args.first.now c.args.body.now (names_in c.args.names.now) _ _ _ _ _ c.new.ensures (rw c.get.ensures at c.in_ok-found.ensures) c.in_ok-all.ensures (sym c.in_default.is ∙ c.in_ok-item.ensures) (rw c.get-2.ensures at c.in_ok-found-2.ensures) c.with_found_part-in_default.ensures

pub infer_fold_parts-returns-in-Blamed : goal.infer_fold_parts-returns-in-Blamed
infer_fold_parts-returns-in-Blamed t c =
    fold_no_first (type_in c.args.context.now) c.args.name.now c.args.list.now c.args.acc.now c.args.first.now c.args.body.now (names_in c.args.names.now) _ _ _ c.in-Blamed.blames _ c.new.ensures (rw c.get.ensures at c.in_ok-found.ensures) c.in_ok-all.ensures (rw (c.get-2.ensures, c.in-Blamed.is) at c.in_ok-found-2.ensures) c.with_found_part-in-Blamed.ensures

pub infer_fold_parts-returns : goal.infer_fold_parts-returns
infer_fold_parts-returns t c =
    fold_goes (type_in c.args.context.now) c.args.name.now c.args.list.now c.args.acc.now c.args.first.now c.args.body.now (names_in c.args.names.now) _ _ _ _ _ _ _ c.new.ensures (rw c.get.ensures at c.in_ok-found.ensures) c.in_ok-all.ensures (sym c.in-Some.is ∙ c.in_ok-item.ensures) (rw (c.get-2.ensures, c.in-Kind.is) at c.in_ok-found-2.ensures) c.in_ok-with_found_part-in-Kind.ensures (rw (c.get-in-Kind.ensures, c.as_bytes.ensures, c.as_bytes-in-Kind.ensures) at c.in_ok-found-in-Kind.ensures) _ c.with_found_part-in-Kind-2.ensures

pub infer_in_clause-returns-in-Some : goal.infer_in_clause-returns-in-Some
infer_in_clause-returns-in-Some t c =
    ok_in (type_in c.args.context.now) (names_in c.args.names.now) c.args.list.now c.args.rest.now c.args.body.now c.args.name.now _ c.args.all _ _ _ c.in_ok-found.ensures c.in_ok-all.ensures (sym c.in-Some.is ∙ c.in_ok-item.ensures) c.infer_clauses_and_body.ensures

pub infer_in_clause-returns-in-None : goal.infer_in_clause-returns-in-None
infer_in_clause-returns-in-None t c =
    in_ends (type_in c.args.context.now) (names_in c.args.names.now) c.args.list.now c.args.rest.now c.args.body.now c.args.all _ _ c.in_ok-found.ensures c.in_ok-all.ensures c.args.name.now (sym c.in-None.is ∙ c.in_ok-item.ensures)

pub infer_let_parts-returns-in-Blamed : goal.infer_let_parts-returns-in-Blamed
infer_let_parts-returns-in-Blamed t c =
    ok_let_ill (type_in c.args.context.now) c.args.name.now c.args.bound.now c.args.body.now (names_in c.args.names.now) c.in-Blamed.blames _ _ c.new-none.ensures (rw (c.get.ensures, c.in-Blamed.is) at c.in_ok-found.ensures) c.with_found_part.ensures

pub infer_let_parts-returns-in_ok-with_found_part-in-Kind : goal.infer_let_parts-returns-in_ok-with_found_part-in-Kind
infer_let_parts-returns-in_ok-with_found_part-in-Kind t c =
    ok_let (type_in c.args.context.now) c.args.name.now c.args.bound.now c.args.body.now (names_in c.args.names.now) c.in-Kind.kind _ _ _ _ c.new-none.ensures (rw (c.get.ensures, c.in-Kind.is) at c.in_ok-found.ensures) (rw (c.get-in-Kind.ensures, c.as_bytes.ensures) at c.in_ok-found-in-Kind.ensures) c.in_ok-with_found_part-in-Kind.ensures c.with_found_part-in-Kind-2.ensures

pub infer_one_part-returns : goal.infer_one_part-returns
infer_one_part-returns t c =
    ok_one (type_in c.args.context.now) (names_in c.args.names.now) c.args.expr.now _ _ _ c.new.ensures (rw c.get.ensures at c.in_ok-found.ensures) c.with_found_part.ensures

pub infer_two_parts-returns : goal.infer_two_parts-returns
infer_two_parts-returns t c =
    ok_more (type_in c.args.context.now) _ _ (names_in c.args.names.now) c.args.second.now _ _ c.in_ok-all.ensures (rw c.get.ensures at c.in_ok-found.ensures) c.with_found_part.ensures

pub infer_three_parts-returns : goal.infer_three_parts-returns
infer_three_parts-returns t c =
    ok_more (type_in c.args.context.now) _ _ (names_in c.args.names.now) c.args.third.now _ _ c.in_ok-all.ensures (rw c.get.ensures at c.in_ok-found.ensures) c.with_found_part.ensures
