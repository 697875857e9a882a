use Rattle.std.proofs.Common.{◌≡◌, unsigned_abs, w64, sym, ap, refl, ◌∙◌, inl, inr, rules}
use Rattle.std.proofs.lemmas.Int.{to_z-of_z}
use mir.Val.{SFits}
use Rattle.pst_model.specs.declared.expr.Binary.{Binary}
use Rattle.pst_model.specs.declared.expr.Binary.TheVariants.{Less, LessEqual, Equal, Same, Has}
use Rattle.pst_model.specs.declared.expr.Expr.TheVariants as expr
use Rattle.pst_eval.proofs.Bounding.{binary_less, binary_less_equal, binary_equal, binary_same, binary_has}
use Rattle.pst_eval.proofs.Reaching.{reaches_as, some_as, some_name, some_let, both, some_if, all_more, some_tuple, some_at, some_add, some_sub, some_append, reaches_del, reaches_test, some_put, reaches_not, some_len, reaches_int, reaches_bool, reaches_text, reaches_and, reaches_or, reaches_list, reaches_map, IsTest}
use Rattle.pst_eval.proofs.reach.+reach.Goals as goal

pub reach_of_expression-returns-in-Int : goal.reach_of_expression-returns-in-Int
reach_of_expression-returns-in-Int t c =
    let fits : SFits w64 c.in-Int.n = search rules in
    reaches_as c.args.names.now _ _ _ _ c.in-Int.is (c.unsigned_abs.ensures.value ∙ ap unsigned_abs (to_z-of_z w64 c.in-Int.n fits)) (reaches_int c.args.names.now c.in-Int.n)

pub reach_of_expression-returns-in-Text : goal.reach_of_expression-returns-in-Text
reach_of_expression-returns-in-Text t c = reaches_as c.args.names.now _ _ _ _ c.in-Text.is c.len.ensures (reaches_text c.args.names.now _)

pub reach_of_expression-returns-in-Name : goal.reach_of_expression-returns-in-Name
reach_of_expression-returns-in-Name t c =
    some_as c.args.names.now _ _ _ c.in-Name.is (some_name c.args.names.now c.in-Name.name _ (rw c.as_bytes.ensures at c.reach_of_name.ensures))

pub reach_of_expression-returns-in_ok-reach_of_expression-in-If : goal.reach_of_expression-returns-in_ok-reach_of_expression-in-If
reach_of_expression-returns-in_ok-reach_of_expression-in-If t c =
    some_as c.args.names.now _ _ _ c.in-If.is (some_if c.args.names.now c.in-If.condition c.in-If.yes c.in-If.no _ _
    (rw c.get-in-If.ensures at c.in_ok-reach_of_expression-in-If.ensures) (rw (c.get-in-If-2.ensures, c.get-in-If-3.ensures) at c.reach_of_either.ensures))

pub reach_of_expression-returns-in-Tuple : goal.reach_of_expression-returns-in-Tuple
reach_of_expression-returns-in-Tuple t c =
    some_as c.args.names.now _ _ _ c.in-Tuple.is (some_tuple c.args.names.now c.in-Tuple.items _ (rw c.as_slice.ensures at c.reach_of_all.ensures))

pub reach_of_expression-returns-in-At : goal.reach_of_expression-returns-in-At
reach_of_expression-returns-in-At t c =
    some_as c.args.names.now _ _ _ c.in-At.is (some_at c.args.names.now c.in-At.tuple c.in-At.field-1 _ (rw c.get-in-At.ensures at c.reach_of_expression-in-At.ensures))

pub reach_of_expression-returns-in_ok-reach_of_all-in-List : goal.reach_of_expression-returns-in_ok-reach_of_all-in-List
reach_of_expression-returns-in_ok-reach_of_all-in-List t c =
    reaches_as c.args.names.now _ _ _ _ c.in-List.is c.len-in-List.ensures (reaches_list c.args.names.now c.in-List.field-0 c.in-List.items _ (rw c.as_slice-in-List.ensures at c.in_ok-reach_of_all-in-List.ensures))

pub reach_of_expression-returns-in-Bool : goal.reach_of_expression-returns-in-Bool
reach_of_expression-returns-in-Bool t c = elim c.in-Bool.is [
  | inl b ↦ reaches_as c.args.names.now _ _ _ _ b.1 refl (reaches_bool c.args.names.now b.0)
  | inr map ↦ reaches_as c.args.names.now _ _ _ _ map.2 refl (reaches_map c.args.names.now map.0 map.1)
]

pub reach_of_expression-returns-in-Bool-2 : goal.reach_of_expression-returns-in-Bool-2
reach_of_expression-returns-in-Bool-2 t c = elim c.in-Bool.is [
  | inl b ↦ reaches_as c.args.names.now _ _ _ _ b.1 refl (reaches_bool c.args.names.now b.0)
  | inr map ↦ reaches_as c.args.names.now _ _ _ _ map.2 refl (reaches_map c.args.names.now map.0 map.1)
]

pub reach_of_expression-returns-in_ok-reach_of_either-in-And :
    goal.reach_of_expression-returns-in_ok-reach_of_either-in-And
reach_of_expression-returns-in_ok-reach_of_either-in-And t c =
    let each = rw (c.get-in-And.ensures, c.get-in-And-2.ensures) at c.in_ok-reach_of_either-in-And.ensures in
    elim c.in-And.is [
      | inl e ↦ reaches_as c.args.names.now _ _ _ _ e refl (reaches_and c.args.names.now c.in-And.a c.in-And.b _ _ each.0 each.1)
      | inr e ↦ reaches_as c.args.names.now _ _ _ _ e refl (reaches_or c.args.names.now c.in-And.a c.in-And.b _ _ each.0 each.1)
    ]

pub reach_of_all-returns-in_ok-reach_of_all-in-Some :
    goal.reach_of_all-returns-in_ok-reach_of_all-in-Some
reach_of_all-returns-in_ok-reach_of_all-in-Some t c =
    all_more c.args.names.now _ _ _ _ _ _ c.in-Some.ensures.cases.0 c.greater.ensures c.in_ok-reach-in-Some.ensures c.in_ok-reach_of_all-in-Some.ensures

pub reach_of_binary-returns-in-Add : goal.reach_of_binary-returns-in-Add
reach_of_binary-returns-in-Add t c = elim c.in-Add.is [
  | inl e ↦ some_as c.args.names.now _ _ _ (ap (λ op. expr.Binary op c.args.a.now c.args.b.now) e) (some_add c.args.names.now _ _ _ _ _ c.in_ok-first.ensures c.in_ok-second.ensures c.sum_if_at_most.ensures)
  | inr e ↦ some_as c.args.names.now _ _ _ (ap (λ op. expr.Binary op c.args.a.now c.args.b.now) e) (some_sub c.args.names.now _ _ _ _ _ c.in_ok-first.ensures c.in_ok-second.ensures c.sum_if_at_most.ensures)
]

pub reach_of_binary-returns-in-Append : goal.reach_of_binary-returns-in-Append
reach_of_binary-returns-in-Append t c =
    some_as c.args.names.now _ _ _ (ap (λ op. expr.Binary op c.args.a.now c.args.b.now) c.in-Append.is) (some_append c.args.names.now _ _ _ _ _ c.in_ok-first.ensures c.in_ok-second.ensures c.sum_if_at_most-in-Append.ensures)

pub reach_of_binary-returns-in-Del : goal.reach_of_binary-returns-in-Del
reach_of_binary-returns-in-Del t c =
    reaches_as c.args.names.now _ _ _ _ (ap (λ op. expr.Binary op c.args.a.now c.args.b.now) c.in-Del.is) refl (reaches_del c.args.names.now _ _ _ _ c.in_ok-first.ensures c.in_ok-second.ensures)

pub reach_of_binary-returns-in-Less : goal.reach_of_binary-returns-in-Less
reach_of_binary-returns-in-Less t c =
    let test = λ (op : Binary) (e : c.args.operator ≡ op) (f : IsTest c.args.names.now op).
    reaches_as c.args.names.now _ _ 0 0 (ap (λ op. expr.Binary op c.args.a.now c.args.b.now) e) refl (reaches_test c.args.names.now op _ _ _ _ f c.in_ok-first.ensures c.in_ok-second.ensures) in
    elim c.in-Less.is [
      | inl e ↦ test Less e binary_less
      | inr others ↦ elim others [
        | inl e ↦ test LessEqual e binary_less_equal
        | inr others ↦ elim others [
          | inl e ↦ test Equal e binary_equal
          | inr others ↦ elim others [ inl e ↦ test Same e binary_same | inr e ↦ test Has e binary_has ]
        ]
      ]
    ]

pub reach_of_either-returns : goal.reach_of_either-returns
reach_of_either-returns t c =
    both c.args.names.now c.args.a.now c.args.b.now c.in_ok-first.first c.in_ok-second.second _ c.greater.ensures c.in_ok-first.ensures c.in_ok-second.ensures

pub reach_of_let-returns : goal.reach_of_let-returns
reach_of_let-returns t c =
    some_let c.args.names.now c.args.name.now c.args.value.now c.args.body.now c.as_bytes.result (record { ref_ptr = c.args.names.ref_ptr; now = tt }) c.in_ok-reach.reach c.reach_of_expression-2.result (sym c.as_bytes.ensures) c.in_ok-reach.ensures c.reach_of_expression-2.ensures

pub reach_of_put-returns : goal.reach_of_put-returns
reach_of_put-returns t c =
    some_put c.args.names.now _ _ _ c.in_ok-reach.reach _ _ _ c.in_ok-reach.ensures c.in_ok-reach_of_expression.ensures c.in_ok-reach_of_expression-2.ensures c.sum_if_at_most.ensures

pub reach_of_unary-returns-in-Not : goal.reach_of_unary-returns-in-Not
reach_of_unary-returns-in-Not t c =
    reaches_as c.args.names.now _ _ _ _ (ap (λ op. expr.Unary op c.args.operand.now) c.in-Not.is) refl (reaches_not c.args.names.now _ _ c.in_ok-reach.ensures)

pub reach_of_unary-returns-in-Len : goal.reach_of_unary-returns-in-Len
reach_of_unary-returns-in-Len t c =
    some_as c.args.names.now _ _ _ (ap (λ op. expr.Unary op c.args.operand.now) c.in-Len.is) (some_len c.args.names.now _ _ _ c.in_ok-reach.ensures c.sum_if_at_most.ensures)
