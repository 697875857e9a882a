use Rattle.std.proofs.Common.{length, unsigned_abs, w64, sym, ap, ◌∙◌, inl, inr, rules}
use Rattle.std.proofs.lemmas.Int.{to_z-of_z}
use mir.Val.{SFits}
use Rattle.std.proofs.lemmas.List.{length-map}
use Rattle.pst_eval.specs.Reach.{reach_of_value, farthest}
use Rattle.pst_eval.proofs.Bounding.{extent_is, greatest_extents}
use Rattle.pst_value.specs.declared.value.Value.TheOpen.{Value-F}
use Rattle.pst_value.specs.declared.value.Value.TheVariants as value
use Rattle.pst_eval.proofs.reach.+reach_of_value.Goals as goal

pub reach_of_value-returns-in-Int : goal.reach_of_value-returns-in-Int
reach_of_value-returns-in-Int t c =
    let fits : SFits w64 c.in-Int.n = search rules in
    c.unsigned_abs.ensures.value ∙ ap unsigned_abs (to_z-of_z w64 c.in-Int.n fits) ∙ sym (extent_is (Value-F.Int c.in-Int.n) _ _ c.in-Int.is (value.rolls-Int _))

pub reach_of_value-returns-in-Text : goal.reach_of_value-returns-in-Text
reach_of_value-returns-in-Text t c = c.len.ensures ∙ sym (extent_is (Value-F.Text c.in-Text.text) _ _ c.in-Text.is (value.rolls-Text _))

pub reach_of_value-returns-in-List : goal.reach_of_value-returns-in-List
reach_of_value-returns-in-List t c =
    c.len-in-List.ensures ∙ sym (extent_is (Value-F.List c.in-List.items) _ _ c.in-List.is (value.rolls-List _) ∙ length-map c.in-List.items reach_of_value)

pub reach_of_value-returns-in-Map : goal.reach_of_value-returns-in-Map
reach_of_value-returns-in-Map t c =
    c.len-in-Map.ensures ∙ ap length c.get.ensures ∙ sym (extent_is (Value-F.Map c.in-Map.keys c.in-Map.field-1) _ _ c.in-Map.is (value.rolls-Map _ _))

pub reach_of_value-returns-in-Tuple : goal.reach_of_value-returns-in-Tuple
reach_of_value-returns-in-Tuple t c =
    c.farthest.ensures ∙ ap farthest c.as_slice.ensures ∙ sym (extent_is (Value-F.Tuple c.in-Tuple.items) _ _ c.in-Tuple.is (value.rolls-Tuple _) ∙ greatest_extents c.in-Tuple.items)

pub reach_of_value-returns-in-Bool : goal.reach_of_value-returns-in-Bool
reach_of_value-returns-in-Bool t c = elim c.in-Bool.is [
  | inl b ↦ sym (extent_is (Value-F.Bool b.0) _ _ b.1 (value.rolls-Bool _))
  | inr others ↦ elim others [
    | inl var ↦ sym (extent_is (Value-F.Var var.0) _ _ var.1 (value.rolls-Var _))
    | inr calls ↦ elim calls [
      | inl ref ↦ sym (extent_is (Value-F.Ref ref.0 ref.1) _ _ ref.2 (value.rolls-Ref _ _))
      | inr call ↦ sym (extent_is (Value-F.Call call.0 call.1) _ _ call.2 (value.rolls-Call _ _))
    ]
  ]
]

pub reach_of_value-returns-in-Bool-2 : goal.reach_of_value-returns-in-Bool-2
reach_of_value-returns-in-Bool-2 t c = elim c.in-Bool.is [
  | inl b ↦ sym (extent_is (Value-F.Bool b.0) _ _ b.1 (value.rolls-Bool _))
  | inr others ↦ elim others [
    | inl var ↦ sym (extent_is (Value-F.Var var.0) _ _ var.1 (value.rolls-Var _))
    | inr calls ↦ elim calls [
      | inl ref ↦ sym (extent_is (Value-F.Ref ref.0 ref.1) _ _ ref.2 (value.rolls-Ref _ _))
      | inr call ↦ sym (extent_is (Value-F.Call call.0 call.1) _ _ call.2 (value.rolls-Call _ _))
    ]
  ]
]

pub reach_of_value-returns-in-Bool-3 : goal.reach_of_value-returns-in-Bool-3
reach_of_value-returns-in-Bool-3 t c = elim c.in-Bool.is [
  | inl b ↦ sym (extent_is (Value-F.Bool b.0) _ _ b.1 (value.rolls-Bool _))
  | inr others ↦ elim others [
    | inl var ↦ sym (extent_is (Value-F.Var var.0) _ _ var.1 (value.rolls-Var _))
    | inr calls ↦ elim calls [
      | inl ref ↦ sym (extent_is (Value-F.Ref ref.0 ref.1) _ _ ref.2 (value.rolls-Ref _ _))
      | inr call ↦ sym (extent_is (Value-F.Call call.0 call.1) _ _ call.2 (value.rolls-Call _ _))
    ]
  ]
]

pub reach_of_value-returns-in-Bool-4 : goal.reach_of_value-returns-in-Bool-4
reach_of_value-returns-in-Bool-4 t c = elim c.in-Bool.is [
  | inl b ↦ sym (extent_is (Value-F.Bool b.0) _ _ b.1 (value.rolls-Bool _))
  | inr others ↦ elim others [
    | inl var ↦ sym (extent_is (Value-F.Var var.0) _ _ var.1 (value.rolls-Var _))
    | inr calls ↦ elim calls [
      | inl ref ↦ sym (extent_is (Value-F.Ref ref.0 ref.1) _ _ ref.2 (value.rolls-Ref _ _))
      | inr call ↦ sym (extent_is (Value-F.Call call.0 call.1) _ _ call.2 (value.rolls-Call _ _))
    ]
  ]
]
