use Rattle.std.proofs.Common.{◌<◌, length, Some, refl, ap, sym, ◌∙◌, arith}
use Rattle.std.proofs.lemmas.Option.{slice_get_read}
use Rattle.pst_run_problems.proofs.Led.{entries_led, read_led, type_at}
use Rattle.pst_run_problems.proofs.value_fault.+first_value_fault.Goals as goal
use Rattle.pst_run_problems.proofs.value_fault.+first_value_fault.Goals.{value_fault_at_tree_number-in-Same+in_ok-found-in-Same, value_fault_at_tree_number-in-Items+in-Some+in_ok-found-in-Some, value_fault_at_tree_number-in-Items+in-None, value_fault_at_tree_number-in-Params+in-Some-get+in_ok-found-in-Some-get, value_fault_at_tree_number-in-Params+in-None-get, value_fault_at_tree_number-in-Entries+in_ok-found-in-Entries}
use Rattle.pst_run_problems.specs.ValuePlaces as spec
use Rattle.pst_run_problems.specs.declared.value_fault.WantedTypes.{WantedTypes}

pub first_value_fault_after_head-returns-in-Some : goal.first_value_fault_after_head-returns-in-Some
first_value_fault_after_head-returns-in-Some t c =
    entries_led c.args.search.now.source.now c.args.search.now.results.now _ _ _ c.args.trees.now _ _ c.in-Entries.is
    c.in-Some.is c.in_ok-found.ensures

pub value_fault_at_tree_number-returns-in_ok-prepend_tree_number_to_path-in-Some-found : goal.value_fault_at_tree_number-returns-in_ok-prepend_tree_number_to_path-in-Some-found
value_fault_at_tree_number-returns-in_ok-prepend_tree_number_to_path-in-Some-found t c =
    let z : 0 < c.args.number = omega (arith, c.if-number-eq0.false) in
    let l : c.args.number < length c.args.trees.now = omega (arith, c.if-number-trees.false) in
    let m = c.args.search.now.source.now in
    let rs = c.args.search.now.results.now in
    let role = λ (tys : WantedTypes). spec.role_at (spec.parts_in tys) c.args.trees.now c.args.number in
    let led = read_led m rs c.args.types c.args.trees.now c.args.number in
    let g = c.index-trees-number.is in
    let e = c.in_ok-prepend_tree_number_to_path-in-Some-found.ensures in
    let k = c.in-Some-found.is in
    elim c.match-types.branch [
      | value_fault_at_tree_number-in-Same+in_ok-found-in-Same w ↦
          led _ _ _ _ _ _ z l g (ap role w.in-Same.is) k w.found-is e w.in_ok-found-in-Same.ensures.place
      | value_fault_at_tree_number-in-Items+in-Some+in_ok-found-in-Some w ↦
          led (spec.IsValue (Some w.in-Some.item.now)) _ _ _ _ _ z l g
          (let there = w.in-Some.ensures.lookup in ap role w.in-Items.is
          ∙ ap spec.some_value (slice_get_read w.in-Items.items.now _ _ _ refl there.3.0 there.1)) k w.found-is e
          w.in_ok-found-in-Some.ensures.place
      | value_fault_at_tree_number-in-Items+in-None w ↦ absurd (let h = sym k ∙ w.found-is in cc)
      | value_fault_at_tree_number-in-Params+in-Some-get+in_ok-found-in-Some-get w ↦
          led (spec.IsValue (Some w.in-Some-get.param.now.ty)) _ _ _ _ _ z l g
          (let there = w.in-Some-get.ensures.lookup in ap role w.in-Params.is
          ∙ ap spec.some_value (type_at w.in-Params.params.now _ _ there.3.0 there.1)) k w.found-is e
          w.in_ok-found-in-Some-get.ensures.place
      | value_fault_at_tree_number-in-Params+in-None-get w ↦ absurd (let h = sym k ∙ w.found-is in cc)
      | value_fault_at_tree_number-in-Entries+in_ok-found-in-Entries w ↦
          led _ _ _ _ _ _ z l g (ap role w.in-Entries.is) k w.found-is e (w.in_ok-found-in-Entries.ensures _ _)
    ]
