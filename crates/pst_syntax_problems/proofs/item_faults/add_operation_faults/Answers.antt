use Rattle.std.proofs.Common.{ℕ, Bool, [], map, sym, ap, ◌∙◌}
use Rattle.std.specs.Prelude.{nat_lt}
use Rattle.std.specs.List.{list_any}
use Rattle.pst_model.specs.Names.{is_name}
use Rattle.pst_syntax.specs.Faults.{name_faults}
use Rattle.pst_syntax.specs.Limits.{max_declared}
use Rattle.pst_syntax.specs.ModelFaults.{has_room, is_op, is_op_named}
use Rattle.pst_syntax.specs.ShownItems.{shown_item_option}
use Rattle.pst_syntax.specs.declared.fault.FaultKind.TheVariants.{OverLimit}
use Rattle.pst_syntax_problems.specs.Placed.{below, placed}
use Rattle.pst_syntax_problems.specs.PlacedModel.{params_faults_at, whole_ty_at, callbacks_faults_at}
use Rattle.pst_syntax_problems.specs.SeenShapes.{items_in}
use Rattle.pst_syntax_problems.specs.declared.fault.Role.TheVariants as role
use Rattle.pst_syntax_problems.proofs.Seen.{any_shown, count_shown}
use Rattle.pst_syntax_problems.proofs.Walks.{declared}
use Rattle.pst_syntax_problems.proofs.item_faults.add_operation_faults.Goals as goal

pub returns : goal.returns
returns c =
    let maps = c.args.walk.has_maps in
    let path = c.args.path.now in
    let shape = c.args.shape.now in
    let seen = items_in c.args.seen.now in
    declared c.args.walk.limit path role.Item OverLimit
    (λ (is_lawful is_taken : Bool). map (placed (below path 1) role.ItemName) (name_faults is_lawful is_taken shape.name.now))
    (params_faults_at maps (below path 2) shape.params.now) (whole_ty_at maps (below path 3) shape.result.now) (callbacks_faults_at maps [] path 4 shape.callbacks.now)
    c.has_room_for_operation-has_room.result c.is_name.result c.has_operation_named.result (has_room is_op seen) (is_name shape.name.now) (list_any (is_op_named shape.name.now) seen)
    c.args.faults.now c.add_signature_and_limit_faults.new.faults c.add_faults_of_callbacks_and_missing_ones.new.faults
    (c.has_room_for_operation-has_room.ensures ∙ ap (λ (n : ℕ). nat_lt n max_declared) (sym (count_shown is_op shown_item_option c.args.seen.now)))
    c.is_name.ensures (c.has_operation_named.ensures ∙ sym (any_shown (is_op_named shape.name.now) shown_item_option c.args.seen.now))
    c.in_ok-add_signature_and_limit_faults.ensures c.in_ok-add_faults_of_callbacks_and_missing_ones.ensures
