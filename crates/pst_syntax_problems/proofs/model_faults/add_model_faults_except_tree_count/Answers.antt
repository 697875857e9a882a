use Rattle.std.proofs.Common.{◌≡◌, Bool, false, [], map, Option, Some, sym, ap, ◌∙◌}
use Rattle.pst_model.specs.Names.{is_name}
use Rattle.pst_syntax.specs.Faults.{name_faults}
use Rattle.pst_syntax.specs.ItemShape.{ModelShape, model_shape}
use Rattle.pst_syntax_problems.specs.Kept.{keep}
use Rattle.pst_syntax_problems.specs.Placed.{below, placed}
use Rattle.pst_syntax_problems.specs.PlacedModel.{items_faults_at, named_faults_at}
use Rattle.pst_syntax.specs.ShownItems.{shown_model, shown_model_option}
use Rattle.pst_syntax_problems.specs.declared.fault.Role.TheVariants as role
use Rattle.pst_syntax_problems.proofs.Walks.{both}
use Rattle.pst_syntax_problems.proofs.model_faults.add_model_faults_except_tree_count.Goals as goal

pub returns : goal.returns
returns c =
    let limit = c.args.walk.limit in
    let path = c.args.path.now in
    let m = shown_model c.in-Some.shape in
    let e : model_shape c.args.form.now ≡ Some m = sym c.model_shape.ensures ∙ ap shown_model_option c.in-Some.is in
    both limit c.args.faults.now c.push_name_faults_at_part.new.faults c.add_faults_of_items_and_missing_ones.new.faults
    (map (placed (below path 1) role.ModelName) (name_faults (is_name m.name) false m.name)) (items_faults_at m.has_maps [] path 2 m.items)
    (c.in_ok-push_name_faults_at_part.ensures ∙ ap (λ (is_lawful : Bool). keep limit c.args.faults.now (map (placed (below path 1) role.ModelName) (name_faults is_lawful false m.name))) c.is_name.ensures) c.in_ok-add_faults_of_items_and_missing_ones.ensures
    ∙ ap (λ (shape : Option ModelShape). keep limit c.args.faults.now (named_faults_at path shape)) (sym e)
