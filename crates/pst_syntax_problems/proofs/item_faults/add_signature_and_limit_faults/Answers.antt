use Rattle.std.proofs.Common.{refl, ◌++◌, map}
use Rattle.pst_syntax.specs.Faults.{name_faults}
use Rattle.pst_syntax.specs.declared.fault.FaultKind.TheVariants.{OverLimit}
use Rattle.pst_syntax_problems.specs.Placed.{below, placed}
use Rattle.pst_syntax_problems.specs.PlacedModel.{params_faults_at, whole_ty_at}
use Rattle.pst_syntax_problems.specs.declared.fault.Role.TheVariants as role
use Rattle.pst_syntax_problems.proofs.Walks.{both, both_unless}
use Rattle.pst_syntax_problems.proofs.item_faults.add_signature_and_limit_faults.Goals as goal

pub returns : goal.returns
returns c =
    let limit = c.args.walk.limit in
    let maps = c.args.walk.has_maps in
    let path = c.args.path.now in
    let name = map (placed (below path 1) role.ItemName) (name_faults c.args.name.is_lawful c.args.name.is_taken c.args.name.word.now) in
    let params = params_faults_at maps (below path 2) c.args.forms.now in
    let ty = whole_ty_at maps (below path 3) c.args.ty.now in
    both_unless limit path role.Item c.args.has_room c.args.has_room OverLimit (name ++ (params ++ ty))
    c.args.faults.now c.push_fault_unless.new.faults c.add_outermost_type_faults.new.faults refl c.in_ok-push_fault_unless.ensures
    (both limit c.push_fault_unless.new.faults c.push_name_faults_at_part.new.faults c.add_outermost_type_faults.new.faults name (params ++ ty) c.in_ok-push_name_faults_at_part.ensures
    (both limit c.push_name_faults_at_part.new.faults c.add_parameter_list_faults.new.faults c.add_outermost_type_faults.new.faults params ty c.in_ok-add_parameter_list_faults.ensures c.in_ok-add_outermost_type_faults.ensures))
