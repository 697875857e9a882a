-- The commands of a shaped case are read again from what is written for them.
use Rattle.std.proofs.Common.{◌≡◌, ℕ, zero, suc, ◌+◌, ◌*◌, ◌<◌, ◌≤◌, ◌||◌, not, nat_le, Bool, true, false, length, slice_get, List, [], ◌∷◌, map, Option, Some, None, refl, sym, ap, ◌∙◌, subst, arith}
use Rattle.std.specs.Prelude.{if◌then◌else◌}
use Rattle.std.specs.List.{list_any, list_all}
use Rattle.std.proofs.lemmas.Bool.Decides.{nat_tests}
use Rattle.pst_case.specs.Shape.{holds_var, holds_reference, is_known, is_forward, is_cross, or_else, command_fault, at_command, part_fault, branches_fault}
use Rattle.pst_case.specs.declared.case.Command.{Command}
use Rattle.pst_case.specs.declared.shaping.CaseFault.{CaseFault}
use Rattle.pst_case.specs.declared.shaping.CaseFaultKind.TheVariants.{UnknownOp, BadArgument, ForwardVar, CrossVar}
use Rattle.pst_case.specs.declared.shaping.CaseFaultKind.{CaseFaultKind}
use Rattle.pst_model.specs.Fitting.{args_fit, args_fit_in}
use Rattle.pst_model.specs.Language.{KeepsLanguage, holds_map}
use Rattle.pst_model.specs.Levels as ty_levels
use Rattle.pst_model.specs.Names.{is_between, is_name_byte, is_name}
use Rattle.pst_model.specs.Operations.{HasOperations, max_levels as max_ty_levels}
use Rattle.pst_model.specs.Parts.{operation_number, operation_of, parameters_of, types_of}
use Rattle.pst_model.specs.declared.model.Op.{Op}
use Rattle.pst_model.specs.declared.model.Param.{Param}
use Rattle.pst_model.specs.declared.model.Source.{Source}
use Rattle.pst_model.proofs.Operations.{well_operation}
use Rattle.pst_model.specs.Kinds.{holds_call}
use Rattle.pst_model.specs.WellTyped.{WellModel}
use Rattle.pst_runs.specs.Commands.{present, are_present, arguments_of, spelled, command_in, command_of, commands_of}
use Rattle.pst_runs.specs.Forms.{branch_of}
use Rattle.pst_runs.specs.declared.commands.SpelledCommand.{SpelledCommand}
use Rattle.pst_runs.specs.declared.commands.SpelledCommand.TheVariants.{Whole, Partial}
use Rattle.pst_runs.specs.Values.{each, value_in, in_arguments}
use Rattle.pst_sexpr.specs.Parts.{and_then, word_of, word_at, node_of, node_at}
use Rattle.pst_sexpr.proofs.Made.{word_is_tree}
use Rattle.pst_sexpr.specs.Bytes.{is_word_byte}
use Rattle.pst_sexpr.specs.Grammar.{IsWordBytes}
use Rattle.pst_sexpr.specs.Lawful.{IsTree, AreTrees}
use Rattle.pst_sexpr.specs.Reading.{max_levels}
use Rattle.pst_sexpr.specs.declared.form.Form.TheVariants.{Word, Node, outs-Word, outs-Node}
use Rattle.pst_sexpr.specs.declared.form.Form.{Form}
use Rattle.pst_value.proofs.Holding.{list_any-map}
use Rattle.pst_value.specs.Fits.{is_ty, fits, fit_each}
use Rattle.pst_value.specs.Subst.{numbered}
use Rattle.pst_value.specs.declared.ty.Ty.{Ty}
use Rattle.pst_value.specs.declared.value.Value.{Value}
use Rattle.pst_sexpr.proofs.Numbers.{both_hold}
use Rattle.pst_runs.proofs.Sized.{Sized, AllSized, all_wider, none_sized, more_sized, word_sized, node_sized}
use Rattle.pst_runs.proofs.ValueAgain.{EachAgain, each_again}
use Rattle.pst_runs.specs.Written.{value_form, name_in, name_of, command_form, branch_form}

-- ---- the parts of a tree

pub node_is : (forms : List Form) → node_of (Node forms) ≡ Some forms
node_is forms = ap node_at (outs-Node forms)

pub word_is : (word : List ℕ) → word_of (Word word) ≡ Some word
word_is word = ap word_at (outs-Word word)

some_is : {A : Type 0} (a b : A) → Some a ≡ Some b → a ≡ b
some_is a b e = cc

and_then_some : {A B : Type 0} (o : Option A) (f : A → Option B) (b : B) → and_then o f ≡ Some b → (a : A) × (o ≡ Some a) × (f a ≡ Some b)
and_then_some None f b e = absurd (cc)
and_then_some (Some a) f b e = (a, refl, e)

-- ---- names

name_byte : (b : ℕ) → is_name_byte b ≡ true → is_word_byte b ≡ true
unfolding is_word_byte
name_byte b e = grind (arith, nat_tests)

name_bytes : (bytes : List ℕ) → list_all is_name_byte bytes ≡ true → IsWordBytes bytes
name_bytes [] e = tt
name_bytes (b ∷ bytes) e = let p = both_hold (is_name_byte b) (list_all is_name_byte bytes) e in (name_byte b p.0, name_bytes bytes p.1)

first_byte : (b : ℕ) → is_between 97 122 b ≡ true → is_word_byte b ≡ true
unfolding is_word_byte
first_byte b e = grind (arith, nat_tests)

pub name_is_tree : (name : List ℕ) → is_name name ≡ true → IsTree (Word name)
name_is_tree [] e = absurd (cc)
name_is_tree (b ∷ bytes) e =
    let p = both_hold (is_between 97 122 b) (list_all is_name_byte bytes) e in
    word_is_tree (b ∷ bytes) (omega arith) (first_byte b p.0, name_bytes bytes p.1)

-- ---- operations

shallow : (n : ℕ) → nat_le n max_ty_levels ≡ true → n ≤ 16
shallow n e = grind (arith, nat_tests)

pub room_is : (t : Ty) → nat_le (ty_levels.levels t) max_ty_levels ≡ true → ty_levels.levels t ≤ 16
room_is t e = shallow (ty_levels.levels t) e

parameters_shallow : (params : List Param) → list_all (λ param. nat_le (ty_levels.levels param.ty) max_ty_levels) params ≡ true → ty_levels.greatest (map ty_levels.levels (types_of params)) ≤ 16
parameters_shallow [] e = omega arith
parameters_shallow (param ∷ params) e =
    let p = both_hold (nat_le (ty_levels.levels param.ty) max_ty_levels) (list_all (λ param. nat_le (ty_levels.levels param.ty) max_ty_levels) params) e in
    let first = room_is param.ty p.0 in
    let rest = parameters_shallow params p.1 in
    omega arith

-- ---- variables

get_within : (types : List Ty) (n : ℕ) (t : Ty) → is_ty (slice_get types n) t ≡ true → n < length types
get_within [] n t e = absurd (cc)
get_within (first ∷ types) zero t e = omega arith
get_within (first ∷ types) (suc n) t e = let h = get_within types n t e in omega arith

pub variable_within : (types : List Ty) (n : ℕ) (t : Ty) → length types ≤ 88 → is_ty (numbered types n) t ≡ true → (true ≡ true) × (n < 10000)
variable_within types zero t h e = absurd (cc)
variable_within types (suc n) t h e = let k = get_within types n t e in (refl, omega arith)

-- ---- faults

no_fault : (a b d e f : Bool) → (if not a then Some UnknownOp else if b then Some ForwardVar else if d then Some CrossVar else if not e || f then Some BadArgument else None) ≡ None
    → (a ≡ true) × (e ≡ true) × (f ≡ false)
no_fault false b d e f h = absurd (cc)
no_fault true true d e f h = absurd (cc)
no_fault true false true e f h = absurd (cc)
no_fault true false false false f h = absurd (cc)
no_fault true false false true true h = absurd (cc)
no_fault true false false true false h = (refl, refl, refl)

pub none_either : (a b : Option CaseFault) → or_else a b ≡ None → (a ≡ None) × (b ≡ None)
none_either None b h = (refl, h)
none_either (Some a) b h = absurd (cc)

none_there : (number : ℕ) (k : Option CaseFaultKind) → at_command number k ≡ None → k ≡ None
none_there number None h = refl
none_there number (Some k) h = absurd (cc)

known_is : (o : Option Op) → is_known o ≡ true → (p : Op) × (o ≡ Some p)
known_is None h = absurd (cc)
known_is (Some p) h = (p, refl)

-- ---- commands

-- each argument spells its value
record ArgumentsRead (f : Form → Option Value) (forms : List Form) (vs : List Value) : Type 0 where
  all : are_present (map f forms) ≡ true
  values : present (map f forms) ≡ vs

one_read : (f : Form → Option Value) (form : Form) (forms : List Form) (v : Value) (vs : List Value) → f form ≡ Some v → ArgumentsRead f forms vs → ArgumentsRead f (form ∷ forms) (v ∷ vs)
one_read f form forms v vs e h =
    record {
      all = ap (λ o. are_present (o ∷ map f forms)) e ∙ h.all;
      values = ap (λ o. present (o ∷ map f forms)) e ∙ ap (λ l. v ∷ l) h.values;
    }

arguments_read : (f : Form → Option Value) (forms : List Form) (vs : List Value) → each f forms ≡ Some vs → ArgumentsRead f forms vs
arguments_read f [] vs e = record { all = refl; values = some_is [] vs e }
arguments_read f (form ∷ forms) vs e =
    let p = and_then_some (f form) (λ b. and_then (each f forms) (λ bs. Some (b ∷ bs))) vs e in
    let q = and_then_some (each f forms) (λ bs. Some (p.0 ∷ bs)) vs p.2 in
    let all = one_read f form forms p.0 q.0 p.1 (arguments_read f forms q.0 q.1) in
    subst (ArgumentsRead f (form ∷ forms)) (some_is (p.0 ∷ q.0) vs q.2) all

abbrev command : ℕ → List Value → Command
command op args = record { op = op; args = args }

-- commands, each spelled whole
abbrev pub whole_part : List Command → List SpelledCommand
whole_part cs = map (λ c. Whole c) cs

-- the tree of a command has a spelling and is read as the command, whose operation is known and whose arguments fit
pub record CommandAgain (m : Source) (c : Command) : Type 0 where
  pub operation : Op
  pub known : operation_of m.items c.op ≡ Some operation
  pub sized : Sized 33 (command_form m c)
  pub reads : command_of m (command_form m c) ≡ Some (Whole c)
  pub number : operation_number m.items (name_of m c.op) ≡ Some c.op
  pub vars : List Ty
  pub few : length vars ≤ 88
  pub fit : fit_each (map (fits vars vars (parameters_of m.items)) c.args) (types_of operation.params) ≡ true
  pub closed : list_any holds_reference c.args ≡ false
  pub trees : AreTrees (map value_form c.args)

-- so has each command of a part
pub record PartAgain (m : Source) (cs : List Command) : Type 0 where
  pub sized : AllSized 33 (map (command_form m) cs)
  pub reads : commands_of m (map (command_form m) cs) ≡ Some (whole_part cs)

abbrev pub EachCommand : Source → List Command → Type 0
EachCommand m [] = Unit {0}
EachCommand m (c ∷ cs) = CommandAgain m c × EachCommand m cs

abbrev pub EachBranch : Source → List (List Command) → Type 0
EachBranch m [] = Unit {0}
EachBranch m (b ∷ bs) = EachCommand m b × EachBranch m bs

module _ (m : Source) (model : WellModel m) (has : HasOperations m.items) (language : KeepsLanguage m) where
  args_fit_each : (vars : List Ty) (c : Command) (o : Op) → operation_of m.items c.op ≡ Some o → args_fit m vars vars c.op c.args ≡ true
      → fit_each (map (fits vars vars (parameters_of m.items)) c.args) (types_of o.params) ≡ true
  unfolding args_fit
  args_fit_each vars c o is fit = ap (λ q. args_fit_in m vars vars q c.args) (sym is) ∙ fit

  arguments_again : (vars : List Ty) (c : Command) (o : Op) → length vars ≤ 88 → operation_of m.items c.op ≡ Some o → args_fit m vars vars c.op c.args ≡ true
      → list_any holds_reference c.args ≡ false → (depth : ℕ) × (depth ≤ 32) × EachAgain (in_arguments m) depth c.args
  arguments_again vars c o few is fit closed =
      let ts = types_of o.params in
      let low = parameters_shallow o.params (has c.op o is).parameters in
      let calls : list_any (λ held. held) (map holds_call ts) ≡ false = list_any-map holds_call ts ∙ (well_operation m c.op o model is).parameters in
      let maps : m.has_maps ≡ false → list_any (λ held. held) (map holds_map ts) ≡ false = λ e. list_any-map holds_map ts ∙ (language e c.op o is).parameters in
      let fit_in = args_fit_each vars c o is fit in (
        2 * ty_levels.greatest (map ty_levels.levels ts),
        (omega arith),
        each_again (in_arguments m) vars vars (parameters_of m.items) (λ n t e. variable_within vars n t few e) c.args ts (omega arith) calls maps closed fit_in,
      )

  number_is : (c : Command) (o : Op) → operation_of m.items c.op ≡ Some o → operation_number m.items (name_of m c.op) ≡ Some c.op
  number_is c o is = ap (λ q. operation_number m.items (name_in q)) is ∙ (has c.op o is).number

  named_again : (vars : List Ty) (c : Command) (o : Op) → length vars ≤ 88 → operation_of m.items c.op ≡ Some o → args_fit m vars vars c.op c.args ≡ true
      → list_any holds_reference c.args ≡ false → CommandAgain m c
  named_again vars c o few is fit closed =
      let a = arguments_again vars c o few is fit closed in
      let again = a.2 in
      let low = a.1 in
      let name = name_of m c.op in
      let forms = map value_form c.args in
      let lawful : IsTree (Word name) = subst (λ q. IsTree (Word (name_in q))) (sym is) (name_is_tree o.name (has c.op o is).name) in
      let values = arguments_of m forms in
      let args : ArgumentsRead (value_in (in_arguments m) max_levels) forms c.args =
      arguments_read (value_in (in_arguments m) max_levels) forms c.args (again.reads max_levels (omega arith)) in
      record {
        operation = o;
        known = is;
        number = number_is c o is;
        vars = vars;
        few = few;
        fit = args_fit_each vars c o is fit;
        closed = closed;
        trees = again.sized.lawful;
        sized = node_sized (more_sized (word_sized 32 name lawful) (all_wider 32 again.sized low)) (omega arith);
        reads =
            ap (λ q. and_then q (command_in m)) (node_is (Word name ∷ forms))
            ∙ ap (λ q. and_then q (λ name. Some (spelled (operation_number m.items name) values))) (word_is name)
            ∙ ap (λ q. Some (spelled q values)) (number_is c o is)
            ∙ ap (λ b. Some (if b then Whole (command c.op (present values)) else Partial (command c.op (present values)))) args.all
            ∙ ap (λ vs. Some (Whole (command c.op vs))) args.values;
      }

  -- a command without a fault is read again
  command_again : (vars : List Ty) (prefix before number : ℕ) (c : Command) → length vars ≤ 88 → command_fault m vars prefix before number c ≡ None → CommandAgain m c
  command_again vars prefix before number c few e =
      let p = no_fault (is_known (operation_of m.items c.op)) (list_any (holds_var (is_forward number)) c.args) (list_any (holds_var (is_cross prefix before)) c.args)
      (args_fit m vars vars c.op c.args) (list_any holds_reference c.args) e in
      let k = known_is (operation_of m.items c.op) p.0 in
      named_again vars c k.0 few k.1 p.1 p.2

  pub part_again : (vars : List Ty) (prefix before number : ℕ) (cs : List Command) → length vars ≤ 88 → part_fault m vars prefix before number cs ≡ None → EachCommand m cs
  part_again vars prefix before number [] few e = tt
  part_again vars prefix before number (c ∷ cs) few e =
      let p = none_either (at_command number (command_fault m vars prefix before number c)) (part_fault m vars prefix before (number + 1) cs) e in (
        command_again vars prefix before number c few (none_there number (command_fault m vars prefix before number c) p.0),
        part_again vars prefix before (number + 1) cs few p.1,
      )

  pub branches_again : (vars : List Ty) (prefix before : ℕ) (bs : List (List Command)) → length vars ≤ 88 → branches_fault m vars prefix before bs ≡ None → EachBranch m bs
  branches_again vars prefix before [] few e = tt
  branches_again vars prefix before (b ∷ bs) few e =
      let p = none_either (part_fault m vars prefix before (before + 1) b) (branches_fault m vars prefix (before + length b) bs) e in
      (part_again vars prefix before (before + 1) b few p.0, branches_again vars prefix (before + length b) bs few p.1)

-- ---- parts

module _ (m : Source) where
  pub part_read : (cs : List Command) → EachCommand m cs → PartAgain m cs
  part_read [] h = record { sized = none_sized 33; reads = refl }
  part_read (c ∷ cs) h =
      let rest = part_read cs h.1 in
      record {
        sized = more_sized h.0.sized rest.sized;
        reads = ap (λ o. and_then o (λ b. and_then (each (command_of m) (map (command_form m) cs)) (λ bs. Some (b ∷ bs)))) h.0.reads ∙ ap (λ o. and_then o (λ bs. Some (Whole c ∷ bs))) rest.reads;
      }

  branch_read : (cs : List Command) → EachCommand m cs → branch_of m (branch_form m cs) ≡ Some (whole_part cs)
  branch_read cs h = ap (λ o. and_then o (commands_of m)) (node_is (map (command_form m) cs)) ∙ (part_read cs h).reads

  pub branches_read : (bs : List (List Command)) → EachBranch m bs → each (branch_of m) (map (branch_form m) bs) ≡ Some (map whole_part bs)
  branches_read [] h = refl
  branches_read (b ∷ bs) h =
      ap (λ o. and_then o (λ b. and_then (each (branch_of m) (map (branch_form m) bs)) (λ bs. Some (b ∷ bs)))) (branch_read b h.0)
      ∙ ap (λ o. and_then o (λ bs. Some (whole_part b ∷ bs))) (branches_read bs h.1)

  pub branches_sized : (bs : List (List Command)) → EachBranch m bs → AllSized 34 (map (branch_form m) bs)
  branches_sized [] h = none_sized 34
  branches_sized (b ∷ bs) h = more_sized (node_sized (part_read b h.0).sized (omega arith)) (branches_sized bs h.1)
