-- Commands are read back from their JSON.
use Rattle.std.proofs.Common.{◌≡◌, ℕ, ◌<◌, ◌≤◌, true, false, length, List, [], ◌∷◌, map, Some, option_and_then, ◌+◌, nat_eq, refl, sym, ap, ◌∙◌, subst, arith}
use Rattle.std.specs.Prelude.{codes, if◌then◌else◌}
use Rattle.std.proofs.lemmas.Bool.Decides.{nat_tests}
use Rattle.std.specs.List.{list_any}
use Rattle.json.specs.Value.{items_of}
use Rattle.pst_case.specs.Shape.{holds_reference}
use Rattle.pst_case.specs.declared.case.Command.{Command}
use Rattle.pst_json_runs.proofs.SpelledBack.{if_spelled_is}
use Rattle.pst_json_runs.proofs.ValueBack.{value_back}
use Rattle.pst_json_runs.specs.Trees as read
use Rattle.pst_json_runs.specs.Written.{command_json, part_json}
use Rattle.pst_json_runs.specs.Reading.{count}
use Rattle.pst_json_runs.specs.Writing.{json_of}
use Rattle.pst_model.proofs.Operations.{well_operation}
use Rattle.pst_model.specs.Kinds.{holds_call}
use Rattle.pst_model.specs.Operations.{HasOperations}
use Rattle.pst_model.specs.Parts.{operation_of, parameters_of, types_of}
use Rattle.pst_model.specs.WellTyped.{WellModel}
use Rattle.pst_model.specs.declared.model.Param.{Param}
use Rattle.pst_model.specs.declared.model.Source.{Source}
use Rattle.pst_runs.proofs.CommandAgain.{CommandAgain, EachCommand, EachBranch, name_is_tree, variable_within}
use Rattle.pst_runs.proofs.LevelOf.{neither}
use Rattle.pst_runs.specs.Written.{value_form, name_in, name_of, command_form, branch_form, branches_forms}
use Rattle.pst_sexpr.proofs.Numbers.{both_hold}
use Rattle.pst_sexpr.specs.Lawful.{IsTree, AreTrees}
use Rattle.pst_sexpr.specs.Parts.{headed}
use Rattle.pst_sexpr.specs.declared.form.Form.TheVariants.{Word, Node}
use Rattle.pst_value.proofs.Holding.{list_any-map}
use Rattle.pst_value.specs.Fits.{fits, fit_each, is_ty}
use Rattle.pst_value.specs.Subst.{numbered}
use Rattle.pst_value.specs.declared.ty.Ty.{Ty}
use Rattle.pst_value.specs.declared.value.Value.{Value}

module _ (vars : List Ty) (ops : List (List Ty)) (few : length vars ≤ 88) where
  within : (n : ℕ) (t : Ty) → is_ty (numbered vars n) t ≡ true → n < 10000
  within n t e = (variable_within vars n t few e).1

  arguments_back : (ps : List Param) (vs : List Value) → list_any (λ held. held) (map holds_call (types_of ps)) ≡ false → list_any holds_reference vs ≡ false
      → fit_each (map (fits vars vars ops) vs) (types_of ps) ≡ true → AreTrees (map value_form vs) → read.argument_forms ps (items_of (map json_of vs)) ≡ map value_form vs
  arguments_back ps [] c r e t = refl
  arguments_back [] (v ∷ vs) c r e t = absurd (cc)
  arguments_back (p ∷ ps) (v ∷ vs) c r e t =
      let k = neither (holds_call p.ty) (list_any (λ held. held) (map holds_call (types_of ps))) c in
      let q = neither (holds_reference v) (list_any holds_reference vs) r in
      let f = both_hold (fits vars vars ops v p.ty) (fit_each (map (fits vars vars ops) vs) (types_of ps)) e in
      let rest = read.argument_forms ps (items_of (map json_of vs)) in
      ap (λ o. read.tree_or read.nothing o ∷ rest) (value_back vars vars ops within v p.ty k.0 q.0 f.0)
      ∙ ap (λ form. form ∷ rest) (if_spelled_is (value_form v) read.nothing t.0)
      ∙ ap (λ forms. value_form v ∷ forms) (arguments_back ps vs k.1 q.1 f.1 t.1)

-- the operation that a command names
pub named_is : (m : Source) (c : Command) (a : CommandAgain m c) → read.operation_named m (name_of m c.op) ≡ Some a.operation
named_is m c a = ap (option_and_then (operation_of m.items)) a.number ∙ a.known

module _ (m : Source) (model : WellModel m) (has : HasOperations m.items) where
  name_tree : (c : Command) (a : CommandAgain m c) → IsTree (Word (name_of m c.op))
  name_tree c a = subst (λ q. IsTree (Word (name_in q))) (sym a.known) (name_is_tree a.operation.name (has c.op a.operation a.known).name)

  command_back : (c : Command) → CommandAgain m c → read.command_form m (command_json m c) ≡ command_form m c
  command_back c a =
      let o = a.operation in
      let name = name_of m c.op in
      let args = items_of (map json_of c.args) in
      let calls : list_any (λ held. held) (map holds_call (types_of o.params)) ≡ false = list_any-map holds_call (types_of o.params) ∙ (well_operation m c.op o model a.known).parameters in
      ap (λ f. Node (f ∷ read.argument_forms (read.parameters_of (read.operation_named m name)) args)) (if_spelled_is (Word name) (Word (codes "?")) (name_tree c a))
      ∙ ap (λ q. Node (Word name ∷ read.argument_forms (read.parameters_of q) args)) (named_is m c a)
      ∙ ap (λ fs. Node (Word name ∷ fs)) (arguments_back a.vars (parameters_of m.items) a.few o.params c.args calls a.closed a.fit a.trees)

  pub commands_back : (cs : List Command) → EachCommand m cs → read.command_forms m (items_of (map (command_json m) cs)) ≡ map (command_form m) cs
  commands_back [] h = refl
  commands_back (c ∷ cs) h =
      ap (λ f. f ∷ read.command_forms m (items_of (map (command_json m) cs))) (command_back c h.0) ∙ ap (λ fs. command_form m c ∷ fs) (commands_back cs h.1)

  -- the commands of a part, behind a word
  pub section_back : (word : List ℕ) (cs : List Command) → EachCommand m cs → read.section m word (Some (part_json m cs)) ≡ headed word (map (command_form m) cs)
  section_back word cs h = ap (headed word) (commands_back cs h)

  each_back : (bs : List (List Command)) → EachBranch m bs → read.branch_forms m (items_of (map (part_json m) bs)) ≡ map (branch_form m) bs
  each_back [] h = refl
  each_back (b ∷ bs) h =
      ap (λ fs. Node fs ∷ read.branch_forms m (items_of (map (part_json m) bs))) (commands_back b h.0) ∙ ap (λ fs. branch_form m b ∷ fs) (each_back bs h.1)

  other_number : (n : ℕ) → nat_eq (1 + (1 + (1 + n))) 2 ≡ false
  other_number n = grind (arith, nat_tests)

  pub branches_back : (bs : List (List Command)) → EachBranch m bs → read.branches_forms m (items_of (map (part_json m) bs)) ≡ branches_forms m bs
  branches_back [] h = refl
  branches_back (b ∷ []) h = ap (λ fs. headed (codes "branches") fs ∷ []) (each_back (b ∷ []) h)
  branches_back (l ∷ r ∷ []) h =
      ap (λ f. f ∷ read.section m (codes "right") (Some (part_json m r)) ∷ []) (section_back (codes "left") l h.0)
      ∙ ap (λ f. headed (codes "left") (map (command_form m) l) ∷ f ∷ []) (section_back (codes "right") r h.1.0)
  branches_back (b ∷ c ∷ d ∷ bs) h =
      let js = items_of (map (part_json m) (b ∷ c ∷ d ∷ bs)) in
      ap (λ t. if t then read.two_forms m js else headed (codes "branches") (read.branch_forms m js) ∷ []) (other_number (count (items_of (map (part_json m) bs))))
      ∙ ap (λ fs. headed (codes "branches") fs ∷ []) (each_back (b ∷ c ∷ d ∷ bs) h)
