-- The commands of a shaped case call operations of the model.
use Rattle.std.proofs.Common.{◌≡◌, not, ℕ, ◌+◌, Bool, true, false, List, [], ◌∷◌, length, Option, Some, None, refl}
use Rattle.std.specs.Prelude.{if◌then◌else◌, ◌&&◌}
use Rattle.std.specs.List.{list_all}
use Rattle.pst_case.specs.Shape.{before_suffix, result_types, part_fault, branches_fault, commands_fault, shape_fault, over_limit, IsShaped}
use Rattle.pst_case.specs.declared.case.Case.{Case}
use Rattle.pst_case.specs.declared.case.Command.{Command}
use Rattle.pst_driver.proofs.Arguments.{part_none}
use Rattle.pst_judge.proofs.NoFault.{if_none, or_else_none}
use Rattle.pst_driver.specs.Progress.{calls_known, all_known}
use Rattle.pst_model.specs.declared.model.Source.{Source}
use Rattle.pst_value.specs.declared.ty.Ty.{Ty}

-- ---- the first of the commands, and the others

pub known_first : (p q : Bool) → (p && q) ≡ true → p ≡ true
known_first true q h = refl
known_first false q h = absurd (cc)

pub known_later : (p q : Bool) → (p && q) ≡ true → q ≡ true
known_later true q h = h
known_later false q h = absurd (cc)

both : (p q : Bool) → p ≡ true → q ≡ true → (p && q) ≡ true
both true q e h = h
both false q e h = absurd (cc)

-- ---- commands without a fault

no_unknown : {A : Type 0} (b : Bool) (k : A) (o : Option A) → (if not b then Some k else o) ≡ None → b ≡ true
no_unknown true k o h = refl
no_unknown false k o h = absurd (cc)

module _ (m : Source) (vars : List Ty) (p : ℕ) where
  part_known : (b n : ℕ) (cs : List Command) → part_fault m vars p b n cs ≡ None → all_known m cs ≡ true
  part_known b n [] h = refl
  part_known b n (c ∷ cs) h =
      let e = part_none m vars p b n c cs h in
      both (calls_known m c) (all_known m cs) (no_unknown (calls_known m c) _ _ e.0) (part_known b (n + 1) cs e.1)

  branches_known : (b : ℕ) (bs : List (List Command)) → branches_fault m vars p b bs ≡ None → list_all (all_known m) bs ≡ true
  branches_known b [] h = refl
  branches_known b (c ∷ cs) h =
      let e = or_else_none _ _ h in
      both (all_known m c) (list_all (all_known m) cs) (part_known b (b + 1) c e.0) (branches_known (b + length c) cs e.1)

-- ---- a shaped case

module _ (m : Source) (c : Case) (shaped : IsShaped m c) where
  no_fault : commands_fault m c ≡ None
  unfolding shape_fault
  no_fault = (if_none (over_limit c) _ (commands_fault m c) shaped).1

  abbrev vars : List Ty
  vars = result_types m c

  -- no part of it has a fault
  pub faultless : (part_fault m vars (length c.prefix) 0 1 c.prefix ≡ None)
      × ((branches_fault m vars (length c.prefix) (length c.prefix) c.branches ≡ None)
      × (part_fault m vars (length c.prefix) 0 (before_suffix c + 1) c.suffix ≡ None))
  faultless =
      let h = or_else_none _ _ no_fault in
      let k = or_else_none _ _ h.1 in
      (h.0, (k.0, k.1))

  pub prefix_known : all_known m c.prefix ≡ true
  prefix_known = part_known m vars (length c.prefix) 0 1 c.prefix faultless.0

  pub each_branch_known : list_all (all_known m) c.branches ≡ true
  each_branch_known = branches_known m vars (length c.prefix) (length c.prefix) c.branches faultless.1.0

  pub suffix_known : all_known m c.suffix ≡ true
  suffix_known = part_known m vars (length c.prefix) 0 (before_suffix c + 1) c.suffix faultless.1.1
