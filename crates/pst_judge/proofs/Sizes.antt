-- How many commands each part of a case has that equals a shaped one.
use Rattle.std.proofs.Common.{◌≡◌, ◌≤◌, length, sym, subst}
use Rattle.pst_case.specs.Shape.{IsShaped, joined}
use Rattle.pst_case.specs.declared.case.Case.{Case}
use Rattle.pst_judge.proofs.Fitted.{branches_few, branches_within, prefix_within, suffix_within}
use Rattle.pst_model.specs.declared.model.Source.{Source}

pub record Sizes (c : Case) : Type 0 where
  pub prefix : length c.prefix ≤ 64
  pub few : length c.branches ≤ 4
  pub branches : length (joined c.branches) ≤ 16
  pub suffix : length c.suffix ≤ 8

pub sizes : (m : Source) (c d : Case) → c ≡ d → IsShaped m d → Sizes c
sizes m c d same shaped =
    let here : IsShaped m c = subst (λ (x : Case). IsShaped m x) (sym same) shaped in
    record { prefix = prefix_within m c here; few = branches_few m c here; branches = branches_within m c here; suffix = suffix_within m c here }
