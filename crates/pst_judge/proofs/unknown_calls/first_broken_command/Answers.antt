use Rattle.std.proofs.Common.{◌≡◌, length, ap, arith}
use Rattle.pst_case.specs.Shape.{joined}
use Rattle.pst_judge.proofs.Sizes.{sizes}
use Rattle.pst_judge.proofs.unknown_calls.first_broken_command.Goals as goal

pub overflow_cast-number : goal.overflow_cast-number
overflow_cast-number g c =
    let s = sizes c.args.shaped.now.model c.case-case.result.now c.args.shaped.now.case c.case-case.ensures.same c.case-case.ensures.shape in
    omega arith

pub overflow_add-number : goal.overflow_add-number
overflow_add-number g c =
    let s = sizes c.args.shaped.now.model c.case-case.result.now c.args.shaped.now.case c.case-case.ensures.same c.case-case.ensures.shape in
    omega arith

pub first_in_part-requires-clause-numbers : goal.first_in_part-requires-clause-numbers
first_in_part-requires-clause-numbers g c =
    let s = sizes c.args.shaped.now.model c.case-case.result.now c.args.shaped.now.case c.case-case.ensures.same c.case-case.ensures.shape in
    let n : length c.as_slice-prefix.result.now ≡ length c.case-case.result.now.prefix = ap length c.as_slice-prefix.ensures in
    omega arith

pub first_in_branches-requires-clause-numbers : goal.first_in_branches-requires-clause-numbers
first_in_branches-requires-clause-numbers g c =
    let s = sizes c.args.shaped.now.model c.case-case.result.now c.args.shaped.now.case c.case-case.ensures.same c.case-case.ensures.shape in
    let b : length (joined c.as_slice-branches.result.now) ≡ length (joined c.case-case.result.now.branches) = ap (λ x. length (joined x)) c.as_slice-branches.ensures in
    omega arith

pub number_after-number-requires : goal.number_after-number-requires
number_after-number-requires g c =
    let s = sizes c.args.shaped.now.model c.case-case.result.now c.args.shaped.now.case c.case-case.ensures.same c.case-case.ensures.shape in
    let b : length (joined c.as_slice-branches.result.now) ≡ length (joined c.case-case.result.now.branches) = ap (λ x. length (joined x)) c.as_slice-branches.ensures in
    omega arith

pub first_in_part-requires-2-clause-numbers : goal.first_in_part-requires-2-clause-numbers
first_in_part-requires-2-clause-numbers g c =
    let s = sizes c.args.shaped.now.model c.case-case.result.now c.args.shaped.now.case c.case-case.ensures.same c.case-case.ensures.shape in
    let b : length (joined c.as_slice-branches.result.now) ≡ length (joined c.case-case.result.now.branches) = ap (λ x. length (joined x)) c.as_slice-branches.ensures in
    let n : length c.as_slice-3.result.now ≡ length c.case-case.result.now.suffix = ap length c.as_slice-3.ensures in
    omega arith
