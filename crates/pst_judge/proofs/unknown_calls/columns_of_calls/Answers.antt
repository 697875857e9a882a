use Rattle.std.proofs.Common.{◌≡◌, length, ap, arith}
use Rattle.pst_case.specs.Shape.{joined}
use Rattle.pst_judge.proofs.Sizes.{sizes}
use Rattle.pst_judge.proofs.unknown_calls.columns_of_calls.Goals as goal

pub four_branch_columns-requires-clause-numbers : goal.four_branch_columns-requires-clause-numbers
four_branch_columns-requires-clause-numbers c =
    let s = sizes c.args.shaped.now.model c.case-case.result.now c.args.shaped.now.case c.case-case.ensures.same c.case-case.ensures.shape in
    omega arith

pub four_branch_columns-requires-clause-few : goal.four_branch_columns-requires-clause-few
four_branch_columns-requires-clause-few c =
    let s = sizes c.args.shaped.now.model c.case-case.result.now c.args.shaped.now.case c.case-case.ensures.same c.case-case.ensures.shape in
    s.few

pub append_unknown_events-requires : goal.append_unknown_events-requires
append_unknown_events-requires c =
    let s = sizes c.args.shaped.now.model c.case-case.result.now c.args.shaped.now.case c.case-case.ensures.same c.case-case.ensures.shape in
    let n : length c.as_slice-prefix.result.now ≡ length c.case-case.result.now.prefix = ap length c.as_slice-prefix.ensures in
    omega arith

pub overflow_cast-prefix : goal.overflow_cast-prefix
overflow_cast-prefix c =
    let s = sizes c.args.shaped.now.model c.case-case.result.now c.args.shaped.now.case c.case-case.ensures.same c.case-case.ensures.shape in
    let n : length c.as_slice-prefix.result.now ≡ length c.case-case.result.now.prefix = ap length c.as_slice-prefix.ensures in
    omega arith

pub overflow_add-prefix : goal.overflow_add-prefix
overflow_add-prefix c =
    let s = sizes c.args.shaped.now.model c.case-case.result.now c.args.shaped.now.case c.case-case.ensures.same c.case-case.ensures.shape in
    let n : length c.as_slice-prefix.result.now ≡ length c.case-case.result.now.prefix = ap length c.as_slice-prefix.ensures in
    omega arith

pub number_after-number-requires : goal.number_after-number-requires
number_after-number-requires c =
    let s = sizes c.args.shaped.now.model c.case-case.result.now c.args.shaped.now.case c.case-case.ensures.same c.case-case.ensures.shape in
    let n : length c.as_slice-prefix.result.now ≡ length c.case-case.result.now.prefix = ap length c.as_slice-prefix.ensures in
    let b : length (joined c.as_slice.result.now) ≡ length (joined c.case-case.result.now.branches) = ap (λ x. length (joined x)) c.as_slice.ensures in
    omega arith

pub append_known_events-requires : goal.append_known_events-requires
append_known_events-requires c =
    let s = sizes c.args.shaped.now.model c.case-case.result.now c.args.shaped.now.case c.case-case.ensures.same c.case-case.ensures.shape in
    let n : length c.as_slice-prefix.result.now ≡ length c.case-case.result.now.prefix = ap length c.as_slice-prefix.ensures in
    let b : length (joined c.as_slice.result.now) ≡ length (joined c.case-case.result.now.branches) = ap (λ x. length (joined x)) c.as_slice.ensures in
    let t : length c.as_slice-suffix.result.now ≡ length c.case-case.result.now.suffix = ap length c.as_slice-suffix.ensures in
    omega arith
