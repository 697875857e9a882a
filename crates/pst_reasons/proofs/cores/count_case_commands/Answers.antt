use Rattle.std.proofs.Common.{◌≡◌, length, ap, ◌∙◌, arith}
use Rattle.pst_case.specs.Shape.{joined}
use Rattle.pst_judge.proofs.Fitted.{prefix_within, branches_within, suffix_within}
use Rattle.pst_reasons.proofs.cores.count_case_commands.Goals as goal

pub count_branch_commands-letters-requires : goal.count_branch_commands-letters-requires
count_branch_commands-letters-requires c =
    let k = branches_within c.args.shaped.now.model c.args.shaped.now.case c.case-case.ensures.shape in
    let b : length (joined c.as_slice-branches.result.now) ≡ length (joined c.args.shaped.now.case.branches) = ap (λ x. length (joined x)) c.as_slice-branches.ensures ∙ ap (λ x. length (joined x.branches)) c.case-case.ensures.same in
    omega (arith, k, b)

pub overflow_add-result : goal.overflow_add-result
overflow_add-result c =
    let h = prefix_within c.args.shaped.now.model c.args.shaped.now.case c.case-case.ensures.shape in
    let k = branches_within c.args.shaped.now.model c.args.shaped.now.case c.case-case.ensures.shape in
    let w = suffix_within c.args.shaped.now.model c.args.shaped.now.case c.case-case.ensures.shape in
    let n : c.len-prefix.result ≡ length c.args.shaped.now.case.prefix = c.len-prefix.ensures ∙ ap (λ x. length x.prefix) c.case-case.ensures.same in
    let b : length (joined c.as_slice-branches.result.now) ≡ length (joined c.args.shaped.now.case.branches) = ap (λ x. length (joined x)) c.as_slice-branches.ensures ∙ ap (λ x. length (joined x.branches)) c.case-case.ensures.same in
    let u : c.len-suffix.result ≡ length c.args.shaped.now.case.suffix = c.len-suffix.ensures ∙ ap (λ x. length x.suffix) c.case-case.ensures.same in
    omega (arith, h, k, w, n, b, u, c.count_branch_commands-letters.ensures)

pub overflow_add-result-2 : goal.overflow_add-result-2
overflow_add-result-2 c =
    let h = prefix_within c.args.shaped.now.model c.args.shaped.now.case c.case-case.ensures.shape in
    let k = branches_within c.args.shaped.now.model c.args.shaped.now.case c.case-case.ensures.shape in
    let w = suffix_within c.args.shaped.now.model c.args.shaped.now.case c.case-case.ensures.shape in
    let n : c.len-prefix.result ≡ length c.args.shaped.now.case.prefix = c.len-prefix.ensures ∙ ap (λ x. length x.prefix) c.case-case.ensures.same in
    let b : length (joined c.as_slice-branches.result.now) ≡ length (joined c.args.shaped.now.case.branches) = ap (λ x. length (joined x)) c.as_slice-branches.ensures ∙ ap (λ x. length (joined x.branches)) c.case-case.ensures.same in
    let u : c.len-suffix.result ≡ length c.args.shaped.now.case.suffix = c.len-suffix.ensures ∙ ap (λ x. length x.suffix) c.case-case.ensures.same in
    omega (arith, h, k, w, n, b, u, c.count_branch_commands-letters.ensures)

pub overflow_cast-result : goal.overflow_cast-result
overflow_cast-result c =
    let h = prefix_within c.args.shaped.now.model c.args.shaped.now.case c.case-case.ensures.shape in
    let k = branches_within c.args.shaped.now.model c.args.shaped.now.case c.case-case.ensures.shape in
    let w = suffix_within c.args.shaped.now.model c.args.shaped.now.case c.case-case.ensures.shape in
    let n : c.len-prefix.result ≡ length c.args.shaped.now.case.prefix = c.len-prefix.ensures ∙ ap (λ x. length x.prefix) c.case-case.ensures.same in
    let b : length (joined c.as_slice-branches.result.now) ≡ length (joined c.args.shaped.now.case.branches) = ap (λ x. length (joined x)) c.as_slice-branches.ensures ∙ ap (λ x. length (joined x.branches)) c.case-case.ensures.same in
    let u : c.len-suffix.result ≡ length c.args.shaped.now.case.suffix = c.len-suffix.ensures ∙ ap (λ x. length x.suffix) c.case-case.ensures.same in
    omega (arith, h, k, w, n, b, u, c.count_branch_commands-letters.ensures)
