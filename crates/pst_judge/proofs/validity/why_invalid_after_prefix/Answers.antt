use Rattle.std.proofs.Common.{◌≡◌, ◌+◌, length, ap, ◌∙◌, arith}
use Rattle.pst_case.specs.Shape.{joined, before_suffix}
use Rattle.pst_judge.proofs.FittedCommands.{branches_asked, suffix_asked, suffix_few}
use Rattle.pst_judge.proofs.Fitted.{prefix_within, branches_within, suffix_within, lengths_within}
use Rattle.pst_judge.proofs.validity.why_invalid_after_prefix.Goals as goal

pub overflow_cast-number : goal.overflow_cast-number
overflow_cast-number g c =
    let h = prefix_within (g.C.Callbacks.model c.args.callbacks.now) c.args.shaped.now.case c.requires.shape in
    let n : c.len.result ≡ length c.args.shaped.now.case.prefix = c.len.ensures ∙ ap (λ x. length x.prefix) c.case-case.ensures.same in
    omega (arith, h, n)

pub overflow_add-number : goal.overflow_add-number
overflow_add-number g c =
    let h = prefix_within (g.C.Callbacks.model c.args.callbacks.now) c.args.shaped.now.case c.requires.shape in
    let n : c.len.result ≡ length c.args.shaped.now.case.prefix = c.len.ensures ∙ ap (λ x. length x.prefix) c.case-case.ensures.same in
    omega (arith, h, n)

pub branches_with_numbers-requires : goal.branches_with_numbers-requires
branches_with_numbers-requires g c =
    let h = prefix_within (g.C.Callbacks.model c.args.callbacks.now) c.args.shaped.now.case c.requires.shape in
    let k = branches_within (g.C.Callbacks.model c.args.callbacks.now) c.args.shaped.now.case c.requires.shape in
    let n : c.len.result ≡ length c.args.shaped.now.case.prefix = c.len.ensures ∙ ap (λ x. length x.prefix) c.case-case.ensures.same in
    let b : length (joined c.as_slice-branches.result.now) ≡ length (joined c.args.shaped.now.case.branches) = ap (λ x. length (joined x)) c.as_slice-branches.ensures ∙ ap (λ x. length (joined x.branches)) c.case-case.ensures.same in
    omega (arith, h, k, n, b)

pub number_after-number-requires : goal.number_after-number-requires
number_after-number-requires g c =
    let h = prefix_within (g.C.Callbacks.model c.args.callbacks.now) c.args.shaped.now.case c.requires.shape in
    let k = branches_within (g.C.Callbacks.model c.args.callbacks.now) c.args.shaped.now.case c.requires.shape in
    let n : c.len.result ≡ length c.args.shaped.now.case.prefix = c.len.ensures ∙ ap (λ x. length x.prefix) c.case-case.ensures.same in
    let b : length (joined c.as_slice-branches.result.now) ≡ length (joined c.args.shaped.now.case.branches) = ap (λ x. length (joined x)) c.as_slice-branches.ensures ∙ ap (λ x. length (joined x.branches)) c.case-case.ensures.same in
    omega (arith, h, k, n, b)

pub append_numbered_commands-requires : goal.append_numbered_commands-requires
append_numbered_commands-requires g c =
    let h = prefix_within (g.C.Callbacks.model c.args.callbacks.now) c.args.shaped.now.case c.requires.shape in
    let k = branches_within (g.C.Callbacks.model c.args.callbacks.now) c.args.shaped.now.case c.requires.shape in
    let w = suffix_within (g.C.Callbacks.model c.args.callbacks.now) c.args.shaped.now.case c.requires.shape in
    let n : c.len.result ≡ length c.args.shaped.now.case.prefix = c.len.ensures ∙ ap (λ x. length x.prefix) c.case-case.ensures.same in
    let b : length (joined c.as_slice-branches.result.now) ≡ length (joined c.args.shaped.now.case.branches) = ap (λ x. length (joined x)) c.as_slice-branches.ensures ∙ ap (λ x. length (joined x.branches)) c.case-case.ensures.same in
    let s : length c.as_slice.result.now ≡ length c.args.shaped.now.case.suffix = ap (λ x. length x) c.as_slice.ensures ∙ ap (λ x. length x.suffix) c.case-case.ensures.same in
    omega (arith, h, k, w, n, b, s, c.number_after-number.ensures)

pub find_first_failing_interleaving-requires-clause-commands : goal.find_first_failing_interleaving-requires-clause-commands
find_first_failing_interleaving-requires-clause-commands g c =
    let e = rw (c.new.ensures, c.as_slice-branches.ensures, c.len.ensures, c.case-case.ensures.same) at c.in_ok-commands.ensures in
    rw e (branches_asked (g.C.Callbacks.model c.args.callbacks.now) c.args.shaped.now.case c.requires.shape)

pub find_first_failing_interleaving-requires-clause-last : goal.find_first_failing_interleaving-requires-clause-last
find_first_failing_interleaving-requires-clause-last g c =
    let n : c.len.result ≡ length c.args.shaped.now.case.prefix = c.len.ensures ∙ ap (λ x. length x.prefix) c.case-case.ensures.same in
    let b : length (joined c.as_slice-branches.result.now) ≡ length (joined c.args.shaped.now.case.branches) = ap (λ x. length (joined x)) c.as_slice-branches.ensures ∙ ap (λ x. length (joined x.branches)) c.case-case.ensures.same in
    let number : c.number_after-number.result ≡ 1 + before_suffix c.args.shaped.now.case = omega (arith, n, b, c.number_after-number.ensures) in
    let e = rw (c.new-2.ensures, c.as_slice.ensures, number, c.case-case.ensures.same) at c.in_ok-suffix.ensures in
    rw e (suffix_asked (g.C.Callbacks.model c.args.callbacks.now) c.args.shaped.now.case c.requires.shape)

pub find_first_failing_interleaving-requires-clause-lengths : goal.find_first_failing_interleaving-requires-clause-lengths
find_first_failing_interleaving-requires-clause-lengths g c = lengths_within (g.C.Callbacks.model c.args.callbacks.now) c.args.shaped.now.case c.requires.shape

pub find_first_failing_interleaving-requires-clause-suffix : goal.find_first_failing_interleaving-requires-clause-suffix
find_first_failing_interleaving-requires-clause-suffix g c =
    let n : c.len.result ≡ length c.args.shaped.now.case.prefix = c.len.ensures ∙ ap (λ x. length x.prefix) c.case-case.ensures.same in
    let b : length (joined c.as_slice-branches.result.now) ≡ length (joined c.args.shaped.now.case.branches) = ap (λ x. length (joined x)) c.as_slice-branches.ensures ∙ ap (λ x. length (joined x.branches)) c.case-case.ensures.same in
    let number : c.number_after-number.result ≡ 1 + before_suffix c.args.shaped.now.case = omega (arith, n, b, c.number_after-number.ensures) in
    let e = rw (c.new-2.ensures, c.as_slice.ensures, number, c.case-case.ensures.same) at c.in_ok-suffix.ensures in
    rw e (suffix_few (g.C.Callbacks.model c.args.callbacks.now) c.args.shaped.now.case c.requires.shape)

pub returns : goal.returns
returns g c =
    let n : c.len.result ≡ length c.args.shaped.now.case.prefix = c.len.ensures ∙ ap (λ x. length x.prefix) c.case-case.ensures.same in
    let b : length (joined c.as_slice-branches.result.now) ≡ length (joined c.args.shaped.now.case.branches) = ap (λ x. length (joined x)) c.as_slice-branches.ensures ∙ ap (λ x. length (joined x.branches)) c.case-case.ensures.same in
    let number : c.number_after-number.result ≡ 1 + before_suffix c.args.shaped.now.case = omega (arith, n, b, c.number_after-number.ensures) in
    let e = rw (c.new.ensures, c.as_slice-branches.ensures, c.len.ensures, c.case-case.ensures.same) at c.in_ok-commands.ensures in
    let s = rw (c.new-2.ensures, c.as_slice.ensures, number, c.case-case.ensures.same) at c.in_ok-suffix.ensures in
    rw (e, s) at c.find_first_failing_interleaving.ensures
