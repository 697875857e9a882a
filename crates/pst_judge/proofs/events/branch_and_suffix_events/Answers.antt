use Rattle.std.proofs.Common.{◌≡◌, ◌+◌, length, ap, ◌∙◌, arith}
use Rattle.pst_case.specs.Shape.{joined, before_suffix}
use Rattle.pst_judge.proofs.Fitted.{prefix_within, branches_within, suffix_within}
use Rattle.pst_judge.proofs.events.branch_and_suffix_events.Goals as goal

pub overflow_cast-number : goal.overflow_cast-number
overflow_cast-number g c =
    let h = prefix_within (g.C.Callbacks.model c.args.callbacks.now) c.args.shaped.now.case c.requires.shape in
    let n : c.len.result ≡ length c.args.shaped.now.case.prefix = c.len.ensures ∙ ap (λ x. length x.prefix) c.case-case.ensures.same in
    omega (arith, h, n)

pub overflow_add-number : goal.overflow_add-number
overflow_add-number g c =
    let h = prefix_within (g.C.Callbacks.model c.args.callbacks.now) c.args.shaped.now.case c.requires.shape in
    let n : c.len.result ≡ length c.args.shaped.now.case.prefix = c.len.ensures ∙ ap (λ x. length x.prefix) c.case-case.ensures.same in
    omega (arith, h, n)

pub branches_events-requires : goal.branches_events-requires
branches_events-requires g c =
    let h = prefix_within (g.C.Callbacks.model c.args.callbacks.now) c.args.shaped.now.case c.requires.shape in
    let k = branches_within (g.C.Callbacks.model c.args.callbacks.now) c.args.shaped.now.case c.requires.shape in
    let n : c.len.result ≡ length c.args.shaped.now.case.prefix = c.len.ensures ∙ ap (λ x. length x.prefix) c.case-case.ensures.same in
    let b : length (joined c.as_slice-commands.result.now) ≡ length (joined c.args.shaped.now.case.branches) = ap (λ x. length (joined x)) c.as_slice-commands.ensures ∙ ap (λ x. length (joined x.branches)) c.case-case.ensures.same in
    omega (arith, h, k, n, b)

pub number_after-number-requires : goal.number_after-number-requires
number_after-number-requires g c =
    let h = prefix_within (g.C.Callbacks.model c.args.callbacks.now) c.args.shaped.now.case c.requires.shape in
    let k = branches_within (g.C.Callbacks.model c.args.callbacks.now) c.args.shaped.now.case c.requires.shape in
    let n : c.len.result ≡ length c.args.shaped.now.case.prefix = c.len.ensures ∙ ap (λ x. length x.prefix) c.case-case.ensures.same in
    let b : length (joined c.as_slice-commands.result.now) ≡ length (joined c.args.shaped.now.case.branches) = ap (λ x. length (joined x)) c.as_slice-commands.ensures ∙ ap (λ x. length (joined x.branches)) c.case-case.ensures.same in
    omega (arith, h, k, n, b)

pub append_events_while_replies_are_values-requires : goal.append_events_while_replies_are_values-requires
append_events_while_replies_are_values-requires g c =
    let h = prefix_within (g.C.Callbacks.model c.args.callbacks.now) c.args.shaped.now.case c.requires.shape in
    let k = branches_within (g.C.Callbacks.model c.args.callbacks.now) c.args.shaped.now.case c.requires.shape in
    let w = suffix_within (g.C.Callbacks.model c.args.callbacks.now) c.args.shaped.now.case c.requires.shape in
    let n : c.len.result ≡ length c.args.shaped.now.case.prefix = c.len.ensures ∙ ap (λ x. length x.prefix) c.case-case.ensures.same in
    let b : length (joined c.as_slice-commands.result.now) ≡ length (joined c.args.shaped.now.case.branches) = ap (λ x. length (joined x)) c.as_slice-commands.ensures ∙ ap (λ x. length (joined x.branches)) c.case-case.ensures.same in
    let s : length c.as_slice-commands-2.result.now ≡ length c.args.shaped.now.case.suffix = ap (λ x. length x) c.as_slice-commands-2.ensures ∙ ap (λ x. length x.suffix) c.case-case.ensures.same in
    omega (arith, h, k, w, n, b, s, c.number_after-number.ensures)

pub returns-clause-events : goal.returns-clause-events
returns-clause-events g c =
    let n : c.len.result ≡ length c.args.shaped.now.case.prefix = c.len.ensures ∙ ap (λ x. length x.prefix) c.case-case.ensures.same in
    rw (c.new.ensures, c.as_slice-commands.ensures, c.as_slice-replies.ensures, c.requires.results, n, c.case-case.ensures.same) at c.in_ok-events.ensures

pub returns-clause-suffix : goal.returns-clause-suffix
returns-clause-suffix g c =
    let n : c.len.result ≡ length c.args.shaped.now.case.prefix = c.len.ensures ∙ ap (λ x. length x.prefix) c.case-case.ensures.same in
    let b : length (joined c.as_slice-commands.result.now) ≡ length (joined c.args.shaped.now.case.branches) = ap (λ x. length (joined x)) c.as_slice-commands.ensures ∙ ap (λ x. length (joined x.branches)) c.case-case.ensures.same in
    let number : c.number_after-number.result ≡ 1 + before_suffix c.args.shaped.now.case = omega (arith, n, b, c.number_after-number.ensures) in
    rw (c.new-2.ensures, c.as_slice-commands-2.ensures, c.as_slice-replies-2.ensures, c.requires.results, number, c.case-case.ensures.same) at c.in_ok-suffix.ensures
