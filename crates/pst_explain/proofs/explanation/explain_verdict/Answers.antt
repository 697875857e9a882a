use Rattle.std.proofs.Common.{sym, subst, ◌∙◌}
use Rattle.pst_reasons.specs.Reasons.{IsUnexplained}
use Rattle.pst_explain.proofs.ByVerdict.{IsRefusing, is_unexplained}
use Rattle.pst_explain.proofs.explanation.explain_verdict.Goals as goal

pub explain_fault_verdict-requires-clause-unexplained : goal.explain_fault_verdict-requires-clause-unexplained
explain_fault_verdict-requires-clause-unexplained g c =
    let case = c.args.scene.now.run.now.shaped.case in
    let h = c.args.history.now in
    let m = g.C.Callbacks.model c.args.callbacks.now in
    let is = is_unexplained m case h c.args.verdict.now c.args.order (sym c.has_unknown.ensures ∙ c.if-has_unknown.false) c.requires.verdict (subst IsRefusing (sym c.in-Faulted.is) tt) in
    let ordered = subst (λ order. IsUnexplained m order case h) (sym c.in_ok-recorded.ensures.order) is in
    rw c.new-bounded.ensures ordered

pub explain_unexplained_verdict-requires-clause-unexplained : goal.explain_unexplained_verdict-requires-clause-unexplained
explain_unexplained_verdict-requires-clause-unexplained g c =
    let case = c.args.scene.now.run.now.shaped.case in
    let h = c.args.history.now in
    let m = g.C.Callbacks.model c.args.callbacks.now in
    let is = is_unexplained m case h c.args.verdict.now c.args.order (sym c.has_unknown.ensures ∙ c.if-has_unknown.false) c.requires.verdict (subst IsRefusing (sym c.in-Unexplained.is) tt) in
    let ordered = subst (λ order. IsUnexplained m order case h) (sym c.in_ok-recorded.ensures.order) is in
    rw c.new-bounded.ensures ordered
