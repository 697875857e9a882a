use mir.Syntax.{w64}
use mir.Val.{SFits}
use Rattle.std.proofs.Common.{sym, ◌∙◌, rules}
use Rattle.pst_judge.proofs.Same.{named, ints-same, bytes-same, forms-differ, forms-differ-turned}
use Rattle.pst_judge.proofs.packed.PackedPartialEq.eq.Goals as goal

pub returns-in-Some-Some : goal.returns-in-Some-Some
returns-in-Some-Some c =
    let arm = c.in-Some-Some in
    let one = named c.self.inside.form c.self.inside.value.value c.args.self.now c.self.view_is c.self.invariant in
    let two = named c.other.inside.form c.other.inside.value.value c.args.other.now c.other.view_is c.other.invariant in
    let one_fits : SFits w64 arm.one = search rules in
    let two_fits : SFits w64 arm.two = search rules in
    ints-same c.args.self.now c.args.other.now arm.one arm.two one_fits two_fits (sym arm.is-0 ∙ c.int.ensures ∙ one.0) (sym arm.is-1 ∙ c.int-2.ensures ∙ two.0)

pub returns-in-None-None : goal.returns-in-None-None
returns-in-None-None c =
    let arm = c.in-None-None in
    let one = named c.self.inside.form c.self.inside.value.value c.args.self.now c.self.view_is c.self.invariant in
    let two = named c.other.inside.form c.other.inside.value.value c.args.other.now c.other.view_is c.other.invariant in
    c.eq.ensures
    ∙ bytes-same c.args.self.now c.args.other.now c.bytes.result.now c.bytes-in-None-None.result.now
    (sym arm.is-0 ∙ c.int.ensures ∙ one.0) (sym arm.is-1 ∙ c.int-2.ensures ∙ two.0)
    (c.bytes.ensures ∙ one.1) (c.bytes-in-None-None.ensures ∙ two.1)

pub returns-in-Some-None : goal.returns-in-Some-None
returns-in-Some-None c =
    let arm = c.in-Some-None in
    let one = named c.self.inside.form c.self.inside.value.value c.args.self.now c.self.view_is c.self.invariant in
    let two = named c.other.inside.form c.other.inside.value.value c.args.other.now c.other.view_is c.other.invariant in
    forms-differ c.args.self.now c.args.other.now arm.field-0-0 (sym arm.is-0 ∙ c.int.ensures ∙ one.0) (sym arm.is-1 ∙ c.int-2.ensures ∙ two.0)

pub returns-in-None-Some : goal.returns-in-None-Some
returns-in-None-Some c =
    let arm = c.in-None-Some in
    let one = named c.self.inside.form c.self.inside.value.value c.args.self.now c.self.view_is c.self.invariant in
    let two = named c.other.inside.form c.other.inside.value.value c.args.other.now c.other.view_is c.other.invariant in
    forms-differ-turned c.args.self.now c.args.other.now arm.field-0-1 (sym arm.is-0 ∙ c.int.ensures ∙ one.0) (sym arm.is-1 ∙ c.int-2.ensures ∙ two.0)
