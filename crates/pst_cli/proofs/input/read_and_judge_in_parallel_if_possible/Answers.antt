use Rattle.std.proofs.Common.{◌≡◌, ◌≤◌, ℕ, List, length, arith, ap, subst, sym}
use Rattle.pst_cli.proofs.Reading.{holds_both}
use Rattle.pst_cli.specs.Kept.{HoldsAnswered, keeps_all}
use Rattle.pst_rejudge.specs.Parts.{joined}
use Rattle.pst_sexpr.specs.Reading.{max_bytes}
use Rattle.pst_cli.proofs.input.read_and_judge_in_parallel_if_possible.Goals as goal

pub returns-in-Some-2 : goal.returns-in-Some-2
returns-in-Some-2 g c =
    let m = c.in-Ok.field-0.compiled in
    let head = c.in-Some.head.now in
    let rest = c.in-Some.rest.now in
    let kept = joined c.in-Some-2.field-0.runs.items in
    let answers = c.in-Some-2.field-0.answers.items in
    let all = keeps_all c.args.keep in
    let read = rw (c.typed-2.ensures, c.in-Some-2.is) at c.in_ok-runs.ensures in
    let Held : List ℕ → Type 0 = λ input. HoldsAnswered c.args.order all input m kept answers in
    let Small : List ℕ → Type 0 = λ input. length input ≤ max_bytes in
    let small = subst Small c.in-Some.ensures.1 (omega arith) in
    let trees = c.in-Ok.field-0.trees.items in
    let one : length trees ≡ 1 = omega (arith, c.if-len-ne1.false, c.len.ensures, ap (λ v. length v.items) c.in-Ok.trees-is) in
    let holds = rw c.in-Ok.is at c.in_ok-compiled.ensures in
    subst Held (sym c.in-Some.ensures.1)
    (holds_both c.args.order all c.keeps_runs_of_model-keeps.result m head rest trees kept answers small c.in-Some.ensures.0 one holds read c.keeps_runs_of_model-keeps.ensures)
