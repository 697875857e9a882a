use Rattle.std.proofs.Common.{◌≡◌, ◌+◌, length, sym, ap, ◌∙◌, arith}
use Rattle.pst_eval.proofs.Weights.{item_weight}
use Rattle.pst_compile.specs.Scopes.{scope_of, code_in}
use Rattle.pst_compile.proofs.Loading.{code_next, registers_next}
use Rattle.pst_compile.proofs.+expression_code.Goals as goal

pub expressions::operands_code-operand_code-requires : goal.expressions::operands_code-operand_code-requires
expressions::operands_code-operand_code-requires t c =
    let h = rw (sym c.expr-item.is) at (item_weight c.args.exprs.now c.loop-expr.expr-index c.expr-item.result c.loop-expr-test.true) in
    (omega (arith, h), tt)

pub expressions::operands_code-loop-expr-preserved : goal.expressions::operands_code-loop-expr-preserved
expressions::operands_code-loop-expr-preserved t c =
    let m = code_in c.args.context.now in
    let sc = scope_of c.args.names.now in
    let r : c.in_ok-next.next.register ≡ c.loop-expr.next.register + 1 = c.in_ok-next.ensures.register ∙ ap (λ n. n + 1) c.in_ok-instructions_later.ensures.register in
    let p : c.in_ok-next.next.place ≡ c.loop-expr.next.place + length c.in_ok-operand.operand.code = c.in_ok-next.ensures.place ∙ c.in_ok-instructions_later.ensures.place ∙ ap (λ n. c.loop-expr.next.place + n) c.len.ensures in
    record {
      code = code_next m c.args.exprs.now c.loop-expr.expr-index c.expr-item.result sc c.loop-expr.next.register c.loop-expr.next.place c.in_ok-next.next.register c.in_ok-next.next.place c.loop-expr.code c.append.new.self c.in_ok-operand.operand.code _
          c.loop-expr-test.true c.expr-item.is c.loop-expr.invariant.code c.in_ok-operand.ensures.code r p c.in_ok-append.ensures.ok;
      registers = registers_next m c.args.exprs.now c.loop-expr.expr-index c.expr-item.result sc c.loop-expr.next.register c.in_ok-next.next.register c.in_ok-operand.operand.register c.loop-expr.registers c.push.new.self _
          c.loop-expr-test.true c.expr-item.is c.loop-expr.invariant.registers c.in_ok-operand.ensures.register r c.in_ok-push.ensures.ok;
    }
