use Rattle.std.proofs.Common.{◌≡◌, sym, ◌∙◌, ap, ◌∷◌, [], ◌++◌, length, arith, ◌<◌, List, ℕ}
use Rattle.pst_syntax_problems.specs.Placed.{placed}
use Rattle.pst_syntax_problems.proofs.Keeping.{keep_full, keep_one}
use Rattle.pst_syntax_problems.proofs.fault.push_fault_within_limit.Goals as goal

pub returns-then-len-walk : goal.returns-then-len-walk
returns-then-len-walk c =
    sym (keep_full c.args.walk.limit c.args.faults.now (placed c.args.path.now c.args.role c.args.kind ∷ []) (omega arith))

pub returns : goal.returns
returns c =
    let h : length c.args.faults.now < c.args.walk.limit = omega arith in
    let e = keep_one c.args.walk.limit c.args.faults.now (placed c.args.path.now c.args.role c.args.kind) h in
    let p : c.in_ok-path.path ≡ c.args.path.now = c.in_ok-path.ensures in
    c.in_ok-push.ensures.ok
    ∙ ap (λ (path : List ℕ). c.args.faults.now ++ placed path c.args.role c.args.kind ∷ []) p
    ∙ sym e
