use Rattle.std.proofs.Common.{refl, ◌∙◌, ◌<◌, arith}
use Rattle.std.proofs.lemmas.Result.{err_from_is_err_and}
use Rattle.pst_shrink.specs.Weight.{weight}
use Rattle.pst_shrink.proofs.Keeping.{fault_kept, first_more, trail_more, took, ended, answered, taken_is_lesser}
use Rattle.pst_shrink.proofs.Moving.{passed_moves, taken_moves}
use Rattle.pst_shrink.proofs.shrinking.shrink.Goals as goal

pub rounds-init : goal.rounds-init
rounds-init g c = record {
  room = c.requires.room;
  begins = rw c.new-before.ensures refl;
  trail = rw c.new-before.ensures tt;
  drives = refl;
  keeps = g.met.A.Attempt.keeps_refl _;
}

pub rounds-preserved : goal.rounds-preserved
rounds-preserved g c =
    let t =
    took _ _ _ _ _ c.in_ok-next.field-0 c.in-Took.next c.in-Took.rest c.in_ok-next.ensures.round c.in-Took.is in
    let less : weight c.in-Took.next.case < weight c.rounds.last.case = taken_is_lesser _ _ _ t.0 in
    record {
      room = omega arith;
      begins = rw c.in_ok-push-in-Took.ensures.ok
          (first_more (g.A.Attempt.answers c.args.attempt.now) c.rounds.before c.rounds.last c.in-Took.next
          ∙ c.rounds.invariant.begins);
      trail = rw c.in_ok-push-in-Took.ensures.ok
          (trail_more (g.A.Attempt.answers c.args.attempt.now) c.rounds.before c.rounds.last c.in-Took.next
          c.rounds.invariant.trail
          (taken_moves _ _ (answered (g.met.A.Attempt.kept _ _ c.rounds.invariant.keeps)) _ _ t.0));
      drives = t.1 ∙ c.rounds.invariant.drives;
      keeps = g.met.A.Attempt.keeps_trans _ _ _ c.rounds.invariant.keeps c.in_ok-next.ensures.keeps;
    }

pub rounds-smaller : goal.rounds-smaller
rounds-smaller g c =
    taken_is_lesser _ _ _
    (took _ _ _ _ _ c.in_ok-next.field-0 c.in-Took.next c.in-Took.rest c.in_ok-next.ensures.round c.in-Took.is).0

pub returns-in-Ended-clause-shrunk : goal.returns-in-Ended-clause-shrunk
returns-in-Ended-clause-shrunk g c =
    let e =
    ended _ _ _ _ _ c.in_ok-next.field-0 c.in-Ended.tried c.in-Ended.ending c.in_ok-next.ensures.round
    c.in-Ended.is in
    record {
      begins = c.rounds.invariant.begins;
      trail = c.rounds.invariant.trail;
      passed = passed_moves _ _ (answered (g.met.A.Attempt.kept _ _ c.rounds.invariant.keeps)) _ _ e.0;
      ended = rw c.rounds.invariant.drives at e.1;
    }

pub returns-in_err-next-clause-keeps : goal.returns-in_err-next-clause-keeps
returns-in_err-next-clause-keeps g c =
    g.met.A.Attempt.keeps_trans _ _ _ c.rounds.invariant.keeps c.in_err-next.ensures.keeps

pub returns-in-Ended-clause-keeps : goal.returns-in-Ended-clause-keeps
returns-in-Ended-clause-keeps g c =
    g.met.A.Attempt.keeps_trans _ _ _ c.rounds.invariant.keeps c.in_ok-next.ensures.keeps

pub returns-in_err-push-in-Took-clause-keeps : goal.returns-in_err-push-in-Took-clause-keeps
returns-in_err-push-in-Took-clause-keeps g c =
    g.met.A.Attempt.keeps_trans _ _ _ c.rounds.invariant.keeps c.in_ok-next.ensures.keeps

pub returns-in_err-next-clause-fault : goal.returns-in_err-next-clause-fault
returns-in_err-next-clause-fault g c =
    let p = err_from_is_err_and c.from_residual.result c.from_residual.ensures.1 in
    rw (p.1, p.2) (fault_kept (g.met.A.Attempt.kept _ _ c.rounds.invariant.keeps) _ c.in_err-next.ensures.fault)
