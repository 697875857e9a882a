use Rattle.std.proofs.Common.{◌≡◌, ℕ, ◌++◌, ◌∷◌, [], Some, ap, sym, ◌∙◌}
use Rattle.pst_ledger.specs.declared.entry.Entry.TheVariants.{Done, Lost}
use Rattle.pst_ledger.specs.declared.ledger.LedgerFault.{LedgerFault}
use Rattle.pst_ledger.specs.Seats.{HasEnded, HasRefused}
use Rattle.pst_campaign.proofs.Adding.{match_ok, adds_more}
use Rattle.pst_campaign.proofs.runner.run_trials_until_campaign_over.Goals as goal

pub loop-preserved-in-Ok-2 : goal.loop-preserved-in-Ok-2
loop-preserved-in-Ok-2 g c =
    let at = c.loop.invariant in
    let drew = c.in-Some-claim.ensures.drawn.0 in
    let k : ℕ = c.in-Some-claim.number in
    let r = c.in-Ok.record in
    let n = g.R.Numbered.number_of r in
    let same : n ≡ k = c.in-Ok.ensures.number in
    let did = (match_ok (λ _. HasEnded c.claim.new.seat c.deposit.new.seat n (Done r))
    (λ (e : _ × LedgerFault). (e.0 ≡ r) × HasRefused c.claim.new.seat c.deposit.new.seat n e.1)
    _ c.deposit.ensures (λ e q. q.1.0 (ap (λ t. t.held) drew ∙ ap Some (sym same)))).1.1 in record {
      place = ap (λ t. t.table) did ∙ (ap (λ t. t.table) drew ∙ at.place);
      idle = ap (λ t. t.held) did;
      ends = adds_more (g.P.TrialRunner.may_give c.args.plan.now c.args.system.now) _ _ _ k (Done r) at.ends
          (ap (λ t. t.ends) did ∙ (ap (λ t. t.ends ++ (n, Done r) ∷ []) drew ∙ ap (λ (m : ℕ). c.loop.seat.ends ++ (m, Done r) ∷ []) same))
          (g.met.P.TrialRunner.moves c.args.plan.now c.args.system.now c.loop.system at.keeps k (Done r) c.in-Ok.ensures.record_given);
      keeps = g.met.P.TrialRunner.keeps_trans c.args.system.now c.loop.system c.run.new.system at.keeps c.in-Ok.ensures.keeps;
    }

pub loop-preserved : goal.loop-preserved
loop-preserved g c =
    let at = c.loop.invariant in
    let drew = c.in-Some-claim.ensures.drawn.0 in
    let k : ℕ = c.in-Some-claim.number in
    let e = Lost c.in-Err.cause in
    let did = (match_ok (λ _. HasEnded c.claim.new.seat c.lose.new.seat k e)
    (λ (f : LedgerFault). HasRefused c.claim.new.seat c.lose.new.seat k f)
    _ c.lose.ensures (λ f q. q.0 (ap (λ t. t.held) drew))).1.1 in record {
      place = ap (λ t. t.table) did ∙ (ap (λ t. t.table) drew ∙ at.place);
      idle = ap (λ t. t.held) did;
      ends = adds_more (g.P.TrialRunner.may_give c.args.plan.now c.args.system.now) _ _ _ k e at.ends
          (ap (λ t. t.ends) did ∙ ap (λ t. t.ends ++ (k, e) ∷ []) drew)
          (g.met.P.TrialRunner.moves c.args.plan.now c.args.system.now c.loop.system at.keeps k e c.in-Err.ensures.loss_given);
      keeps = g.met.P.TrialRunner.keeps_trans c.args.system.now c.loop.system c.run.new.system at.keeps c.in-Err.ensures.keeps;
    }
