use Rattle.std.proofs.Common.{◌<◌, List, arith, length, refl, subst}
use Rattle.std.specs.List.{All}
use Rattle.pst_cli.specs.CampaignFailures.{HasRun}
use Rattle.pst_cli.specs.Page.{new}
use Rattle.pst_cli.specs.declared.failing_run.TrialFailure.{TrialFailure}
use Rattle.pst_cli.proofs.failure_page.add_failure_if_run_is_new.Goals as goal

pub returns : goal.returns
returns c =
    let f : TrialFailure = record { trial = c.args.trial; shrunk = c.args.shrunk } in
    let room : length c.args.failures.now.items < 100 = omega (arith, c.if-len-ge-MOST.false, c.len.ensures) in
    let others : All (λ g. HasRun c.args.shrunk.now g → ⊥) c.args.failures.now.items =
    subst (λ (l : List TrialFailure). All (λ g. HasRun c.args.shrunk.now g → ⊥) l) c.as_slice.ensures.value c.if-has_failure_with_run.ensures in
    new f refl refl room others c.in_ok-push.ensures.items
