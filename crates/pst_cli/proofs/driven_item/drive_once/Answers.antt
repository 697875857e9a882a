use Rattle.std.proofs.Common.{subst}
use Rattle.pst_cli.proofs.Reporting.{driven_case}
use Rattle.pst_judge.specs.Validity.{IsValid}
use Rattle.pst_model.specs.declared.model.Source.{Source}
use Rattle.pst_cli.proofs.driven_item.drive_once.Goals as goal

pub returns-in-Ok-clause-reported : goal.returns-in-Ok-clause-reported
returns-in-Ok-clause-reported g c =
    driven_case c.args.judge.now.order c.args.judge.now.callbacks.now _ _ _ c.args.valid c.in-Ok.history c.requires.model c.into_shaped-shaped.ensures.validity (rw c.typed-typed.ensures at c.in-Ok.ensures.matches) (rw c.typed-typed.ensures at c.in-Ok.ensures.driven) c.in-Ok.ensures.timed
    c.judge_driven_run.result (rw c.into_shaped-shaped.ensures.same at c.judge_driven_run.ensures)

pub returns-in-Err-clause-reported : goal.returns-in-Err-clause-reported
returns-in-Err-clause-reported g c =
    let Valid : Source → Type 0 = λ n. IsValid n c.args.valid.case in
    (subst Valid c.requires.model c.shaped-shaped.ensures.validity, c.in-Err.ensures.fault)
