use Rattle.std.proofs.Common.{◌≡◌, ap, subst, rules, arith}
use Rattle.pst_case.specs.OfModel.{OfModel}
use Rattle.pst_case.specs.declared.case.Case.{Case}
use Rattle.pst_cli.proofs.Keeping.{kept_on, report_before}
use Rattle.pst_cli.proofs.Repeating.{all_driven, lost_drive, one_more, some_driven}
use Rattle.pst_cli.specs.DrivenItems.{IsReported, report_status}
use Rattle.pst_cli.specs.declared.answer.Status.TheVariants.{Lost}
use Rattle.pst_judge.specs.Validity.{IsValid}
use Rattle.pst_model.specs.declared.model.Source.{Source}
use Rattle.pst_cli.proofs.driven_item.drive_repeatedly.Goals as goal

pub returns-then-eq-clause-driven : goal.returns-then-eq-clause-driven
returns-then-eq-clause-driven g c =
    let order = c.args.judge.now.order in
    let m = c.args.judge.now.callbacks.now in
    let s = (g.dyn-1.0.entry c.args.system.now.vtable).1 in
    let value = c.args.system.now.value in
    let so_far = c.loop-drive.invariant in
    let r = c.in_ok-report.report in
    let now = (g.dyn-1.0.entry c.loop-drive.system.vtable).1 in
    let then = c.loop-drive.system.value in
    let Of : Case → Type 0 = λ k. IsReported order m (now.answers then) (now.fails then) (now.reset_fails then) k r in
    let case = ap (λ (v : OfModel). v.case) c.in_ok-copy.ensures in
    let is_lost : report_status r ≡ Lost = search rules in
    lost_drive order m (s.answers value) (s.fails value) (s.reset_fails value) c.args.repeats c.args.valid.now.case r (report_before order m so_far.kept c.args.valid.now.case r (subst Of case c.in_ok-report.ensures.reported)) is_lost

pub returns-then-eq-clause-kept : goal.returns-then-eq-clause-kept
returns-then-eq-clause-kept g c = kept_on c.drive_once.ensures.kept c.loop-drive.invariant.kept

pub loop-drive-preserved : goal.loop-drive-preserved
loop-drive-preserved g c =
    let order = c.args.judge.now.order in
    let m = c.args.judge.now.callbacks.now in
    let s = (g.dyn-1.0.entry c.args.system.now.vtable).1 in
    let A = s.answers c.args.system.now.value in
    let F = s.fails c.args.system.now.value in
    let R = s.reset_fails c.args.system.now.value in
    let so_far = c.loop-drive.invariant in
    let r = c.in_ok-report.report in
    let now = (g.dyn-1.0.entry c.loop-drive.system.vtable).1 in
    let value = c.loop-drive.system.value in
    let Of : Case → Type 0 = λ k. IsReported order m (now.answers value) (now.fails value) (now.reset_fails value) k r in
    let case = ap (λ (v : OfModel). v.case) c.in_ok-copy.ensures in
    let report : IsReported order m A F R c.args.valid.now.case r =
    report_before order m so_far.kept c.args.valid.now.case r (subst Of case c.in_ok-report.ensures.reported) in
    record {
      driven = rw (c.first_failed_or_latest_report-shown.ensures, c.count_drive_if_failed-failed.ensures, c.status-status.ensures)
          (one_more order m A F R c.args.valid.now.case c.loop-drive._drive c.loop-drive.shown c.loop-drive.failed r so_far.driven report (search rules));
      kept = kept_on c.drive_once.ensures.kept so_far.kept;
    }

pub unreachable-requires : goal.unreachable-requires
unreachable-requires g c =
    let s = (g.dyn-1.0.entry c.args.system.now.vtable).1 in
    let value = c.args.system.now.value in
    let all : c.loop-drive._drive ≡ c.args.repeats = omega (arith, c.loop-drive-test.false, c.loop-drive.auto._drive-end) in
    some_driven c.args.judge.now.order c.args.judge.now.callbacks.now (s.answers value) (s.fails value) (s.reset_fails value) c.args.valid.now.case c.args.repeats c.loop-drive.failed c.requires.some
    (rw (all, c.in-None.is) at c.loop-drive.invariant.driven)

pub returns-clause-driven : goal.returns-clause-driven
returns-clause-driven g c =
    let s = (g.dyn-1.0.entry c.args.system.now.vtable).1 in
    let value = c.args.system.now.value in
    let all : c.loop-drive._drive ≡ c.args.repeats = omega (arith, c.loop-drive-test.false, c.loop-drive.auto._drive-end) in
    let Valid : Source → Type 0 = λ n. IsValid n c.args.valid.now.case in
    all_driven c.args.judge.now.order c.args.judge.now.callbacks.now (s.answers value) (s.fails value) (s.reset_fails value) c.args.valid.now.case c.args.repeats c.in-Some.report c.loop-drive.failed
    (subst Valid c.requires.model c.shaped-shaped.ensures.validity) (rw (all, c.in-Some.is) at c.loop-drive.invariant.driven)
