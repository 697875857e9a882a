use Rattle.std.proofs.Common.{◌≡◌, ◌+◌, List, Some, Vec, Global, ◌∙◌, ap, sym, subst}
use Rattle.std.proofs.lemmas.Option.{get_or_from_slice_get, slice_get-get_or}
use Rattle.std.specs.Prelude.{slice_get}
use Rattle.pst_ledger.specs.declared.entry.Entry.TheVariants.{Done}
use Rattle.pst_report.specs.Distinct.{AreDistinctBelow}
use Rattle.pst_report.specs.declared.failures.NumberedFailure.{NumberedFailure}
use Rattle.pst_report.proofs.Collecting.{no_record, kept_next}
use Rattle.pst_report.proofs.failures.distinct_failures.Goals as goal
use Rattle.pst_report.proofs.failures.distinct_failures.Goals.{in-Done+in_ok-add_failure_if_case_is_new, in_default}

pub loop-number-preserved : goal.loop-number-preserved
loop-number-preserved c =
    let entries = c.args.entries.now in
    let n = c.loop-number.number in
    let Below : Vec NumberedFailure Global → Type 0 = λ v. AreDistinctBelow (n + 1) entries v.items in
    elim c.match-entry.branch [
      | in-Done+in_ok-add_failure_if_case_is_new w ↦
          let at = slice_get-get_or entries n c.index-entries-number.result c.loop-number-test.true ∙ ap Some (sym c.index-entries-number.is ∙ w.in-Done.is) in
          subst Below (sym w.failures-is) (kept_next entries n w.in-Done.«record» at _ _ w.in_ok-add_failure_if_case_is_new.ensures c.loop-number.invariant)
      | in_default w ↦
          subst Below (sym w.failures-is) (no_record entries n _
          (λ r at. w.in_default.not-Done r (c.index-entries-number.is ∙ get_or_from_slice_get entries n (Done r) c.index-entries-number.result at)) c.loop-number.invariant)
    ]
