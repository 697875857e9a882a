-- Reports of driven cases, within the crate.
use Rattle.std.specs.Prelude.{◌≡◌, Option, Some, None, IfSome}
use Rattle.pst_case.specs.declared.history.Run.{Run}
use Rattle.pst_cli.specs.declared.driven_item.ItemReport.{ItemReport}
use Rattle.pst_cli.specs.declared.driven_item.ItemReport.TheVariants as became
use Rattle.pst_judge.specs.Judgement.{IsJudgementBy}
use Rattle.pst_judge.specs.declared.by_order.CallOrder.{CallOrder}
use Rattle.pst_model.specs.declared.model.Source.{Source}
use Rattle.pst_runs.specs.Lawful.{IsLawful}

-- the run, and the judgement on it
abbrev pub IsReportOf : CallOrder → Source → Run → ItemReport → Type 0
IsReportOf order m run (became.Judged (Some driven) judged) = (driven ≡ run) × IsJudgementBy order m driven judged
IsReportOf order m run (became.Judged None judged) = ⊥
IsReportOf order m run (became.Lost fault) = ⊥

-- its run may be written, if there is one
abbrev pub IsPrintable : Source → ItemReport → Type 0
IsPrintable m (became.Judged run judged) = IfSome run (IsLawful m)
IsPrintable m (became.Lost fault) = Unit {0}
