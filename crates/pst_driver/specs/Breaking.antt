-- What breaks a driven history.
use Rattle.std.specs.Prelude.{◌≡◌, ◌↔◌, ℕ, ◌+◌, Bool, true, false, if◌then◌else◌, List, [], ◌∷◌, Option, Some, None}
use Rattle.pst_case.specs.Matches.{replies_of}
use Rattle.pst_case.specs.Shape.{IsShaped, commands_of}
use Rattle.pst_case.specs.declared.case.Case.{Case}
use Rattle.pst_case.specs.declared.case.Command.{Command}
use Rattle.pst_case.specs.declared.history.History.{History}
use Rattle.pst_case.specs.declared.history.Reply.{Reply}
use Rattle.pst_case.specs.declared.history.Reply.TheVariants.{Value as Answered, Misfit, Failed, NotRun, Unknown}
use Rattle.pst_driver.specs.Driven.{IsDriven}
use Rattle.pst_eval.specs.Names.{next_names_result}
use Rattle.pst_judge.specs.ByOrder.{IsVerdictBy}
use Rattle.pst_judge.specs.declared.by_order.CallOrder.{CallOrder}
use Rattle.pst_judge.specs.declared.judgement.Verdict.{Verdict}
use Rattle.pst_judge.specs.declared.judgement.Verdict.TheVariants.{Broken}
use Rattle.pst_model.specs.declared.model.Source.{Source}
use Rattle.pst_system.specs.Kept.{Answers, Fails}

-- whether a call breaks its history by itself: it failed, its answer is no value of its type, or its outcome is unknown
-- and the next state depends on its result
abbrev pub breaks_by_itself : Source → Command → Reply → Bool
breaks_by_itself m c (Answered v) = false
breaks_by_itself m c Misfit = true
breaks_by_itself m c Failed = true
breaks_by_itself m c NotRun = false
breaks_by_itself m c Unknown = next_names_result m c.op

-- the least number of such a command, where the first command has the number
abbrev pub first_by_itself : Source → ℕ → List Command → List Reply → Option ℕ
first_by_itself m number [] rs = None
first_by_itself m number (c ∷ cs) [] = None
first_by_itself m number (c ∷ cs) (r ∷ rs) =
    if breaks_by_itself m c r then Some number else first_by_itself m (number + 1) cs rs

-- The verdict on a driven history is `broken` exactly where some call breaks it by itself, and then at the first such
-- command. So no command is called though a result that it needs is missing, nor after a call of unknown outcome.
abbrev pub DrivesBreakByTheirCalls : Answers → Fails → Type 0
DrivesBreakByTheirCalls answers fails =
    (m : Source) (c : Case) (h : History)
    → IsShaped m c → IsDriven m answers fails c h
    → (order : CallOrder) (v : Verdict) → IsVerdictBy order m c h v
    → (number : ℕ)
    → (v ≡ Broken number) ↔ (first_by_itself m 1 (commands_of c) (replies_of h) ≡ Some number)
