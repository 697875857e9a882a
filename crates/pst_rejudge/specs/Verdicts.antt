-- The members of the objects of verdicts and refusals.
use Rattle.std.specs.Prelude.{ℕ, List, [], ◌∷◌, ◌++◌, codes}
use Rattle.pst_eval.specs.Places.{callback_name}
use Rattle.pst_eval.specs.declared.callbacks.FaultPlace.{FaultPlace}
use Rattle.pst_rejudge.specs.declared.field.Field.{Field}
use Rattle.pst_rejudge.specs.declared.field.Field.TheVariants.{Number, Words}
use Rattle.pst_rejudge.specs.declared.field.FieldName.TheVariants as name
use Rattle.pst_judge.specs.VerdictText.{word_text}
use Rattle.pst_judge.specs.declared.judgement.Judged.{Judged}
use Rattle.pst_judge.specs.declared.judgement.Judged.TheVariants as judged
use Rattle.pst_judge.specs.declared.judgement.Verdict.TheVariants.{Explained, Faulted, Unexplained, Broken}
use Rattle.pst_judge.specs.declared.validated.Why.TheVariants.{PreFalse, CallbackFault, NoMemory}
use Rattle.pst_runs.specs.FaultName as runs
use Rattle.pst_runs.specs.declared.reader.RunFaultKind.{RunFaultKind}
use Rattle.pst_sexpr.specs.Fault as sexpr
use Rattle.pst_syntax.specs.FaultName as syntax
use Rattle.pst_typing.specs.declared.loading.Refusal.{Refusal}
use Rattle.pst_typing.specs.declared.loading.Refusal.TheVariants.{Unread, NoModel, IllTyped}
use Rattle.pst_value.specs.FaultName.{fault_name}

-- ---- verdicts

abbrev pub verdict : List ℕ → Field
verdict words = Words name.Verdict words

-- the place of a fault: its command, its callback, its kind
abbrev pub place_fields : FaultPlace → List Field
place_fields p =
    Number name.Command p.command ∷ Words name.Callback (callback_name p.callback)
    ∷ Words name.Fault (fault_name p.fault) ∷ []

-- an interleaving
abbrev pub merge_field : List ℕ → Field
merge_field branches = Words name.Merge (word_text branches)

-- memory was refused
abbrev pub memory_fields : List Field
memory_fields = verdict (codes "refused") ∷ Words name.Stage (codes "memory") ∷ []

-- the judgement on an item
abbrev pub outcome_fields : Judged → List Field
outcome_fields (judged.Verdict (Explained word)) = verdict (codes "explained") ∷ merge_field word.items ∷ []
outcome_fields (judged.Verdict (Faulted p)) = verdict (codes "fault") ∷ place_fields p
outcome_fields (judged.Verdict (Unexplained far)) = verdict (codes "unexplained") ∷ Number name.Far far ∷ []
outcome_fields (judged.Verdict (Broken command)) = verdict (codes "broken") ∷ Number name.Command command ∷ []
outcome_fields judged.Valid = verdict (codes "valid") ∷ []
outcome_fields (judged.Invalid (PreFalse command merge)) =
    verdict (codes "prefalse") ∷ Number name.Command command ∷ merge_field merge.items ∷ []
outcome_fields (judged.Invalid (CallbackFault p merge)) =
    verdict (codes "casefault") ∷ (place_fields p ++ merge_field merge.items ∷ [])
outcome_fields (judged.Invalid NoMemory) = memory_fields

-- the judgement on the item of a number
abbrev pub judged_fields : ℕ → Judged → List Field
judged_fields number j = Number name.Item number ∷ outcome_fields j

-- why the item of a number is refused
abbrev pub refused_fields : ℕ → RunFaultKind → ℕ → List Field
refused_fields number kind command =
    Number name.Item number ∷ verdict (codes "refused") ∷ Words name.Stage (codes "item")
    ∷ Number name.Command command ∷ Words name.Fault (runs.fault_name kind) ∷ []

-- ---- models

-- a model that is accepted
abbrev pub accepted_fields : List ℕ → List Field
accepted_fields model = verdict (codes "accepted") ∷ Words name.Model model ∷ []

-- why a model is refused, and where
abbrev pub cause_fields : Refusal → List Field
cause_fields (Unread fault) =
    Words name.Stage (codes "read") ∷ Words name.Fault (sexpr.name_of fault.kind) ∷ Number name.Place fault.place ∷ []
cause_fields (NoModel fault) =
    Words name.Stage (codes "model") ∷ Words name.Fault (syntax.name_of fault.kind) ∷ Number name.ModelItem fault.item ∷ []
cause_fields (IllTyped number) = Words name.Stage (codes "type") ∷ Number name.ModelItem number ∷ []

abbrev pub refusal_fields : Refusal → List Field
refusal_fields refusal = verdict (codes "refused") ∷ cause_fields refusal
