use Rattle.std.proofs.Common.{[], ◌∷◌, ◌++◌, sym, ap, ◌∙◌, codes}
use Rattle.std.proofs.lemmas.Result.{on_ok_weaker}
use Rattle.pst_judge.specs.declared.judgement.Judged.TheVariants as judged
use Rattle.pst_rejudge.specs.Verdicts.{merge_field, outcome_fields, place_fields, verdict}
use Rattle.pst_rejudge.proofs.Adding.{added}
use Rattle.pst_rejudge.proofs.verdict_fields.add_invalid_case_fields.Goals as goal

pub returns-in_ok-add_fault_place_fields-in-CallbackFault : goal.returns-in_ok-add_fault_place_fields-in-CallbackFault
returns-in_ok-add_fault_place_fields-in-CallbackFault c =
    let old = c.args.fields.now.items in
    let first = c.add_text_field-in-CallbackFault.new.fields.items in
    let place = place_fields c.in-CallbackFault.place in
    let merge = merge_field c.in-CallbackFault.merge.items ∷ [] in
    on_ok_weaker c.add_interleaving_field-in-CallbackFault.result
    (λ e. added old first c.add_interleaving_field-in-CallbackFault.new.fields.items (verdict (codes "casefault") ∷ []) (place ++ merge)
    c.in_ok-add_text_field-in-CallbackFault.ensures
    (added first c.add_fault_place_fields.new.fields.items c.add_interleaving_field-in-CallbackFault.new.fields.items place merge
    c.in_ok-add_fault_place_fields-in-CallbackFault.ensures e)
    ∙ ap (λ w. old ++ outcome_fields (judged.Invalid w)) (sym c.in-CallbackFault.is))
    c.add_interleaving_field-in-CallbackFault.ensures
