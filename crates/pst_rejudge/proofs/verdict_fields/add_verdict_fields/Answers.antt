use Rattle.std.proofs.Common.{[], ◌∷◌, ◌++◌, sym, ap, ◌∙◌, codes}
use Rattle.std.proofs.lemmas.Result.{on_ok_weaker}
use Rattle.pst_judge.specs.declared.judgement.Judged.TheVariants as judged
use Rattle.pst_rejudge.specs.Verdicts.{merge_field, outcome_fields, verdict}
use Rattle.pst_rejudge.proofs.Adding.{added}
use Rattle.pst_rejudge.proofs.verdict_fields.add_verdict_fields.Goals as goal

pub returns-in_ok-add_text_field-in-Explained : goal.returns-in_ok-add_text_field-in-Explained
returns-in_ok-add_text_field-in-Explained c =
    let old = c.args.fields.now.items in
    on_ok_weaker c.add_interleaving_field.result
    (λ e. added old c.add_text_field.new.fields.items c.add_interleaving_field.new.fields.items (verdict (codes "explained") ∷ [])
    (merge_field c.in-Explained.word.items ∷ []) c.in_ok-add_text_field-in-Explained.ensures e
    ∙ ap (λ v. old ++ outcome_fields (judged.Verdict v)) (sym c.in-Explained.is))
    c.add_interleaving_field.ensures
