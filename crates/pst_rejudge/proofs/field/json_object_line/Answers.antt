use Rattle.std.proofs.Common.{◌≡◌, sym, ap, ◌∙◌, rules}
use Rattle.json.specs.Lex.{tokens}
use Rattle.json.specs.Print.{print}
use Rattle.json.specs.Tree.{json_tokens}
use Rattle.pst_rejudge.specs.Objects.{object_of}
use Rattle.pst_rejudge.proofs.ReadBack.{read_back}
use Rattle.pst_rejudge.proofs.field.json_object_line.Goals as goal

pub returns-clause-reads_back : goal.returns-clause-reads_back
returns-clause-reads_back c =
    let whole : c.write_json_fields_and_end_object.new.writer.tokens ≡ json_tokens (object_of c.args.fields.now) = search rules in
    read_back c.args.fields.now (ap (λ ts. tokens (print ts)) (sym whole) ∙ c.into_inner-line.ensures.reads_back ∙ whole)
