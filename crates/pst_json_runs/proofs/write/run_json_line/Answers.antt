use Rattle.std.proofs.Common.{◌≡◌, sym, ap, ◌∙◌, rules}
use Rattle.json.specs.Lex.{tokens}
use Rattle.json.specs.Print.{print}
use Rattle.json.specs.Tree.{json_tokens}
use Rattle.pst_json_runs.specs.Written.{run_json}
use Rattle.pst_json_runs.proofs.ReadBack.{read_back}
use Rattle.pst_json_runs.proofs.write.run_json_line.Goals as goal

pub returns-clause-reads_back : goal.returns-clause-reads_back
returns-clause-reads_back c shallow =
    let j = run_json c.args.typed.now c.args.run.now in
    let whole : c.write_json_item.new.writer.tokens ≡ json_tokens j = search rules in
    read_back j (ap (λ ts. tokens (print ts)) (sym whole) ∙ c.into_inner-line.ensures.reads_back ∙ whole) shallow
