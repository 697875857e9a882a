use Rattle.std.proofs.Common.{drop, ◌≡◌, sym, ap, ◌∙◌, rules}
use Rattle.json.specs.Lex.{tokens}
use Rattle.json.specs.Print.{print}
use Rattle.json.specs.Tree.{json_tokens}
use Rattle.pst_clients.specs.Calling.{call_json, is_one_line}
use Rattle.json.proofs.Printed.Tokens.{tokens-print}
use Rattle.pst_clients.proofs.OneLine.{printed_line}
use Rattle.pst_json_runs.proofs.ReadBack.{read_back}
use Rattle.pst_clients.proofs.protocol.client_call_line.Goals as goal

pub returns-clause-reads_back : goal.returns-clause-reads_back
returns-clause-reads_back c shallow =
    let j = call_json c.args.call.now in
    let whole : c.write_json_values_and_end.new.writer.tokens ≡ json_tokens j = search rules in
    read_back j (ap (λ ts. tokens (print ts)) (sym whole) ∙ c.into_inner-line.ensures.reads_back ∙ whole) shallow

pub returns-clause-one_line : goal.returns-clause-one_line
returns-clause-one_line c =
    let j = call_json c.args.call.now in
    let whole : c.write_json_values_and_end.new.writer.tokens ≡ json_tokens j = search rules in
    let w = c.writer-3.invariant in
    let seen : c.write_json_values_and_end.new.writer.tokens ≡ tokens (drop c.writer-3.inside.start c.writer-3.inside.out.items) = sym (ap (λ v. v.tokens) c.writer-3.view_is) in
    let written : w.printed ≡ json_tokens j = sym (tokens-print w.printed w.printable) ∙ ap tokens (sym w.text) ∙ sym seen ∙ whole in
    ap (λ ts. is_one_line (print ts)) (sym written) ∙ printed_line w.printed w.printable
