use Rattle.std.proofs.Common.{subst}
use Rattle.std.proofs.lemmas.List.{take_rest}
use Rattle.pst_sexpr.specs.Spans.{IsSpanOf}
use Rattle.pst_sexpr.proofs.Skips.{spanned}
use Rattle.pst_sexpr.proofs.scan.Scanner.read_byte_or_rest_of_token.Goals as goal

pub returns-clause-read : goal.returns-clause-read
returns-clause-read c =
    let bytes = c.args.bytes.now in
    let span = c.span-span.result.now in
    let front = subst (λ l. IsSpanOf l span) (take_rest bytes c.args.place) c.span-span.ensures.front in
    spanned 100 c.args.self.now c.extend_token.new.self bytes c.args.place span c.span-span.ensures.class front c.in_ok-extend_token.ensures
