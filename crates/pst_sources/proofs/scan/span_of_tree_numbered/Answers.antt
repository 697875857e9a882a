use Rattle.std.proofs.Common.{◌∙◌, ◌≤◌, length, arith}
use Rattle.pst_sources.proofs.Found.{tree_is_there, byte_read}
use Rattle.pst_sources.proofs.scan.span_of_tree_numbered.Goals as goal

pub returns-in_err-byte-clause-found : goal.returns-in_err-byte-clause-found
returns-in_err-byte-clause-found c trees tree h e =
    let there = tree_is_there c.args.input.now c.span_of_tree_after_count-span.result tree
    (c.span_of_tree_after_count-span.ensures.found trees tree h e) in
    let within = there.0 in
    let past : length c.args.input.now ≤ c.span_of_tree_after_count-span.result.start = c.in_err-byte.ensures.lookup.3 in
    absurd (omega arith)

pub returns-then-byte-eq41-clause-found : goal.returns-then-byte-eq41-clause-found
returns-then-byte-eq41-clause-found c trees tree h e =
    let there = tree_is_there c.args.input.now c.span_of_tree_after_count-span.result tree
    (c.span_of_tree_after_count-span.ensures.found trees tree h e) in
    let read = c.in_ok-byte.ensures.lookup.1 in
    there.1 (byte_read c.args.input.now c.span_of_tree_after_count-span.result.start c.in_ok-byte.field-0.now there.0
    read ∙ c.if-byte-eq41.true)
