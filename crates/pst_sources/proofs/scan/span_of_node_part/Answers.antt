use Rattle.std.proofs.Common.{◌∙◌, sym}
use Rattle.pst_sources.proofs.Found.{node_is_there, byte_read}
use Rattle.pst_sources.proofs.scan.span_of_node_part.Goals as goal

pub returns-then-byte-eq40-clause-found : goal.returns-then-byte-eq40-clause-found
returns-then-byte-eq40-clause-found c node parts part h e is =
    let n = node_is_there c.args.input.now c.args.tree node parts h e in
    c.span_of_tree_numbered.ensures.found parts part n.parts_from is

pub returns-else-byte-eq40-clause-found : goal.returns-else-byte-eq40-clause-found
returns-else-byte-eq40-clause-found c node parts part h e is =
    let n = node_is_there c.args.input.now c.args.tree node parts h e in
    let read = c.in_ok-byte.ensures.lookup.1 in
    c.if-byte-eq40.false (sym
    (byte_read c.args.input.now c.args.tree.start c.in_ok-byte.field-0.now n.bracket.within read)
    ∙ n.bracket.is)
