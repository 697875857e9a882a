use Rattle.std.proofs.Common.{sym, ◌∙◌}
use Rattle.pst_clients.proofs.marks.MarkedLine.before_mark_at.Goals as goal

pub returns : goal.returns
returns c = record {
  text = c.split_at.result.0.now;
  said = c.in_ok-first.said.now;
  parts = cc (c.split_at.ensures.by_index.0, c.in_ok-first.ensures.cases.0);
  last = sym c.contains.ensures.value ∙ c.if-contains.false;
  means = c.saying.ensures;
}
