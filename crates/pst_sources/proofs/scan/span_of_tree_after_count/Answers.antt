use Rattle.std.proofs.Common.{◌+◌, ◌-◌, arith}
use Rattle.pst_sources.proofs.Found.{ahead_found, ahead_more}
use Rattle.pst_sources.proofs.scan.span_of_tree_after_count.Goals as goal

pub loop-preserved : goal.loop-preserved
loop-preserved c trees tree h e =
    let s = c.tree_at-at.ensures in
    ahead_more c.args.input.now c.loop.at (c.args.count - c.loop.counter)
    (c.args.count - (c.loop.counter + 1)) c.tree_at-at.result tree
    (c.loop.invariant trees tree h e) (omega arith) (record {
      within = s.within;
      start = s.start;
      end = s.end;
    })

pub returns-clause-found : goal.returns-clause-found
returns-clause-found c trees tree h e =
    let s = c.tree_at.ensures in
    ahead_found c.args.input.now c.loop.at (c.args.count - c.loop.counter) c.tree_at.result tree
    (c.loop.invariant trees tree h e) (omega arith) (record {
      within = s.within;
      start = s.start;
      end = s.end;
    })
