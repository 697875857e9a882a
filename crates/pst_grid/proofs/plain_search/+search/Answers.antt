use Rattle.std.proofs.Common.{◌≡◌, ◌<◌, ◌∙◌, sym, true, get_or, arith}
use Rattle.std.proofs.lemmas.Grind.{common_steps}
use Rattle.pst_grid.specs.declared.search.Goal.TheVariants.{ToEnd}
use Rattle.pst_grid.proofs.Searching.{explored-found, explored-more, explored-all, visited-found, visited-Next, visited-stop, back_again, take_again}
use Rattle.pst_grid.proofs.Placing.{IsAt-branch}
use Rattle.pst_grid.proofs.plain_search.+search.Goals as goal

pub explore_plainly-returns-then-branch : goal.explore_plainly-returns-then-branch
explore_plainly-returns-then-branch g t c =
    explored-found (g.S.Steps.outcome c.args.steps.now) (g.S.Steps.rest c.args.steps.now) ToEnd (g.O.Order.order c.args.order.now) c.args.lengths.now c.args.state.now c.args.search.now c.loop-branch.search c.explore_branch_plainly.new.search c.loop-branch.branch c.loop-branch.invariant.covered
    (rw c.if-branch.true at c.in_ok-explore_branch_plainly.ensures)

pub explore_plainly-loop-branch-preserved : goal.explore_plainly-loop-branch-preserved
explore_plainly-loop-branch-preserved g t c = record {
  covered = explored-more (g.S.Steps.outcome c.args.steps.now) (g.S.Steps.rest c.args.steps.now) ToEnd (g.O.Order.order c.args.order.now) c.args.lengths.now c.args.state.now c.args.search.now c.loop-branch.search c.explore_branch_plainly.new.search c.loop-branch.branch c.loop-branch.invariant.covered
      (rw c.if-branch.false at c.in_ok-explore_branch_plainly.ensures);
  some_left = c.loop-branch.invariant.some_left;
}

pub explore_plainly-returns : goal.explore_plainly-returns
explore_plainly-returns g t c =
    explored-all (g.S.Steps.outcome c.args.steps.now) (g.S.Steps.rest c.args.steps.now) ToEnd (g.O.Order.order c.args.order.now) c.args.lengths.now c.args.state.now c.args.search.now c.loop-branch.search c.loop-branch.branch c.loop-branch.invariant.some_left (omega arith) c.loop-branch.invariant.covered

pub explore_branch_plainly-returns-then-branch : goal.explore_branch_plainly-returns-then-branch
explore_branch_plainly-returns-then-branch g t c =
    let here = c.args.search.now in
    let lengths = c.args.lengths.now in
    let b = c.args.branch in
    let index_is : c.index-index.result.now ≡ get_or here.done.items b 0 = grind (arith, common_steps) in
    let left : get_or here.done.items b 0 < get_or lengths b 0 = grind (arith, common_steps) in
    let may : g.O.Order.order c.args.order.now here.done.items c.args.branch ≡ true = grind (arith, common_steps) in
    let turn_is = rw index_is at (sym c.in_ok-next.ensures.answer ∙ c.in-Next.is) in
    let e = c.in_ok-advance_in_branch-in-Next.ensures in
    visited-found (g.S.Steps.outcome c.args.steps.now) (g.S.Steps.rest c.args.steps.now) ToEnd (g.O.Order.order c.args.order.now) lengths c.args.state.now here.done.items here.word.items b c.requires.place left may
    c.in-Next.next c.advance_in_branch.new.self.done.items c.advance_in_branch.new.self.word.items c.explore_plainly.new.search turn_is e.done e.word (rw c.if-branch.true at c.in_ok-explore_plainly-in-Next.ensures)

pub explore_branch_plainly-returns-else-branch : goal.explore_branch_plainly-returns-else-branch
explore_branch_plainly-returns-else-branch g t c =
    let here = c.args.search.now in
    let lengths = c.args.lengths.now in
    let b = c.args.branch in
    let index_is : c.index-index.result.now ≡ get_or here.done.items b 0 = grind (arith, common_steps) in
    let left : get_or here.done.items b 0 < get_or lengths b 0 = grind (arith, common_steps) in
    let may : g.O.Order.order c.args.order.now here.done.items c.args.branch ≡ true = grind (arith, common_steps) in
    let turn_is = rw index_is at (sym c.in_ok-next.ensures.answer ∙ c.in-Next.is) in
    let explored = c.explore_plainly.new.search in
    let e = c.in_ok-advance_in_branch-in-Next.ensures in
    let h = rw c.if-branch.false at c.in_ok-explore_plainly-in-Next.ensures in
    record {
      word = c.go_back_in_branch.ensures.word ∙ take_again here.word.items explored.word.items b (h.word ∙ e.word);
      done = c.go_back_in_branch.ensures.done ∙ back_again here.done.items explored.done.items b (IsAt-branch lengths here.done.items b c.requires.place left) (h.done ∙ e.done);
      covered = visited-Next (g.S.Steps.outcome c.args.steps.now) (g.S.Steps.rest c.args.steps.now) ToEnd (g.O.Order.order c.args.order.now) lengths c.args.state.now here.done.items here.word.items b c.requires.place left may
          c.in-Next.next here.best c.advance_in_branch.new.self explored c.go_back_in_branch.new.self.best turn_is e.done e.word e.best h c.go_back_in_branch.ensures.best;
    }

pub explore_branch_plainly-returns-in_ok-note_stop_by_next_command-in-Stop : goal.explore_branch_plainly-returns-in_ok-note_stop_by_next_command-in-Stop
explore_branch_plainly-returns-in_ok-note_stop_by_next_command-in-Stop g t c =
    let here = c.args.search.now in
    let b = c.args.branch in
    let index_is : c.index-index.result.now ≡ get_or here.done.items b 0 = grind (arith, common_steps) in
    let left : get_or here.done.items b 0 < get_or c.args.lengths.now b 0 = grind (arith, common_steps) in
    let may : g.O.Order.order c.args.order.now here.done.items c.args.branch ≡ true = grind (arith, common_steps) in
    let turn_is = rw index_is at (sym c.in_ok-next.ensures.answer ∙ c.in-Stop.is) in
    let n = c.in_ok-note_stop_by_next_command-in-Stop.ensures in
    visited-stop (g.S.Steps.outcome c.args.steps.now) (g.S.Steps.rest c.args.steps.now) ToEnd (g.O.Order.order c.args.order.now) c.args.lengths.now c.args.state.now c.in-Stop.why here c.note_stop_by_next_command.new.self b n.best.0 c.requires.place left may turn_is (λ k. cc)
    n.word n.done n.best.1 n.best.2
