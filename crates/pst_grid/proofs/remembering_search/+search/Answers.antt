use Rattle.std.proofs.Common.{◌≡◌, ◌+◌, ◌<◌, ◌≤◌, [], refl, ap, ◌∙◌, sym, subst, not, get_or, sum, true, false, arith}
use Rattle.std.proofs.lemmas.Grind.{common_steps}
use Rattle.std.proofs.lemmas.List.{append-nil}
use Rattle.pst_grid.specs.Orders.{Extends}
use Rattle.pst_grid.specs.Covered.{IsExplored}
use Rattle.pst_grid.specs.Kept.{is_stopped}
use Rattle.pst_grid.specs.Remembered.{AreAccounted, IsGrown, IsSearched}
use Rattle.pst_grid.proofs.Covering.{Covered-full, Covered-closed, still-fresh}
use Rattle.pst_grid.proofs.Finishing.{if-ok, all-done, ended-true, still-accounted, again, accounted-below, accounted-here}
use Rattle.pst_grid.proofs.Growing.{grown-none, grown-more, grown-behind, grown-first, grown-end}
use Rattle.pst_grid.proofs.Placing.{IsAt-branch, sum-more}
use Rattle.pst_grid.proofs.Searching.{explored-start, explored-found, explored-more, explored-all, visited-found, visited-Next, visited-stop, back_again, take_again}
use Rattle.pst_grid.proofs.remembering_search.+search.Goals as goal

pub explore_unless_remembered-returns-then-not-has_rest : goal.explore_unless_remembered-returns-then-not-has_rest
explore_unless_remembered-returns-then-not-has_rest g t c =
    let here = c.args.search.now in
    let full = rw (c.if-ended.true, c.deref.ensures.value) at c.are_all_branches_done-ended.ensures in
    record {
      grown = grown-none _ _ _ _ _ _ c.args.seen.now.keys 0 here.steps here.steps (omega arith);
      ends = rw c.wants_stopped_interleaving.ensures (still-accounted _ _ c.args.goal c.args.state.now (g.O.Order.order c.args.order.now) c.args.lengths.now _ _ here here c.args.seen.now.keys (not (is_stopped c.args.goal)) c.requires.accounted
          (ended-true _ _ c.args.state.now (g.O.Order.order c.args.order.now) c.args.lengths.now here here c.requires.place full refl refl c.args.goal (c.if-not-has_rest.ensures c.args.state.now) refl));
    }

pub explore_unless_remembered-returns-then-not-branch : goal.explore_unless_remembered-returns-then-not-branch
explore_unless_remembered-returns-then-not-branch g t c =
    let here = c.args.search.now in
    let there = rw (c.if-not-branch.true, c.deref-2.ensures.value) at c.in_ok-remember_position_if_new.ensures in
    record {
      grown = rw there.1 (grown-none _ _ _ _ _ _ c.args.seen.now.keys 0 here.steps here.steps (omega arith));
      ends = again _ _ _ _ _ _ here c.args.seen.now.keys _ c.requires.depth c.requires.accounted there.0 there.1;
    }

pub explore_unless_remembered-returns-then-ended-2 : goal.explore_unless_remembered-returns-then-ended-2
explore_unless_remembered-returns-then-ended-2 g t c =
    let turn = g.S.Steps.outcome c.args.steps.now in
    let rest = g.S.Steps.rest c.args.steps.now in
    let most = g.S.Steps.most_rest c.args.steps.now in
    let here = c.args.search.now in
    let keys = c.args.seen.now.keys in
    let now = c.remember_position_if_new.new.seen.keys in
    let new = c.run_rest_and_check_goal.new.search in
    let is = rw (c.if-not-branch.false, c.deref-2.ensures.value) at c.in_ok-remember_position_if_new.ensures in
    let full = rw (c.if-ended-2.true, c.deref.ensures.value) at c.are_all_branches_done-ended.ensures in
    let place = c.requires.place in
    if-ok (IsExplored turn rest c.args.goal c.args.state.now (Extends (g.O.Order.order c.args.order.now) c.args.lengths.now here.done.items) here new)
    (IsSearched turn rest c.args.goal (g.O.Order.order c.args.order.now) c.args.lengths.now most 0 (sum here.done.items) c.args.state.now (Extends (g.O.Order.order c.args.order.now) c.args.lengths.now here.done.items) here new keys now)
    (new.steps ≤ here.steps + most) c.run_rest_and_check_goal.result
    (λ made found h. record {
      grown = grown-end _ _ _ _ _ _ _ _ _ (all-done _ _ place.branches place.within full) made is;
      ends = accounted-here _ _ _ _ _ _ here keys now c.requires.depth c.requires.accounted is new [] now found (sym (append-nil now)) tt
          (still-accounted turn rest c.args.goal c.args.state.now (g.O.Order.order c.args.order.now) c.args.lengths.now (sum here.done.items + 1) _ here new now found
          (accounted-below _ _ _ _ _ _ here keys now c.requires.depth c.requires.accounted is) h);
    })
    c.run_rest_and_check_goal.ensures.steps c.run_rest_and_check_goal.ensures.explored

pub explore_unless_remembered-loop-branch-init : goal.explore_unless_remembered-loop-branch-init
explore_unless_remembered-loop-branch-init g t c =
    let here = c.args.search.now in
    let is = rw (c.if-not-branch.false, c.deref-2.ensures.value) at c.in_ok-remember_position_if_new.ensures in
    record {
      fresh = c.requires.fresh;
      covered = record {
        covered = explored-start _ _ _ _ _ _ here;
        accounted = accounted-below (g.S.Steps.outcome c.args.steps.now) (g.S.Steps.rest c.args.steps.now) c.args.goal c.args.state.now (g.O.Order.order c.args.order.now) c.args.lengths.now here c.args.seen.now.keys c.remember_position_if_new.new.seen.keys c.requires.depth c.requires.accounted is;
      };
      grown = grown-none _ _ _ _ _ _ c.remember_position_if_new.new.seen.keys 0 here.steps here.steps (omega arith);
    }

pub explore_unless_remembered-loop-branch-preserved : goal.explore_unless_remembered-loop-branch-preserved
explore_unless_remembered-loop-branch-preserved g t c =
    let turn = g.S.Steps.outcome c.args.steps.now in
    let now = c.loop-branch.search in
    let new = c.explore_branch.new.search in
    let kept = c.loop-branch.invariant in
    let at = kept.covered.covered.done in
    let h = rw c.if-branch.false at c.in_ok-explore_branch.ensures in
    let covered = explored-more turn (g.S.Steps.rest c.args.steps.now) c.args.goal (g.O.Order.order c.args.order.now) c.args.lengths.now c.args.state.now c.args.search.now now new c.loop-branch.branch kept.covered.covered h.ends.covered in
    record {
      fresh = still-fresh _ _ _ _ _ _ _ _ _ covered.covered c.requires.fresh;
      covered = record {
        covered = covered;
        accounted = subst (λ d. AreAccounted turn (g.S.Steps.rest c.args.steps.now) c.args.goal (g.O.Order.order c.args.order.now) c.args.lengths.now (sum d + 1) new.best c.explore_branch.new.seen.keys) at h.ends.accounted;
      };
      grown = grown-more _ _ _ _ _ _ c.loop-branch.branch _ _ _ _ _ _ kept.grown
          (subst (λ d. IsGrown turn c.args.lengths.now (g.S.Steps.most_rest c.args.steps.now) 1 (sum d + 1) d c.args.state.now c.loop-branch.seen.keys c.explore_branch.new.seen.keys now.steps new.steps) at h.grown);
    }

pub explore_unless_remembered-returns-then-branch : goal.explore_unless_remembered-returns-then-branch
explore_unless_remembered-returns-then-branch g t c =
    let kept = c.loop-branch.invariant in
    let h = rw c.if-branch.true at c.in_ok-explore_branch.ensures in
    let is = rw (c.if-not-branch.false, c.deref-2.ensures.value) at c.in_ok-remember_position_if_new.ensures in
    let visited = subst (λ d. IsGrown (g.S.Steps.outcome c.args.steps.now) c.args.lengths.now (g.S.Steps.most_rest c.args.steps.now) 1 (sum d + 1) d c.args.state.now c.loop-branch.seen.keys c.explore_branch.new.seen.keys c.loop-branch.search.steps c.explore_branch.new.search.steps) kept.covered.covered.done h.grown in
    record {
      grown = grown-first _ _ _ _ _ (c.loop-branch.branch + 1) _ _ _ _ _ (omega arith) is (grown-more _ _ _ _ _ _ c.loop-branch.branch _ _ _ _ _ _ kept.grown visited);
      ends = explored-found _ _ _ _ _ _ c.args.search.now c.loop-branch.search _ c.loop-branch.branch kept.covered.covered h.ends;
    }

pub explore_unless_remembered-returns : goal.explore_unless_remembered-returns
explore_unless_remembered-returns g t c =
    let here = c.args.search.now in
    let kept = c.loop-branch.invariant in
    let is = rw (c.if-not-branch.false, c.deref-2.ensures.value) at c.in_ok-remember_position_if_new.ensures in
    let left = rw (c.if-ended-2.false, c.deref.ensures.value) at c.are_all_branches_done-ended.ensures in
    record {
      grown = grown-first _ _ _ _ _ c.loop-branch.branch _ _ _ _ _ (omega arith) is kept.grown;
      ends = accounted-here _ _ _ _ _ _ here c.args.seen.now.keys c.remember_position_if_new.new.seen.keys c.requires.depth c.requires.accounted is c.loop-branch.search kept.grown.added c.loop-branch.seen.keys false kept.grown.keys kept.grown.deep
          (record { covered = explored-all _ _ _ _ _ _ here c.loop-branch.search c.loop-branch.branch left (omega arith) kept.covered.covered; accounted = kept.covered.accounted });
    }

pub explore_branch-returns-then-index-lengths : goal.explore_branch-returns-then-index-lengths
explore_branch-returns-then-index-lengths g t c =
    let turn = g.S.Steps.outcome c.args.steps.now in
    let here = c.args.search.now in
    let lengths = c.args.lengths.now in
    let full : get_or lengths c.args.branch 0 ≤ get_or here.done.items c.args.branch 0 = grind (arith, common_steps) in
    record {
      grown = grown-none turn lengths (g.S.Steps.most_rest c.args.steps.now) _ _ _ c.args.seen.now.keys 1 here.steps here.steps (omega arith);
      ends = record {
        covered = record { word = refl; done = refl; covered = Covered-full turn (g.S.Steps.rest c.args.steps.now) c.args.goal (g.O.Order.order c.args.order.now) lengths here.done.items c.args.state.now c.args.branch here.word.items here.best full };
        accounted = c.requires.accounted;
      };
    }

pub explore_branch-returns-then-not-is_open : goal.explore_branch-returns-then-not-is_open
explore_branch-returns-then-not-is_open g t c =
    let turn = g.S.Steps.outcome c.args.steps.now in
    let here = c.args.search.now in
    let lengths = c.args.lengths.now in
    let closed : g.O.Order.order c.args.order.now here.done.items c.args.branch ≡ false = grind (arith, common_steps) in
    record {
      grown = grown-none turn lengths (g.S.Steps.most_rest c.args.steps.now) _ _ _ c.args.seen.now.keys 1 here.steps here.steps (omega arith);
      ends = record {
        covered = record { word = refl; done = refl; covered = Covered-closed turn (g.S.Steps.rest c.args.steps.now) c.args.goal (g.O.Order.order c.args.order.now) lengths here.done.items c.args.state.now c.args.branch here.word.items here.best closed };
        accounted = c.requires.accounted;
      };
    }

pub explore_branch-returns-then-branch : goal.explore_branch-returns-then-branch
explore_branch-returns-then-branch g t c =
    let turn = g.S.Steps.outcome c.args.steps.now in
    let rest = g.S.Steps.rest c.args.steps.now in
    let here = c.args.search.now in
    let lengths = c.args.lengths.now in
    let b = c.args.branch in
    let index_is : c.index-index.result.now ≡ get_or here.done.items b 0 = grind (arith, common_steps) in
    let left : get_or here.done.items b 0 < get_or lengths b 0 = grind (arith, common_steps) in
    let may : g.O.Order.order c.args.order.now here.done.items c.args.branch ≡ true = grind (arith, common_steps) in
    let turn_is = rw index_is at (sym c.in_ok-next.ensures.answer ∙ c.in-Next.is) in
    let entered = c.advance_in_branch.new.self in
    let e = c.in_ok-advance_in_branch-in-Next.ensures in
    let made : entered.steps ≤ here.steps + 1 = grind (arith, c.saturating_add-search.ensures, c.advance_in_branch.ensures.steps) in
    let h = rw c.if-branch.true at c.in_ok-explore_unless_remembered-in-Next.ensures in
    record {
      grown = grown-behind turn lengths (g.S.Steps.most_rest c.args.steps.now) here.done.items c.args.state.now b c.in-Next.next entered.done.items c.args.seen.now.keys c.explore_unless_remembered.new.seen.keys
          here.steps entered.steps c.explore_unless_remembered.new.search.steps left turn_is e.done (sum-more lengths here.done.items b c.requires.place left) made h.grown;
      ends = visited-found turn rest c.args.goal (g.O.Order.order c.args.order.now) lengths c.args.state.now here.done.items here.word.items b c.requires.place left may c.in-Next.next entered.done.items entered.word.items c.explore_unless_remembered.new.search turn_is e.done e.word h.ends;
    }

pub explore_branch-returns-else-branch : goal.explore_branch-returns-else-branch
explore_branch-returns-else-branch g t c =
    let turn = g.S.Steps.outcome c.args.steps.now in
    let rest = g.S.Steps.rest c.args.steps.now in
    let most = g.S.Steps.most_rest c.args.steps.now in
    let here = c.args.search.now in
    let lengths = c.args.lengths.now in
    let b = c.args.branch in
    let index_is : c.index-index.result.now ≡ get_or here.done.items b 0 = grind (arith, common_steps) in
    let left : get_or here.done.items b 0 < get_or lengths b 0 = grind (arith, common_steps) in
    let may : g.O.Order.order c.args.order.now here.done.items c.args.branch ≡ true = grind (arith, common_steps) in
    let turn_is = rw index_is at (sym c.in_ok-next.ensures.answer ∙ c.in-Next.is) in
    let more = sum-more lengths here.done.items b c.requires.place left in
    let entered = c.advance_in_branch.new.self in
    let explored = c.explore_unless_remembered.new.search in
    let seen = c.explore_unless_remembered.new.seen.keys in
    let e = c.in_ok-advance_in_branch-in-Next.ensures in
    let made : entered.steps ≤ here.steps + 1 = grind (arith, c.saturating_add-search.ensures, c.advance_in_branch.ensures.steps) in
    let h = rw c.if-branch.false at c.in_ok-explore_unless_remembered-in-Next.ensures in
    let k = h.ends.covered in
    record {
      grown = grown-behind turn lengths most here.done.items c.args.state.now b c.in-Next.next entered.done.items c.args.seen.now.keys seen here.steps entered.steps c.go_back_in_branch.new.self.steps left turn_is e.done more made
          (subst (λ n. IsGrown turn lengths most 0 (sum entered.done.items) entered.done.items c.in-Next.next c.args.seen.now.keys seen entered.steps n) (sym c.go_back_in_branch.ensures.steps) h.grown);
      ends = record {
        covered = record {
          word = c.go_back_in_branch.ensures.word ∙ take_again here.word.items explored.word.items b (k.word ∙ e.word);
          done = c.go_back_in_branch.ensures.done ∙ back_again here.done.items explored.done.items b (IsAt-branch lengths here.done.items b c.requires.place left) (k.done ∙ e.done);
          covered = visited-Next turn rest c.args.goal (g.O.Order.order c.args.order.now) lengths c.args.state.now here.done.items here.word.items b c.requires.place left may c.in-Next.next here.best entered explored c.go_back_in_branch.new.self.best turn_is e.done e.word e.best k c.go_back_in_branch.ensures.best;
        };
        accounted = subst (λ x. AreAccounted turn rest c.args.goal (g.O.Order.order c.args.order.now) lengths (sum here.done.items + 1) x seen) (sym c.go_back_in_branch.ensures.best)
            (subst (λ n. AreAccounted turn rest c.args.goal (g.O.Order.order c.args.order.now) lengths n explored.best seen) (ap sum e.done ∙ more) h.ends.accounted);
      };
    }

pub explore_branch-returns-in_ok-note_stop_by_next_command-in-Stop : goal.explore_branch-returns-in_ok-note_stop_by_next_command-in-Stop
explore_branch-returns-in_ok-note_stop_by_next_command-in-Stop g t c =
    let here = c.args.search.now in
    let b = c.args.branch in
    let index_is : c.index-index.result.now ≡ get_or here.done.items b 0 = grind (arith, common_steps) in
    let left : get_or here.done.items b 0 < get_or c.args.lengths.now b 0 = grind (arith, common_steps) in
    let may : g.O.Order.order c.args.order.now here.done.items c.args.branch ≡ true = grind (arith, common_steps) in
    let turn_is = rw index_is at (sym c.in_ok-next.ensures.answer ∙ c.in-Stop.is) in
    let new = c.note_stop_by_next_command.new.self in
    let n = c.in_ok-note_stop_by_next_command-in-Stop.ensures in
    let made : new.steps ≤ here.steps + 1 = grind (arith, c.saturating_add-search.ensures, n.steps) in
    record {
      grown = grown-none _ _ _ _ _ _ c.args.seen.now.keys 1 here.steps new.steps made;
      ends = rw c.wants_stopped_interleaving.ensures (still-accounted _ _ c.args.goal c.args.state.now (g.O.Order.order c.args.order.now) c.args.lengths.now _ _ here new c.args.seen.now.keys (is_stopped c.args.goal) c.requires.accounted
          (visited-stop _ _ c.args.goal (g.O.Order.order c.args.order.now) c.args.lengths.now c.args.state.now c.in-Stop.why here new b n.best.0 c.requires.place left may turn_is c.requires.fresh n.word n.done n.best.1 n.best.2));
    }
