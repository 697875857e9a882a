use Rattle.std.proofs.Common.{◌≡◌, [], ◌+◌, ap, ◌∙◌, subst, get_or, sum, slice_set, arith}
use Rattle.std.proofs.lemmas.Grind.{common_steps}
use Rattle.std.proofs.lemmas.List.{append-nil}
use Rattle.pst_grid.specs.Orders.{IsFilled, IsFirstOpen, IsNoneOpen}
use Rattle.pst_grid.proofs.Opening.{filling-more, none-left}
use Rattle.pst_grid.proofs.Placing.{sum-more, sum-left}
use Rattle.pst_grid.proofs.search.complete_interleaving_in_order.Goals as goal

pub loop-branch-smaller : goal.loop-branch-smaller
loop-branch-smaller g c =
    let now = c.loop-branch.done.items in
    let b = c.in-Some.branch in
    let lengths = c.args.lengths.now in
    let index_is : c.index_mut.result.now ≡ get_or now b 0 = grind (arith, common_steps) in
    let first : IsFirstOpen (g.O.Order.order c.args.order.now) lengths now b = rw c.deref.ensures.value at c.in-Some.ensures in
    let left = first.0.0 in
    let place = c.loop-branch.invariant.place in
    let more : sum (slice_set now b (c.index_mut.result.now + 1)) ≡ sum now + 1 = ap (λ i. sum (slice_set now b (i + 1))) index_is ∙ sum-more lengths now b place left in
    omega (arith, more, sum-left lengths now b place left)

pub loop-branch-preserved : goal.loop-branch-preserved
loop-branch-preserved g c =
    let now = c.loop-branch.done.items in
    let b = c.in-Some.branch in
    let index_is : c.index_mut.result.now ≡ get_or now b 0 = grind (arith, common_steps) in
    let first : IsFirstOpen (g.O.Order.order c.args.order.now) c.args.lengths.now now b = rw c.deref.ensures.value at c.in-Some.ensures in
    filling-more (g.O.Order.order c.args.order.now) c.args.lengths.now c.args.done.items c.args.word.items now _ c.loop-branch.whole.items _ b c.loop-branch.invariant first
    (ap (λ i. slice_set now b (i + 1)) index_is) c.in_ok-push.ensures.items

pub returns : goal.returns
returns g c =
    let order = g.O.Order.order c.args.order.now in
    let p = c.loop-branch.invariant in
    let none : IsNoneOpen order c.args.lengths.now c.loop-branch.done.items = rw c.deref.ensures.value at c.in_default.ensures in
    (p.letters, subst (IsFilled order c.args.lengths.now c.args.done.items) (append-nil p.letters) (p.filled [] (none-left order c.args.lengths.now c.loop-branch.done.items p.place c.requires.progress none)), p.items)
