use Rattle.std.proofs.Common.{arith, ◌≡◌, ◌∷◌, [], ◌++◌, List, length, map, refl, sym, ap, ◌∙◌, subst, append_assoc}
use Rattle.std.proofs.lemmas.List.{map-append}
use Rattle.std.specs.Vec.Iter.{into_iter_items}
use Rattle.pst_ledger.specs.Core.{Core, Answer, after, run}
use Rattle.pst_ledger.specs.Replay.{event_of, answer_of, answers, AllAllowed}
use Rattle.pst_ledger.proofs.Replaying.{run-snoc, answers-snoc}
use Rattle.pst_ledger.proofs.book.make_calls_and_add_replies.Goals as goal

nothing_left : {X : Type 0} (l : List X) → length l ≡ 0 → l ≡ []
nothing_left [] h = refl
nothing_left (x ∷ xs) h = absurd (omega arith)

pub make_call-reply-requires-clause-allowed : goal.make_call-reply-requires-clause-allowed
make_call-reply-requires-clause-allowed g c κs within =
    let at = c.loop-call in
    let ev = event_of g.R.Numbered.number_of in
    let steps : into_iter_items at.call-iterator ≡ c.in-Some.call ∷ into_iter_items c.next.new.self = c.in-Some.ensures.steps.0 in
    (subst (λ l. AllAllowed at.book (map ev l)) steps at.invariant.legal).0

pub push_reserved-requires : goal.push_reserved-requires
push_reserved-requires g c =
    let at = c.loop-call in
    let some_left = ap length c.in-Some.ensures.steps.0 in
    let room = at.invariant.room in
    omega (arith, some_left, room)

pub loop-call-preserved : goal.loop-call-preserved
loop-call-preserved g c =
    let at = c.loop-call in
    let x = c.in-Some.call in
    let ev = event_of g.R.Numbered.number_of in
    let start = c.args.book.now in
    let mid = c.make_call-reply.ensures in
    let steps : into_iter_items at.call-iterator ≡ x ∷ into_iter_items c.next.new.self = c.in-Some.ensures.steps.0 in
    let longer = map-append ev at.yielded (x ∷ []) in record {
      all = append_assoc at.yielded (x ∷ []) _ ∙ rw (← steps) at.invariant.all;
      long = (let was = at.invariant.long in let gone = c.in-Some.ensures.steps.1 in let short = ap length steps in omega arith);
      state = sym (ap (run start) longer ∙ (run-snoc start (map ev at.yielded) (ev x) ∙ (ap (λ (d : Core _). (after d (ev x)).0) (sym at.invariant.state) ∙ ap (λ p. p.0) mid)));
      replied = ap (map answer_of) c.push_reserved.ensures.items ∙ (map-append answer_of at.replies.items (c.make_call-reply.result ∷ [])
          ∙ (ap (λ (l : List Answer). l ++ answer_of c.make_call-reply.result ∷ []) at.invariant.replied
          ∙ (append_assoc (map answer_of c.args.replies.now.items) (answers start (map ev at.yielded)) (answer_of c.make_call-reply.result ∷ [])
          ∙ ap (λ (l : List Answer). map answer_of c.args.replies.now.items ++ l) (sym (ap (answers start) longer ∙ (answers-snoc start (map ev at.yielded) (ev x)
          ∙ ap (λ (a : Answer). answers start (map ev at.yielded) ++ a ∷ []) (ap (λ (d : Core _). (after d (ev x)).1) (sym at.invariant.state) ∙ ap (λ p. p.1) mid)))))));
      legal = subst (λ (d : Core _). AllAllowed d (map ev (into_iter_items c.next.new.self))) (ap (λ p. p.0) mid) (subst (λ l. AllAllowed at.book (map ev l)) steps at.invariant.legal).1;
      room = (let short = ap length steps in let room = at.invariant.room in omega (arith, short, room, c.push_reserved.ensures.capacity, c.push_reserved.ensures.len));
    }
