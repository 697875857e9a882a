use Rattle.std.proofs.Common.{◌≡◌, ◌≤◌, ◌+◌, ◌++◌, map, length}
use Rattle.std.specs.Prelude.{vec_len, vec_capacity}
use Rattle.std.specs.Vec.Iter.{into_iter_items, into_iter_len}
use Rattle.pst_ledger.specs.Core.{run}
use Rattle.pst_ledger.specs.Replay.{event_of, answer_of, answers, AllAllowed}
use Rattle.pst_ledger.proofs.book.make_calls_and_add_replies.Given as goal

abbrev pub invariant-loop-call : goal.invariant-loop-call
invariant-loop-call g l = record {
  all : l.yielded ++ into_iter_items l.call-iterator ≡ into_iter_items l.initial.call-iterator;
  long : into_iter_len l.call-iterator ≡ length (into_iter_items l.call-iterator);
  state : l.book ≡ run l.initial.book (map (event_of g.R.Numbered.number_of) l.yielded);
  replied : map answer_of l.replies.items ≡ map answer_of l.initial.replies.items ++ answers l.initial.book (map (event_of g.R.Numbered.number_of) l.yielded);
  legal : AllAllowed l.book (map (event_of g.R.Numbered.number_of) (into_iter_items l.call-iterator));
  room : vec_len l.replies + length (into_iter_items l.call-iterator) ≤ vec_capacity l.replies;
}
