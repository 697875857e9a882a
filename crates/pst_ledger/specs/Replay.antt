-- Lists of calls, as events, and what the book answers to them.
use Rattle.std.specs.Prelude.{ℕ, ◌<◌, ⊤, List, [], ◌∷◌, length}
use Rattle.pst_ledger.specs.declared.entry.Entry.TheVariants.{Done, Lost}
use Rattle.pst_ledger.specs.declared.book.BookCall.{BookCall}
use Rattle.pst_ledger.specs.declared.book.BookCall.TheVariants as call
use Rattle.pst_ledger.specs.declared.book.BookReply.{BookReply}
use Rattle.pst_ledger.specs.declared.book.BookReply.TheVariants as reply
use Rattle.pst_ledger.specs.Core.{Core, Event, claim, finish, Answer, granted, none_left, accepted, refused, after, HoldsNone}

-- the answer that a reply stands for
abbrev pub answer_of : BookReply → Answer
answer_of (reply.Granted k) = granted k
answer_of reply.NoneLeft = none_left
answer_of reply.Accepted = accepted
answer_of (reply.Refused f) = refused f

module _ {R : Type 0} where
  -- the event that a call is, where this is a record's number
  abbrev pub event_of : (R → ℕ) → BookCall R → Event R
  event_of number (call.Claim s) = claim s
  event_of number (call.Deposit s r) = finish s (number r) (Done r)
  event_of number (call.Lose s k c) = finish s k (Lost c)

  -- a claim is by one of the seats, and by one that holds no number
  abbrev pub IsAllowed : Core R → Event R → Type 0
  IsAllowed c (claim s) = (s < length c.marks) × HoldsNone s c.spots
  IsAllowed c (finish s k e) = ⊤

  abbrev pub AllAllowed : Core R → List (Event R) → Type 0
  AllAllowed c [] = ⊤
  AllAllowed c (e ∷ es) = IsAllowed c e × AllAllowed (after c e).0 es

  -- the answers to a list of events
  abbrev pub answers : Core R → List (Event R) → List Answer
  answers c [] = []
  answers c (e ∷ es) = (after c e).1 ∷ answers (after c e).0 es
