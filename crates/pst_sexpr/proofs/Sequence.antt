-- Writing one text after another, also where the sink fails in one of them.
--
-- Where a function writes a text in pieces, `WritesUpTo` says how far it has come: it is the invariant of its loops.
-- `nothing_yet` begins it, `then_all` goes over a piece, `all_written` ends it. At the exit of a `?` there is `then_fails`,
-- and `then_last` where the answer of the last piece is returned as it is. They take what is left behind the piece (often `_`),
-- and last that the rest is the piece and what is left: `refl` where the text is written as `one ++ (two ++ three)`.
use Rattle.std.proofs.Common.{◌≡◌, ℕ, Bool, false, List, [], ◌++◌, Option, Result, Ok, Err, refl, ap, sym, ◌∙◌, subst, append_assoc, append-nil}
use Rattle.std.specs.Io.KnownBytes.{Appends}
use Rattle.std.proofs.KnownBytes.{Appends-nil, Appends-trans}
use Rattle.std.specs.Result.{IsErr}
use Rattle.std.proofs.lemmas.Result.{MatchResult-from_err}
use Rattle.pst_sexpr.specs.declared.sink.WriteFailed.{WriteFailed}
use Rattle.pst_sexpr.specs.Writing.{WritesPart, Writes}

-- all of the text but the rest was appended, and the sink has not failed
pub record WritesUpTo (before after : Option (List ℕ)) (broken : Bool) (text rest : List ℕ) : Type 0 where
  pub sent : List ℕ
  pub split : text ≡ sent ++ rest
  pub appended : Appends before after sent
  pub stands : broken ≡ false

-- nothing is written yet
pub nothing_yet : {taken : Option (List ℕ)} {broken : Bool} (text : List ℕ) → broken ≡ false → WritesUpTo taken taken broken text text
nothing_yet {taken} text e = record { sent = []; split = refl; appended = Appends-nil taken; stands = e }

-- a piece was written
pub then_all : {before mid after : Option (List ℕ)} {broken last : Bool} {text rest piece : List ℕ} {done : Unit {0}} (left : List ℕ) →
    WritesUpTo before mid broken text rest → Writes mid after last (Ok done) piece → rest ≡ piece ++ left → WritesUpTo before after last text left
then_all {before} {mid} {after} {piece} left so_far w e =
    record {
      sent = so_far.sent ++ piece;
      split = so_far.split ∙ ap (λ l. so_far.sent ++ l) e ∙ sym (append_assoc so_far.sent piece left);
      appended = Appends-trans before mid after so_far.sent piece so_far.appended w.outcome.appended;
      stands = w.outcome.stands;
    }

-- a beginning of a piece was written
pub then_part : {before mid after : Option (List ℕ)} {broken : Bool} {text rest piece : List ℕ} (left : List ℕ) →
    WritesUpTo before mid broken text rest → WritesPart mid after piece → rest ≡ piece ++ left → WritesPart before after text
then_part {before} {mid} {after} left so_far part e =
    record {
      sent = so_far.sent ++ part.sent;
      unsent = part.unsent ++ left;
      split = so_far.split ∙ ap (λ l. so_far.sent ++ l) (e ∙ ap (λ l. l ++ left) part.split ∙ append_assoc part.sent part.unsent left)
          ∙ sym (append_assoc so_far.sent part.sent (part.unsent ++ left));
      appended = Appends-trans before mid after so_far.sent part.sent so_far.appended part.appended;
    }

-- the sink failed in a piece
pub then_fails : {before mid after : Option (List ℕ)} {broken last : Bool} {text rest piece : List ℕ} {failed : WriteFailed} {result : Result (Unit {0}) WriteFailed} (left : List ℕ) →
    IsErr result → WritesUpTo before mid broken text rest → Writes mid after last (Err failed) piece → rest ≡ piece ++ left → Writes before after last result text
then_fails {result} left is so_far w e = record { outcome = MatchResult-from_err result _ _ is (λ _. (then_part left so_far w.outcome.0 e, w.outcome.1)) }

-- all of the text was written
pub all_written : {before after : Option (List ℕ)} {broken : Bool} {text rest : List ℕ} {done : Unit {0}} →
    WritesUpTo before after broken text rest → rest ≡ [] → Writes before after broken (Ok done) text
all_written {before} {after} so_far e =
    let split = so_far.split ∙ ap (λ l. so_far.sent ++ l) e ∙ append-nil so_far.sent in
    record { outcome = record { appended = subst (λ l. Appends before after l) (sym split) so_far.appended; stands = so_far.stands } }

-- the answer of the last piece is that of the text
pub then_last : {before mid after : Option (List ℕ)} {broken last : Bool} {text rest piece : List ℕ} {result : Result (Unit {0}) WriteFailed} →
    WritesUpTo before mid broken text rest → Writes mid after last result piece → rest ≡ piece → Writes before after last result text
then_last {result = Ok done} so_far w e = all_written (then_all [] so_far w (e ∙ sym (append-nil _))) refl
then_last {result = Err failed} so_far w e = then_fails [] refl so_far w (e ∙ sym (append-nil _))

-- what is written so far is a beginning of the text
pub so_far_is_part : {before after : Option (List ℕ)} {broken : Bool} {text rest : List ℕ} → WritesUpTo before after broken text rest → WritesPart before after text
so_far_is_part {rest} so_far = record { sent = so_far.sent; unsent = rest; split = so_far.split; appended = so_far.appended }

-- the same text in another form
pub writes_is : {before after : Option (List ℕ)} {broken : Bool} {one two : List ℕ} {result : Result (Unit {0}) WriteFailed} →
    two ≡ one → Writes before after broken result one → Writes before after broken result two
writes_is {before} {after} {broken} {result} e w = subst (λ l. Writes before after broken result l) (sym e) w

-- one text and then another
pub one_then_two : {before mid after : Option (List ℕ)} {broken last : Bool} {one two : List ℕ} {done : Unit {0}} {result : Result (Unit {0}) WriteFailed} →
    Writes before mid broken (Ok done) one → Writes mid after last result two → Writes before after last result (one ++ two)
one_then_two {before} {one} {two} first second =
    then_last (record { sent = one; split = refl; appended = first.outcome.appended; stands = first.outcome.stands }) second refl

-- the lemmas for a `grind` or a `search`
pub ruleset writing = (nothing_yet, then_all, then_fails, all_written, then_last, one_then_two)
