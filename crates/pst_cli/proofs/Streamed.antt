-- What is written of a stream is its output.
use Rattle.std.proofs.Common.{◌≡◌, ◌∙◌, inl, inr, ℕ, Bool, List, ◌++◌, Option, Some, refl, sym, ap, subst, append_assoc}
use Rattle.std.proofs.KnownBytes.{Appends-trans}
use Rattle.std.specs.List.{AllZip}
use Rattle.pst_cli.specs.KeepingOn.{answer_lines}
use Rattle.pst_cli.specs.Sending.{Sends, SendsOne, memory_line}
use Rattle.pst_cli.specs.StreamOutput.{IsCutLine, IsStreamOutput, whole, cut as cut_short}
use Rattle.pst_cli.specs.Streaming.{IsCutShort, IsWhole}
use Rattle.pst_cli.specs.declared.answer.Status.{Status}
use Rattle.pst_cli.specs.declared.answer.Status.TheVariants.{Lost}
use Rattle.pst_cli.specs.declared.stream.Cut.{Cut}
use Rattle.pst_cli.specs.declared.stream.Cut.TheVariants as cut
use Rattle.pst_judge.specs.declared.by_order.CallOrder.{CallOrder}
use Rattle.pst_model.specs.declared.model.Source.{Source}
use Rattle.pst_rejudge.specs.StreamAnswers.{IsLineAnswer}
use Rattle.pst_sexpr.specs.Writing.{WritesAll, WritesPart}
use Rattle.pst_sexpr.specs.declared.form.Form.{Form}
use Rattle.pst_typing.specs.Loading.{Holds}

pub all_after : {before mid after : Option (List ℕ)} {mid_broken broken : Bool} {one two : List ℕ} → WritesAll before mid mid_broken one
    → WritesAll mid after broken two → WritesAll before after broken (one ++ two)
all_after {before} {mid} {after} {one = one} {two} w v =
    record { appended = Appends-trans before mid after one two w.appended v.appended; stands = v.stands }

pub part_after : {before mid after : Option (List ℕ)} {mid_broken : Bool} {one two : List ℕ} → WritesAll before mid mid_broken one
    → WritesPart mid after two → WritesPart before after (one ++ two)
part_after {before} {mid} {after} {one = one} {two} w v = record {
  sent = one ++ v.sent;
  unsent = v.unsent;
  split = ap (λ t. one ++ t) v.split ∙ sym (append_assoc one v.sent v.unsent);
  appended = Appends-trans before mid after one v.sent w.appended v.appended;
}

-- a text was written, and another was sent behind it
pub sends_behind : {before mid after : Option (List ℕ)} {mid_broken broken : Bool} {one two : List ℕ} {answer status : Status}
    → WritesAll before mid mid_broken one → Sends mid after broken answer two status
    → Sends before after broken answer (one ++ two) status
sends_behind w (inl v) = inl (all_after w v.0, v.1)
sends_behind w (inr v) = inr (part_after w v.0, v.1, v.2)

-- a text of which a beginning was written, and more behind it
pub part_of_more : {before after : Option (List ℕ)} {one : List ℕ} (two : List ℕ) → WritesPart before after one
    → WritesPart before after (one ++ two)
part_of_more two v = record {
  sent = v.sent;
  unsent = v.unsent ++ two;
  split = ap (λ t. t ++ two) v.split ∙ append_assoc v.sent v.unsent two;
  appended = v.appended;
}

module _ (may_fail : Type 0) (order : CallOrder) (input bytes : List ℕ) (m : Source) (trees : List Form) (holds : Holds input m trees) (stream before : Option (List ℕ))
    (known : stream ≡ Some bytes) where
  pub whole_prints : {after : Option (List ℕ)} {broken : Bool} {status : Status} → IsWhole order m stream before after broken status
      → SendsOne (IsStreamOutput may_fail order input bytes) before after broken status
  whole_prints {after} {broken} {status} w = record {
    text = answer_lines 1 w.answers;
    status = status;
    lawful = whole m trees w.answers holds
        (subst (λ ls. AllZip (IsLineAnswer order m) ls w.answers) (sym (w.whole bytes known)) w.answered) refl w.worst;
    sent = inl (w.written, refl);
  }

  -- the first lines were written, and why the others were not judged
  cut_prints : {mid after : Option (List ℕ)} {mid_broken broken : Bool} {answer : Status} (why : Cut) (line : List ℕ) (status : Status)
      → IsCutLine may_fail line status → (w : IsCutShort order m stream before mid mid_broken may_fail why)
      → WritesAll before mid mid_broken (answer_lines 1 w.answers)
      → Sends mid after broken answer line status → SendsOne (IsStreamOutput may_fail order input bytes) before after broken answer
  cut_prints why line status is w lines s = record {
    text = answer_lines 1 w.answers ++ line;
    status = status;
    lawful = cut_short m trees w.first (w.front bytes known).0 w.answers line holds (w.front bytes known).1 w.answered is refl;
    sent = sends_behind lines s;
  }

  pub unread_prints : {mid after : Option (List ℕ)} {mid_broken broken : Bool} {answer : Status} (line : List ℕ) (status : Status)
      → IsCutLine may_fail line status → IsCutShort order m stream before mid mid_broken may_fail cut.Unread
      → Sends mid after broken answer line status → SendsOne (IsStreamOutput may_fail order input bytes) before after broken answer
  unread_prints line status is w s = cut_prints cut.Unread line status is w w.written s

  pub no_memory_prints : {mid after : Option (List ℕ)} {mid_broken broken : Bool} {answer : Status} (line : List ℕ) (status : Status)
      → IsCutLine may_fail line status → IsCutShort order m stream before mid mid_broken may_fail cut.NoMemory
      → Sends mid after broken answer line status → SendsOne (IsStreamOutput may_fail order input bytes) before after broken answer
  no_memory_prints line status is w s = cut_prints cut.NoMemory line status is w w.written s

  -- a beginning of the first lines was written
  pub unwritten_prints : {after : Option (List ℕ)} {broken : Bool} → IsCutShort order m stream before after broken may_fail cut.Unwritten
      → SendsOne (IsStreamOutput may_fail order input bytes) before after broken Lost
  unwritten_prints w = record {
    text = answer_lines 1 w.answers ++ memory_line;
    status = Lost;
    lawful = cut_short m trees w.first (w.front bytes known).0 w.answers memory_line holds (w.front bytes known).1 w.answered
        (inr (refl, refl)) refl;
    sent = inr (part_of_more memory_line w.written.0, w.written.1, refl);
  }
