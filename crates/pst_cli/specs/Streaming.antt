-- What is written of a stream, block by block.
use Rattle.std.specs.Prelude.{◌≡◌, ℕ, ◌+◌, Bool, true, false, List, ◌++◌, length, Option, Some, Result, MatchResult, ⊤}
use Rattle.std.specs.List.{AllZip}
use Rattle.pst_cli.specs.KeepingOn.{answer_lines, worst_status}
use Rattle.pst_cli.specs.declared.answer.Status.{Status}
use Rattle.pst_cli.specs.declared.answer.Status.TheVariants.{Accepted}
use Rattle.pst_cli.specs.declared.stream.Cut.{Cut}
use Rattle.pst_cli.specs.declared.stream.Cut.TheVariants.{Unread, NoMemory, Unwritten}
use Rattle.pst_cli.specs.declared.stream.Written.{Written}
use Rattle.pst_judge.specs.declared.by_order.CallOrder.{CallOrder}
use Rattle.pst_rejudge.specs.declared.reading.ItemResult.{ItemResult}
use Rattle.pst_model.specs.declared.model.Source.{Source}
use Rattle.pst_sexpr.specs.Writing.{WritesAll, WritesPart}
use Rattle.pst_rejudge.specs.StreamAnswers.{IsLineAnswer}
use Rattle.pst_rejudge.specs.Lines.{lines_of}
use Rattle.pst_rejudge.specs.declared.stream_reading.StreamFault.{StreamFault}
use Rattle.pst_rejudge.specs.declared.stream_reading.StreamFault.TheVariants as fault

-- why the lines end where a block cannot be had
abbrev pub cut_of : StreamFault → Cut
cut_of fault.Unread = Unread
cut_of fault.NoMemory = NoMemory

module _ (before after : Option (List ℕ)) (broken : Bool) (text : List ℕ) where
  -- the sink took nothing; or it failed, and took a beginning of the text
  abbrev pub IsUnwritten : Cut → Type 0
  IsUnwritten Unread = ⊥
  IsUnwritten NoMemory = (after ≡ before) × (broken ≡ false)
  IsUnwritten Unwritten = WritesPart before after text × (broken ≡ true)

  -- all of the text was written; or, where the sink failed, a beginning of it
  abbrev pub IsWrittenTo : Cut → Type 0
  IsWrittenTo Unread = WritesAll before after broken text
  IsWrittenTo NoMemory = WritesAll before after broken text
  IsWrittenTo Unwritten = WritesPart before after text × (broken ≡ true)

-- the answers were counted behind those before
pub record AreCounted (old : Written) (answers : List ItemResult) (new : Written) : Type 0 where
  pub count : new.count ≡ old.count + length answers
  pub status : new.status ≡ worst_status old.status answers

-- the lines of these answers were written behind those before, and counted; or they were not
abbrev pub EndsBlock : Written → List ItemResult → (before after : Option (List ℕ)) → Bool → Result Written Cut → Type 0
EndsBlock old answers before after broken result =
    MatchResult result
    (λ new. AreCounted old answers new × WritesAll before after broken (answer_lines (old.count + 1) answers))
    (IsUnwritten before after broken (answer_lines (old.count + 1) answers))

-- the lines may end for this reason: the source of the stream fails only if it may
abbrev pub MayCutBy : Type 0 → Cut → Type 0
MayCutBy may_fail Unread = may_fail
MayCutBy may_fail NoMemory = ⊤
MayCutBy may_fail Unwritten = ⊤

module _ (order : CallOrder) (m : Source) (stream before after : Option (List ℕ)) (broken : Bool) where
  -- all lines of the stream are answered, and the lines of the answers were written
  pub record IsWhole (status : Status) : Type 0 where
    pub lines : List (List ℕ)
    pub whole : (bytes : List ℕ) → stream ≡ Some bytes → lines_of bytes ≡ lines
    pub answers : List ItemResult
    pub answered : AllZip (IsLineAnswer order m) lines answers
    pub written : WritesAll before after broken (answer_lines 1 answers)
    pub worst : status ≡ worst_status Accepted answers

  -- the first lines of the stream are answered, and the lines of the answers were written, or a beginning of them
  pub record IsCutShort (may_fail : Type 0) (cut : Cut) : Type 0 where
    pub first : List (List ℕ)
    pub front : (bytes : List ℕ) → stream ≡ Some bytes → (rest : List (List ℕ)) × (lines_of bytes ≡ first ++ rest)
    pub answers : List ItemResult
    pub answered : AllZip (IsLineAnswer order m) first answers
    pub written : IsWrittenTo before after broken (answer_lines 1 answers) cut
    pub may_cut : MayCutBy may_fail cut

  -- one of these
  abbrev pub EndsStream : Type 0 → Result Status Cut → Type 0
  EndsStream may_fail result = MatchResult result IsWhole (IsCutShort may_fail)
