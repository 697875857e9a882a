-- What is answered of the lines that end in a block of a stream.
use Rattle.std.specs.Prelude.{◌≡◌, ℕ, suc, Bool, true, false, List, Option, take, ⊤}
use Rattle.std.specs.Io.KnownBytes.{Consumes, IsAtEnd}
use Rattle.std.specs.List.{AllZip}
use Rattle.pst_rejudge.specs.declared.reading.ItemResult.{ItemResult}
use Rattle.pst_rejudge.specs.declared.stream_reading.StreamFault.{StreamFault}
use Rattle.pst_rejudge.specs.declared.stream_reading.StreamFault.TheVariants.{Unread, NoMemory}
use Rattle.pst_judge.specs.declared.by_order.CallOrder.{CallOrder}
use Rattle.pst_model.specs.declared.model.Source.{Source}
use Rattle.pst_sexpr.specs.Reading.{max_bytes}
use Rattle.pst_rejudge.specs.StreamAnswers.{IsLineAnswer}
use Rattle.pst_rejudge.specs.Lines.{begun, ended, last_line}

module _ (order : CallOrder) (m : Source) (before after : Option (List ℕ)) (line : List ℕ) (kept : List ℕ) where
  -- these bytes were read, the answers are those to the lines that end in them, and of the line that has begun so much is kept
  pub record IsMiddleBlock (answers : List ItemResult) : Type 0 where
    pub bytes : List ℕ
    pub read : Consumes before after bytes
    pub kept_line : kept ≡ take (suc max_bytes) (begun line bytes)
    pub answered : AllZip (IsLineAnswer order m) (ended line bytes) answers

  -- no byte was left, and the answer is that to the line that had begun, if one had
  pub record IsLastBlock (answers : List ItemResult) : Type 0 where
    pub rest : IsAtEnd before
    pub answered : AllZip (IsLineAnswer order m) (last_line line) answers

  -- one of these
  abbrev pub IsBlock : Bool → List ItemResult → Type 0
  IsBlock true answers = IsLastBlock answers
  IsBlock false answers = IsMiddleBlock answers

-- a block may be missing for this reason: the source failed, if it may, or an allocation did
abbrev pub MayStopBy : Type 0 → StreamFault → Type 0
MayStopBy may_fail Unread = may_fail
MayStopBy may_fail NoMemory = ⊤
