-- How far a stream has been judged and its lines written.
use Rattle.std.proofs.Common.{◌≡◌, ◌∙◌, ℕ, suc, ◌+◌, Bool, true, false, List, [], ◌∷◌, ◌++◌, Option, Some, None, length, length-append, take, refl, sym, ap, subst, arith, append_assoc, append-nil}
use Rattle.std.proofs.KnownBytes.{Consumes-nil, Consumes-trans, Appends-nil, Appends-trans}
use Rattle.std.specs.Io.KnownBytes.{Consumes, IsAtEnd, Appends}
use Rattle.std.specs.List.{AllZip}
use Rattle.std.specs.Prelude.{◌==◌, if◌then◌else◌}
use Rattle.rayon.proofs.ListFacts.{AllZip-append}
use Rattle.pst_cli.specs.KeepingOn.{answer_line, answer_lines, answer_status, worst_status}
use Rattle.pst_cli.specs.Status.{or_worse}
use Rattle.pst_cli.specs.Streaming.{AreCounted, IsCutShort, IsWhole, IsUnwritten, IsWrittenTo, MayCutBy, cut_of}
use Rattle.pst_cli.specs.declared.answer.Status.{Status}
use Rattle.pst_cli.specs.declared.answer.Status.TheVariants.{Accepted}
use Rattle.pst_cli.specs.declared.stream.Cut.{Cut}
use Rattle.pst_cli.specs.declared.stream.Cut.TheVariants as cut
use Rattle.pst_cli.specs.declared.stream.Written.{Written}
use Rattle.pst_judge.specs.declared.by_order.CallOrder.{CallOrder}
use Rattle.pst_rejudge.specs.declared.reading.ItemResult.{ItemResult}
use Rattle.pst_model.specs.declared.model.Source.{Source}
use Rattle.pst_sexpr.specs.Reading.{max_bytes}
use Rattle.pst_sexpr.specs.Writing.{WritesAll, WritesPart}
use Rattle.pst_rejudge.specs.StreamAnswers.{IsLineAnswer}
use Rattle.pst_rejudge.specs.Blocks.{IsBlock, IsMiddleBlock, IsLastBlock, MayStopBy}
use Rattle.pst_rejudge.specs.Lines.{begun, ended, last_line, lines_of}
use Rattle.pst_rejudge.specs.declared.stream_reading.StreamFault.{StreamFault}
use Rattle.pst_rejudge.specs.declared.stream_reading.StreamFault.TheVariants as fault

-- ---- lines of bytes that follow others

begun_next : (line xs ys : List ℕ) (x : ℕ) (is_end : Bool) → begun [] (xs ++ ys) ≡ begun (begun [] xs) ys
    → begun (line ++ x ∷ []) (xs ++ ys) ≡ begun (begun (line ++ x ∷ []) xs) ys
    → (if is_end then begun [] (xs ++ ys) else begun (line ++ x ∷ []) (xs ++ ys))
    ≡ begun (if is_end then begun [] xs else begun (line ++ x ∷ []) xs) ys
begun_next line xs ys x true ended_line other = ended_line
begun_next line xs ys x false ended_line other = other

pub begun_behind : (line xs ys : List ℕ) → begun line (xs ++ ys) ≡ begun (begun line xs) ys
begun_behind line [] ys = refl
begun_behind line (x ∷ xs) ys = begun_next line xs ys x (x == 10) (begun_behind [] xs ys) (begun_behind (line ++ x ∷ []) xs ys)

ended_next : (line xs ys : List ℕ) (x : ℕ) (is_end : Bool) → ended [] (xs ++ ys) ≡ ended [] xs ++ ended (begun [] xs) ys
    → ended (line ++ x ∷ []) (xs ++ ys) ≡ ended (line ++ x ∷ []) xs ++ ended (begun (line ++ x ∷ []) xs) ys
    → (if is_end then line ∷ ended [] (xs ++ ys) else ended (line ++ x ∷ []) (xs ++ ys))
    ≡ (if is_end then line ∷ ended [] xs else ended (line ++ x ∷ []) xs) ++ ended (if is_end then begun [] xs else begun (line ++ x ∷ []) xs) ys
ended_next line xs ys x true ended_line other = ap (λ ls. line ∷ ls) ended_line
ended_next line xs ys x false ended_line other = other

pub ended_behind : (line xs ys : List ℕ) → ended line (xs ++ ys) ≡ ended line xs ++ ended (begun line xs) ys
ended_behind line [] ys = refl
ended_behind line (x ∷ xs) ys = ended_next line xs ys x (x == 10) (ended_behind [] xs ys) (ended_behind (line ++ x ∷ []) xs ys)

-- the lines that end in some bytes are the first ones of these and more
abbrev rest_of : List ℕ → List ℕ → List (List ℕ)
rest_of xs ys = ended (begun [] xs) ys ++ last_line (begun (begun [] xs) ys)

lines_behind : (xs ys : List ℕ) → lines_of (xs ++ ys) ≡ ended [] xs ++ rest_of xs ys
lines_behind xs ys =
    ap (λ ls. ls ++ last_line (begun [] (xs ++ ys))) (ended_behind [] xs ys)
    ∙ ap (λ l. (ended [] xs ++ ended (begun [] xs) ys) ++ last_line l) (begun_behind [] xs ys)
    ∙ append_assoc (ended [] xs) (ended (begun [] xs) ys) (last_line (begun (begun [] xs) ys))

-- ---- lines and statuses of answers that follow others

pub answer_lines_behind : (number : ℕ) (js bs : List ItemResult)
    → answer_lines number (js ++ bs) ≡ answer_lines number js ++ answer_lines (length js + number) bs
answer_lines_behind number [] bs = let same : number ≡ 0 + number = omega arith in ap (λ n. answer_lines n bs) same
answer_lines_behind number (a ∷ js) bs =
    let same : length js + (number + 1) ≡ suc (length js) + number = omega arith in
    ap (λ t. answer_line number a ++ t) (answer_lines_behind (number + 1) js bs ∙ ap (λ n. answer_lines (number + 1) js ++ answer_lines n bs) same)
    ∙ sym (append_assoc (answer_line number a) (answer_lines (number + 1) js) (answer_lines (suc (length js) + number) bs))

pub worst_behind : (status : Status) (js bs : List ItemResult) → worst_status status (js ++ bs) ≡ worst_status (worst_status status js) bs
worst_behind status [] bs = refl
worst_behind status (a ∷ js) bs = worst_behind (or_worse status (answer_status a)) js bs

-- ---- how far a stream has been judged

-- the lines that ended in what was read are answered, and the lines of the answers were written
pub record HasCome (order : CallOrder) (m : Source) (stream left before after : Option (List ℕ)) (broken : Bool) (kept : List ℕ) (written : Written) : Type 0 where
  pub bytes : List ℕ
  pub read : Consumes stream left bytes
  pub kept_line : kept ≡ take (suc max_bytes) (begun [] bytes)
  pub answers : List ItemResult
  pub answered : AllZip (IsLineAnswer order m) (ended [] bytes) answers
  pub count : written.count ≡ length answers
  pub worst : written.status ≡ worst_status Accepted answers
  pub lines : WritesAll before after broken (answer_lines 1 answers)

-- what is left of a stream that is known
data IsLeft (bs bytes : List ℕ) (left : Option (List ℕ)) : Type 0 where
  is_left : (ys : List ℕ) → left ≡ Some ys → bs ≡ bytes ++ ys → IsLeft bs bytes left

left_of : (stream left : Option (List ℕ)) (bytes bs : List ℕ) → Consumes stream left bytes → stream ≡ Some bs → IsLeft bs bytes left
left_of None left bytes bs h e = absurd (cc)
left_of (Some xs) None bytes bs h e = absurd h
left_of (Some xs) (Some ys) bytes bs h e = let same : xs ≡ bs = cc in is_left ys refl (sym same ∙ h)

nothing_left : (left : Option (List ℕ)) (ys : List ℕ) → IsAtEnd left → left ≡ Some ys → ys ≡ []
nothing_left None ys h e = absurd (cc)
nothing_left (Some xs) ys h e = let same : xs ≡ ys = cc in sym same ∙ h

-- the lines of the answers so far and of more were written
more_lines : (before mid after : Option (List ℕ)) (mid_broken broken : Bool) (count : ℕ) (js bs : List ItemResult) → count ≡ length js
    → WritesAll before mid mid_broken (answer_lines 1 js) → WritesAll mid after broken (answer_lines (count + 1) bs)
    → WritesAll before after broken (answer_lines 1 (js ++ bs))
more_lines before mid after mid_broken broken count js bs e w v =
    let same : count + 1 ≡ length js + 1 = ap (λ n. n + 1) e in
    let text = answer_lines_behind 1 js bs ∙ ap (λ n. answer_lines 1 js ++ answer_lines n bs) (sym same) in
    record {
      appended = subst (Appends before after) (sym text)
          (Appends-trans before mid after (answer_lines 1 js) (answer_lines (count + 1) bs) w.appended v.appended);
      stands = v.stands;
    }

-- the lines of the answers so far were written, and a beginning of those of more
part_of_lines : (before mid after : Option (List ℕ)) (mid_broken : Bool) (count : ℕ) (js bs : List ItemResult) → count ≡ length js
    → WritesAll before mid mid_broken (answer_lines 1 js) → WritesPart mid after (answer_lines (count + 1) bs)
    → WritesPart before after (answer_lines 1 (js ++ bs))
part_of_lines before mid after mid_broken count js bs e w v =
    let same : count + 1 ≡ length js + 1 = ap (λ n. n + 1) e in
    let text = answer_lines_behind 1 js bs ∙ ap (λ n. answer_lines 1 js ++ answer_lines n bs) (sym same) in
    record {
      sent = answer_lines 1 js ++ v.sent;
      unsent = v.unsent;
      split = text ∙ ap (λ t. answer_lines 1 js ++ t) v.split ∙ sym (append_assoc (answer_lines 1 js) v.sent v.unsent);
      appended = Appends-trans before mid after (answer_lines 1 js) v.sent w.appended v.appended;
    }

module _ (order : CallOrder) (m : Source) (stream before : Option (List ℕ)) where
  -- nothing is read and nothing is written
  pub begins : (broken : Bool) (kept : List ℕ) (written : Written) → broken ≡ false → kept ≡ []
      → written ≡ record { count = 0; status = Accepted } → HasCome order m stream stream before before broken kept written
  begins broken kept written e k w = record {
    bytes = [];
    read = Consumes-nil stream;
    kept_line = k;
    answers = [];
    answered = tt;
    count = ap (λ (v : Written). v.count) w;
    worst = ap (λ (v : Written). v.status) w;
    lines = record { appended = Appends-nil before; stands = e };
  }

  module _ (left mid : Option (List ℕ)) (mid_broken : Bool) (kept : List ℕ) (written : Written)
      (come : HasCome order m stream left before mid mid_broken kept written) where
    -- a block that is not the last was read, judged and written
    pub goes_on : (next after : Option (List ℕ)) (broken : Bool) (new_kept : List ℕ) (answers : List ItemResult) (new : Written)
        → IsMiddleBlock order m left next (begun [] come.bytes) new_kept answers
        → AreCounted written answers new → WritesAll mid after broken (answer_lines (written.count + 1) answers)
        → HasCome order m stream next before after broken new_kept new
    goes_on next after broken new_kept answers new block counted lines = record {
      bytes = come.bytes ++ block.bytes;
      read = Consumes-trans stream left next come.bytes block.bytes come.read block.read;
      kept_line = block.kept_line ∙ ap (take (suc max_bytes)) (sym (begun_behind [] come.bytes block.bytes));
      answers = come.answers ++ answers;
      answered = subst (λ ls. AllZip (IsLineAnswer order m) ls (come.answers ++ answers)) (sym (ended_behind [] come.bytes block.bytes))
          (AllZip-append (IsLineAnswer order m) (ended [] come.bytes) (ended (begun [] come.bytes) block.bytes) come.answers answers come.answered block.answered);
      count = counted.count ∙ ap (λ n. n + length answers) come.count ∙ sym (length-append come.answers answers);
      worst = counted.status ∙ ap (λ s. worst_status s answers) come.worst ∙ sym (worst_behind Accepted come.answers answers);
      lines = more_lines before mid after mid_broken broken written.count come.answers answers come.count come.lines lines;
    }

    -- the last block was read, judged and written
    pub ends : (next after : Option (List ℕ)) (broken : Bool) (new_kept : List ℕ) (answers : List ItemResult) (new : Written)
        → IsLastBlock order m left next (begun [] come.bytes) new_kept answers
        → AreCounted written answers new → WritesAll mid after broken (answer_lines (written.count + 1) answers)
        → IsWhole order m stream before after broken new.status
    ends next after broken new_kept answers new block counted lines = record {
      lines = lines_of come.bytes;
      whole = λ bs e. elim (left_of stream left come.bytes bs come.read e) [
        | is_left ys known same ↦ ap lines_of (same ∙ ap (λ l. come.bytes ++ l) (nothing_left left ys block.rest known) ∙ append-nil come.bytes)
      ];
      answers = come.answers ++ answers;
      answered = AllZip-append (IsLineAnswer order m) (ended [] come.bytes) (last_line (begun [] come.bytes)) come.answers answers come.answered block.answered;
      written = more_lines before mid after mid_broken broken written.count come.answers answers come.count come.lines lines;
      worst = counted.status ∙ ap (λ s. worst_status s answers) come.worst ∙ sym (worst_behind Accepted come.answers answers);
    }

    front_of : (bs : List ℕ) → stream ≡ Some bs → (rest : List (List ℕ)) × (lines_of bs ≡ ended [] come.bytes ++ rest)
    front_of bs e = elim (left_of stream left come.bytes bs come.read e) [
      | is_left ys known same ↦ (rest_of come.bytes ys, ap lines_of same ∙ lines_behind come.bytes ys)
    ]

    -- no block was had
    pub stops : (may_fail : Type 0) (why : Cut) → IsWrittenTo before mid mid_broken (answer_lines 1 come.answers) why → MayCutBy may_fail why
        → IsCutShort order m stream before mid mid_broken may_fail why
    stops may_fail why w may =
        record { first = ended [] come.bytes; front = front_of; answers = come.answers; answered = come.answered; written = w; may_cut = may }

    pub stops_by : (may_fail : Type 0) (f : StreamFault) → MayStopBy may_fail f → IsCutShort order m stream before mid mid_broken may_fail (cut_of f)
    stops_by may_fail fault.Unread may = stops may_fail cut.Unread come.lines may
    stops_by may_fail fault.NoMemory may = stops may_fail cut.NoMemory come.lines tt

    -- the lines that end in one more block
    abbrev lines_with : (next : Option (List ℕ)) (new_kept : List ℕ) (is_last : Bool) (answers : List ItemResult)
        → IsBlock order m left next (begun [] come.bytes) new_kept is_last answers → List (List ℕ)
    lines_with next new_kept true answers block = ended [] come.bytes ++ last_line (begun [] come.bytes)
    lines_with next new_kept false answers block = ended [] (come.bytes ++ block.bytes)

    answered_with : (next : Option (List ℕ)) (new_kept : List ℕ) (is_last : Bool) (answers : List ItemResult)
        (block : IsBlock order m left next (begun [] come.bytes) new_kept is_last answers)
        → AllZip (IsLineAnswer order m) (lines_with next new_kept is_last answers block) (come.answers ++ answers)
    answered_with next new_kept true answers block =
        AllZip-append (IsLineAnswer order m) (ended [] come.bytes) (last_line (begun [] come.bytes)) come.answers answers come.answered block.answered
    answered_with next new_kept false answers block =
        subst (λ ls. AllZip (IsLineAnswer order m) ls (come.answers ++ answers)) (sym (ended_behind [] come.bytes block.bytes))
        (AllZip-append (IsLineAnswer order m) (ended [] come.bytes) (ended (begun [] come.bytes) block.bytes) come.answers answers come.answered block.answered)

    front_with : (next : Option (List ℕ)) (new_kept : List ℕ) (is_last : Bool) (answers : List ItemResult)
        (block : IsBlock order m left next (begun [] come.bytes) new_kept is_last answers) (bs : List ℕ) → stream ≡ Some bs
        → (rest : List (List ℕ)) × (lines_of bs ≡ lines_with next new_kept is_last answers block ++ rest)
    front_with next new_kept true answers block bs e = elim (left_of stream left come.bytes bs come.read e) [
      | is_left ys known same ↦ (
        [],
        ap lines_of (same ∙ ap (λ l. come.bytes ++ l) (nothing_left left ys block.rest known) ∙ append-nil come.bytes)
            ∙ sym (append-nil (lines_of come.bytes)),
      )
    ]
    front_with next new_kept false answers block bs e =
        elim (left_of stream next (come.bytes ++ block.bytes) bs (Consumes-trans stream left next come.bytes block.bytes come.read block.read) e) [
          | is_left ys known same ↦ (rest_of (come.bytes ++ block.bytes) ys, ap lines_of same ∙ lines_behind (come.bytes ++ block.bytes) ys)
        ]

    -- a block was read and judged, and not written
    pub stops_in : (may_fail : Type 0) (next : Option (List ℕ)) (new_kept : List ℕ) (after : Option (List ℕ)) (broken : Bool) (is_last : Bool)
        (answers : List ItemResult) (why : Cut)
        → IsBlock order m left next (begun [] come.bytes) new_kept is_last answers
        → IsUnwritten mid after broken (answer_lines (written.count + 1) answers) why
        → IsCutShort order m stream before after broken may_fail why
    stops_in may_fail next new_kept after broken is_last answers cut.Unread block w = absurd w
    stops_in may_fail next new_kept after broken is_last answers cut.NoMemory block w = record {
      first = ended [] come.bytes;
      front = front_of;
      answers = come.answers;
      answered = come.answered;
      written = record {
        appended = subst (λ a. Appends before a (answer_lines 1 come.answers)) (sym w.0) come.lines.appended;
        stands = w.1;
      };
      may_cut = tt;
    }
    stops_in may_fail next new_kept after broken is_last answers cut.Unwritten block w = record {
      first = lines_with next new_kept is_last answers block;
      front = front_with next new_kept is_last answers block;
      answers = come.answers ++ answers;
      answered = answered_with next new_kept is_last answers block;
      written = (part_of_lines before mid after mid_broken written.count come.answers answers come.count come.lines w.0, w.1);
      may_cut = tt;
    }
