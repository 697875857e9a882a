-- The lines of cases, block by block.
use Rattle.std.proofs.Common.{◌≡◌, ◌≤◌, inl, inr, ℕ, zero, suc, ◌+◌, ◌-◌, Bool, false, List, [], ◌∷◌, ◌++◌, Option, refl, sym, subst, arith, append_assoc}
use Rattle.std.proofs.KnownBytes.{Appends-nil}
use Rattle.std.specs.List.{AllZip, range_with_len}
use Rattle.pst_cli.proofs.Streamed.{all_after, part_after, part_of_more, sends_behind}
use Rattle.pst_cli.specs.CampaignOutput.{plan_of}
use Rattle.pst_cli.specs.GenerateOutput.{AreCaseLines, none, next, IsGenerateOutput, whole, cut as cut_short, memory_in}
use Rattle.pst_cli.specs.Generating.{AreCutShort, AreWritten, IsLineOf}
use Rattle.pst_cli.specs.Outputs.{joined, worst_of}
use Rattle.pst_cli.specs.Sending.{Sends, SendsOne}
use Rattle.pst_cli.specs.Status.{or_worse}
use Rattle.pst_cli.specs.Streaming.{IsWrittenTo}
use Rattle.pst_cli.specs.declared.model_commands.ItemForm.{ItemForm}
use Rattle.pst_cli.specs.declared.answer.Output.{Output}
use Rattle.pst_cli.specs.declared.answer.Status.{Status}
use Rattle.pst_cli.specs.declared.answer.Status.TheVariants.{Accepted, Lost}
use Rattle.pst_cli.specs.declared.stream.Cut.{Cut}
use Rattle.pst_cli.specs.declared.stream.Cut.TheVariants as cut
use Rattle.pst_typing.specs.Loading.{Holds}
use Rattle.pst_model.specs.declared.model.Source.{Source}
use Rattle.pst_sexpr.specs.declared.form.Form.{Form}
use Rattle.pst_sexpr.specs.Writing.{WritesAll}
use Rattle.pst_trial.specs.PlanView.{PlanView}
use Rattle.pst_trial.specs.declared.plan.Settings.{Settings}

module _ (f : ItemForm) (p : PlanView) where
  -- the outputs of numbers that follow one another
  pub of_outputs : (first count : ℕ) (so_far : Status) (outputs : List Output) → AllZip (IsLineOf f p) (range_with_len first count) outputs
      → AreCaseLines f p first count so_far (joined outputs) (worst_of so_far outputs)
  of_outputs first zero so_far [] h = none first so_far
  of_outputs first zero so_far (o ∷ os) h = absurd h
  of_outputs first (suc count) so_far [] h = absurd h
  of_outputs first (suc count) so_far (o ∷ os) h =
      let same : count + 1 ≡ suc count = omega arith in
      subst (λ n. AreCaseLines f p first n so_far (o.text.items ++ joined os) (worst_of (or_worse so_far o.status) os)) same
      (next first count so_far o.status (worst_of (or_worse so_far o.status) os) o.text.items (joined os) h.0
      (of_outputs (first + 1) count (or_worse so_far o.status) os h.1))

  -- the lines of some numbers, and those of the numbers behind them
  pub lines_behind : {first some : ℕ} {so_far mid : Status} {one : List ℕ} (more : ℕ) (status : Status) (two : List ℕ)
      → AreCaseLines f p first some so_far one mid → AreCaseLines f p (first + some) more mid two status
      → AreCaseLines f p first (some + more) so_far (one ++ two) status
  lines_behind more status two (none first so_far) h =
      let here : first + 0 ≡ first = omega arith in
      let all : more ≡ 0 + more = omega arith in
      subst (λ n. AreCaseLines f p first n so_far two status) all (subst (λ n. AreCaseLines f p n more so_far two status) here h)
  lines_behind more status two (next first count so_far ending mid line text is rest) h =
      let here : first + (count + 1) ≡ (first + 1) + count = omega arith in
      let all : (count + more) + 1 ≡ (count + 1) + more = omega arith in
      subst (λ n. AreCaseLines f p first n so_far ((line ++ text) ++ two) status) all
      (subst (λ t. AreCaseLines f p first ((count + more) + 1) so_far t status) (sym (append_assoc line text two))
      (next first (count + more) so_far ending status line (text ++ two) is
      (lines_behind more status two rest (subst (λ n. AreCaseLines f p n more mid two status) here h))))

-- nothing is written
pub nothing_written : (f : ItemForm) (p : PlanView) (first : ℕ) (so_far : Status) (before : Option (List ℕ)) (broken : Bool) → broken ≡ false
    → AreWritten f p first 0 so_far before before broken so_far
nothing_written f p first so_far before broken e = record {
  text = [];
  lines = none first so_far;
  written = record { appended = Appends-nil before; stands = e };
}

-- an allocation failed before any line was written
pub none_written : (f : ItemForm) (p : PlanView) (first count : ℕ) (so_far : Status) (before : Option (List ℕ)) (broken : Bool) → broken ≡ false
    → AreCutShort f p first count so_far before before broken cut.NoMemory
none_written f p first count so_far before broken e =
    let zero_first : 0 ≤ count = omega arith in
    record {
      some = 0;
      within = zero_first;
      text = [];
      worst = so_far;
      lines = none first so_far;
      written = record { appended = Appends-nil before; stands = e };
    }

-- the lines of the numbers from one to another and then to a third
module _ (f : ItemForm) (p : PlanView) (first here behind : ℕ) (above : first ≤ here) (order : here ≤ behind) (before mid : Option (List ℕ)) (mid_broken : Bool)
    (so_far : Status) (done : AreWritten f p first (here - first) Accepted before mid mid_broken so_far) where
  from_here : (count : ℕ) (text : List ℕ) (status : Status) → AreCaseLines f p here count so_far text status
      → AreCaseLines f p first ((here - first) + count) Accepted (done.text ++ text) status
  from_here count text status h =
      let same : here ≡ first + (here - first) = omega arith in
      lines_behind f p count status text done.lines
      (subst (λ n. AreCaseLines f p n count so_far text status) same h)

  pub goes_on : (end : ℕ) (after : Option (List ℕ)) (broken : Bool) (status : Status) → here ≤ end
      → AreWritten f p here (end - here) so_far mid after broken status → AreWritten f p first (end - first) Accepted before after broken status
  goes_on end after broken status beyond more =
      let same : (here - first) + (end - here) ≡ end - first = omega arith in
      record {
        text = done.text ++ more.text;
        lines = subst (λ n. AreCaseLines f p first n Accepted (done.text ++ more.text) status) same (from_here (end - here) more.text status more.lines);
        written = all_after done.written more.written;
      }

  some_written : (after : Option (List ℕ)) (broken : Bool) (text : List ℕ) (why : Cut) → IsWrittenTo mid after broken text why
      → IsWrittenTo before after broken (done.text ++ text) why
  some_written after broken text cut.Unread w = all_after done.written w
  some_written after broken text cut.NoMemory w = all_after done.written w
  some_written after broken text cut.Unwritten w = (part_after done.written w.0, w.1)

  pub stops : (end : ℕ) (after : Option (List ℕ)) (broken : Bool) (why : Cut) → end ≤ behind → here ≤ end
      → AreCutShort f p here (end - here) so_far mid after broken why → AreCutShort f p first (behind - first) Accepted before after broken why
  stops end after broken why below beyond more =
      let within : (here - first) + more.some ≤ behind - first = omega (arith, more.within) in
      record {
        some = (here - first) + more.some;
        within = within;
        text = done.text ++ more.text;
        worst = more.worst;
        lines = from_here more.some more.text more.worst more.lines;
        written = some_written after broken more.text why more.written;
      }

-- what was written is the output
module _ (f : ItemForm) (input : List ℕ) (settings : Settings) (first count : ℕ) (m : Source) (trees : List Form) (holds : Holds input m trees)
    (before : Option (List ℕ)) where
  pub whole_prints : {after : Option (List ℕ)} {broken : Bool} {status : Status}
      → AreWritten f (plan_of m settings) first count Accepted before after broken status
      → SendsOne (IsGenerateOutput f settings first count input) before after broken status
  whole_prints {after} {broken} {status} w =
      record { text = w.text; status = status; lawful = whole m trees holds w.lines; sent = inl (w.written, refl) }

  cut_prints : {mid after : Option (List ℕ)} {mid_broken broken : Bool} {answer : Status} (why : Cut)
      → (w : AreCutShort f (plan_of m settings) first count Accepted before mid mid_broken why)
      → WritesAll before mid mid_broken w.text → Sends mid after broken answer (memory_in f) Lost
      → SendsOne (IsGenerateOutput f settings first count input) before after broken answer
  cut_prints why w lines s = record {
    text = w.text ++ memory_in f;
    status = Lost;
    lawful = cut_short m trees w.some w.text w.worst holds w.within w.lines refl refl;
    sent = sends_behind lines s;
  }

  pub unwritten_prints : {after : Option (List ℕ)} {broken : Bool}
      → AreCutShort f (plan_of m settings) first count Accepted before after broken cut.Unwritten
      → SendsOne (IsGenerateOutput f settings first count input) before after broken Lost
  unwritten_prints w = record {
    text = w.text ++ memory_in f;
    status = Lost;
    lawful = cut_short m trees w.some w.text w.worst holds w.within w.lines refl refl;
    sent = inr (part_of_more (memory_in f) w.written.0, w.written.1, refl);
  }

  -- the lines so far were written, and that an allocation failed
  pub unread_prints : {mid after : Option (List ℕ)} {mid_broken broken : Bool} {answer : Status}
      → AreCutShort f (plan_of m settings) first count Accepted before mid mid_broken cut.Unread
      → Sends mid after broken answer (memory_in f) Lost → SendsOne (IsGenerateOutput f settings first count input) before after broken answer
  unread_prints w s = cut_prints cut.Unread w w.written s

  pub no_memory_prints : {mid after : Option (List ℕ)} {mid_broken broken : Bool} {answer : Status}
      → AreCutShort f (plan_of m settings) first count Accepted before mid mid_broken cut.NoMemory
      → Sends mid after broken answer (memory_in f) Lost → SendsOne (IsGenerateOutput f settings first count input) before after broken answer
  no_memory_prints w s = cut_prints cut.NoMemory w w.written s
