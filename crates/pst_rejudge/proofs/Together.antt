-- The answers to the items of trees, and to those of more trees behind them.
use Rattle.std.proofs.Common.{◌≡◌, ◌∙◌, ℕ, Bool, List, [], ◌∷◌, ◌++◌, Option, ap, refl, subst, sym, append-nil}
use Rattle.std.proofs.lemmas.Grind.{flat_map-append}
use Rattle.std.specs.List.{AllZip}
use Rattle.pst_case.specs.declared.history.Run.{Run}
use Rattle.pst_judge.specs.declared.by_order.CallOrder.{CallOrder}
use Rattle.pst_model.specs.declared.model.Source.{Source}
use Rattle.pst_rejudge.proofs.Joined.{joined}
use Rattle.pst_rejudge.specs.Answers.{IsAnswer, spelled_run}
use Rattle.pst_rejudge.specs.Parts.{AreAnswered, AreAnsweredPart, EndsLine, kept_run, kept_runs}
use Rattle.pst_rejudge.specs.declared.reading.ItemResult.{ItemResult}
use Rattle.pst_sexpr.specs.declared.form.Form.{Form}

-- what holds place by place of two lists each holds of both, one behind the other
all_zip_behind : {X Y : Type 0} (P : X → Y → Type 0) (xs more : List X) (ys others : List Y) → AllZip P xs ys → AllZip P more others
    → AllZip P (xs ++ more) (ys ++ others)
all_zip_behind P [] more [] others h k = k
all_zip_behind P [] more (y ∷ ys) others h k = absurd h
all_zip_behind P (x ∷ xs) more [] others h k = absurd h
all_zip_behind P (x ∷ xs) more (y ∷ ys) others h k = (h.0, all_zip_behind P xs more ys others h.1 k)

module _ (order : CallOrder) (m : Source) (keeps : Bool) where
  kept_behind : (forms more : List Form) (kept others : List Run) → kept ≡ kept_runs keeps m forms → others ≡ kept_runs keeps m more
      → kept ++ others ≡ kept_runs keeps m (forms ++ more)
  kept_behind forms more kept others h k =
      (λ i. h i ++ k i) ∙ sym (flat_map-append (λ form. kept_run keeps (spelled_run m form)) forms more)

  -- no tree has an answer, and no run is kept
  pub none : AreAnswered order m keeps [] [] []
  none = record { answered = tt; are_kept = refl }

  answered_behind : (forms more : List Form) (kept others : List Run) (answers next : List ItemResult) → AreAnswered order m keeps forms kept answers
      → AreAnswered order m keeps more others next → AreAnswered order m keeps (forms ++ more) (kept ++ others) (answers ++ next)
  answered_behind forms more kept others answers next h k = record {
    answered = all_zip_behind (IsAnswer order m) forms more answers next h.answered k.answered;
    are_kept = kept_behind forms more kept others h.are_kept k.are_kept;
  }

  -- one more tree
  pub one_more : (forms : List Form) (form : Form) (kept next : List Run) (run : Option Run) (answers others : List ItemResult) (answer : ItemResult)
      → AreAnswered order m keeps forms kept answers → spelled_run m form ≡ run → IsAnswer order m form answer
      → next ≡ kept ++ kept_run keeps run → others ≡ answers ++ answer ∷ [] → AreAnswered order m keeps (forms ++ form ∷ []) next others
  one_more forms form kept next run answers others answer h is a more one =
      let first : AreAnswered order m keeps (form ∷ []) (kept_run keeps run) (answer ∷ []) = record {
        answered = (a, tt);
        are_kept = ap (kept_run keeps) (sym is) ∙ sym (append-nil (kept_run keeps (spelled_run m form)));
      } in
      let whole = answered_behind forms (form ∷ []) kept (kept_run keeps run) answers (answer ∷ []) h first in
      record {
        answered = subst (AllZip (IsAnswer order m) (forms ++ form ∷ [])) (sym one) whole.answered;
        are_kept = more ∙ whole.are_kept;
      }

  -- a part that ends with a line, and more bytes behind it
  pub part_behind : (a b : List ℕ) (kept others : List Run) (answers next : List ItemResult) → EndsLine a
      → AreAnsweredPart order m keeps a kept answers → AreAnsweredPart order m keeps b others next
      → AreAnsweredPart order m keeps (a ++ b) (kept ++ others) (answers ++ next)
  part_behind a b kept others answers next e h k = record {
    trees = h.trees ++ k.trees;
    spelled = joined e h.spelled k.spelled;
    answered = answered_behind h.trees k.trees kept others answers next h.answered k.answered;
  }

  -- the same part, with nothing behind its runs and answers
  pub part_alone : (bytes : List ℕ) (kept : List Run) (answers : List ItemResult) → AreAnsweredPart order m keeps bytes kept answers
      → AreAnsweredPart order m keeps bytes (kept ++ []) (answers ++ [])
  part_alone bytes kept answers h =
      let Is : List Run → List ItemResult → Type 0 = λ runs results. AreAnsweredPart order m keeps bytes runs results in
      subst (Is (kept ++ [])) (sym (append-nil answers)) (subst (λ runs. Is runs answers) (sym (append-nil kept)) h)
