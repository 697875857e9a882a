-- The order in which each command may come anywhere.
use Rattle.std.proofs.Common.{ℕ, List, [], ◌∷◌, refl}
use Rattle.std.specs.Prelude.{Result, Ok, Err, IfOk}
use Rattle.pst_grid.specs.declared.steps.Ending.{Ending}
use Rattle.pst_grid.specs.declared.steps.StepOutcome.{StepOutcome}
use Rattle.pst_grid.specs.declared.steps.SomeAnswer.{SomeAnswer}
use Rattle.pst_grid.specs.declared.steps.SomeAnswer.TheVariants.{Found, Faulted, Nothing}
use Rattle.pst_grid.specs.declared.steps.EveryAnswer.{EveryAnswer}
use Rattle.pst_grid.specs.declared.steps.EveryAnswer.TheVariants.{All, Not}
use Rattle.pst_grid.specs.Answers.{IsAnswer, IsAnswerAmong, IsEveryAnswer, IsEveryAnswerAmong}
use Rattle.pst_grid.specs.Merges.{IsMerge, IsLeast, one_more, none_done}
use Rattle.pst_grid.specs.Orders.{any_order, IsInOrder, IsMergeInOrder, NeverBlocks}

-- a fact of what is answered, from another of it
pub if-ok-then : {A B : Type 0} (P Q : A → Type 0) → ((a : A) → P a → Q a) → (r : Result A B) → IfOk r P → IfOk r Q
if-ok-then P Q f (Ok a) h = f a h
if-ok-then P Q f (Err b) h = tt

pub any-blocks-never : (lengths : List ℕ) → NeverBlocks any_order lengths
any-blocks-never lengths = λ done at b left. (b, (left, refl))

in-any-order : (done w : List ℕ) → IsInOrder any_order done w
in-any-order done [] = tt
in-any-order done (b ∷ w) = (refl, in-any-order (one_more done b) w)

merge-in-any-order : (lengths w : List ℕ) → IsMerge lengths w → IsMergeInOrder any_order lengths w
merge-in-any-order lengths w k = (k, in-any-order (none_done lengths) w)

module _ {S F : Type 0} (turn : S → ℕ → ℕ → StepOutcome S F) (rest : S → Ending F) (lengths : List ℕ) (start : S) where
  -- the same words by another name
  module _ (V W : List ℕ → Type 0) (to : (w : List ℕ) → V w → W w) (from : (w : List ℕ) → W w → V w) where
    least : (P : List ℕ → Type 0) (w : List ℕ) → IsLeast (λ v. V v × P v) w → IsLeast (λ v. W v × P v) w
    least P w h = ((to w h.0.0, h.0.1), λ v k. h.1 v (from v k.0, k.1))

    pub same-answer : (a : SomeAnswer F) → IsAnswerAmong turn rest lengths start V a → IsAnswerAmong turn rest lengths start W a
    same-answer (Found word) h = least _ word.items h
    same-answer (Faulted word at fault) h = ((λ v k. h.0 v (from v k.0, k.1)), (least _ word.items h.1.0, h.1.1))
    same-answer (Nothing far word) h = (
      λ v k. h.0 v (from v k.0, k.1),
      λ v k. h.1 v (from v k.0, k.1),
      least _ word.items h.2,
      λ v n k. h.3 v n (from v k.0, k.1),
    )

    pub same-every-answer : (a : EveryAnswer F) → IsEveryAnswerAmong turn rest lengths start V a → IsEveryAnswerAmong turn rest lengths start W a
    same-every-answer All h = λ v k. h v (from v k)
    same-every-answer (Not word at why) h = (least _ word.items h.0, h.1)

  pub any-answer : (a : SomeAnswer F) → IsAnswerAmong turn rest lengths start (IsMergeInOrder any_order lengths) a → IsAnswer turn rest lengths start a
  any-answer = same-answer (IsMergeInOrder any_order lengths) (IsMerge lengths) (λ w k. k.0) (merge-in-any-order lengths)

  pub any-every-answer : (a : EveryAnswer F) → IsEveryAnswerAmong turn rest lengths start (IsMergeInOrder any_order lengths) a → IsEveryAnswer turn rest lengths start a
  any-every-answer = same-every-answer (IsMergeInOrder any_order lengths) (IsMerge lengths) (λ w k. k.0) (merge-in-any-order lengths)
