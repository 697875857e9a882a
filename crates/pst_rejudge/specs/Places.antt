-- Parts of an input that several threads have read and judged, and the places where they are put.
use Rattle.std.specs.Prelude.{◌≡◌, ℕ, Bool, List, [], Option, Some, None, IfSome, slice_get}
use Rattle.std.specs.Borrow.{Bor}
use Rattle.std.specs.List.{AllZip}
use Rattle.pst_case.specs.declared.history.Run.{Run}
use Rattle.pst_rejudge.specs.Parts.{AreAnsweredPart}
use Rattle.pst_rejudge.specs.declared.parts.AnsweredItems.{AnsweredItems}
use Rattle.pst_rejudge.specs.declared.parts.AnsweredPart.{AnsweredPart}
use Rattle.pst_rejudge.specs.declared.reading.ItemResult.{ItemResult}
use Rattle.pst_judge.specs.declared.by_order.CallOrder.{CallOrder}
use Rattle.pst_model.specs.declared.model.Source.{Source}

-- the bytes of a part spell items that are answered
abbrev pub HoldsPart : CallOrder → Source → Bool → List ℕ → AnsweredItems → Type 0
HoldsPart order m keeps bytes content = AreAnsweredPart order m keeps bytes content.runs.items content.answers.items

-- what was taken is what the part at its place spells
pub record StandsIn (order : CallOrder) (m : Source) (keeps : Bool) (parts : List (Bor (List ℕ))) (taken : AnsweredPart) : Type 0 where
  pub part : Bor (List ℕ)
  pub place : slice_get parts taken.place ≡ Some part
  pub content : HoldsPart order m keeps part.now taken.content

-- there is a place for each part, and what stands in it is what the part spells
abbrev pub AreFilled : CallOrder → Source → Bool → List (Bor (List ℕ)) → List (Option AnsweredItems) → Type 0
AreFilled order m keeps parts places = AllZip (λ part place. IfSome place (HoldsPart order m keeps part.now)) parts places

abbrev pub runs_in : Option AnsweredItems → List Run
runs_in None = []
runs_in (Some content) = content.runs.items

abbrev pub answers_in : Option AnsweredItems → List ItemResult
answers_in None = []
answers_in (Some content) = content.answers.items
