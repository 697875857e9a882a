-- Where a command has one answer, the answers in which all are right have each that is allowed.
use Rattle.std.proofs.Common.{◌≡◌, ◌==◌, ◌||◌, not, ℕ, zero, suc, Bool, true, false, List, [], ◌∷◌, ◌++◌, Some, refl, sym, ap, ◌∙◌, ◌⊎◌, inl, inr, subst, slice_get, true≢false}
use Rattle.std.specs.Prelude.{if◌then◌else◌}
use Rattle.pst_case.specs.declared.case.Case.{Case}
use Rattle.pst_case.specs.declared.history.History.{History}
use Rattle.pst_judge.specs.Replay.{prefix_events, suffix_events}
use Rattle.pst_judge.specs.declared.events.Event.{Event}
use Rattle.pst_model.specs.declared.model.Source.{Source}
use Rattle.pst_operators.specs.Operators.{truth_of, truth_at}
use Rattle.pst_operators.specs.Outcome.{Outcome, Gives, Faults, Stuck, and_then}
use Rattle.pst_reasons.proofs.Among.{same_number}
use Rattle.pst_reasons.proofs.Fewer.{EachEvent, SaysTrue, replayed_true}
use Rattle.pst_reasons.proofs.FewerAsked.{truth_is}
use Rattle.pst_reasons.specs.Allowed.{is_right, one_is_right, none_is_right, as_asked, asks_instead, asks_none_of, is_one_of, IsEvent, AreAll, HasOneAnswer, HaveEachAllowed, AreDistinct}
use Rattle.pst_reasons.specs.Reasons.{asks}
use Rattle.pst_value.proofs.Exact.{same_value-Decides}
use Rattle.pst_value.specs.Equality.{same_value}
use Rattle.pst_value.specs.declared.value.Value.{Value, out-roll-Value, Bool as Truth}
use Rattle.pst_value.specs.declared.value.Value.TheOpen.{Value-F}
use Rattle.pst_value.specs.declared.value.Value.TheVariants.{rolls-Bool}

-- ---- facts of each event

each : (P : Event → Type 0) (es : List Event) → ((i : ℕ) (e : Event) → slice_get es i ≡ Some e → P e) → EachEvent P es
each P [] all = tt
each P (e ∷ es) all = (all zero e refl, each P es (λ i d is. all (suc i) d is))

-- ---- truth values that are asked

pub truth_is_of : (b : Bool) → truth_of (Truth b) ≡ Gives b
truth_is_of b = ap truth_of (sym (rolls-Bool b)) ∙ ap truth_at (out-roll-Value (Value-F.Bool b))

-- what is asked is true where the truth value is
from_asked : (o : Outcome Bool) → SaysTrue (as_asked o) → o ≡ Gives true
from_asked (Gives b) k =
    let q : (Truth b, 0) ≡ k.0 = cc in
    let t : truth_of (Truth b) ≡ Gives true = ap (λ p. truth_of p.0) q ∙ k.2 in
    sym (truth_is_of b) ∙ t
from_asked (Faults why) k = absurd (let q = k.1 in cc)
from_asked Stuck k = absurd (let q = k.1 in cc)

to_asked : (o : Outcome Bool) → o ≡ Gives true → SaysTrue (as_asked o)
to_asked o is = ((Truth true, 0), ap as_asked is, truth_is)

-- ---- one answer

pub or_first : (a b : Bool) → (a || b) ≡ false → a ≡ false
or_first true b h = h
or_first false b h = refl

pub or_second : (a b : Bool) → (a || b) ≡ false → b ≡ false
or_second true b h = absurd (cc)
or_second false b h = h

pub decided : (b : Bool) → (b ≡ true) ⊎ (b ≡ false)
decided true = inl refl
decided false = inr refl

module _ (m : Source) (order : List ℕ → ℕ → Bool) (c : Case) (h : History) (others : List ℕ) (number : ℕ) (one : HasOneAnswer m c h number) where
  others_wrong : (s : Value) (e : Event) (answer : Value) → IsEvent c h e → e.number ≡ number → is_right m s e answer ≡ Gives true
      → (answers : List Value) → is_one_of answer answers ≡ false → one_is_right m s e answers ≡ Gives false
  others_wrong s e answer event same right [] none = refl
  others_wrong s e answer event same right (x ∷ answers) none =
      let apart : x ≡ answer → ⊥ = λ q. true≢false (sym ((same_value-Decides x answer).1 q) ∙ or_first (same_value x answer) (is_one_of answer answers) none) in
      ap (λ o. and_then o (λ b. if b then Gives true else one_is_right m s e answers)) (one s e answer x event same right apart)
      ∙ others_wrong s e answer event same right answers (or_second (same_value x answer) (is_one_of answer answers) none)

  module _ (answer : Value) (answers : List Value) (none : is_one_of answer answers ≡ false) where
    -- where the answer is right, none of those is
    less : (s : Value) (e : Event) → IsEvent c h e → SaysTrue (asks_instead number answer others m s e) → SaysTrue (asks_none_of number answers others m s e)
    less s e event k = at (e.number == number) refl k
      where
        at : (b : Bool) → (e.number == number) ≡ b → SaysTrue (if b then as_asked (is_right m s e answer) else asks others m s e) → SaysTrue (if e.number == number then as_asked (none_is_right m s e answers) else asks others m s e)
        at true is k =
            let same = same_number e.number number is in
            let wrong = others_wrong s e answer event same (from_asked (is_right m s e answer) k) answers none in
            let P : Bool → Type 0 = λ b. SaysTrue (if b then as_asked (none_is_right m s e answers) else asks others m s e) in
            subst P (sym is) (to_asked (none_is_right m s e answers) (ap (λ o. and_then o (λ right. Gives (not right))) wrong))
        at false is k =
            let P : Bool → Type 0 = λ b. SaysTrue (if b then as_asked (none_is_right m s e answers) else asks others m s e) in
            subst P (sym is) k

  pub have_each_allowed : (answers : List Value) → AreAll m order c h others number answers → HaveEachAllowed m order c h others number answers
  have_each_allowed answers all answer allowed = at (decided (is_one_of answer answers))
    where
      at : (is_one_of answer answers ≡ true) ⊎ (is_one_of answer answers ≡ false) → is_one_of answer answers ≡ true
      at (inl is) = is
      at (inr none) = absurd (
          all allowed.0 (
            allowed.1.0,
            replayed_true m (asks_instead number answer others m) (asks_none_of number answers others m) (IsEvent c h)
                (λ s e event k. less answer answers none s e event k) c h
                (each (IsEvent c h) (prefix_events c h) (λ i e is. inl (i, is)))
                (λ b i e is. inr (inl (b, i, is)))
                (each (IsEvent c h) (suffix_events c h) (λ i e is. inr (inr (i, is))))
                allowed.0 allowed.1.1,
          )
          )

-- ---- distinct answers

same_either : (a b : Value) → same_value a b ≡ false → same_value b a ≡ false
same_either a b none = at (decided (same_value b a))
  where
    at : (same_value b a ≡ true) ⊎ (same_value b a ≡ false) → same_value b a ≡ false
    at (inl is) = absurd (true≢false (sym ((same_value-Decides a b).1 (sym ((same_value-Decides b a).0 is))) ∙ none))
    at (inr is) = is

one_more : (x v : Value) (xs : List Value) → is_one_of x xs ≡ false → same_value v x ≡ false → is_one_of x (xs ++ v ∷ []) ≡ false
one_more x v [] none other = ap (λ b. b || false) other
one_more x v (y ∷ xs) none other =
    ap (λ b. b || is_one_of x (xs ++ v ∷ [])) (or_first (same_value y x) (is_one_of x xs) none) ∙ one_more x v xs (or_second (same_value y x) (is_one_of x xs) none) other

pub distinct_more : (xs : List Value) (v : Value) → AreDistinct xs → is_one_of v xs ≡ false → AreDistinct (xs ++ v ∷ [])
distinct_more [] v d none = (refl, tt)
distinct_more (x ∷ xs) v d none = (
  one_more x v xs d.0 (same_either x v (or_first (same_value x v) (is_one_of v xs) none)),
  distinct_more xs v d.1 (or_second (same_value x v) (is_one_of v xs) none),
)
