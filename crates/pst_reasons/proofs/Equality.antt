-- A postcondition `(= r e)` has at most one right answer.
use Rattle.std.proofs.Common.{◌≡◌, ◌⊎◌, inl, inr, ℕ, Bool, true, false, List, ◌∷◌, refl, sym, ap, ◌∙◌, true≢false}
use Rattle.std.specs.Prelude.{reverse, if◌then◌else◌}
use Rattle.std.proofs.lemmas.Slice.Eq.{bytes_eq-Decides}
use Rattle.pst_reasons.proofs.OneAnswer.{decided}
use Rattle.pst_reasons.proofs.Posts.{post_is}
use Rattle.pst_eval.proofs.Unnamed.{ignores_result}
use Rattle.pst_reasons.specs.Allowed.{is_right, or_false}
use Rattle.pst_reasons.specs.Equality.{IsEquality, HasEquality, EqualityHasOneAnswer}
use Rattle.pst_eval.specs.Callbacks.{at_names, max_turns}
use Rattle.pst_judge.specs.declared.events.Event.{Event}
use Rattle.pst_eval.specs.Meaning.{Env, Called, Mean, Part, part_at, mean_at, mean, called, frame, looked_up, lift, ◌>>=◌}
use Rattle.pst_model.specs.Parts.{Name as Letters}
use Rattle.pst_model.specs.declared.expr.Binary.{Binary as Operator}
use Rattle.pst_model.specs.declared.expr.Binary.TheVariants.{Equal}
use Rattle.pst_model.specs.declared.expr.Expr.{Expr, Expr-F, Binary, Name, fold-roll-Expr}
use Rattle.pst_model.specs.declared.expr.Expr.TheVariants.{rolls-Binary, rolls-Name}
use Rattle.pst_model.specs.declared.model.Item.{Item}
use Rattle.pst_model.specs.declared.model.Source.{Source}
use Rattle.pst_operators.specs.Operators.{bool, binary, truth_of, truth_at}
use Rattle.pst_operators.specs.Outcome.{Outcome, Gives, Faults, Stuck, and_then}
use Rattle.pst_model.specs.WellTyped.{name_r, name_s}
use Rattle.pst_value.proofs.Exact.{same_value-Decides}
use Rattle.pst_value.specs.Equality.{same_value}
use Rattle.pst_value.specs.declared.value.Value.{Value, out-roll-Value}
use Rattle.pst_value.specs.declared.value.Value.TheOpen.{Value-F}

-- ---- what the two forms mean

mean_name : (items : List Item) (F : List Called) (x : Letters) → mean items F (Name x) ≡ mean_at items F (Expr-F.Name x)
mean_name items F x = ap (mean items F) (sym (rolls-Name x)) ∙ fold-roll-Expr Part Mean part_at (mean_at items F) (Expr-F.Name x)

mean_binary : (items : List Item) (F : List Called) (operator : Operator) (a b : Expr) → mean items F (Binary operator a b) ≡ mean_at items F (Expr-F.Binary operator (mean items F a) (mean items F b))
mean_binary items F operator a b = ap (mean items F) (sym (rolls-Binary operator a b)) ∙ fold-roll-Expr Part Mean part_at (mean_at items F) (Expr-F.Binary operator a b)

-- the result, by its name
result_is : (env : Env) (v : Value) → looked_up ((name_r, v) ∷ env) name_r ≡ Gives v
result_is env v = ap (λ b. if b then Gives v else looked_up env name_r) ((bytes_eq-Decides name_r name_r).1 refl)

module _ (items : List Item) (F : List Called) (e : Expr) (env : Env) (v : Value) (turns : ℕ) where
  abbrev inner : Env
  inner = (name_r, v) ∷ env

  named : mean items F (Name name_r) inner ≡ lift (Gives v)
  named = ap (λ f. f inner) (mean_name items F name_r) ∙ ap lift (result_is env v)

  abbrev pub equal_first : Outcome (Value × ℕ)
  equal_first = and_then (mean items F e inner turns) (λ p. Gives (bool (same_value v p.0), p.1))

  abbrev pub equal_second : Outcome (Value × ℕ)
  equal_second = and_then (mean items F e inner turns) (λ p. Gives (bool (same_value p.0 v), p.1))

  pub first_is : mean items F (Binary Equal (Name name_r) e) inner turns ≡ equal_first
  first_is =
      ap (λ f. f inner turns) (mean_binary items F Equal (Name name_r) e)
      ∙ ap (λ r. (r >>= (λ x. mean items F e inner >>= (λ y. lift (binary Equal x y)))) turns) named

  pub second_is : mean items F (Binary Equal e (Name name_r)) inner turns ≡ equal_second
  second_is =
      ap (λ f. f inner turns) (mean_binary items F Equal e (Name name_r))
      ∙ ap (λ r. (mean items F e inner >>= (λ x. r >>= (λ y. lift (binary Equal x y)))) turns) named

-- ---- the truth of an equality

truth_bool : (b : Bool) → truth_of (bool b) ≡ Gives b
truth_bool b = ap truth_at (out-roll-Value (Value-F.Bool b))

-- whether the values are equal, where the other side has a value
abbrev compared : Outcome (Value × ℕ) → (Value → Bool) → Outcome (Value × ℕ)
compared x same = and_then x (λ p. Gives (bool (same p.0), p.1))

abbrev judged : Outcome (Value × ℕ) → (Value → Bool) → Outcome Bool
judged x same = or_false (and_then (compared x same) (λ p. truth_of p.0))

judged_gives : (p : Value × ℕ) (same : Value → Bool) → judged (Gives p) same ≡ Gives (same p.0)
judged_gives p same = ap or_false (truth_bool (same p.0))

not_same : (a b : Value) → (a ≡ b → ⊥) → same_value a b ≡ false
not_same a b apart = at (decided (same_value a b))
  where
    at : (same_value a b ≡ true) ⊎ (same_value a b ≡ false) → same_value a b ≡ false
    at (inl is) = absurd (apart ((same_value-Decides a b).0 is))
    at (inr is) = is

gives_same : (a b : Bool) → Gives a ≡ Gives b → a ≡ b
gives_same a b h = cc

first_judged : (x : Outcome (Value × ℕ)) (v w : Value) → judged x (same_value v) ≡ Gives true → (w ≡ v → ⊥) → judged x (same_value w) ≡ Gives false
first_judged (Gives p) v w right other =
    let is : v ≡ p.0 = (same_value-Decides v p.0).0 (gives_same (same_value v p.0) true (sym (judged_gives p (same_value v)) ∙ right)) in
    judged_gives p (same_value w) ∙ ap Gives (not_same w p.0 (λ q. other (q ∙ sym is)))
first_judged (Faults k) v w right other = absurd (cc)
first_judged Stuck v w right other = absurd (true≢false (sym (gives_same false true right)))

second_judged : (x : Outcome (Value × ℕ)) (v w : Value) → judged x (λ y. same_value y v) ≡ Gives true → (w ≡ v → ⊥) → judged x (λ y. same_value y w) ≡ Gives false
second_judged (Gives p) v w right other =
    let is : p.0 ≡ v = (same_value-Decides p.0 v).0 (gives_same (same_value p.0 v) true (sym (judged_gives p (λ y. same_value y v)) ∙ right)) in
    judged_gives p (λ y. same_value y w) ∙ ap Gives (not_same p.0 w (λ q. other (sym q ∙ is)))
second_judged (Faults k) v w right other = absurd (cc)
second_judged Stuck v w right other = absurd (true≢false (sym (gives_same false true right)))

-- ---- the law

module _ (m : Source) (s : Value) (e : Event) (has : HasEquality m e.op) where
  abbrev outer : Env
  outer = (name_s, s) ∷ frame has.0.params e.args

  abbrev other_side : Value → Outcome (Value × ℕ)
  other_side v = at_names m has.1 ((name_r, v) ∷ outer)

  right_by : (v : Value) (post : Expr) → has.0.post ≡ post → is_right m s e v ≡ or_false (and_then (at_names m post ((name_r, v) ∷ outer)) (λ p. truth_of p.0))
  right_by v post is =
      ap (λ y. or_false (and_then y (λ p. truth_of p.0)))
      (post_is m e.op has.0 s e.args v has.2 ∙ ap (λ q. at_names m q ((name_r, v) ∷ outer)) is)

  right_first : has.0.post ≡ Binary Equal (Name name_r) has.1 → (v : Value) → is_right m s e v ≡ judged (other_side v) (same_value v)
  unfolding at_names
  right_first is v =
      right_by v (Binary Equal (Name name_r) has.1) is
      ∙ ap (λ y. or_false (and_then y (λ p. truth_of p.0))) (first_is m.items (called m.items (reverse m.items)) has.1 outer v max_turns)

  right_second : has.0.post ≡ Binary Equal has.1 (Name name_r) → (v : Value) → is_right m s e v ≡ judged (other_side v) (λ y. same_value y v)
  unfolding at_names
  right_second is v =
      right_by v (Binary Equal has.1 (Name name_r)) is
      ∙ ap (λ y. or_false (and_then y (λ p. truth_of p.0))) (second_is m.items (called m.items (reverse m.items)) has.1 outer v max_turns)

  one_right : (v w : Value) → is_right m s e v ≡ Gives true → (w ≡ v → ⊥) → is_right m s e w ≡ Gives false
  one_right v w right other = at has.3
    where
      at : IsEquality has.1 has.0.post → is_right m s e w ≡ Gives false
      at (inl is) =
          right_first is w ∙ ap (λ x. judged x (same_value w)) (ignores_result m has.1 has.4 outer w v)
          ∙ first_judged (other_side v) v w (sym (right_first is v) ∙ right) other
      at (inr is) =
          right_second is w ∙ ap (λ x. judged x (λ y. same_value y w)) (ignores_result m has.1 has.4 outer w v)
          ∙ second_judged (other_side v) v w (sym (right_second is v) ∙ right) other

pub equality_has_one_answer : EqualityHasOneAnswer
equality_has_one_answer m c h number equal s e v w event same right other = one_right m s e (equal e event same) v w right other
