-- Lists of values that fit, and environments that agree with a context.
use Rattle.std.proofs.Common.{◌≡◌, ◌+◌, ℕ, zero, suc, ℤ, Bool, true, false, ◌&&◌, List, [], ◌∷◌, ◌++◌, length, map, Some, refl, ap, ◌∙◌, subst, inl, inr, arith, slice_get}
use Rattle.std.specs.Prelude.{nat_lt, nat_le}
use Rattle.std.specs.List.{list_all}
use Rattle.std.specs.Str.{bytes_eq}
use Rattle.std.proofs.lemmas.Bool.{cases_Bool, and_from}
use Rattle.std.proofs.lemmas.List.{length-map, length-append}
use Rattle.std.proofs.lemmas.Bool.Decides.{nat_tests}
use Rattle.pst_model.specs.Parts.{Name, types_of}
use Rattle.pst_model.specs.declared.model.Param.{Param}
use Rattle.pst_operators.specs.Operators.{int, bool, text, list, tuple, call}
use Rattle.pst_operators.specs.Outcome.{Gives}
use Rattle.pst_eval.specs.Meaning.{Env, looked_up, frame}
use Rattle.pst_model.specs.Rules.{Context, context_of, type_named}
use Rattle.pst_value.specs.Fits.{fit_each, fit_params, fits, fits_level}
use Rattle.pst_value.specs.Subst.{numbered}
use Rattle.pst_value.specs.Text.{is_i64, is_text, limit}
use Rattle.pst_value.specs.declared.ty.Ty.{Ty}
use Rattle.pst_value.specs.declared.ty.Ty.TheVariants as ty
use Rattle.pst_value.specs.declared.value.Value.{Value}
use Rattle.pst_value.specs.declared.value.Value.TheOpen.{Value-F}
use Rattle.pst_model.proofs.Rolled.{fits-roll}

pub both : (x y : Bool) → (x && y) ≡ true → (x ≡ true) × (y ≡ true)
both true y h = (refl, h)
both false y h = absurd (cc)

module _ (free vars : List Ty) (ops : List (List Ty)) where
  abbrev pub Fit : Value → Ty → Type 0
  Fit v T = fits free vars ops v T ≡ true

  abbrev pub EachFits : List Value → Ty → Type 0
  EachFits [] T = Unit {0}
  EachFits (v ∷ vs) T = Fit v T × EachFits vs T

  abbrev pub FitAll : List Value → List Ty → Type 0
  FitAll [] [] = Unit {0}
  FitAll [] (T ∷ Ts) = ⊥
  FitAll (v ∷ vs) [] = ⊥
  FitAll (v ∷ vs) (T ∷ Ts) = Fit v T × FitAll vs Ts

  -- a list of a type, within the limit
  pub record Built (vs : List Value) (T : Ty) : Type 0 where
    pub within : nat_le (length vs) limit ≡ true
    pub each : EachFits vs T

  pub each_from : (vs : List Value) (T : Ty) → list_all (λ f. f T) (map (fits free vars ops) vs) ≡ true → EachFits vs T
  each_from [] T h = tt
  each_from (v ∷ vs) T h = let p = both _ _ h in (p.0, each_from vs T p.1)

  pub each_to : (vs : List Value) (T : Ty) → EachFits vs T → list_all (λ f. f T) (map (fits free vars ops) vs) ≡ true
  each_to [] T h = refl
  each_to (v ∷ vs) T h = and_from _ _ h.0 (each_to vs T h.1)

  pub all_from : (vs : List Value) (Ts : List Ty) → fit_each (map (fits free vars ops) vs) Ts ≡ true → FitAll vs Ts
  all_from [] [] h = tt
  all_from [] (T ∷ Ts) h = absurd (cc)
  all_from (v ∷ vs) [] h = absurd (cc)
  all_from (v ∷ vs) (T ∷ Ts) h = let p = both _ _ h in (p.0, all_from vs Ts p.1)

  pub all_to : (vs : List Value) (Ts : List Ty) → FitAll vs Ts → fit_each (map (fits free vars ops) vs) Ts ≡ true
  all_to [] [] h = refl
  all_to [] (T ∷ Ts) h = absurd h
  all_to (v ∷ vs) [] h = absurd h
  all_to (v ∷ vs) (T ∷ Ts) h = and_from _ _ h.0 (all_to vs Ts h.1)

  pub fit_int : (n : ℤ) → is_i64 n ≡ true → Fit (int n) ty.Int
  fit_int n h = fits-roll free vars ops (Value-F.Int n) ty.Int ∙ ap (fits_level free vars ops (Value-F.Int n)) ty.outs-Int ∙ h

  pub fit_bool : (b : Bool) → Fit (bool b) ty.Bool
  fit_bool b = fits-roll free vars ops (Value-F.Bool b) ty.Bool ∙ ap (fits_level free vars ops (Value-F.Bool b)) ty.outs-Bool

  pub fit_text : (t : List ℕ) → is_text t ≡ true → Fit (text t) ty.Text
  fit_text t h = fits-roll free vars ops (Value-F.Text t) ty.Text ∙ ap (fits_level free vars ops (Value-F.Text t)) ty.outs-Text ∙ h

  pub fit_list : (vs : List Value) (T : Ty) → Built vs T → Fit (list vs) (ty.List T)
  fit_list vs T h =
      fits-roll free vars ops (Value-F.List vs) (ty.List T) ∙ ap (fits_level free vars ops (Value-F.List (map (fits free vars ops) vs))) (ty.outs-List T)
      ∙ and_from _ _ (ap (λ n. nat_le n limit) (length-map vs (fits free vars ops)) ∙ h.within) (each_to vs T h.each)

  pub fit_tuple : (vs : List Value) (Ts : List Ty) → FitAll vs Ts → Fit (tuple vs) (ty.Tuple Ts)
  fit_tuple vs Ts h = fits-roll free vars ops (Value-F.Tuple vs) (ty.Tuple Ts) ∙ ap (fits_level free vars ops (Value-F.Tuple (map (fits free vars ops) vs))) (ty.outs-Tuple Ts) ∙ all_to vs Ts h

  pub fit_call : (n : ℕ) (vs : List Value) (Ts : List Ty) → slice_get ops n ≡ Some Ts → FitAll vs Ts → Fit (call n vs) ty.Call
  fit_call n vs Ts e h =
      fits-roll free vars ops (Value-F.Call n vs) ty.Call ∙ ap (fits_level free vars ops (Value-F.Call n (map (fits free vars ops) vs))) ty.outs-Call
      ∙ ap (fit_params (map (fits free vars ops) vs)) e ∙ all_to vs Ts h

  pub each_append : (vs ws : List Value) (T : Ty) → EachFits vs T → EachFits ws T → EachFits (vs ++ ws) T
  each_append [] ws T f h = h
  each_append (v ∷ vs) ws T f h = (f.0, each_append vs ws T f.1 h)

  pub each_get : (vs : List Value) (T : Ty) (n : ℕ) (v : Value) → EachFits vs T → slice_get vs n ≡ Some v → Fit v T
  each_get [] T n v h e = absurd (cc)
  each_get (w ∷ ws) T zero v h e = let q : w ≡ v = cc in let P : Value → Type 0 = λ u. Fit u T in subst P q h.0
  each_get (w ∷ ws) T (suc n) v h e = each_get ws T n v h.1 e

  all_get : (vs : List Value) (Ts : List Ty) (n : ℕ) (T : Ty) → FitAll vs Ts → slice_get Ts n ≡ Some T → (v : Value) × (slice_get vs n ≡ Some v) × Fit v T
  all_get [] [] n T h e = absurd (cc)
  all_get [] (S ∷ Ts) n T h e = absurd h
  all_get (v ∷ vs) [] n T h e = absurd h
  all_get (v ∷ vs) (S ∷ Ts) zero T h e = let q : S ≡ T = cc in let P : Ty → Type 0 = λ U. Fit v U in (v, refl, subst P q h.0)
  all_get (v ∷ vs) (S ∷ Ts) (suc n) T h e = all_get vs Ts n T h.1 e

  pub item_get : (vs : List Value) (Ts : List Ty) (place : ℕ) (T : Ty) → FitAll vs Ts → numbered Ts place ≡ Some T → (v : Value) × (numbered vs place ≡ Some v) × Fit v T
  item_get vs Ts zero T h e = absurd (cc)
  item_get vs Ts (suc n) T h e = all_get vs Ts n T h e

  pub built_append : (vs : List Value) (v : Value) (T : Ty) → nat_lt (length vs) limit ≡ true → EachFits vs T → Fit v T → Built (vs ++ v ∷ []) T
  built_append vs v T lt f h = record { within = ap (λ n. nat_le n limit) (length-append vs (v ∷ [])) ∙ one_more (length vs) lt; each = each_append vs (v ∷ []) T f (h, tt) }
    where
      one_more : (n : ℕ) → nat_lt n 65536 ≡ true → nat_le (n + 1) 65536 ≡ true
      one_more n h = grind (arith, nat_tests)

  pub built_joined : (vs ws : List Value) (T : Ty) → nat_le (length vs + length ws) limit ≡ true → EachFits vs T → EachFits ws T → Built (vs ++ ws) T
  built_joined vs ws T le f h = record { within = ap (λ n. nat_le n limit) (length-append vs ws) ∙ le; each = each_append vs ws T f h }

  -- ---- environments

  -- each name has a value that fits its type
  abbrev pub Agrees : Env → Context → Type 0
  Agrees [] [] = Unit {0}
  Agrees [] (c ∷ G) = ⊥
  Agrees (b ∷ env) [] = ⊥
  Agrees (b ∷ env) (c ∷ G) = record { name : b.0 ≡ c.0; here : Fit b.1 c.1; outer : Agrees env G }

  pub name_fits : (env : Env) (G : Context) (x : Name) (T : Ty) → Agrees env G → type_named G x ≡ Some T → (v : Value) × (looked_up env x ≡ Gives v) × Fit v T
  name_fits [] [] x T a e = absurd (cc)
  name_fits [] (c ∷ G) x T a e = absurd a
  name_fits (b ∷ env) [] x T a e = absurd a
  name_fits (b ∷ env) (c ∷ G) x T a e = elim (cases_Bool (bytes_eq c.0 x)) [
    | inl s ↦
        let q = rw s at e in
        let r : c.1 ≡ T = cc in
        let P : Ty → Type 0 = λ U. Fit b.1 U in
        (b.1, rw (a.name, s) refl, subst P r a.here)
    | inr s ↦
        let rest = name_fits env G x T a.outer (rw s at e) in
        (rest.0, rw (a.name, s) rest.1, rest.2)
  ]

  pub frame_agrees : (ps : List Param) (vs : List Value) → FitAll vs (types_of ps) → (length ps ≡ length vs) × Agrees (frame ps vs) (context_of ps)
  frame_agrees [] [] f = (refl, tt)
  frame_agrees [] (v ∷ vs) f = absurd f
  frame_agrees (p ∷ ps) [] f = absurd f
  frame_agrees (p ∷ ps) (v ∷ vs) f = let r = frame_agrees ps vs f.1 in (ap suc r.0, record { name = refl; here = f.0; outer = r.1 })
