-- To put results in place of variables and then to evaluate is to evaluate and then to put them in.
use Rattle.std.proofs.Common.{◌≡◌, ◌||◌, not, ℕ, zero, suc, Bool, true, false, List, [], ◌∷◌, ◌++◌, length, map, Option, Some, refl, sym, ap, ◌∙◌, subst, inl, inr}
use Rattle.std.proofs.lemmas.Bool.{cases_Bool}
use Rattle.std.proofs.lemmas.List.{map-append}
use Rattle.std.specs.Prelude.{if◌then◌else◌}
use Rattle.std.specs.Str.{bytes_eq}
use Rattle.pst_eval.proofs.Fitting.{Fit, EachFits, FitAll, Built, Agrees}
use Rattle.pst_eval.proofs.Mapping.{commute_then, turn_commutes}
use Rattle.pst_eval.proofs.Means.{part_in, part_when, mean_for}
use Rattle.pst_eval.proofs.Operands.{append_commutes, binary_commutes, unary_commutes, put_commutes, item_commutes, items_with, truth_with}
use Rattle.pst_eval.proofs.Operating.{By, by_then, turn_by, Lifted, truth_by}
use Rattle.pst_eval.proofs.Sound.{FunctionsFit, sound}
use Rattle.pst_eval.proofs.Values.{sub_int, sub_bool, sub_text, sub_list, sub_tuple, sub_map, sub_call}
use Rattle.pst_eval.specs.Meaning.{Run, pure, ◌>>=◌, Env, looked_up, Called, applied, Mean, Part, part_at, mean_at, mean, part, truth, all_from as all_of, visit, visit_each, fold_over}
use Rattle.pst_eval.specs.Substituted.{mapped, substituted_in}
use Rattle.pst_model.specs.Parts.{Name, parameters_of, types_of}
use Rattle.pst_model.specs.Rules.{Context, signature, key_type, Judgement, Has, Have, AllHave, Builds, Typed, typed_int, typed_bool, typed_text, typed_name, typed_let, typed_if, typed_and, typed_or, typed_unary, typed_binary, typed_tuple, typed_at, typed_list, typed_map, typed_put, typed_for, typed_fold, typed_call, typed_apply, typed_none, typed_more, typed_empty, typed_each, typed_body, typed_in, typed_when}
use Rattle.pst_model.specs.declared.expr.Clause.{Clause}
use Rattle.pst_model.specs.declared.expr.Expr.{Expr, Expr-F, roll-Expr, map-Expr, fold-roll-Expr}
use Rattle.pst_model.specs.declared.expr.Expr.TheVariants as expr
use Rattle.pst_model.specs.declared.model.Fun.{Fun}
use Rattle.pst_model.specs.declared.model.Item.{Item}
use Rattle.pst_operators.specs.Operators.{bool}
use Rattle.pst_operators.specs.Outcome.{Gives, and_then, turn}
use Rattle.pst_value.specs.Subst.{substituted}
use Rattle.pst_value.specs.declared.ty.Ty.{Ty}
use Rattle.pst_value.specs.declared.ty.Ty.TheVariants as ty
use Rattle.pst_value.specs.declared.value.Value.{Value}

module _ (rs : List (Option Value)) (free vars : List Ty) (items : List Item) where
  abbrev S : Value → Value
  S = substituted rs

  abbrev ops : List (List Ty)
  ops = parameters_of items

  abbrev F1 : Value → Ty → Type 0
  F1 v T = Fit free vars ops v T

  abbrev All : List Value → Ty → Type 0
  All vs T = Built free vars ops vs T

  plainly : false ≡ true → free ≡ []
  plainly e = absurd (cc)

  name_commutes : (env : Env) (x : Name) (t : ℕ) → Lifted (looked_up (substituted_in rs env) x) t ≡ mapped S (Lifted (looked_up env x) t)
  name_commutes [] x t = refl
  name_commutes (b ∷ env) x t = elim (cases_Bool (bytes_eq b.0 x)) [ inl e ↦ rw e refl | inr e ↦ rw e (name_commutes env x t) ]

  -- ---- loops

  by_turn : {A : Type 0} (C : A → Type 0) (t : ℕ) (m : Run A) → ((u : ℕ) → By C (m u)) → By C (and_then (turn t) (λ r. m r.1))
  by_turn C zero m h = tt
  by_turn C (suc n) m h = h n

  each_commutes : (next : Env → List Value → Run (List Value)) (x : Name) (env : Env) (Q T : Ty) (vs built : List Value) (t : ℕ) → EachFits free vars ops vs Q → All built T
      → ((v : Value) (ws : List Value) (u : ℕ) → F1 v Q → All ws T → By (λ us. All us T) (next ((x, v) ∷ env) ws u))
      → ((v : Value) (ws : List Value) (u : ℕ) → F1 v Q → All ws T → next ((x, S v) ∷ substituted_in rs env) (map S ws) u ≡ mapped (map S) (next ((x, v) ∷ env) ws u))
      → visit_each next x (substituted_in rs env) (map S vs) (map S built) t ≡ mapped (map S) (visit_each next x env vs built t)
  each_commutes next x env Q T [] built t f g h c = refl
  each_commutes next x env Q T (v ∷ vs) built t f g h c =
      let C = λ (us : List Value). All us T in
      commute_then C (map S) (map S) _ _ _ _ (by_turn C t (λ u. next ((x, v) ∷ env) built u) (λ u. h v built u f.0 g))
      (commute_then (λ u. Unit {0}) (λ u. u) (map S) (turn t) (turn t) _ _ (turn_by t) (turn_commutes t) (λ u n q. c v built n f.0 g))
      (λ ws n q. each_commutes next x env Q T vs ws n f.1 q h c)

  fold_commutes : (body : Mean) (x acc : Name) (env : Env) (Q T : Ty) (vs : List Value) (built : Value) (t : ℕ) → EachFits free vars ops vs Q → F1 built T
      → ((v w : Value) (u : ℕ) → F1 v Q → F1 w T → By (λ z. F1 z T) (body ((acc, w) ∷ (x, v) ∷ env) u))
      → ((v w : Value) (u : ℕ) → F1 v Q → F1 w T → body ((acc, S w) ∷ (x, S v) ∷ substituted_in rs env) u ≡ mapped S (body ((acc, w) ∷ (x, v) ∷ env) u))
      → fold_over body x acc (substituted_in rs env) (map S vs) (S built) t ≡ mapped S (fold_over body x acc env vs built t)
  fold_commutes body x acc env Q T [] built t f g h c = refl
  fold_commutes body x acc env Q T (v ∷ vs) built t f g h c =
      let C = λ (z : Value). F1 z T in
      commute_then C S S _ _ _ _ (by_turn C t (λ u. body ((acc, built) ∷ (x, v) ∷ env) u) (λ u. h v built u f.0 g))
      (commute_then (λ u. Unit {0}) (λ u. u) S (turn t) (turn t) _ _ (turn_by t) (turn_commutes t) (λ u n q. c v built n f.0 g))
      (λ w n q. fold_commutes body x acc env Q T vs w n f.1 q h c)

  -- what the functions of mode plain do with arguments of their parameters' types
  abbrev pub FunctionsCommute : List Item → List Called → Type 0
  FunctionsCommute earlier F =
      (f : Name) (g : Fun) (args : List Value) (t : ℕ) → signature earlier f ≡ Some g → (false || not g.is_post) ≡ true → FitAll free vars ops args (types_of g.params)
      → applied F f (map S args) t ≡ mapped S (applied F f args t)

  module _ (earlier : List Item) (F : List Called) (ok : FunctionsFit free vars items earlier false F) (commute : FunctionsCommute earlier F) where
    abbrev Commutes : Judgement → Type 0
    Commutes (Has G e T) = (env : Env) (t : ℕ) → Agrees free vars ops env G → mean items F e (substituted_in rs env) t ≡ mapped S (mean items F e env t)
    Commutes (Have G es Ts) = (env : Env) (done : List Value) (t : ℕ) → Agrees free vars ops env G
        → all_of (map S done) (map (mean items F) es) (substituted_in rs env) t ≡ mapped (map S) (all_of done (map (mean items F) es) env t)
    Commutes (AllHave G es T) = (env : Env) (done : List Value) (t : ℕ) → Agrees free vars ops env G
        → all_of (map S done) (map (mean items F) es) (substituted_in rs env) t ≡ mapped (map S) (all_of done (map (mean items F) es) env t)
    Commutes (Builds G cs b T) = (env : Env) (built : List Value) (t : ℕ) → Agrees free vars ops env G → All built T
        → visit (map (part items F) cs) (mean items F b) (substituted_in rs env) (map S built) t ≡ mapped (map S) (visit (map (part items F) cs) (mean items F b) env built t)

    is : (d : Expr-F Clause Expr) (e : Expr) → roll-Expr d ≡ e → mean items F e ≡ mean_at items F (map-Expr Clause Expr Part Mean (part items F) (mean items F) d)
    is d e r = ap (mean items F) (sym r) ∙ fold-roll-Expr Part Mean part_at (mean_at items F) d

    at : (e : Expr) (m : Mean) (env : Env) (t : ℕ) → mean items F e ≡ m → m (substituted_in rs env) t ≡ mapped S (m env t) → mean items F e (substituted_in rs env) t ≡ mapped S (mean items F e env t)
    at e m env t p h = let P : Mean → Type 0 = λ n. n (substituted_in rs env) t ≡ mapped S (n env t) in subst P (sym p) h

    -- what an expression gives has its type
    fit : (G : Context) (e : Expr) (T : Ty) → Typed items earlier false (Has G e T) → (env : Env) (t : ℕ) → Agrees free vars ops env G → By (λ v. F1 v T) (mean items F e env t)
    fit G e T h = sound free vars items earlier false plainly F ok _ h

    abbrev IsBool : Value → Type 0
    IsBool v = F1 v ty.Bool

    -- the truth of an expression, and what follows
    truth_then : {A B : Type 0} (g : A → B) (e : Expr) (env : Env) (t : ℕ) (k : Bool → Run A) (k' : Bool → Run B) → By IsBool (mean items F e env t)
        → mean items F e (substituted_in rs env) t ≡ mapped S (mean items F e env t) → ((b : Bool) (u : ℕ) → k' b u ≡ mapped g (k b u))
        → and_then (truth (mean items F e) (substituted_in rs env) t) (λ r. k' r.0 r.1) ≡ mapped g (and_then (truth (mean items F e) env t) (λ r. k r.0 r.1))
    truth_then g e env t k k' f c h =
        commute_then (λ b. Unit {0}) (λ b. b) g _ _ _ _
        (by_then IsBool (λ b. Unit {0}) _ _ f (λ v u i. let w = truth_by free vars ops v i in rw w.1 tt))
        (commute_then IsBool S (λ b. b) _ _ _ _ f c (λ v u i. let w = truth_with rs free vars ops v i in rw (w.1, w.2) refl))
        (λ b u q. h b u)

    last_truth : (e : Expr) (env : Env) (u : ℕ) → By IsBool (mean items F e env u) → mean items F e (substituted_in rs env) u ≡ mapped S (mean items F e env u)
        → (truth (mean items F e) (substituted_in rs env) >>= (λ z. pure (bool z))) u ≡ mapped S ((truth (mean items F e) env >>= (λ z. pure (bool z))) u)
    last_truth e env u f c = truth_then S e env u (λ z. pure (bool z)) (λ z. pure (bool z)) f c (λ b n. ap (λ v. Gives (v, n)) (sym (sub_bool rs b)))

    pub commutes : (j : Judgement) → Typed items earlier false j → Commutes j
    commutes _ (typed_int G n r) = λ env t a. at _ _ env t (is (Expr-F.Int n) _ (expr.rolls-Int n)) (ap (λ v. Gives (v, t)) (sym (sub_int rs n)))
    commutes _ (typed_bool G b) = λ env t a. at _ _ env t (is (Expr-F.Bool b) _ (expr.rolls-Bool b)) (ap (λ v. Gives (v, t)) (sym (sub_bool rs b)))
    commutes _ (typed_text G s r) = λ env t a. at _ _ env t (is (Expr-F.Text s) _ (expr.rolls-Text s)) (ap (λ v. Gives (v, t)) (sym (sub_text rs s)))
    commutes _ (typed_name G x T h) = λ env t a. at _ _ env t (is (Expr-F.Name x) _ (expr.rolls-Name x)) (name_commutes env x t)
    commutes _ (typed_let G x e b Q T he hb) = λ env t a.
        at _ _ env t (is (Expr-F.Let x e b) _ (expr.rolls-Let x e b))
        (commute_then (λ v. F1 v Q) S S _ _ _ _ (fit _ _ _ he env t a) (commutes _ he env t a) (λ v u f. commutes _ hb ((x, v) ∷ env) u (record { name = refl; here = f; outer = a })))
    commutes _ (typed_if G c p q T hc hp hq) = λ env t a.
        at _ _ env t (is (Expr-F.If c p q) _ (expr.rolls-If c p q))
        (truth_then S c env t (λ z. if z then mean items F p env else mean items F q env) (λ z. if z then mean items F p (substituted_in rs env) else mean items F q (substituted_in rs env)) (fit _ _ _ hc env t a) (commutes _ hc env t a) (λ z u.
        elim z as (λ z. (if z then mean items F p (substituted_in rs env) else mean items F q (substituted_in rs env)) u ≡ mapped S ((if z then mean items F p env else mean items F q env) u)) [ true ↦ commutes _ hp env u a | false ↦ commutes _ hq env u a ]))
    commutes _ (typed_and G p q hp hq) = λ env t a.
        let other : Env → Run Value = λ n. truth (mean items F q) n >>= (λ u. pure (bool u)) in
        let no : Run Value = pure (bool false) in
        at _ _ env t (is (Expr-F.And p q) _ (expr.rolls-And p q))
        (truth_then S p env t (λ z. if z then other env else no) (λ z. if z then other (substituted_in rs env) else no) (fit _ _ _ hp env t a) (commutes _ hp env t a) (λ z u.
        elim z as (λ z. (if z then other (substituted_in rs env) else no) u ≡ mapped S ((if z then other env else no) u)) [ true ↦ last_truth q env u (fit _ _ _ hq env u a) (commutes _ hq env u a) | false ↦ ap (λ v. Gives (v, u)) (sym (sub_bool rs false)) ]))
    commutes _ (typed_or G p q hp hq) = λ env t a.
        let other : Env → Run Value = λ n. truth (mean items F q) n >>= (λ u. pure (bool u)) in
        let yes : Run Value = pure (bool true) in
        at _ _ env t (is (Expr-F.Or p q) _ (expr.rolls-Or p q))
        (truth_then S p env t (λ z. if z then yes else other env) (λ z. if z then yes else other (substituted_in rs env)) (fit _ _ _ hp env t a) (commutes _ hp env t a) (λ z u.
        elim z as (λ z. (if z then yes else other (substituted_in rs env)) u ≡ mapped S ((if z then yes else other env) u)) [ true ↦ ap (λ v. Gives (v, u)) (sym (sub_bool rs true)) | false ↦ last_truth q env u (fit _ _ _ hq env u a) (commutes _ hq env u a) ]))
    commutes _ (typed_unary G op e Q T o h) = λ env t a.
        at _ _ env t (is (Expr-F.Unary op e) _ (expr.rolls-Unary op e))
        (commute_then (λ v. F1 v Q) S S _ _ _ _ (fit _ _ _ h env t a) (commutes _ h env t a) (λ v u f. unary_commutes rs free vars ops op Q T v u o f))
    commutes _ (typed_binary G op p q Q R T o hp hq) = λ env t a.
        at _ _ env t (is (Expr-F.Binary op p q) _ (expr.rolls-Binary op p q))
        (commute_then (λ v. F1 v Q) S S _ _ _ _ (fit _ _ _ hp env t a) (commutes _ hp env t a) (λ v u f.
        commute_then (λ v. F1 v R) S S _ _ _ _ (fit _ _ _ hq env u a) (commutes _ hq env u a) (λ w s g. binary_commutes rs free vars ops op Q R T v w s o f g)))
    commutes _ (typed_tuple G es Ts h) = λ env t a.
        at _ _ env t (is (Expr-F.Tuple es) _ (expr.rolls-Tuple es))
        (commute_then (λ vs. (ws : List Value) × (vs ≡ [] ++ ws) × FitAll free vars ops ws Ts) (map S) S _ _ _ _ (sound free vars items earlier false plainly F ok _ h env [] t a) (commutes _ h env [] t a) (λ vs u p. ap (λ v. Gives (v, u)) (sym (sub_tuple rs vs))))
    commutes _ (typed_at G e n Ts T o h) = λ env t a.
        at _ _ env t (is (Expr-F.At e n) _ (expr.rolls-At e n))
        (commute_then (λ v. F1 v (ty.Tuple Ts)) S S _ _ _ _ (fit _ _ _ h env t a) (commutes _ h env t a) (λ v u f. item_commutes rs free vars ops v Ts n u f))
    commutes _ (typed_list G T es l h) = λ env t a.
        at _ _ env t (is (Expr-F.List T es) _ (expr.rolls-List T es))
        (commute_then (λ vs. (ws : List Value) × (vs ≡ [] ++ ws) × (length ws ≡ length es) × EachFits free vars ops ws T) (map S) S _ _ _ _ (sound free vars items earlier false plainly F ok _ h env [] t a) (commutes _ h env [] t a) (λ vs u p. ap (λ v. Gives (v, u)) (sym (sub_list rs vs))))
    commutes _ (typed_map G k T) = λ env t a.
        at _ _ env t (is (Expr-F.Map k T) _ (expr.rolls-Map k T))
        (ap (λ v. Gives (v, t)) (sym (sub_map rs [] [])))
    commutes _ (typed_put G m y e k T hm hy he) = λ env t a.
        at _ _ env t (is (Expr-F.Put m y e) _ (expr.rolls-Put m y e))
        (commute_then (λ v. F1 v (ty.Map k T)) S S _ _ _ _ (fit _ _ _ hm env t a) (commutes _ hm env t a)
        (λ x u f.
        commute_then (λ v. F1 v (key_type k)) S S _ _ _ _ (fit _ _ _ hy env u a) (commutes _ hy env u a)
        (λ z s g.
        commute_then (λ v. F1 v T) S S _ _ _ _ (fit _ _ _ he env s a) (commutes _ he env s a)
        (λ v r h. put_commutes rs free vars ops k T x z v r f g))))
    commutes _ (typed_for G cs b T h) = λ env t a.
        at _ _ env t (mean_for items F cs b)
        (commute_then (λ vs. All vs T) (map S) S _ _ _ _ (sound free vars items earlier false plainly F ok _ h env [] t a (record { within = refl; each = tt })) (commutes _ h env [] t a (record { within = refl; each = tt })) (λ vs u f. ap (λ v. Gives (v, u)) (sym (sub_list rs vs))))
    commutes _ (typed_fold G x e acc i b Q T he hi hb) = λ env t a.
        at _ _ env t (is (Expr-F.Fold x e acc i b) _ (expr.rolls-Fold x e acc i b))
        (commute_then (λ v. F1 v (ty.List Q)) S S _ _ _ _ (fit _ _ _ he env t a) (commutes _ he env t a) (λ v u f.
        let w = items_with rs free vars ops v Q f in
        rw (w.1, w.2) (commute_then (λ v. F1 v T) S S _ _ _ _ (fit _ _ _ hi env u a) (commutes _ hi env u a) (λ z s g.
        fold_commutes (mean items F b) x acc env Q T w.0 z s w.3.each g
        (λ v y n p q. fit _ _ _ hb ((acc, y) ∷ (x, v) ∷ env) n (record { name = refl; here = q; outer = record { name = refl; here = p; outer = a } }))
        (λ v y n p q. commutes _ hb ((acc, y) ∷ (x, v) ∷ env) n (record { name = refl; here = q; outer = record { name = refl; here = p; outer = a } }))))))
    commutes _ (typed_call G x es n o e l i h) = λ env t a.
        at _ _ env t (is (Expr-F.Call x es) _ (expr.rolls-Call x es))
        (commute_then (λ vs. (ws : List Value) × (vs ≡ [] ++ ws) × FitAll free vars ops ws (types_of o.params)) (map S) S _ _ _ _ (sound free vars items earlier false plainly F ok _ h env [] t a) (commutes _ h env [] t a) (λ vs u p.
        rw (e, l) (ap (λ v. Gives (v, u)) (sym (sub_call rs n vs)))))
    commutes _ (typed_apply G f es g e l h) = λ env t a.
        at _ _ env t (is (Expr-F.Apply f es) _ (expr.rolls-Apply f es))
        (commute_then (λ vs. (ws : List Value) × (vs ≡ [] ++ ws) × FitAll free vars ops ws (types_of g.params)) (map S) S _ _ _ _ (sound free vars items earlier false plainly F ok _ h env [] t a) (commutes _ h env [] t a) (λ vs u p.
        let A : List Value → Type 0 = λ ws. FitAll free vars ops ws (types_of g.params) in
        commute f g vs u e l (subst A (sym p.1) p.2)))
    commutes _ (typed_none G) = λ env done t a. refl
    commutes _ (typed_more G e es T Ts h hs) = λ env done t a.
        commute_then (λ v. F1 v T) S (map S) _ _ _ _ (fit _ _ _ h env t a) (commutes _ h env t a) (λ v u f.
        ap (λ ds. all_of ds (map (mean items F) es) (substituted_in rs env) u) (sym (map-append S done (v ∷ []))) ∙ commutes _ hs env (done ++ v ∷ []) u a)
    commutes _ (typed_empty G T) = λ env done t a. refl
    commutes _ (typed_each G e es T h hs) = λ env done t a.
        commute_then (λ v. F1 v T) S (map S) _ _ _ _ (fit _ _ _ h env t a) (commutes _ h env t a) (λ v u f.
        ap (λ ds. all_of ds (map (mean items F) es) (substituted_in rs env) u) (sym (map-append S done (v ∷ []))) ∙ commutes _ hs env (done ++ v ∷ []) u a)
    commutes _ (typed_body G b T h) = λ env built t a g.
        commute_then (λ v. F1 v T) S (map S) _ _ _ _ (fit _ _ _ h env t a) (commutes _ h env t a) (λ v u f. append_commutes rs built v u)
    commutes _ (typed_in G x e cs b Q T he hc) = λ env built t a g.
        rw (part_in items F x e)
        (commute_then (λ v. F1 v (ty.List Q)) S (map S) _ _ _ _ (fit _ _ _ he env t a) (commutes _ he env t a) (λ v u f.
        let w = items_with rs free vars ops v Q f in
        rw (w.1, w.2) (each_commutes (visit (map (part items F) cs) (mean items F b)) x env Q T w.0 built u w.3.each g
        (λ v ws n p q. sound free vars items earlier false plainly F ok _ hc ((x, v) ∷ env) ws n (record { name = refl; here = p; outer = a }) q)
        (λ v ws n p q. commutes _ hc ((x, v) ∷ env) ws n (record { name = refl; here = p; outer = a }) q))))
    commutes _ (typed_when G e cs b T he hc) = λ env built t a g.
        rw (part_when items F e)
        (commute_then (λ v. F1 v ty.Bool) S (map S) _ _ _ _ (fit _ _ _ he env t a) (commutes _ he env t a) (λ v u f.
        let w = truth_with rs free vars ops v f in
        rw (w.1, w.2) (elim w.0 as (λ z. (if z then visit (map (part items F) cs) (mean items F b) (substituted_in rs env) (map S built) else pure (map S built)) u ≡ mapped (map S) ((if z then visit (map (part items F) cs) (mean items F b) env built else pure built) u)) [ true ↦ commutes _ hc env built u a g | false ↦ refl ])))
