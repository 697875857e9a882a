-- A well-typed expression gives a value of its type, or a fault, and is never stuck.
use Rattle.std.proofs.Common.{◌≡◌, ◌||◌, not, ℕ, zero, suc, Bool, true, false, List, [], ◌∷◌, ◌++◌, length, map, Some, refl, sym, ap, ◌∙◌, subst, append_assoc, append-nil, slice_get}
use Rattle.std.specs.Prelude.{if◌then◌else◌, nat_le}
use Rattle.pst_model.specs.Parts.{Name, operations_of, parameters_of, types_of}
use Rattle.pst_model.specs.declared.expr.Clause.{Clause}
use Rattle.pst_model.specs.declared.expr.Expr.{Expr, Expr-F, roll-Expr, map-Expr, fold-roll-Expr}
use Rattle.pst_model.specs.declared.expr.Expr.TheVariants as expr
use Rattle.pst_model.specs.declared.model.Fun.{Fun}
use Rattle.pst_model.specs.declared.model.Item.{Item}
use Rattle.pst_model.specs.declared.model.Op.{Op}
use Rattle.pst_operators.specs.Operators.{bool}
use Rattle.pst_operators.specs.Outcome.{Outcome, Gives, Faults, Stuck, and_then, turn}
use Rattle.pst_eval.specs.Meaning.{Run, pure, ◌>>=◌, Env, Called, applied, Mean, Part, part_at, mean_at, mean, part, truth, all_from as all_of, visit, visit_each, fold_over}
use Rattle.pst_eval.proofs.Means.{part_in, part_when, mean_for}
use Rattle.pst_model.specs.Rules.{signature, key_type, Judgement, Has, Have, AllHave, Builds, Typed, typed_int, typed_bool, typed_text, typed_name, typed_let, typed_if, typed_and, typed_or, typed_unary, typed_binary, typed_tuple, typed_at, typed_list, typed_map, typed_put, typed_for, typed_fold, typed_call, typed_apply, typed_none, typed_more, typed_empty, typed_each, typed_body, typed_in, typed_when}
use Rattle.pst_value.specs.Text.{limit}
use Rattle.pst_value.specs.declared.ty.Ty.{Ty}
use Rattle.pst_value.specs.declared.ty.Ty.TheVariants as ty
use Rattle.pst_value.specs.declared.value.Value.{Value, out-roll-Value}
use Rattle.pst_value.specs.declared.value.Value.TheOpen.{Value-F}
use Rattle.pst_eval.proofs.Fitting.{Fit, EachFits, FitAll, Built, all_from, fit_int, fit_bool, fit_text, fit_list, fit_tuple, fit_call, item_get, Agrees, name_fits}
use Rattle.pst_eval.proofs.Forms.{tuple_form}
use Rattle.pst_eval.proofs.Maps.{fit_map, empty_map}
use Rattle.pst_eval.proofs.Operating.{By, by_then, by_path, turn_by, binary_by, unary_by, append_by, items_by, put_by, truth_by}

right_unit : {A : Type 0} (o : Outcome A) → and_then o (λ r. Gives r) ≡ o
right_unit (Gives r) = refl
right_unit (Faults why) = refl
right_unit Stuck = refl

-- the parameter types of an operation
parameters-of : (os : List Op) (n : ℕ) (o : Op) → slice_get os n ≡ Some o → slice_get (map (λ p. types_of p.params) os) n ≡ Some (types_of o.params)
parameters-of [] n o e = absurd (cc)
parameters-of (p ∷ os) zero o e = let q : p ≡ o = cc in ap (λ x. Some (types_of x.params)) q
parameters-of (p ∷ os) (suc n) o e = parameters-of os n o e

module _ (free vars : List Ty) (items : List Item) where
  abbrev ops : List (List Ty)
  ops = parameters_of items

  abbrev F1 : Value → Ty → Type 0
  F1 v T = Fit free vars ops v T

  -- ---- loops

  each_by : (next : Env → List Value → Run (List Value)) (x : Name) (env : Env) (S T : Ty) (vs built : List Value) (t : ℕ) → EachFits free vars ops vs S → Built free vars ops built T
      → ((v : Value) (ws : List Value) (u : ℕ) → F1 v S → Built free vars ops ws T → By (λ us. Built free vars ops us T) (next ((x, v) ∷ env) ws u))
      → By (λ us. Built free vars ops us T) (visit_each next x env vs built t)
  each_by next x env S T [] built t f g k = g
  each_by next x env S T (v ∷ vs) built t f g k =
      let C = λ (us : List Value). Built free vars ops us T in
      by_then C C _ _ (by_then (λ u. Unit {0}) C (turn t) (λ r. next ((x, v) ∷ env) built r.1) (turn_by t) (λ u n h. k v built n f.0 g)) (λ ws n h. each_by next x env S T vs ws n f.1 h k)

  fold_by : (body : Mean) (x acc : Name) (env : Env) (S T : Ty) (vs : List Value) (built : Value) (t : ℕ) → EachFits free vars ops vs S → F1 built T
      → ((v w : Value) (u : ℕ) → F1 v S → F1 w T → By (λ z. F1 z T) (body ((acc, w) ∷ (x, v) ∷ env) u))
      → By (λ z. F1 z T) (fold_over body x acc env vs built t)
  fold_by body x acc env S T [] built t f g k = g
  fold_by body x acc env S T (v ∷ vs) built t f g k =
      let C = λ (z : Value). F1 z T in
      by_then C C _ _ (by_then (λ u. Unit {0}) C (turn t) (λ r. body ((acc, built) ∷ (x, v) ∷ env) r.1) (turn_by t) (λ u n h. k v built n f.0 g)) (λ w n h. fold_by body x acc env S T vs w n f.1 h k)

  -- what the functions that may be applied do with arguments of their parameters' types
  abbrev pub FunctionsFit : List Item → Bool → List Called → Type 0
  FunctionsFit earlier post F =
      (f : Name) (g : Fun) (args : List Value) (t : ℕ) → signature earlier f ≡ Some g → (post || not g.is_post) ≡ true → FitAll free vars ops args (types_of g.params)
      → By (λ v. F1 v g.result) (applied F f args t)

  module _ (earlier : List Item) (post : Bool) (closed : post ≡ true → free ≡ []) (F : List Called) (ok : FunctionsFit earlier post F) where
    abbrev Sound : Judgement → Type 0
    Sound (Has G e T) = (env : Env) (t : ℕ) → Agrees free vars ops env G → By (λ v. F1 v T) (mean items F e env t)
    Sound (Have G es Ts) = (env : Env) (done : List Value) (t : ℕ) → Agrees free vars ops env G → By (λ vs. (ws : List Value) × (vs ≡ done ++ ws) × FitAll free vars ops ws Ts) (all_of done (map (mean items F) es) env t)
    Sound (AllHave G es T) = (env : Env) (done : List Value) (t : ℕ) → Agrees free vars ops env G → By (λ vs. (ws : List Value) × (vs ≡ done ++ ws) × (length ws ≡ length es) × EachFits free vars ops ws T) (all_of done (map (mean items F) es) env t)
    Sound (Builds G cs b T) = (env : Env) (built : List Value) (t : ℕ) → Agrees free vars ops env G → Built free vars ops built T → By (λ vs. Built free vars ops vs T) (visit (map (part items F) cs) (mean items F b) env built t)

    mean_is : (d : Expr-F Clause Expr) (e : Expr) → roll-Expr d ≡ e → mean items F e ≡ mean_at items F (map-Expr Clause Expr Part Mean (part items F) (mean items F) d)
    mean_is d e r = ap (mean items F) (sym r) ∙ fold-roll-Expr Part Mean part_at (mean_at items F) d

    here : (T : Ty) (e : Expr) (m : Mean) (env : Env) (t : ℕ) → mean items F e ≡ m → By (λ v. F1 v T) (m env t) → By (λ v. F1 v T) (mean items F e env t)
    here T e m env t p h = by_path (λ v. F1 v T) _ _ (ap (λ n. n env t) p) h

    abbrev IsBool : Value → Type 0
    IsBool v = F1 v ty.Bool

    -- the truth of an expression, and what follows
    truth_then : {A : Type 0} (P : A → Type 0) (e : Expr) (env : Env) (t : ℕ) (f : Bool → Run A) → By IsBool (mean items F e env t) → ((b : Bool) (u : ℕ) → By P (f b u))
        → By P (and_then (truth (mean items F e) env t) (λ r. f r.0 r.1))
    truth_then P e env t f h k = by_then (λ b. Unit {0}) P (truth (mean items F e) env t) _ (by_then IsBool (λ b. Unit {0}) _ _ h (λ v u g. let w = truth_by free vars ops v g in rw w.1 tt)) (λ b u q. k b u)

    last_truth : (e : Expr) (env : Env) (u : ℕ) → By IsBool (mean items F e env u) → By IsBool ((truth (mean items F e) env >>= (λ z. pure (bool z))) u)
    last_truth e env u h = truth_then IsBool e env u (λ z. pure (bool z)) h (λ b n. fit_bool free vars ops b)

    pub sound : (j : Judgement) → Typed items earlier post j → Sound j
    sound _ (typed_int G n r) = λ env t a. here _ _ _ env t (mean_is (Expr-F.Int n) _ (expr.rolls-Int n)) (fit_int free vars ops n r)
    sound _ (typed_bool G b) = λ env t a. here _ _ _ env t (mean_is (Expr-F.Bool b) _ (expr.rolls-Bool b)) (fit_bool free vars ops b)
    sound _ (typed_text G s r) = λ env t a. here _ _ _ env t (mean_is (Expr-F.Text s) _ (expr.rolls-Text s)) (fit_text free vars ops s r)
    sound _ (typed_name G x T h) = λ env t a.
        let p = name_fits free vars ops env G x T a h in
        here T _ _ env t (mean_is (Expr-F.Name x) _ (expr.rolls-Name x)) (rw p.1 p.2)
    sound _ (typed_let G x e b S T he hb) = λ env t a.
        here T _ _ env t (mean_is (Expr-F.Let x e b) _ (expr.rolls-Let x e b))
        (by_then (λ v. F1 v S) (λ v. F1 v T) _ _ (sound _ he env t a) (λ v u f. sound _ hb ((x, v) ∷ env) u (record { name = refl; here = f; outer = a })))
    sound _ (typed_if G c p q T hc hp hq) = λ env t a.
        here T _ _ env t (mean_is (Expr-F.If c p q) _ (expr.rolls-If c p q))
        (truth_then (λ v. F1 v T) c env t (λ z. if z then mean items F p env else mean items F q env) (sound _ hc env t a) (λ z u.
        elim z as (λ z. By (λ v. F1 v T) ((if z then mean items F p env else mean items F q env) u)) [ true ↦ sound _ hp env u a | false ↦ sound _ hq env u a ]))
    sound _ (typed_and G p q hp hq) = λ env t a.
        let other = truth (mean items F q) env >>= (λ u. pure (bool u)) in
        here ty.Bool _ _ env t (mean_is (Expr-F.And p q) _ (expr.rolls-And p q))
        (truth_then IsBool p env t (λ z. if z then other else pure (bool false)) (sound _ hp env t a) (λ z u.
        elim z as (λ z. By IsBool ((if z then other else pure (bool false)) u)) [ true ↦ last_truth q env u (sound _ hq env u a) | false ↦ fit_bool free vars ops false ]))
    sound _ (typed_or G p q hp hq) = λ env t a.
        let other = truth (mean items F q) env >>= (λ u. pure (bool u)) in
        here ty.Bool _ _ env t (mean_is (Expr-F.Or p q) _ (expr.rolls-Or p q))
        (truth_then IsBool p env t (λ z. if z then pure (bool true) else other) (sound _ hp env t a) (λ z u.
        elim z as (λ z. By IsBool ((if z then pure (bool true) else other) u)) [ true ↦ fit_bool free vars ops true | false ↦ last_truth q env u (sound _ hq env u a) ]))
    sound _ (typed_unary G op e S T o h) = λ env t a.
        here T _ _ env t (mean_is (Expr-F.Unary op e) _ (expr.rolls-Unary op e))
        (by_then (λ v. F1 v S) (λ v. F1 v T) _ _ (sound _ h env t a) (λ v u f. unary_by free vars ops post op S T v u closed o f))
    sound _ (typed_binary G op p q R S T o hp hq) = λ env t a.
        here T _ _ env t (mean_is (Expr-F.Binary op p q) _ (expr.rolls-Binary op p q))
        (by_then (λ v. F1 v R) (λ v. F1 v T) _ _ (sound _ hp env t a) (λ v u f. by_then (λ v. F1 v S) (λ v. F1 v T) _ _ (sound _ hq env u a) (λ w s g. binary_by free vars ops post op R S T v w s o f g)))
    sound _ (typed_tuple G es Ts h) = λ env t a.
        here (ty.Tuple Ts) _ _ env t (mean_is (Expr-F.Tuple es) _ (expr.rolls-Tuple es))
        (by_then (λ vs. (ws : List Value) × (vs ≡ [] ++ ws) × FitAll free vars ops ws Ts) (λ v. F1 v (ty.Tuple Ts)) _ _ (sound _ h env [] t a) (λ vs u p. rw p.1 (fit_tuple free vars ops p.0 Ts p.2)))
    sound _ (typed_at G e n Ts T o h) = λ env t a.
        here T _ _ env t (mean_is (Expr-F.At e n) _ (expr.rolls-At e n))
        (by_then (λ v. F1 v (ty.Tuple Ts)) (λ v. F1 v T) _ _ (sound _ h env t a) (λ v u f.
        let m = tuple_form free vars ops v Ts f in
        let w = item_get free vars ops m.0 Ts n T (all_from free vars ops m.0 Ts m.2) o in
        rw (m.1, out-roll-Value (Value-F.Tuple m.0), w.1) w.2))
    sound _ (typed_list G T es l h) = λ env t a.
        here (ty.List T) _ _ env t (mean_is (Expr-F.List T es) _ (expr.rolls-List T es))
        (by_then (λ vs. (ws : List Value) × (vs ≡ [] ++ ws) × (length ws ≡ length es) × EachFits free vars ops ws T) (λ v. F1 v (ty.List T)) _ _ (sound _ h env [] t a)
        (λ vs u p. rw p.1 (fit_list free vars ops p.0 T (record { within = ap (λ n. nat_le n limit) p.2 ∙ l; each = p.3 }))))
    sound _ (typed_map G k T) = λ env t a.
        here (ty.Map k T) _ _ env t (mean_is (Expr-F.Map k T) _ (expr.rolls-Map k T))
        (fit_map free vars ops k T [] [] (empty_map free vars ops k T))
    sound _ (typed_put G m y e k T hm hy he) = λ env t a.
        let C = λ (v : Value). F1 v (ty.Map k T) in
        here (ty.Map k T) _ _ env t (mean_is (Expr-F.Put m y e) _ (expr.rolls-Put m y e))
        (by_then C C _ _ (sound _ hm env t a) (λ x u f.
        by_then (λ v. F1 v (key_type k)) C _ _ (sound _ hy env u a) (λ z s g.
        by_then (λ v. F1 v T) C _ _ (sound _ he env s a) (λ v r h. put_by free vars ops k T x z v r f g h))))
    sound _ (typed_for G cs b T h) = λ env t a.
        here (ty.List T) _ _ env t (mean_for items F cs b)
        (by_then (λ vs. Built free vars ops vs T) (λ v. F1 v (ty.List T)) _ _ (sound _ h env [] t a (record { within = refl; each = tt })) (λ vs u f. fit_list free vars ops vs T f))
    sound _ (typed_fold G x e acc i b S T he hi hb) = λ env t a.
        here T _ _ env t (mean_is (Expr-F.Fold x e acc i b) _ (expr.rolls-Fold x e acc i b))
        (by_then (λ v. F1 v (ty.List S)) (λ v. F1 v T) _ _ (sound _ he env t a) (λ v u f.
        let w = items_by free vars ops v S f in
        rw w.1 (by_then (λ v. F1 v T) (λ v. F1 v T) _ _ (sound _ hi env u a) (λ z s g.
        fold_by (mean items F b) x acc env S T w.0 z s w.2.each g (λ v y n p q. sound _ hb ((acc, y) ∷ (x, v) ∷ env) n (record { name = refl; here = q; outer = record { name = refl; here = p; outer = a } }))))))
    sound _ (typed_call G x es n o e l i h) = λ env t a.
        here ty.Call _ _ env t (mean_is (Expr-F.Call x es) _ (expr.rolls-Call x es))
        (by_then (λ vs. (ws : List Value) × (vs ≡ [] ++ ws) × FitAll free vars ops ws (types_of o.params)) (λ v. F1 v ty.Call) _ _ (sound _ h env [] t a) (λ vs u p.
        rw (p.1, e, l) (fit_call free vars ops n p.0 (types_of o.params) (parameters-of (operations_of items) n o i) p.2)))
    sound _ (typed_apply G f es g e l h) = λ env t a.
        let R = λ (v : Value). F1 v g.result in
        here g.result _ _ env t (mean_is (Expr-F.Apply f es) _ (expr.rolls-Apply f es))
        (by_then (λ vs. (ws : List Value) × (vs ≡ [] ++ ws) × FitAll free vars ops ws (types_of g.params)) R _ _ (sound _ h env [] t a) (λ vs u p.
        let A : List Value → Type 0 = λ ws. FitAll free vars ops ws (types_of g.params) in
        ok f g vs u e l (subst A (sym p.1) p.2)))
    sound _ (typed_none G) = λ env done t a. ([], sym (append-nil done), tt)
    sound _ (typed_more G e es T Ts h hs) = λ env done t a.
        let Q = λ (vs : List Value). (ws : List Value) × (vs ≡ done ++ ws) × FitAll free vars ops ws (T ∷ Ts) in
        by_then (λ v. F1 v T) Q _ _ (sound _ h env t a) (λ v u f.
        by_path Q _ _ (sym (right_unit _)) (by_then (λ vs. (ws : List Value) × (vs ≡ (done ++ v ∷ []) ++ ws) × FitAll free vars ops ws Ts) Q _ (λ r. Gives r) (sound _ hs env (done ++ v ∷ []) u a) (λ vs s p. (v ∷ p.0, p.1 ∙ append_assoc done (v ∷ []) p.0, (f, p.2)))))
    sound _ (typed_empty G T) = λ env done t a. ([], sym (append-nil done), refl, tt)
    sound _ (typed_each G e es T h hs) = λ env done t a.
        let Q = λ (vs : List Value). (ws : List Value) × (vs ≡ done ++ ws) × (length ws ≡ suc (length es)) × EachFits free vars ops ws T in
        by_then (λ v. F1 v T) Q _ _ (sound _ h env t a) (λ v u f.
        by_path Q _ _ (sym (right_unit _)) (by_then (λ vs. (ws : List Value) × (vs ≡ (done ++ v ∷ []) ++ ws) × (length ws ≡ length es) × EachFits free vars ops ws T) Q _ (λ r. Gives r) (sound _ hs env (done ++ v ∷ []) u a) (λ vs s p. (v ∷ p.0, p.1 ∙ append_assoc done (v ∷ []) p.0, ap suc p.2, (f, p.3)))))
    sound _ (typed_body G b T h) = λ env built t a g.
        by_then (λ v. F1 v T) (λ vs. Built free vars ops vs T) _ _ (sound _ h env t a) (λ v u f. append_by free vars ops built v T u g f)
    sound _ (typed_in G x e cs b S T he hc) = λ env built t a g.
        let C = λ (vs : List Value). Built free vars ops vs T in
        by_path C _ _ (ap (λ p. visit (p ∷ map (part items F) cs) (mean items F b) env built t) (part_in items F x e))
        (by_then (λ v. F1 v (ty.List S)) C _ _ (sound _ he env t a) (λ v u f.
        let w = items_by free vars ops v S f in
        rw w.1 (each_by (visit (map (part items F) cs) (mean items F b)) x env S T w.0 built u w.2.each g (λ v ws n p q. sound _ hc ((x, v) ∷ env) ws n (record { name = refl; here = p; outer = a }) q))))
    sound _ (typed_when G e cs b T he hc) = λ env built t a g.
        let C = λ (vs : List Value). Built free vars ops vs T in
        by_path C _ _ (ap (λ p. visit (p ∷ map (part items F) cs) (mean items F b) env built t) (part_when items F e))
        (by_then (λ v. F1 v ty.Bool) C _ _ (sound _ he env t a) (λ v u f.
        let w = truth_by free vars ops v f in
        rw w.1 (elim w.0 as (λ z. By C ((if z then visit (map (part items F) cs) (mean items F b) env built else (λ s. Gives (built, s))) u)) [ true ↦ sound _ hc env built u a g | false ↦ g ])))
