-- One step of each loop of the evaluator.
use Rattle.std.proofs.Common.{◌≡◌, ℕ, zero, suc, ◌+◌, ◌<◌, ◌≤◌, Bool, true, false, List, [], ◌∷◌, ◌++◌, length, map, drop, get_or, refl, sym, ap, ◌∙◌, subst, arith, add-one}
use Rattle.std.proofs.Math.Seq.{drop-cons}
use Rattle.pst_value.specs.declared.value.Value.{Value}
use Rattle.pst_model.specs.Parts.{Name}
use Rattle.pst_model.specs.declared.expr.Clause.{Clause, In, When}
use Rattle.pst_model.specs.declared.expr.Expr.{Expr, Fold}
use Rattle.pst_model.specs.declared.model.Item.{Item}
use Rattle.pst_operators.specs.Operators.{truth_of, items_of}
use Rattle.pst_operators.specs.Outcome.{Outcome, Gives, Faults, Stuck, and_then, turn}
use Rattle.pst_operators.specs.Answers.{Stops}
use Rattle.pst_operators.specs.declared.stop.Stop.{Stop}
use Rattle.pst_operators.specs.declared.stop.Stop.TheVariants.{Fault, Stuck as IsStuck, NoMemory}
use Rattle.pst_eval.specs.Meaning.{Run, Called, Env, Mean, Part, mean, part, all_from, visit, visit_each, fold_over}
use Rattle.pst_eval.proofs.Means.{part_in, part_when, mean_fold}

pub stops_on : {A B : Type 0} (o : Outcome A) (f : A → Outcome B) (why : Stop) → Stops o why → Stops (and_then o f) why
stops_on o f (Fault w) h = ap (λ p. and_then p f) h
stops_on o f IsStuck h = ap (λ p. and_then p f) h
stops_on o f NoMemory h = tt

pub stops_at : {A : Type 0} (o p : Outcome A) (why : Stop) → o ≡ p → Stops o why → Stops p why
stops_at o p why e h = let P : Outcome _ → Type 0 = λ q. Stops q why in subst P e h

pub split_at : {X : Type 0} (xs : List X) (i : ℕ) (x : X) → i < length xs → x ≡ get_or xs i x → drop i xs ≡ x ∷ drop (i + 1) xs
split_at xs i x h e = drop-cons xs i x h ∙ ap (λ y. y ∷ drop (suc i) xs) (sym e) ∙ ap (λ n. x ∷ drop n xs) (sym (add-one i))

-- ---- lists of expressions

pub all_step : (m : Expr → Mean) (es : List Expr) (i : ℕ) (e : Expr) (done : List Value) (env : Env) (t : ℕ) → i < length es → e ≡ get_or es i e
    → all_from done (map m (drop i es)) env t ≡ and_then (m e env t) (λ r. all_from (done ++ r.0 ∷ []) (map m (drop (i + 1) es)) env r.1)
all_step m es i e done env t h is = ap (λ xs. all_from done (map m xs) env t) (split_at es i e h is)

pub all_stops : (m : Expr → Mean) (es : List Expr) (i : ℕ) (e : Expr) (done : List Value) (env : Env) (t t0 : ℕ) (why : Stop) → i < length es → e ≡ get_or es i e
    → all_from done (map m (drop i es)) env t ≡ all_from [] (map m es) env t0 → Stops (m e env t) why → Stops (all_from [] (map m es) env t0) why
all_stops m es i e done env t t0 why h is inv s = stops_at _ _ why (sym (all_step m es i e done env t h is) ∙ inv) (stops_on _ _ why s)

pub all_goes : (m : Expr → Mean) (es : List Expr) (i : ℕ) (e : Expr) (done more : List Value) (env : Env) (t t0 t1 : ℕ) (v : Value) → i < length es → e ≡ get_or es i e
    → all_from done (map m (drop i es)) env t ≡ all_from [] (map m es) env t0 → m e env t ≡ Gives (v, t1) → more ≡ done ++ v ∷ []
    → all_from more (map m (drop (i + 1) es)) env t1 ≡ all_from [] (map m es) env t0
all_goes m es i e done more env t t0 t1 v h is inv g p =
    ap (λ d. all_from d (map m (drop (i + 1) es)) env t1) p ∙ sym (ap (λ o. and_then o (λ r. all_from (done ++ r.0 ∷ []) (map m (drop (i + 1) es)) env r.1)) g)
    ∙ sym (all_step m es i e done env t h is) ∙ inv

-- ---- items of a clause

pub each_step : (next : Env → List Value → Run (List Value)) (x : Name) (env : Env) (vs : List Value) (i : ℕ) (v : Value) (built : List Value) (t t1 : ℕ)
    → i < length vs → v ≡ get_or vs i v → turn t ≡ Gives (tt, t1)
    → visit_each next x env (drop i vs) built t ≡ and_then (next ((x, v) ∷ env) built t1) (λ r. visit_each next x env (drop (i + 1) vs) r.0 r.1)
each_step next x env vs i v built t t1 h is g =
    ap (λ ys. visit_each next x env ys built t) (split_at vs i v h is)
    ∙ ap (λ o. and_then (and_then o (λ r. next ((x, v) ∷ env) built r.1)) (λ r. visit_each next x env (drop (i + 1) vs) r.0 r.1)) g

pub each_stops : (next : Env → List Value → Run (List Value)) (x : Name) (env : Env) (vs : List Value) (i : ℕ) (v : Value) (built built0 : List Value) (t t0 t1 : ℕ) (why : Stop)
    → i < length vs → v ≡ get_or vs i v → turn t ≡ Gives (tt, t1) → visit_each next x env (drop i vs) built t ≡ visit_each next x env vs built0 t0
    → Stops (next ((x, v) ∷ env) built t1) why → Stops (visit_each next x env vs built0 t0) why
each_stops next x env vs i v built built0 t t0 t1 why h is g inv s =
    stops_at _ _ why (sym (each_step next x env vs i v built t t1 h is g) ∙ inv) (stops_on _ _ why s)

pub each_goes : (next : Env → List Value → Run (List Value)) (x : Name) (env : Env) (vs : List Value) (i : ℕ) (v : Value) (built built0 more : List Value) (t t0 t1 t2 : ℕ)
    → i < length vs → v ≡ get_or vs i v → turn t ≡ Gives (tt, t1) → visit_each next x env (drop i vs) built t ≡ visit_each next x env vs built0 t0
    → next ((x, v) ∷ env) built t1 ≡ Gives (more, t2) → visit_each next x env (drop (i + 1) vs) more t2 ≡ visit_each next x env vs built0 t0
each_goes next x env vs i v built built0 more t t0 t1 t2 h is g inv n =
    sym (ap (λ o. and_then o (λ r. visit_each next x env (drop (i + 1) vs) r.0 r.1)) n) ∙ sym (each_step next x env vs i v built t t1 h is g) ∙ inv

-- ---- clauses

pub visit_in : (items : List Item) (F : List Called) (cs rest : List Clause) (c : Clause) (x : Name) (e : Expr) (body : Mean) (env : Env) (built vs : List Value) (v : Value) (t t1 : ℕ)
    → cs ≡ c ∷ rest → c ≡ In x e → mean items F e env t ≡ Gives (v, t1) → items_of v ≡ Gives vs
    → visit (map (part items F) cs) body env built t ≡ visit_each (visit (map (part items F) rest) body) x env vs built t1
visit_in items F cs rest c x e body env built vs v t t1 first form m i =
    ap (λ ds. visit (map (part items F) ds) body env built t) first
    ∙ ap (λ p. visit (p ∷ map (part items F) rest) body env built t) (ap (part items F) form ∙ part_in items F x e)
    ∙ rw (m, i) refl

pub fold_in : (items : List Item) (F : List Called) (x : Name) (e : Expr) (acc : Name) (i b whole : Expr) (env : Env) (vs : List Value) (v w : Value) (t t1 t2 : ℕ)
    → whole ≡ Fold x e acc i b → mean items F e env t ≡ Gives (v, t1) → items_of v ≡ Gives vs → mean items F i env t1 ≡ Gives (w, t2)
    → mean items F whole env t ≡ fold_over (mean items F b) x acc env vs w t2
fold_in items F x e acc i b whole env vs v w t t1 t2 form m it n =
    ap (λ d. mean items F d env t) form ∙ ap (λ f. f env t) (mean_fold items F x e acc i b) ∙ rw (m, it, n) refl

pub visit_when : (items : List Item) (F : List Called) (cs rest : List Clause) (c : Clause) (e : Expr) (body : Mean) (env : Env) (built : List Value) (v : Value) (t t1 : ℕ)
    → cs ≡ c ∷ rest → c ≡ When e → mean items F e env t ≡ Gives (v, t1) → truth_of v ≡ Gives true
    → visit (map (part items F) cs) body env built t ≡ visit (map (part items F) rest) body env built t1
visit_when items F cs rest c e body env built v t t1 first form m i =
    ap (λ ds. visit (map (part items F) ds) body env built t) first
    ∙ ap (λ p. visit (p ∷ map (part items F) rest) body env built t) (ap (part items F) form ∙ part_when items F e)
    ∙ rw (m, i) refl
