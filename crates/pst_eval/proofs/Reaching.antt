-- How far the value of each form of an expression can reach, from its parts.
use Rattle.std.proofs.Common.{◌≡◌, ◌≤◌, ◌+◌, unsigned_abs, ℕ, ℤ, Bool, true, false, List, [], ◌∷◌, ◌++◌, length, map, refl, sym, ap, ◌∙◌, subst, arith, inl, inr, suc, Option, Some, None, Bor, append_assoc, append-nil}
use Rattle.std.proofs.lemmas.Bool.{cases_Bool}
use Rattle.std.proofs.lemmas.List.{length-map}
use Rattle.std.specs.Prelude.{if◌then◌else◌, IfSome}
use Rattle.std.specs.Str.{bytes_eq}
use Rattle.pst_eval.specs.Meaning.{Env, Called, Mean, Part, Run, pure, ◌>>=◌, looked_up, mean, mean_at, part, part_at, truth, all_from}
use Rattle.pst_model.specs.Parts.{Name}
use Rattle.pst_model.specs.declared.expr.Binary.{Binary}
use Rattle.pst_model.specs.declared.expr.Binary.TheVariants.{Add, Sub, Append, Del}
use Rattle.pst_model.specs.declared.expr.Clause.{Clause}
use Rattle.pst_model.specs.declared.expr.Expr.{Expr, Expr-F, roll-Expr, map-Expr, fold-roll-Expr}
use Rattle.pst_model.specs.declared.expr.Expr.TheVariants as expr
use Rattle.pst_model.specs.declared.expr.Unary.{Unary}
use Rattle.pst_model.specs.declared.expr.Unary.TheVariants.{Not, Len}
use Rattle.pst_model.specs.declared.model.Item.{Item}
use Rattle.pst_operators.specs.Maps.{put}
use Rattle.pst_operators.specs.Operators.{bool, truth_at, item, unary, binary}
use Rattle.pst_operators.specs.Outcome.{Outcome, Gives, Faults, Stuck, and_then}
use Rattle.pst_eval.proofs.Bounding.{Layer, far, extent_roll, greater_first, greater_second, greater_least, greatest_extents, Fine, lifted, item_of, unary_not, unary_len, binary_add, binary_sub, binary_append, binary_del, put_up_to}
use Rattle.pst_eval.specs.Reach.{greater, reach_of_value, farthest, Within, NoFault, Safe, UpTo, NameReaches, Reaches, AllReach}
use Rattle.pst_eval.specs.declared.reach.NamesWithReach.{NamesWithReach, With'}
use Rattle.pst_value.specs.declared.key.KeyTy.{KeyTy}
use Rattle.pst_value.specs.declared.ty.Ty.{Ty}
use Rattle.pst_value.specs.declared.value.Value.{Value, out-Value, roll-Value}
use Rattle.pst_value.specs.declared.value.Value.TheOpen.{Value-F}

-- ---- runs

pub followed : {A B : Type 0} (P : A → Type 0) (Q : B → Type 0) (o : Outcome (A × ℕ)) (f : A × ℕ → Outcome (B × ℕ)) → NoFault P o → ((a : A) (t : ℕ) → P a → NoFault Q (f (a, t))) → NoFault Q (and_then o f)
followed P Q (Gives r) f h k = k r.0 r.1 h
followed P Q (Faults why) f h k = h
followed P Q Stuck f h k = tt

-- the truth that a value is, and what follows
truth_lifted : (d : Layer) (t : ℕ) → NoFault (λ b. Unit {0}) (and_then (truth_at d) (λ b. Gives (b, t)))
truth_lifted (Value-F.Int n) t = tt
truth_lifted (Value-F.Bool b) t = tt
truth_lifted (Value-F.Text s) t = tt
truth_lifted (Value-F.Tuple vs) t = tt
truth_lifted (Value-F.List vs) t = tt
truth_lifted (Value-F.Map ks vs) t = tt
truth_lifted (Value-F.Var n) t = tt
truth_lifted (Value-F.Ref n v) t = tt
truth_lifted (Value-F.Call n vs) t = tt

rolled : (d : Layer) (n : ℕ) → far d ≤ n → UpTo n (roll-Value d)
rolled d n h = let e = extent_roll d in omega (arith, e, h)

pub wider : (a b : ℕ) (o : Outcome (Value × ℕ)) → a ≤ b → NoFault (UpTo a) o → NoFault (UpTo b) o
wider a b (Gives r) l h = omega (arith, l, h)
wider a b (Faults why) l h = h
wider a b Stuck l h = tt

pub reaches_wider : (names : NamesWithReach) (e : Expr) (a b : ℕ) → a ≤ b → Reaches names e a → Reaches names e b
reaches_wider names e a b l h = λ items F env w t. wider a b _ l (h items F env w t)

-- ---- forms

module _ (names : NamesWithReach) where
  -- by the form of the expression
  by_form : (d : Expr-F Clause Expr) (e : Expr) (reach : ℕ) → roll-Expr d ≡ e
      → ((items : List Item) (F : List Called) (env : Env) → Within names env → Safe (UpTo reach) (mean_at items F (map-Expr Clause Expr Part Mean (part items F) (mean items F) d) env))
      → Reaches names e reach
  by_form d e reach r h = λ items F env w t.
      let p : mean items F e ≡ mean_at items F (map-Expr Clause Expr Part Mean (part items F) (mean items F) d) = ap (mean items F) (sym r) ∙ fold-roll-Expr Part Mean part_at (mean_at items F) d in
      let C : Mean → Type 0 = λ m. NoFault (UpTo reach) (m env t) in
      subst C (sym p) (h items F env w t)

  pub reaches_int : (n : ℤ) → Reaches names (expr.Int n) (unsigned_abs n)
  reaches_int n = by_form (Expr-F.Int n) _ _ (expr.rolls-Int n) (λ items F env w t. rolled (Value-F.Int n) _ (omega arith))

  pub reaches_bool : (b : Bool) → Reaches names (expr.Bool b) 0
  reaches_bool b = by_form (Expr-F.Bool b) _ _ (expr.rolls-Bool b) (λ items F env w t. rolled (Value-F.Bool b) _ (omega arith))

  pub reaches_text : (s : List ℕ) → Reaches names (expr.Text s) (length s)
  reaches_text s = by_form (Expr-F.Text s) _ _ (expr.rolls-Text s) (λ items F env w t. rolled (Value-F.Text s) _ (omega arith))

  truth_then : {B : Type 0} (Q : B → Type 0) (e : Expr) (reach : ℕ) (items : List Item) (F : List Called) (env : Env) (t : ℕ) (f : Bool → Run B) → Reaches names e reach → Within names env → ((b : Bool) (u : ℕ) → NoFault Q (f b u))
      → NoFault Q (and_then (truth (mean items F e) env t) (λ r. f r.0 r.1))
  truth_then Q e reach items F env t f h w k =
      followed (λ b. Unit {0}) Q (truth (mean items F e) env t) _ (followed (UpTo reach) (λ b. Unit {0}) _ _ (h items F env w t) (λ v u q. truth_lifted (out-Value v) u)) (λ b u q. k b u)

  pub reaches_let : (x : List ℕ) (e b : Expr) (inner : NamesWithReach) (a n : ℕ) → ((env : Env) (v : Value) → Within names env → UpTo a v → Within inner ((x, v) ∷ env)) → Reaches names e a → Reaches inner b n → Reaches names (expr.Let x e b) n
  reaches_let x e b inner a n within h k = by_form (Expr-F.Let x e b) _ _ (expr.rolls-Let x e b) (λ items F env w t.
      followed (UpTo a) (UpTo n) _ _ (h items F env w t) (λ v u q. k items F ((x, v) ∷ env) (within env v w q) u))

  pub reaches_if : (c p q : Expr) (a n : ℕ) → Reaches names c a → Reaches names p n → Reaches names q n → Reaches names (expr.If c p q) n
  reaches_if c p q a n hc hp hq = by_form (Expr-F.If c p q) _ _ (expr.rolls-If c p q) (λ items F env w t.
      truth_then (UpTo n) c a items F env t (λ z. if z then mean items F p env else mean items F q env) hc w (λ z u.
      elim z as (λ z. NoFault (UpTo n) ((if z then mean items F p env else mean items F q env) u)) [
        | true ↦ hp items F env w u
        | false ↦ hq items F env w u
      ]))

  boolean : (b : Bool) → UpTo 0 (bool b)
  boolean b = rolled (Value-F.Bool b) 0 (omega arith)

  last_truth : (e : Expr) (n : ℕ) (items : List Item) (F : List Called) (env : Env) (u : ℕ) → Reaches names e n → Within names env → NoFault (UpTo 0) ((truth (mean items F e) env >>= (λ z. pure (bool z))) u)
  last_truth e n items F env u h w = truth_then (UpTo 0) e n items F env u (λ z. pure (bool z)) h w (λ b t. boolean b)

  pub reaches_and : (p q : Expr) (m n : ℕ) → Reaches names p m → Reaches names q n → Reaches names (expr.And p q) 0
  reaches_and p q m n hp hq = by_form (Expr-F.And p q) _ _ (expr.rolls-And p q) (λ items F env w t.
      let other = truth (mean items F q) env >>= (λ u. pure (bool u)) in
      truth_then (UpTo 0) p m items F env t (λ z. if z then other else pure (bool false)) hp w (λ z u.
      elim z as (λ z. NoFault (UpTo 0) ((if z then other else pure (bool false)) u)) [ true ↦ last_truth q n items F env u hq w | false ↦ boolean false ]))

  pub reaches_or : (p q : Expr) (m n : ℕ) → Reaches names p m → Reaches names q n → Reaches names (expr.Or p q) 0
  reaches_or p q m n hp hq = by_form (Expr-F.Or p q) _ _ (expr.rolls-Or p q) (λ items F env w t.
      let other = truth (mean items F q) env >>= (λ u. pure (bool u)) in
      truth_then (UpTo 0) p m items F env t (λ z. if z then pure (bool true) else other) hp w (λ z u.
      elim z as (λ z. NoFault (UpTo 0) ((if z then pure (bool true) else other) u)) [ true ↦ boolean true | false ↦ last_truth q n items F env u hq w ]))

  pub reaches_unary : (op : Unary) (e : Expr) (a n : ℕ) → Reaches names e a → ((v : Value) → UpTo a v → Fine (UpTo n) (unary op v)) → Reaches names (expr.Unary op e) n
  reaches_unary op e a n h k = by_form (Expr-F.Unary op e) _ _ (expr.rolls-Unary op e) (λ items F env w t.
      followed (UpTo a) (UpTo n) _ _ (h items F env w t) (λ v u q. lifted (UpTo n) (unary op v) u (k v q)))

  pub reaches_binary : (op : Binary) (p q : Expr) (a b n : ℕ) → Reaches names p a → Reaches names q b → ((v w : Value) → UpTo a v → UpTo b w → Fine (UpTo n) (binary op v w)) → Reaches names (expr.Binary op p q) n
  reaches_binary op p q a b n hp hq k = by_form (Expr-F.Binary op p q) _ _ (expr.rolls-Binary op p q) (λ items F env w t.
      followed (UpTo a) (UpTo n) _ _ (hp items F env w t) (λ v u x. followed (UpTo b) (UpTo n) _ _ (hq items F env w u) (λ z s y. lifted (UpTo n) (binary op v z) s (k v z x y))))

  pub reaches_at : (e : Expr) (place n : ℕ) → Reaches names e n → Reaches names (expr.At e place) n
  reaches_at e place n h = by_form (Expr-F.At e place) _ _ (expr.rolls-At e place) (λ items F env w t.
      followed (UpTo n) (UpTo n) _ _ (h items F env w t) (λ v u q. lifted (UpTo n) (item place v) u (item_of place v n q)))

  -- all values are there, and each reaches so far at most
  abbrev AreUpTo : ℕ → (done : List Value) → (many : ℕ) → List Value → Type 0
  AreUpTo n done many vs = (ws : List Value) × (vs ≡ done ++ ws) × (length ws ≡ many) × (farthest ws ≤ n)

  each_up_to : (es : List Expr) (n : ℕ) (items : List Item) (F : List Called) (env : Env) (done : List Value) (t : ℕ) → AllReach names es n → Within names env → NoFault (AreUpTo n done (length es)) (all_from done (map (mean items F) es) env t)
  each_up_to [] n items F env done t h w = ([], sym (append-nil done), refl, omega arith)
  each_up_to (e ∷ es) n items F env done t h w =
      followed (UpTo n) (AreUpTo n done (length (e ∷ es))) _ _ (h.0 items F env w t) (λ v u q.
      again v q (all_from (done ++ v ∷ []) (map (mean items F) es) env u) (each_up_to es n items F env (done ++ v ∷ []) u h.1 w))
    where
      again : (v : Value) → UpTo n v → (o : Outcome (List Value × ℕ)) → NoFault (AreUpTo n (done ++ v ∷ []) (length es)) o → NoFault (AreUpTo n done (length (e ∷ es))) o
      again v q (Gives r) p = (v ∷ p.0, p.1 ∙ append_assoc done (v ∷ []) p.0, ap suc p.2, greater_least (reach_of_value v) (farthest p.0) n q p.3)
      again v q (Faults why) p = p
      again v q Stuck p = tt

  pub reaches_tuple : (es : List Expr) (n : ℕ) → AllReach names es n → Reaches names (expr.Tuple es) n
  reaches_tuple es n h = by_form (Expr-F.Tuple es) _ _ (expr.rolls-Tuple es) (λ items F env w t.
      followed (AreUpTo n [] (length es)) (UpTo n) _ _ (each_up_to es n items F env [] t h w) (λ vs u q.
      let e = greatest_extents q.0 in rw q.1 (rolled (Value-F.Tuple q.0) n (let f = q.3 in omega (arith, e, f)))))

  pub reaches_list : (T : Ty) (es : List Expr) (n : ℕ) → AllReach names es n → Reaches names (expr.List T es) (length es)
  reaches_list T es n h = by_form (Expr-F.List T es) _ _ (expr.rolls-List T es) (λ items F env w t.
      followed (AreUpTo n [] (length es)) (UpTo (length es)) _ _ (each_up_to es n items F env [] t h w) (λ vs u q.
      let e = length-map q.0 reach_of_value in rw q.1 (rolled (Value-F.List q.0) (length es) (let f = q.2 in omega (arith, e, f)))))

  pub reaches_map : (k : KeyTy) (T : Ty) → Reaches names (expr.Map k T) 0
  reaches_map k T = by_form (Expr-F.Map k T) _ _ (expr.rolls-Map k T) (λ items F env w t. rolled (Value-F.Map [] []) 0 (omega arith))

  pub reaches_put : (m k e : Expr) (a b c n : ℕ) → Reaches names m a → Reaches names k b → Reaches names e c → ((x y z : Value) → UpTo a x → Fine (UpTo n) (put x y z)) → Reaches names (expr.Put m k e) n
  reaches_put m k e a b c n hm hk he f = by_form (Expr-F.Put m k e) _ _ (expr.rolls-Put m k e) (λ items F env w t.
      followed (UpTo a) (UpTo n) _ _ (hm items F env w t) (λ x u p.
      followed (UpTo b) (UpTo n) _ _ (hk items F env w u) (λ y s q.
      followed (UpTo c) (UpTo n) _ _ (he items F env w s) (λ z r g. lifted (UpTo n) (put x y z) r (f x y z p)))))

  -- ---- names

  pub reaches_name : (x : Name) (n : ℕ) → ((env : Env) (v : Value) → Within names env → looked_up env x ≡ Gives v → UpTo n v) → Reaches names (expr.Name x) n
  reaches_name x n h = by_form (Expr-F.Name x) _ _ (expr.rolls-Name x) (λ items F env w t. lifted (UpTo n) (looked_up env x) t (found env (λ v e. h env v w e)))
    where
      found : (env : Env) → ((v : Value) → looked_up env x ≡ Gives v → UpTo n v) → Fine (UpTo n) (looked_up env x)
      found [] k = tt
      found (b ∷ env) k = elim (cases_Bool (bytes_eq b.0 x)) [
        | inl e ↦ rw e (k b.1 (rw e refl))
        | inr e ↦ rw e (found env (λ v q. k v (rw e q)))
      ]

-- ---- what the code finds

module _ (names : NamesWithReach) where
  -- of an expression that is of this form
  pub reaches_as : (x e : Expr) (a b : ℕ) → x ≡ e → a ≡ b → Reaches names e b → Reaches names x a
  reaches_as x e a b p q h =
      let C : Expr → Type 0 = λ y. Reaches names y a in let D : ℕ → Type 0 = λ n. Reaches names e n in subst C (sym p) (subst D (sym q) h)

  pub some_as : (x e : Expr) (o : Option ℕ) → x ≡ e → IfSome o (Reaches names e) → IfSome o (Reaches names x)
  some_as x e None p h = tt
  some_as x e (Some n) p h = reaches_as x e n n p refl h

  pub some_name : (x : Name) (o : Option ℕ) → IfSome o (NameReaches names x) → IfSome o (Reaches names (expr.Name x))
  some_name x None h = tt
  some_name x (Some n) h = reaches_name names x n h

  pub some_let : (x : Name) (e b : Expr) (name : Bor (List ℕ)) (r : Bor (Unit {0})) (a : ℕ) (o : Option ℕ) → x ≡ name.now → Reaches names e a
      → IfSome o (Reaches (With' name a r names) b) → IfSome o (Reaches names (expr.Let x e b))
  some_let x e b name r a None p h k = tt
  some_let x e b name r a (Some n) p h k = reaches_let names x e b (With' name a r names) a n (λ env v w q. (p, q, w)) h k

  abbrev pub BothReach : Expr → Expr → ℕ → Type 0
  BothReach p q n = Reaches names p n × Reaches names q n

  pub both : (p q : Expr) (a b n : ℕ) → n ≡ greater a b → Reaches names p a → Reaches names q b → BothReach p q n
  both p q a b n e hp hq =
      (reaches_wider names p a n (let g = greater_first a b in omega (arith, e, g)) hp, reaches_wider names q b n (let g = greater_second a b in omega (arith, e, g)) hq)

  pub some_if : (c p q : Expr) (a : ℕ) (o : Option ℕ) → Reaches names c a → IfSome o (BothReach p q) → IfSome o (Reaches names (expr.If c p q))
  some_if c p q a None h k = tt
  some_if c p q a (Some n) h k = reaches_if names c p q a n h k.0 k.1

  all_wider : (es : List Expr) (a b : ℕ) → a ≤ b → AllReach names es a → AllReach names es b
  all_wider [] a b l h = tt
  all_wider (e ∷ es) a b l h = (reaches_wider names e a b l h.0, all_wider es a b l h.1)

  pub all_more : (es : List Expr) (e : Expr) (rest : List Expr) (a b n : ℕ) → es ≡ e ∷ rest → n ≡ greater a b → Reaches names e a → AllReach names rest b → AllReach names es n
  all_more es e rest a b n p q h k =
      let C : List Expr → Type 0 = λ ds. AllReach names ds n in
      subst C (sym p) (reaches_wider names e a n (let g = greater_first a b in omega (arith, q, g)) h, all_wider rest b n (let g = greater_second a b in omega (arith, q, g)) k)

  pub some_tuple : (es : List Expr) (o : Option ℕ) → IfSome o (AllReach names es) → IfSome o (Reaches names (expr.Tuple es))
  some_tuple es None h = tt
  some_tuple es (Some n) h = reaches_tuple names es n h

  pub some_at : (e : Expr) (place : ℕ) (o : Option ℕ) → IfSome o (Reaches names e) → IfSome o (Reaches names (expr.At e place))
  some_at e place None h = tt
  some_at e place (Some n) h = reaches_at names e place n h

  -- a sum that is small enough
  abbrev pub Sum : (a b most : ℕ) → ℕ → Type 0
  Sum a b most n = (n ≡ a + b) × (n ≤ most)

  some_sum : (op : Binary) (p q : Expr) (a b most : ℕ) (o : Option ℕ)
      → ((v w : Value) (n : ℕ) → UpTo a v → UpTo b w → a + b ≤ n → n ≤ most → Fine (UpTo n) (binary op v w))
      → Reaches names p a → Reaches names q b → IfSome o (Sum a b most) → IfSome o (Reaches names (expr.Binary op p q))
  some_sum op p q a b most None f hp hq k = tt
  some_sum op p q a b most (Some n) f hp hq k =
      reaches_binary names op p q a b n hp hq (λ v w x y. f v w n x y (let e = k.0 in omega (arith, e)) k.1)

  pub some_add : (p q : Expr) (a b : ℕ) (o : Option ℕ) → Reaches names p a → Reaches names q b → IfSome o (Sum a b 9223372036854775807) → IfSome o (Reaches names (expr.Binary Add p q))
  some_add p q a b o = some_sum Add p q a b 9223372036854775807 o (λ v w n h k s l. binary_add v w a b n h k s (omega (arith, l)))

  pub some_sub : (p q : Expr) (a b : ℕ) (o : Option ℕ) → Reaches names p a → Reaches names q b → IfSome o (Sum a b 9223372036854775807) → IfSome o (Reaches names (expr.Binary Sub p q))
  some_sub p q a b o = some_sum Sub p q a b 9223372036854775807 o (λ v w n h k s l. binary_sub v w a b n h k s (omega (arith, l)))

  pub some_append : (p q : Expr) (a b : ℕ) (o : Option ℕ) → Reaches names p a → Reaches names q b → IfSome o (Sum a b 65536) → IfSome o (Reaches names (expr.Binary Append p q))
  some_append p q a b o = some_sum Append p q a b 65536 o (λ v w n h k s l. binary_append v w a b n h k s l)

  pub reaches_del : (p q : Expr) (a b : ℕ) → Reaches names p a → Reaches names q b → Reaches names (expr.Binary Del p q) a
  reaches_del p q a b hp hq = reaches_binary names Del p q a b a hp hq (λ v w x y. binary_del v w a x)

  -- the operators whose values are true or false
  abbrev pub IsTest : Binary → Type 0
  IsTest op = (v w : Value) → Fine (UpTo 0) (binary op v w)

  pub reaches_test : (op : Binary) (p q : Expr) (a b : ℕ) → IsTest op → Reaches names p a → Reaches names q b → Reaches names (expr.Binary op p q) 0
  reaches_test op p q a b f hp hq = reaches_binary names op p q a b 0 hp hq (λ v w x y. f v w)

  pub some_put : (m k e : Expr) (a b c : ℕ) (o : Option ℕ) → Reaches names m a → Reaches names k b → Reaches names e c → IfSome o (Sum a 1 4096) → IfSome o (Reaches names (expr.Put m k e))
  some_put m k e a b c None hm hk he s = tt
  some_put m k e a b c (Some n) hm hk he s =
      reaches_put names m k e a b c n hm hk he (λ x y z p. put_up_to x y z a n p (let q = s.0 in omega (arith, q)) s.1)

  pub reaches_not : (e : Expr) (a : ℕ) → Reaches names e a → Reaches names (expr.Unary Not e) 0
  reaches_not e a h = reaches_unary names Not e a 0 h (λ v x. unary_not v)

  pub some_len : (e : Expr) (a : ℕ) (o : Option ℕ) → Reaches names e a → IfSome o (Sum a 0 65536) → IfSome o (Reaches names (expr.Unary Len e))
  some_len e a None h s = tt
  some_len e a (Some n) h s =
      reaches_unary names Len e a n h (λ v x. unary_len v n (let q = s.0 in omega (arith, q, x)) (let l = s.1 in omega (arith, l)))
