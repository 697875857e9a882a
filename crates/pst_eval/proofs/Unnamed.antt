-- An expression in which a name does not stand means the same whatever the name is bound to.
use Rattle.std.proofs.Common.{◌≡◌, ◌||◌, Bool, true, false, List, [], ◌∷◌, ◌++◌, map, refl, sym, ap, ◌∙◌, subst}
use Rattle.std.specs.Prelude.{reverse, if◌then◌else◌}
use Rattle.std.specs.List.{list_any}
use Rattle.std.specs.Str.{bytes_eq}
use Rattle.pst_eval.proofs.Naming.{or_first, or_second}
use Rattle.pst_eval.specs.Names.{one_of_them, names_at, clause_names_at, names, clause_names}
use Rattle.pst_eval.specs.Callbacks.{at_names, max_turns}
use Rattle.pst_eval.specs.Meaning.{Env, Called, called, Mean, Part, Run, part_at, mean_at, mean, part, looked_up, lift, truth, all, all_from, visit, visit_each, fold_over, ◌>>=◌, ◌>>◌}
use Rattle.pst_model.specs.Parts.{Name}
use Rattle.pst_model.specs.declared.expr.Clause.{Clause, Clause-F, map-Clause, fold-roll-Clause}
use Rattle.pst_model.specs.declared.expr.Expr.{Expr, Expr-F, map-Expr, fold-roll-Expr, ind-Expr}
use Rattle.pst_model.specs.declared.model.Item.{Item}
use Rattle.pst_model.specs.declared.model.Source.{Source}
use Rattle.pst_operators.specs.Operators.{items_of, truth_of}
use Rattle.pst_operators.specs.Outcome.{Gives, turn}
use Rattle.pst_model.specs.WellTyped.{name_r}
use Rattle.pst_value.specs.declared.value.Value.{Value}

seq : {A B : Type 0} (p q : Run A) (f g : A → Run B) → p ≡ q → ((a : A) → f a ≡ g a) → (p >>= f) ≡ (q >>= g)
seq p q f g h k = λ i. (h i >>= (λ a. k a i))

chosen : {A : Type 0} (t : Bool) (a b c d : A) → a ≡ c → b ≡ d → (if t then a else b) ≡ (if t then c else d)
chosen true a b c d h k = h
chosen false a b c d h k = k

module _ (name : Name) where
  -- the environments have the same values for all other names
  abbrev Agree : Env → Env → Type 0
  Agree env other = (x : Name) → bytes_eq name x ≡ false → looked_up env x ≡ looked_up other x

  agree_more : (env other : Env) (x : Name) (v : Value) → Agree env other → Agree ((x, v) ∷ env) ((x, v) ∷ other)
  agree_more env other x v h y n = chosen (bytes_eq x y) _ _ _ _ refl (h y n)

  abbrev Same : Mean → Type 0
  Same e = (env other : Env) → Agree env other → e env ≡ e other

  abbrev SamePart : Part → Type 0
  SamePart (Clause-F.In x e) = Same e
  SamePart (Clause-F.When e) = Same e

  abbrev AllSame : List Mean → Type 0
  AllSame [] = Unit {0}
  AllSame (e ∷ es) = Same e × AllSame es

  abbrev PartsSame : List Part → Type 0
  PartsSame [] = Unit {0}
  PartsSame (c ∷ cs) = SamePart c × PartsSame cs

  truth_same : (e : Mean) → Same e → (env other : Env) → Agree env other → truth e env ≡ truth e other
  truth_same e h env other agree = seq (e env) (e other) _ _ (h env other agree) (λ v. refl)

  all_same : (done : List Value) (es : List Mean) → AllSame es → (env other : Env) → Agree env other → all_from done es env ≡ all_from done es other
  all_same done [] h env other agree = refl
  all_same done (e ∷ es) h env other agree = seq (e env) (e other) _ _ (h.0 env other agree) (λ v. all_same (done ++ v ∷ []) es h.1 env other agree)

  each_same : (rest : Env → List Value → Run (List Value)) (x : Name) → ((env other : Env) (built : List Value) → Agree env other → rest env built ≡ rest other built)
      → (env other : Env) → Agree env other → (vs built : List Value) → visit_each rest x env vs built ≡ visit_each rest x other vs built
  each_same rest x h env other agree [] built = refl
  each_same rest x h env other agree (v ∷ vs) built =
      seq (turn >> rest ((x, v) ∷ env) built) (turn >> rest ((x, v) ∷ other) built) (visit_each rest x env vs) (visit_each rest x other vs)
      (ap (λ r. turn >> r) (h ((x, v) ∷ env) ((x, v) ∷ other) built (agree_more env other x v agree)))
      (λ more. each_same rest x h env other agree vs more)

  visit_same : (cs : List Part) (body : Mean) → PartsSame cs → Same body → (env other : Env) (built : List Value) → Agree env other → visit cs body env built ≡ visit cs body other built
  visit_same [] body h b env other built agree = seq (body env) (body other) _ _ (b env other agree) (λ v. refl)
  visit_same (Clause-F.In x e ∷ cs) body h b env other built agree =
      seq (e env) (e other) _ _ (h.0 env other agree) (λ v.
      seq (lift (items_of v)) (lift (items_of v)) _ _ refl (λ vs. each_same (visit cs body) x (λ s t more a. visit_same cs body h.1 b s t more a) env other agree vs built))
  visit_same (Clause-F.When e ∷ cs) body h b env other built agree =
      seq (e env) (e other) _ _ (h.0 env other agree) (λ v.
      seq (lift (truth_of v)) (lift (truth_of v)) _ _ refl (λ t. chosen t _ _ _ _ (visit_same cs body h.1 b env other built agree) refl))

  fold_same : (body : Mean) (x acc : Name) → Same body → (env other : Env) → Agree env other → (vs : List Value) (built : Value) → fold_over body x acc env vs built ≡ fold_over body x acc other vs built
  fold_same body x acc h env other agree [] built = refl
  fold_same body x acc h env other agree (v ∷ vs) built =
      seq (turn >> body ((acc, built) ∷ (x, v) ∷ env)) (turn >> body ((acc, built) ∷ (x, v) ∷ other)) (fold_over body x acc env vs) (fold_over body x acc other vs)
      (ap (λ r. turn >> r) (h ((acc, built) ∷ (x, v) ∷ env) ((acc, built) ∷ (x, v) ∷ other) (agree_more ((x, v) ∷ env) ((x, v) ∷ other) acc built (agree_more env other x v agree))))
      (λ more. fold_same body x acc h env other agree vs more)

  module _ (items : List Item) (F : List Called) where
    abbrev Ignores : Expr → Type 0
    Ignores e = names name e ≡ false → Same (mean items F e)

    abbrev ClauseIgnores : Clause → Type 0
    ClauseIgnores c = clause_names name c ≡ false → SamePart (part items F c)

    abbrev AnExpr : Type 0
    AnExpr = (e : Expr) × Ignores e

    abbrev AClause : Type 0
    AClause = (c : Clause) × ClauseIgnores c

    abbrev means : List AnExpr → List Mean
    means es = map (mean items F) (map (λ e. e.0) es)

    abbrev parts : List AClause → List Part
    parts cs = map (part items F) (map (λ c. c.0) cs)

    exprs_same : (es : List AnExpr) → list_any one_of_them (map (names name) (map (λ e. e.0) es)) ≡ false → AllSame (map (mean items F) (map (λ e. e.0) es))
    exprs_same [] n = tt
    exprs_same (e ∷ es) n =
        let rest = list_any one_of_them (map (names name) (map (λ x. x.0) es)) in
        (e.1 (or_first (names name e.0) rest n), exprs_same es (or_second (names name e.0) rest n))

    parts_same : (cs : List AClause) → list_any one_of_them (map (clause_names name) (map (λ c. c.0) cs)) ≡ false → PartsSame (map (part items F) (map (λ c. c.0) cs))
    parts_same [] n = tt
    parts_same (c ∷ cs) n = (c.1 (or_first _ _ n), parts_same cs (or_second _ _ n))

    abbrev plain : Expr-F AClause AnExpr → Expr-F Clause Expr
    plain y = map-Expr AClause AnExpr Clause Expr (λ c. c.0) (λ e. e.0) y

    abbrev named : Expr-F Clause Expr → Bool
    named x = names_at name (map-Expr Clause Expr Bool Bool (clause_names name) (names name) x)

    abbrev meant : Expr-F Clause Expr → Mean
    meant x = mean_at items F (map-Expr Clause Expr Part Mean (part items F) (mean items F) x)

    abbrev LayerIgnores : Expr-F Clause Expr → Type 0
    LayerIgnores x = named x ≡ false → Same (meant x)

    layer_same : (y : Expr-F AClause AnExpr) → LayerIgnores (plain y)
    layer_same (Expr-F.Int k) n env other a = refl
    layer_same (Expr-F.Bool b) n env other a = refl
    layer_same (Expr-F.Text t) n env other a = refl
    layer_same (Expr-F.Name x) n env other a = ap lift (a x n)
    layer_same (Expr-F.Let x e b) n env other a =
        seq (mean items F e.0 env) (mean items F e.0 other) _ _ (e.1 (or_first _ _ n) env other a) (λ v. b.1 (or_second _ _ n) ((x, v) ∷ env) ((x, v) ∷ other) (agree_more env other x v a))
    layer_same (Expr-F.If c p q) n env other a =
        let rest = or_second (names name c.0) (names name p.0 || names name q.0) n in
        seq (truth (mean items F c.0) env) (truth (mean items F c.0) other) _ _ (truth_same (mean items F c.0) (c.1 (or_first _ _ n)) env other a)
        (λ t. chosen t _ _ _ _ (p.1 (or_first (names name p.0) (names name q.0) rest) env other a) (q.1 (or_second (names name p.0) (names name q.0) rest) env other a))
    layer_same (Expr-F.And p q) n env other a =
        seq (truth (mean items F p.0) env) (truth (mean items F p.0) other) _ _ (truth_same (mean items F p.0) (p.1 (or_first _ _ n)) env other a)
        (λ t. chosen t _ _ _ _ (seq (truth (mean items F q.0) env) (truth (mean items F q.0) other) _ _ (truth_same (mean items F q.0) (q.1 (or_second _ _ n)) env other a) (λ u. refl)) refl)
    layer_same (Expr-F.Or p q) n env other a =
        seq (truth (mean items F p.0) env) (truth (mean items F p.0) other) _ _ (truth_same (mean items F p.0) (p.1 (or_first _ _ n)) env other a)
        (λ t. chosen t _ _ _ _ refl (seq (truth (mean items F q.0) env) (truth (mean items F q.0) other) _ _ (truth_same (mean items F q.0) (q.1 (or_second _ _ n)) env other a) (λ u. refl)))
    layer_same (Expr-F.Unary operator e) n env other a = seq (mean items F e.0 env) (mean items F e.0 other) _ _ (e.1 n env other a) (λ v. refl)
    layer_same (Expr-F.Binary operator p q) n env other a =
        seq (mean items F p.0 env) (mean items F p.0 other) _ _ (p.1 (or_first _ _ n) env other a)
        (λ v. seq (mean items F q.0 env) (mean items F q.0 other) _ _ (q.1 (or_second _ _ n) env other a) (λ w. refl))
    layer_same (Expr-F.Tuple es) n env other a = seq (all (means es) env) (all (means es) other) _ _ (all_same [] (means es) (exprs_same es n) env other a) (λ vs. refl)
    layer_same (Expr-F.At e place) n env other a = seq (mean items F e.0 env) (mean items F e.0 other) _ _ (e.1 n env other a) (λ v. refl)
    layer_same (Expr-F.List type es) n env other a = seq (all (means es) env) (all (means es) other) _ _ (all_same [] (means es) (exprs_same es n) env other a) (λ vs. refl)
    layer_same (Expr-F.For clauses b) n env other a =
        let given = list_any one_of_them (map (clause_names name) (map (λ c. c.0) clauses)) in
        seq (visit (parts clauses) (mean items F b.0) env []) (visit (parts clauses) (mean items F b.0) other []) _ _
        (visit_same (parts clauses) (mean items F b.0) (parts_same clauses (or_first given (names name b.0) n)) (b.1 (or_second given (names name b.0) n)) env other [] a) (λ vs. refl)
    layer_same (Expr-F.Fold x e acc i b) n env other a =
        let rest = or_second (names name e.0) (names name i.0 || names name b.0) n in
        seq (mean items F e.0 env) (mean items F e.0 other) _ _ (e.1 (or_first _ _ n) env other a) (λ v.
        seq (lift (items_of v)) (lift (items_of v)) _ _ refl (λ vs.
        seq (mean items F i.0 env) (mean items F i.0 other) _ _ (i.1 (or_first (names name i.0) (names name b.0) rest) env other a) (λ built. fold_same (mean items F b.0) x acc (b.1 (or_second (names name i.0) (names name b.0) rest)) env other a vs built)))
    layer_same (Expr-F.Map k t) n env other a = refl
    layer_same (Expr-F.Put m k v) n env other a =
        let rest = or_second (names name m.0) (names name k.0 || names name v.0) n in
        seq (mean items F m.0 env) (mean items F m.0 other) _ _ (m.1 (or_first _ _ n) env other a) (λ x.
        seq (mean items F k.0 env) (mean items F k.0 other) _ _ (k.1 (or_first (names name k.0) (names name v.0) rest) env other a) (λ y.
        seq (mean items F v.0 env) (mean items F v.0 other) _ _ (v.1 (or_second (names name k.0) (names name v.0) rest) env other a) (λ z. refl)))
    layer_same (Expr-F.Call x es) n env other a = seq (all (means es) env) (all (means es) other) _ _ (all_same [] (means es) (exprs_same es n) env other a) (λ vs. refl)
    layer_same (Expr-F.Apply f es) n env other a = seq (all (means es) env) (all (means es) other) _ _ (all_same [] (means es) (exprs_same es n) env other a) (λ vs. refl)

    abbrev PlainPart : Clause-F AClause AnExpr → Clause-F Clause Expr
    PlainPart y = map-Clause AClause AnExpr Clause Expr (λ c. c.0) (λ e. e.0) y

    abbrev PartLayer : Clause-F Clause Expr → Type 0
    PartLayer x =
        clause_names_at (map-Clause Clause Expr Bool Bool (clause_names name) (names name) x) ≡ false
        → SamePart (part_at (map-Clause Clause Expr Part Mean (part items F) (mean items F) x))

    part_layer : (y : Clause-F AClause AnExpr) → PartLayer (PlainPart y)
    part_layer (Clause-F.In x e) n = e.1 n
    part_layer (Clause-F.When e) n = e.1 n

    pub ignores : (e : Expr) → Ignores e
    ignores = ind-Expr ClauseIgnores Ignores
        (λ x y is n. subst SamePart (sym (fold-roll-Clause Part Mean part_at (mean_at items F) x)) (subst PartLayer is (part_layer y) (sym (fold-roll-Clause Bool Bool clause_names_at (names_at name) x) ∙ n)))
        (λ x y is n. subst Same (sym (fold-roll-Expr Part Mean part_at (mean_at items F) x)) (subst LayerIgnores is (layer_same y) (sym (fold-roll-Expr Bool Bool clause_names_at (names_at name) x) ∙ n)))

-- whatever the result is
pub ignores_result : (m : Source) (e : Expr) → names name_r e ≡ false → (env : Env) (v w : Value) → at_names m e ((name_r, v) ∷ env) ≡ at_names m e ((name_r, w) ∷ env)
unfolding at_names
ignores_result m e n env v w =
    ap (λ f. f max_turns)
    (ignores name_r m.items (called m.items (reverse m.items)) e n ((name_r, v) ∷ env) ((name_r, w) ∷ env)
    (λ x other. ap (λ b. if b then Gives v else looked_up env x) other ∙ sym (ap (λ b. if b then Gives w else looked_up env x) other)))
