-- The faults with places are the faults: those of types, clauses and expressions.
use Rattle.std.proofs.Common.{◌≡◌, ℕ, zero, suc, ◌-◌, Bool, true, false, List, [], ◌∷◌, ◌++◌, map, Option, Some, None, refl, sym, ap, ◌∙◌, append_assoc}
use Rattle.std.proofs.lemmas.List.{map-append}
use Rattle.pst_sexpr.specs.declared.form.Form.{Form}
use Rattle.pst_syntax.specs.declared.fault.FaultKind.{FaultKind}
use Rattle.pst_syntax.specs.declared.fault.FaultKind.TheVariants.{UnknownForm, OverLimit}
use Rattle.pst_syntax.specs.declared.fault.SyntaxFault.{SyntaxFault}
use Rattle.pst_syntax.specs.Items.{in_item}
use Rattle.pst_syntax.specs.Limits.{ty_room}
use Rattle.pst_syntax.specs.Names.{is_used_operation}
use Rattle.pst_syntax.specs.Shape.{Shape, TyShape, ClauseShape, Integer, Truth, Quoted, Used, Let, If, And, Or, Unary, Binary, Tuple, At as ItemAt, ListOf, For, Fold, MapOf, Put, Call, Apply, IntType, BoolType, TextType, CallType, TupleType, ListType, MapType, RefType, InEach, WhenTrue, shape_of, ty_shape, clause_shape}
use Rattle.pst_syntax.specs.Faults.{Part, Declared, Place, Operation, OfType, Expression, Clause, parts, ty_parts, clause_parts, fits, ty_fits, unless, name_faults, place_faults, faults_of, all_faults, none, part_faults, clause_faults, ty_faults, expr_faults}
use Rattle.pst_syntax_problems.specs.declared.fault.Role.{Role}
use Rattle.pst_syntax_problems.specs.declared.fault.Role.TheVariants as role
use Rattle.pst_syntax_problems.specs.declared.fault.FormFault.{FormFault}
use Rattle.pst_syntax_problems.specs.Placed.{below, Spot, role_of, spots_from, spots, ty_spots, clause_spots, placed, unless_at, known_at, all_at, At, none_at, part_at, spot_at, spot_in, clause_faults_at, ty_faults_at, expr_faults_at}
use Rattle.pst_syntax_problems.specs.PlacedModel.{unplaced}
use Rattle.pst_syntax_problems.proofs.Walks.{all_both}

-- faults with places in item `n - 1` are those faults
abbrev pub Same : ℕ → List FormFault → List FaultKind → Type 0
Same n placed kinds = map unplaced placed ≡ map (in_item (n - 1)) kinds

-- ---- steps

pub leaf : (a n : ℕ) (q : List ℕ) (r : Role) (kinds : List FaultKind) → Same n (map (placed (a ∷ n ∷ q) r) kinds) kinds
leaf a n q r [] = refl
leaf a n q r (kind ∷ kinds) = ap (λ more. in_item (n - 1) kind ∷ more) (leaf a n q r kinds)

pub onward : (n : ℕ) (f g : List FormFault) (k m : List FaultKind) → Same n f k → Same n g m → Same n (f ++ g) (k ++ m)
onward n f g k m h i = map-append unplaced f g ∙ ap (λ x. x ++ map unplaced g) h ∙ ap (λ y. map (in_item (n - 1)) k ++ y) i ∙ sym (map-append (in_item (n - 1)) k m)

pub limited : (a n : ℕ) (q : List ℕ) (r : Role) (b : Bool) (kind : FaultKind) (f : List FormFault) (k : List FaultKind) → Same n f k → Same n (unless_at (a ∷ n ∷ q) r b kind f) (unless b kind k)
limited a n q r true kind f k h = h
limited a n q r false kind f k h = ap (λ more. in_item (n - 1) kind ∷ more) h

pub shaped : {S : Type 0} (a n : ℕ) (q : List ℕ) (r : Role) (s : Option S) (f : S → List FormFault) (k : S → List FaultKind) → ((x : S) → Same n (f x) (k x)) → Same n (known_at (a ∷ n ∷ q) r s f) (faults_of s k)
shaped a n q r None f k h = refl
shaped a n q r (Some x) f k h = h x

-- ---- parts

-- what finds the faults of parts in item `n - 1`, with and without their places
abbrev pub SameParts : ℕ → ℕ → (Spot → List FormFault) → (Part → List FaultKind) → Type 0
SameParts a n f p = (q : List ℕ) (r : Role) (part : Part) → Same n (f (record { path = a ∷ n ∷ q; role = r; part = part })) (p part)

pub numbered : (a n : ℕ) (q : List ℕ) (f : Spot → List FormFault) (p : Part → List FaultKind) → SameParts a n f p → (number : ℕ) (ps : List Part) → Same n (all_at f (spots_from (a ∷ n ∷ q) number ps)) (all_faults p ps)
numbered a n q f p h number [] = refl
numbered a n q f p h number (part ∷ ps) =
    onward n (f (record { path = a ∷ n ∷ (q ++ number ∷ []); role = role_of part; part = part })) _ (p part) _
    (h (q ++ number ∷ []) (role_of part) part) (numbered a n q f p h (suc number) ps)

faults_both : (p : Part → List FaultKind) (xs ys : List Part) → all_faults p (xs ++ ys) ≡ all_faults p xs ++ all_faults p ys
faults_both p [] ys = refl
faults_both p (x ∷ xs) ys = ap (λ more. p x ++ more) (faults_both p xs ys) ∙ sym (append_assoc (p x) (all_faults p xs) (all_faults p ys))

-- what finds the faults of trees in item `n - 1`, with and without their places
abbrev pub SameTrees : ℕ → ℕ → At → (Form → List FaultKind) → Type 0
SameTrees a n f k = (q : List ℕ) (r : Role) (form : Form) → Same n (f r (a ∷ n ∷ q) form) (k form)

none_same : (a n : ℕ) → SameTrees a n none_at none
none_same a n q r form = refl

part_same : (a n : ℕ) (c t e : At) (ck tk ek : Form → List FaultKind) → SameTrees a n c ck → SameTrees a n t tk → SameTrees a n e ek → SameParts a n (spot_at c t e) (part_faults ck tk ek)
part_same a n c t e ck tk ek hc ht he q r (Declared is_lawful is_taken word) = leaf a n q r (name_faults is_lawful is_taken word)
part_same a n c t e ck tk ek hc ht he q r (Place word) = leaf a n q r (place_faults word)
part_same a n c t e ck tk ek hc ht he q r (Operation word) = leaf a n q r (unless (is_used_operation word) UnknownForm [])
part_same a n c t e ck tk ek hc ht he q r (OfType form) = ht q r form
part_same a n c t e ck tk ek hc ht he q r (Expression form) = he q r form
part_same a n c t e ck tk ek hc ht he q r (Clause form) = hc q r form

-- ---- clauses and types

clause_same : (a n : ℕ) (has_maps : Bool) (e : At) (ek : Form → List FaultKind) → SameTrees a n e ek → SameTrees a n (clause_faults_at has_maps e) (clause_faults has_maps ek)
clause_same a n has_maps e ek h q r form =
    shaped a n q r (clause_shape form) _ _ (λ shape. numbered a n q (spot_at none_at none_at e) (part_faults none none ek)
    (part_same a n none_at none_at e none none ek (none_same a n) (none_same a n) h) 1 (clause_parts has_maps shape))

ty_spots_same : (a n : ℕ) (q : List ℕ) (f : Spot → List FormFault) (p : Part → List FaultKind) → SameParts a n f p → (shape : TyShape) → Same n (all_at f (ty_spots (a ∷ n ∷ q) shape)) (all_faults p (ty_parts shape))
ty_spots_same a n q f p h IntType = refl
ty_spots_same a n q f p h BoolType = refl
ty_spots_same a n q f p h TextType = refl
ty_spots_same a n q f p h CallType = refl
ty_spots_same a n q f p h (TupleType ts) = numbered a n q f p h 1 (map OfType ts)
ty_spots_same a n q f p h (ListType t) = numbered a n q f p h 1 (OfType t ∷ [])
ty_spots_same a n q f p h (MapType k t) = numbered a n q f p h 2 (OfType t ∷ [])
ty_spots_same a n q f p h (RefType t) = numbered a n q f p h 1 (OfType t ∷ [])

pub ty_same : (a n : ℕ) (has_maps : Bool) (room : ℕ) → SameTrees a n (ty_faults_at has_maps room) (ty_faults has_maps room)
unfolding ty_faults_at ty_faults
ty_same a n has_maps zero q r form = shaped a n q r (ty_shape has_maps form) _ _ (λ shape. refl)
ty_same a n has_maps (suc room) q r form =
    shaped a n q r (ty_shape has_maps form) _ _ (λ shape. limited a n q r (ty_fits shape) OverLimit _ _
    (ty_spots_same a n q (spot_at none_at (λ inner. ty_faults_at has_maps room r) none_at) (part_faults none (ty_faults has_maps room) none)
    (part_same a n none_at (λ inner. ty_faults_at has_maps room r) none_at none (ty_faults has_maps room) none
    (none_same a n) (λ q inner form. ty_same a n has_maps room q r form) (none_same a n)) shape))

-- ---- expressions

spots_same : (a n : ℕ) (has_maps : Bool) (q : List ℕ) (f : Spot → List FormFault) (p : Part → List FaultKind) → SameParts a n f p → (shape : Shape) → Same n (all_at f (spots has_maps (a ∷ n ∷ q) shape)) (all_faults p (parts has_maps shape))
spots_same a n has_maps q f p h (MapOf k t) = numbered a n q f p h 2 (OfType t ∷ [])
spots_same a n has_maps q f p h (For cs b) =
    ap (map unplaced) (all_both f (spots_from (below (a ∷ n ∷ q) 1) 0 (map Clause cs)) (spots_from (a ∷ n ∷ q) 2 (Expression b ∷ [])))
    ∙ onward n (all_at f (spots_from (below (a ∷ n ∷ q) 1) 0 (map Clause cs))) (all_at f (spots_from (a ∷ n ∷ q) 2 (Expression b ∷ []))) (all_faults p (map Clause cs)) (all_faults p (Expression b ∷ []))
    (numbered a n (q ++ 1 ∷ []) f p h 0 (map Clause cs)) (numbered a n q f p h 2 (Expression b ∷ []))
    ∙ ap (map (in_item (n - 1))) (sym (faults_both p (map Clause cs) (Expression b ∷ [])))
spots_same a n has_maps q f p h (ListOf t es) =
    onward n (f (record { path = a ∷ n ∷ (q ++ 1 ∷ []); role = role.ItemType; part = OfType t })) _ (p (OfType t)) _
    (h (q ++ 1 ∷ []) role.ItemType (OfType t)) (numbered a n q f p h 2 (map Expression es))
spots_same a n has_maps q f p h shape = numbered a n q f p h 1 (parts has_maps shape)

pub expr_same : (a n : ℕ) (has_maps : Bool) (room : ℕ) → SameTrees a n (expr_faults_at has_maps room) (expr_faults has_maps room)
unfolding expr_faults_at expr_faults
expr_same a n has_maps zero q r form = shaped a n q r (shape_of has_maps form) _ _ (λ shape. refl)
expr_same a n has_maps (suc room) q r form =
    shaped a n q r (shape_of has_maps form) _ _ (λ shape. limited a n q r (fits shape) OverLimit _ _
    (spots_same a n has_maps q (spot_in has_maps (expr_faults_at has_maps room))
    (part_faults (clause_faults has_maps (expr_faults has_maps room)) (ty_faults has_maps ty_room) (expr_faults has_maps room))
    (part_same a n (clause_faults_at has_maps (expr_faults_at has_maps room)) (ty_faults_at has_maps ty_room) (expr_faults_at has_maps room)
    (clause_faults has_maps (expr_faults has_maps room)) (ty_faults has_maps ty_room) (expr_faults has_maps room)
    (clause_same a n has_maps (expr_faults_at has_maps room) (expr_faults has_maps room) (expr_same a n has_maps room))
    (ty_same a n has_maps ty_room) (expr_same a n has_maps room)) shape))
