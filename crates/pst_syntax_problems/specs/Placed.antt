-- All that is wrong with a tree, as `Faults` of pst_syntax says it, each fault with the place of the refused part and with what
-- that part has to be.
use Rattle.std.specs.Prelude.{ℕ, zero, suc, Bool, true, false, List, [], ◌∷◌, ◌++◌, map, Option, Some, None}
use Rattle.pst_sexpr.specs.declared.form.Form.{Form}
use Rattle.pst_syntax.specs.declared.fault.FaultKind.{FaultKind}
use Rattle.pst_syntax.specs.declared.fault.FaultKind.TheVariants.{UnknownForm, OverLimit}
use Rattle.pst_syntax.specs.Names.{is_used_operation}
use Rattle.pst_syntax.specs.Shape.{Shape, TyShape, ClauseShape, ListOf, For, MapOf, MapType, shape_of, ty_shape, clause_shape}
use Rattle.pst_syntax.specs.Faults.{Part, Declared, Place, Operation, OfType, Expression, Clause, parts, ty_parts, clause_parts, fits, ty_fits, unless, name_faults, place_faults}
use Rattle.pst_syntax.specs.Limits.{ty_room}
use Rattle.pst_syntax_problems.specs.declared.fault.Role.{Role}
use Rattle.pst_syntax_problems.specs.declared.fault.Role.TheVariants as role
use Rattle.pst_syntax_problems.specs.declared.fault.FormFault.{FormFault}

-- ---- places

-- the path to part `number` of the tree that a path leads to, from 0
abbrev pub below : List ℕ → ℕ → List ℕ
below path number = path ++ number ∷ []

-- a part, with its path and with what it has to be
pub record Spot : Type 0 where
  pub path : List ℕ
  pub role : Role
  pub part : Part

abbrev pub role_of : Part → Role
role_of (Declared is_lawful is_taken word) = role.Name
role_of (Place word) = role.Place
role_of (Operation word) = role.Operation
role_of (OfType form) = role.Type
role_of (Expression form) = role.Expression
role_of (Clause form) = role.Clause

-- parts that stand one behind another in a tree, the first of them as its part `number`
abbrev pub spots_from : List ℕ → ℕ → List Part → List Spot
spots_from path number [] = []
spots_from path number (part ∷ more) =
    record { path = below path number; role = role_of part; part = part } ∷ spots_from path (suc number) more

-- the parts of each form stand behind its head, one behind another, but: the type of a map's keys is no part, and the clauses
-- of a comprehension stand in a tree of their own
abbrev pub spots : Bool → List ℕ → Shape → List Spot
spots has_maps path (MapOf k t) = spots_from path 2 (OfType t ∷ [])
spots has_maps path (For cs b) =
    spots_from (below path 1) 0 (map Clause cs) ++ spots_from path 2 (Expression b ∷ [])
spots has_maps path (ListOf t es) =
    record { path = below path 1; role = role.ItemType; part = OfType t }
    ∷ spots_from path 2 (map Expression es)
spots has_maps path shape = spots_from path 1 (parts has_maps shape)

abbrev pub ty_spots : List ℕ → TyShape → List Spot
ty_spots path (MapType k t) = spots_from path 2 (OfType t ∷ [])
ty_spots path shape = spots_from path 1 (ty_parts shape)

abbrev pub clause_spots : Bool → List ℕ → ClauseShape → List Spot
clause_spots has_maps path shape = spots_from path 1 (clause_parts has_maps shape)

-- ---- faults with their places

abbrev pub placed : List ℕ → Role → FaultKind → FormFault
placed path wanted kind = record { kind = kind; path = path; role = wanted }

-- one fault unless the test holds, and then the rest
abbrev pub unless_at : List ℕ → Role → Bool → FaultKind → List FormFault → List FormFault
unless_at path wanted true kind rest = rest
unless_at path wanted false kind rest = placed path wanted kind ∷ rest

-- the faults of what stands there, where some form of the tables does
abbrev pub known_at : {S : Type 0} → List ℕ → Role → Option S → (S → List FormFault) → List FormFault
known_at path wanted None f = placed path wanted UnknownForm ∷ []
known_at path wanted (Some shape) f = f shape

-- the faults of all, from left to right
abbrev pub all_at : {A : Type 0} → (A → List FormFault) → List A → List FormFault
all_at f [] = []
all_at f (a ∷ more) = f a ++ all_at f more

-- the faults of a tree at a path, which has to be what the role says
abbrev pub At : Type 0
At = Role → List ℕ → Form → List FormFault

abbrev pub none_at : At
none_at wanted path form = []

-- the faults of a part at its place, from those of clauses, types and expressions
abbrev pub part_at : At → At → At → List ℕ → Role → Part → List FormFault
part_at c t e path wanted (Declared is_lawful is_taken word) =
    map (placed path wanted) (name_faults is_lawful is_taken word)
part_at c t e path wanted (Place word) = map (placed path wanted) (place_faults word)
part_at c t e path wanted (Operation word) =
    map (placed path wanted) (unless (is_used_operation word) UnknownForm [])
part_at c t e path wanted (OfType form) = t wanted path form
part_at c t e path wanted (Expression form) = e wanted path form
part_at c t e path wanted (Clause form) = c wanted path form

abbrev pub spot_at : At → At → At → Spot → List FormFault
spot_at c t e spot = part_at c t e spot.path spot.role spot.part

abbrev pub clause_faults_at : Bool → At → At
clause_faults_at has_maps e wanted path form =
    known_at path wanted (clause_shape form)
    (λ shape. all_at (spot_at none_at none_at e) (clause_spots has_maps path shape))

-- the types in a type have its role
unfoldable pub ty_faults_at : Bool → ℕ → At
ty_faults_at has_maps zero wanted path form =
    known_at path wanted (ty_shape has_maps form) (λ shape. placed path role.DeepType OverLimit ∷ [])
ty_faults_at has_maps (suc room) wanted path form =
    known_at path wanted (ty_shape has_maps form)
    (λ shape. unless_at path wanted (ty_fits shape) OverLimit
    (all_at (spot_at none_at (λ inner. ty_faults_at has_maps room wanted) none_at) (ty_spots path shape)))

-- the faults of a part of an expression, from those of the expressions in it; a type in it starts anew
abbrev pub spot_in : Bool → At → Spot → List FormFault
spot_in has_maps e = spot_at (clause_faults_at has_maps e) (ty_faults_at has_maps ty_room) e

unfoldable pub expr_faults_at : Bool → ℕ → At
expr_faults_at has_maps zero wanted path form =
    known_at path wanted (shape_of has_maps form) (λ shape. placed path role.DeepExpression OverLimit ∷ [])
expr_faults_at has_maps (suc room) wanted path form =
    known_at path wanted (shape_of has_maps form)
    (λ shape. unless_at path wanted (fits shape) OverLimit
    (all_at (spot_in has_maps (expr_faults_at has_maps room)) (spots has_maps path shape)))
