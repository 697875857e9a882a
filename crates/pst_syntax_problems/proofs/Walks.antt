-- Walks that add the faults of parts one behind another.
use Rattle.std.proofs.Common.{◌≡◌, ◌≢◌, ℕ, Bool, true, false, suc, ◌+◌, ◌-◌, ◌<◌, ◌≤◌, length, get_or, List, [], ◌∷◌, ◌++◌, map, drop, Option, Some, None, refl, sym, ap, ◌∙◌, append_assoc, arith}
use Rattle.std.specs.Prelude.{◌&&◌}
use Rattle.std.specs.List.{list_any}
use Rattle.std.proofs.Math.ListN.{drop_of_length-le}
use Rattle.std.proofs.Math.Seq.{drop-cons}
use Rattle.pst_sexpr.specs.declared.form.Form.{Form}
use Rattle.pst_syntax.specs.declared.fault.FaultKind.{FaultKind}
use Rattle.pst_syntax.specs.declared.fault.FaultKind.TheVariants.{OverLimit, Missing}
use Rattle.pst_syntax.specs.Shape.{Shape, TyShape, shape_of, ty_shape}
use Rattle.pst_syntax.specs.Faults.{Part, fits, ty_fits}
use Rattle.pst_syntax.specs.ModelFaults.{seen_with}
use Rattle.pst_syntax_problems.specs.Kept.{keep}
use Rattle.pst_syntax_problems.specs.declared.fault.Role.{Role}
use Rattle.pst_syntax_problems.specs.declared.fault.FormFault.{FormFault}
use Rattle.pst_syntax_problems.specs.SeenShapes.{shapes, holds}
use Rattle.pst_syntax_problems.specs.Placed.{below, Spot, role_of, spots_from, spots, ty_spots, known_at, unless_at, all_at, none_at, spot_at, spot_in, ty_faults_at, expr_faults_at}
use Rattle.pst_syntax_problems.proofs.Keeping.{keep_none, keep_both}
use Rattle.pst_syntax_problems.proofs.Levels.{ty_inside, expr_inside}
use Rattle.pst_syntax_problems.proofs.Seen.{shown_more, all_shown}

one_more : (forms : List Form) (i : ℕ) (form : Form) → i < length forms → form ≡ get_or forms i form → drop i forms ≡ form ∷ drop (i + 1) forms
one_more forms i form l is =
    let next : suc i ≡ i + 1 = omega arith in
    drop-cons forms i form l ∙ ap (λ (first : Form). first ∷ drop (suc i) forms) (sym is) ∙ ap (λ (n : ℕ). form ∷ drop n forms) next

none_left : (forms : List Form) (i : ℕ) → length forms ≤ i → drop i forms ≡ []
none_left forms i l = drop_of_length-le forms l

-- one part, and then the others
pub more : (limit : ℕ) (f : Spot → List FormFault) (wrap : Form → Part) (path : List ℕ) (number i : ℕ) (forms : List Form) (form : Form) (start old mid : List FormFault)
    → i < length forms → form ≡ get_or forms i form
    → start ≡ keep limit old (all_at f (spots_from path number (map wrap (drop i forms))))
    → mid ≡ keep limit old (f (record { path = below path number; role = role_of (wrap form); part = wrap form }))
    → start ≡ keep limit mid (all_at f (spots_from path (number + 1) (map wrap (drop (i + 1) forms))))
more limit f wrap path number i forms form start old mid l is h m =
    let rest = drop (i + 1) forms in
    let e = one_more forms i form l is in
    let next : suc number ≡ number + 1 = omega arith in
    h ∙ ap (λ (fs : List Form). keep limit old (all_at f (spots_from path number (map wrap fs)))) e
    ∙ keep_both limit old (f (record { path = below path number; role = role_of (wrap form); part = wrap form })) (all_at f (spots_from path (suc number) (map wrap rest)))
    ∙ ap (λ (now : List FormFault). keep limit now (all_at f (spots_from path (suc number) (map wrap rest)))) (sym m)
    ∙ ap (λ (n : ℕ). keep limit mid (all_at f (spots_from path n (map wrap rest)))) next

-- no more parts
pub ended : (limit : ℕ) (f : Spot → List FormFault) (wrap : Form → Part) (path : List ℕ) (number i : ℕ) (forms : List Form) (start old : List FormFault)
    → length forms ≤ i
    → start ≡ keep limit old (all_at f (spots_from path number (map wrap (drop i forms))))
    → old ≡ start
ended limit f wrap path number i forms start old l h =
    sym (h ∙ ap (λ (fs : List Form). keep limit old (all_at f (spots_from path number (map wrap fs)))) (none_left forms i l) ∙ keep_none limit old)

-- two steps are one
pub both : (limit : ℕ) (old mid new a b : List FormFault) → mid ≡ keep limit old a → new ≡ keep limit mid b → new ≡ keep limit old (a ++ b)
both limit old mid new a b h k = k ∙ ap (λ (now : List FormFault). keep limit now b) h ∙ sym (keep_both limit old a b)

pub both_unless : (limit : ℕ) (path : List ℕ) (r : Role) (b test : Bool) (kind : FaultKind) (rest old mid new : List FormFault)
    → b ≡ test → mid ≡ keep limit old (unless_at path r b kind []) → new ≡ keep limit mid rest → new ≡ keep limit old (unless_at path r test kind rest)
both_unless limit path r b true kind rest old mid new q h k = k ∙ ap (λ (now : List FormFault). keep limit now rest) (h ∙ ap (λ (b : Bool). keep limit old (unless_at path r b kind [])) q ∙ keep_none limit old)
both_unless limit path r b false kind rest old mid new q h k = both limit old mid new (unless_at path r false kind []) rest (h ∙ ap (λ (b : Bool). keep limit old (unless_at path r b kind [])) q) k

pub ty_whole : (limit : ℕ) (maps : Bool) (room : ℕ) (r : Role) (path : List ℕ) (form : Form) (s : TyShape) (b : Bool) (old mid new : List FormFault)
    → room ≢ 0 → ty_shape maps form ≡ Some s → b ≡ ty_fits s
    → mid ≡ keep limit old (unless_at path r b OverLimit [])
    → new ≡ keep limit mid (all_at (spot_at none_at (λ inner. ty_faults_at maps (room - 1) r) none_at) (ty_spots path s))
    → new ≡ keep limit old (ty_faults_at maps room r path form)
ty_whole limit maps room r path form s b old mid new ne e q h k =
    both limit old mid new _ _ (h ∙ ap (λ (b : Bool). keep limit old (unless_at path r b OverLimit [])) q) k ∙ ap (keep limit old) (sym (ty_inside maps room r path form s ne e))

pub expr_whole : (limit : ℕ) (maps : Bool) (room : ℕ) (r : Role) (path : List ℕ) (form : Form) (s : Shape) (b : Bool) (old mid new : List FormFault)
    → room ≢ 0 → shape_of maps form ≡ Some s → b ≡ fits s
    → mid ≡ keep limit old (unless_at path r b OverLimit [])
    → new ≡ keep limit mid (all_at (spot_in maps (expr_faults_at maps (room - 1))) (spots maps path s))
    → new ≡ keep limit old (expr_faults_at maps room r path form)
expr_whole limit maps room r path form s b old mid new ne e q h k =
    both limit old mid new _ _ (h ∙ ap (λ (b : Bool). keep limit old (unless_at path r b OverLimit [])) q) k ∙ ap (keep limit old) (sym (expr_inside maps room r path form s ne e))

pub all_both : (f : Spot → List FormFault) (xs ys : List Spot) → all_at f (xs ++ ys) ≡ all_at f xs ++ all_at f ys
all_both f [] ys = refl
all_both f (x ∷ xs) ys = ap (λ more. f x ++ more) (all_both f xs ys) ∙ sym (append_assoc (f x) (all_at f xs) (all_at f ys))

-- parts, and then a last one
pub with_last : (limit : ℕ) (f : Spot → List FormFault) (xs : List Spot) (y : Spot) (old mid new : List FormFault)
    → mid ≡ keep limit old (all_at f xs) → new ≡ keep limit mid (f y) → new ≡ keep limit old (all_at f (xs ++ y ∷ []))
with_last limit f xs y old mid new h k =
    k ∙ sym (keep_none limit (keep limit mid (f y))) ∙ sym (keep_both limit mid (f y) [])
    ∙ ap (λ (now : List FormFault). keep limit now (f y ++ [])) h ∙ sym (keep_both limit old (all_at f xs) (f y ++ []))
    ∙ ap (keep limit old) (sym (all_both f xs (y ∷ [])))

-- a tree behind others is judged, and then the rest: `all` are the faults of trees behind shapes, from a number on, and `one`
-- those of a shape. The code keeps what it borrows of each tree, and `shown` says which shape that is.
pub next : {A S : Type 0} (shown : A → Option S) (wanted : Role) (shape : Form → Option S) (one : List S → List ℕ → S → List FormFault) (all : List S → ℕ → List Form → List FormFault) (path : List ℕ)
    → ((seen : List S) (number : ℕ) (form : Form) (forms : List Form) → all seen number (form ∷ forms) ≡ known_at (below path number) wanted (shape form) (one seen (below path number)) ++ all (seen_with seen (shape form)) (suc number) forms)
    → (limit number i : ℕ) (forms : List Form) (form : Form) (seen same now : List A) (at : List ℕ) (a : A) (start old mid : List FormFault)
    → i < length forms → form ≡ get_or forms i form
    → start ≡ keep limit old (all (shapes (map shown seen)) number (drop i forms))
    → mid ≡ keep limit old (known_at at wanted (shown a) (one (shapes (map shown same)) at))
    → at ≡ below path number → same ≡ seen → shown a ≡ shape form → now ≡ seen ++ a ∷ []
    → start ≡ keep limit mid (all (shapes (map shown now)) (number + 1) (drop (i + 1) forms))
next {A = A} {S = S} shown wanted shape one all path is_all limit number i forms form seen same now at a start old mid l is h m p s e t =
    let rest = drop (i + 1) forms in
    let before = shapes (map shown seen) in
    let n : suc number ≡ number + 1 = omega arith in
    let first : mid ≡ keep limit old (known_at (below path number) wanted (shape form) (one before (below path number))) =
    m ∙ ap (λ (at : List ℕ). keep limit old (known_at at wanted (shown a) (one (shapes (map shown same)) at))) p
    ∙ ap (λ (seen : List A). keep limit old (known_at (below path number) wanted (shown a) (one (shapes (map shown seen)) (below path number)))) s
    ∙ ap (λ (o : Option S). keep limit old (known_at (below path number) wanted o (one before (below path number)))) e in
    let after : seen_with before (shape form) ≡ shapes (map shown now) =
    sym (ap (λ (xs : List A). shapes (map shown xs)) t ∙ shown_more shown seen a ∙ ap (seen_with before) e) in
    h ∙ ap (λ (fs : List Form). keep limit old (all before number fs)) (one_more forms i form l is)
    ∙ ap (keep limit old) (is_all before number form rest)
    ∙ keep_both limit old (known_at (below path number) wanted (shape form) (one before (below path number))) (all (seen_with before (shape form)) (suc number) rest)
    ∙ ap (λ (faults : List FormFault). keep limit faults (all (seen_with before (shape form)) (suc number) rest)) (sym first)
    ∙ ap (λ (seen : List S). keep limit mid (all seen (suc number) rest)) after
    ∙ ap (λ (k : ℕ). keep limit mid (all (shapes (map shown now)) k rest)) n

-- nothing stands behind
pub last : {S : Type 0} (all : List S → ℕ → List Form → List FormFault) (limit number i : ℕ) (forms : List Form) (seen : List S) (start old : List FormFault)
    → length forms ≤ i → start ≡ keep limit old (all seen number (drop i forms)) → start ≡ keep limit old (all seen number [])
last all limit number i forms seen start old l h = h ∙ ap (λ (fs : List Form). keep limit old (all seen number fs)) (none_left forms i l)

-- nothing stands behind, and three kinds of shapes have to be there
pub complete : {A S : Type 0} (shown : A → Option S) (wanted : Role) (p q r : S → Bool) (all : List S → ℕ → List Form → List FormFault) (path : List ℕ)
    → ((seen : List S) (number : ℕ) → all seen number [] ≡ unless_at path wanted (list_any p seen && list_any q seen && list_any r seen) Missing [])
    → (limit number i : ℕ) (forms : List Form) (seen same : List A) (b : Bool) (start old new : List FormFault)
    → length forms ≤ i
    → start ≡ keep limit old (all (shapes (map shown seen)) number (drop i forms))
    → b ≡ (list_any (λ x. holds p (shown x)) same && list_any (λ x. holds q (shown x)) same && list_any (λ x. holds r (shown x)) same)
    → same ≡ seen
    → new ≡ keep limit old (unless_at path wanted b Missing [])
    → new ≡ start
complete {A = A} shown wanted p q r all path is_all limit number i forms seen same b start old new l h t s k =
    let there : b ≡ (list_any p (shapes (map shown seen)) && list_any q (shapes (map shown seen)) && list_any r (shapes (map shown seen))) =
    t ∙ ap (λ (xs : List A). list_any (λ x. holds p (shown x)) xs && list_any (λ x. holds q (shown x)) xs && list_any (λ x. holds r (shown x)) xs) s
    ∙ sym (all_shown p q r shown seen) in
    k ∙ ap (λ (b : Bool). keep limit old (unless_at path wanted b Missing [])) there
    ∙ ap (keep limit old) (sym (is_all (shapes (map shown seen)) number))
    ∙ sym (last all limit number i forms (shapes (map shown seen)) start old l h)

unless_more : (path : List ℕ) (r : Role) (b : Bool) (kind : FaultKind) (rest more : List FormFault) → unless_at path r b kind rest ++ more ≡ unless_at path r b kind (rest ++ more)
unless_more path r true kind rest more = refl
unless_more path r false kind rest more = refl

-- what functions and operations have alike, and then a last part
pub declared : (limit : ℕ) (path : List ℕ) (r : Role) (kind : FaultKind) (name : Bool → Bool → List FormFault) (params ty rest : List FormFault) (room is_lawful is_taken has_room lawful taken : Bool) (old mid new : List FormFault)
    → room ≡ has_room → is_lawful ≡ lawful → is_taken ≡ taken
    → mid ≡ keep limit old (unless_at path r room kind (name is_lawful is_taken ++ (params ++ ty)))
    → new ≡ keep limit mid rest
    → new ≡ keep limit old (unless_at path r has_room kind (name lawful taken ++ (params ++ (ty ++ rest))))
declared limit path r kind name params ty rest room is_lawful is_taken has_room lawful taken old mid new b f t h k =
    let first = name lawful taken in
    let same : mid ≡ keep limit old (unless_at path r has_room kind (first ++ (params ++ ty))) =
    h ∙ ap (λ (b : Bool). keep limit old (unless_at path r b kind (name is_lawful is_taken ++ (params ++ ty)))) b
    ∙ ap (λ (f : Bool). keep limit old (unless_at path r has_room kind (name f is_taken ++ (params ++ ty)))) f
    ∙ ap (λ (t : Bool). keep limit old (unless_at path r has_room kind (name lawful t ++ (params ++ ty)))) t in
    both limit old mid new (unless_at path r has_room kind (first ++ (params ++ ty))) rest same k
    ∙ ap (keep limit old) (unless_more path r has_room kind (first ++ (params ++ ty)) rest
    ∙ ap (unless_at path r has_room kind) (append_assoc first (params ++ ty) rest ∙ ap (λ more. first ++ more) (append_assoc params ty rest)))
