-- What stands in a model that was read.
use Rattle.std.proofs.Common.{◌≡◌, ℕ, ◌+◌, ◌≤◌, ◌<◌, Bool, true, false, List, [], ◌∷◌, ◌++◌, length, Option, Some, None, Result, Ok, Err, refl, sym, ap, ◌∙◌, arith, subst}
use Rattle.std.specs.Prelude.{nat_lt, ◌&&◌, cond}
use Rattle.std.specs.List.{count_by, list_any}
use Rattle.std.proofs.lemmas.Bool.Decides.{nat_tests}
use Rattle.std.proofs.lemmas.Grind.{common_steps}
use Rattle.std.proofs.lemmas.List.Sums.{sum_by-append}
use Rattle.pst_sexpr.specs.declared.form.Form.{Form}
use Rattle.pst_value.specs.declared.ty.Ty.{Ty}
use Rattle.pst_model.specs.declared.expr.Expr.{Expr}
use Rattle.pst_model.specs.declared.model.Item.{Item}
use Rattle.pst_model.specs.declared.model.Item.TheVariants as item
use Rattle.pst_model.specs.declared.model.Fun.{Fun}
use Rattle.pst_model.specs.declared.model.Op.{Op}
use Rattle.pst_model.specs.declared.model.Source.{Source}
use Rattle.pst_syntax.specs.declared.fault.SyntaxFault.{SyntaxFault}
use Rattle.pst_syntax.specs.ItemShape.{ItemShape, ModelShape, StateItem, InitItem, CommandItem, FunItem, OpItem, item_shape}
use Rattle.pst_syntax.specs.Reading.{Read, ◌>>=◌, known, within, once}
use Rattle.pst_syntax.specs.Items.{is_state, is_init, is_command, is_fun, is_op, has_room, whole_ty, whole_expr, fun_of, op_parts, item_parts, item_of, at_item, go_on, items_from, is_complete, complete, head_of_model, model_of, IsModel, HasItems}

-- ---- what stands behind an answer

abbrev pub Same : {A : Type 0} → Read A → Read A → Type 0
Same r q = r ≡ q

pub bind_ok : {A B : Type 0} (r : Read A) (f : A → Read B) (b : B) → (r >>= f) ≡ Ok b → (a : A) × (r ≡ Ok a) × (f a ≡ Ok b)
bind_ok (Ok a) f b e = (a, refl, e)
bind_ok (Err kind) f b e = absurd (cc)

pub known_ok : {S A : Type 0} (shape : Option S) (f : S → Read A) (a : A) → known shape f ≡ Ok a → (s : S) × (shape ≡ Some s) × (f s ≡ Ok a)
known_ok None f a e = absurd (cc)
known_ok (Some s) f a e = (s, refl, e)

pub within_ok : {A : Type 0} (b : Bool) (r : Read A) (a : A) → within b r ≡ Ok a → (b ≡ true) × (r ≡ Ok a)
within_ok true r a e = (refl, e)
within_ok false r a e = absurd (cc)

pub once_ok : {A : Type 0} (b : Bool) (r : Read A) (a : A) → once b r ≡ Ok a → (b ≡ false) × (r ≡ Ok a)
once_ok true r a e = absurd (cc)
once_ok false r a e = (refl, e)

pub go_ok : {A B : Type 0} (r : Result A SyntaxFault) (f : A → Result B SyntaxFault) (b : B) → go_on r f ≡ Ok b → (a : A) × (r ≡ Ok a) × (f a ≡ Ok b)
go_ok (Ok a) f b e = (a, refl, e)
go_ok (Err fault) f b e = absurd (cc)

pub at_ok : {A : Type 0} (number : ℕ) (r : Read A) (a : A) → at_item number r ≡ Ok a → r ≡ Ok a
at_ok number (Ok b) a e = cc
at_ok number (Err kind) a e = absurd (cc)

pub okay : {A : Type 0} (a b : A) → Same (Ok a) (Ok b) → a ≡ b
okay a b e = cc

-- ---- counting

count_more : (p : Item → Bool) (seen : List Item) (i : Item) → count_by p (seen ++ i ∷ []) ≡ count_by p seen + count_by p (i ∷ [])
count_more p seen i = sum_by-append (λ x. cond (p x) 1 0) seen (i ∷ [])

none_counted : (p : Item → Bool) (items : List Item) → list_any p items ≡ false → count_by p items ≡ 0
none_counted p [] e = refl
none_counted p (i ∷ items) e = grind (arith, common_steps, none_counted p items)

some_counted : (p : Item → Bool) (items : List Item) → list_any p items ≡ true → 1 ≤ count_by p items
some_counted p [] e = absurd (cc)
some_counted p (i ∷ items) e = grind (arith, common_steps, some_counted p items)

-- the items that were read so far
record Bounded (items : List Item) : Type 0 where
  state : count_by is_state items ≤ 1
  init : count_by is_init items ≤ 1
  command : count_by is_command items ≤ 1
  functions : count_by is_fun items ≤ 64
  operations : count_by is_op items ≤ 64

-- which items may come next
record MayFollow (items : List Item) (i : Item) : Type 0 where
  state : count_by is_state items + count_by is_state (i ∷ []) ≤ 1
  init : count_by is_init items + count_by is_init (i ∷ []) ≤ 1
  command : count_by is_command items + count_by is_command (i ∷ []) ≤ 1
  functions : count_by is_fun items + count_by is_fun (i ∷ []) ≤ 64
  operations : count_by is_op items + count_by is_op (i ∷ []) ≤ 64

follows : (items : List Item) (i : Item) → MayFollow items i → Bounded (items ++ i ∷ [])
follows items i m = record {
  state = omega (arith, count_more is_state items i, m.state);
  init = omega (arith, count_more is_init items i, m.init);
  command = omega (arith, count_more is_command items i, m.command);
  functions = omega (arith, count_more is_fun items i, m.functions);
  operations = omega (arith, count_more is_op items i, m.operations);
}

state_follows : (items : List Item) (t : Ty) → Bounded items → count_by is_state items ≡ 0 → MayFollow items (item.State t)
state_follows items t b z = record { state = omega arith; init = omega arith; command = omega arith; functions = omega arith; operations = omega arith }

init_follows : (items : List Item) (e : Expr) → Bounded items → count_by is_init items ≡ 0 → MayFollow items (item.Init e)
init_follows items e b z = record { state = omega arith; init = omega arith; command = omega arith; functions = omega arith; operations = omega arith }

command_follows : (items : List Item) (e : Expr) → Bounded items → count_by is_command items ≡ 0 → MayFollow items (item.Command e)
command_follows items e b z = record { state = omega arith; init = omega arith; command = omega arith; functions = omega arith; operations = omega arith }

fun_follows : (items : List Item) (f : Fun) → Bounded items → count_by is_fun items < 64 → MayFollow items (item.Fun f)
fun_follows items f b z = record { state = omega arith; init = omega arith; command = omega arith; functions = omega arith; operations = omega arith }

op_follows : (items : List Item) (o : Op) → Bounded items → count_by is_op items < 64 → MayFollow items (item.Op o)
op_follows items o b z = record { state = omega arith; init = omega arith; command = omega arith; functions = omega arith; operations = omega arith }

room_is : (number : ℕ) → nat_lt number 64 ≡ true → number < 64
room_is number e = grind (arith, nat_tests)

-- an item that was read may follow those before it
parts_follow : (maps : Bool) (seen : List Item) (shape : ItemShape) (i : Item) → Bounded seen → item_parts maps seen shape ≡ Ok i → MayFollow seen i
parts_follow maps seen (StateItem t) i b e =
    let p = once_ok (list_any is_state seen) (whole_ty maps t >>= (λ t. Ok (item.State t))) i e in
    let q = bind_ok (whole_ty maps t) (λ t. Ok (item.State t)) i p.1 in
    let r : item.State q.0 ≡ i = okay (item.State q.0) i q.2 in
    subst (MayFollow seen) r (state_follows seen q.0 b (none_counted is_state seen p.0))
parts_follow maps seen (InitItem t) i b e =
    let p = once_ok (list_any is_init seen) (whole_expr maps t >>= (λ t. Ok (item.Init t))) i e in
    let q = bind_ok (whole_expr maps t) (λ t. Ok (item.Init t)) i p.1 in
    let r : item.Init q.0 ≡ i = okay (item.Init q.0) i q.2 in
    subst (MayFollow seen) r (init_follows seen q.0 b (none_counted is_init seen p.0))
parts_follow maps seen (CommandItem t) i b e =
    let p = once_ok (list_any is_command seen) (whole_expr maps t >>= (λ t. Ok (item.Command t))) i e in
    let q = bind_ok (whole_expr maps t) (λ t. Ok (item.Command t)) i p.1 in
    let r : item.Command q.0 ≡ i = okay (item.Command q.0) i q.2 in
    subst (MayFollow seen) r (command_follows seen q.0 b (none_counted is_command seen p.0))
parts_follow maps seen (FunItem is_post x ps t body) i b e =
    let p = within_ok (has_room is_fun seen) (fun_of maps is_post seen x ps t body >>= (λ f. Ok (item.Fun f))) i e in
    let q = bind_ok (fun_of maps is_post seen x ps t body) (λ f. Ok (item.Fun f)) i p.1 in
    let r : item.Fun q.0 ≡ i = okay (item.Fun q.0) i q.2 in
    subst (MayFollow seen) r (fun_follows seen q.0 b (room_is (count_by is_fun seen) p.0))
parts_follow maps seen (OpItem x ps t callbacks) i b e =
    let p = within_ok (has_room is_op seen) (op_parts maps seen x ps t callbacks >>= (λ o. Ok (item.Op o))) i e in
    let q = bind_ok (op_parts maps seen x ps t callbacks) (λ o. Ok (item.Op o)) i p.1 in
    let r : item.Op q.0 ≡ i = okay (item.Op q.0) i q.2 in
    subst (MayFollow seen) r (op_follows seen q.0 b (room_is (count_by is_op seen) p.0))

item_follows : (maps : Bool) (seen : List Item) (form : Form) (i : Item) → Bounded seen → item_of maps seen form ≡ Ok i → Bounded (seen ++ i ∷ [])
unfolding item_of
item_follows maps seen form i b e =
    let p = known_ok (item_shape form) (item_parts maps seen) i e in
    follows seen i (parts_follow maps seen p.0 i b p.2)

all_bounded : (maps : Bool) (seen : List Item) (forms : List Form) (items : List Item) → Bounded seen → items_from maps seen forms ≡ Ok items → Bounded items
all_bounded maps seen [] items b e = let r : seen ≡ items = cc in subst Bounded r b
all_bounded maps seen (form ∷ forms) items b e =
    let p = go_ok (at_item (length seen + 1) (item_of maps seen form)) (λ i. items_from maps (seen ++ i ∷ []) forms) items e in
    all_bounded maps (seen ++ p.0 ∷ []) forms items (item_follows maps seen form p.0 b (at_ok (length seen + 1) (item_of maps seen form) p.0 p.1)) p.2

nothing : Bounded []
nothing = record { state = omega arith; init = omega arith; command = omega arith; functions = omega arith; operations = omega arith }

both : (a b : Bool) → (a && b) ≡ true → (a ≡ true) × (b ≡ true)
both true b e = (refl, e)
both false b e = absurd (cc)

has : (items : List Item) → Bounded items → is_complete items ≡ true → HasItems items
has items b e =
    let p = both (list_any is_state items && list_any is_init items) (list_any is_command items) e in
    let q = both (list_any is_state items) (list_any is_init items) p.0 in
    record {
      state = omega (arith, some_counted is_state items q.0, b.state);
      init = omega (arith, some_counted is_init items q.1, b.init);
      command = omega (arith, some_counted is_command items p.1, b.command);
      functions = b.functions;
      operations = b.operations;
    }

pub completed : (b : Bool) (m : ModelShape) (items : List Item) (source : Source) → complete b m items ≡ Ok source → (b ≡ true) × (record { has_maps = m.has_maps; name = m.name; items = items } ≡ source)
completed true m items source e = (refl, okay (record { has_maps = m.has_maps; name = m.name; items = items }) source e)
completed false m items source e = absurd (cc)

-- what was read: the shape of the model, and its items
pub record ReadModel (trees : List Form) (source : Source) : Type 0 where
  pub head : ModelShape
  pub items : items_from source.has_maps [] head.items ≡ Ok source.items
  pub whole : is_complete source.items ≡ true

source_is : (m : ModelShape) (items : List Item) (source : Source) → record { has_maps = m.has_maps; name = m.name; items = items } ≡ source → (m.has_maps ≡ source.has_maps) × (items ≡ source.items)
source_is m items source e = (ap (λ (s : Source). s.has_maps) e, ap (λ (s : Source). s.items) e)

pub read_model : (trees : List Form) (source : Source) → model_of trees ≡ Ok source → ReadModel trees source
read_model trees source e =
    let p = go_ok (at_item 0 (head_of_model trees)) (λ m. go_on (items_from m.has_maps [] m.items) (λ items. at_item 0 (complete (is_complete items) m items))) source e in
    let q = go_ok (items_from p.0.has_maps [] p.0.items) (λ items. at_item 0 (complete (is_complete items) p.0 items)) source p.2 in
    let r = completed (is_complete q.0) p.0 q.0 source (at_ok 0 (complete (is_complete q.0) p.0 q.0) source q.2) in
    let s = source_is p.0 q.0 source r.1 in
    record {
      head = p.0;
      items = ap (λ maps. items_from maps [] p.0.items) (sym s.0) ∙ q.1 ∙ ap (λ items. Ok items) s.1;
      whole = ap is_complete (sym s.1) ∙ r.0;
    }

pub model_has : (source : Source) → IsModel source → HasItems source.items
model_has source m =
    let r = read_model (m.tree ∷ []) source m.reads in
    has source.items (all_bounded source.has_maps [] r.head.items source.items nothing r.items) r.whole
