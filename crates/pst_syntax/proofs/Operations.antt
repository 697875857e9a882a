-- The operations of a model that was read.
use Rattle.std.proofs.Common.{◌≡◌, ◌+◌, ◌≤◌, ◌<◌, ℕ, zero, suc, Bool, true, false, List, [], ◌∷◌, ◌++◌, length, Option, Some, None, Ok, refl, sym, ap, ◌∙◌, subst, inl, inr, arith}
use Rattle.std.specs.Prelude.{◌⊎◌, cond, ◌&&◌, ◌||◌, if◌then◌else◌, nat_le, nat_lt}
use Rattle.std.specs.List.{list_any, list_all, count_by}
use Rattle.std.specs.Option.{option_map}
use Rattle.std.specs.Str.{bytes_eq}
use Rattle.std.proofs.lemmas.Bool.Decides.{nat_tests}
use Rattle.std.proofs.lemmas.List.Recursion.{is_count_by}
use Rattle.std.proofs.lemmas.Option.{slice_get_within}
use Rattle.std.proofs.lemmas.Slice.Eq.{bytes_eq-Decides}
use Rattle.pst_model.specs.Language.{holds_map, IsWithoutMaps, KeepsLanguage}
use Rattle.pst_model.specs.Levels.{levels}
use Rattle.pst_model.specs.Operations.{HasOperations}
use Rattle.pst_model.specs.Parts.{operations_of, operation_of, operation_number, types_of}
use Rattle.pst_model.specs.declared.model.Item.{Item}
use Rattle.pst_model.specs.declared.model.Item.TheVariants as item
use Rattle.pst_model.specs.declared.model.Op.{Op}
use Rattle.pst_model.specs.declared.model.Param.{Param}
use Rattle.pst_model.specs.declared.model.Source.{Source}
use Rattle.pst_sexpr.specs.declared.form.Form.{Form}
use Rattle.pst_syntax.specs.Items.{whole_ty, whole_expr, is_param, param_of, params_from, params_of, callbacks_from, no_callbacks, all_callbacks, is_state, is_init, is_command, is_fun, is_op, is_op_named, has_room, fun_of, op_parts, item_parts, item_of, at_item, items_from, model_of, IsModel, HasItems}
use Rattle.pst_syntax.specs.ItemShape.{ItemShape, StateItem, InitItem, CommandItem, FunItem, OpItem, item_shape, param_shape}
use Rattle.pst_model.specs.Names.{is_name}
use Rattle.pst_syntax.specs.Names.{is_free, is_short}
use Rattle.pst_syntax.specs.Reading.{◌>>=◌, known, within, once, lawful, declared, are_few}
use Rattle.pst_syntax.specs.Limits.{ty_room}
use Rattle.pst_syntax.proofs.Complete.{bind_ok, known_ok, within_ok, once_ok, go_ok, at_ok, okay, read_model, model_has}
use Rattle.pst_syntax.proofs.Deep.{ty_shallow}
use Rattle.pst_syntax.proofs.Plain.{neither, both_false, ty_plain}

-- ---- numbers of operations

kept_step : (b : Bool) (r r' : Option ℕ) → ((n : ℕ) → r ≡ Some n → r' ≡ Some n) → (n : ℕ) → (if b then Some 0 else option_map suc r) ≡ Some n → (if b then Some 0 else option_map suc r') ≡ Some n
kept_step true r r' h n e = e
kept_step false None r' h n e = absurd (cc)
kept_step false (Some k) r' h n e = ap (option_map suc) (h k refl) ∙ e

-- the number of an operation stays where one more item comes
number_kept : (seen : List Item) (i : Item) (x : List ℕ) (n : ℕ) → operation_number seen x ≡ Some n → operation_number (seen ++ i ∷ []) x ≡ Some n
number_kept [] i x n e = absurd (cc)
number_kept (item.State t ∷ seen) i x n e = number_kept seen i x n e
number_kept (item.Init t ∷ seen) i x n e = number_kept seen i x n e
number_kept (item.Command t ∷ seen) i x n e = number_kept seen i x n e
number_kept (item.Fun t ∷ seen) i x n e = number_kept seen i x n e
number_kept (item.Op o ∷ seen) i x n e = kept_step (bytes_eq o.name x) (operation_number seen x) (operation_number (seen ++ i ∷ []) x) (number_kept seen i x) n e

new_step : (b rest : Bool) (r : Option ℕ) (k : ℕ) → (rest ≡ false → r ≡ Some k) → (b || rest) ≡ false → (if b then Some 0 else option_map suc r) ≡ Some (suc k)
new_step true rest r k h e = absurd (cc)
new_step false rest r k h e = ap (option_map suc) (h e)

-- an operation of a new name gets the next number
number_new : (seen : List Item) (o : Op) → list_any (is_op_named o.name) seen ≡ false → operation_number (seen ++ item.Op o ∷ []) o.name ≡ Some (length (operations_of seen))
number_new [] o e = ap (λ b. if b then Some 0 else option_map suc None) ((bytes_eq-Decides o.name o.name).1 refl)
number_new (item.State t ∷ seen) o e = number_new seen o e
number_new (item.Init t ∷ seen) o e = number_new seen o e
number_new (item.Command t ∷ seen) o e = number_new seen o e
number_new (item.Fun t ∷ seen) o e = number_new seen o e
number_new (item.Op p ∷ seen) o e = new_step (bytes_eq p.name o.name) (list_any (is_op_named o.name) seen) (operation_number (seen ++ item.Op o ∷ []) o.name) (length (operations_of seen)) (number_new seen o) e

one_counted : (i : Item) (items : List Item) → length (operations_of (i ∷ items)) ≡ cond (is_op i) (1 + length (operations_of items)) (length (operations_of items))
one_counted (item.State t) items = refl
one_counted (item.Init t) items = refl
one_counted (item.Command t) items = refl
one_counted (item.Fun t) items = refl
one_counted (item.Op o) items = omega arith

counted : (items : List Item) → length (operations_of items) ≡ count_by is_op items
counted items = is_count_by (λ items. length (operations_of items)) is_op refl one_counted items

-- the operation of a number is an earlier one, or the one that came last
abbrev Found : List Item → Item → ℕ → Op → Type 0
Found seen i number o = (operation_of seen number ≡ Some o) ⊎ ((i ≡ item.Op o) × (number ≡ length (operations_of seen)))

some_op : Op → Option Op
some_op o = Some o

further : (seen : List Item) (p : Op) (i : Item) (number : ℕ) (o : Op) → Found seen i number o → Found (item.Op p ∷ seen) i (suc number) o
further seen p i number o (inl e) = inl e
further seen p i number o (inr e) = inr (e.0, ap suc e.1)

found : (seen : List Item) (i : Item) (number : ℕ) (o : Op) → operation_of (seen ++ i ∷ []) number ≡ Some o → Found seen i number o
found [] (item.State t) number o e = absurd (cc)
found [] (item.Init t) number o e = absurd (cc)
found [] (item.Command t) number o e = absurd (cc)
found [] (item.Fun t) number o e = absurd (cc)
found [] (item.Op p) zero o e = inr (ap item.Op (let q : p ≡ o = cc in q), refl)
found [] (item.Op p) (suc number) o e = absurd (cc)
found (item.State t ∷ seen) i number o e = found seen i number o e
found (item.Init t ∷ seen) i number o e = found seen i number o e
found (item.Command t ∷ seen) i number o e = found seen i number o e
found (item.Fun t ∷ seen) i number o e = found seen i number o e
found (item.Op p ∷ seen) i zero o e = inl e
found (item.Op p ∷ seen) i (suc number) o e = further seen p i number o (found seen i number o e)

-- ---- what an operation was read of

names_ok : (a b c : Bool) (w y : List ℕ) → lawful a (once b (within c (Ok w))) ≡ Ok y → (a ≡ true) × (b ≡ false) × (w ≡ y)
names_ok true false true w y e = (refl, refl, okay w y e)
names_ok true false false w y e = absurd (cc)
names_ok true true c w y e = absurd (cc)
names_ok false b c w y e = absurd (cc)

declared_ok : (a b : Bool) (w y : List ℕ) → declared a b w ≡ Ok y → (a ≡ true) × (b ≡ false) × (w ≡ y)
unfolding declared
declared_ok a b w y e = names_ok a b (is_short w) w y e

tested : (n m : ℕ) → n ≤ m → nat_le n m ≡ true
tested n m h = grind (arith, nat_tests)

under : (n m : ℕ) → n < m → nat_lt n m ≡ true
under n m h = grind (arith, nat_tests)

is_shallow : Param → Bool
is_shallow param = nat_le (levels param.ty) ty_room

both_true : (a b : Bool) → a ≡ true → b ≡ true → (a && b) ≡ true
both_true true b e f = f
both_true false b e f = absurd (cc)

more_shallow : (params : List Param) (param : Param) → list_all (λ param. nat_le (levels param.ty) ty_room) params ≡ true → nat_le (levels param.ty) ty_room ≡ true → list_all (λ param. nat_le (levels param.ty) ty_room) (params ++ param ∷ []) ≡ true
more_shallow [] param e f = both_true (nat_le (levels param.ty) ty_room) true f refl
more_shallow (p ∷ params) param e f =
    let q = parted (nat_le (levels p.ty) ty_room) (list_all (λ param. nat_le (levels param.ty) ty_room) params) e in
    both_true (nat_le (levels p.ty) ty_room) (list_all (λ param. nat_le (levels param.ty) ty_room) (params ++ param ∷ [])) q.0 (more_shallow params param q.1 f)
  where
    parted : (a b : Bool) → (a && b) ≡ true → (a ≡ true) × (b ≡ true)
    parted true b e = (refl, e)
    parted false b e = absurd (cc)

param_shallow : (maps : Bool) (params : List Param) (pair : List ℕ × Form) (param : Param) → param_of maps params pair ≡ Ok param → nat_le (levels param.ty) ty_room ≡ true
param_shallow maps params pair param e =
    let p = bind_ok (declared (is_free maps pair.0) (is_param params pair.0) pair.0) (λ x. whole_ty maps pair.1 >>= (λ t. Ok (record { name = x; ty = t }))) param e in
    let q = bind_ok (whole_ty maps pair.1) (λ t. Ok (record { name = p.0; ty = t })) param p.2 in
    let r = okay (record { name = p.0; ty = q.0 }) param q.2 in
    subst (λ (param : Param). nat_le (levels param.ty) ty_room ≡ true) r (tested (levels q.0) ty_room (ty_shallow maps ty_room pair.1 q.0 q.1))

params_shallow : (maps : Bool) (params : List Param) (forms : List Form) (all : List Param) → list_all (λ param. nat_le (levels param.ty) ty_room) params ≡ true → params_from maps params forms ≡ Ok all → list_all (λ param. nat_le (levels param.ty) ty_room) all ≡ true
params_shallow maps params [] all h e = subst (λ all. list_all (λ param. nat_le (levels param.ty) ty_room) all ≡ true) (okay params all e) h
params_shallow maps params (form ∷ forms) all h e =
    let p = bind_ok (known (param_shape form) (param_of maps params)) (λ param. params_from maps (params ++ param ∷ []) forms) all e in
    let q = known_ok (param_shape form) (param_of maps params) p.0 p.1 in
    params_shallow maps (params ++ p.0 ∷ []) forms all (more_shallow params p.0 h (param_shallow maps params q.0 p.0 q.2)) p.2

more_plain : (params : List Param) (param : Param) → list_any holds_map (types_of params) ≡ false → holds_map param.ty ≡ false → list_any holds_map (types_of (params ++ param ∷ [])) ≡ false
more_plain [] param e f = both_false (holds_map param.ty) false f refl
more_plain (p ∷ params) param e f =
    let q = neither (holds_map p.ty) (list_any holds_map (types_of params)) e in
    both_false (holds_map p.ty) (list_any holds_map (types_of (params ++ param ∷ []))) q.0 (more_plain params param q.1 f)

param_plain : (maps : Bool) (params : List Param) (pair : List ℕ × Form) (param : Param) → maps ≡ false → param_of maps params pair ≡ Ok param → holds_map param.ty ≡ false
param_plain maps params pair param n e =
    let p = bind_ok (declared (is_free maps pair.0) (is_param params pair.0) pair.0) (λ x. whole_ty maps pair.1 >>= (λ t. Ok (record { name = x; ty = t }))) param e in
    let q = bind_ok (whole_ty maps pair.1) (λ t. Ok (record { name = p.0; ty = t })) param p.2 in
    let r = okay (record { name = p.0; ty = q.0 }) param q.2 in
    subst (λ (param : Param). holds_map param.ty ≡ false) r (ty_plain maps ty_room n pair.1 q.0 q.1)

params_plain : (maps : Bool) (params : List Param) (forms : List Form) (all : List Param) → maps ≡ false → list_any holds_map (types_of params) ≡ false → params_from maps params forms ≡ Ok all → list_any holds_map (types_of all) ≡ false
params_plain maps params [] all n h e = subst (λ all. list_any holds_map (types_of all) ≡ false) (okay params all e) h
params_plain maps params (form ∷ forms) all n h e =
    let p = bind_ok (known (param_shape form) (param_of maps params)) (λ param. params_from maps (params ++ param ∷ []) forms) all e in
    let q = known_ok (param_shape form) (param_of maps params) p.0 p.1 in
    params_plain maps (params ++ p.0 ∷ []) forms all n (more_plain params p.0 h (param_plain maps params q.0 p.0 n q.2)) p.2

-- what is known of an operation that was read after others
record ReadOp (maps : Bool) (seen : List Item) (o : Op) : Type 0 where
  name : is_name o.name ≡ true
  new : list_any (is_op_named o.name) seen ≡ false
  result : nat_le (levels o.result) ty_room ≡ true
  parameters : list_all (λ param. nat_le (levels param.ty) ty_room) o.params ≡ true
  plain : maps ≡ false → IsWithoutMaps o

read_op : (maps : Bool) (seen : List Item) (x : List ℕ) (ps : List Form) (t : Form) (callbacks : List Form) (o : Op) → op_parts maps seen x ps t callbacks ≡ Ok o → ReadOp maps seen o
read_op maps seen x ps t callbacks o e =
    let named = bind_ok (declared (is_name x) (list_any (is_op_named x) seen) x) (λ x. params_of maps ps >>= (λ ps. whole_ty maps t >>= (λ t. callbacks_from maps no_callbacks callbacks >>= all_callbacks >>= (λ all. Ok (record { name = x; params = ps; result = t; pre = all.pre; next = all.next; post = all.post }))))) o e in
    let params = bind_ok (params_of maps ps) (λ ps. whole_ty maps t >>= (λ t. callbacks_from maps no_callbacks callbacks >>= all_callbacks >>= (λ all. Ok (record { name = named.0; params = ps; result = t; pre = all.pre; next = all.next; post = all.post })))) o named.2 in
    let ty = bind_ok (whole_ty maps t) (λ t. callbacks_from maps no_callbacks callbacks >>= all_callbacks >>= (λ all. Ok (record { name = named.0; params = params.0; result = t; pre = all.pre; next = all.next; post = all.post }))) o params.2 in
    let all = bind_ok (callbacks_from maps no_callbacks callbacks >>= all_callbacks) (λ all. Ok (record { name = named.0; params = params.0; result = ty.0; pre = all.pre; next = all.next; post = all.post })) o ty.2 in
    let is = okay (record { name = named.0; params = params.0; result = ty.0; pre = all.0.pre; next = all.0.next; post = all.0.post }) o all.2 in
    let n = declared_ok (is_name x) (list_any (is_op_named x) seen) x named.0 named.1 in
    let few = within_ok (are_few ps) (params_from maps [] ps) params.0 params.1 in
    subst (ReadOp maps seen) is record {
      name = ap is_name (sym n.2) ∙ n.0;
      new = ap (λ w. list_any (is_op_named w) seen) (sym n.2) ∙ n.1;
      result = tested (levels ty.0) ty_room (ty_shallow maps ty_room t ty.0 ty.1);
      parameters = params_shallow maps [] ps params.0 refl few.1;
      plain = λ n. record { parameters = params_plain maps [] ps params.0 n refl few.1; result = ty_plain maps ty_room n t ty.0 ty.1 };
    }

-- ---- all operations

-- each operation of the items is well read, and the first of its name
record EachOp (maps : Bool) (items : List Item) (at : ℕ) (o : Op) : Type 0 where
  name : is_name o.name ≡ true
  number : operation_number items o.name ≡ Some at
  result : nat_le (levels o.result) ty_room ≡ true
  parameters : list_all (λ param. nat_le (levels param.ty) ty_room) o.params ≡ true
  plain : maps ≡ false → IsWithoutMaps o

abbrev AllOps : Bool → List Item → Type 0
AllOps maps items = (number : ℕ) (o : Op) → operation_of items number ≡ Some o → EachOp maps items number o

-- an item that is an operation was read as one
abbrev ReadItem : Bool → List Item → Item → Type 0
ReadItem maps seen i = (o : Op) → i ≡ item.Op o → ReadOp maps seen o

op_is : (o p : Op) → item.Op o ≡ item.Op p → o ≡ p
op_is o p e = cc

one_more : (maps : Bool) (seen : List Item) (i : Item) (number : ℕ) (o : Op) → AllOps maps seen → ReadItem maps seen i → Found seen i number o → EachOp maps (seen ++ i ∷ []) number o
one_more maps seen i number o all read (inl e) =
    let each = all number o e in
    record { name = each.name; number = number_kept seen i o.name number each.number; result = each.result; parameters = each.parameters; plain = each.plain }
one_more maps seen i number o all read (inr e) =
    let each = read o e.0 in
    let last : operation_number (seen ++ i ∷ []) o.name ≡ Some (length (operations_of seen)) = ap (λ i. operation_number (seen ++ i ∷ []) o.name) e.0 ∙ number_new seen o each.new in
    record { name = each.name; number = last ∙ ap Some (sym e.1); result = each.result; parameters = each.parameters; plain = each.plain }

read_parts : (maps : Bool) (seen : List Item) (shape : ItemShape) (i : Item) → item_parts maps seen shape ≡ Ok i → ReadItem maps seen i
read_parts maps seen (StateItem t) i e o is =
    let p = once_ok (list_any is_state seen) (whole_ty maps t >>= (λ t. Ok (item.State t))) i e in
    let q = bind_ok (whole_ty maps t) (λ t. Ok (item.State t)) i p.1 in
    absurd (let r : item.State q.0 ≡ item.Op o = okay (item.State q.0) i q.2 ∙ is in cc)
read_parts maps seen (InitItem t) i e o is =
    let p = once_ok (list_any is_init seen) (whole_expr maps t >>= (λ t. Ok (item.Init t))) i e in
    let q = bind_ok (whole_expr maps t) (λ t. Ok (item.Init t)) i p.1 in
    absurd (let r : item.Init q.0 ≡ item.Op o = okay (item.Init q.0) i q.2 ∙ is in cc)
read_parts maps seen (CommandItem t) i e o is =
    let p = once_ok (list_any is_command seen) (whole_expr maps t >>= (λ t. Ok (item.Command t))) i e in
    let q = bind_ok (whole_expr maps t) (λ t. Ok (item.Command t)) i p.1 in
    absurd (let r : item.Command q.0 ≡ item.Op o = okay (item.Command q.0) i q.2 ∙ is in cc)
read_parts maps seen (FunItem is_post x ps t body) i e o is =
    let p = within_ok (has_room is_fun seen) (fun_of maps is_post seen x ps t body >>= (λ f. Ok (item.Fun f))) i e in
    let q = bind_ok (fun_of maps is_post seen x ps t body) (λ f. Ok (item.Fun f)) i p.1 in
    absurd (let r : item.Fun q.0 ≡ item.Op o = okay (item.Fun q.0) i q.2 ∙ is in cc)
read_parts maps seen (OpItem x ps t callbacks) i e o is =
    let p = within_ok (has_room is_op seen) (op_parts maps seen x ps t callbacks >>= (λ o. Ok (item.Op o))) i e in
    let q = bind_ok (op_parts maps seen x ps t callbacks) (λ o. Ok (item.Op o)) i p.1 in
    let r : item.Op q.0 ≡ item.Op o = okay (item.Op q.0) i q.2 ∙ is in
    subst (ReadOp maps seen) (op_is q.0 o r) (read_op maps seen x ps t callbacks q.0 q.1)

all_read : (maps : Bool) (seen : List Item) (forms : List Form) (items : List Item) → AllOps maps seen → items_from maps seen forms ≡ Ok items → AllOps maps items
unfolding item_of
all_read maps seen [] items all e = subst (AllOps maps) (let r : seen ≡ items = cc in r) all
all_read maps seen (form ∷ forms) items all e =
    let p = go_ok (at_item (length seen + 1) (item_of maps seen form)) (λ i. items_from maps (seen ++ i ∷ []) forms) items e in
    let q = known_ok (item_shape form) (item_parts maps seen) p.0 (at_ok (length seen + 1) (item_of maps seen form) p.0 p.1) in
    all_read maps (seen ++ p.0 ∷ []) forms items (λ number o f. one_more maps seen p.0 number o all (read_parts maps seen q.0 p.0 q.2) (found seen p.0 number o f)) p.2

none : (maps : Bool) → AllOps maps []
none maps number o e = absurd (cc)

read_ops : (trees : List Form) (source : Source) → model_of trees ≡ Ok source → AllOps source.has_maps source.items
read_ops trees source e =
    let r = read_model trees source e in
    all_read source.has_maps [] r.head.items source.items (none source.has_maps) r.items

few : (items : List Item) (number : ℕ) (o : Op) → HasItems items → operation_of items number ≡ Some o → nat_lt number 64 ≡ true
few items number o has e = under number 64 (omega (arith, slice_get_within (operations_of items) number o e, counted items, has.operations))

-- each operation of a model is read, and the first of its name
pub model_operations : (source : Source) → IsModel source → HasOperations source.items
model_operations source m number o e =
    let each = read_ops (m.tree ∷ []) source m.reads number o e in
    record {
      name = each.name;
      number = each.number;
      few = few source.items number o (model_has source m) e;
      result = each.result;
      parameters = each.parameters;
    }

-- the operations of a model keep its language
pub model_language : (source : Source) → IsModel source → KeepsLanguage source
model_language source m n number o e = (read_ops (m.tree ∷ []) source m.reads number o e).plain n
