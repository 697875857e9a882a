-- A value that fits a type is read again from what is written for it.
use Rattle.std.proofs.Common.{◌≡◌, ◌≢◌, ℕ, zero, suc, max, ◌-◌, ◌*◌, ◌<◌, ◌≤◌, ◌||◌, ◌&&◌, ◌==◌, eqb-true, nat_le, ℤ, Bool, true, false, length, slice_get, List, [], ◌∷◌, map, Option, Some, None, refl, sym, ap, ◌∙◌, subst, arith}
use Rattle.std.specs.Prelude.{codes, decimal, if◌then◌else◌}
use Rattle.std.specs.Fmt.{signed_decimal}
use Rattle.std.specs.List.{AllByRecursion, list_any, list_all}
use Rattle.std.specs.Str.{bytes_eq}
use Rattle.std.proofs.lemmas.List.{length-map}
use Rattle.pst_case.proofs.Variables.{reference-Int, reference-Truth, reference-Text, reference-Tuple, reference-ListOf, reference-MapOf, reference-Var, reference-Ref, reference-Call}
use Rattle.pst_case.specs.Shape.{holds_reference}
use Rattle.pst_model.specs.Language.{holds_map, layer_maps}
use Rattle.pst_model.specs.Levels as ty_levels
use Rattle.pst_model.specs.Kinds.{holds_call, holds_call_at}
use Rattle.pst_runs.proofs.Rooms.{value_word, value_text, value_node}
use Rattle.pst_runs.specs.Replies.{reply_word}
use Rattle.pst_runs.specs.declared.values.Spelling.{Spelling}
use Rattle.pst_runs.specs.Values.{each, word_value, headed_value, map_of, entry_value, value_in}
use Rattle.pst_sexpr.specs.Parts.{and_then, where_true, word_of, word_at}
use Rattle.pst_sexpr.specs.Bytes.{is_word_byte}
use Rattle.pst_sexpr.specs.Lawful.{IsTextBytes}
use Rattle.pst_sexpr.specs.declared.form.Form.TheVariants.{Word, Node, outs-Word, outs-Text, outs-Node}
use Rattle.pst_sexpr.specs.declared.form.Form.{Form}
use Rattle.pst_value.proofs.Forms.{value_induction}
use Rattle.pst_value.proofs.Typing.{fits-Int, fits-Text, fits-Tuple, fits-ListOf, fits-MapOf, fits-Var, fits-Ref, fits-Call}
use Rattle.pst_value.specs.Fits.{fits, fits_level, fit_each, fit_params, is_ty}
use Rattle.pst_value.specs.Keys.{are_keys, is_key, rising}
use Rattle.pst_value.specs.Subst.{numbered}
use Rattle.pst_value.specs.Text.{is_i64, is_text, is_printable, limit}
use Rattle.pst_value.specs.declared.key.Key.{Key}
use Rattle.pst_value.specs.declared.ty.Ty.TheOpen.{Ty-F}
use Rattle.pst_value.specs.declared.ty.Ty.{Ty, out-Ty, map-Ty}
use Rattle.pst_value.specs.declared.value.Value.TheOpen.{Value-F}
use Rattle.pst_value.specs.declared.value.Value.{Value, Int, Text, Tuple, List as ListOf, Map as MapOf, Var, Bool as Truth}
use Rattle.pst_sexpr.proofs.Numbers.{both_hold}
use Rattle.pst_runs.proofs.Forms.{form_Int, form_Truth, form_Text, form_Tuple, form_ListOf, form_MapOf, form_Var}
use Rattle.pst_runs.proofs.Texts.{text_bytes}
use Rattle.pst_runs.proofs.EntryAgain.{EntriesAgain, entries_again}
use Rattle.pst_runs.proofs.LevelOf.{level_of, call_of, maps_of, neither, true_is_no_false}
use Rattle.pst_runs.proofs.Numbers.{IsEarly, early_apart, spells_integer, integer_read, variable_read, variable_is_tree}
use Rattle.pst_runs.proofs.Sized.{Sized, AllSized, wider, all_wider, none_sized, more_sized, word_sized, text_sized, letters_sized, headed_sized}
use Rattle.pst_runs.specs.Written.{truth_word, entries_form, value_form}

-- ---- what is shown of a value

-- the tree has a spelling of so many levels, is read as the value, and is no word for a reply
pub record FormAgain (spelling : Spelling) (depth : ℕ) (v : Value) (f : Form) : Type 0 where
  pub sized : Sized depth f
  pub reads : (room : ℕ) → depth < room → value_in spelling room f ≡ Some v
  pub other : reply_word (word_of f) ≡ None

-- also with more levels of room
deeper : {spelling : Spelling} {depth : ℕ} {v : Value} {f : Form} (more : ℕ) → FormAgain spelling depth v f → depth ≤ more → FormAgain spelling more v f
deeper more a h = record { sized = wider more a.sized h; reads = λ room k. a.reads room (omega arith); other = a.other }

pub record EachAgain (spelling : Spelling) (depth : ℕ) (vs : List Value) : Type 0 where
  pub sized : AllSized depth (map value_form vs)
  pub reads : (room : ℕ) → depth < room → each (value_in spelling room) (map value_form vs) ≡ Some vs

module _ (spelling : Spelling) where
  some_room : (depth room : ℕ) → depth < room → room ≢ 0
  some_room depth room h e = omega arith

  no_reply : (word : List ℕ) → IsEarly word → reply_word (word_of (Word word)) ≡ None
  no_reply word h =
      let a : bytes_eq word (codes "misfit") ≡ false = early_apart word 109 _ h (omega arith) in
      let b : bytes_eq word (codes "failed") ≡ false = early_apart word 102 _ h (omega arith) in
      let c : bytes_eq word (codes "not-run") ≡ false = early_apart word 110 _ h (omega arith) in
      let d : bytes_eq word (codes "unknown") ≡ false = early_apart word 117 _ h (omega arith) in
      ap (λ x. reply_word (word_at x)) (outs-Word word) ∙ rw (a, b, c, d) refl

  int_again : (depth : ℕ) (n : ℤ) → is_i64 n ≡ true → FormAgain spelling depth (Int n) (value_form (Int n))
  int_again depth n e =
      let s = spells_integer n e in
      let word = signed_decimal n in
      subst (FormAgain spelling depth (Int n)) (sym (form_Int n)) (record {
        sized = word_sized depth word s.lawful;
        reads = λ room h. value_word spelling room word (some_room depth room h) ∙ integer_read spelling.symbolic word n s;
        other = no_reply word s.early;
      })

  truth_read : (b : Bool) → word_value spelling.symbolic (truth_word b) ≡ Some (Truth b)
  unfolding word_value
  truth_read true = refl
  truth_read false = refl

  truth_sized : (depth : ℕ) (b : Bool) → Sized depth (Word (truth_word b))
  unfolding is_word_byte
  truth_sized depth true = letters_sized depth _ _ refl
  truth_sized depth false = letters_sized depth _ _ refl

  truth_no_reply : (b : Bool) → reply_word (Some (truth_word b)) ≡ None
  truth_no_reply true = refl
  truth_no_reply false = refl

  truth_again : (depth : ℕ) (b : Bool) → FormAgain spelling depth (Truth b) (value_form (Truth b))
  truth_again depth b =
      subst (FormAgain spelling depth (Truth b)) (sym (form_Truth b)) (record {
        sized = truth_sized depth b;
        reads = λ room h. value_word spelling room (truth_word b) (some_room depth room h) ∙ truth_read b;
        other = ap (λ x. reply_word (word_at x)) (outs-Word (truth_word b)) ∙ truth_no_reply b;
      })

  text_again : (depth : ℕ) (t : List ℕ) → IsTextBytes t → FormAgain spelling depth (Text t) (value_form (Text t))
  text_again depth t h =
      subst (FormAgain spelling depth (Text t)) (sym (form_Text t)) (record {
        sized = text_sized depth t h;
        reads = λ room h. value_text spelling room t (some_room depth room h);
        other = ap (λ x. reply_word (word_at x)) (outs-Text t);
      })

  tuple_read : (depth room : ℕ) (vs : List Value) → EachAgain spelling depth vs → suc depth < room → value_in spelling room (Node (Word (codes "tuple") ∷ map value_form vs)) ≡ Some (Tuple vs)
  tuple_read depth room vs a h =
      let forms = map value_form vs in
      let inner = value_in spelling (room - 1) in
      value_node spelling room (Word (codes "tuple") ∷ forms) (some_room (suc depth) room h)
      ∙ ap (λ x. and_then (word_at x) (λ head. headed_value spelling inner head forms)) (outs-Word (codes "tuple"))
      ∙ ap (λ o. and_then o (λ vs. Some (Tuple vs))) (a.reads (room - 1) (omega arith))

  list_read : (depth room : ℕ) (vs : List Value) → EachAgain spelling depth vs → suc depth < room → value_in spelling room (Node (Word (codes "list") ∷ map value_form vs)) ≡ Some (ListOf vs)
  list_read depth room vs a h =
      let forms = map value_form vs in
      let inner = value_in spelling (room - 1) in
      value_node spelling room (Word (codes "list") ∷ forms) (some_room (suc depth) room h)
      ∙ ap (λ x. and_then (word_at x) (λ head. headed_value spelling inner head forms)) (outs-Word (codes "list"))
      ∙ ap (λ o. and_then o (λ vs. Some (ListOf vs))) (a.reads (room - 1) (omega arith))

  tuple_again : (depth : ℕ) (vs : List Value) → depth < 99 → EachAgain spelling depth vs → FormAgain spelling (suc depth) (Tuple vs) (value_form (Tuple vs))
  unfolding is_word_byte
  tuple_again depth vs h a =
      subst (FormAgain spelling (suc depth) (Tuple vs)) (sym (form_Tuple vs)) (record {
        sized = headed_sized _ _ refl a.sized h;
        reads = λ room k. tuple_read depth room vs a k;
        other = ap (λ x. reply_word (word_at x)) (outs-Node (Word (codes "tuple") ∷ map value_form vs));
      })

  list_again : (depth : ℕ) (vs : List Value) → depth < 99 → EachAgain spelling depth vs → FormAgain spelling (suc depth) (ListOf vs) (value_form (ListOf vs))
  unfolding is_word_byte
  list_again depth vs h a =
      subst (FormAgain spelling (suc depth) (ListOf vs)) (sym (form_ListOf vs)) (record {
        sized = headed_sized _ _ refl a.sized h;
        reads = λ room k. list_read depth room vs a k;
        other = ap (λ x. reply_word (word_at x)) (outs-Node (Word (codes "list") ∷ map value_form vs));
      })

  map_read : (depth room : ℕ) (ks : List Key) (vs : List Value) → spelling.has_maps ≡ true → rising ks ≡ true → EntriesAgain depth ks (map value_form vs)
      → EachAgain spelling depth vs → suc depth < room → value_in spelling room (Node (Word (codes "map") ∷ entries_form ks (map value_form vs))) ≡ Some (MapOf ks vs)
  map_read depth room ks vs has up entries a h =
      let forms = entries_form ks (map value_form vs) in
      let inner = value_in spelling (room - 1) in
      let values : each (entry_value inner) forms ≡ Some vs = entries.values inner ∙ a.reads (room - 1) (omega arith) in
      value_node spelling room (Word (codes "map") ∷ forms) (some_room (suc depth) room h)
      ∙ ap (λ x. and_then (word_at x) (λ head. headed_value spelling inner head forms)) (outs-Word (codes "map"))
      ∙ ap (λ b. if b && true then map_of inner forms else None) has
      ∙ ap (λ o. and_then o (λ ks. and_then (each (entry_value inner) forms) (λ vs. where_true (rising ks) (MapOf ks vs)))) entries.keys
      ∙ ap (λ o. and_then o (λ vs. where_true (rising ks) (MapOf ks vs))) values
      ∙ ap (λ b. where_true b (MapOf ks vs)) up

  map_again : (depth : ℕ) (ks : List Key) (vs : List Value) → depth < 98 → spelling.has_maps ≡ true → rising ks ≡ true → EntriesAgain depth ks (map value_form vs)
      → EachAgain spelling depth vs → FormAgain spelling (suc (suc depth)) (MapOf ks vs) (value_form (MapOf ks vs))
  unfolding is_word_byte
  map_again depth ks vs h has up entries a =
      subst (FormAgain spelling (suc (suc depth)) (MapOf ks vs)) (sym (form_MapOf ks vs)) (record {
        sized = headed_sized _ _ refl entries.sized (omega arith);
        reads = λ room k. map_read depth room ks vs has up entries a (omega arith);
        other = ap (λ x. reply_word (word_at x)) (outs-Node (Word (codes "map") ∷ entries_form ks (map value_form vs)));
      })

  var_again : (depth n : ℕ) → spelling.symbolic ≡ true → n < 10000 → FormAgain spelling depth (Var n) (value_form (Var n))
  var_again depth n s h =
      let word = 36 ∷ decimal n in
      let early : 36 < 58 = omega arith in
      subst (FormAgain spelling depth (Var n)) (sym (form_Var n)) (record {
        sized = word_sized depth word (variable_is_tree n h);
        reads = λ room k. value_word spelling room word (some_room depth room k) ∙ ap (λ b. word_value b word) s ∙ variable_read n h;
        other = no_reply word early;
      })

  none_again : (depth : ℕ) → EachAgain spelling depth []
  none_again depth = record { sized = none_sized depth; reads = λ room h. refl }

  more_again : (first rest depth : ℕ) (v : Value) (vs : List Value) → first ≤ depth → rest ≤ depth → FormAgain spelling first v (value_form v) → EachAgain spelling rest vs → EachAgain spelling depth (v ∷ vs)
  more_again first rest depth v vs h k a all =
      record {
        sized = more_sized (wider depth a.sized h) (all_wider depth all.sized k);
        reads = λ room r.
            ap (λ o. and_then o (λ b. and_then (each (value_in spelling room) (map value_form vs)) (λ bs. Some (b ∷ bs)))) (a.reads room (omega arith))
            ∙ ap (λ o. and_then o (λ bs. Some (v ∷ bs))) (all.reads room (omega arith));
      }

-- ---- values

module _ (spelling : Spelling) (free vars : List Ty) (ops : List (List Ty)) (open_variables : (n : ℕ) (t : Ty) → is_ty (numbered free n) t ≡ true → (spelling.symbolic ≡ true) × (n < 10000)) where
  -- no map stands there where the language has none
  abbrev Speaks : Bool → Type 0
  Speaks held = spelling.has_maps ≡ false → held ≡ false

  spoken_first : (x y : Bool) → Speaks (x || y) → Speaks x
  spoken_first x y s e = (neither x y (s e)).0

  spoken_rest : (x y : Bool) → Speaks (x || y) → Speaks y
  spoken_rest x y s e = (neither x y (s e)).1

  -- what is shown by induction
  abbrev Good : Value → Type 0
  Good v = (t : Ty) → ty_levels.levels t < 49 → holds_call t ≡ false → Speaks (holds_map t) → holds_reference v ≡ false → fits free vars ops v t ≡ true
      → FormAgain spelling (2 * ty_levels.levels t) v (value_form v)

  abbrev Levels : Ty-F Ty → ℕ
  Levels x = ty_levels.layer_levels (map-Ty Ty ℕ ty_levels.levels x)

  abbrev Callless : Ty-F Ty → Type 0
  Callless x = holds_call_at (map-Ty Ty Bool holds_call x) ≡ false

  abbrev Mapless : Ty-F Ty → Type 0
  Mapless x = Speaks (layer_maps (map-Ty Ty Bool holds_map x))

  int_fits : (n : ℤ) (x : Ty-F Ty) → fits_level free vars ops (Value-F.Int n) x ≡ true → is_i64 n ≡ true
  int_fits n Ty-F.Int e = e
  int_fits n _ e = absurd (cc)

  text_fits : (bs : List ℕ) (x : Ty-F Ty) → fits_level free vars ops (Value-F.Text bs) x ≡ true → is_text bs ≡ true
  text_fits bs Ty-F.Text e = e
  text_fits bs _ e = absurd (cc)

  var_fits : (n : ℕ) (x : Ty-F Ty) → fits_level free vars ops (Value-F.Var n) x ≡ true → (spelling.symbolic ≡ true) × (n < 10000)
  var_fits n (Ty-F.Ref t) e = open_variables n t e
  var_fits n _ e = absurd (cc)

  tuple_each : (vs : List Value) (ts : List Ty) → AllByRecursion Good vs → ty_levels.greatest (map ty_levels.levels ts) < 49 → list_any (λ held. held) (map holds_call ts) ≡ false
      → Speaks (list_any (λ held. held) (map holds_map ts)) → list_any holds_reference vs ≡ false → fit_each (map (fits free vars ops) vs) ts ≡ true
      → EachAgain spelling (2 * ty_levels.greatest (map ty_levels.levels ts)) vs
  tuple_each [] ts good n c s r e = none_again spelling _
  tuple_each (v ∷ vs) [] good n c s r e = absurd (cc)
  tuple_each (v ∷ vs) (t ∷ ts) good n c s r e =
      let first = ty_levels.levels t in
      let rest = ty_levels.greatest (map ty_levels.levels ts) in
      let maps = list_any (λ held. held) (map holds_map ts) in
      let p = neither (holds_call t) (list_any (λ held. held) (map holds_call ts)) c in
      let q = neither (holds_reference v) (list_any holds_reference vs) r in
      let f = both_hold (fits free vars ops v t) (fit_each (map (fits free vars ops) vs) ts) e in
      more_again spelling (2 * first) (2 * rest) (2 * max first rest) v vs (omega arith) (omega arith)
      (good.0 t (omega arith) p.0 (spoken_first (holds_map t) maps s) q.0 f.0) (tuple_each vs ts good.1 (omega arith) p.1 (spoken_rest (holds_map t) maps s) q.1 f.1)

  list_each : (vs : List Value) (t : Ty) → AllByRecursion Good vs → ty_levels.levels t < 49 → holds_call t ≡ false → Speaks (holds_map t)
      → list_any holds_reference vs ≡ false → list_all (λ f. f t) (map (fits free vars ops) vs) ≡ true → EachAgain spelling (2 * ty_levels.levels t) vs
  list_each [] t good n c s r e = none_again spelling _
  list_each (v ∷ vs) t good n c s r e =
      let depth = 2 * ty_levels.levels t in
      let q = neither (holds_reference v) (list_any holds_reference vs) r in
      let f = both_hold (fits free vars ops v t) (list_all (λ f. f t) (map (fits free vars ops) vs)) e in
      more_again spelling depth depth depth v vs (omega arith) (omega arith) (good.0 t n c s q.0 f.0) (list_each vs t good.1 n c s q.1 f.1)

  tuple_level : (vs : List Value) (x : Ty-F Ty) → AllByRecursion Good vs → Levels x < 49 → Callless x → Mapless x → list_any holds_reference vs ≡ false
      → fits_level free vars ops (Value-F.Tuple (map (fits free vars ops) vs)) x ≡ true → FormAgain spelling (2 * Levels x) (Tuple vs) (value_form (Tuple vs))
  tuple_level vs (Ty-F.Tuple ts) good n c s r e =
      let depth = ty_levels.greatest (map ty_levels.levels ts) in
      deeper _ (tuple_again spelling (2 * depth) vs (omega arith) (tuple_each vs ts good (omega arith) c s r e)) (omega arith)
  tuple_level vs _ good n c s r e = absurd (cc)

  list_level : (vs : List Value) (x : Ty-F Ty) → AllByRecursion Good vs → Levels x < 49 → Callless x → Mapless x → list_any holds_reference vs ≡ false
      → fits_level free vars ops (Value-F.List (map (fits free vars ops) vs)) x ≡ true → FormAgain spelling (2 * Levels x) (ListOf vs) (value_form (ListOf vs))
  list_level vs (Ty-F.List t) good n c s r e =
      let depth = ty_levels.levels t in
      let f = both_hold (nat_le (length (map (fits free vars ops) vs)) limit) (list_all (λ f. f t) (map (fits free vars ops) vs)) e in
      deeper _ (list_again spelling (2 * depth) vs (omega arith) (list_each vs t good (omega arith) c s r f.1)) (omega arith)
  list_level vs _ good n c s r e = absurd (cc)

  -- a map stands only where the language has maps
  has_maps : (b : Bool) → (b ≡ false → true ≡ false) → b ≡ true
  has_maps true s = refl
  has_maps false s = absurd (true_is_no_false (s refl))

  map_level : (ks : List Key) (vs : List Value) (x : Ty-F Ty) → AllByRecursion Good vs → Levels x < 49 → Callless x → Mapless x → list_any holds_reference vs ≡ false
      → fits_level free vars ops (Value-F.Map ks (map (fits free vars ops) vs)) x ≡ true → FormAgain spelling (2 * Levels x) (MapOf ks vs) (value_form (MapOf ks vs))
  map_level ks vs (Ty-F.Map k t) good n c s r e =
      let depth = ty_levels.levels t in
      let has = has_maps spelling.has_maps s in
      let f = both_hold (are_keys k (length (map (fits free vars ops) vs)) ks) (list_all (λ f. f t) (map (fits free vars ops) vs)) e in
      let p = both_hold _ (list_all (is_key k) ks && rising ks) f.0 in
      let q = both_hold (list_all (is_key k) ks) (rising ks) p.1 in
      let many = both_hold _ (length ks == length (map (fits free vars ops) vs)) p.0 in
      let same : length ks ≡ length (map value_form vs) = eqb-true _ _ many.1 ∙ length-map vs (fits free vars ops) ∙ sym (length-map vs value_form) in
      let values = list_each vs t good (omega arith) c (λ no. absurd (true_is_no_false (sym has ∙ no))) r f.1 in
      deeper _ (map_again spelling (2 * depth) ks vs (omega arith) has q.1 (entries_again (2 * depth) k ks (map value_form vs) (omega arith) same q.0 values.sized) values) (omega arith)
  map_level ks vs _ good n c s r e = absurd (cc)

  call_level : (op : ℕ) (vs : List Value) (x : Ty-F Ty) → Callless x → fits_level free vars ops (Value-F.Call op (map (fits free vars ops) vs)) x ≡ true → ⊥
  call_level op vs Ty-F.Call c e = absurd (cc)
  call_level op vs _ c e = absurd (cc)

  at_level : (t : Ty) (v : Value) (f : Form) → FormAgain spelling (2 * Levels (out-Ty t)) v f → FormAgain spelling (2 * ty_levels.levels t) v f
  at_level t v f a = subst (λ n. FormAgain spelling (2 * n) v f) (sym (level_of t)) a

  few : (t : Ty) → ty_levels.levels t < 49 → Levels (out-Ty t) < 49
  few t n = subst (λ k. k < 49) (level_of t) n

  callless : (t : Ty) → holds_call t ≡ false → Callless (out-Ty t)
  callless t c = sym (call_of t) ∙ c

  mapless : (t : Ty) → Speaks (holds_map t) → Mapless (out-Ty t)
  mapless t s e = sym (maps_of t) ∙ s e

  pub value_again : (v : Value) → Good v
  value_again = value_induction Good (record {
    int = λ n t l c s r e. int_again spelling _ n (int_fits n (out-Ty t) (sym (fits-Int free vars ops n t) ∙ e));
    truth = λ b t l c s r e. truth_again spelling _ b;
    text = λ bs t l c s r e. let p = both_hold (nat_le (length bs) limit) (list_all is_printable bs) (text_fits bs (out-Ty t) (sym (fits-Text free vars ops bs t) ∙ e)) in text_again spelling _ bs (text_bytes bs p.1);
    tuple = λ vs good t l c s r e. at_level t _ _ (tuple_level vs (out-Ty t) good (few t l) (callless t c) (mapless t s) (sym (reference-Tuple vs) ∙ r) (sym (fits-Tuple free vars ops vs t) ∙ e));
    items = λ vs good t l c s r e. at_level t _ _ (list_level vs (out-Ty t) good (few t l) (callless t c) (mapless t s) (sym (reference-ListOf vs) ∙ r) (sym (fits-ListOf free vars ops vs t) ∙ e));
    maps = λ ks vs good t l c s r e. at_level t _ _ (map_level ks vs (out-Ty t) good (few t l) (callless t c) (mapless t s) (sym (reference-MapOf ks vs) ∙ r) (sym (fits-MapOf free vars ops ks vs t) ∙ e));
    var = λ n t l c s r e. let p = var_fits n (out-Ty t) (sym (fits-Var free vars ops n t) ∙ e) in var_again spelling _ n p.0 p.1;
    ref = λ n v good t l c s r e. absurd (true_is_no_false (sym (reference-Ref n v) ∙ r));
    call = λ op vs good t l c s r e. absurd (call_level op vs (out-Ty t) (callless t c) (sym (fits-Call free vars ops op vs t) ∙ e));
  })

  all_good : (vs : List Value) → AllByRecursion Good vs
  all_good [] = tt
  all_good (v ∷ vs) = (value_again v, all_good vs)

  -- arguments are read again
  pub each_again : (vs : List Value) (ts : List Ty) → ty_levels.greatest (map ty_levels.levels ts) < 49 → list_any (λ held. held) (map holds_call ts) ≡ false
      → Speaks (list_any (λ held. held) (map holds_map ts)) → list_any holds_reference vs ≡ false → fit_each (map (fits free vars ops) vs) ts ≡ true
      → EachAgain spelling (2 * ty_levels.greatest (map ty_levels.levels ts)) vs
  each_again vs ts n c s r e = tuple_each vs ts (all_good vs) n c s r e

-- ---- where no result may stand in a value, no reference does

module _ (ops : List (List Ty)) where
  abbrev Closed : Value → Type 0
  Closed v = (t : Ty) → fits [] [] ops v t ≡ true → holds_reference v ≡ false

  closed_tuple : (vs : List Value) (ts : List Ty) → AllByRecursion Closed vs → fit_each (map (fits [] [] ops) vs) ts ≡ true → list_any holds_reference vs ≡ false
  closed_tuple [] ts h e = refl
  closed_tuple (v ∷ vs) [] h e = absurd (cc)
  closed_tuple (v ∷ vs) (t ∷ ts) h e =
      let f = both_hold (fits [] [] ops v t) (fit_each (map (fits [] [] ops) vs) ts) e in
      ap (λ b. b || list_any holds_reference vs) (h.0 t f.0) ∙ closed_tuple vs ts h.1 f.1

  closed_list : (vs : List Value) (t : Ty) → AllByRecursion Closed vs → list_all (λ f. f t) (map (fits [] [] ops) vs) ≡ true → list_any holds_reference vs ≡ false
  closed_list [] t h e = refl
  closed_list (v ∷ vs) t h e =
      let f = both_hold (fits [] [] ops v t) (list_all (λ f. f t) (map (fits [] [] ops) vs)) e in
      ap (λ b. b || list_any holds_reference vs) (h.0 t f.0) ∙ closed_list vs t h.1 f.1

  closed_params : (vs : List Value) (ts : Option (List Ty)) → AllByRecursion Closed vs → fit_params (map (fits [] [] ops) vs) ts ≡ true → list_any holds_reference vs ≡ false
  closed_params vs None h e = absurd (cc)
  closed_params vs (Some ts) h e = closed_tuple vs ts h e

  tuple_closed : (vs : List Value) (x : Ty-F Ty) → AllByRecursion Closed vs → fits_level [] [] ops (Value-F.Tuple (map (fits [] [] ops) vs)) x ≡ true → list_any holds_reference vs ≡ false
  tuple_closed vs (Ty-F.Tuple ts) h e = closed_tuple vs ts h e
  tuple_closed vs _ h e = absurd (cc)

  list_closed : (vs : List Value) (x : Ty-F Ty) → AllByRecursion Closed vs → fits_level [] [] ops (Value-F.List (map (fits [] [] ops) vs)) x ≡ true → list_any holds_reference vs ≡ false
  list_closed vs (Ty-F.List t) h e =
      let f = both_hold (nat_le (length (map (fits [] [] ops) vs)) limit) (list_all (λ f. f t) (map (fits [] [] ops) vs)) e in closed_list vs t h f.1
  list_closed vs _ h e = absurd (cc)

  map_closed : (ks : List Key) (vs : List Value) (x : Ty-F Ty) → AllByRecursion Closed vs → fits_level [] [] ops (Value-F.Map ks (map (fits [] [] ops) vs)) x ≡ true → list_any holds_reference vs ≡ false
  map_closed ks vs (Ty-F.Map k t) h e =
      let f = both_hold (are_keys k (length (map (fits [] [] ops) vs)) ks) (list_all (λ f. f t) (map (fits [] [] ops) vs)) e in closed_list vs t h f.1
  map_closed ks vs _ h e = absurd (cc)

  call_closed : (op : ℕ) (vs : List Value) (x : Ty-F Ty) → AllByRecursion Closed vs → fits_level [] [] ops (Value-F.Call op (map (fits [] [] ops) vs)) x ≡ true → list_any holds_reference vs ≡ false
  call_closed op vs Ty-F.Call h e = closed_params vs (slice_get ops op) h e
  call_closed op vs _ h e = absurd (cc)

  no_result : (n : ℕ) (t : Ty) → is_ty (numbered [] n) t ≡ true → ⊥
  no_result zero t e = absurd (cc)
  no_result (suc n) t e = absurd (cc)

  ref_closed : (n : ℕ) (test : Ty → Bool) (x : Ty-F Ty) → fits_level [] [] ops (Value-F.Ref n test) x ≡ true → ⊥
  ref_closed n test (Ty-F.Ref t) e = no_result n t (both_hold (is_ty (numbered [] n) t) (test t) e).0
  ref_closed n test _ e = absurd (cc)

  pub closed : (v : Value) → Closed v
  closed = value_induction Closed (record {
    int = λ n t e. reference-Int n;
    truth = λ b t e. reference-Truth b;
    text = λ bs t e. reference-Text bs;
    tuple = λ vs h t e. reference-Tuple vs ∙ tuple_closed vs (out-Ty t) h (sym (fits-Tuple [] [] ops vs t) ∙ e);
    items = λ vs h t e. reference-ListOf vs ∙ list_closed vs (out-Ty t) h (sym (fits-ListOf [] [] ops vs t) ∙ e);
    maps = λ ks vs h t e. reference-MapOf ks vs ∙ map_closed ks vs (out-Ty t) h (sym (fits-MapOf [] [] ops ks vs t) ∙ e);
    var = λ n t e. reference-Var n;
    ref = λ n v h t e. absurd (ref_closed n (fits [] [] ops v) (out-Ty t) (sym (fits-Ref [] [] ops n v t) ∙ e));
    call = λ op vs h t e. reference-Call op vs ∙ call_closed op vs (out-Ty t) h (sym (fits-Call [] [] ops op vs t) ∙ e);
  })

  -- a value without a result is read again, where no call stands in its type
  module _ (spelling : Spelling) where
    no_variable : (n : ℕ) (t : Ty) → is_ty (numbered [] n) t ≡ true → (spelling.symbolic ≡ true) × (n < 10000)
    no_variable n t e = absurd (no_result n t e)

    pub reply_again : (v : Value) (t : Ty) → ty_levels.levels t < 49 → holds_call t ≡ false → (spelling.has_maps ≡ false → holds_map t ≡ false) → fits [] [] ops v t ≡ true
        → FormAgain spelling (2 * ty_levels.levels t) v (value_form v)
    reply_again v t l c s e = value_again spelling [] [] ops no_variable v t l c s (closed v t e) e
