-- The tests of items agree with the rules, and the first that fails is the least item that is not well typed.
use Rattle.std.proofs.Common.{◌≡◌, ℕ, ◌+◌, Bool, true, false, not, List, [], ◌∷◌, ◌++◌, length, reverse, Option, Some, None, refl, sym, ap, ◌∙◌, subst, inl, inr, append_assoc, arith}
use Rattle.std.proofs.lemmas.Bool.{cases_Bool, and_from}
use Rattle.std.proofs.lemmas.List.{append-nil, reverse-append}
use Rattle.pst_model.specs.declared.expr.Expr.{Expr}
use Rattle.pst_model.specs.declared.model.Item.{Item}
use Rattle.pst_model.specs.declared.model.Item.TheVariants as item
use Rattle.pst_model.specs.declared.model.Op.{Op}
use Rattle.pst_model.specs.Rules.{Context, Has, Typed}
use Rattle.pst_model.specs.WellTyped.{WellOperation, WellItem, WellItems}
use Rattle.pst_typing.specs.Decision.{type_of}
use Rattle.pst_typing.specs.Items.{well_operation, well_item, first_ill}
use Rattle.pst_typing.specs.Least.{IsLeastIll}
use Rattle.pst_typing.proofs.Complete.{complete}
use Rattle.pst_typing.proofs.Exactly.{is_found, found_is, both}
use Rattle.pst_typing.proofs.Sound.{found_right}
use Rattle.pst_value.specs.Fits.{is_ty}
use Rattle.pst_value.specs.declared.ty.Ty.{Ty}
use Rattle.pst_value.specs.declared.ty.Ty.TheVariants as ty

not_true : (b : Bool) → not b ≡ true → b ≡ false
not_true true h = absurd (cc)
not_true false h = refl

true_not : (b : Bool) → b ≡ false → not b ≡ true
true_not b h = ap not h

passed : (items earlier : List Item) (post : Bool) (G : Context) (e : Expr) (T : Ty) → is_ty (type_of items earlier post e G) T ≡ true → Typed items earlier post (Has G e T)
passed items earlier post G e T h = found_right items earlier post e G T (is_found _ T h)

passes : (items earlier : List Item) (post : Bool) (G : Context) (e : Expr) (T : Ty) → Typed items earlier post (Has G e T) → is_ty (type_of items earlier post e G) T ≡ true
passes items earlier post G e T h = found_is _ T (complete items earlier post (Has G e T) h)

operation_is_well : (items : List Item) (S : Ty) (o : Op) → well_operation items S o ≡ true → WellOperation items S o
operation_is_well items S o h =
    let a = both _ _ h in
    let b = both _ _ a.1 in
    let c = both _ _ b.1 in
    let d = both _ _ c.1 in
    record {
      parameters = not_true _ a.0;
      result = not_true _ b.0;
      pre = passed items _ false _ o.pre ty.Bool c.0;
      next = passed items _ false _ o.next S d.0;
      post = passed items _ true _ o.post ty.Bool d.1;
    }

well_operation_passes : (items : List Item) (S : Ty) (o : Op) → WellOperation items S o → well_operation items S o ≡ true
well_operation_passes items S o w =
    and_from _ _ (true_not _ w.parameters)
    (and_from _ _ (true_not _ w.result)
    (and_from _ _ (passes items _ false _ o.pre ty.Bool w.pre)
    (and_from _ _ (passes items _ false _ o.next S w.next) (passes items _ true _ o.post ty.Bool w.post))))

pub passed_is_well : (items : List Item) (S : Ty) (earlier : List Item) (i : Item) → well_item items S earlier i ≡ true → WellItem items S earlier i
passed_is_well items S earlier (item.State T) h = not_true _ h
passed_is_well items S earlier (item.Init e) h = passed items _ false _ e S h
passed_is_well items S earlier (item.Command e) h = passed items _ false _ e (ty.List ty.Call) h
passed_is_well items S earlier (item.Fun f) h = passed items earlier f.is_post _ f.body f.result h
passed_is_well items S earlier (item.Op o) h = operation_is_well items S o h

pub well_is_passed : (items : List Item) (S : Ty) (earlier : List Item) (i : Item) → WellItem items S earlier i → well_item items S earlier i ≡ true
well_is_passed items S earlier (item.State T) w = true_not _ w
well_is_passed items S earlier (item.Init e) w = passes items _ false _ e S w
well_is_passed items S earlier (item.Command e) w = passes items _ false _ e (ty.List ty.Call) w
well_is_passed items S earlier (item.Fun f) w = passes items earlier f.is_post _ f.body f.result w
well_is_passed items S earlier (item.Op o) w = well_operation_passes items S o w

-- ---- the least item that is not well typed, of those from a number on

record IsLeastFrom (items : List Item) (S : Ty) (first : ℕ) (earlier later : List Item) (number : ℕ) : Type 0 where
  before : List Item
  here : Item
  after : List Item
  parts : later ≡ before ++ here ∷ after
  place : number ≡ first + length before
  well : WellItems items S earlier before
  ill : WellItem items S (reverse before ++ earlier) here → ⊥

abbrev Answer : List Item → Ty → ℕ → List Item → List Item → Option ℕ → Type 0
Answer items S first earlier later None = WellItems items S earlier later
Answer items S first earlier later (Some number) = IsLeastFrom items S first earlier later number

later_ill : (items : List Item) (S : Ty) (first : ℕ) (earlier : List Item) (i : Item) (later : List Item) (number : ℕ) → WellItem items S earlier i
    → IsLeastFrom items S (first + 1) (i ∷ earlier) later number → IsLeastFrom items S first earlier (i ∷ later) number
later_ill items S first earlier i later number w l =
    let P : List Item → Type 0 = λ xs. WellItem items S xs l.here → ⊥ in
    let e : reverse l.before ++ (i ∷ earlier) ≡ reverse (i ∷ l.before) ++ earlier = sym (ap (λ xs. xs ++ earlier) (reverse-append (i ∷ []) l.before) ∙ append_assoc (reverse l.before) (i ∷ []) earlier) in
    let p = l.place in
    record {
      before = i ∷ l.before;
      here = l.here;
      after = l.after;
      parts = ap (λ xs. i ∷ xs) l.parts;
      place = omega arith;
      well = (w, l.well);
      ill = subst P e l.ill;
    }

answer_step : (items : List Item) (S : Ty) (first : ℕ) (earlier : List Item) (i : Item) (later : List Item) (o : Option ℕ) → WellItem items S earlier i
    → Answer items S (first + 1) (i ∷ earlier) later o → Answer items S first earlier (i ∷ later) o
answer_step items S first earlier i later None w a = (w, a)
answer_step items S first earlier i later (Some number) w a = later_ill items S first earlier i later number w a

answer : (items : List Item) (S : Ty) (first : ℕ) (earlier later : List Item) → Answer items S first earlier later (first_ill items S first earlier later)
answer items S first earlier [] = tt
answer items S first earlier (i ∷ later) = elim (cases_Bool (well_item items S earlier i)) [
  | inl e ↦ rw e (answer_step items S first earlier i later _ (passed_is_well items S earlier i e) (answer items S (first + 1) (i ∷ earlier) later))
  | inr e ↦
      let no_way : WellItem items S earlier i → ⊥ = λ w. let t = well_is_passed items S earlier i w in absurd (cc) in
      rw e (record { before = []; here = i; after = later; parts = refl; place = omega arith; well = tt; ill = no_way })
]

pub all_well : (items : List Item) (S : Ty) → first_ill items S 1 [] items ≡ None → WellItems items S [] items
all_well items S h = let P : Option ℕ → Type 0 = λ o. Answer items S 1 [] items o in subst P h (answer items S 1 [] items)

pub least_ill : (items : List Item) (S : Ty) (number : ℕ) → first_ill items S 1 [] items ≡ Some number → IsLeastIll items S number
least_ill items S number h =
    let P : Option ℕ → Type 0 = λ o. Answer items S 1 [] items o in
    let l : IsLeastFrom items S 1 [] items number = subst P h (answer items S 1 [] items) in
    let Q : List Item → Type 0 = λ xs. WellItem items S xs l.here → ⊥ in
    let p = l.place in
    record { before = l.before; here = l.here; after = l.after; parts = l.parts; place = omega arith; well = l.well; ill = subst Q (append-nil (reverse l.before)) l.ill }
