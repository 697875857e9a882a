-- What is written for a model is read as the model.
use Rattle.std.proofs.Common.{◌≡◌, ◌+◌, Bool, true, false, List, [], ◌∷◌, ◌++◌, length, map, Result, Ok, refl, sym, ap, ◌∙◌, subst, append_assoc}
use Rattle.std.specs.Prelude.{nat_le}
use Rattle.std.proofs.lemmas.List.{append-nil}
use Rattle.pst_sexpr.specs.declared.form.Form.{Form}
use Rattle.pst_sexpr.specs.declared.form.Form.TheVariants.{Word}
use Rattle.pst_sexpr.specs.Lawful.{IsTree}
use Rattle.pst_model.specs.declared.model.Item.{Item}
use Rattle.pst_model.specs.declared.model.Source.{Source}
use Rattle.pst_syntax.specs.declared.fault.SyntaxFault.{SyntaxFault}
use Rattle.pst_syntax.specs.Counting.{trees_in}
use Rattle.pst_model.specs.Names.{is_name}
use Rattle.pst_syntax.specs.ItemShape.{ModelShape, model_shape}
use Rattle.pst_syntax.specs.Reading.{known, within, declared}
use Rattle.pst_syntax.specs.Items.{item_of, at_item, go_on, items_from, is_complete, complete, head_parts, head_of_model, model_of, IsModel}
use Rattle.pst_syntax.specs.Limits.{max_trees}
use Rattle.pst_syntax.proofs.Complete.{go_ok, at_ok}
use Rattle.pst_print.specs.Printed.{item_form, source_form}
use Rattle.pst_print.specs.Words.{model_word}
use Rattle.pst_sexpr.specs.Parts.{headed}
use Rattle.pst_print.proofs.Alike.{Alike, AllAlike, none, more, itself, alike_node}
use Rattle.pst_print.proofs.ItemShapes.{model, model_is, model_shaped}
use Rattle.pst_print.proofs.TyAgain.{behind, onward, knows, inside, okay, same, declared_is}
use Rattle.pst_print.proofs.ItemAgain.{item_again}

go : {A B : Type 0} (r : Result A SyntaxFault) (f : A → Result B SyntaxFault) (a : A) (b : B) → r ≡ Ok a → f a ≡ Ok b → go_on r f ≡ Ok b
go r f a b e g = ap (λ q. go_on q f) e ∙ g

-- ---- the items

record ItemsAgain (maps : Bool) (seen : List Item) (fs : List Form) (all : List Item) : Type 0 where
  rest : List Item
  whole : seen ++ rest ≡ all
  reads : items_from maps seen (map item_form rest) ≡ Ok all
  alike : AllAlike fs (map item_form rest)

items_again : (maps : Bool) (seen : List Item) (fs : List Form) (all : List Item) → items_from maps seen fs ≡ Ok all → ItemsAgain maps seen fs all
items_again maps seen [] all k = record { rest = []; whole = append-nil seen ∙ same_items seen all k; reads = k; alike = none }
  where
    same_items : (a b : List Item) → items_from maps a [] ≡ Ok b → a ≡ b
    same_items a b e = cc
items_again maps seen (f ∷ fs) all k =
    let p = go_ok (at_item (length seen + 1) (item_of maps seen f)) (λ i. items_from maps (seen ++ i ∷ []) fs) all k in
    let a = item_again maps seen f p.0 (at_ok (length seen + 1) (item_of maps seen f) p.0 p.1) in
    let r = items_again maps (seen ++ p.0 ∷ []) fs all p.2 in
    record {
      rest = p.0 ∷ r.rest;
      whole = sym (append_assoc seen (p.0 ∷ []) r.rest) ∙ r.whole;
      reads = go (at_item (length seen + 1) (item_of maps seen (item_form p.0))) (λ i. items_from maps (seen ++ i ∷ []) (map item_form r.rest)) p.0 all (ap (at_item (length seen + 1)) a.reads) r.reads;
      alike = more a.alike r.alike;
    }

-- ---- the model

-- the items of a model, where its head is known
abbrev rest_of : ModelShape → Result Source SyntaxFault
rest_of m = go_on (items_from m.has_maps [] m.items) (λ items. at_item 0 (complete (is_complete items) m items))

abbrev source : ModelShape → List Item → Source
source m items = record { has_maps = m.has_maps; name = m.name; items = items }

-- the head of the tree that is written for a model
abbrev written : Source → ModelShape
written s = model s.has_maps s.name (map item_form s.items)

completes : (b : Bool) (m : ModelShape) (items : List Item) (s : Source) → complete b m items ≡ Ok s → (b ≡ true) × (source m items ≡ s)
completes true m items s e = (refl, same (source m items) s e)
completes false m items s e = absurd (cc)

record RestAgain (m : ModelShape) (s : Source) : Type 0 where
  language : m.has_maps ≡ s.has_maps
  name : m.name ≡ s.name
  reads : rest_of (written s) ≡ Ok s
  alike : AllAlike m.items (map item_form s.items)

rest_again : (m : ModelShape) (s : Source) → rest_of m ≡ Ok s → RestAgain m s
rest_again m s k =
    let g = go_ok (items_from m.has_maps [] m.items) (λ items. at_item 0 (complete (is_complete items) m items)) s k in
    let c = completes (is_complete g.0) m g.0 s (at_ok 0 (complete (is_complete g.0) m g.0) s g.2) in
    let a = items_again m.has_maps [] m.items g.0 g.1 in
    let w : a.rest ≡ g.0 = a.whole in
    let n = written (source m g.0) in
    subst (RestAgain m) c.1 (record {
      language = refl;
      name = refl;
      reads = go (items_from m.has_maps [] (map item_form g.0)) (λ items. at_item 0 (complete (is_complete items) n items)) g.0 (source m g.0) (ap (λ r. items_from m.has_maps [] (map item_form r)) (sym w) ∙ a.reads) (ap (λ b. at_item 0 (complete b n g.0)) c.0);
      alike = subst (λ r. AllAlike m.items (map item_form r)) w a.alike;
    })

record ModelAgain (tree : Form) (s : Source) : Type 0 where
  reads : model_of (source_form s ∷ []) ≡ Ok s
  alike : Alike tree (source_form s)

model_again : (tree : Form) (s : Source) → model_of (tree ∷ []) ≡ Ok s → ModelAgain tree s
model_again tree s k =
    let p = go_ok (at_item 0 (head_of_model (tree ∷ []))) (λ m. rest_of m) s k in
    let w = inside (nat_le (trees_in tree) max_trees) (known (model_shape tree) head_parts) p.0 (at_ok 0 (head_of_model (tree ∷ [])) p.0 p.1) in
    let m = knows (model_shape tree) head_parts p.0 w.1 in
    let maps = m.0.has_maps in
    let fs = m.0.items in
    let d = behind (declared (is_name m.0.name) false m.0.name) (λ x. okay (model maps x fs)) p.0 m.2 in
    let e : model maps d.0 fs ≡ p.0 = same (model maps d.0 fs) p.0 d.2 in
    let r = rest_again (model maps d.0 fs) s (ap (λ m. rest_of m) e ∙ p.2) in
    let n : m.0.name ≡ s.name = declared_is (is_name m.0.name) false m.0.name d.0 d.1 ∙ r.name in
    let is : tree ≡ headed (model_word s.has_maps) (Word s.name ∷ fs) =
    model_is tree m.0 m.1 ∙ ap (λ x. headed (model_word maps) (Word x ∷ fs)) n ∙ ap (λ l. headed (model_word l) (Word s.name ∷ fs)) r.language in
    let a : Alike tree (source_form s) = subst (λ f. Alike f (source_form s)) (sym is) (alike_node (more (itself _) (more (itself _) r.alike))) in
    let named : declared (is_name s.name) false s.name ≡ Ok s.name = ap (λ x. declared (is_name x) false x) (sym n) ∙ d.1 ∙ ap (λ x. okay x) r.name in
    let head : head_of_model (source_form s ∷ []) ≡ Ok (written s) =
    ap (λ c. within (nat_le c max_trees) (known (model_shape (source_form s)) head_parts)) a.count
    ∙ ap (λ b. within b (known (model_shape (source_form s)) head_parts)) w.0
    ∙ ap (λ o. known o head_parts) (model_shaped (written s))
    ∙ onward (declared (is_name s.name) false s.name) (λ x. okay (model s.has_maps x (map item_form s.items))) s.name _ named refl in
    record {
      reads = go (at_item 0 (head_of_model (source_form s ∷ []))) (λ m. rest_of m) (written s) s (ap (at_item 0) head) r.reads;
      alike = a;
    }

-- what is printed of a model is lawful, and is read as the model
pub printed_lawful : (s : Source) → IsModel s → IsTree (source_form s)
printed_lawful s h = (model_again h.tree s h.reads).alike.lawful h.lawful

pub printed_reads : (s : Source) → IsModel s → model_of (source_form s ∷ []) ≡ Ok s
printed_reads s h = (model_again h.tree s h.reads).reads

pub ruleset printed = (printed_lawful, printed_reads)
