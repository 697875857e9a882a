-- An input has one meaning.
use Rattle.std.proofs.Common.{◌≡◌, ◌⊎◌, inl, inr, ◌≤◌, ℕ, true, false, List, length, take, Some, None, Ok, Err, sym, ap, ◌∙◌, subst, arith, ⊎_elim}
use Rattle.std.specs.Prelude.{Result}
use Rattle.pst_input.specs.Lines.{blanked, has_first_tree, json_start}
use Rattle.pst_input.specs.Meaning.{HasJson, Means, trees, begun, large, no_model, unread, items}
use Rattle.pst_json_runs.specs.Lines.{trees_text}
use Rattle.pst_model.specs.WellTyped.{WellModel}
use Rattle.pst_model.specs.declared.model.Source.{Source}
use Rattle.pst_sexpr.specs.Reading.{max_bytes, Spells, IsFault}
use Rattle.pst_sexpr.specs.declared.form.Form.{Form}
use Rattle.pst_sexpr.specs.declared.reader.SexprFault.{SexprFault}
use Rattle.pst_syntax.specs.Items.{model_of}
use Rattle.pst_typing.specs.Laws.{IllIsNotWell}
use Rattle.pst_typing.specs.Loading.{Holds, IsFile, IsRefusal}
use Rattle.pst_typing.specs.declared.loading.Refusal.{Refusal}
use Rattle.pst_typing.specs.declared.loading.Refusal.TheVariants.{Unread, NoModel, IllTyped}

-- what is known of the parts: a reading is the only one, and excludes a fault; a model with an ill item is not well typed
pub record OfParts : Type 0 where
  pub reading : (bytes : List ℕ) (trees others : List Form) → Spells bytes trees → Spells bytes others → trees ≡ others
  pub either : (bytes : List ℕ) (trees : List Form) (fault : SexprFault) → length bytes ≤ max_bytes → Spells bytes trees → IsFault bytes fault → ⊥
  pub not_well : IllIsNotWell

is_ok : {A E : Type 0} (r : Result A E) (a b : A) → r ≡ Ok a → r ≡ Ok b → a ≡ b
is_ok (Ok c) a b p q = cc
is_ok (Err c) a b p q = absurd (cc)

not_both : {A E : Type 0} (r : Result A E) (a : A) (b : E) → r ≡ Ok a → r ≡ Err b → ⊥
not_both (Ok c) a b p q = absurd (cc)
not_both (Err c) a b p q = absurd (cc)

one_file : (k : OfParts) (input : List ℕ) (forms others : List Form) → IsFile input forms → IsFile input others → forms ≡ others
one_file k input forms others p q = k.reading input forms others p.spelled q.spelled

one_model : (k : OfParts) (input : List ℕ) (m n : Source) (forms others : List Form) → Holds input m forms → Holds input n others → m ≡ n
one_model k input m n forms others p q =
    let e = one_file k input forms others p.file q.file in
    is_ok (model_of others) m n (ap model_of (sym e) ∙ p.model) q.model

no_refusal : (k : OfParts) (input : List ℕ) (m : Source) (forms : List Form) (refusal : Refusal) → Holds input m forms → IsRefusal input refusal → ⊥
no_refusal k input m forms (Unread fault) p q = k.either input forms fault p.file.small p.file.spelled q
no_refusal k input m forms (NoModel fault) p q =
    let e = one_file k input q.0 forms q.1 p.file in
    not_both (model_of forms) m fault p.model (ap model_of (sym e) ∙ q.2)
no_refusal k input m forms (IllTyped number) p q =
    let e = one_file k input q.0 forms q.2 p.file in
    let f = is_ok (model_of forms) q.1 m (ap model_of (sym e) ∙ q.3) p.model in
    k.not_well q.1 number q.4 (subst WellModel (sym f) p.typed)

-- what an input means whose items as JSON begin at a place
data MeansAt (at : ℕ) (input plain : List ℕ) : Type 0 where
  head : (refusal : Refusal) → IsRefusal (take at input) refusal → plain ≡ take at input → MeansAt at input plain
  blanks : (m : Source) (before : List Form) (fault : SexprFault) → Holds (take at input) m before
      → IsFault (blanked input) fault → plain ≡ blanked input → MeansAt at input plain
  whole : (m : Source) (before around : List Form) → Holds (take at input) m before
      → IsFile (blanked input) around → plain ≡ trees_text m input → MeansAt at input plain

one_at : (k : OfParts) (at : ℕ) (input plain other : List ℕ) → MeansAt at input plain → MeansAt at input other → plain ≡ other
one_at k at input plain other (head r h e) (head s i f) = e ∙ sym f
one_at k at input plain other (head r h e) (blanks n others g i j f) = absurd (no_refusal k (take at input) n others r i h)
one_at k at input plain other (head r h e) (whole n others around i j f) = absurd (no_refusal k (take at input) n others r i h)
one_at k at input plain other (blanks m forms fault h u e) (head s i f) = absurd (no_refusal k (take at input) m forms s h i)
one_at k at input plain other (blanks m forms fault h u e) (blanks n others g i j f) = e ∙ sym f
one_at k at input plain other (blanks m forms fault h u e) (whole n others around i j f) =
    absurd (k.either (blanked input) around fault j.small j.spelled u)
one_at k at input plain other (whole m forms around h u e) (head s i f) = absurd (no_refusal k (take at input) m forms s h i)
one_at k at input plain other (whole m forms around h u e) (blanks n others g i j f) =
    absurd (k.either (blanked input) around g u.small u.spelled j)
one_at k at input plain other (whole m forms around h u e) (whole n others round i j f) =
    e ∙ ap (λ (s : Source). trees_text s input) (one_model k (take at input) m n forms others h i) ∙ sym f

-- the input has no items as JSON, and means itself; or it has some, and means this
abbrev Parts : (input plain : List ℕ) → Type 0
Parts input plain =
    (((at : ℕ) → HasJson input at → ⊥) × (plain ≡ input)) ⊎ ((at : ℕ) × HasJson input at × MeansAt at input plain)

some_place : (input : List ℕ) (at other : ℕ) → json_start input ≡ Some at → json_start input ≡ Some other → at ≡ other
some_place input at other p q = cc

no_place : (input : List ℕ) (at : ℕ) → json_start input ≡ None → json_start input ≡ Some at → ⊥
no_place input at p q = absurd (cc)

true_or_false : (at other : ℕ) (input : List ℕ) → at ≡ other → has_first_tree (take at input) ≡ false → has_first_tree (take other input) ≡ true → ⊥
true_or_false at other input e p q = absurd (cc)

parts_of : (input plain : List ℕ) → Means input plain → Parts input plain
parts_of input plain (trees none e) = inl ((λ at h. no_place input at none h.start), e)
parts_of input plain (begun at start missing e) =
    inl ((λ other h. true_or_false at other input (some_place input at other start h.start) missing h.first), e)
parts_of input plain (large at start more e) = inl ((λ other h. absurd (omega (arith, h.small, more))), e)
parts_of input plain (no_model at r h i e) = inr (at, h, head r i e)
parts_of input plain (unread at m before fault h i u e) = inr (at, h, blanks m before fault i u e)
parts_of input plain (items at m before around h i u e) = inr (at, h, whole m before around i u e)

one_of_parts : (k : OfParts) (input plain other : List ℕ) → Parts input plain → Parts input other → plain ≡ other
one_of_parts k input plain other (inl p) (inl q) = p.1 ∙ sym q.1
one_of_parts k input plain other (inl p) (inr q) = absurd (p.0 q.0 q.1)
one_of_parts k input plain other (inr p) (inl q) = absurd (q.0 p.0 p.1)
one_of_parts k input plain other (inr p) (inr q) =
    let At : ℕ → Type 0 = λ at. MeansAt at input other in
    one_at k p.0 input plain other p.2 (subst At (some_place input q.0 p.0 q.1.start p.1.start) q.2)

pub one_meaning : (k : OfParts) (input plain other : List ℕ) → Means input plain → Means input other → plain ≡ other
one_meaning k input plain other p q = one_of_parts k input plain other (parts_of input plain p) (parts_of input other q)

pub itself_alone : (input plain : List ℕ) → json_start input ≡ None → Means input plain → plain ≡ input
itself_alone input plain none m =
    ⊎_elim (λ p. p.1) (λ p. absurd (no_place input p.0 none p.1.start)) (parts_of input plain m)
