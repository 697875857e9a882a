-- What the functions return that find what an input means.
use Rattle.std.proofs.Common.{◌≡◌, ◌∙◌, ℕ, false, List, take, Option, Some, None, Ok, Err, IfOk, sym, ap, subst}
use Rattle.std.specs.Prelude.{Result}
use Rattle.std.specs.declared.alloc.AllocError.{AllocError}
use Rattle.std.specs.declared.alloc.Global.{Global}
use Rattle.std.specs.declared.vec.Vec.{Vec}
use Rattle.pst_input.specs.Lines.{blanked, has_first_tree}
use Rattle.pst_input.specs.Meaning.{HasJson, Means, no_model, unread, items}
use Rattle.pst_input.specs.Plain.{MeansTrees, blanks, trees, plain_of}
use Rattle.pst_json_runs.specs.Lines.{trees_text}
use Rattle.pst_model.specs.declared.model.Source.{Source}
use Rattle.pst_sexpr.specs.Reading.{IsFault}
use Rattle.pst_sexpr.specs.declared.form.Form.{Form}
use Rattle.pst_sexpr.specs.declared.reader.SexprFault.{SexprFault}
use Rattle.pst_typing.specs.Loading.{Holds, IsFile, IsRefusal}
use Rattle.pst_typing.specs.declared.loading.Refusal.{Refusal}

-- ---- around the items as JSON

pub blanks_meant : (m : Source) (text bytes plain : List ℕ) (fault : SexprFault) → bytes ≡ blanked text → IsFault bytes fault → plain ≡ bytes
    → MeansTrees m text plain
blanks_meant m text bytes plain fault e is p =
    let IsSo : List ℕ → Type 0 = λ l. IsFault l fault in
    blanks fault (subst IsSo e is) (p ∙ e)

pub trees_meant : (m : Source) (text bytes : List ℕ) (around : List Form) → bytes ≡ blanked text → IsFile bytes around
    → (r : Result (Vec ℕ Global) AllocError) → IfOk r (λ v. v.items ≡ trees_text m text) → IfOk r (λ v. MeansTrees m text v.items)
trees_meant m text bytes around e is (Ok v) p =
    let IsSo : List ℕ → Type 0 = λ l. IsFile l around in
    trees around (subst IsSo e is) p
trees_meant m text bytes around e is (Err x) p = tt

-- ---- after the head

module _ (input head : List ℕ) (at : ℕ) (json : HasJson input at) (is_head : head ≡ take at input) where
  by_case : (m : Source) (before : List Form) → Holds (take at input) m before → (plain : List ℕ) → MeansTrees m input plain
      → Means input plain
  by_case m before holds plain (blanks fault is e) = unread at m before fault json holds is e
  by_case m before holds plain (trees around is e) = items at m before around json holds is e

  pub whole_meant : (m n : Source) (before : List Form) → n ≡ m → Holds head m before
      → (r : Result (Vec ℕ Global) AllocError) → IfOk r (λ v. MeansTrees n input v.items) → IfOk r (λ v. Means input v.items)
  whole_meant m n before same holds (Ok v) p =
      let IsSo : List ℕ → Type 0 = λ l. Holds l m before in
      let Trees : Source → Type 0 = λ s. MeansTrees s input v.items in
      by_case m before (subst IsSo is_head holds) v.items (subst Trees same p)
  whole_meant m n before same holds (Err x) p = tt

  pub head_meant : (refusal : Refusal) → IsRefusal head refusal
      → (r : Result (Vec ℕ Global) AllocError) → IfOk r (λ v. v.items ≡ head) → IfOk r (λ v. Means input v.items)
  head_meant refusal is (Ok v) p =
      let IsSo : List ℕ → Type 0 = λ l. IsRefusal l refusal in
      no_model at refusal json (subst IsSo is_head is) (p ∙ is_head)
  head_meant refusal is (Err x) p = tt

-- ---- what is kept

module _ (bytes input out : List ℕ) (plain : Option (Vec ℕ Global)) (means : Means bytes (plain_of bytes plain)) (is_input : bytes ≡ input) where
  from_plain : out ≡ plain_of bytes plain → Means input out
  from_plain e =
      let Bytes : List ℕ → Type 0 = λ l. Means l out in
      let Plain : List ℕ → Type 0 = λ l. Means bytes l in
      subst Bytes is_input (subst Plain (sym e) means)

  pub some_plain : (v : Vec ℕ Global) → plain ≡ Some v → out ≡ v.items → Means input out
  some_plain v is e = from_plain (e ∙ sym (ap (plain_of bytes) is))

  pub no_plain : plain ≡ None → out ≡ bytes → Means input out
  no_plain is e = from_plain (e ∙ sym (ap (plain_of bytes) is))
