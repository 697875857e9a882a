-- What a scan's outcome says of the file.
use Rattle.std.proofs.Common.{◌≡◌, ℕ, ◌≤◌, Result, Ok, Err, List, length, sym, ◌∙◌, ◌⊎◌, inl, inr, ⊎_elim}
use Rattle.std.specs.Result.{MatchResult, IfOk, IfErr}
use Rattle.pst_sexpr.specs.declared.form.Form.{Form}
use Rattle.pst_sexpr.specs.declared.reader.SexprFault.{SexprFault}
use Rattle.pst_sexpr.specs.Fault.{Gives, no_memory}
use Rattle.pst_sexpr.specs.Reading.{max_bytes, max_levels, Spells, IsFault}
use Rattle.pst_sexpr.specs.Scan.{outcome, start}
use Rattle.pst_sexpr.proofs.Complete.{spelled_outcome}
use Rattle.pst_sexpr.proofs.Ended.{sound}
use Rattle.pst_sexpr.proofs.Viable.{err_is_not_ok}
use Rattle.pst_sexpr.proofs.Faults.{fault_within}

pub same_value : {T E : Type 0} (x y : T) → ◌≡◌ {A = Result T E} (Ok x) (Ok y) → x ≡ y
same_value x y e = cc

module _ {X : Type 0} (view : X → List Form) (bytes : List ℕ) where
  pub found : (r : Result X SexprFault) → Gives view r (outcome max_levels start 0 bytes) → length bytes ≤ max_bytes →
      IfOk r (λ x. (length bytes ≤ max_bytes) × Spells bytes (view x))
  found (Ok x) g n = (n, sound max_levels bytes (view x) g)
  found (Err f) g n = tt

  pub only : (r : Result X SexprFault) → Gives view r (outcome max_levels start 0 bytes) → (spelled : List Form) → Spells bytes spelled →
      MatchResult r (λ x. view x ≡ spelled) (λ f. f ≡ no_memory)
  only (Ok x) g spelled h = same_value (view x) spelled (sym g ∙ spelled_outcome max_levels bytes spelled h)
  only (Err f) g spelled h = ⊎_elim (λ e. e) (λ e. absurd (err_is_not_ok f spelled (sym e ∙ spelled_outcome max_levels bytes spelled h))) g

  pub fault : (r : Result X SexprFault) → Gives view r (outcome max_levels start 0 bytes) → length bytes ≤ max_bytes →
      IfErr r (λ f. (f ≡ no_memory) ⊎ IsFault bytes f)
  fault (Ok x) g n = tt
  fault (Err f) g n = ⊎_elim (λ e. inl e) (λ e. inr (inr (n, fault_within bytes f e))) g

-- what the scan gives is a reading or a fault
pub either_way : (bytes : List ℕ) → length bytes ≤ max_bytes → (r : Result (List Form) SexprFault) → outcome max_levels start 0 bytes ≡ r →
    ((trees : List Form) × Spells bytes trees) ⊎ ((f : SexprFault) × IsFault bytes f)
either_way bytes n (Ok trees) e = inl (trees, sound max_levels bytes trees e)
either_way bytes n (Err f) e = inr (f, inr (n, fault_within bytes f e))
