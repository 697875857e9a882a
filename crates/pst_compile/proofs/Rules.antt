-- The rules of blocks that jump.
use Rattle.std.proofs.Common.{◌≡◌, ℕ, zero, suc, ◌+◌, ◌<◌, List, [], ◌∷◌, ◌++◌, length, Some, None, refl, sym, ap, ◌∙◌, subst, arith, append_assoc, length-append}
use Rattle.std.specs.Prelude.{Bool, true, false, if◌then◌else◌, slice_get, pos}
use Rattle.std.proofs.Math.Seq.{get_or-append_seam}
use Rattle.std.proofs.lemmas.Option.{slice_get-get_or, slice_get_past}
use Rattle.pst_value.specs.declared.value.Value.{Value}
use Rattle.pst_eval.specs.Meaning.{lift}
use Rattle.pst_operators.specs.Operators.{truth_of, items_of, int, list}
use Rattle.pst_operators.specs.Outcome.{Outcome, Gives, Faults, Stuck, and_then, turn}
use Rattle.pst_machine.specs.declared.code.Instr.TheVariants.{Jump, Unless, Loop}
use Rattle.pst_machine.specs.declared.code.FunCode.{FunCode}
use Rattle.pst_machine.specs.declared.machine.Frame.{Frame}
use Rattle.pst_machine.specs.Machine.{Regs, read, write, Continues, using, fetch, step, index_of, next_item}
use Rattle.pst_compile.specs.Code.{Block, ◌then◌, nothing, where_true, choice, each}
use Rattle.pst_compile.proofs.Regs.{read_write, read_other}
use Rattle.pst_compile.proofs.Shapes.{items_list, index_int, IsQuiet}
use Rattle.pst_compile.proofs.Steps.{state_at, stays, one_step, one_halt, HasAt, has_front, has_back, Reaches, before, bind, follow, there, Runs, obeys}

item_here : (done : List Value) (v : Value) (vs : List Value) → slice_get (done ++ v ∷ vs) (length done) ≡ Some v
item_here done v vs =
    let within : length done < length (done ++ v ∷ vs) = omega (arith, length-append done (v ∷ vs)) in
    slice_get-get_or (done ++ v ∷ vs) (length done) v within ∙ ap Some (get_or-append_seam done v vs v)

no_item : (done : List Value) → slice_get (done ++ []) (length done) ≡ None
no_item done = slice_get_past (done ++ []) (length done) (omega (arith, length-append done []))

module _ (code : List FunCode) (f : ℕ) (callers : List Frame) where
  pub runs_stuck : {A : Type 0} (b : Block) (regs : Regs) (turns : ℕ) (Q : A → Regs → Type 0) → Runs code f callers b regs turns Q Stuck
  runs_stuck b regs turns Q = record { at = λ p has. tt }

  -- an operator that is stuck or gives a value
  pub runs_quiet : {A B : Type 0} (b : Block) (regs : Regs) (turns : ℕ) (Q : B → Regs → Type 0) (o : Outcome A) (k : A → ℕ → Outcome (B × ℕ)) → IsQuiet o → ((a : A) → o ≡ Gives a → Runs code f callers b regs turns Q (k a turns)) → Runs code f callers b regs turns Q (and_then (lift o turns) (λ r. k r.0 r.1))
  runs_quiet b regs turns Q (Gives a) k quiet g = g a refl
  runs_quiet b regs turns Q (Faults why) k quiet g = absurd quiet
  runs_quiet b regs turns Q Stuck k quiet g = runs_stuck b regs turns Q

  pub runs_nothing : {A : Type 0} (regs : Regs) (turns : ℕ) (Q : A → Regs → Type 0) (a : A) → Q a regs → Runs code f callers nothing regs turns Q (Gives (a, turns))
  runs_nothing regs turns Q a q = record {
    at = λ p has.
        let e : p ≡ p + 0 = omega arith in
        there code f callers _ _ _ Q (Gives (a, turns)) e (regs, q, stays code _);
  }

  -- what follows has no code
  pub runs_sure : {A B : Type 0} (a : Block) (regs : Regs) (turns : ℕ) (Q : A → Regs → Type 0) (Q' : B → Regs → Type 0) (m : Outcome (A × ℕ)) (k : A → ℕ → Outcome (B × ℕ)) → Runs code f callers a regs turns Q m → ((v : A) (left : ℕ) (regs' : Regs) → Q v regs' → Runs code f callers nothing regs' left Q' (k v left)) → Runs code f callers a regs turns Q' (and_then m (λ r. k r.0 r.1))
  runs_sure a regs turns Q Q' m k h g = record {
    at = λ p has.
        let q = p + length (a p) in
        let e : q + 0 ≡ q = omega arith in
        there code f callers _ _ _ Q' (and_then m (λ r. k r.0 r.1)) e (bind code f callers _ q (q + 0) Q Q' m k (h.at p has) (λ v left regs' x. (g v left regs' x).at q tt));
  }

  test_step : (p q r : ℕ) (regs : Regs) (turns : ℕ) (t : Bool) → fetch code f p ≡ Some (Unless r q) → and_then (read regs r) truth_of ≡ Gives t → step code (state_at f p regs turns callers) ≡ Continues (state_at f (if t then p + 1 else q) regs turns callers)
  test_step p q r regs turns t h e = obeys code f callers p regs turns (Unless r q) h ∙ ap (λ o. using o (λ b. Continues (state_at f (if b then p + 1 else q) regs turns callers))) e

  pub runs_where : {A : Type 0} (r : ℕ) (a : Block) (regs : Regs) (turns : ℕ) (Q : A → Regs → Type 0) (m : Bool → Outcome (A × ℕ)) (t : Bool) → and_then (read regs r) truth_of ≡ Gives t → (t ≡ true → Runs code f callers a regs turns Q (m true)) → (t ≡ false → Runs code f callers nothing regs turns Q (m false)) → Runs code f callers (where_true r a) regs turns Q (m t)
  runs_where r a regs turns Q m true e ra rb = record {
    at = λ p has.
        let q = p + 1 + length (a (p + 1)) in
        let len : q ≡ p + length (Unless r q ∷ a (p + 1)) = omega arith in
        there code f callers _ _ _ Q (m true) len (before code f callers _ (state_at f (p + 1) regs turns callers) _ Q (m true) (one_step code _ _ (test_step p q r regs turns true has.0 e)) ((ra refl).at (p + 1) has.1));
  }
  runs_where r a regs turns Q m false e ra rb = record {
    at = λ p has.
        let q = p + 1 + length (a (p + 1)) in
        let len : q + 0 ≡ p + length (Unless r q ∷ a (p + 1)) = omega arith in
        there code f callers _ _ _ Q (m false) len (before code f callers _ (state_at f q regs turns callers) _ Q (m false) (one_step code _ _ (test_step p q r regs turns false has.0 e)) ((rb refl).at q tt));
  }

  pub runs_choice : {A : Type 0} (r : ℕ) (a b : Block) (regs : Regs) (turns : ℕ) (Q : A → Regs → Type 0) (m : Bool → Outcome (A × ℕ)) (t : Bool) → and_then (read regs r) truth_of ≡ Gives t → Runs code f callers a regs turns Q (m true) → Runs code f callers b regs turns Q (m false) → Runs code f callers (choice r a b) regs turns Q (m t)
  runs_choice r a b regs turns Q m true e ra rb = record {
    at = λ p has.
        let qa = p + 1 + length (a (p + 1)) in
        let qb = qa + 1 in
        let q = qb + length (b qb) in
        let len : q ≡ p + length (Unless r qb ∷ (a (p + 1) ++ Jump q ∷ b qb)) = omega (arith, length-append (a (p + 1)) (Jump q ∷ b qb)) in
        let jump = (has_back code f (p + 1) (a (p + 1)) _ has.1).0 in
        there code f callers _ _ _ Q (m true) len
        (before code f callers _ (state_at f (p + 1) regs turns callers) _ Q (m true) (one_step code _ _ (test_step p qb r regs turns true has.0 e))
        (follow code f callers _ qa q Q Q (m true) (ra.at (p + 1) (has_front code f (p + 1) (a (p + 1)) _ has.1))
        (λ v left regs' h. (regs', h, one_step code _ _ (obeys code f callers qa regs' left (Jump q) jump)))));
  }
  runs_choice r a b regs turns Q m false e ra rb = record {
    at = λ p has.
        let qa = p + 1 + length (a (p + 1)) in
        let qb = qa + 1 in
        let q = qb + length (b qb) in
        let len : q ≡ p + length (Unless r qb ∷ (a (p + 1) ++ Jump q ∷ b qb)) = omega (arith, length-append (a (p + 1)) (Jump q ∷ b qb)) in
        there code f callers _ _ _ Q (m false) len
        (before code f callers _ (state_at f qb regs turns callers) _ Q (m false) (one_step code _ _ (test_step p qb r regs turns false has.0 e))
        (rb.at qb (has_back code f (p + 1) (a (p + 1)) _ has.1).1));
  }

  -- a loop over the items of a list
  module _ {B : Type 0} (d a i : ℕ) (body : Block) (items : List Value) (Inv : B → Regs → Type 0) (st : Value → B → ℕ → Outcome (B × ℕ)) (g : List Value → B → ℕ → Outcome (B × ℕ)) where
    pub record IsLoop : Type 0 where
      pub apart_ai : a ≡ i → ⊥
      pub apart_ad : a ≡ d → ⊥
      pub apart_id : i ≡ d → ⊥
      pub none : (b : B) (left : ℕ) → g [] b left ≡ Gives (b, left)
      pub more : (v : Value) (vs : List Value) (b : B) (left : ℕ) → g (v ∷ vs) b left ≡ and_then (turn left) (λ u. and_then (st v b u.1) (λ r. g vs r.0 r.1))
      pub writes : (b : B) (regs : Regs) (n v : Value) → Inv b regs → Inv b (write (write regs i n) d v)
      pub turn : (v : Value) (b : B) (left : ℕ) (regs : Regs) (n : ℕ) → Inv b regs → read regs a ≡ Gives (list items) → read regs i ≡ Gives (int (pos n)) → read regs d ≡ Gives v → Runs code f callers body regs left (λ b' regs'. Inv b' regs' × (read regs' a ≡ Gives (list items)) × (read regs' i ≡ Gives (int (pos n)))) (st v b left)

    module _ (l : IsLoop) (p : ℕ) (at_body : HasAt code f (p + 1) (body (p + 1))) (at_loop : fetch code f (p + 1 + length (body (p + 1))) ≡ Some (Loop d a i (p + 1))) where
      loop_step : (regs : Regs) (left k : ℕ) → read regs a ≡ Gives (list items) → read regs i ≡ Gives (int (pos k)) → step code (state_at f (p + 1 + length (body (p + 1))) regs left callers) ≡ next_item (slice_get items k) k d i (p + 1) (state_at f (p + 1 + length (body (p + 1))) regs left callers)
      loop_step regs left k ha hi =
          let q = p + 1 + length (body (p + 1)) in
          obeys code f callers q regs left (Loop d a i (p + 1)) at_loop
          ∙ ap (λ o. using (and_then o items_of) (λ vs. using (and_then (read regs i) index_of) (λ k. next_item (slice_get vs k) k d i (p + 1) (state_at f q regs left callers)))) ha
          ∙ ap (λ o. using o (λ vs. using (and_then (read regs i) index_of) (λ k. next_item (slice_get vs k) k d i (p + 1) (state_at f q regs left callers)))) (items_list items)
          ∙ ap (λ o. using (and_then o index_of) (λ k. next_item (slice_get items k) k d i (p + 1) (state_at f q regs left callers))) hi
          ∙ ap (λ o. using o (λ k. next_item (slice_get items k) k d i (p + 1) (state_at f q regs left callers))) (index_int k)

      loop_reaches : (rest done : List Value) (b : B) (left : ℕ) (regs : Regs) → items ≡ done ++ rest → Inv b regs → read regs a ≡ Gives (list items) → read regs i ≡ Gives (int (pos (length done))) → Reaches code f callers (state_at f (p + 1 + length (body (p + 1))) regs left callers) (p + 1 + length (body (p + 1)) + 1) Inv (g rest b left)
      loop_reaches [] done b left regs is inv ha hi =
          let q = p + 1 + length (body (p + 1)) in
          let none : slice_get items (length done) ≡ None = ap (λ l. slice_get l (length done)) is ∙ no_item done in
          subst (Reaches code f callers (state_at f q regs left callers) (q + 1) Inv) (sym (l.none b left))
          (regs, inv, one_step code _ _ (loop_step regs left (length done) ha hi ∙ ap (λ o. next_item o (length done) d i (p + 1) (state_at f q regs left callers)) none))
      loop_reaches (v ∷ rest) done b zero regs is inv ha hi =
          let q = p + 1 + length (body (p + 1)) in
          let here : slice_get items (length done) ≡ Some v = ap (λ l. slice_get l (length done)) is ∙ item_here done v rest in
          subst (Reaches code f callers (state_at f q regs zero callers) (q + 1) Inv) (sym (l.more v rest b zero))
          (one_halt code _ _ (loop_step regs zero (length done) ha hi ∙ ap (λ o. next_item o (length done) d i (p + 1) (state_at f q regs zero callers)) here))
      loop_reaches (v ∷ rest) done b (suc left) regs is inv ha hi =
          let q = p + 1 + length (body (p + 1)) in
          let k = length done in
          let here : slice_get items k ≡ Some v = ap (λ l. slice_get l k) is ∙ item_here done v rest in
          let regs1 = write regs i (int (pos (k + 1))) in
          let regs2 = write regs1 d v in
          let ha2 : read regs2 a ≡ Gives (list items) = read_other regs1 d v a l.apart_ad ∙ read_other regs i _ a l.apart_ai ∙ ha in
          let hi2 : read regs2 i ≡ Gives (int (pos (k + 1))) = read_other regs1 d v i l.apart_id ∙ read_write regs i _ in
          let n : k + 1 ≡ length (done ++ v ∷ []) = omega (arith, length-append done (v ∷ [])) in
          let is2 : items ≡ (done ++ v ∷ []) ++ rest = is ∙ sym (append_assoc done (v ∷ []) rest) in
          subst (Reaches code f callers (state_at f q regs (suc left) callers) (q + 1) Inv) (sym (l.more v rest b (suc left)))
          (before code f callers _ (state_at f (p + 1) regs2 left callers) (q + 1) Inv (and_then (st v b left) (λ r. g rest r.0 r.1))
          (one_step code _ _ (loop_step regs (suc left) k ha hi ∙ ap (λ o. next_item o k d i (p + 1) (state_at f q regs (suc left) callers)) here))
          (bind code f callers _ q (q + 1) _ Inv (st v b left) (g rest) ((l.turn v b left regs2 (k + 1) (l.writes b regs _ v inv) ha2 hi2 (read_write regs1 d v)).at (p + 1) at_body)
          (λ b' left' regs' h. loop_reaches rest (done ++ v ∷ []) b' left' regs' is2 h.0 h.1 (h.2 ∙ ap (λ n. Gives (int (pos n))) n))))

    pub runs_each : IsLoop → (regs : Regs) (turns : ℕ) (b : B) → Inv b regs → read regs a ≡ Gives (list items) → read regs i ≡ Gives (int (pos 0)) → Runs code f callers (each d a i body) regs turns Inv (g items b turns)
    runs_each l regs turns b inv ha hi = record {
      at = λ p has.
          let q = p + 1 + length (body (p + 1)) in
          let len : q + 1 ≡ p + length (Jump q ∷ (body (p + 1) ++ Loop d a i (p + 1) ∷ [])) = omega (arith, length-append (body (p + 1)) (Loop d a i (p + 1) ∷ [])) in
          there code f callers _ _ _ Inv (g items b turns) len
          (before code f callers _ (state_at f q regs turns callers) (q + 1) Inv (g items b turns) (one_step code _ _ (obeys code f callers p regs turns (Jump q) has.0))
          (loop_reaches l p (has_front code f (p + 1) (body (p + 1)) _ has.1) (has_back code f (p + 1) (body (p + 1)) _ has.1).0 items [] b turns regs refl inv ha hi));
    }
