use Rattle.std.proofs.Common.{arith, ◌≡◌, ◌<◌, ◌+◌, ℕ, zero, suc, List, [], ◌∷◌, ◌++◌, take, get_or, set, false, sym, ap, ◌∙◌, get_or-set_other, get_or-set_same}
use mathlib.Core.Option.{some, some-injective, some-ne-none}
use mathlib.Core.Logic.{dite}
use native.Mathlib.Decide.{ℕ_discrete}
use lib.ListN.{get_elem?}
use Rattle.std.specs.Slots.{slots_items, slots_filled, slots_len, slots_counts}
use Rattle.pst_ledger.proofs.entry.take_entries_and_free_table.Goals as goal

take_next : {A : Type 0} (xs : List A) (k : ℕ) (v : A) → get_elem? xs k ≡ some v → take (suc k) xs ≡ take k xs ++ v ∷ []
take_next [] k v e = absurd (some-ne-none v (sym e))
take_next (x ∷ xs) zero v e = ap (λ y. y ∷ []) (some-injective x v e)
take_next (x ∷ xs) (suc k) v e = ap (λ l. x ∷ l) (take_next xs k v e)

pub loop-k-preserved : goal.loop-k-preserved
loop-k-preserved g c =
    let k : ℕ = c.loop-k.k in
    let old = c.loop-k.closed.slots in
    let h = c.loop-k.invariant in
    let o = c.take.ensures.others in
    let counts = slots_counts old in
    let value = sym (ap (λ l. get_elem? l k) h.same) ∙ c.take.ensures.value in
    let more : suc k ≡ k + 1 = omega arith in
    let lt : k < slots_len old = omega (arith, c.loop-k-test.true, h.long, c.slot_count-k-end.ensures) in
    record {
      left = λ j le b. ap (λ l. get_or l j false) o.1 ∙ (get_or-set_other (slots_filled old) k j false false (λ e. omega arith) ∙ h.left j (omega arith) (let a = o.2 in omega (arith, a)));
      taken = λ j le. ap (λ l. get_or l j false) o.1 ∙ dite (ℕ_discrete j k)
          (λ (e : j ≡ k). ap (λ (z : ℕ). get_or (set (slots_filled old) k false) z false) e ∙ get_or-set_same (slots_filled old) k false false (let a = counts.1 in omega (arith, a, lt)))
          (λ ne. get_or-set_other (slots_filled old) k j false false ne ∙ h.taken j (omega arith));
      same = o.0 ∙ h.same;
      long = o.2 ∙ h.long;
      moved = c.push_reserved.ensures.items ∙ (ap (λ l. l ++ c.take.result ∷ []) h.moved ∙ (sym (take_next (slots_items c.args.closed.slots) k c.take.result value) ∙ ap (λ (n : ℕ). take n (slots_items c.args.closed.slots)) more));
      room = let a = o.2 in let b = h.room in omega (arith, a, b, c.push_reserved.ensures.capacity);
    }
