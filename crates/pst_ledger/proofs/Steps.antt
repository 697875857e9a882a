-- Each step keeps the rule.
use Rattle.std.proofs.Common.{◌≡◌, ◌≢◌, ℕ, zero, suc, ◌+◌, ◌%◌, ◌^◌, ◌<◌, ◌≤◌, List, [], ◌∷◌, ◌++◌, length, set, refl, sym, ap, ◌∙◌, subst, ⊎_elim, arith, length-set, get_or-set_same, le_refl}
use mathlib.Core.Option.{Option, some, none, some-injective, some-ne-none}
use Rattle.std.proofs.lemmas.List.{length-replicate, length-map}
use mathlib.Core.Logic.{dite}
use native.Mathlib.Decide.{ℕ_discrete, dec_le}
use Rattle.std.proofs.Math.Nat.{mod-eq_of_lt}
use lib.ListN.{get_elem?}
use Rattle.std.specs.Prelude.{slice_index, replicate, map}
use Rattle.atomic_table.specs.Table.{State, step, Act, keeps, takes, gives, stepped, Valid, carried_after, Allows, Enters, Splits, Joins, opening}
use Rattle.atomic_table.proofs.Lists.{at_set, at_snoc, set_here, set_else}
use Rattle.pst_ledger.specs.declared.entry.Entry.{Entry}
use Rattle.pst_ledger.specs.declared.entry.Entry.TheVariants.{Undrawn}
use Rattle.pst_ledger.specs.declared.seat.View.{View}
use Rattle.pst_ledger.specs.Count.{times, total_of, keys}
use Rattle.pst_ledger.specs.Rule.{fresh, one_less, one_part, together, Fits, Kept, Knows, with_draw, with_mark, with_end, drew, finished}
use Rattle.pst_ledger.proofs.Totals.{total-set, total-snoc, total-at, total-two, total-le, times-append, times-snoc_same, times-snoc_other, keys-append}
use Rattle.pst_ledger.proofs.Homes.{home-append, home-set}

abbrev St : Type 0 → Type 0
St R = State (Entry R) (View R)

module _ {R : Type 0} where
  abbrev word : St R → ℕ
  word s = slice_index s.words 0

  abbrev parts_of : List (View R) → ℕ
  parts_of l = total_of (λ (v : View R). v.parts) l

  abbrev marks_of : List (View R) → ℕ
  marks_of l = total_of (λ (v : View R). v.marks) l

  abbrev drawn : ℕ → List (View R) → ℕ
  drawn x l = total_of (λ (v : View R). times x v.draws) l

  -- what a seat drew, the word has passed
  below : (seats : ℕ) (s : St R) (r : Kept seats s) (j : ℕ) (v : View R) (x : ℕ) → get_elem? s.views j ≡ some v → 0 < times x v.draws → x < word s
  below seats s r j v x at some_drawn = dite (dec_le (word s) x)
      (λ le. let h = total-at (λ (u : View R). times x u.draws) s.views j v at in let z = r.not_yet x le in absurd (omega (arith, h, z)))
      (λ gt. omega arith)

  fits_set : (homes : List (Option (Entry R))) (views : List (View R)) (id : ℕ) (w : View R) → ((j : ℕ) (u : View R) → j ≢ id → get_elem? views j ≡ some u → Fits homes u) → Fits homes w
      → (j : ℕ) (u : View R) → get_elem? (set views id w) j ≡ some u → Fits homes u
  fits_set homes views id w others mine j u e = ⊎_elim
      (λ (t : (j ≡ id) × (w ≡ u)). subst (λ (z : View R). Fits homes z) t.1 mine)
      (λ (t : (j ≢ id) × (get_elem? views j ≡ some u)). others j u t.0 t.1)
      (at_set views id j w u e)

  -- a slot changes that a seat has not ended
  fits_home : (homes : List (Option (Entry R))) (k : ℕ) (new : Option (Entry R)) (v : View R) → times k v.draws ≡ 0 → Fits homes v → Fits (set homes k new) v
  fits_home homes k new v none_drawn f = record {
    marked = f.marked;
    idle = f.idle;
    own = f.own;
    home = home-set homes k new v.ends (let h = f.own k in omega (arith, h)) f.home;
  }

  draws_next : (seats : ℕ) (s : St R) (r : Kept seats s) (id : ℕ) (v : View R) (n : ℕ) → get_elem? s.views id ≡ some v → word s < length s.homes → n ≡ word s + 1 → 0 < v.parts
      → Kept seats record { words = set s.words 0 n; homes = set s.homes (word s) none; views = set s.views id (with_draw v (word s)) }
  draws_next seats s r id v n at room is_next part =
      let k : ℕ = word s in
      let w : View R = with_draw v k in
      let homes' : List (Option (Entry R)) = set s.homes k none in
      let views' : List (View R) = set s.views id w in
      let one = r.one_word in
      let new_word : slice_index (set s.words 0 n) 0 ≡ n = get_or-set_same s.words 0 n 0 (omega arith) in
      let long : length homes' ≡ length s.homes = length-set s.homes k none in
      let same_parts = total-set (λ (u : View R). u.parts) s.views id v w at in
      let same_marks = total-set (λ (u : View R). u.marks) s.views id v w at in
      let more : (x : ℕ) → drawn x views' + times x v.draws ≡ drawn x s.views + times x (v.draws ++ k ∷ []) = λ x. total-set (λ (u : View R). times x u.draws) s.views id v w at in
      let here : drawn k views' ≡ 1 = let a = more k in let b = times-snoc_same k v.draws in let c = r.not_yet k (le_refl k) in omega (arith, a, b, c) in
      let other : (x : ℕ) → x ≢ k → drawn x views' ≡ drawn x s.views = λ x ne. let a = more x in let b = times-snoc_other x k v.draws ne in omega (arith, a, b) in
      let unseen : (j : ℕ) (u : View R) → get_elem? s.views j ≡ some u → times k u.draws ≡ 0 = λ j u e. let a = total-at (λ (z : View R). times k z.draws) s.views j u e in let b = r.not_yet k (le_refl k) in omega (arith, a, b) in
      let old = r.fits id v at in
      record {
        one_word = length-set s.words 0 n ∙ one;
        few = subst (λ (z : ℕ). z + seats < 2 ^ 63) (sym long) r.few;
        parts = let p = r.parts in omega (arith, same_parts, p);
        reached = let q = r.reached in omega (arith, same_marks, new_word, long, q);
        past = λ m. let q = r.past (omega (arith, same_marks, m)) in absurd (omega arith);
        once = λ x lt room'. dite (ℕ_discrete x k)
            (λ (e : x ≡ k). subst (λ (z : ℕ). drawn z views' ≡ 1) (sym e) here)
            (λ ne. other x ne ∙ r.once x (omega (arith, new_word)) (omega (arith, long)));
        not_yet = λ x le. let ne : x ≢ k = (λ e. omega (arith, new_word)) in other x ne ∙ r.not_yet x (omega (arith, new_word));
        not_out = λ x le. let ne : x ≢ k = (λ e. omega (arith, long)) in other x ne ∙ r.not_out x (omega (arith, long));
        fits = fits_set homes' s.views id w
            (λ j u _ e. fits_home s.homes k none u (unseen j u e) (r.fits j u e))
            (record {
              marked = old.marked;
              idle = λ z. absurd (omega arith);
              own = λ x. let a = old.own x in let b = times-append x v.draws (k ∷ []) in omega (arith, a, b);
              home = home-set s.homes k none v.ends (let a = old.own k in let b = unseen id v at in omega (arith, a, b)) old.home;
            });
        free = λ x le lt. let ne : x ≢ k = (λ e. omega (arith, new_word)) in set_else s.homes k x none ne ∙ r.free x (omega (arith, new_word)) (omega (arith, long));
      }

  marks_one : (seats : ℕ) (s : St R) (r : Kept seats s) (id : ℕ) (v : View R) (n : ℕ) → get_elem? s.views id ≡ some v → length s.homes ≤ word s → n ≡ word s + 1 → v.marks < v.parts
      → Kept seats record { words = set s.words 0 n; homes = s.homes; views = set s.views id (with_mark v) }
  marks_one seats s r id v n at out is_next part =
      let w : View R = with_mark v in
      let views' : List (View R) = set s.views id w in
      let one = r.one_word in
      let new_word : slice_index (set s.words 0 n) 0 ≡ n = get_or-set_same s.words 0 n 0 (omega arith) in
      let same_parts = total-set (λ (u : View R). u.parts) s.views id v w at in
      let more_marks = total-set (λ (u : View R). u.marks) s.views id v w at in
      let same : (x : ℕ) → drawn x views' ≡ drawn x s.views = λ x. let a = total-set (λ (u : View R). times x u.draws) s.views id v w at in omega (arith, a) in
      let old = r.fits id v at in
      record {
        one_word = length-set s.words 0 n ∙ one;
        few = r.few;
        parts = let p = r.parts in omega (arith, same_parts, p);
        reached = let q = r.reached in omega (arith, more_marks, new_word, q);
        past = λ m. omega (arith, new_word);
        once = λ x lt room. same x ∙ r.once x (omega (arith, new_word)) room;
        not_yet = λ x le. same x ∙ r.not_yet x (omega (arith, new_word));
        not_out = λ x le. same x ∙ r.not_out x le;
        fits = fits_set s.homes s.views id w (λ j u _ e. r.fits j u e)
            (record { marked = omega arith; idle = old.idle; own = old.own; home = old.home });
        free = λ x le lt. absurd (omega (arith, new_word));
      }

  pub draws : (seats slots id : ℕ) (me : Knows R) → me.0.marks < me.0.parts
      → Allows (Kept seats) slots id me 0 (λ n. (n + 1) % 2 ^ 64) (drew (step slots 0 1 0 none) me)
  draws seats slots id me part s r wide at small =
      let k : ℕ = word s in
      let bound = total-at (λ (u : View R). u.parts) s.views id me.0 at in
      let marked : marks_of s.views ≤ parts_of s.views = total-le (λ (u : View R). u.marks) (λ (u : View R). u.parts) s.views (λ j u e. (r.fits j u e).marked) in
      let q = r.reached in let f = r.few in let p = r.parts in
      let next : (k + 1) % 2 ^ 64 ≡ k + 1 = mod-eq_of_lt (omega arith) in
      dite (dec_le (length s.homes) k)
      (λ (out : length s.homes ≤ k). (
        with_mark me.0,
        keeps,
        tt,
        marks_one seats s r id me.0 _ at out next part,
        ((λ lt. absurd (omega arith)), λ _. (refl, refl)),
      ))
      (λ inside. let lt : k < length s.homes = omega arith in (
        with_draw me.0 k,
        takes k Undrawn,
        r.free k (le_refl k) lt,
        draws_next seats s r id me.0 _ at lt next (omega arith),
        ((λ _. (refl, refl, λ x h. below seats s r id me.0 x at h)), λ le. absurd (omega arith)),
      ))

  -- the end of k joins the view of the seat that drew k, and slot k is at home with it
  ends_with : (seats : ℕ) (s : St R) (r : Kept seats s) (id : ℕ) (v : View R) (n k : ℕ) (e : Entry R) → get_elem? s.views id ≡ some v → n ≡ word s → times k (keys v.ends) < times k v.draws
      → Kept seats record { words = set s.words 0 n; homes = set s.homes k (some e); views = set s.views id (with_end v k e) }
  ends_with seats s r id v n k e at same_word owed =
      let w : View R = with_end v k e in
      let homes' : List (Option (Entry R)) = set s.homes k (some e) in
      let views' : List (View R) = set s.views id w in
      let one = r.one_word in
      let new_word : slice_index (set s.words 0 n) 0 ≡ n = get_or-set_same s.words 0 n 0 (omega arith) in
      let long : length homes' ≡ length s.homes = length-set s.homes k (some e) in
      let same_parts = total-set (λ (u : View R). u.parts) s.views id v w at in
      let same_marks = total-set (λ (u : View R). u.marks) s.views id v w at in
      let same : (x : ℕ) → drawn x views' ≡ drawn x s.views = λ x. let a = total-set (λ (u : View R). times x u.draws) s.views id v w at in omega (arith, a) in
      let mine : times k v.draws ≤ drawn k s.views = total-at (λ (u : View R). times k u.draws) s.views id v at in
      let passed : k < word s = below seats s r id v k at (omega arith) in
      let inside : k < length s.homes = dite (dec_le (length s.homes) k) (λ (le : length s.homes ≤ k). let z = r.not_out k le in absurd (omega (arith, z))) (λ gt. omega arith) in
      let only : drawn k s.views ≡ 1 = r.once k passed inside in
      let old = r.fits id v at in
      record {
        one_word = length-set s.words 0 n ∙ one;
        few = subst (λ (z : ℕ). z + seats < 2 ^ 63) (sym long) r.few;
        parts = let p = r.parts in omega (arith, same_parts, p);
        reached = let q = r.reached in omega (arith, same_marks, new_word, long, q);
        past = λ m. let q = r.past (omega (arith, same_marks, m)) in omega (arith, new_word, long);
        once = λ x lt room. same x ∙ r.once x (omega (arith, new_word)) (omega (arith, long));
        not_yet = λ x le. same x ∙ r.not_yet x (omega (arith, new_word));
        not_out = λ x le. same x ∙ r.not_out x (omega (arith, long));
        fits = fits_set homes' s.views id w
            (λ j u ne at_j. fits_home s.homes k (some e) u (let two = total-two (λ (z : View R). times k z.draws) s.views j id u v at_j at ne in omega (arith, two)) (r.fits j u at_j))
            (record {
              marked = old.marked;
              idle = λ z. let i = old.idle z in let none_drawn : times k v.draws ≡ 0 = ap (times k) i.0 in absurd (omega arith);
              own = λ x. dite (ℕ_discrete x k)
                  (λ (q : x ≡ k). subst (λ (z : ℕ). times z (keys w.ends) ≤ times z v.draws) (sym q)
                  (let a = ap (times k) (keys-append v.ends ((k, e) ∷ [])) in let b = times-snoc_same k (keys v.ends) in omega (arith, a, b)))
                  (λ ne. let a = ap (times x) (keys-append v.ends ((k, e) ∷ [])) in let b = times-snoc_other x k (keys v.ends) ne in let c = old.own x in omega (arith, a, b, c));
              home = home-append homes' v.ends ((k, e) ∷ []) (home-set s.homes k (some e) v.ends (omega arith) old.home) (set_here s.homes k (some e) inside, tt);
            });
        free = λ x le lt. let ne : x ≢ k = (λ q. omega (arith, new_word)) in set_else s.homes k x (some e) ne ∙ r.free x (omega (arith, new_word)) (omega (arith, long));
      }

  pub ends : (seats slots id : ℕ) (me : Knows R) (k : ℕ) (e : Entry R) → me.1 ≡ (k, e) ∷ [] → times k (keys me.0.ends) < times k me.0.draws
      → Allows (Kept seats) slots id me 0 (λ n. (n + 0) % 2 ^ 64) (finished (step slots 0 0 0 none) me)
  ends seats slots id me k e out owed s r wide at small =
      let still : (word s + 0) % 2 ^ 64 ≡ word s = mod-eq_of_lt {n = word s + 0} (omega arith) ∙ omega arith in
      subst (λ (c : List (ℕ × Entry R)). (w : View R) × (a : Act (Entry R)) × Valid s.homes c a × Kept seats (stepped s 0 ((word s + 0) % 2 ^ 64) id c w a) × finished (step slots 0 0 0 none) (me.0, c) (word s) (w, carried_after c a))
      (sym out) (
        with_end me.0 k e,
        gives,
        tt,
        ends_with seats s r id me.0 _ k e at still owed,
        (λ k' e' is. let same : (k, e) ≡ (k', e') = ap (first_or (k, e)) is in (ap (λ (p : ℕ × Entry R). with_end me.0 p.0 p.1) same, refl)),
      )
    where
      first_or : ℕ × Entry R → List (ℕ × Entry R) → ℕ × Entry R
      first_or d [] = d
      first_or d (x ∷ xs) = x

  pub sits : (seats slots : ℕ) → Enters (Kept {R = R} seats) slots 0 (λ n w. w ≡ fresh 0)
  sits seats slots s r wide small =
      let w : View R = fresh 0 in
      let same : (f : View R → ℕ) → f w ≡ 0 → total_of f (s.views ++ w ∷ []) ≡ total_of f s.views = λ f z. let a = total-snoc f s.views w in omega (arith, a) in (
        w,
        record {
          one_word = r.one_word;
          few = r.few;
          parts = same (λ u. u.parts) refl ∙ r.parts;
          reached = let a = same (λ u. u.marks) refl in let q = r.reached in omega (arith, a, q);
          past = λ m. let a = same (λ u. u.marks) refl in r.past (omega (arith, a));
          once = λ x lt room. same (λ u. times x u.draws) refl ∙ r.once x lt room;
          not_yet = λ x le. same (λ u. times x u.draws) refl ∙ r.not_yet x le;
          not_out = λ x le. same (λ u. times x u.draws) refl ∙ r.not_out x le;
          fits = λ j u e. ⊎_elim (r.fits j u) (λ (q : w ≡ u). subst (Fits s.homes) q new_fits) (at_snoc s.views w u j e);
          free = r.free;
        },
        refl,
      )
    where
      new_fits : Fits s.homes (fresh 0)
      new_fits = record { marked = le_refl 0; idle = λ _. (refl, refl); own = λ x. le_refl 0; home = tt }

  pub splits : (seats id n : ℕ) (v : View R) → v ≡ fresh (n + 1) → Splits (Kept seats) id v (one_less v) (one_part v)
  splits seats id n v is s r at =
      let left : View R = one_less v in
      let right : View R = one_part v in
      let one_more : v.parts ≡ n + 1 = ap (λ (u : View R). u.parts) is in
      let same : (f : View R → ℕ) → f left + f right ≡ f v → total_of f (set s.views id left ++ right ∷ []) ≡ total_of f s.views = λ f z.
      let a = total-snoc f (set s.views id left) right in let b = total-set f s.views id v left at in omega (arith, a, b) in
      let plain : View R → Type 0 = λ (u : View R). (u.marks ≡ 0) × (u.draws ≡ []) × (u.ends ≡ []) in
      let mine : plain v = subst plain (sym is) (refl, refl, refl) in
      let left_fits : Fits s.homes left = record {
        marked = let m = mine.0 in omega (arith, m);
        idle = λ _. (mine.1, mine.2);
        own = (r.fits id v at).own;
        home = (r.fits id v at).home;
      } in
      record {
        one_word = r.one_word;
        few = r.few;
        parts = same (λ u. u.parts) (omega (arith, one_more)) ∙ r.parts;
        reached = let a = same (λ u. u.marks) (omega arith) in let q = r.reached in omega (arith, a, q);
        past = λ m. let a = same (λ u. u.marks) (omega arith) in r.past (omega (arith, a));
        once = λ x lt room. same (λ u. times x u.draws) (omega arith) ∙ r.once x lt room;
        not_yet = λ x le. same (λ u. times x u.draws) (omega arith) ∙ r.not_yet x le;
        not_out = λ x le. same (λ u. times x u.draws) (omega arith) ∙ r.not_out x le;
        fits = λ j u e. ⊎_elim (fits_set s.homes s.views id left (λ i x _ d. r.fits i x d) left_fits j u) (λ (q : right ≡ u). subst (Fits s.homes) q right_fits) (at_snoc (set s.views id left) right u j e);
        free = r.free;
      }
    where
      right_fits : Fits s.homes (fresh 1)
      right_fits = record { marked = omega arith; idle = λ z. absurd (omega arith); own = λ x. le_refl 0; home = tt }

  pub joins : (seats id : ℕ) (v : View R) (other : ℕ) (u : View R) → Joins (Kept seats) id v other u (together v u) (fresh 0)
  joins seats id v other u s r at apart there =
      let both : View R = together v u in
      let spent : View R = fresh 0 in
      let first : List (View R) = set s.views id both in
      let views' : List (View R) = set first other spent in
      let was : get_elem? s.views other ≡ some u = sym (set_else s.views id other both apart) ∙ there in
      let same : (f : View R → ℕ) → f both ≡ f u + f v → f spent ≡ 0 → total_of f views' ≡ total_of f s.views = λ f z o.
      let a = total-set f s.views id v both at in let b = total-set f first other u spent there in omega (arith, a, b) in
      let x_fits = r.fits id v at in
      let y_fits = r.fits other u was in
      let both_fits : Fits s.homes both = record {
        marked = let a = x_fits.marked in let b = y_fits.marked in omega (arith, a, b);
        idle = λ z. let a = x_fits.idle (omega arith) in let b = y_fits.idle (omega arith) in ((λ i. b.0 i ++ a.0 i), (λ i. b.1 i ++ a.1 i));
        own = λ x. let a = x_fits.own x in let b = y_fits.own x in let c = ap (times x) (keys-append u.ends v.ends) in let d = times-append x (keys u.ends) (keys v.ends) in
            let e = times-append x u.draws v.draws in omega (arith, a, b, c, d, e);
        home = home-append s.homes u.ends v.ends y_fits.home x_fits.home;
      } in
      record {
        one_word = r.one_word;
        few = r.few;
        parts = same (λ w. w.parts) refl refl ∙ r.parts;
        reached = let a = same (λ w. w.marks) refl refl in let q = r.reached in omega (arith, a, q);
        past = λ m. let a = same (λ w. w.marks) refl refl in r.past (omega (arith, a));
        once = λ x lt room. same (λ w. times x w.draws) (times-append x u.draws v.draws) refl ∙ r.once x lt room;
        not_yet = λ x le. same (λ w. times x w.draws) (times-append x u.draws v.draws) refl ∙ r.not_yet x le;
        not_out = λ x le. same (λ w. times x w.draws) (times-append x u.draws v.draws) refl ∙ r.not_out x le;
        fits = fits_set s.homes first other spent (λ j w _ e. fits_set s.homes s.views id both (λ i z _ d. r.fits i z d) both_fits j w e) spent_fits;
        free = r.free;
      }
    where
      spent_fits : Fits s.homes (fresh 0)
      spent_fits = record { marked = le_refl 0; idle = λ _. (refl, refl); own = λ x. le_refl 0; home = tt }

  pub opens : (seats trials : ℕ) (words : List ℕ) (slots : List (Entry R)) → trials + seats < 2 ^ 63 → words ≡ 0 ∷ [] → slots ≡ replicate trials Undrawn → Kept seats (opening words slots (fresh seats))
  opens seats trials words slots small is all = record {
    one_word = ap length is;
    few = omega (arith, many);
    parts = omega arith;
    reached = let a = zero_word in omega (arith, a);
    past = λ m. absurd (omega arith);
    once = λ x lt. let a = zero_word in absurd (omega (arith, a));
    not_yet = λ x _. refl;
    not_out = λ x _. refl;
    fits = λ j u e. fits_first j u e;
    free = λ k _ lt. at_free trials slots all k (omega (arith, many));
  }
    where
      zero_word : slice_index words 0 ≡ 0
      zero_word = ap (λ (l : List ℕ). slice_index l 0) is

      many : length (map some slots) ≡ trials
      many = length-map slots (λ (e : Entry R). some e) ∙ (ap length all ∙ length-replicate trials Undrawn)

      at_free : (n : ℕ) (l : List (Entry R)) → l ≡ replicate n Undrawn → (k : ℕ) → k < n → get_elem? (map some l) k ≡ some (some Undrawn)
      at_free n l q k lt = subst (λ (z : List (Entry R)). get_elem? (map some z) k ≡ some (some Undrawn)) (sym q) (go n k lt)
        where
          go : (n k : ℕ) → k < n → get_elem? (map some (replicate {A = Entry R} n Undrawn)) k ≡ some (some Undrawn)
          go zero k lt = absurd (omega arith)
          go (suc n) zero lt = refl
          go (suc n) (suc k) lt = go n k (omega arith)

      fits_first : (j : ℕ) (u : View R) → get_elem? (fresh seats ∷ []) j ≡ some u → Fits (map some slots) u
      fits_first zero u e = subst (Fits (map some slots)) (some-injective (fresh seats) u e) (record { marked = omega arith; idle = λ _. (refl, refl); own = λ x. le_refl 0; home = tt })
      fits_first (suc j) u e = absurd (some-ne-none u (sym e))
