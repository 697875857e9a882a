-- The trials that were lost for a cause, as far as the entries are looked at.
use Rattle.std.proofs.Common.{◌≡◌, ◌⊎◌, inl, inr, ℕ, ◌+◌, ◌<◌, ◌≤◌, List, [], ◌∷◌, ◌++◌, Some, length, get_or, take, drop, arith, refl, sym, ◌∙◌, ap, subst, append_assoc, append-nil, length-append}
use Rattle.std.proofs.Math.ListN.{drop_of_length-le, get_or-append}
use Rattle.std.proofs.lemmas.List.{take-append-le, take_all}
use mathlib.Core.Logic.{dite}
use native.Mathlib.Decide.{dec_le}
use Rattle.std.proofs.lemmas.List.Elements.{All-append}
use Rattle.std.proofs.lemmas.List.Quantifiers.{Any-push}
use Rattle.std.specs.List.{All, Any}
use Rattle.pst_cli.specs.CampaignFailures.{AreLosses, HasLossesFor, IsLoss, lost_number, lost_numbers}
use Rattle.pst_cli.specs.Losses.{AddsLosses}
use Rattle.pst_cli.specs.declared.losses.LostTrials.{LostTrials}
use Rattle.pst_ledger.specs.declared.entry.Cause.{Cause}
use Rattle.pst_ledger.specs.declared.entry.Cause.TheVariants.{ResetFailed, NoThread, NoMemory}
use Rattle.pst_ledger.specs.declared.entry.Entry.{Entry}
use Rattle.pst_trial.specs.RecordView.{RecordView}

-- what has been counted of the entries before a number
pub record IsSoFar (entries : List (Entry RecordView)) (cause : Cause) (n : ℕ) (l : LostTrials) : Type 0 where
  pub before : List ℕ
  pub split : lost_numbers cause 0 entries ≡ before ++ lost_numbers cause n (drop n entries)
  pub cause_is : l.cause ≡ cause
  pub count : l.count ≡ length before
  pub below : length before ≤ n
  pub first : l.first.items ≡ take 3 before

module _ (entries : List (Entry RecordView)) (cause : Cause) where
  pub none_so_far : (l : LostTrials) → l.cause ≡ cause → l.count ≡ 0 → l.first.items ≡ [] → IsSoFar entries cause 0 l
  none_so_far l same count first = record {
    before = [];
    split = refl;
    cause_is = same;
    count = count;
    below = omega arith;
    first = first;
  }

  module _ (n : ℕ) (e : Entry RecordView) (next : drop n entries ≡ e ∷ drop (n + 1) entries) where
    split_next : (before : List ℕ) → lost_numbers cause 0 entries ≡ before ++ lost_numbers cause n (drop n entries)
        → lost_numbers cause 0 entries ≡ (before ++ lost_number cause n e) ++ lost_numbers cause (n + 1) (drop (n + 1) entries)
    split_next before split =
        split ∙ (ap (λ es. before ++ lost_numbers cause n es) next
        ∙ sym (append_assoc before (lost_number cause n e) (lost_numbers cause (n + 1) (drop (n + 1) entries))))

    -- the trial was not lost for the cause
    pub so_far_past : (l : LostTrials) → lost_number cause n e ≡ [] → IsSoFar entries cause n l → IsSoFar entries cause (n + 1) l
    so_far_past l none h = record {
      before = h.before;
      split = split_next h.before h.split
          ∙ ap (λ own. own ++ lost_numbers cause (n + 1) (drop (n + 1) entries)) (ap (λ own. h.before ++ own) none ∙ append-nil h.before);
      cause_is = h.cause_is;
      count = h.count;
      below = let le = h.below in omega (arith, le);
      first = h.first;
    }

    -- it was
    pub so_far_next : (old new : LostTrials) → lost_number cause n e ≡ n ∷ [] → new.cause ≡ old.cause → new.count ≡ old.count + 1
        → (old.count < 3 → new.first.items ≡ old.first.items ++ n ∷ []) → (3 ≤ old.count → new.first.items ≡ old.first.items)
        → IsSoFar entries cause n old → IsSoFar entries cause (n + 1) new
    so_far_next old new one same count named counted h =
        let longer = length-append h.before (n ∷ []) in record {
          before = h.before ++ n ∷ [];
          split = split_next h.before h.split
              ∙ ap (λ own. (h.before ++ own) ++ lost_numbers cause (n + 1) (drop (n + 1) entries)) one;
          cause_is = same ∙ h.cause_is;
          count = let c = h.count in omega (arith, count, c, longer);
          below = let le = h.below in omega (arith, le, longer);
          first = dite (dec_le 3 old.count)
              (λ (many : 3 ≤ old.count). counted many ∙ (h.first
              ∙ sym (take-append-le 3 h.before (n ∷ []) (let c = h.count in omega (arith, many, c)))))
              (λ few. named (omega (arith, few)) ∙ (ap (λ xs. xs ++ n ∷ []) (h.first
              ∙ take_all 3 h.before (let c = h.count in omega (arith, few, c)))
              ∙ sym (take_all 3 (h.before ++ n ∷ []) (let c = h.count in omega (arith, few, c, longer)))));
        }

  -- all entries are looked at
  pub whole_loss : (n : ℕ) (l : LostTrials) → length entries ≤ n → IsSoFar entries cause n l → IsLoss entries l
  whole_loss n l all h =
      let whole : lost_numbers cause 0 entries ≡ h.before =
      h.split ∙ (ap (λ es. h.before ++ lost_numbers cause n es) (drop_of_length-le entries all) ∙ append-nil h.before) in
      let own : lost_numbers l.cause 0 entries ≡ h.before = ap (λ c. lost_numbers c 0 entries) h.cause_is ∙ whole in record {
        count = h.count ∙ sym (ap length own);
        first = h.first ∙ sym (ap (take 3) own);
      }

-- ---- losses for several causes

any_kept : {X : Type 0} (P : X → Type 0) (xs ys : List X) → Any P xs → Any P (xs ++ ys)
any_kept P xs ys (k, x, lt, at, p) = (
  k,
  x,
  (let l = length-append xs ys in omega (arith, lt, l)),
  get_or-append xs ys x k lt ∙ at,
  p,
)

all_one : {X : Type 0} (P : X → Type 0) (x : X) → P x → All P (x ∷ [])
all_one P x p k d lt = let first : k ≡ 0 = omega (arith, lt) in subst (λ (n : ℕ). P (get_or (x ∷ []) n d)) (sym first) p

nothing : {X : Type 0} (xs : List X) → length xs ≡ 0 → xs ≡ []
nothing [] h = refl
nothing (x ∷ xs) h = absurd (omega (arith, h))

losses_kept : (entries : List (Entry RecordView)) (losses : List LostTrials) (l : LostTrials) (cause : Cause)
    → HasLossesFor entries losses cause → HasLossesFor entries (losses ++ l ∷ []) cause
losses_kept entries losses l cause (inl none) = inl none
losses_kept entries losses l cause (inr any) = inr (any_kept (λ x. x.cause ≡ cause) losses (l ∷ []) any)

module _ (entries : List (Entry RecordView)) (cause : Cause) (l : LostTrials) (same : l.cause ≡ cause) (is : IsLoss entries l)
    (losses : List LostTrials) where
  pub adds_none : l.count ≡ 0 → AddsLosses entries cause losses losses
  adds_none none = record {
    each = λ h. h;
    has = inl (nothing (lost_numbers cause 0 entries)
        (ap (λ c. length (lost_numbers c 0 entries)) (sym same) ∙ (sym is.count ∙ none)));
    kept = λ other h. h;
  }

  pub adds_one : AddsLosses entries cause losses (losses ++ l ∷ [])
  adds_one = record {
    each = λ h. All-append (IsLoss entries) losses (l ∷ []) h (all_one (IsLoss entries) l is);
    has = inr (Any-push (λ x. x.cause ≡ cause) losses l same);
    kept = losses_kept entries losses l;
  }

-- after each of the three causes all have their losses
pub all_losses : (entries : List (Entry RecordView)) (a b c : List LostTrials) → AddsLosses entries ResetFailed [] a
    → AddsLosses entries NoThread a b → AddsLosses entries NoMemory b c → AreLosses entries c
all_losses entries a b c f g h = record {
  each = h.each (g.each (f.each (λ k d lt. absurd (omega (arith, lt)))));
  all = λ cause. has cause;
} where
  has : (cause : Cause) → HasLossesFor entries c cause
  has ResetFailed = h.kept ResetFailed (g.kept ResetFailed f.has)
  has NoThread = h.kept NoThread g.has
  has NoMemory = h.has
