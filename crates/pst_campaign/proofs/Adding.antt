-- One end more.
use Rattle.std.proofs.Common.{◌≡◌, ℕ, ◌++◌, ◌∷◌, [], List, Result, Ok, Err, ap, sym, ◌∙◌, append_assoc, append-nil}
use Rattle.std.specs.Prelude.{All, MatchResult}
use Rattle.pst_campaign.specs.Working.{Adds}
use Rattle.pst_ledger.specs.declared.entry.Entry.{Entry}
use Rattle.pst_ledger.proofs.Closing.{all_head, all_tail, all_none, all_more}

-- a call that can't be refused was not
pub match_ok : {A B : Type 0} (P : A → Type 0) (Q : B → Type 0) (r : Result A B) → MatchResult r P Q
    → ((e : B) → Q e → ⊥) → (a : A) × P a
match_ok P Q (Ok a) h never = (a, h)
match_ok P Q (Err e) h never = absurd (never e h)

all_snoc : {A : Type 0} (P : A → Type 0) (xs : List A) (x : A) → All P xs → P x → All P (xs ++ x ∷ [])
all_snoc P [] x all one = all_more P x [] one (all_none P)
all_snoc P (y ∷ xs) x all one =
    all_more P y (xs ++ x ∷ []) (all_head P y xs all) (all_snoc P xs x (all_tail P y xs all) one)

module _ {R : Type 0} (may_give : ℕ → Entry R → Type 0) where
  pub adds_none : (before : List (ℕ × Entry R)) → Adds may_give before before
  adds_none before = ([], sym (append-nil before), all_none (λ x. may_give x.0 x.1))

  pub adds_more : (before mid after : List (ℕ × Entry R)) (k : ℕ) (e : Entry R) → Adds may_give before mid
      → after ≡ mid ++ (k, e) ∷ [] → may_give k e → Adds may_give before after
  adds_more before mid after k e h is one = (
    h.0 ++ (k, e) ∷ [],
    is ∙ (ap (λ l. l ++ (k, e) ∷ []) h.1 ∙ append_assoc before h.0 ((k, e) ∷ [])),
    all_snoc (λ x. may_give x.0 x.1) h.0 (k, e) h.2 one,
  )
