-- What is read behind others.
use Rattle.std.proofs.Common.{◌≡◌, List, [], ◌∷◌, ◌++◌, Result, Ok, Err, refl, ap, append_assoc, append-nil, sym}
use Rattle.pst_runs.specs.Replies.{behind as read_behind, then_more}

-- nothing was read before
pub behind_none : {A E : Type 0} (r : Result (List A) E) → read_behind [] r ≡ r
behind_none (Ok more) = refl
behind_none (Err e) = refl

-- nothing is read behind
pub behind_end : {A E : Type 0} (read : List A) → read_behind {A = A} {E = E} read (Ok []) ≡ Ok read
behind_end read = ap (λ l. Ok l) (append-nil read)

-- one more was read before
pub behind_one : {A E : Type 0} (read : List A) (one : A) (r : Result (List A) E)
    → read_behind read (then_more one r) ≡ read_behind (read ++ one ∷ []) r
behind_one read one (Ok more) = ap (λ l. Ok l) (sym (append_assoc read (one ∷ []) more))
behind_one read one (Err e) = refl

pub ruleset behind = (behind_none, behind_end, behind_one)
