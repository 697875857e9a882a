-- Which lists of replies are all values.
use Rattle.std.proofs.Common.{◌≡◌, ◌&&◌, true, false, Bool, List, [], ◌∷◌, ◌++◌, refl, ap, ◌∙◌}
use Rattle.pst_case.specs.Matches.{replies_of}
use Rattle.pst_case.specs.Shape.{joined}
use Rattle.pst_case.specs.declared.history.History.{History}
use Rattle.pst_case.specs.declared.history.Reply.{Reply}
use Rattle.pst_driver.specs.Driven.{all_answers, is_answer}

and_assoc : (a b c : Bool) → (a && (b && c)) ≡ ((a && b) && c)
and_assoc true b c = refl
and_assoc false b c = refl

pub answers-append : (xs ys : List Reply) → all_answers (xs ++ ys) ≡ (all_answers xs && all_answers ys)
answers-append [] ys = refl
answers-append (x ∷ xs) ys = ap (λ b. is_answer x && b) (answers-append xs ys) ∙ and_assoc (is_answer x) (all_answers xs) (all_answers ys)

pub answers-history : (h : History) → all_answers (replies_of h) ≡ (all_answers h.prefix && all_answers (joined h.branches) && all_answers h.suffix)
answers-history h =
    answers-append (h.prefix ++ joined h.branches) h.suffix ∙ ap (λ b. b && all_answers h.suffix) (answers-append h.prefix (joined h.branches))

pub ruleset answering = (answers-append, answers-history)

both_true : (a b c : Bool) → (a && b) ≡ true → (b ≡ true → c ≡ true) → (a && c) ≡ true
both_true true b c h f = f h
both_true false b c h f = h

-- the first part of replies that are all values
pub answers-first : (xs ys : List Reply) → all_answers (xs ++ ys) ≡ true → all_answers xs ≡ true
answers-first [] ys h = refl
answers-first (x ∷ xs) ys h = both_true (is_answer x) (all_answers (xs ++ ys)) (all_answers xs) h (answers-first xs ys)
