-- The commands of a case, counted and searched, and the parts of its candidates.
use Rattle.std.proofs.Common.{◌≡◌, ℕ, ◌+◌, Bool, ◌||◌, List, [], ◌∷◌, ◌++◌, map, length, refl, sym, ap, ◌∙◌, arith, length-append}
use Rattle.std.specs.List.{list_any}
use Rattle.std.proofs.lemmas.List.{map-append}
use Rattle.std.proofs.lemmas.List.Folds.{list_any-append}
use Rattle.std.proofs.lemmas.List.FromFn.{map-range_with_len_more}
use Rattle.pst_case.specs.Shape.{before_suffix, commands_of, joined}
use Rattle.pst_case.specs.declared.case.Case.{Case}
use Rattle.pst_case.specs.declared.case.Command.{Command}
use Rattle.pst_shrink.specs.Candidates.{others, branch_others, first_of_branches, first_of_suffix, without, moved}
use Rattle.pst_shrink.specs.Number.{number_by, numbers_by, renumber_command}
use Rattle.pst_shrink.specs.declared.candidate.Renumbering.{Renumbering}
use Rattle.pst_shrink.specs.declared.candidate.Renumbering.TheVariants.{Without, Moved}

pub length-joined-nil : length (joined {A = Command} []) ≡ 0
length-joined-nil = refl

pub length-joined-cons : (b : List Command) (bs : List (List Command))
    → length (joined (b ∷ bs)) ≡ length b + length (joined bs)
length-joined-cons b bs = length-append b (joined bs)

pub length-commands_of : (c : Case)
    → length (commands_of c) ≡ length c.prefix + length (joined c.branches) + length c.suffix
length-commands_of c =
    length-append (c.prefix ++ joined c.branches) c.suffix
    ∙ ap (λ n. n + length c.suffix) (length-append c.prefix (joined c.branches))

-- the commands before the suffix and those of the suffix are all commands
pub before_suffix-length : (c : Case) → length (commands_of c) ≡ before_suffix c + length c.suffix
before_suffix-length c = length-commands_of c

pub ruleset counting = (length-joined-nil, length-joined-cons, length-commands_of)

-- a test of all branches is one of their commands
pub list_any-joined : (p : Command → Bool) (bs : List (List Command))
    → list_any p (joined bs) ≡ list_any (list_any p) bs
list_any-joined p [] = refl
list_any-joined p (b ∷ bs) =
    list_any-append p b (joined bs) ∙ ap (λ r. list_any p b || r) (list_any-joined p bs)

pub list_any-commands_of : (p : Command → Bool) (c : Case)
    → list_any p (commands_of c) ≡ (list_any p c.prefix || list_any (list_any p) c.branches || list_any p c.suffix)
list_any-commands_of p c =
    list_any-append p (c.prefix ++ joined c.branches) c.suffix
    ∙ ap (λ r. r || list_any p c.suffix) (list_any-append p c.prefix (joined c.branches)
    ∙ ap (λ r. list_any p c.prefix || r) (list_any-joined p c.branches))

pub ruleset searching = (list_any-commands_of)

-- one number more
pub numbers_more : (by : Renumbering) (n : ℕ) (xs ys : List ℕ) (x : ℕ)
    → xs ≡ numbers_by by n → x ≡ number_by by (n + 1) → ys ≡ xs ++ x ∷ [] → ys ≡ numbers_by by (n + 1)
numbers_more by n xs ys x h e p =
    let z : 1 + n ≡ n + 1 = omega arith in
    p ∙ ap (λ zs. zs ++ x ∷ []) h ∙ ap (λ y. numbers_by by n ++ y ∷ []) e
    ∙ sym (map-range_with_len_more (number_by by) 1 n (n + 1) z)

module _ (c : Case) (n : ℕ) (numbers : List ℕ) (p s : List Command) (bs : List (List Command)) where
  -- the parts of a case without its command n
  pub without_is : (f : ℕ) → numbers ≡ numbers_by (Without n) (length (commands_of c)) → f ≡ first_of_suffix c
      → p ≡ map (renumber_command numbers) (others n 1 c.prefix)
      → bs ≡ map (map (renumber_command numbers)) (branch_others n (first_of_branches c) c.branches)
      → s ≡ map (renumber_command numbers) (others n f c.suffix)
      → ◌≡◌ {A = Case} (record { prefix = p; branches = bs; suffix = s }) (without n c)
  without_is f a b d e h = rw (d, e, h, b, a) refl

  -- the parts of a case with its command n moved
  pub moved_is : (x y : Command) (q : List Command)
      → numbers ≡ numbers_by (Moved n (first_of_branches c)) (length (commands_of c))
      → p ≡ map (renumber_command numbers) c.prefix → y ≡ renumber_command numbers x → q ≡ p ++ y ∷ []
      → bs ≡ map (map (renumber_command numbers)) (branch_others n (first_of_branches c) c.branches)
      → s ≡ map (renumber_command numbers) c.suffix
      → ◌≡◌ {A = Case} (record { prefix = q; branches = bs; suffix = s }) (moved n x c)
  moved_is x y q a b d e f h =
      let g : q ≡ map (renumber_command numbers) (c.prefix ++ x ∷ []) =
      e ∙ (rw (b, d) (sym (map-append (renumber_command numbers) c.prefix (x ∷ [])))) in
      rw (g, f, h, a) refl
