-- The code that is made passes the machine's check.
use Rattle.std.proofs.Common.{◌≡◌, ◌&&◌, ℕ, ◌+◌, ◌<◌, ◌≤◌, List, [], ◌∷◌, ◌++◌, length, refl, subst, arith, length-append}
use Rattle.std.specs.Prelude.{Bool, true, false, if◌then◌else◌, nat_lt, nat_le, IsTrue}
use Rattle.std.proofs.lemmas.Bool.Decides.{nat_tests}
use Rattle.pst_machine.specs.declared.code.Instr.{Instr}
use Rattle.pst_machine.specs.declared.code.Instr.TheVariants.{Const, Move, Take, Unary, Binary, Put, At, Tuple, List as MakeList, Call, Append, Jump, Unless, Apply, Loop, Return}
use Rattle.pst_machine.specs.declared.code.FunCode.{FunCode}
use Rattle.pst_machine.specs.Lawful.{all_below, instr_fits, body_fits}
use Rattle.pst_compile.specs.Code.{Block, ◌then◌, nothing, where_true, choice, each}
use Rattle.pst_compile.specs.Functions.{past_all, past_instr, frame_size}

-- at place q of function g: jumps lead onward, and not past hi
abbrev pub Placed : (g hi q : ℕ) → Instr → Type 0
Placed g hi q (Jump t) = (q < t) × (t ≤ hi)
Placed g hi q (Unless a t) = (q < t) × (t ≤ hi)
Placed g hi q (Loop d a i t) = t ≤ q
Placed g hi q (Apply d f rs) = f < g
Placed g hi q _ = Unit {0}

abbrev pub AllPlaced : (g hi q : ℕ) → List Instr → Type 0
AllPlaced g hi q [] = Unit {0}
AllPlaced g hi q (i ∷ is) = Placed g hi q i × AllPlaced g hi (q + 1) is

placed_wider : (g hi hi' q : ℕ) (i : Instr) → hi ≤ hi' → Placed g hi q i → Placed g hi' q i
placed_wider g hi hi' q (Const d v) le h = tt
placed_wider g hi hi' q (Move d a) le h = tt
placed_wider g hi hi' q (Take d a) le h = tt
placed_wider g hi hi' q (Unary op d a) le h = tt
placed_wider g hi hi' q (Binary op d a b) le h = tt
placed_wider g hi hi' q (Put d a b c) le h = tt
placed_wider g hi hi' q (At d a n) le h = tt
placed_wider g hi hi' q (Tuple d rs) le h = tt
placed_wider g hi hi' q (MakeList d rs) le h = tt
placed_wider g hi hi' q (Call d op rs) le h = tt
placed_wider g hi hi' q (Append d a) le h = tt
placed_wider g hi hi' q (Jump t) le h = let u = h.1 in (h.0, omega (arith, u))
placed_wider g hi hi' q (Unless a t) le h = let u = h.1 in (h.0, omega (arith, u))
placed_wider g hi hi' q (Apply d f rs) le h = h
placed_wider g hi hi' q (Loop d a i t) le h = h
placed_wider g hi hi' q (Return a) le h = tt

all_wider : (g hi hi' q : ℕ) (is : List Instr) → hi ≤ hi' → AllPlaced g hi q is → AllPlaced g hi' q is
all_wider g hi hi' q [] le h = tt
all_wider g hi hi' q (i ∷ is) le h = (placed_wider g hi hi' q i le h.0, all_wider g hi hi' (q + 1) is le h.1)

all_append : (g hi q : ℕ) (a b : List Instr) → AllPlaced g hi q a → AllPlaced g hi (q + length a) b → AllPlaced g hi q (a ++ b)
all_append g hi q [] b h k = let e : q + 0 ≡ q = omega arith in subst (λ n. AllPlaced g hi n b) e k
all_append g hi q (i ∷ a) b h k =
    let e : q + length (i ∷ a) ≡ q + 1 + length a = omega arith in
    (h.0, all_append g hi (q + 1) a b h.1 (subst (λ n. AllPlaced g hi n b) e k))

module _ (g : ℕ) where
  -- wherever it stands
  pub record Lawful (b : Block) : Type 0 where
    pub by : (p : ℕ) → AllPlaced g (p + length (b p)) p (b p)

  pub lawful_nothing : Lawful nothing
  lawful_nothing = record { by = λ p. tt }

  pub lawful_then : (a b : Block) → Lawful a → Lawful b → Lawful (a then b)
  lawful_then a b h k = record {
    by = λ p.
        let q = p + length (a p) in
        let e : q + length (b q) ≡ p + length ((a then b) p) = omega (arith, length-append (a p) (b q)) in
        let le : q ≤ q + length (b q) = omega arith in
        subst (λ n. AllPlaced g n p (a p ++ b q)) e (all_append g (q + length (b q)) p (a p) (b q) (all_wider g q (q + length (b q)) p (a p) le (h.by p)) (k.by q));
  }

  pub lawful_where : (r : ℕ) (a : Block) → Lawful a → Lawful (where_true r a)
  lawful_where r a h = record {
    by = λ p.
        let q = p + 1 + length (a (p + 1)) in
        let e : q ≡ p + length (where_true r a p) = omega arith in
        subst (λ n. AllPlaced g n p (where_true r a p)) e ((omega arith, omega arith), h.by (p + 1));
  }

  pub lawful_choice : (r : ℕ) (a b : Block) → Lawful a → Lawful b → Lawful (choice r a b)
  lawful_choice r a b h k = record {
    by = λ p.
        let qa = p + 1 + length (a (p + 1)) in
        let qb = qa + 1 in
        let q = qb + length (b qb) in
        let e : q ≡ p + length (choice r a b p) = omega (arith, length-append (a (p + 1)) (Jump q ∷ b qb)) in
        let le : qa ≤ q = omega arith in
        let jump : (qa < q) × (q ≤ q) = (omega arith, omega arith) in
        subst (λ n. AllPlaced g n p (choice r a b p)) e ((omega arith, omega arith), all_append g q (p + 1) (a (p + 1)) (Jump q ∷ b qb) (all_wider g qa q (p + 1) (a (p + 1)) le (h.by (p + 1))) (jump, k.by qb));
  }

  pub lawful_each : (d a i : ℕ) (body : Block) → Lawful body → Lawful (each d a i body)
  lawful_each d a i body h = record {
    by = λ p.
        let q = p + 1 + length (body (p + 1)) in
        let e : q + 1 ≡ p + length (each d a i body p) = omega (arith, length-append (body (p + 1)) (Loop d a i (p + 1) ∷ [])) in
        let le : q ≤ q + 1 = omega arith in
        let back : p + 1 ≤ q = omega arith in
        subst (λ n. AllPlaced g n p (each d a i body p)) e ((omega arith, omega arith), all_append g (q + 1) (p + 1) (body (p + 1)) (Loop d a i (p + 1) ∷ []) (all_wider g q (q + 1) (p + 1) (body (p + 1)) le (h.by (p + 1))) (back, tt));
  }

-- ---- the check

both : (a b : Bool) → IsTrue a → IsTrue b → IsTrue (a && b)
both true b h k = k
both false b h k = absurd cc

is_lt : (m n : ℕ) → m < n → IsTrue (nat_lt m n)
is_lt m n h = grind (arith, nat_tests)

pub is_le : (m n : ℕ) → m ≤ n → IsTrue (nat_le m n)
is_le m n h = grind (arith, nat_tests)

rows_fit : (n : ℕ) (rs : List ℕ) → past_all rs ≤ n → IsTrue (all_below n rs)
rows_fit n [] h = refl
rows_fit n (r ∷ rs) h = both (nat_lt r n) (all_below n rs) (is_lt r n (omega arith)) (rows_fit n rs (omega arith))

instr_fit : (g : ℕ) (fc : FunCode) (hi q : ℕ) (i : Instr) → hi < length fc.body → past_instr i ≤ fc.registers → Placed g hi q i → IsTrue (instr_fits g fc q i)
instr_fit g fc hi q (Const d v) lt t h = is_lt d fc.registers (omega arith)
instr_fit g fc hi q (Move d a) lt t h = both _ _ (is_lt d fc.registers (omega arith)) (is_lt a fc.registers (omega arith))
instr_fit g fc hi q (Take d a) lt t h = both _ _ (is_lt d fc.registers (omega arith)) (is_lt a fc.registers (omega arith))
instr_fit g fc hi q (Unary op d a) lt t h = both _ _ (is_lt d fc.registers (omega arith)) (is_lt a fc.registers (omega arith))
instr_fit g fc hi q (Binary op d a b) lt t h = both _ _ (is_lt d fc.registers (omega arith)) (both _ _ (is_lt a fc.registers (omega arith)) (is_lt b fc.registers (omega arith)))
instr_fit g fc hi q (Put d a b c) lt t h = both _ _ (is_lt d fc.registers (omega arith)) (both _ _ (is_lt a fc.registers (omega arith)) (both _ _ (is_lt b fc.registers (omega arith)) (is_lt c fc.registers (omega arith))))
instr_fit g fc hi q (At d a m) lt t h = both _ _ (is_lt d fc.registers (omega arith)) (is_lt a fc.registers (omega arith))
instr_fit g fc hi q (Tuple d rs) lt t h = both _ _ (is_lt d fc.registers (omega arith)) (rows_fit fc.registers rs (omega arith))
instr_fit g fc hi q (MakeList d rs) lt t h = both _ _ (is_lt d fc.registers (omega arith)) (rows_fit fc.registers rs (omega arith))
instr_fit g fc hi q (Call d op rs) lt t h = both _ _ (is_lt d fc.registers (omega arith)) (rows_fit fc.registers rs (omega arith))
instr_fit g fc hi q (Append d a) lt t h = both _ _ (is_lt d fc.registers (omega arith)) (is_lt a fc.registers (omega arith))
instr_fit g fc hi q (Jump p) lt t h = let u = h.0 in let v = h.1 in both _ _ (is_lt q p u) (is_lt p (length fc.body) (omega (arith, v)))
instr_fit g fc hi q (Unless a p) lt t h = let u = h.0 in let v = h.1 in both _ _ (is_lt a fc.registers (omega arith)) (both _ _ (is_lt q p u) (is_lt p (length fc.body) (omega (arith, v))))
instr_fit g fc hi q (Apply d f rs) lt t h = both _ _ (is_lt d fc.registers (omega arith)) (both _ _ (is_lt f g h) (rows_fit fc.registers rs (omega arith)))
instr_fit g fc hi q (Loop d a i p) lt t h = both _ _ (is_lt d fc.registers (omega arith)) (both _ _ (is_lt a fc.registers (omega arith)) (both _ _ (is_lt i fc.registers (omega arith)) (is_le p q h)))
instr_fit g fc hi q (Return a) lt t h = is_lt a fc.registers (omega arith)

pub body_fit : (g : ℕ) (fc : FunCode) (hi q : ℕ) (is : List Instr) → hi < length fc.body → frame_size is ≤ fc.registers → AllPlaced g hi q is → IsTrue (body_fits g fc q is)
body_fit g fc hi q [] lt t h = refl
body_fit g fc hi q (i ∷ is) lt t h = both (instr_fits g fc q i) _ (instr_fit g fc hi q i lt (omega arith) h.0) (body_fit g fc hi (q + 1) is lt (omega arith) h.1)
