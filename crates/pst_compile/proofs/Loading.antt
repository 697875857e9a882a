-- One step of the loop over operands.
use Rattle.std.proofs.Common.{◌≡◌, ℕ, ◌+◌, ◌<◌, List, [], ◌∷◌, ◌++◌, length, map, drop, get_or, sym, ap, ◌∙◌, append_assoc}
use Rattle.pst_model.specs.declared.expr.Expr.{Expr}
use Rattle.pst_machine.specs.declared.code.Instr.{Instr}
use Rattle.pst_eval.proofs.Steps.{split_at}
use Rattle.pst_compile.specs.Code.{Scope, Coded, load, at, load_all, all_at}

pub code_next : (m : Expr → Coded) (es : List Expr) (i : ℕ) (e : Expr) (sc : Scope) (r p r' p' : ℕ) (done more code whole : List Instr) → i < length es → e ≡ get_or es i e → done ++ load_all (map m (drop i es)) sc r p ≡ whole → code ≡ load (m e) sc r p → r' ≡ r + 1 → p' ≡ p + length code → more ≡ done ++ code → more ++ load_all (map m (drop (i + 1) es)) sc r' p' ≡ whole
code_next m es i e sc r p r' p' done more code whole h is inv ec er ep em =
    ap (λ l. l ++ load_all (map m (drop (i + 1) es)) sc r' p') em
    ∙ ap (λ k. (done ++ code) ++ load_all (map m (drop (i + 1) es)) sc k p') er
    ∙ ap (λ k. (done ++ code) ++ load_all (map m (drop (i + 1) es)) sc (r + 1) k) ep
    ∙ append_assoc done code _
    ∙ ap (λ c. done ++ (c ++ load_all (map m (drop (i + 1) es)) sc (r + 1) (p + length c))) ec
    ∙ sym (ap (λ l. done ++ load_all (map m l) sc r p) (split_at es i e h is))
    ∙ inv

pub registers_next : (m : Expr → Coded) (es : List Expr) (i : ℕ) (e : Expr) (sc : Scope) (r r' a : ℕ) (done more whole : List ℕ) → i < length es → e ≡ get_or es i e → done ++ all_at (map m (drop i es)) sc r ≡ whole → a ≡ at (m e) sc r → r' ≡ r + 1 → more ≡ done ++ a ∷ [] → more ++ all_at (map m (drop (i + 1) es)) sc r' ≡ whole
registers_next m es i e sc r r' a done more whole h is inv ea er em =
    ap (λ l. l ++ all_at (map m (drop (i + 1) es)) sc r') em
    ∙ ap (λ k. (done ++ a ∷ []) ++ all_at (map m (drop (i + 1) es)) sc k) er
    ∙ append_assoc done (a ∷ []) _
    ∙ ap (λ k. done ++ k ∷ all_at (map m (drop (i + 1) es)) sc (r + 1)) ea
    ∙ sym (ap (λ l. done ++ all_at (map m l) sc r) (split_at es i e h is))
    ∙ inv
