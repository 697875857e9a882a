-- Where loops end by a fault.
use Rattle.std.proofs.Common.{◌≡◌, ℕ, ◌+◌, ◌<◌, List, [], ◌∷◌, ◌++◌, length, map, drop, get_or, sym, ap, ◌∙◌}
use Rattle.std.proofs.lemmas.List.{get_or-map, length-map}
use Rattle.std.specs.Borrow.{Bor}
use Rattle.pst_eval.proofs.Steps.{all_step, each_step}
use Rattle.pst_eval.specs.Meaning.{Env, Mean, Run, all_from, visit_each}
use Rattle.pst_model.specs.Parts.{Name}
use Rattle.pst_model.specs.declared.expr.Expr.{Expr}
use Rattle.pst_operators.specs.Outcome.{Gives, Faults, Stuck, and_then, turn}
use Rattle.pst_scene.specs.Parts.{referred}
use Rattle.pst_value.specs.declared.fault.Fault.{Fault}
use Rattle.pst_value.specs.declared.value.Value.{Value}

-- an item of the expressions that references point to
pub referred_item : (es : List (Bor Expr)) (i : ℕ) (e : Bor Expr) → i < length es → e ≡ get_or es i e → e.now ≡ get_or (referred es) i e.now
referred_item es i e h is = ap (λ (x : Bor Expr). x.now) is ∙ sym (get_or-map (λ (x : Bor Expr). x.now) es i e e.now h)

pub referred_place : (es : List (Bor Expr)) (i : ℕ) → i < length es → i < length (referred es)
referred_place es i h = rw (length-map es (λ (x : Bor Expr). x.now)) h

pub all_faults : (m : Expr → Mean) (es : List Expr) (i : ℕ) (e : Expr) (done : List Value) (env : Env) (t t0 : ℕ) (why : Fault) → i < length es → e ≡ get_or es i e
    → all_from done (map m (drop i es)) env t ≡ all_from [] (map m es) env t0 → m e env t ≡ Faults why → all_from [] (map m es) env t0 ≡ Faults why
all_faults m es i e done env t t0 why h is inv s =
    sym inv ∙ all_step m es i e done env t h is ∙ ap (λ o. and_then o (λ r. all_from (done ++ r.0 ∷ []) (map m (drop (i + 1) es)) env r.1)) s

pub all_stuck : (m : Expr → Mean) (es : List Expr) (i : ℕ) (e : Expr) (done : List Value) (env : Env) (t t0 : ℕ) → i < length es → e ≡ get_or es i e
    → all_from done (map m (drop i es)) env t ≡ all_from [] (map m es) env t0 → m e env t ≡ Stuck → all_from [] (map m es) env t0 ≡ Stuck
all_stuck m es i e done env t t0 h is inv s =
    sym inv ∙ all_step m es i e done env t h is ∙ ap (λ o. and_then o (λ r. all_from (done ++ r.0 ∷ []) (map m (drop (i + 1) es)) env r.1)) s

pub each_faults : (next : Env → List Value → Run (List Value)) (x : Name) (env : Env) (vs : List Value) (i : ℕ) (v : Value) (built built0 : List Value) (t t0 t1 : ℕ) (why : Fault)
    → i < length vs → v ≡ get_or vs i v → turn t ≡ Gives (tt, t1) → visit_each next x env (drop i vs) built t ≡ visit_each next x env vs built0 t0
    → next ((x, v) ∷ env) built t1 ≡ Faults why → visit_each next x env vs built0 t0 ≡ Faults why
each_faults next x env vs i v built built0 t t0 t1 why h is g inv s =
    sym inv ∙ each_step next x env vs i v built t t1 h is g ∙ ap (λ o. and_then o (λ r. visit_each next x env (drop (i + 1) vs) r.0 r.1)) s
