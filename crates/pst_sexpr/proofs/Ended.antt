-- What the end of the bytes says.
use Rattle.std.proofs.Common.{◌≡◌, ℕ, ◌+◌, refl, sym, subst, arith, Result, Ok, Err, List, [], ◌∷◌, ◌++◌, length, append_assoc}
use Rattle.std.proofs.lemmas.List.{append-nil}
use Rattle.std.specs.Result.{IfOk}
use Rattle.pst_sexpr.specs.declared.form.Form.{Form}
use Rattle.pst_sexpr.specs.declared.reader.SexprFault.{SexprFault}
use Rattle.pst_sexpr.specs.declared.levels.Level.{Level}
use Rattle.pst_sexpr.specs.declared.scan.Mode.{Mode}
use Rattle.pst_sexpr.specs.declared.scan.Mode.TheVariants.{Plain, Quoted, Escaped, Comment}
use Rattle.pst_sexpr.specs.declared.scan.Scanner.{Scanner}
use Rattle.pst_sexpr.specs.Bytes.{is_escaped_byte}
use Rattle.pst_sexpr.specs.Grammar.{none, behind, Begins, nothing, last_comment}
use Rattle.pst_sexpr.specs.Scan as spec
use Rattle.pst_sexpr.specs.Scan.{step, step_by, run, finish, outcome, scanner, with_word, and_then, between, plain, quoted, escaped, opened, closed, closed_by}
use Rattle.std.specs.Result.{MatchResult}
use Rattle.std.proofs.lemmas.Result.{MatchResult-at_ok}
use Rattle.pst_sexpr.specs.declared.reader.FaultKind.{FaultKind}
use Rattle.pst_sexpr.specs.Scan.{finish_by, ends_plain}
use Rattle.pst_sexpr.specs.Reading.{Unclosed, in_text, in_node, deeper}
use Rattle.pst_sexpr.proofs.Sound.{join, Escapes-join, UpTo, extend, end_word, Holds, Holds_by, run_holds}

-- trees before it
further : {limit depth : ℕ} {kind : FaultKind} {bytes left last : List ℕ} {trees : List Form} →
    Begins limit depth bytes trees left → Unclosed limit depth kind left last → Unclosed limit depth kind bytes last
further begun (in_text more b e) = in_text more (join begun b) e
further begun (in_node b h i) = in_node (join begun b) h i
further begun (deeper b h u) = deeper (join begun b) h u

module _ (limit : ℕ) (whole : List ℕ) where
  -- the nodes round it
  outward : (nodes : List Level) (done : List Form) {kind : FaultKind} {left last : List ℕ} →
      UpTo limit whole nodes done left → Unclosed limit (length nodes) kind left last → Unclosed limit 0 kind whole last
  outward [] done u h = further u h
  outward (level ∷ nodes) done u h = outward nodes level.done u.1 (deeper nothing u.2 (further u.3 h))

  abbrev pub IsUnclosed : SexprFault → Type 0
  IsUnclosed f = (last : List ℕ) × Unclosed limit 0 f.kind whole last × (f.place + length last ≡ length whole)

  abbrev pub Finished : Result (List Form) SexprFault → Type 0
  Finished r = MatchResult r (λ trees. Begins limit 0 whole trees []) IsUnclosed

  plain_finished : (done : List Form) (nodes : List Level) → UpTo limit whole nodes done [] → Finished (ends_plain done nodes)
  plain_finished done [] u = u
  plain_finished done (level ∷ nodes) u = (40 ∷ u.0, outward nodes level.done u.1 (in_node nothing u.2 u.3), u.4)

  finished_by : (mode : Mode) (q : ℕ) (part : List ℕ) (done : List Form) (nodes : List Level) → Holds_by limit whole mode q part done nodes [] → Finished (finish_by mode q part done nodes)
  unfolding is_escaped_byte
  finished_by Plain q part done nodes h = plain_finished (with_word part done) nodes (end_word limit whole part done nodes [] h.0 h.1 tt)
  finished_by Quoted q part done nodes h =
      (34 ∷ h.0 ++ [], outward nodes done h.1 (in_text {text = part} [] nothing (rw (append-nil (h.0 ++ []), append-nil h.0) h.2)), h.3)
  finished_by Escaped q part done nodes h =
      (34 ∷ h.0 ++ 92 ∷ [], outward nodes done h.1 (in_text {text = part ++ 34 ∷ []} (34 ∷ []) nothing (rw (append_assoc h.0 (92 ∷ []) (34 ∷ [])) (Escapes-join h.2 (behind {byte = 34} refl none)))), h.3)
  finished_by Comment q part done nodes h =
      let u = rw append-nil at h.1 in
      let v = rw append-nil at (extend limit whole nodes done u (last_comment h.2)) in
      plain_finished (with_word part done) nodes (subst (λ p. UpTo limit whole nodes (with_word p done) []) (sym h.3) v)

  pub finished : (s : Scanner) → Holds limit whole s [] → Finished (finish s)
  finished s h = finished_by s.mode s.quote s.part s.done s.nodes h

  outcome_by : (r : Result Scanner SexprFault) → run limit spec.start 0 whole ≡ r → IfOk r (λ s. Holds limit whole s []) → (trees : List Form) → and_then r finish ≡ Ok trees → Begins limit 0 whole trees []
  outcome_by (Ok s) e h trees f = MatchResult-at_ok (λ ts. Begins limit 0 whole ts []) IsUnclosed trees f (finished s h)
  outcome_by (Err x) e h trees f = absurd (let g : Err x ≡ Ok trees = f in cc)

pub start_holds : (limit : ℕ) (whole : List ℕ) → IfOk (run limit spec.start 0 whole) (λ s. Holds limit whole s [])
start_holds limit whole = run_holds limit whole whole spec.start 0 (nothing, tt) (omega arith)

-- what has an outcome is spelled so
pub sound : (limit : ℕ) (bytes : List ℕ) (trees : List Form) → outcome limit spec.start 0 bytes ≡ Ok trees → Begins limit 0 bytes trees []
sound limit bytes trees e = outcome_by limit bytes (run limit spec.start 0 bytes) refl (start_holds limit bytes) trees e
