-- How a list of precedences becomes minimal.
use Rattle.std.proofs.Common.{◌≡◌, ℕ, zero, suc, ◌<◌, List, [], ◌∷◌, ◌++◌, length, Bool, true, not, ◌&&◌, sym, ap, ◌∙◌, subst, append_assoc, arith}
use Rattle.std.proofs.lemmas.Bool.{and_parts}
use Rattle.std.proofs.lemmas.List.{append-nil}
use Rattle.std.proofs.lemmas.List.Elements.{All-cons, All-head, All-tail}
use Rattle.std.specs.List.{All, remove}
use Rattle.pst_case.specs.declared.case.Case.{Case}
use Rattle.pst_case.specs.declared.history.CallTime.{CallTime}
use Rattle.pst_case.specs.declared.history.History.{History}
use Rattle.pst_grid.specs.Merges.{none_done, one_more}
use Rattle.pst_grid.specs.Orders.{IsInOrder}
use Rattle.pst_judge.specs.RealTime.{real_time, AreTimely}
use Rattle.pst_judge.specs.Replay.{branch_lengths}
use Rattle.pst_model.specs.declared.model.Source.{Source}
use Rattle.pst_precedence.proofs.Kept.{kept_in_time}
use Rattle.pst_precedence.specs.Deleting.{AreObstaclesSoFar}
use Rattle.pst_precedence.specs.Listing.{ListsAll}
use Rattle.pst_precedence.specs.Precedences.{closes, keeping, IsExplainedIn, IsRecorded}
use Rattle.pst_precedence.specs.declared.precedence.Precedence.{Precedence}
use Rattle.pst_reasons.specs.Reasons.{IsUnexplained}

and_true : (a b : Bool) → a ≡ true → b ≡ true → (a && b) ≡ true
and_true a b h k = ap (λ x. x && b) h ∙ k

-- a branch that is open by a list is open by the list without one of its precedences
fewer_open : (first rest : List Precedence) (p : Precedence) (done : List ℕ) (b : ℕ) → keeping ((first ++ p ∷ []) ++ rest) done b ≡ true → keeping (first ++ rest) done b ≡ true
fewer_open [] rest p done b k = (and_parts (not (closes p done b)) (keeping rest done b) k).1
fewer_open (q ∷ first) rest p done b k =
    let r = and_parts (not (closes q done b)) (keeping ((first ++ p ∷ []) ++ rest) done b) k in
    and_true (not (closes q done b)) (keeping (first ++ rest) done b) r.0 (fewer_open first rest p done b r.1)

fewer_in_order : (first rest : List Precedence) (p : Precedence) (done w : List ℕ) → IsInOrder (keeping ((first ++ p ∷ []) ++ rest)) done w → IsInOrder (keeping (first ++ rest)) done w
fewer_in_order first rest p done [] k = tt
fewer_in_order first rest p done (b ∷ w) k = (fewer_open first rest p done b k.0, fewer_in_order first rest p (one_more done b) w k.1)

moved_over : (first rest : List Precedence) (p : Precedence) → (first ++ p ∷ []) ++ rest ≡ first ++ p ∷ rest
moved_over first rest p = append_assoc first (p ∷ []) rest

-- all of a list without one of them
pub fewer_all : (P : Precedence → Type 0) (first rest : List Precedence) (p : Precedence) → All P ((first ++ p ∷ []) ++ rest) → All P (first ++ rest)
fewer_all P [] rest p all = All-tail P p rest all
fewer_all P (q ∷ first) rest p all =
    All-cons P q (first ++ rest) (All-head P q ((first ++ p ∷ []) ++ rest) all)
    (fewer_all P first rest p (All-tail P q ((first ++ p ∷ []) ++ rest) all))

module _ (m : Source) (c : Case) (h : History) (times : List (List CallTime)) where
  fewer_explained : (first rest : List Precedence) (p : Precedence) → IsExplainedIn m (keeping ((first ++ p ∷ []) ++ rest)) c h → IsExplainedIn m (keeping (first ++ rest)) c h
  fewer_explained first rest p e = (e.0, (e.1.0, fewer_in_order first rest p (none_done (branch_lengths c)) e.0 e.1.1), e.2)

  -- the others rule out every explanation without it
  pub left_out : (first rest : List Precedence) (p : Precedence) → AreObstaclesSoFar m c h times (first ++ p ∷ []) rest → IsUnexplained m (keeping (first ++ rest)) c h → AreObstaclesSoFar m c h times first rest
  left_out first rest p so_far against = record {
    recorded = fewer_all (IsRecorded times) first rest p so_far.recorded;
    against = against;
    needed = λ i l. fewer_explained first (remove rest i) p (so_far.needed i l);
  }

  needed_with : (first rest : List Precedence) (p : Precedence) → AreObstaclesSoFar m c h times (first ++ p ∷ []) rest → IsExplainedIn m (keeping (first ++ rest)) c h
      → (i : ℕ) → i < length (p ∷ rest) → IsExplainedIn m (keeping (first ++ remove (p ∷ rest) i)) c h
  needed_with first rest p so_far explained zero l = explained
  needed_with first rest p so_far explained (suc i) l =
      let e : (first ++ p ∷ []) ++ remove rest i ≡ first ++ p ∷ remove rest i = moved_over first (remove rest i) p in
      subst (λ ps. IsExplainedIn m (keeping ps) c h) e (so_far.needed i (omega (arith, l)))

  -- some interleaving is explained without it
  pub kept : (first rest : List Precedence) (p : Precedence) → AreObstaclesSoFar m c h times (first ++ p ∷ []) rest → IsExplainedIn m (keeping (first ++ rest)) c h → AreObstaclesSoFar m c h times first (p ∷ rest)
  kept first rest p so_far explained = record {
    recorded = subst (All (IsRecorded times)) (moved_over first rest p) so_far.recorded;
    against = subst (λ ps. IsUnexplained m (keeping ps) c h) (moved_over first rest p) so_far.against;
    needed = needed_with first rest p so_far explained;
  }

  -- all that are listed, if no interleaving in the order of time explains the run
  pub started : AreTimely times → (ps : List Precedence) → ListsAll times ps → IsUnexplained m (real_time times) c h → AreObstaclesSoFar m c h times ps []
  started timely ps lists unexplained = record {
    recorded = subst (All (IsRecorded times)) (sym (append-nil ps)) lists.recorded;
    against = subst (λ qs. IsUnexplained m (keeping qs) c h) (sym (append-nil ps))
        (λ word in_order all. unexplained word (in_order.0, kept_in_time times timely ps lists (none_done (branch_lengths c)) word in_order.1) all);
    needed = λ i l. absurd (omega (arith, l));
  }
