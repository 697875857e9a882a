-- The callbacks may be asked of each call of a history in which some have an unknown outcome and no command is broken.
use Rattle.std.proofs.Common.{◌≡◌, ◌||◌, ℕ, zero, suc, ◌+◌, ◌-◌, ◌<◌, Bool, true, false, List, [], ◌∷◌, ◌++◌, length, map, Option, Some, None, refl, sym, ap, ◌∙◌, subst, slice_get, slice_index, arith, append_assoc, length-append}
use Rattle.std.proofs.lemmas.List.{length-map, map-append}
use Rattle.std.specs.Prelude.{MatchBool, replicate}
use Rattle.pst_case.specs.Matches.{part_matches, branches_match, matches, reply_fits, replies_of}
use Rattle.pst_case.specs.Recorded.{result_of, recorded}
use Rattle.pst_case.specs.Shape.{IsShaped, before_suffix, commands_of, joined, result_type, result_types, type_in}
use Rattle.pst_case.specs.Unknown.{is_unknown}
use Rattle.pst_case.specs.declared.case.Case.{Case}
use Rattle.pst_case.specs.declared.case.Command.{Command}
use Rattle.pst_case.specs.declared.history.History.{History}
use Rattle.pst_case.specs.declared.history.Reply.{Reply}
use Rattle.pst_case.specs.declared.history.Reply.TheVariants.{Value as Answered, Misfit, Failed, NotRun, Unknown}
use Rattle.pst_eval.specs.Names.{next_names_result}
use Rattle.pst_judge.proofs.Fitted.{ArgumentsFit, AllArgumentsFit, all_match, arguments_ok, event_with, parts_match, numbered_at, in_parts, last_part, number_after, number_last}
use Rattle.pst_judge.proofs.Missing.{SomeKnown, arguments_fit, knows_all}
use Rattle.pst_judge.proofs.NoFault.{if_none, or_else_none, or_second}
use Rattle.pst_judge.proofs.Wider.{fits-wider}
use Rattle.pst_judge.specs.Replay.{EventFits, event_of}
use Rattle.pst_judge.specs.Running.{EventsFit}
use Rattle.pst_judge.specs.UnknownCalls.{branch_calls, broken_command, branches_broken, columns, has_unknown_outcome, is_broken, is_variable, is_variable_at, known_events, known_prefix, needs_missing, part_broken, to_four, unknown_event, unknown_events}
use Rattle.pst_judge.specs.UnknownFitting.{CallFits, ColumnsFit, UnknownFits}
use Rattle.pst_judge.specs.declared.events.Event.{Event}
use Rattle.pst_model.specs.Fitting.{args_fit, args_fit_in, fits_in, ref_fits, ref_fits_in}
use Rattle.pst_model.specs.Parts.{operation_of, parameters_of, types_of}
use Rattle.pst_model.specs.WellTyped.{WellModel}
use Rattle.pst_model.specs.declared.model.Op.{Op}
use Rattle.pst_model.specs.declared.model.Source.{Source}
use Rattle.pst_value.proofs.ExactTypes.{same_ty-Decides}
use Rattle.pst_value.proofs.ItemsExact.{both_first, both_second}
use Rattle.pst_value.proofs.Typing.{fits-Var-Ref}
use Rattle.pst_value.specs.Fits.{is_ty}
use Rattle.pst_value.specs.Subst.{numbered, substituted}
use Rattle.pst_value.specs.declared.ty.Ty.{Ty}
use Rattle.pst_value.specs.declared.value.Value.{Value, Ref, Var, out-roll-Value}
use Rattle.pst_value.specs.declared.value.Value.TheOpen.{Value-F}
use Rattle.pst_value.specs.declared.value.Value.TheVariants.{rolls-Ref, rolls-Var}

-- ---- marks

known_mark : (results : List (Option Value)) (number : ℕ) (c : Command) (r : Value) → has_unknown_outcome (event_of results number c r) ≡ false
known_mark results number c r = ap is_variable (sym (rolls-Ref number r)) ∙ ap is_variable_at (out-roll-Value (Value-F.Ref number r))

unknown_mark : (results : List (Option Value)) (number : ℕ) (c : Command) → has_unknown_outcome (unknown_event results number c) ≡ true
unknown_mark results number c = ap is_variable (sym (rolls-Var number)) ∙ ap is_variable_at (out-roll-Value (Value-F.Var number))

-- ---- results

module _ (m : Source) (vars : List Ty) where
  some_known : (cs : List Command) (rs : List Reply) → part_matches m cs rs ≡ true → SomeKnown vars (parameters_of m.items) (map result_of rs) (map (result_type m) cs)
  some_known [] [] h = tt
  some_known [] (r ∷ rs) h = absurd (cc)
  some_known (c ∷ cs) [] h = absurd (cc)
  some_known (c ∷ cs) (Answered v ∷ rs) h =
      (fits-wider [] vars (parameters_of m.items) v (result_type m c) (both_first (reply_fits m c (Answered v)) _ h), some_known cs rs (both_second (reply_fits m c (Answered v)) _ h))
  some_known (c ∷ cs) (Misfit ∷ rs) h = some_known cs rs (both_second (reply_fits m c Misfit) _ h)
  some_known (c ∷ cs) (Failed ∷ rs) h = some_known cs rs (both_second (reply_fits m c Failed) _ h)
  some_known (c ∷ cs) (NotRun ∷ rs) h = some_known cs rs (both_second (reply_fits m c NotRun) _ h)
  some_known (c ∷ cs) (Unknown ∷ rs) h = some_known cs rs (both_second (reply_fits m c Unknown) _ h)

-- ---- the calls of a part

module _ (m : Source) (vars : List Ty) (results : List (Option Value)) (known : SomeKnown vars (parameters_of m.items) results vars) (well : WellModel m) where
  the_arguments : (o : Option Op) (args : List Value) → needs_missing 1 results args ≡ false → args_fit_in m vars vars o args ≡ true → args_fit_in m [] vars o (map (substituted results) args) ≡ true
  the_arguments None args n h = h
  the_arguments (Some o) args n h = arguments_fit vars (parameters_of m.items) results known args (types_of o.params) (knows_all results args n) h

  arguments_of : (op : ℕ) (args : List Value) → needs_missing 1 results args ≡ false → args_fit m vars vars op args ≡ true → args_fit m [] vars op (map (substituted results) args) ≡ true
  unfolding args_fit
  arguments_of op args n h = the_arguments (operation_of m.items op) args n h

  the_variable : (o : Option Op) (args : List Value) (number : ℕ) → args_fit_in m vars vars o args ≡ true → numbered vars number ≡ Some (type_in o) → ref_fits_in m vars vars o (Var number) ≡ true
  the_variable None args number h n = h
  the_variable (Some o) args number h n =
      fits-Var-Ref vars vars (parameters_of m.items) number o.result ∙ ap (λ t. is_ty t o.result) n ∙ (same_ty-Decides o.result o.result).1 refl

  variable_at : (op : ℕ) (args : List Value) (number : ℕ) → args_fit m vars vars op args ≡ true → numbered vars number ≡ Some (type_in (operation_of m.items op)) → ref_fits m vars vars op (Var number) ≡ true
  unfolding args_fit ref_fits
  variable_at op args number h n = the_variable (operation_of m.items op) args number h n

  the_place : (o : Option Op) (args : List Value) (number : ℕ) → args_fit_in m vars vars o args ≡ true → numbered vars number ≡ Some (type_in o) → (op : Op) × (o ≡ Some op) × (numbered vars number ≡ Some op.result)
  the_place None args number h n = absurd (cc)
  the_place (Some o) args number h n = (o, refl, n)

  place_at : (op : ℕ) (args : List Value) (number : ℕ) → args_fit m vars vars op args ≡ true → numbered vars number ≡ Some (type_in (operation_of m.items op)) → (o : Op) × (operation_of m.items op ≡ Some o) × (numbered vars number ≡ Some o.result)
  unfolding args_fit
  place_at op args number h n = the_place (operation_of m.items op) args number h n

  event_fits : (number : ℕ) (c : Command) (r : Value) → needs_missing 1 results c.args ≡ false → args_fit m vars vars c.op c.args ≡ true → numbered vars number ≡ Some (result_type m c) → fits_in m [] [] r (result_type m c) ≡ true → EventFits m vars (event_of results number c r)
  event_fits number c r needs h n k = event_with m vars results number c r (arguments_of c.op c.args needs h) h n k

  unknown_fits : (number : ℕ) (c : Command) → needs_missing 1 results c.args ≡ false → next_names_result m c.op ≡ false → args_fit m vars vars c.op c.args ≡ true → numbered vars number ≡ Some (result_type m c) → UnknownFits m vars (unknown_event results number c)
  unknown_fits number c needs unnamed h n =
      let p = place_at c.op c.args number h n in
      record { arguments = arguments_of c.op c.args needs h; reference = variable_at c.op c.args number h n; unnamed = unnamed; number = number; operation = p.0; is = p.1; place = p.2; well = well }

  abbrev pub EachFits : List Event → Type 0
  EachFits [] = Unit {0}
  EachFits (e ∷ es) = CallFits m vars e × EachFits es

  as_known : (e : Event) → has_unknown_outcome e ≡ false → EventFits m vars e → CallFits m vars e
  as_known e mark h = subst (λ b. MatchBool b (UnknownFits m vars e) (EventFits m vars e)) (sym mark) h

  as_unknown : (e : Event) → has_unknown_outcome e ≡ true → UnknownFits m vars e → CallFits m vars e
  as_unknown e mark h = subst (λ b. MatchBool b (UnknownFits m vars e) (EventFits m vars e)) (sym mark) h

  -- the calls of a part: those with values fit as events and as calls, and those of unknown outcome as calls
  abbrev pub PartFits : ℕ → List Command → List Reply → Type 0
  PartFits number cs rs =
      EventsFit m vars (known_events results number cs rs) × EachFits (known_events results number cs rs) × EachFits (unknown_events results number cs rs)

  pub part_fits : (before after : List Ty) (number : ℕ) (ended : Bool) (cs : List Command) (rs : List Reply) → vars ≡ before ++ (map (result_type m) cs ++ after) → number ≡ length before + 1
      → ArgumentsFit m vars cs → part_matches m cs rs ≡ true → part_broken m results number ended cs rs ≡ None → PartFits number cs rs
  part_fits before after number ended [] rs v n a h k = (tt, tt, tt)
  part_fits before after number ended (c ∷ cs) [] v n a h k = absurd (cc)
  part_fits before after number ended (c ∷ cs) (r ∷ rs) v n a h k =
      let t = result_type m c in
      let v' : vars ≡ (before ++ t ∷ []) ++ (map (result_type m) cs ++ after) = v ∙ sym (append_assoc before (t ∷ []) (map (result_type m) cs ++ after)) in
      let n' : number + 1 ≡ length (before ++ t ∷ []) + 1 = (let l : length (before ++ t ∷ []) ≡ length before + 1 = length-append before (t ∷ []) in omega (arith, n, l)) in
      let at : numbered vars number ≡ Some t = ap (numbered vars) n ∙ ap (λ ts. numbered ts (length before + 1)) v ∙ numbered_at before (map (result_type m) cs ++ after) t in
      let p = if_none (is_broken m results ended c r) number (part_broken m results (number + 1) (ended || is_unknown r) cs rs) k in
      by r (both_first (reply_fits m c r) _ h) p.0 at (part_fits (before ++ t ∷ []) after (number + 1) (ended || is_unknown r) cs rs v' n' a.1 (both_second (reply_fits m c r) _ h) p.1)
    where
      by : (r : Reply) → reply_fits m c r ≡ true → is_broken m results ended c r ≡ false → numbered vars number ≡ Some (result_type m c) → PartFits (number + 1) cs rs → PartFits number (c ∷ cs) (r ∷ rs)
      by (Answered w) f b at rest =
          let e = event_fits number c w (or_second ended (needs_missing 1 results c.args) b).1 a.0 at f in
          ((e, rest.0), (as_known (event_of results number c w) (known_mark results number c w) e, rest.1), rest.2)
      by Misfit f b at rest = rest
      by Failed f b at rest = rest
      by NotRun f b at rest = rest
      by Unknown f b at rest =
          let q = or_second (needs_missing 1 results c.args) (next_names_result m c.op) (or_second ended (needs_missing 1 results c.args || next_names_result m c.op) b).1 in
          (rest.0, rest.1, (as_unknown (unknown_event results number c) (unknown_mark results number c) (unknown_fits number c q.0 q.1 a.0 at), rest.2))

  each_append : (es ds : List Event) → EachFits es → EachFits ds → EachFits (es ++ ds)
  each_append [] ds h k = k
  each_append (e ∷ es) ds h k = (h.0, each_append es ds h.1 k)

  abbrev pub AllFit : List (List Event) → Type 0
  AllFit [] = Unit {0}
  AllFit (es ∷ ess) = EachFits es × AllFit ess

  all_append : (ess dss : List (List Event)) → AllFit ess → AllFit dss → AllFit (ess ++ dss)
  all_append [] dss h k = k
  all_append (es ∷ ess) dss h k = (h.0, all_append ess dss h.1 k)

  none_fit : (n : ℕ) → AllFit (replicate n [])
  none_fit zero = tt
  none_fit (suc n) = (tt, none_fit n)

  pub branches_fit : (before after : List Ty) (number : ℕ) (bs : List (List Command)) (rs : List (List Reply)) → vars ≡ before ++ (map (result_type m) (joined bs) ++ after) → number ≡ length before + 1
      → AllArgumentsFit m vars bs → branches_match m bs rs ≡ true → branches_broken m results number bs rs ≡ None → AllFit (branch_calls results number bs rs)
  branches_fit before after number [] rs v n a h k = tt
  branches_fit before after number (b ∷ bs) [] v n a h k = absurd (cc)
  branches_fit before after number (b ∷ bs) (r ∷ rs) v n a h k =
      let f = result_type m in
      let w : vars ≡ before ++ (map f b ++ (map f (joined bs) ++ after)) = v ∙ ap (λ ts. before ++ ts) (ap (λ ts. ts ++ after) (map-append f b (joined bs)) ∙ append_assoc (map f b) (map f (joined bs)) after) in
      let w' : vars ≡ (before ++ map f b) ++ (map f (joined bs) ++ after) = w ∙ sym (append_assoc before (map f b) (map f (joined bs) ++ after)) in
      let n' : number + length b ≡ length (before ++ map f b) + 1 = (let l = length-append before (map f b) in let q = length-map b f in omega (arith, n, l, q)) in
      let p = or_else_none (part_broken m results number false b r) (branches_broken m results (number + length b) bs rs) k in
      let here = part_fits before (map f (joined bs) ++ after) number false b r w n a.0 (both_first (part_matches m b r) _ h) p.0 in
      (each_append (known_events results number b r) (unknown_events results number b r) here.1 here.2, branches_fit (before ++ map f b) after (number + length b) bs rs w' n' a.1 (both_second (part_matches m b r) _ h) p.1)

  in_column : (es : List Event) (i : ℕ) → EachFits es → i < length es → (e : Event) × (slice_get es i ≡ Some e) × CallFits m vars e
  in_column [] i h lt = absurd (omega arith)
  in_column (e ∷ es) zero h lt = (e, refl, h.0)
  in_column (e ∷ es) (suc i) h lt = in_column es i h.1 (omega arith)

  pub in_columns : (ess : List (List Event)) → AllFit ess → ColumnsFit m vars ess
  in_columns [] h b i lt = absurd (none b i lt)
    where
      none : (b i : ℕ) → i < slice_index [] b → ⊥
      none b i lt = omega arith
  in_columns (es ∷ ess) h zero i lt = in_column es i h.0 lt
  in_columns (es ∷ ess) h (suc b) i lt = in_columns ess h.1 b i lt

-- ---- the whole history

module _ (m : Source) (c : Case) (h : History) (shaped : IsShaped m c) (match : matches m c h ≡ true) (whole : broken_command m c h ≡ None) (well : WellModel m) where
  abbrev vars : List Ty
  vars = result_types m c

  known : SomeKnown vars (parameters_of m.items) (recorded h) vars
  known = some_known m vars (commands_of c) (replies_of h) (all_match m c h match)

  none : (part_broken m (recorded h) 1 false c.prefix h.prefix ≡ None) × (branches_broken m (recorded h) (1 + length c.prefix) c.branches h.branches ≡ None) × (part_broken m (recorded h) (1 + before_suffix c) false c.suffix h.suffix ≡ None)
  none =
      let p = or_else_none (part_broken m (recorded h) 1 false c.prefix h.prefix) _ whole in
      let q = or_else_none (branches_broken m (recorded h) (1 + length c.prefix) c.branches h.branches) _ p.1 in
      (p.0, q.0, q.1)

  prefix_part : PartFits m vars (recorded h) known well 1 c.prefix h.prefix
  prefix_part =
      part_fits m vars (recorded h) known well [] (map (result_type m) (joined c.branches) ++ map (result_type m) c.suffix) 1 false c.prefix h.prefix (in_parts (result_type m) c.prefix (joined c.branches) c.suffix) refl
      (arguments_ok m c shaped).0 (parts_match m c h match).0 none.0

  suffix_part : PartFits m vars (recorded h) known well (1 + before_suffix c) c.suffix h.suffix
  suffix_part =
      part_fits m vars (recorded h) known well (map (result_type m) (c.prefix ++ joined c.branches)) [] (1 + before_suffix c) false c.suffix h.suffix (last_part (result_type m) c.prefix (joined c.branches) c.suffix) (number_last (result_type m) c.prefix (joined c.branches))
      (arguments_ok m c shaped).2 (parts_match m c h match).2 none.2

  branches_part : AllFit m vars (recorded h) known well (branch_calls (recorded h) (1 + length c.prefix) c.branches h.branches)
  branches_part =
      branches_fit m vars (recorded h) known well (map (result_type m) c.prefix) (map (result_type m) c.suffix) (1 + length c.prefix) c.branches h.branches (in_parts (result_type m) c.prefix (joined c.branches) c.suffix) (number_after (result_type m) c.prefix)
      (arguments_ok m c shaped).1 (parts_match m c h match).1 none.1

  -- what the callbacks may be asked of the calls of the prefix that have values, and of those of the columns
  pub prefix_fits : EventsFit m vars (known_prefix c h)
  prefix_fits = prefix_part.0

  pub columns_fit : ColumnsFit m vars (columns c h)
  columns_fit =
      let calls = branch_calls (recorded h) (1 + length c.prefix) c.branches h.branches in
      in_columns m vars (recorded h) known well (columns c h)
      (all_append m vars (recorded h) known well (to_four calls) (unknown_events (recorded h) 1 c.prefix h.prefix ∷ known_events (recorded h) (1 + before_suffix c) c.suffix h.suffix ∷ [])
      (all_append m vars (recorded h) known well calls (replicate (4 - length calls) []) branches_part (none_fit m vars (recorded h) known well (4 - length calls)))
      (prefix_part.2, (suffix_part.1, tt)))
