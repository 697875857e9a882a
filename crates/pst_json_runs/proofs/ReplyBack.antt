-- Replies are read back from their JSON.
use Rattle.std.proofs.Common.{◌≡◌, ℕ, zero, suc, ◌<◌, Bool, true, false, List, [], ◌∷◌, ◌++◌, map, Option, Some, None, option_map, refl, sym, ap, ◌∙◌, arith}
use Rattle.std.specs.Prelude.{codes}
use Rattle.std.specs.List.{AllByRecursion}
use Rattle.json.specs.Json.{Json, null, boolean, number, string, array, object, no_items, Members, no_members, member}
use Rattle.json.specs.Value.{items_of}
use Rattle.pst_case.proofs.Callless.{holds_ref_or_call-call}
use Rattle.pst_case.specs.Matches.{reply_fits, part_matches, branches_match}
use Rattle.pst_case.specs.Shape.{type_in}
use Rattle.pst_case.specs.declared.case.Command.{Command}
use Rattle.pst_case.specs.declared.history.Reply.TheVariants as reply
use Rattle.pst_case.specs.declared.history.Reply.{Reply}
use Rattle.pst_json_runs.proofs.CommandBack.{named_is}
use Rattle.pst_json_runs.proofs.SpelledBack.{if_spelled_is}
use Rattle.pst_json_runs.proofs.ValueBack.{value_back}
use Rattle.pst_json_runs.specs.Trees as read
use Rattle.pst_json_runs.specs.Written as json
use Rattle.pst_json_runs.proofs.ValueLevels.{json-Int, json-Truth, json-Text, json-Tuple, json-ListOf, json-MapOf, json-Var, json-Ref, json-Call}
use Rattle.pst_json_runs.specs.Reading.{value_in}
use Rattle.pst_json_runs.specs.Writing.{json_of, key_name, members_of}
use Rattle.pst_model.proofs.Operations.{well_operation}
use Rattle.pst_model.specs.Fitting.{fits_in}
use Rattle.pst_model.specs.Language.{KeepsLanguage}
use Rattle.pst_model.specs.Operations.{HasOperations}
use Rattle.pst_model.specs.Parts.{parameters_of}
use Rattle.pst_model.specs.WellTyped.{WellModel}
use Rattle.pst_model.specs.declared.model.Source.{Source}
use Rattle.pst_runs.proofs.CommandAgain.{CommandAgain, EachCommand, EachBranch, room_is}
use Rattle.pst_runs.proofs.ValueAgain.{closed, reply_again}
use Rattle.pst_runs.specs.Values.{in_replies}
use Rattle.pst_runs.specs.Written.{value_form, reply_form, list_form, suffix_lists}
use Rattle.pst_sexpr.proofs.Numbers.{both_hold}
use Rattle.pst_sexpr.specs.declared.form.Form.TheVariants.{Word, Node}
use Rattle.pst_value.proofs.Forms.{value_induction}
use Rattle.pst_value.specs.Fits.{fits, is_ty}
use Rattle.pst_value.specs.Subst.{numbered}
use Rattle.pst_value.specs.declared.key.Key.{Key}
use Rattle.pst_value.specs.declared.ty.Ty.{Ty}
use Rattle.pst_value.specs.declared.value.Value.{Value}

-- ---- the JSON of a value says no other outcome

abbrev is_null : Json → Bool
is_null null = true
is_null _ = false

record IsNoOutcome (j : Json) : Type 0 where
  some : is_null j ≡ false
  none : read.outcome_of j ≡ None

said_none : (name : List ℕ) (j : Json) → is_null j ≡ false → read.outcome_at name j ≡ None
said_none name null e = absurd (cc)
said_none name (boolean b) e = refl
said_none name (number s) e = refl
said_none name (string s) e = refl
said_none name (array js) e = refl
said_none name (object ns) e = refl

member_none : (name : List ℕ) (j : Json) (ms : Members) → is_null j ≡ false → read.outcome_in (member name j ms) ≡ None
member_none name j no_members e = said_none name j e
member_none name j (member other k ms) e = refl

abbrev Valued : Value → Type 0
Valued v = IsNoOutcome (json_of v)

of_json : (v : Value) (j : Json) → json_of v ≡ j → is_null j ≡ false → read.outcome_of j ≡ None → Valued v
of_json v j is e o = record { some = ap is_null is ∙ e; none = ap read.outcome_of is ∙ o }

map_none : (ks : List Key) (vs : List Value) → AllByRecursion Valued vs → read.outcome_in (members_of ks (map json_of vs)) ≡ None
map_none ks [] h = refl
map_none [] (v ∷ vs) h = refl
map_none (k ∷ ks) (v ∷ vs) h = member_none (key_name k) (json_of v) (members_of ks (map json_of vs)) h.0.some

no_outcome : (v : Value) → Valued v
no_outcome = value_induction Valued (record {
  int = λ n. of_json _ _ (json-Int n) refl refl;
  truth = λ b. of_json _ _ (json-Truth b) refl refl;
  text = λ bs. of_json _ _ (json-Text bs) refl refl;
  tuple = λ vs h. of_json _ _ (json-Tuple vs) refl refl;
  items = λ vs h. of_json _ _ (json-ListOf vs) refl refl;
  maps = λ ks vs h. of_json _ _ (json-MapOf ks vs) refl (map_none ks vs h);
  var = λ n. of_json _ _ (json-Var n) refl refl;
  ref = λ n v h. of_json _ _ (json-Ref n v) h.some h.none;
  call = λ op vs h. of_json _ _ (json-Call op vs) refl refl;
})

-- ---- replies

no_result : (n : ℕ) (t : Ty) → is_ty (numbered [] n) t ≡ true → n < 10000
no_result zero t e = absurd (cc)
no_result (suc n) t e = absurd (cc)

-- the suffix of a case, if it has commands
abbrev pub suffix_json : Source → List Command → Option Json
suffix_json m [] = None
suffix_json m (c ∷ cs) = Some (json.part_json m (c ∷ cs))

module _ (m : Source) (model : WellModel m) (has : HasOperations m.items) (language : KeepsLanguage m) where
  result_is : (c : Command) (a : CommandAgain m c) → read.result_of m (json.command_json m c) ≡ Some a.operation.result
  result_is c a = ap (option_map (λ o. o.result)) (named_is m c a)

  reply_back : (c : Command) (r : Reply) → CommandAgain m c → reply_fits m c r ≡ true
      → read.reply_form (read.result_of m (json.command_json m c)) (json.reply_json r) ≡ reply_form r
  reply_back c (reply.Value v) a e =
      let o = a.operation in
      let ops = parameters_of m.items in
      let low = room_is o.result (has c.op o a.known).result in
      let call = holds_ref_or_call-call o.result (well_operation m c.op o model a.known).result in
      let fit : fits [] [] ops v o.result ≡ true = ap (λ q. fits_in m [] [] v (type_in q)) (sym a.known) ∙ e in
      let again = reply_again ops (in_replies m) v o.result (omega arith) call (λ e. (language e c.op o a.known).result) fit in
      let other = Word (codes "misfit") in
      ap (λ t. read.reply_form t (json_of v)) (result_is c a)
      ∙ ap (λ w. read.outcome_or w (read.tree_or other (value_in (Some o.result) (json_of v)))) (no_outcome v).none
      ∙ ap (read.tree_or other) (value_back [] [] ops no_result v o.result call (closed ops v o.result fit) fit)
      ∙ if_spelled_is (value_form v) other again.sized.lawful
  reply_back c reply.Misfit a e = refl
  reply_back c reply.Failed a e = refl
  reply_back c reply.NotRun a e = refl
  reply_back c reply.Unknown a e = refl

  replies_back : (cs : List Command) (rs : List Reply) → EachCommand m cs → part_matches m cs rs ≡ true
      → read.reply_forms m (items_of (map (json.command_json m) cs)) (items_of (map json.reply_json rs)) ≡ map reply_form rs
  replies_back cs [] h e = refl
  replies_back [] (r ∷ rs) h e = absurd (cc)
  replies_back (c ∷ cs) (r ∷ rs) h e =
      let p = both_hold (reply_fits m c r) (part_matches m cs rs) e in
      ap (λ f. f ∷ read.reply_forms m (items_of (map (json.command_json m) cs)) (items_of (map json.reply_json rs))) (reply_back c r h.0 p.0)
      ∙ ap (λ fs. reply_form r ∷ fs) (replies_back cs rs h.1 p.1)

  pub list_back : (cs : List Command) (rs : List Reply) → EachCommand m cs → part_matches m cs rs ≡ true
      → read.list_form m (Some (json.part_json m cs)) (json.list_json rs) ≡ list_form rs
  list_back cs rs h e = ap (λ fs. Node fs) (replies_back cs rs h e)

  last_back : (cs : List Command) (rs : List Reply) → EachCommand m cs → part_matches m cs rs ≡ true
      → read.rest_forms m no_items (suffix_json m cs) (items_of (json.suffix_lists rs)) ≡ suffix_lists rs
  last_back cs [] h e = refl
  last_back [] (r ∷ rs) h e = absurd (cc)
  last_back (c ∷ cs) (r ∷ rs) h e = ap (λ f. f ∷ []) (list_back (c ∷ cs) (r ∷ rs) h e)

  pub rest_back : (bs : List (List Command)) (rss : List (List Reply)) (cs : List Command) (rs : List Reply) → EachBranch m bs → branches_match m bs rss ≡ true
      → EachCommand m cs → part_matches m cs rs ≡ true
      → read.rest_forms m (items_of (map (json.part_json m) bs)) (suffix_json m cs) (items_of (map json.list_json rss ++ json.suffix_lists rs)) ≡ map list_form rss ++ suffix_lists rs
  rest_back [] [] cs rs hb eb h e = last_back cs rs h e
  rest_back [] (l ∷ rss) cs rs hb eb h e = absurd (cc)
  rest_back (b ∷ bs) [] cs rs hb eb h e = absurd (cc)
  rest_back (b ∷ bs) (l ∷ rss) cs rs hb eb h e =
      let p = both_hold (part_matches m b l) (branches_match m bs rss) eb in
      ap (λ f. f ∷ read.rest_forms m (items_of (map (json.part_json m) bs)) (suffix_json m cs) (items_of (map json.list_json rss ++ json.suffix_lists rs))) (list_back b l hb.0 p.0)
      ∙ ap (λ fs. list_form l ∷ fs) (rest_back bs rss cs rs hb.1 p.1 h e)
