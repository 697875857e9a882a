-- What is found of an expression, by what is known of its parts.
use Rattle.std.proofs.Common.{◌≡◌, ℕ, zero, suc, Bool, List, [], ◌∷◌, map, Option, Some, None, Result, Ok, Err, IfOk, refl, sym, ap, ◌∙◌, subst}
use Rattle.pst_model.specs.declared.expr.Clause.{Clause}
use Rattle.pst_model.specs.declared.expr.Expr.{Expr, out-Expr}
use Rattle.pst_model.specs.declared.expr.Expr.TheVariants as expr
use Rattle.pst_model.specs.declared.model.Item.{Item}
use Rattle.std.specs.declared.alloc.AllocError.{AllocError}
use Rattle.pst_model.specs.Rules.{Context}
use Rattle.pst_typing.specs.Blamed.{Typing, Seen, type_seen, Leads, Parts, parts_for, IsBlamed}
use Rattle.pst_typing.specs.ByParts.{by_form}
use Rattle.pst_typing.specs.Decision.{◌>>=◌, type_of}
use Rattle.pst_typing.specs.Gathering.{AreBlamed, IsReason, IsFound, nothing, LeadsOn, AllLeadOn, IsGathered, ArePartsOf, AreClausesOf, IsJudged}
use Rattle.pst_typing.specs.declared.blame.Blame.{Blame}
use Rattle.pst_typing.specs.declared.blame.Found.{Found}
use Rattle.pst_typing.specs.declared.blame.Found.TheVariants as found
use Rattle.pst_typing.specs.declared.blame.Gathered.{Gathered}
use Rattle.pst_typing.proofs.ByForms.{all_some, by_parts_found}
use Rattle.pst_typing.proofs.Gathers.{none_yet}
use Rattle.pst_value.specs.declared.ty.Ty.{Ty}

some_all : (Ts : List Ty) → all_some (map Some Ts) ≡ Some Ts
some_all [] = refl
some_all (T ∷ Ts) = ap (λ o. o >>= (λ Us. Some (T ∷ Us))) (some_all Ts)

rest_none : (o : Option Ty) (os : Option (List Ty)) → os ≡ None → (o >>= (λ T. os >>= (λ Ts. Some (T ∷ Ts)))) ≡ None
rest_none None os h = refl
rest_none (Some T) os h = ap (λ p. p >>= (λ Ts. Some (T ∷ Ts))) h

module _ (f : Typing) where
  -- a part that has no type
  leads_none : (P : List Seen) (types : List Ty) (k : ℕ) (path : List ℕ) → Leads f P types (k ∷ path) → all_some (map (type_seen f) P) ≡ None
  leads_none [] types k path l = absurd l
  leads_none (p ∷ P) types zero path l = ap (λ o. o >>= (λ T. all_some (map (type_seen f) P) >>= (λ Ts. Some (T ∷ Ts)))) l.0
  leads_none (p ∷ P) types (suc k) path l = rest_none (f p.1 p.0) _ (leads_none P types k path l)

  on_none : (P : List Seen) (types : List Ty) (path : List ℕ) → LeadsOn f P types path → all_some (map (type_seen f) P) ≡ None
  on_none P types [] l = absurd l
  on_none P types (k ∷ path) l = leads_none P types k path l

  all_none : (P : List Seen) (bs : List Blame) → (bs ≡ [] → ⊥) → AllLeadOn f P bs → all_some (map (type_seen f) P) ≡ None
  all_none P [] some l = absurd (some refl)
  all_none P (b ∷ bs) some l = on_none P b.kinds b.path l.0

  on_blamed : (G : Context) (e : Expr) (P : List Seen) → f e G ≡ None → Parts f G e P → (types : List Ty) (path : List ℕ) → LeadsOn f P types path → IsBlamed f G e types path
  on_blamed G e P none are types [] l = absurd l
  on_blamed G e P none are types (k ∷ path) l = (none, (P, are, l))

  all_blamed : (G : Context) (e : Expr) (P : List Seen) → f e G ≡ None → Parts f G e P → (bs : List Blame) → AllLeadOn f P bs → AreBlamed f G e bs
  all_blamed G e P none are [] l = tt
  all_blamed G e P none are (b ∷ bs) l = (on_blamed G e P none are b.kinds b.path l.0, all_blamed G e P none are bs l.1)

  pub clauses_all : (G : Context) (e : Expr) (cs : List Clause) (b : Expr) (all : Gathered) → e ≡ expr.For cs b → AreClausesOf f G cs b nothing all → ArePartsOf f G e all
  clauses_all G e cs b all is a = record {
    parts = a.parts;
    are = subst (λ x. Parts f G x a.parts) (sym is) (parts_for cs b a.parts a.are);
    known = a.more [] (none_yet f);
  }

module _ (items earlier : List Item) (post : Bool) (G : Context) (e : Expr) (all : Gathered) (known : ArePartsOf (type_of items earlier post) G e all) where
  abbrev f : Typing
  f = type_of items earlier post

  -- some part has no type
  pub ill_parts : (all.blames ≡ [] → ⊥) → IsFound f G e (found.Blamed all.blames)
  ill_parts some =
      let none : f e G ≡ None = by_parts_found items earlier post G e known.parts known.are ∙ ap (λ o. o >>= by_form items earlier post G (out-Expr e)) (all_none f known.parts all.blames some known.known.blames) in
      record { type = none; reason = (some, all_blamed f G e known.parts none known.are all.blames known.known.blames) }

  -- all parts have types
  module _ (whole : all.blames ≡ []) where
    typed_parts : f e G ≡ by_form items earlier post G (out-Expr e) all.kinds
    typed_parts =
        by_parts_found items earlier post G e known.parts known.are
        ∙ ap (λ os. all_some os >>= by_form items earlier post G (out-Expr e)) (known.known.types whole)
        ∙ ap (λ o. o >>= by_form items earlier post G (out-Expr e)) (some_all all.kinds)

    pub judged_parts : (x : Found) → IsJudged (by_form items earlier post G (out-Expr e) all.kinds) all.kinds x → IsFound f G e x
    judged_parts (found.Kind T) j = record { type = typed_parts ∙ j; reason = tt }
    judged_parts (found.Blamed bs) j =
        let none : f e G ≡ None = typed_parts ∙ j.0 in
        let one : Blame = record { path = []; kinds = all.kinds } in
        let here : IsBlamed f G e all.kinds [] = (none, (known.parts, known.are, known.known.types whole)) in
        let reason : IsReason f G e (found.Blamed (one ∷ [])) = (λ h. absurd (cc), (here, tt)) in
        record { type = none; reason = subst (λ cs. IsReason f G e (found.Blamed cs)) (sym j.1) reason }

    pub judged_ok : (r : Result Found AllocError) → IfOk r (λ x. IsJudged (by_form items earlier post G (out-Expr e) all.kinds) all.kinds x) → IfOk r (λ x. IsFound f G e x)
    judged_ok (Ok x) j = judged_parts x j
    judged_ok (Err why) j = tt

-- ---- what is known of the parts of each form

module _ (f : Typing) (G : Context) (e e' : Expr) (is : e ≡ e') where
  pub named_leaf : (all : Gathered) → Parts f G e' [] → all ≡ nothing → ArePartsOf f G e all
  named_leaf all parts h = record { parts = []; are = subst (λ x. Parts f G x []) (sym is) parts; known = subst (IsGathered f []) (sym h) (none_yet f) }

  pub named : (P : List Seen) (r : Result Gathered AllocError) → Parts f G e' P → IfOk r (λ all. IsGathered f P all) → IfOk r (λ all. ArePartsOf f G e all)
  named P (Ok all) parts known = record { parts = P; are = subst (λ x. Parts f G x P) (sym is) parts; known = known }
  named P (Err why) parts known = tt

  pub named_for : (cs : List Clause) (b : Expr) (old : Gathered) (r : Result Gathered AllocError) → e' ≡ expr.For cs b → old ≡ nothing
      → IfOk r (λ all. AreClausesOf f G cs b old all) → IfOk r (λ all. ArePartsOf f G e all)
  named_for cs b old (Ok all) at h a = clauses_all f G e cs b all (is ∙ at) (subst (λ o. AreClausesOf f G cs b o all) h a)
  named_for cs b old (Err why) at h a = tt
