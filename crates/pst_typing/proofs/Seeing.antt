-- Names that are seen, collected in turn.
use Rattle.std.proofs.Common.{◌≡◌, ℕ, ◌+◌, ◌<◌, List, [], ◌∷◌, ◌++◌, map, length, get_or, take, refl, sym, ap, ◌∙◌}
use Rattle.std.proofs.lemmas.List.{take_more}
use Rattle.pst_model.specs.Rules.{context_of}
use Rattle.pst_model.specs.declared.model.Param.{Param}
use Rattle.pst_typing.specs.Scope.{name_seen}
use Rattle.pst_typing.specs.declared.scope.TypedName.{TypedName}

map_end : {A B : Type 0} (f : A → B) (xs : List A) (x : A) → map f (xs ++ x ∷ []) ≡ map f xs ++ f x ∷ []
map_end f [] x = refl
map_end f (y ∷ xs) x = ap (λ ys. f y ∷ ys) (map_end f xs x)

-- one parameter more
pub seen_more : (seen more : List TypedName) (s : TypedName) (ps : List Param) (i : ℕ) (p : Param) → i < length ps → p ≡ get_or ps i p → map name_seen seen ≡ context_of (take i ps)
    → more ≡ seen ++ s ∷ [] → s.name ≡ p.name → s.kind ≡ p.ty → map name_seen more ≡ context_of (take (i + 1) ps)
seen_more seen more s ps i p room is known ends name kind =
    ap (map name_seen) ends ∙ map_end name_seen seen s ∙ ap (λ c. c ++ name_seen s ∷ []) known
    ∙ ap (λ x. context_of (take i ps) ++ (x, s.kind) ∷ []) name
    ∙ ap (λ T. context_of (take i ps) ++ (p.name, T) ∷ []) kind
    ∙ ap (λ q. context_of (take i ps) ++ (q.name, q.ty) ∷ []) is
    ∙ sym (map_end (λ q. (q.name, q.ty)) (take i ps) (get_or ps i p)) ∙ ap context_of (sym (take_more ps i p room))
