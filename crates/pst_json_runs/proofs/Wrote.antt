-- What writing the parts of a value writes.
use Rattle.std.proofs.Common.{◌≡◌, List, [], ◌∷◌, ◌++◌, sym, ap, ◌∙◌, append_assoc}
use Rattle.json.specs.Json.{Json, array, object, Items, Members}
use Rattle.json.specs.Token.{Token, begin_array, begin_object}
use Rattle.json.specs.Tree.{json_tokens, items_tokens, members_tokens}

pub wrote_array : (old mid new : List Token) (js : Items) (j : Json) → mid ≡ old ++ begin_array ∷ [] → j ≡ array js
    → new ≡ mid ++ items_tokens js → new ≡ old ++ json_tokens j
wrote_array old mid new js j begun is wrote =
    wrote ∙ ap (λ ts. ts ++ items_tokens js) begun ∙ append_assoc old (begin_array ∷ []) (items_tokens js) ∙ ap (λ j. old ++ json_tokens j) (sym is)

pub wrote_object : (old mid new : List Token) (ms : Members) (j : Json) → mid ≡ old ++ begin_object ∷ [] → j ≡ object ms
    → new ≡ mid ++ members_tokens ms → new ≡ old ++ json_tokens j
wrote_object old mid new ms j begun is wrote =
    wrote ∙ ap (λ ts. ts ++ members_tokens ms) begun ∙ append_assoc old (begin_object ∷ []) (members_tokens ms) ∙ ap (λ j. old ++ json_tokens j) (sym is)
