-- What is printed of JSON is read back as it.
use Rattle.std.proofs.Common.{◌≡◌, ◌≤◌, [], Some, option_and_then, sym, ap, ◌∙◌, append-nil}
use Rattle.json.specs.Json.{Json, value, if_last, max_depth, document}
use Rattle.json.specs.Lex.{tokens}
use Rattle.json.specs.Print.{print}
use Rattle.json.specs.Tree.{json_tokens, depth}
use Rattle.json.proofs.Printed.Trees.{value-json_tokens}

pub read_back : (j : Json) → tokens (print (json_tokens j)) ≡ json_tokens j → depth j ≤ max_depth
    → document (print (json_tokens j)) ≡ Some j
read_back j same shallow =
    ap (λ ts. option_and_then (λ p. if_last p.0 p.1) (value max_depth ts)) (same ∙ sym (append-nil (json_tokens j)))
    ∙ ap (option_and_then (λ p. if_last p.0 p.1)) (value-json_tokens j max_depth [] shallow)
