-- The text of an object is read back as the object.
use Rattle.std.proofs.Common.{◌≡◌, ◌≤◌, ℕ, max, List, [], ◌∷◌, Some, option_and_then, refl, sym, ap, ◌∙◌, append-nil, arith}
use Rattle.json.specs.Json.{value, if_last, max_depth, document}
use Rattle.json.specs.Lex.{tokens}
use Rattle.json.specs.Tree.{json_tokens, depth, items_depth, members_depth}
use Rattle.json.proofs.Printed.Trees.{value-json_tokens}
use Rattle.pst_rejudge.specs.Objects.{object_of, object_text, members_of, field_json, texts_of}
use Rattle.pst_rejudge.specs.declared.field.Field.{Field}
use Rattle.pst_rejudge.specs.declared.field.Field.TheVariants.{Number, Words, Lines}

texts_depth : (ts : List (List ℕ)) → items_depth (texts_of ts) ≡ 0
texts_depth [] = refl
texts_depth (t ∷ ts) = ap (max 0) (texts_depth ts)

field_depth : (f : Field) → depth (field_json f) ≤ 1
field_depth (Number n v) = omega arith
field_depth (Words n v) = omega arith
field_depth (Lines n vs) = let e = texts_depth vs.items in omega arith

flat : (fs : List Field) → members_depth (members_of fs) ≤ 1
flat [] = omega arith
flat (f ∷ fs) = let a = field_depth f in let b = flat fs in grind (arith)

shallow : (fs : List Field) → depth (object_of fs) ≤ max_depth
shallow fs = let e = flat fs in omega arith

pub read_back : (fs : List Field) → tokens (object_text fs) ≡ json_tokens (object_of fs) → document (object_text fs) ≡ Some (object_of fs)
read_back fs same =
    let j = object_of fs in
    ap (λ ts. option_and_then (λ p. if_last p.0 p.1) (value max_depth ts)) (same ∙ sym (append-nil (json_tokens j)))
    ∙ ap (option_and_then (λ p. if_last p.0 p.1)) (value-json_tokens j max_depth [] (shallow fs))
