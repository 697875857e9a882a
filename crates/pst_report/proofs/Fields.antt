-- What adding members part after part adds.
use Rattle.std.proofs.Common.{◌≡◌, List, ◌++◌, ap, ◌∙◌, append_assoc}
use Rattle.pst_rejudge.specs.declared.field.Field.{Field}

added : (old mid new xs ys : List Field) → mid ≡ old ++ xs → new ≡ mid ++ ys → new ≡ old ++ (xs ++ ys)
added old mid new xs ys first second = second ∙ ap (λ l. l ++ ys) first ∙ append_assoc old xs ys

-- a first part, and four after it
pub five_parts : (one two three four new a b c d e : List Field) → one ≡ a → two ≡ one ++ b → three ≡ two ++ c → four ≡ three ++ d
    → new ≡ four ++ e → new ≡ a ++ (b ++ (c ++ (d ++ e)))
five_parts one two three four new a b c d e p q r s t =
    let last : new ≡ three ++ (d ++ e) = added three four new d e s t in
    let later : new ≡ two ++ (c ++ (d ++ e)) = added two three new c (d ++ e) r last in
    added one two new b (c ++ (d ++ e)) q later ∙ ap (λ l. l ++ (b ++ (c ++ (d ++ e)))) p
