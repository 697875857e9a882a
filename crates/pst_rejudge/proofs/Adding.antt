-- What adding members one after another adds.
use Rattle.std.proofs.Common.{◌≡◌, List, ◌++◌, ap, ◌∙◌, append_assoc}
use Rattle.pst_rejudge.specs.declared.field.Field.{Field}

pub added : (old mid new xs ys : List Field) → mid ≡ old ++ xs → new ≡ mid ++ ys → new ≡ old ++ (xs ++ ys)
added old mid new xs ys first second = second ∙ ap (λ l. l ++ ys) first ∙ append_assoc old xs ys
