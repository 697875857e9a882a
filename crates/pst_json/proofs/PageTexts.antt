-- Texts of bytes that may be in a page.
use Rattle.std.proofs.Common.{ℕ, List, [], ◌∷◌, ◌++◌}
use Rattle.std.proofs.lemmas.List.Elements.{All-nil, All-push}
use Rattle.pst_json.specs.Page.{IsPageByte, IsPageText}

pub empty_page : IsPageText []
empty_page = record { each = All-nil IsPageByte }

pub page_push : (xs : List ℕ) (x : ℕ) → IsPageText xs → IsPageByte x → IsPageText (xs ++ x ∷ [])
page_push xs x h b = record { each = All-push IsPageByte xs x h.each b }
