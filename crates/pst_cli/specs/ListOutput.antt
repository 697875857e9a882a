-- The output of `pst list`: a text and a status, for an input.
use Rattle.std.specs.Prelude.{◌≡◌, ℕ, List}
use Rattle.pst_cli.specs.Head.{refusal_line}
use Rattle.pst_cli.specs.declared.answer.Status.{Status}
use Rattle.pst_cli.specs.declared.answer.Status.TheVariants.{Accepted, Refused}
use Rattle.pst_compile.specs.Functions.{listing_of}
use Rattle.pst_model.specs.declared.model.Source.{Source}
use Rattle.pst_sexpr.specs.declared.form.Form.{Form}
use Rattle.pst_typing.specs.Loading.{Holds, IsRefusal}
use Rattle.pst_typing.specs.declared.loading.Refusal.{Refusal}

-- the listing of a well-typed model, or its first refusal
pub data IsListOutput (input text : List ℕ) (status : Status) : Type 0 where
  accepted : (m : Source) (trees : List Form) → Holds input m trees → text ≡ listing_of m.items
      → status ≡ Accepted
      → IsListOutput input text status
  refused : (refusal : Refusal) → IsRefusal input refusal → text ≡ refusal_line refusal → status ≡ Refused
      → IsListOutput input text status
