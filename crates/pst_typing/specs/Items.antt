-- Which items are well typed, and the first that is not.
use Rattle.std.specs.Prelude.{◌&&◌, not, ℕ, ◌+◌, Bool, true, false, if◌then◌else◌, List, [], ◌∷◌, Option, Some, None}
use Rattle.std.specs.List.{list_any}
use Rattle.pst_model.specs.Parts.{types_of}
use Rattle.pst_model.specs.declared.expr.Expr.{Expr}
use Rattle.pst_model.specs.declared.model.Item.{Item}
use Rattle.pst_model.specs.declared.model.Item.TheVariants as item
use Rattle.pst_model.specs.declared.model.Op.{Op}
use Rattle.pst_model.specs.Kinds.{holds_ref_or_call, holds_call}
use Rattle.pst_model.specs.Rules.{Context, context_of}
use Rattle.pst_model.specs.WellTyped.{name_s, all_of, pre_context, next_context, post_context}
use Rattle.pst_typing.specs.Decision.{type_of}
use Rattle.pst_value.specs.Fits.{is_ty}
use Rattle.pst_value.specs.declared.ty.Ty.{Ty}
use Rattle.pst_value.specs.declared.ty.Ty.TheVariants as ty

-- whether an expression over all functions has a type
abbrev pub has_type : (items : List Item) (post : Bool) → Context → Expr → Ty → Bool
has_type items post G e T = is_ty (type_of items (all_of items) post e G) T

abbrev pub well_operation : (items : List Item) (S : Ty) → Op → Bool
well_operation items S o =
    not (list_any holds_call (types_of o.params))
    && (not (holds_ref_or_call o.result)
    && (has_type items false (pre_context S o) o.pre ty.Bool
    && (has_type items false (next_context S o) o.next S
    && has_type items true (post_context S o) o.post ty.Bool)))

-- whether an item is well typed, over the state's type and the items before it, the last first
abbrev pub well_item : (items : List Item) (S : Ty) (earlier : List Item) → Item → Bool
well_item items S earlier (item.State T) = not (holds_call T)
well_item items S earlier (item.Init e) = has_type items false [] e S
well_item items S earlier (item.Command e) = has_type items false ((name_s, S) ∷ []) e (ty.List ty.Call)
well_item items S earlier (item.Fun f) =
    is_ty (type_of items earlier f.is_post f.body (context_of f.params)) f.result
well_item items S earlier (item.Op o) = well_operation items S o

-- the number of the first item that is not well typed, of those from a number on
abbrev pub first_ill : (items : List Item) (S : Ty) (number : ℕ) (earlier later : List Item) → Option ℕ
first_ill items S number earlier [] = None
first_ill items S number earlier (i ∷ later) =
    if well_item items S earlier i then first_ill items S (number + 1) (i ∷ earlier) later else Some number
