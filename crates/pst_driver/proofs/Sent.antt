-- Misfits, and systems that are overheard, may be sent to threads, and shared by them.
use denote.Exit.{no}
use denote.Param.{arg, layout}
use denote.Param.Send.{IsSend, IsSync, arg_send, arg_sync, view_send, view_sync, sendable}
use denote.Param.SendFields.{declared_send, declared_sync, variants_send, variants_sync}
use denote.RattleType.{RattleType}
use mir.Raw.{raw}
use Rattle.pst_value.proofs.items.Items.TheSendSync as lists
use Rattle.pst_value.proofs.text.Text.TheSendSync as texts
use Rattle.pst_driver.specs.contracts.misfits.Misfit as misfit
use Rattle.pst_driver.specs.contracts.misfits.Misfits as misfits
use Rattle.pst_driver.specs.contracts.misfits.MisfitRecorder as overheard
use Rattle.pst_model.proofs.expr.Clause.TheLaws.TheKnot as clauses
use Rattle.pst_model.specs.contracts.expr.Expr as expr
use Rattle.pst_model.specs.contracts.model.Fun as fun
use Rattle.pst_model.specs.contracts.model.Item as item
use Rattle.pst_model.specs.contracts.model.Op as op
use Rattle.pst_model.specs.contracts.model.Param as param
use Rattle.pst_model.specs.contracts.model.Source as source
use Rattle.pst_model.specs.contracts.model.Typed as typed
use Rattle.pst_model.specs.contracts.model.Typed.TheInside as inside
use Rattle.pst_value.proofs.ty.Ty.TheLaws.TheKnot as types
use Rattle.pst_value.specs.contracts.ty.Ty as ty
use Rattle.pst_value.proofs.value.Value.TheLaws.TheKnot as values
use Rattle.std.proofs.Crossing.{crosses}
use Rattle.std.proofs.sync.OnceLock.TheSendSync as once
use Rattle.std.proofs.sync.atomic.AtomicU64.TheSendSync as word

param_send : IsSend param.the_row
param_send = search (types.crosses, texts.the_send, crosses, sendable) depth 60 fits 20000

param_sync : IsSync param.the_row
param_sync = search (types.crosses, texts.the_sync, crosses, sendable) depth 60 fits 20000

fun_send : IsSend fun.the_row
fun_send = search (clauses.crosses, types.crosses, param_send, texts.the_send, lists.the_send, crosses, sendable) depth 60 fits 20000

fun_sync : IsSync fun.the_row
fun_sync = search (clauses.crosses, types.crosses, param_sync, texts.the_sync, lists.the_sync, crosses, sendable) depth 60 fits 20000

ty_send : IsSend ty.the_row
ty_send = search (types.crosses, crosses, sendable) depth 60 fits 20000

expr_send : IsSend expr.the_row
expr_send = search (clauses.crosses, types.crosses, texts.the_send, lists.the_send, crosses, sendable) depth 60 fits 20000

op_send : IsSend op.the_row
op_send =
    let params = lists.the_send param.the_row param_send in
    declared_send op.the_type (texts.the_send, (params, (ty_send, (expr_send, (expr_send, (expr_send, tt))))))

ty_sync : IsSync ty.the_row
ty_sync = search (types.crosses, crosses, sendable) depth 60 fits 20000

expr_sync : IsSync expr.the_row
expr_sync = search (clauses.crosses, types.crosses, texts.the_sync, lists.the_sync, crosses, sendable) depth 60 fits 20000

op_sync : IsSync op.the_row
op_sync =
    let params = lists.the_sync param.the_row param_sync in
    declared_sync op.the_type (texts.the_sync, (params, (ty_sync, (expr_sync, (expr_sync, (expr_sync, tt))))))

item_send : IsSend item.the_row
item_send = variants_send item.enum ((ty_send, tt), ((expr_send, tt), ((expr_send, tt), ((fun_send, tt), ((op_send, tt), tt)))))

item_sync : IsSync item.the_row
item_sync = variants_sync item.enum ((ty_sync, tt), ((expr_sync, tt), ((expr_sync, tt), ((fun_sync, tt), ((op_sync, tt), tt)))))

source_send : IsSend source.the_row
source_send = search (item_send, texts.the_send, lists.the_send, crosses, sendable) depth 60 fits 20000

source_sync : IsSync source.the_row
source_sync = search (item_sync, texts.the_sync, lists.the_sync, crosses, sendable) depth 60 fits 20000

typed_send : IsSend typed.the_row
typed_send = view_send _ _ _ _ _ (declared_send inside.the_type (source_send, tt))

typed_sync : IsSync typed.the_row
typed_sync = view_sync _ _ _ _ _ (declared_sync inside.the_type (source_sync, tt))

misfit_send : IsSend misfit.the_row
misfit_send = search (values.crosses, texts.the_send, lists.the_send, crosses, sendable) depth 60 fits 20000

misfit_sync : IsSync misfit.the_row
misfit_sync = search (values.crosses, texts.the_sync, lists.the_sync, crosses, sendable) depth 60 fits 20000

misfits_send : IsSend misfits.the_row
misfits_send = search (typed_send, misfit_send, once.the_send, word.the_send, crosses, sendable) depth 60 fits 20000

misfits_sync : IsSync misfits.the_row
misfits_sync =
    search (typed_send, typed_sync, misfit_send, misfit_sync, once.the_sync, word.the_sync, crosses, sendable) depth 60 fits 20000

module _ (S : RattleType) where
  abbrev MisfitRecorder : RattleType
  MisfitRecorder = overheard.the_row S

  overheard_send : IsSend S → IsSend MisfitRecorder
  overheard_send s = search (misfits_send, misfits_sync, crosses, sendable) depth 60 fits 20000

  overheard_sync : IsSync S → IsSync MisfitRecorder
  overheard_sync s = search (misfits_send, misfits_sync, crosses, sendable) depth 60 fits 20000

  -- the same of the entry of a trait object's table
  pub boxed_send : IsSend S → IsSend (arg (raw (layout MisfitRecorder)) no MisfitRecorder)
  boxed_send s = arg_send (raw (layout MisfitRecorder)) no MisfitRecorder (overheard_send s)

  pub boxed_sync : IsSync S → IsSync (arg (raw (layout MisfitRecorder)) no MisfitRecorder)
  boxed_sync s = arg_sync (raw (layout MisfitRecorder)) no MisfitRecorder (overheard_sync s)
