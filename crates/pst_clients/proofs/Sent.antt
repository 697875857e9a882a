-- Clients may be sent to threads, and shared by them.
use denote.Exit.{no}
use denote.Param.{arg, layout}
use denote.Param.Send.{IsSend, IsSync, arg_send, arg_sync, sendable}
use denote.RattleType.{RattleType}
use mir.Raw.{raw}
use Rattle.pst_clients.proofs.connection.Connection.TheSendSync as connection
use Rattle.pst_clients.proofs.notes.Notes.TheSendSync as note
use Rattle.pst_clients.specs.contracts.clients.Clients as clients
use Rattle.pst_clients.specs.declared.source.LineSink as sinks
use Rattle.pst_clients.specs.declared.source.LineSource as sources
use Rattle.pst_value.proofs.items.Items.TheSendSync as lists
use Rattle.pst_value.proofs.ty.Ty.TheLaws.TheKnot as types
use Rattle.std.proofs.Crossing.{crosses}

module _ (R I O : RattleType) (i : sources.Ghosts I.Denot) (o : sinks.Ghosts O.Denot) where
  abbrev Served : RattleType
  Served = clients.the_row R I O i o

  served_send : IsSend R → IsSend I → IsSend O → IsSend Served
  served_send r s t =
      search (types.crosses, lists.the_send, connection.the_send, note.the_send, note.the_sync, crosses, sendable) depth 60 fits 20000

  served_sync : IsSync R → IsSend I → IsSend O → IsSync Served
  served_sync r s t =
      search (types.crosses, lists.the_sync, connection.the_send, note.the_send, note.the_sync, crosses, sendable) depth 60 fits 20000

  -- the same of the entry of a trait object's table
  pub boxed_send : IsSend R → IsSend I → IsSend O → IsSend (arg (raw (layout Served)) no Served)
  boxed_send r s t = arg_send (raw (layout Served)) no Served (served_send r s t)

  pub boxed_sync : IsSync R → IsSend I → IsSend O → IsSync (arg (raw (layout Served)) no Served)
  boxed_sync r s t = arg_sync (raw (layout Served)) no Served (served_sync r s t)
