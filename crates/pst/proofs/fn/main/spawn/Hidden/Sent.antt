-- The systems in boxes may be sent to threads, and shared by them.
use denote.Param.Send.{IsSend, sendable}
use denote.Param.Sent.{Sends, Syncs}
use mir.Syntax.{Dict}
use Rattle.pst.proofs.fn.main.spawn.OwnLists as own
use Rattle.pst_clients.proofs.Sent as clients
use Rattle.pst_clients.proofs.source.CallPipe.TheSendSync as pipe_crosses
use Rattle.pst_clients.specs.contracts.source.CallPipe as pipes
use Rattle.pst_driver.proofs.Sent.{boxed_send, boxed_sync}
use Rattle.pst_samples.proofs.counter.Counter.TheSendSync as counter_crosses
use Rattle.pst_samples.proofs.counter.Racy.TheSendSync as racy_crosses
use Rattle.pst_samples.proofs.counter.Stuck.TheSendSync as stuck_crosses
use Rattle.pst_samples.proofs.registry.Registry.TheSendSync as registry_crosses
use Rattle.pst_samples.proofs.queue.Queue.TheSendSync as queue_crosses
use Rattle.pst_samples.proofs.meet.Meet.TheSendSync as meet_crosses
use Rattle.pst_samples.specs.contracts.counter.Counter as counter
use Rattle.pst_samples.specs.contracts.counter.Racy as racy
use Rattle.pst_samples.specs.contracts.counter.Stuck as stuck
use Rattle.pst_samples.specs.contracts.registry.Registry as registry
use Rattle.pst_samples.specs.contracts.queue.Queue as queue
use Rattle.pst_samples.specs.contracts.meet.Meet as meet
use Rattle.std.proofs.Crossing.{crosses}
use Rattle.std.proofs.rt.LibcRuntime.TheSendSync as runtime_crosses
use Rattle.std.specs.contracts.alloc.Global as heap
use Rattle.std.specs.contracts.fs.File as file
use Rattle.std.specs.contracts.impls.GlobalAllocator.TheImpl.{ghosts}
use Rattle.std.specs.contracts.io.buffered.BufReader as reader
use Rattle.std.specs.contracts.rt.LibcRuntime as runtime

reads : IsSend (reader.the_row file.the_row heap.the_row ghosts)
reads = search (crosses, sendable) depth 60 fits 20000

writes : IsSend (pipes.the_row file.the_row)
writes = search (pipe_crosses.the_send, crosses, sendable) depth 60 fits 20000

pub sends-part-1-1 : (d1 d2 : Dict) → Sends (own.part-1-1 d1 d2)
sends-part-1-1 d1 d2 i = boxed_send (counter.the_row runtime.the_row) (counter_crosses.the_send runtime.the_row runtime_crosses.the_send)

pub sends-part-1-2 : (d1 d2 : Dict) → Sends (own.part-1-2 d1 d2)
sends-part-1-2 d1 d2 i = boxed_send racy.the_row racy_crosses.the_send

pub sends-part-1-3 : (d1 d2 : Dict) → Sends (own.part-1-3 d1 d2)
sends-part-1-3 d1 d2 i = boxed_send stuck.the_row stuck_crosses.the_send

pub sends-part-1-4 : (d1 d2 : Dict) → Sends (own.part-1-4 d1 d2)
sends-part-1-4 d1 d2 i = boxed_send (registry.the_row runtime.the_row) (registry_crosses.the_send runtime.the_row runtime_crosses.the_send)

pub sends-part-1-5 : (d1 d2 : Dict) → Sends (own.part-1-5 d1 d2)
sends-part-1-5 d1 d2 i = boxed_send (queue.the_row runtime.the_row) (queue_crosses.the_send runtime.the_row runtime_crosses.the_send)

pub sends-part-1-6 : (d1 d2 : Dict) → Sends (own.part-1-6 d1 d2)
sends-part-1-6 d1 d2 i = boxed_send meet.the_row meet_crosses.the_send

pub sends-part-1-7 : (d1 d2 : Dict) → Sends (own.part-1-7 d1 d2)
sends-part-1-7 d1 d2 i =
    clients.boxed_send runtime.the_row (reader.the_row file.the_row heap.the_row ghosts) (pipes.the_row file.the_row) _ _ runtime_crosses.the_send reads writes

pub syncs-part-1-1 : (d1 d2 : Dict) → Syncs (own.part-1-1 d1 d2)
syncs-part-1-1 d1 d2 i = boxed_sync (counter.the_row runtime.the_row) (counter_crosses.the_sync runtime.the_row runtime_crosses.the_sync)

pub syncs-part-1-2 : (d1 d2 : Dict) → Syncs (own.part-1-2 d1 d2)
syncs-part-1-2 d1 d2 i = boxed_sync racy.the_row racy_crosses.the_sync

pub syncs-part-1-3 : (d1 d2 : Dict) → Syncs (own.part-1-3 d1 d2)
syncs-part-1-3 d1 d2 i = boxed_sync stuck.the_row stuck_crosses.the_sync

pub syncs-part-1-4 : (d1 d2 : Dict) → Syncs (own.part-1-4 d1 d2)
syncs-part-1-4 d1 d2 i = boxed_sync (registry.the_row runtime.the_row) (registry_crosses.the_sync runtime.the_row runtime_crosses.the_sync)

pub syncs-part-1-5 : (d1 d2 : Dict) → Syncs (own.part-1-5 d1 d2)
syncs-part-1-5 d1 d2 i = boxed_sync (queue.the_row runtime.the_row) (queue_crosses.the_sync runtime.the_row runtime_crosses.the_sync)

pub syncs-part-1-6 : (d1 d2 : Dict) → Syncs (own.part-1-6 d1 d2)
syncs-part-1-6 d1 d2 i = boxed_sync meet.the_row meet_crosses.the_sync

pub syncs-part-1-7 : (d1 d2 : Dict) → Syncs (own.part-1-7 d1 d2)
syncs-part-1-7 d1 d2 i =
    clients.boxed_sync runtime.the_row (reader.the_row file.the_row heap.the_row ghosts) (pipes.the_row file.the_row) _ _ runtime_crosses.the_sync reads writes
