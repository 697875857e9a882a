-- The system in a box may be sent to threads, and shared by them.
use denote.Param.Sent.{Sends, Syncs}
use Rattle.pst_thread_tests.proofs.overhearing.misfits_are_unrecorded_without_a_model.OwnLists as own
use Rattle.pst_tests.proofs.support.Liar.TheSendSync as liar_crosses
use Rattle.pst_tests.specs.contracts.support.Liar as liar
use Rattle.pst_driver.proofs.Sent.{boxed_send, boxed_sync}

pub sends-part-1-1 : Sends own.part-1-1
sends-part-1-1 i = boxed_send liar.the_row liar_crosses.the_send

pub syncs-part-1-1 : Syncs own.part-1-1
syncs-part-1-1 i = boxed_sync liar.the_row liar_crosses.the_sync
