-- The system in a box may be sent to threads, and shared by them.
use denote.Param.Sent.{Sends, Syncs}
use Rattle.pst_thread_tests.proofs.overhearing.no_misfit_without_a_wrong_type.OwnLists as own
use Rattle.pst_tests.proofs.support.CounterWithoutGet.TheSendSync as no_get_crosses
use Rattle.pst_tests.specs.contracts.support.CounterWithoutGet as no_get
use Rattle.pst_driver.proofs.Sent.{boxed_send, boxed_sync}

pub sends-part-1-1 : Sends own.part-1-1
sends-part-1-1 i = boxed_send no_get.the_row no_get_crosses.the_send

pub syncs-part-1-1 : Syncs own.part-1-1
syncs-part-1-1 i = boxed_sync no_get.the_row no_get_crosses.the_sync
