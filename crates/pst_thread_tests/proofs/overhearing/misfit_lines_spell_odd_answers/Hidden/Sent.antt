-- The system in a box may be sent to threads, and shared by them.
use denote.Param.Sent.{Sends, Syncs}
use Rattle.pst_thread_tests.proofs.overhearing.misfit_lines_spell_odd_answers.OwnLists as own
use Rattle.pst_thread_tests.proofs.test_systems.CountedOddAnswers.TheSendSync as odd_crosses
use Rattle.pst_thread_tests.specs.contracts.test_systems.CountedOddAnswers as odd
use Rattle.pst_driver.proofs.Sent.{boxed_send, boxed_sync}

pub sends-part-1-1 : Sends own.part-1-1
sends-part-1-1 i = boxed_send odd.the_row odd_crosses.the_send

pub syncs-part-1-1 : Syncs own.part-1-1
syncs-part-1-1 i = boxed_sync odd.the_row odd_crosses.the_sync
