use Rattle.pst.proofs.Endings.{stream_meant}
use Rattle.pst.proofs.running.run_command.Goals as goal

pub returns-in-OfInput : goal.returns-in-OfInput
returns-in-OfInput g c = rw c.in-OfInput.is c.answer_with_progress.ensures

pub returns-in-Judge : goal.returns-in-Judge
returns-in-Judge g c = rw c.in-Judge.is c.judge_items_of_files.ensures

pub returns-in-Stream : goal.returns-in-Stream
returns-in-Stream g c =
    rw c.in-Stream.is (λ bytes is. stream_meant _ _ _ c.plain.ensures c.in-Stream.order bytes (c.judge_stream_with_messages.ensures bytes is))

pub returns-in-Run : goal.returns-in-Run
returns-in-Run g c = rw c.in-Run.is c.drive_on_last_system.ensures

pub returns-in-Campaign : goal.returns-in-Campaign
returns-in-Campaign g c = rw c.in-Campaign.is c.run_campaign_on_systems.ensures
