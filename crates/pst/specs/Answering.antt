-- The output of a command that needs nothing but its input: a text and a status, for the input.
use Rattle.std.specs.Prelude.{ℕ, List, ◌+◌, ◌<◌, ◌^◌}
use Rattle.pst.specs.declared.answering.InputCommand.{InputCommand}
use Rattle.pst.specs.declared.answering.InputCommand.TheVariants.{Check, ListCode, Convert, Generate, Explain, Draw}
use Rattle.pst_cli.specs.Answering.{memory_of}
use Rattle.pst_cli.specs.Commands.{OutputOf, check_answer}
use Rattle.pst_cli.specs.ConvertOutput.{IsConvertOutput}
use Rattle.pst_cli.specs.ExplainOutput.{IsExplainOutput}
use Rattle.pst_cli.specs.GenerateOutput.{IsGenerateOutput, memory_in}
use Rattle.pst_cli.specs.GraphOutput.{IsGraphOutput}
use Rattle.pst_cli.specs.ListOutput.{IsListOutput}
use Rattle.pst_cli.specs.Sending.{memory_line}
use Rattle.pst_trial.specs.Settings.{AreInRange}

-- the settings of cases are in range, and the trials have numbers
abbrev pub HasTrials : InputCommand → Type 0
HasTrials (Check form notices) = Unit {0}
HasTrials ListCode = Unit {0}
HasTrials (Convert form) = Unit {0}
HasTrials (Generate form settings first count) = AreInRange settings × (first + count < 2 ^ 64)
HasTrials (Explain options has_progress_line) = Unit {0}
HasTrials (Draw order item is_whole) = Unit {0}

-- what is written if an allocation fails
abbrev pub memory_text : InputCommand → List ℕ
memory_text (Check form notices) = memory_of form
memory_text ListCode = memory_line
memory_text (Convert form) = memory_line
memory_text (Generate form settings first count) = memory_in form
memory_text (Explain options has_progress_line) = memory_line
memory_text (Draw order item is_whole) = memory_line

abbrev pub IsInputAnswer : InputCommand → OutputOf
IsInputAnswer (Check form notices) = check_answer form notices.now
IsInputAnswer ListCode = IsListOutput
IsInputAnswer (Convert form) = IsConvertOutput form
IsInputAnswer (Generate form settings first count) = IsGenerateOutput form settings first count
IsInputAnswer (Explain options has_progress_line) = λ input. IsExplainOutput options.order input options.chosen
IsInputAnswer (Draw order item is_whole) = λ input. IsGraphOutput order input item
