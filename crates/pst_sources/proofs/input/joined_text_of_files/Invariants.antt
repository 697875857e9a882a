use Rattle.std.proofs.Common.{◌≡◌, ◌++◌, drop}
use Rattle.pst_sources.specs.Files.{behind, text_of}
use Rattle.pst_sources.proofs.input.joined_text_of_files.Given as goal

abbrev pub invariant-loop-file : goal.invariant-loop-file
invariant-loop-file l = text_of l.files ≡ l.text.items ++ behind (drop l.file-index l.rest)
