use Rattle.std.proofs.Common.{◌≡◌, ◌++◌, drop}
use Rattle.json.specs.Tree.{items_tokens}
use Rattle.pst_rejudge.specs.Objects.{texts_of}
use Rattle.pst_rejudge.proofs.field.write_json_texts_and_end_array.Given as goal

abbrev pub invariant-loop-text : goal.invariant-loop-text
invariant-loop-text l =
    (l.writer.tokens ++ items_tokens (texts_of (drop l.text-index l.texts)) ≡ l.initial.writer.tokens ++ items_tokens (texts_of l.texts))
    × (l.writer.before ≡ l.initial.writer.before)
