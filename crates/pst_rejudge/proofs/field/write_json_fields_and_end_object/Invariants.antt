use Rattle.std.proofs.Common.{◌≡◌, ◌++◌, drop}
use Rattle.json.specs.Tree.{members_tokens}
use Rattle.pst_rejudge.specs.Objects.{members_of}
use Rattle.pst_rejudge.proofs.field.write_json_fields_and_end_object.Given as goal

abbrev pub invariant-loop-field : goal.invariant-loop-field
invariant-loop-field l =
    (l.writer.tokens ++ members_tokens (members_of (drop l.field-index l.fields)) ≡ l.initial.writer.tokens ++ members_tokens (members_of l.fields))
    × (l.writer.before ≡ l.initial.writer.before)
