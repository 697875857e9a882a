-- Objects of numbers and texts, and their lines.
use Rattle.std.specs.Prelude.{ℕ, List, [], ◌∷◌, ◌++◌, codes, decimal}
use Rattle.json.specs.Json.{Json, number, string, array, object, Items, no_items, item, Members, no_members, member}
use Rattle.json.specs.Print.{print}
use Rattle.json.specs.Tree.{json_tokens}
use Rattle.pst_rejudge.specs.declared.field.Field.{Field}
use Rattle.pst_rejudge.specs.declared.field.Field.TheVariants.{Number, Words, Lines}
use Rattle.pst_rejudge.specs.declared.field.FieldName.{FieldName}
use Rattle.pst_rejudge.specs.declared.field.FieldName.TheVariants as name

abbrev pub name_text : FieldName → List ℕ
name_text name.Item = codes "item"
name_text name.Verdict = codes "verdict"
name_text name.Merge = codes "merge"
name_text name.Far = codes "far"
name_text name.Command = codes "command"
name_text name.Callback = codes "callback"
name_text name.Fault = codes "fault"
name_text name.Stage = codes "stage"
name_text name.Place = codes "place"
name_text name.ModelItem = codes "model_item"
name_text name.Model = codes "model"
name_text name.Severity = codes "severity"
name_text name.File = codes "file"
name_text name.Line = codes "line"
name_text name.Column = codes "column"
name_text name.Start = codes "start"
name_text name.End = codes "end"
name_text name.Message = codes "message"
name_text name.Notes = codes "notes"
name_text name.Explanation = codes "explanation"
name_text name.Seed = codes "seed"
name_text name.Order = codes "order"
name_text name.Trials = codes "trials"
name_text name.Commands = codes "commands"
name_text name.Branches = codes "branches"
name_text name.Suffix = codes "suffix"
name_text name.Repeats = codes "repeats"
name_text name.Limit = codes "limit"
name_text name.Passed = codes "passed"
name_text name.Unexplained = codes "unexplained"
name_text name.Faulted = codes "faulted"
name_text name.Broken = codes "broken"
name_text name.GenFault = codes "genfault"
name_text name.Lost = codes "lost"
name_text name.Undrawn = codes "undrawn"
name_text name.UnknownOutcomes = codes "unknown"
name_text name.Losses = codes "losses"
name_text name.Least = codes "least"
name_text name.From = codes "from"
name_text name.FromVerdict = codes "from_verdict"
name_text name.Steps = codes "steps"
name_text name.Ending = codes "ending"
name_text name.To = codes "to"
name_text name.ToVerdict = codes "to_verdict"
name_text name.Run = codes "run"
name_text name.Drives = codes "drives"
name_text name.Failed = codes "failed"

-- the name of a member, and its value
abbrev pub field_name : Field → List ℕ
field_name (Number n value) = name_text n
field_name (Words n value) = name_text n
field_name (Lines n values) = name_text n

-- the array of texts
abbrev pub texts_of : List (List ℕ) → Items
texts_of [] = no_items
texts_of (t ∷ ts) = item (string t) (texts_of ts)

abbrev pub field_json : Field → Json
field_json (Number n value) = number (decimal value)
field_json (Words n value) = string value
field_json (Lines n values) = array (texts_of values.items)

abbrev pub members_of : List Field → Members
members_of [] = no_members
members_of (f ∷ fs) = member (field_name f) (field_json f) (members_of fs)

-- the object with these members, in their order
abbrev pub object_of : List Field → Json
object_of fields = object (members_of fields)

-- its text, without spaces
abbrev pub object_text : List Field → List ℕ
object_text fields = print (json_tokens (object_of fields))

-- its line
abbrev pub object_line : List Field → List ℕ
object_line fields = object_text fields ++ 10 ∷ []
