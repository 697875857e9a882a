-- The JSON that is written for a run.
use Rattle.std.specs.Prelude.{ℕ, List, [], ◌∷◌, ◌++◌, map, Option, Some, None, codes, decimal}
use Rattle.json.specs.Json.{Json, null, number, string, array, object, no_items, item, Members, no_members, member}
use Rattle.json.specs.Print.{print}
use Rattle.json.specs.Tree.{json_tokens}
use Rattle.json.specs.Value.{items_of}
use Rattle.pst_case.specs.declared.case.Case.{Case}
use Rattle.pst_case.specs.declared.case.Command.{Command}
use Rattle.pst_case.specs.declared.history.CallTime.{CallTime}
use Rattle.pst_case.specs.declared.history.History.{History}
use Rattle.pst_case.specs.declared.history.Reply.{Reply}
use Rattle.pst_case.specs.declared.history.Reply.TheVariants as reply
use Rattle.pst_case.specs.declared.history.Run.{Run}
use Rattle.pst_json_runs.specs.Writing.{json_of}
use Rattle.pst_model.specs.declared.model.Source.{Source}
use Rattle.pst_runs.specs.Written.{name_of}

-- `["op", arg, ..]`
abbrev pub command_json : Source → Command → Json
command_json m c = array (item (string (name_of m c.op)) (items_of (map json_of c.args)))

abbrev pub part_json : Source → List Command → Json
part_json m cs = array (items_of (map (command_json m) cs))

abbrev pub branches_json : Source → List (List Command) → Json
branches_json m bs = array (items_of (map (part_json m) bs))

-- `{"failed":null}` and the like
abbrev pub outcome_json : List ℕ → Json
outcome_json word = object (member word null no_members)

abbrev pub reply_json : Reply → Json
reply_json (reply.Value v) = json_of v
reply_json reply.Misfit = outcome_json (codes "misfit")
reply_json reply.Failed = outcome_json (codes "failed")
reply_json reply.NotRun = null
reply_json reply.Unknown = outcome_json (codes "unknown")

abbrev pub list_json : List Reply → Json
list_json replies = array (items_of (map reply_json replies))

-- the replies of the suffix, if it has commands
abbrev pub suffix_lists : List Reply → List Json
suffix_lists [] = []
suffix_lists (r ∷ rs) = list_json (r ∷ rs) ∷ []

abbrev pub lists_json : History → Json
lists_json h = array (item (list_json h.prefix) (items_of (map list_json h.branches ++ suffix_lists h.suffix)))

-- `null` if the call is not known to have completed
abbrev pub completion_json : Option ℕ → Json
completion_json None = null
completion_json (Some completed) = number (decimal completed)

-- `[INVOKED, COMPLETED]`
abbrev pub time_json : CallTime → Json
time_json t = array (item (number (decimal t.invoked)) (item (completion_json t.completed) no_items))

-- the times of a branch
abbrev pub times_json : List CallTime → Json
times_json ts = array (items_of (map time_json ts))

-- the times of each branch
abbrev pub time_lists_json : List (List CallTime) → Json
time_lists_json times = array (items_of (map times_json times))

abbrev pub times_members : Option (List (List CallTime)) → Members
times_members None = no_members
times_members (Some times) = member (codes "times") (time_lists_json times) no_members

abbrev pub replies_members : Option History → Members
replies_members None = no_members
replies_members (Some h) = member (codes "replies") (lists_json h) (times_members h.times)

-- the suffix, if it has commands
abbrev pub suffix_members : Source → List Command → Members → Members
suffix_members m [] more = more
suffix_members m (c ∷ cs) more = member (codes "suffix") (part_json m (c ∷ cs)) more

abbrev pub item_json : Source → Case → Option History → Json
item_json m c h =
    object (member (codes "prefix") (part_json m c.prefix)
    (member (codes "branches") (branches_json m c.branches)
    (suffix_members m c.suffix (replies_members h))))

-- the JSON of a run: a case if it has no history
abbrev pub run_json : Source → Run → Json
run_json m run = item_json m run.shaped.case run.history

-- it on a line
abbrev pub json_line : Source → Run → List ℕ
json_line m run = print (json_tokens (run_json m run)) ++ 10 ∷ []
