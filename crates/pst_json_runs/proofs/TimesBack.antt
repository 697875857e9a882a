-- Times are read back from their JSON.
use Rattle.std.proofs.Common.{◌≡◌, ℕ, ◌<◌, ◌^◌, true, List, [], ◌∷◌, map, Option, Some, None, refl, ap, ◌∙◌}
use Rattle.std.specs.Prelude.{IfSome, codes, decimal}
use Rattle.std.proofs.lemmas.Fmt.{digits_decimal, decimal_nonempty}
use Rattle.json.specs.Value.{items_of}
use Rattle.pst_case.specs.declared.history.CallTime.{CallTime}
use Rattle.pst_json_runs.proofs.SpelledBack.{if_spelled_is}
use Rattle.pst_json_runs.specs.Trees as read
use Rattle.pst_json_runs.specs.Written as json
use Rattle.pst_runs.specs.ReadAgain.{IsSmall, AreSmallCalls, AreSmallTimes}
use Rattle.pst_runs.specs.Written as tree
use Rattle.pst_sexpr.proofs.Digits.{digits_are_word}
use Rattle.pst_sexpr.proofs.Made.{word_is_tree}
use Rattle.pst_sexpr.proofs.Numbers.{numerals}
use Rattle.pst_sexpr.specs.Parts.{headed}
use Rattle.pst_sexpr.specs.declared.form.Form.{Form}
use Rattle.pst_sexpr.specs.declared.form.Form.TheVariants.{Word, Node}
use Rattle.json.specs.Json.{number}

instant_back : (n : ℕ) → n < 2 ^ 64 → read.instant_form (number (decimal n)) ≡ Word (decimal n)
instant_back n h =
    if_spelled_is (Word (decimal n)) read.nothing (word_is_tree (decimal n) (decimal_nonempty n h) (digits_are_word (decimal n) (digits_decimal numerals n h)))

completion_back : (c : Option ℕ) → IfSome c (λ at. at < 2 ^ 64) → read.instant_form (json.completion_json c) ≡ Word (tree.completion_word c)
completion_back None h = refl
completion_back (Some n) h = instant_back n h

time_back : (t : CallTime) → IsSmall t → read.time_form (json.time_json t) ≡ tree.time_form t
time_back t s =
    let completed = read.instant_form (json.completion_json t.completed) in
    ap (λ f. Node (f ∷ completed ∷ [])) (instant_back t.invoked s.invoked)
    ∙ ap (λ f. Node (Word (decimal t.invoked) ∷ f ∷ [])) (completion_back t.completed s.completed)

calls_back : (ts : List CallTime) → AreSmallCalls ts → read.time_forms (items_of (map json.time_json ts)) ≡ map tree.time_form ts
calls_back [] s = refl
calls_back (t ∷ ts) s =
    ap (λ f. f ∷ read.time_forms (items_of (map json.time_json ts))) (time_back t s.0) ∙ ap (λ fs. tree.time_form t ∷ fs) (calls_back ts s.1)

branches_back : (times : List (List CallTime)) → AreSmallTimes times → read.times_in (items_of (map json.times_json times)) ≡ map tree.times_form times
branches_back [] s = refl
branches_back (ts ∷ times) s =
    ap (λ fs. Node fs ∷ read.times_in (items_of (map json.times_json times))) (calls_back ts s.0) ∙ ap (λ fs. tree.times_form ts ∷ fs) (branches_back times s.1)

-- the trees of the times that are written
abbrev pub times_read : Option (List (List CallTime)) → List Form
times_read None = []
times_read (Some times) = headed (codes "times") (read.times_in (items_of (map json.times_json times))) ∷ []

pub times_back : (times : Option (List (List CallTime))) → IfSome times AreSmallTimes → times_read times ≡ tree.times_forms times
times_back None s = refl
times_back (Some times) s = ap (λ fs. headed (codes "times") fs ∷ []) (branches_back times s)

-- an array of arrays
pub times_are_arrays : (times : List (List CallTime)) → read.are_arrays (items_of (map json.times_json times)) ≡ true
times_are_arrays [] = refl
times_are_arrays (ts ∷ times) = times_are_arrays times
