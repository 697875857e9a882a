-- One tree that is read by itself.
use Rattle.std.proofs.Common.{◌≡◌, ◌∙◌, true, List, [], ◌∷◌, ◌++◌, Option, Some, None, IfSome, Result, Ok, Err, ap, subst}
use Rattle.pst_case.specs.Matches.{matches}
use Rattle.pst_case.specs.declared.case.Case.{Case}
use Rattle.pst_case.specs.declared.history.History.{History}
use Rattle.pst_case.specs.declared.history.Run.{Run}
use Rattle.pst_judge.specs.Judgement.{MatchesIfAny}
use Rattle.pst_model.specs.declared.model.Source.{Source}
use Rattle.pst_rejudge.specs.Judging.{MayBeJudged}
use Rattle.pst_runs.specs.Items.{item_of, numbered, runs_of}
use Rattle.pst_runs.specs.Lawful.{IsLawful, AreLawful}
use Rattle.pst_runs.specs.Replies.{◌>>=◌, then_more}
use Rattle.pst_runs.specs.declared.reader.ItemFault.{ItemFault}
use Rattle.pst_runs.specs.declared.reader.RunFault.{RunFault}
use Rattle.pst_sexpr.specs.declared.form.Form.{Form}

-- the last of a list of one
last_is : {A : Type 0} (a b : A) (rest : List A) → a ∷ [] ≡ rest ++ (b ∷ []) → a ≡ b
last_is a b [] h = cc
last_is a b (x ∷ []) h = absurd (cc)
last_is a b (x ∷ y ∷ rest) h = absurd (cc)

-- the runs of a list of one tree, by what this tree spells
abbrev alone : Result Run ItemFault → Result (List Run) RunFault
alone r = numbered 1 r >>= (λ run. then_more run (Ok []))

read_so : (r : Result Run ItemFault) (run : Run) (rest runs : List Run) → alone r ≡ Ok runs
    → runs ≡ rest ++ (run ∷ []) → r ≡ Ok run
read_so (Ok one) run rest runs p q =
    let e : one ∷ [] ≡ runs = cc in
    ap Ok (last_is one run rest (e ∙ q))
read_so (Err fault) run rest runs p q = absurd (cc)

refused_so : (r : Result Run ItemFault) (fault : RunFault) → alone r ≡ Err fault
    → r ≡ Err (record { kind = fault.kind; command = fault.command })
refused_so (Ok one) fault p = absurd (cc)
refused_so (Err of) fault p =
    let given : RunFault = record { run = 1; command = of.command; kind = of.kind } in
    let e : given ≡ fault = cc in
    let Of : RunFault → Result Run ItemFault = λ f. Err (record { kind = f.kind; command = f.command }) in
    ap Of e

lawful_last : (m : Source) (rest : List Run) (run : Run) → AreLawful m (rest ++ (run ∷ [])) → IsLawful m run
lawful_last m [] run l = l.0
lawful_last m (other ∷ rest) run l = lawful_last m rest run l.1

pub matches_if_any : (m : Source) (c : Case) (history : Option History) → IfSome history (λ h. matches m c h ≡ true)
    → MatchesIfAny m c history
matches_if_any m c None h = tt
matches_if_any m c (Some history) h = h

-- the tree spells the run that was read of it
pub one_read : (m : Source) (form : Form) (run : Run) (rest runs : List Run) → runs_of m (form ∷ []) ≡ Ok runs
    → runs ≡ rest ++ (run ∷ []) → item_of m form ≡ Ok run
one_read m form run rest runs p q = read_so (item_of m form) run rest runs p q

-- the tree is refused as the list of it alone is
pub one_refused : (m : Source) (form : Form) (fault : RunFault) → runs_of m (form ∷ []) ≡ Err fault
    → item_of m form ≡ Err (record { kind = fault.kind; command = fault.command })
one_refused m form fault p = refused_so (item_of m form) fault p

-- the run that was read may be judged
pub one_lawful : (m : Source) (run : Run) (rest runs : List Run) → AreLawful m runs → runs ≡ rest ++ (run ∷ [])
    → MayBeJudged m run
one_lawful m run rest runs h q =
    let l = lawful_last m rest run (subst (AreLawful m) q h) in
    (l.model, matches_if_any m run.shaped.case run.history l.matching)

pub ruleset one = (one_read, one_refused, one_lawful)
