use Rattle.std.proofs.Common.{List, sym, subst}
use Rattle.pst_case.specs.declared.history.Run.{Run}
use Rattle.pst_cli.proofs.JudgedRuns.{are_judged}
use Rattle.pst_cli.specs.Output.{AreJudged}
use Rattle.pst_rejudge.proofs.Permitted.{may_be_judged}
use Rattle.pst_typing.specs.Loading.{items_of}
use Rattle.pst_runs.proofs.Lawful.{runs_lawful}
use Rattle.pst_runs.specs.Lawful.{AreLawful}
use Rattle.pst_cli.proofs.input.read_all_runs_then_judge_in_parallel.Goals as goal

pub rejudge_with_progress-requires-after_bounds : goal.rejudge_with_progress-requires-after_bounds
rejudge_with_progress-requires-after_bounds g c κs within =
    let m = c.in-Ok.read.compiled in
    let held = rw c.in-Ok.is at c.in_ok-read.ensures in
    let OfRuns : List Run → Type 0 = λ rs. AreLawful m rs in
    may_be_judged m _ (subst OfRuns (sym c.as_slice.ensures.value) (runs_lawful m (items_of held.trees) c.in-Ok.read.runs.items held.read))

pub returns : goal.returns
returns g c =
    let m = c.in-Ok.read.compiled in
    let runs = c.in-Ok.read.runs.items in
    let all = c.in_ok-judged.judged.items in
    let held = rw c.in-Ok.is at c.in_ok-read.ensures in
    let OfRuns : List Run → Type 0 = λ rs. AreJudged c.args.order m rs all in
    record {
      runs = runs;
      holds = held;
      judged = subst OfRuns c.as_slice.ensures.value (are_judged m c.args.order _ all c.in_ok-judged.ensures);
      lawful = subst (AreLawful m) (sym c.in_ok-runs.ensures) (runs_lawful m (items_of held.trees) runs held.read);
      are_kept = λ all. c.in_ok-runs.ensures;
    }

pub returns-in-Err : goal.returns-in-Err
returns-in-Err g c = rw c.in-Err.is at c.in_ok-read.ensures
