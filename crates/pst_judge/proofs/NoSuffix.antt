-- With an empty suffix, prefix and word alone are the whole run.
use Rattle.std.proofs.Common.{◌+◌, List, ap}
use Rattle.pst_case.specs.Shape.{before_suffix}
use Rattle.pst_case.specs.Recorded.{recorded}
use Rattle.pst_case.specs.declared.case.Command.{Command}
use Rattle.pst_eval.specs.Callbacks.{init_of}
use Rattle.pst_grid.specs.Merges.{run, none_done}
use Rattle.pst_grid.specs.declared.steps.Ending.TheVariants.{AllTrue}
use Rattle.pst_judge.specs.Laws.{EmptySuffixAddsNothing}
use Rattle.pst_judge.specs.Replay.{replayed_asking, from_opening, run_events, part_events, prefix_events, branch_events, branch_outcome, branch_lengths}
use Rattle.pst_judge.specs.Symbolic.{symbolic, symbolic_opening, run_commands, with_numbers, prefix_commands, branch_commands, symbolic_outcome}

pub empty_suffix : EmptySuffixAddsNothing
unfolding replayed_asking symbolic
empty_suffix m c e word = (
  λ h. ap
      (λ (cs : List Command). from_opening (init_of m)
      (λ s. run_events m (prefix_events c h) s
      (λ s'. run (branch_outcome m (branch_events c h)) (λ t. run_events m (part_events (recorded h) (1 + before_suffix c) cs h.suffix) t (λ last. AllTrue)) (none_done (branch_lengths c)) s' word))) e,
  ap
      (λ (cs : List Command). symbolic_opening (init_of m)
      (λ s. run_commands m (prefix_commands c) s
      (λ s'. run (symbolic_outcome m (branch_commands c)) (λ t. run_commands m (with_numbers (1 + before_suffix c) cs) t (λ last. AllTrue)) (none_done (branch_lengths c)) s' word))) e,
)
