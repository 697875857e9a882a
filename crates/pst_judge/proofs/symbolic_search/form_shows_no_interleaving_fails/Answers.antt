use Rattle.std.proofs.Common.{◌+◌, ◌∙◌, arith}
use Rattle.pst_judge.proofs.Passing.{case_passes}
use Rattle.pst_judge.proofs.symbolic_search.form_shows_no_interleaving_fails.Goals as goal

pub returns-in-Some : goal.returns-in-Some
returns-in-Some g c = λ yes.
    case_passes (g.C.Callbacks.model c.args.branches.now.callbacks.now) c.source.result.now c.args.branches.now.shaped.now.case c.args.lengths.now c.args.branches.now.commands c.args.branches.now.suffix (c.sum_of_branch_lengths.result + c.len.result) c.args.state.now
    (c.source.ensures.same ∙ c.in-Some.ensures) c.source.ensures.well c.requires.lengths c.requires.commands c.requires.last c.requires.state (omega (arith, c.sum_of_branch_lengths.ensures, c.len.ensures))
    (rw (c.as_slice-commands.ensures, c.as_slice.ensures) at c.form_shows_no_command_fails.ensures yes)
