use Rattle.pst_gen.proofs.Ranges.{map_more}
use Rattle.pst_gen.specs.Split.{branch_of}
use Rattle.pst_gen.proofs.split.choose_branches_of_commands.Goals as goal

pub loop-index-preserved : goal.loop-index-preserved
loop-index-preserved c = map_more (branch_of c.args.branches c.args.word) c.loop-index.index c.loop-index.all.items c.push.new.self.items c.choose_branch_of_command.result c.loop-index.invariant c.choose_branch_of_command.ensures c.in_ok-push.ensures.items
