use Rattle.std.proofs.Common.{length}
use Rattle.pst_typing.proofs.scope.+last_function_of_name.Given as goal

abbrev pub decreases-last_function_of_name : goal.decreases-last_function_of_name
decreases-last_function_of_name l = length l.items.now
