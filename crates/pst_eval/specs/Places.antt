-- The words that are printed for callbacks.
use Rattle.std.specs.Prelude.{ℕ, List, codes}
use Rattle.pst_eval.specs.declared.callbacks.Callback.{Callback}
use Rattle.pst_eval.specs.declared.callbacks.Callback.TheVariants.{Init, Command, Pre, Next, Post}

abbrev pub callback_name : Callback → List ℕ
callback_name Init = codes "init"
callback_name Command = codes "command"
callback_name Pre = codes "pre"
callback_name Next = codes "next"
callback_name Post = codes "post"
