use Rattle.std.proofs.Common.{◌≡◌, drop}
use Rattle.pst_gen.specs.Script.{after_others, allowed, commands_in}
use Rattle.pst_gen.proofs.candidates.append_allowed_calls_or_fault.Given as goal

-- the rest of the calls gives what all of them give
abbrev pub invariant-loop-call : goal.invariant-loop-call
invariant-loop-call g l =
    let m = g.C.Callbacks.model l.callbacks in
    after_others l.commands (allowed m l.number l.state (commands_in (drop l.call-index l.calls))) ≡ after_others l.initial.commands (allowed m l.number l.state (commands_in l.calls))
