use Rattle.std.proofs.lemmas.Result.{IfOk-weaker}
use Rattle.pst_gen.proofs.Stepping.{is_full, extended, ended, failed}
use Rattle.pst_gen.proofs.script.+extend_script_randomly.Goals as goal

pub returns-then-more-eq0-clause-script : goal.returns-then-more-eq0-clause-script
returns-then-more-eq0-clause-script g t c =
    is_full (g.C.Callbacks.model c.args.callbacks.now) c.args.state c.args.done c.args.more (g.R.Rng.stream c.args.rng.now) c.if-more-eq0.true

pub returns-in-Extended-clause-script : goal.returns-in-Extended-clause-script
returns-in-Extended-clause-script g t c =
    let m = g.C.Callbacks.model c.args.callbacks.now in
    let k = rw c.in-Extended.is at c.in_ok-next.ensures.step in
    IfOk-weaker c.extend_script_randomly.result _ _
    (λ r h. extended m c.args.state c.args.done c.args.more (g.R.Rng.stream c.args.rng.now) (g.R.Rng.stream c.extend_script_by_random_command.new.rng) (g.R.Rng.stream c.extend_script_randomly.new.rng) c.in-Extended.next c.in-Extended.longer r c.if-more-eq0.false k h)
    c.extend_script_randomly.ensures.script

pub returns-in-Ended-clause-script : goal.returns-in-Ended-clause-script
returns-in-Ended-clause-script g t c =
    let k = rw c.in-Ended.is at c.in_ok-next.ensures.step in
    ended (g.C.Callbacks.model c.args.callbacks.now) c.args.state c.args.done c.args.more (g.R.Rng.stream c.args.rng.now) (g.R.Rng.stream c.extend_script_by_random_command.new.rng) c.in-Ended.all c.if-more-eq0.false k

pub returns-clause-script : goal.returns-clause-script
returns-clause-script g t c =
    let k = rw c.in-Failed.is at c.in_ok-next.ensures.step in
    failed (g.C.Callbacks.model c.args.callbacks.now) c.args.state c.args.done c.args.more (g.R.Rng.stream c.args.rng.now) (g.R.Rng.stream c.extend_script_by_random_command.new.rng) c.in-Failed.fault c.if-more-eq0.false k
