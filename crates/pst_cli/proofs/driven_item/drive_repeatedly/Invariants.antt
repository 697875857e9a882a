use Rattle.pst_cli.proofs.Repeating.{HasDriven}
use Rattle.pst_system.specs.Kept.{AreKept}
use Rattle.pst_cli.proofs.driven_item.drive_repeatedly.Given as goal

abbrev pub invariant-loop-drive : goal.invariant-loop-drive
invariant-loop-drive g l =
    let now = (g.dyn-1.0.entry l.system.vtable).1 in
    let before = (g.dyn-1.0.entry l.initial.system.vtable).1 in
    record {
      driven : HasDriven l.judge.order l.judge.callbacks.now (before.answers l.initial.system.value) (before.fails l.initial.system.value) (before.reset_fails l.initial.system.value) l.valid.case l._drive l.shown l.failed;
      kept : AreKept (now.answers l.system.value) (before.answers l.initial.system.value) (now.fails l.system.value) (before.fails l.initial.system.value) (now.reset_fails l.system.value) (before.reset_fails l.initial.system.value);
    }
