use Rattle.std.proofs.Common.{take}
use Rattle.std.specs.List.{AllZip}
use Rattle.pst_cli.specs.DrivenItems.{IsDrivenItem}
use Rattle.pst_system.specs.Kept.{AreKept}
use Rattle.pst_cli.proofs.drive.drive_each_item.Given as goal

abbrev pub invariant-loop-run : goal.invariant-loop-run
invariant-loop-run g l =
    let now = (g.dyn-1.0.entry l.system.vtable).1 in
    let before = (g.dyn-1.0.entry l.initial.system.vtable).1 in
    record {
      driven : AllZip (IsDrivenItem l.judge.order l.judge.callbacks.now (before.answers l.initial.system.value) (before.fails l.initial.system.value) (before.reset_fails l.initial.system.value) l.repeats) (take l.run-index l.runs) l.items.items;
      kept : AreKept (now.answers l.system.value) (before.answers l.initial.system.value) (now.fails l.system.value) (before.fails l.initial.system.value) (now.reset_fails l.system.value) (before.reset_fails l.initial.system.value);
    }
