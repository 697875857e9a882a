use Rattle.std.proofs.Common.{◌-◌}
use Rattle.std.proofs.Math.Nat.{le_refl}
use Rattle.pst_cli.proofs.Generated.{none_written, of_outputs}
use Rattle.pst_cli.proofs.generate.generate_and_write_block_of_cases.Goals as goal

pub returns-in_default : goal.returns-in_default
returns-in_default g c = none_written c.args.form c.args.plan.now _ _ _ _ _ c.requires.stands

pub returns-in_default-joined_outputs_with_worst_status : goal.returns-in_default-joined_outputs_with_worst_status
returns-in_default-joined_outputs_with_worst_status g c = none_written c.args.form c.args.plan.now _ _ _ _ _ c.requires.stands

pub returns-in-Ok-put_all : goal.returns-in-Ok-put_all
returns-in-Ok-put_all g c =
    record {
      text = c.in-Ok-joined_outputs_with_worst_status.output.text.items;
      lines = rw (c.in-Ok-joined_outputs_with_worst_status.ensures.text, c.in-Ok-joined_outputs_with_worst_status.ensures.status, c.as_slice.ensures.value)
          (of_outputs c.args.form c.args.plan.now c.args.first (c.args.behind - c.args.first) c.args.so_far c.in-Ok.outputs.items c.in-Ok.ensures);
      written = rw c.as_slice-2.ensures.value at c.in-Ok-put_all.ensures.outcome;
    }

pub returns : goal.returns
returns g c =
    record {
      some = c.args.behind - c.args.first;
      within = le_refl _;
      text = c.in-Ok-joined_outputs_with_worst_status.output.text.items;
      worst = c.in-Ok-joined_outputs_with_worst_status.output.status;
      lines = rw (c.in-Ok-joined_outputs_with_worst_status.ensures.text, c.in-Ok-joined_outputs_with_worst_status.ensures.status, c.as_slice.ensures.value)
          (of_outputs c.args.form c.args.plan.now c.args.first (c.args.behind - c.args.first) c.args.so_far c.in-Ok.outputs.items c.in-Ok.ensures);
      written = rw c.as_slice-2.ensures.value at c.in-Err.ensures.outcome;
    }
