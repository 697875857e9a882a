use Rattle.std.proofs.Common.{◌≡◌, length, ap, ◌∙◌, arith}
use Rattle.pst_judge.proofs.Fitted.{prefix_within}
use Rattle.pst_judge.proofs.events.events_of_prefix.Goals as goal

pub append_events_while_replies_are_values-requires : goal.append_events_while_replies_are_values-requires
append_events_while_replies_are_values-requires c =
    let h = prefix_within c.args.shaped.now.model c.args.shaped.now.case c.case.ensures.shape in
    let n : length c.as_slice-commands.result.now ≡ length c.args.shaped.now.case.prefix = ap length c.as_slice-commands.ensures ∙ ap (λ x. length x.prefix) c.case.ensures.same in
    omega (arith, h, n)
