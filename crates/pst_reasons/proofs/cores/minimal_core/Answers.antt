use Rattle.std.proofs.Common.{◌≡◌, ◌++◌, sym, ap, ◌∙◌, subst}
use Rattle.std.proofs.lemmas.List.{append-nil}
use Rattle.pst_reasons.proofs.FewerAsked.{all_impossible}
use Rattle.pst_reasons.proofs.Rising.{numbers_rising}
use Rattle.pst_reasons.specs.Reasons.{AreRising, IsImpossible, numbers_to, number_of_commands}
use Rattle.pst_reasons.proofs.cores.minimal_core.Goals as goal

pub leave_commands_out_of_core_if_possible-requires-clause-core : goal.leave_commands_out_of_core_if_possible-requires-clause-core
leave_commands_out_of_core_if_possible-requires-clause-core g c =
    let r = c.args.run.now in
    let m = g.C.Callbacks.model r.callbacks.now in
    let order = g.O.Order.order r.order.now in
    let last = number_of_commands r.shaped.now.case in
    let e : c.as_slice.result.now ++ c.empty_command_number_list-core.result.items ≡ numbers_to last
    = ap (λ x. c.as_slice.result.now ++ x) c.empty_command_number_list-core.ensures ∙ append-nil c.as_slice.result.now ∙ c.as_slice.ensures.value ∙ c.in_ok-numbers.ensures ∙ ap numbers_to c.count_case_commands.ensures in
    record {
      impossible = subst (IsImpossible m order r.shaped.now.case r.history.now) (sym e) (all_impossible m order r.shaped.now.case r.history.now c.requires.unexplained);
      needed = λ number member. absurd (let n = rw c.empty_command_number_list-core.ensures at member in cc);
      rising = subst (AreRising 0 last) (sym e) (numbers_rising last);
    }
