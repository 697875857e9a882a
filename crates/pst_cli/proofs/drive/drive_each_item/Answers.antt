use Rattle.std.proofs.Common.{◌≡◌, ◌+◌, ◌++◌, ◌∷◌, [], List, take, sym, ap, ◌∙◌, subst}
use Rattle.std.proofs.lemmas.List.{take_more}
use Rattle.std.proofs.lemmas.Slice.Zip.{all_zipped_more}
use Rattle.std.specs.List.{AllZip}
use Rattle.pst_case.specs.declared.history.Run.{Run}
use Rattle.pst_cli.proofs.JudgedRuns.{lawful_here}
use Rattle.pst_cli.proofs.Keeping.{item_before, kept_on}
use Rattle.pst_cli.specs.DrivenItems.{IsDrivenItem}
use Rattle.pst_cli.specs.declared.driven_item.DrivenItem.{DrivenItem}
use Rattle.pst_cli.proofs.drive.drive_each_item.Goals as goal

pub drive_item-requires : goal.drive_item-requires
drive_item-requires g c =
    let l = lawful_here c.args.judge.now.callbacks.now c.args.runs.now c.loop-run.run-index c.run-item.result c.loop-run-test.true c.run-item.is c.requires in
    record { model = l.model }

pub loop-run-preserved : goal.loop-run-preserved
loop-run-preserved g c =
    let m = c.args.judge.now.callbacks.now in
    let runs = c.args.runs.now in
    let i = c.loop-run.run-index in
    let s = (g.dyn-1.0.entry c.args.system.now.vtable).1 in
    let value = c.args.system.now.value in
    let so_far = c.loop-run.invariant in
    let items = c.loop-run.items.items in
    let item = c.in_ok-item.item in
    let run = c.run-item.result in
    let Is : Run → DrivenItem → Type 0 = IsDrivenItem c.args.judge.now.order m (s.answers value) (s.fails value) (s.reset_fails value) c.args.repeats in
    let here : Is run item = item_before c.args.judge.now.order m so_far.kept c.args.repeats run.shaped.case item c.in_ok-item.ensures.driven in
    let front : take (i + 1) runs ≡ take i runs ++ run ∷ [] = take_more runs i run c.loop-run-test.true ∙ ap (λ r. take i runs ++ r ∷ []) (sym c.run-item.is) in
    let OfItems : List DrivenItem → Type 0 = λ xs. AllZip Is (take (i + 1) runs) xs in
    let OfRuns : List Run → Type 0 = λ rs. AllZip Is rs (items ++ item ∷ []) in
    record {
      driven = subst OfItems (sym c.in_ok-push.ensures.items) (subst OfRuns (sym front) (all_zipped_more Is (take i runs) items run item so_far.driven here));
      kept = kept_on c.drive_item.ensures.kept so_far.kept;
    }
