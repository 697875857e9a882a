use Rattle.std.proofs.Common.{◌≡◌, ap, sym, subst, ◌∙◌, rules}
use Rattle.pst_grid.specs.Packings.{counts_of, IsPacked}
use Rattle.pst_grid.specs.DoneCounts.{fits}
use Rattle.pst_grid.proofs.Packing.{word-packs, none-fits}
use Rattle.pst_grid.proofs.position.DoneCounts.new.Goals.{in-Some, in-None+in_ok-to_vec-in-None+in_ok-new-in-None}
use Rattle.pst_grid.proofs.position.DoneCounts.new.Goals as goal

pub invariant_of-result : goal.invariant_of-result
invariant_of-result c = elim c.match-pack_done_counts_if_small.branch [
  | in-Some w ↦ subst IsPacked (sym w.packing-is) (word-packs c.args.done.now w.in-Some.word (sym w.in-Some.is ∙ c.pack_done_counts_if_small.ensures)).0
  | in-None+in_ok-to_vec-in-None+in_ok-new-in-None w ↦ (
      let items : w.in_ok-new-in-None.field-0.value.items ≡ c.args.done.now = search rules in
      subst IsPacked (sym w.packing-is) (ap fits items ∙ none-fits c.args.done.now (sym w.in-None.is ∙ c.pack_done_counts_if_small.ensures)))
]

pub returns : goal.returns
returns c = elim c.match-pack_done_counts_if_small.branch [
  | in-Some w ↦ ap counts_of w.packing-is ∙ (word-packs c.args.done.now w.in-Some.word (sym w.in-Some.is ∙ c.pack_done_counts_if_small.ensures)).1
  | in-None+in_ok-to_vec-in-None+in_ok-new-in-None w ↦ (
      let items : w.in_ok-new-in-None.field-0.value.items ≡ c.args.done.now = search rules in
      ap counts_of w.packing-is ∙ items)
]
