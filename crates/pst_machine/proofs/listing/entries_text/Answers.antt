use Rattle.std.proofs.Common.{length}
use Rattle.std.proofs.lemmas.Slice.Zip.{zip_end}
use Rattle.pst_machine.proofs.Entries.{entries_end}
use Rattle.pst_machine.proofs.listing.entries_text.Goals as goal

pub returns : goal.returns
returns c =
    let count = zip_end c.args.keys.now c.args.parts.now c.loop-key.yielded c.into_iter-key-iterator.result c.loop-key.key-iterator c.next.new.self _ (cc) (cc) c.loop-key.yielded_by c.in-None.is c.next.ensures.steps in
    entries_end c.args.keys.now c.args.parts.now (length c.loop-key.yielded) c.loop-key.text _ count c.loop-key.invariant
