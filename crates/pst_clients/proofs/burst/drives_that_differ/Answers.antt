use Rattle.std.proofs.Common.{◌≡◌, Contains, arith, subst}
use Rattle.pst_clients.proofs.Differing.{all_drives, found, with_alike, with_drive}
use Rattle.pst_clients.proofs.burst.drives_that_differ.Goals as goal
use Rattle.pst_clients.proofs.burst.drives_that_differ.Goals.{then-is_none+in_ok-branches+in-Some+in_ok-push+in_ok-push-2, else-is_none}
use Rattle.pst_clients.specs.Bursting.{AreAllDrives}

pub loop-k-preserved : goal.loop-k-preserved
loop-k-preserved c =
    elim c.if-is_none.branch [
      | then-is_none+in_ok-branches+in-Some+in_ok-push+in_ok-push-2 w ↦
          rw (w.drives-is, w.firsts-is, w.in_ok-push.ensures.items, w.in_ok-push-2.ensures.ok)
          (with_drive c.args.answers.now c.loop-k.k c.loop-k.drives c.loop-k.firsts.items c.loop-k.invariant
          (record { branches = w.in-Some.branches }) (rw w.in-Some.is at w.in_ok-branches.ensures))
      | else-is_none w ↦
          (let like = found c.like_drive.result c.is_none.result c.is_none.ensures w.if-is_none.false c.like_drive.ensures in
          rw (w.drives-is, w.firsts-is)
          (with_alike c.args.answers.now c.loop-k.k c.loop-k.drives c.loop-k.firsts.items c.loop-k.invariant
          like.0 (subst (λ xs. Contains xs like.0) c.as_slice.ensures.value like.1.0) like.1.1))
    ]

pub returns : goal.returns
returns c =
    let e : c.loop-k.k ≡ c.args.count = omega (arith, c.loop-k-test.false, c.loop-k.auto.k-end) in
    subst (λ n. AreAllDrives c.args.answers.now n c.loop-k.drives) e
    (all_drives c.args.answers.now c.loop-k.k c.loop-k.drives c.loop-k.firsts.items c.loop-k.invariant)
