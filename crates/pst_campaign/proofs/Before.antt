-- What a worker gave on a system that was kept, it may give on the system as it was.
use Rattle.std.proofs.Common.{◌≡◌, ℕ, List, [], ◌∷◌}
use Rattle.std.specs.Prelude.{All}
use Rattle.atomic_table.specs.Seated.{TableId}
use Rattle.pst_campaign.specs.Entries.{MayGive}
use Rattle.pst_campaign.specs.Moving.{gives_before}
use Rattle.pst_campaign.specs.Workers.{IsWorked}
use Rattle.pst_ledger.proofs.Closing.{all_head, all_tail, all_none, all_more}
use Rattle.pst_ledger.specs.Seats.{SeatView}
use Rattle.pst_system.specs.Kept.{Answers, Fails, ResetFails, AreKept}
use Rattle.pst_trial.specs.PlanView.{PlanView}
use Rattle.pst_trial.specs.RecordView.{RecordView}

all_wider : {A : Type 0} (P Q : A → Type 0) → ((x : A) → P x → Q x) → (xs : List A) → All P xs → All Q xs
all_wider P Q f [] all = all_none Q
all_wider P Q f (x ∷ xs) all = all_more Q x xs (f x (all_head P x xs all)) (all_wider P Q f xs (all_tail P x xs all))

pub worked_before : {A B : Answers} {F G : Fails} {R S : ResetFails} → AreKept A B F G R S
    → (p : PlanView) (may_end : Type 0) (table : TableId) (seat : SeatView RecordView)
    → IsWorked may_end (MayGive A F R p) table seat → IsWorked may_end (MayGive B G S p) table seat
worked_before {A} {B} {F} {G} {R} {S} kept p may_end table seat worked = record {
  place = worked.place;
  marked = worked.marked;
  rests = worked.rests;
  given = all_wider (λ x. MayGive A F R p x.0 x.1) (λ x. MayGive B G S p x.0 x.1)
      (λ x. gives_before kept p x.0 x.1) seat.ends worked.given;
}
