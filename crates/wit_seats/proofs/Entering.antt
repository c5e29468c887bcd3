-- What a call of a seat finds and leaves, put together from the steps of the cards.
use Rattle.std.proofs.Common.{◌≡◌, ℕ, ◌==◌, List, [], ◌++◌, Option, None, Some, refl, ap, sym, ◌∙◌}
use Rattle.std.proofs.Common.{subst}
use Rattle.std.proofs.lemmas.List.{append_cancel_right}
use Rattle.std.proofs.lemmas.List.Elements.{filter-append}
use Rattle.wit_model.specs.declared.calls.Entry.{Entry}
use Rattle.wit_model.specs.declared.locks.FileNo.{FileNo}
use Rattle.wit_model.specs.Rules.History.{own_entries}
use Rattle.wit_model.specs.Rules.State.{Start, Story}
use Rattle.wit_model.specs.Rules.Step.{IsLegal}
use Rattle.wit_seats.specs.declared.views.Journal.{Journal}
use Rattle.wit_seats.specs.declared.views.SeatKnowledge.{SeatKnowledge}
use Rattle.wit_seats.specs.declared.views.CardView.{CardView}
use Rattle.wit_seats.specs.Seats.{AreFiles, IsKnowledge, IsSeatOf, Grows, Entered, caught_up}
use Rattle.wit_seats.specs.Rule.{shows, journal, without, alone, with_guest, newcomer, Followed}
use Rattle.wit_seats.specs.Shown.{log_in, knowledge_in}
use Rattle.wit_seats.proofs.Files.{files_more, files_both}

-- the card of the log and the seat's are put together and follow a step
pub together : (after : Story) (given : List (FileNo × List ℕ)) (j : Journal) (k : SeatKnowledge)
    (log seat taken both left : CardView)
    → log ≡ shows (Some j) None → seat ≡ shows None (Some k) → taken ≡ alone seat
    → both ≡ with_guest log taken → Followed after given both left
    → (left ≡ shows (Some (journal after.history after.files j.handed))
    (Some (caught_up after given k))) × IsSeatOf j k
together after given j k log seat taken both left is_log is_seat is_taken is_both f =
    let one : both ≡ shows (Some j) (Some k) =
    is_both ∙ ap (λ (v : CardView × CardView). with_guest v.0 v.1)
    (λ i. (is_log i, (is_taken ∙ ap alone is_seat) i)) in
    let g = subst (λ (v : CardView). Followed after given v left) one f in
    (g.now, g.learnt)

pub of_seat : (v : CardView) (k : SeatKnowledge) → v ≡ shows None (Some k)
    → (v ≡ shows None (Some (knowledge_in v))) × (knowledge_in v ≡ k)
of_seat v k e =
    (e ∙ ap (λ (x : SeatKnowledge). shows None (Some x)) (sym (ap knowledge_in e)), ap knowledge_in e)

-- a seat that has caught up
pub known_after : (start : Start) (after : Story) (given : List (FileNo × List ℕ)) (j : Journal)
    (k : SeatKnowledge) → Grows j k.seat after → AreFiles after.files given
    → IsLegal start after.files after.history → IsSeatOf j k
    → IsKnowledge start (caught_up after given k)
known_after start after given j k grows named legal f = record {
  legal = (
    after.files,
    legal,
    files_both after.files given k.given named
        (subst (λ (l : List (List ℕ)). AreFiles l k.given) (sym grows.files.1)
        (files_more j.files grows.files.0 k.given f.files)),
  );
  own = refl;
}

-- one that is handed out
pub known_newcomer : (start : Start) (j : Journal) → IsLegal start j.files j.entries
    → own_entries (newcomer j).seat j.entries ≡ [] → IsKnowledge start (newcomer j)
known_newcomer start j legal none = record { legal = (j.files, legal, tt); own = none }

-- others alone made entries since a seat looked
pub others_alone : (start : Start) (j : Journal) (k : SeatKnowledge) → IsKnowledge start k → (f : IsSeatOf j k)
    → own_entries k.seat f.seen.0 ≡ []
others_alone start j k known f =
    let later = f.seen.0 in
    let mine = λ (e : Entry). e.seat.0 == k.seat in
    append_cancel_right (own_entries k.seat later) [] (own_entries k.seat k.seen)
    (sym (filter-append mine later k.seen) ∙ ap (own_entries k.seat) (sym f.seen.1) ∙ f.own
    ∙ sym known.own)

pub enters : (start : Start) (given : List (FileNo × List ℕ)) (j : Journal) (after : Story)
    (k w : SeatKnowledge) → IsKnowledge start k → IsSeatOf j k
    → IsLegal start after.files after.history → w ≡ caught_up after given k
    → Entered start given j.entries j.files after k w
enters start given j after k w known f legal now = record {
  others = (f.seen.0, f.seen.1, others_alone start j k known f);
  own = f.own;
  files = f.files;
  legal = legal;
  now = now;
}
