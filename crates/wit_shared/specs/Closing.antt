-- What is left of a shared verifier that is closed.
use Rattle.std.specs.Prelude.{ℕ, zero, suc, ◌+◌, ◌≡◌, ◌<◌, ◌≤◌, ◌==◌, Bool, true, false, List, []}
use Rattle.std.specs.Prelude.{◌∷◌, length, if◌then◌else◌}
use Rattle.std.specs.List.{list_any}
use Rattle.wit_model.specs.declared.calls.Entry.{Entry}
use Rattle.wit_model.specs.Rules.Beginnings.{IsBeginning}
use Rattle.wit_model.specs.Rules.History.{own_entries}
use Rattle.wit_model.specs.Rules.State.{Start, Story}
use Rattle.wit_seats.specs.declared.views.SeatKnowledge.{SeatKnowledge}
use Rattle.wit_seats.specs.Seats.{AreFiles}

-- a seat of this number is among these
abbrev pub has_seat : ℕ → List SeatKnowledge → Bool
has_seat n seats = list_any (λ (k : SeatKnowledge). k.seat == n) seats

-- so are the seats of all numbers up to this one
abbrev pub HasSeatsTo : ℕ → List SeatKnowledge → Type 0
HasSeatsTo n seats = (m : ℕ) → 0 < m → m ≤ n → has_seat m seats ≡ true

-- the least number of a seat that isn't
pub record IsMissing (n : ℕ) (seats : List SeatKnowledge) : Type 0 where
  pub number : 0 < n
  pub missing : has_seat n seats ≡ false
  pub least : (m : ℕ) → 0 < m → m < n → has_seat m seats ≡ true

-- the verifier's log has just the entries of the seat's list and began with what the seat has seen;
-- its files stand
pub record IsLeft (v : Story) (k : SeatKnowledge) : Type 0 where
  pub own : own_entries k.seat v.history ≡ k.own
  pub seen : IsBeginning k.seen v.history
  pub files : AreFiles v.files k.given

abbrev pub AreLeft : Story → List SeatKnowledge → Type 0
AreLeft v [] = Unit {0}
AreLeft v (k ∷ ks) = IsLeft v k × AreLeft v ks

-- a verifier that comes back is the one that was shared, with the entries of these seats and nobody
-- else's
pub record IsClosed (start : Start) (v : Story) (seats : List SeatKnowledge) : Type 0 where
  pub began : v.start ≡ start
  pub own : AreLeft v seats
  pub others : (n : ℕ) → has_seat n seats ≡ false → own_entries n v.history ≡ []

-- what wasn't closed: the seats given back, how many were handed out, and the least number of one
-- that isn't there
pub record Lacking : Type 0 where
  pub seats : List SeatKnowledge
  pub handed : ℕ
  pub missing : ℕ

-- the entries in the list of the seat of this number
abbrev pub entries_of_seat : ℕ → List SeatKnowledge → List Entry
entries_of_seat n [] = []
entries_of_seat n (k ∷ ks) = if k.seat == n then k.own else entries_of_seat n ks

-- how many entries the lists of the seats up to this number have
abbrev pub logged_to : ℕ → List SeatKnowledge → ℕ
logged_to zero seats = length (entries_of_seat 0 seats)
logged_to (suc n) seats = length (entries_of_seat (suc n) seats) + logged_to n seats

-- a log is as long as the lists of these seats together
abbrev pub LogAddsUp : List Entry → List SeatKnowledge → Type 0
LogAddsUp h seats = (n : ℕ) → ((m : ℕ) → n < m → has_seat m seats ≡ false)
    → length h ≡ logged_to n seats

abbrev pub ClosedLogsAddUp : Type 0
ClosedLogsAddUp = (start : Start) (v : Story) (seats : List SeatKnowledge) → IsClosed start v seats
    → LogAddsUp v.history seats
