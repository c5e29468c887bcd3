-- Seats as their callers see them, and what they keep.
use Rattle.std.specs.Prelude.{ℕ, true, false, ◌*◌, ◌≡◌, ◌≤◌, List, Option, None, length, map}
use Rattle.std.specs.Prelude.{get_or, ◌-◌, find, IfSome}
use Rattle.std.specs.List.{range_with_len}
use Rattle.wit_model.specs.declared.locks.LockNo.{LockNo}
use Rattle.wit_model.specs.declared.calls.Request.{Request}
use Rattle.wit_model.specs.declared.sizes.TheConstants.Limits.{MOST_SEATS}
use Rattle.wit_model.specs.Rules.Chunks.{Chunks, IsPlaced, groups_of, chain_of, list_of}
use Rattle.wit_model.specs.Rules.Verdict.{is_of}
use Rattle.wit_waiting.specs.Seats.{Holdings, Seating}
use Rattle.wit_waiting.specs.declared.seats.Seats.TheInside.{Inside}

-- a seat by its lists and its request
abbrev pub seat_by : Chunks → List (Option Request) → ℕ → Holdings
seat_by c requests t = record {
  sleep = groups_of c (list_of false t);
  spin = groups_of c (list_of true t);
  pending = get_or requests (t - 1) None;
}

abbrev pub seats_by : Chunks → List (Option Request) → List Holdings
seats_by c requests = map (seat_by c requests) (range_with_len 1 (length requests))

abbrev pub seating_in : Inside → Seating
seating_in s = record { seats = seats_by s.lists s.requests.items; chunks = s.lists.size }

-- the list with this number doesn't hold this lock
abbrev pub IsUnheld : Chunks → ℕ × LockNo → Type 0
IsUnheld c x = find (is_of x.1.0) (chain_of c x.0) ≡ None

-- each seat has its two lists, each chunk stands once, and what is known not to be held isn't
pub record AreSeated (s : Inside) : Type 0 where
  pub few : length s.requests.items ≤ MOST_SEATS
  pub lists : length s.lists.groups ≡ 2 * length s.requests.items
  pub placed : IsPlaced s.lists
  pub unheld : IfSome s.unheld (IsUnheld s.lists)
