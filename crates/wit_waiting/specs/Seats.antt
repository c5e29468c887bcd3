-- The seats with the groups of locks that they hold, and what a request, an acquisition and a
-- release leave of one.
use Rattle.std.specs.Prelude.{ℕ, ◌+◌, ◌-◌, ◌*◌, ◌≡◌, ◌≤◌, ◌==◌, ◌&&◌, Bool, not, List, [], Option}
use Rattle.std.specs.Prelude.{None, is_some, length, find, replicate, unwrap_or, get_or, set}
use Rattle.std.specs.Prelude.{sum_by, map, if◌then◌else◌}
use Rattle.wit_model.specs.declared.locks.Instance.{Instance}
use Rattle.wit_model.specs.declared.calls.Request.{Request}
use Rattle.wit_model.specs.declared.sizes.TheConstants.Limits.{MOST_SEATS}
use Rattle.wit_model.specs.Rules.Chunks.{Chunks, IsPlaced, groups_of, list_of}
use Rattle.wit_model.specs.Rules.Groups.{flat, opens}
use Rattle.wit_model.specs.Rules.Numbers.{with_number, IsGiven}
use Rattle.wit_model.specs.Rules.State as model
use Rattle.wit_model.specs.Rules.Verdict.{is_of}
use Rattle.wit_held.specs.Chains.{change_lock, recorded, forgotten}

-- the groups in which a seat holds locks of each kind, oldest first, and what it has asked for
pub record Holdings : Type 0 where
  pub sleep : List (List Instance)
  pub spin : List (List Instance)
  pub pending : Option Request

abbrev pub no_holdings : Holdings
no_holdings = record { sleep = []; spin = []; pending = None }

abbrev pub numbers : List (List Instance) → List (List ℕ)
numbers gs = map (map (λ (i : Instance). i.lock.0)) gs

-- a seat as the rules see it: its locks, the groups by their numbers, and its request
abbrev pub seat_view : Holdings → model.Seat
seat_view s = record {
  sleep = flat s.sleep;
  spin = flat s.spin;
  sleep_groups = numbers s.sleep;
  spin_groups = numbers s.spin;
  pending = s.pending;
}

-- the seats by number from 1, and how many chunks there are for what they hold
pub record Seating : Type 0 where
  pub seats : List Holdings
  pub chunks : ℕ

-- so many seats that hold nothing and ask for nothing
abbrev pub idle_seating : ℕ → ℕ → Seating
idle_seating seats chunks = record { seats = replicate seats no_holdings; chunks = chunks }

-- the seat with this number
abbrev pub seat_in : Seating → ℕ → Holdings
seat_in seating t = unwrap_or (with_number seating.seats t) no_holdings

abbrev pub groups_held : Bool → Holdings → List (List Instance)
groups_held spin s = if spin then s.spin else s.sleep

-- what a seat holds of one kind, oldest first
abbrev pub locks_in : Bool → Holdings → List Instance
locks_in spin s = flat (groups_held spin s)

-- the chunks of a seat: one for each group
abbrev pub chunks_held : Holdings → ℕ
chunks_held s = length s.sleep + length s.spin

-- the chunks that no seat has
abbrev pub free_in : Seating → ℕ
free_in seating = seating.chunks - sum_by chunks_held seating.seats

-- the seating where the seat with this number is changed so
abbrev pub with_seat : ℕ → (Holdings → Holdings) → Seating → Seating
with_seat t change seating =
    record seating {
      seats = set seating.seats (t - 1)
          (change (get_or seating.seats (t - 1) no_holdings));
    }

-- a seat that asks for this, or for nothing
abbrev pub asking : Option Request → Holdings → Holdings
asking request s = record s { pending = request }

abbrev pub in_groups : Bool → (List (List Instance) → List (List Instance)) → Holdings → Holdings
in_groups spin change s = record s {
  sleep = if spin then s.sleep else change s.sleep;
  spin = if spin then change s.spin else s.spin;
}

-- a seat after it acquired a lock of this kind, and after it released one
abbrev pub having_acquired : Bool → Instance → Holdings → Holdings
having_acquired spin i s = in_groups spin (recorded i) s

abbrev pub having_released : Bool → ℕ → Holdings → Holdings
having_released spin l s = in_groups spin (forgotten l) s

-- a seat of which one held lock of this kind is changed
abbrev pub changed : Bool → ℕ → (Instance → Instance) → Holdings → Holdings
changed spin l change s = in_groups spin (change_lock l change) s

-- whether an acquisition finds no room: the seat doesn't hold the lock, it would open a group, and
-- no chunk is free
abbrev pub has_no_room : Seating → ℕ → Bool → ℕ → Bool
has_no_room seating t spin l =
    not (is_some (find (is_of l) (locks_in spin (seat_in seating t))))
    && (opens (groups_held spin (seat_in seating t)) && (free_in seating == 0))

-- the seating after an acquisition
abbrev pub after_acquired : ℕ → Bool → Instance → Seating → Seating
after_acquired t spin i seating = if has_no_room seating t spin i.lock.0 then seating
    else with_seat t (having_acquired spin i) seating

-- the lists of these chunks hold what the seats hold, 256 at most, and each chunk stands once
pub record HoldFor (seating : Seating) (c : Chunks) : Type 0 where
  pub few : length seating.seats ≤ MOST_SEATS
  pub groups : (t : ℕ) (spin : Bool) → IsGiven seating.seats t
      → groups_of c (list_of spin t) ≡ groups_held spin (seat_in seating t)
  pub lists : length c.groups ≡ 2 * length seating.seats
  pub size : c.size ≡ seating.chunks
  pub placed : IsPlaced c
