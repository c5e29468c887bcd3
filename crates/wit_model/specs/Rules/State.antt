-- The state of a verifier: what its rules speak of, taken over its history.
use Rattle.std.specs.Prelude.{ℕ, ◌+◌, ◌-◌, Bool, true, false, not, ◌&&◌, ◌==◌, nat_le, List, []}
use Rattle.std.specs.Prelude.{◌∷◌, ◌++◌, Option, None, Some, map, length, count_by, unwrap_or}
use Rattle.std.specs.Prelude.{sum_by, if◌then◌else◌}
use Rattle.std.specs.List.{range_with_len}
use Rattle.wit_model.specs.declared.profiles.Profile.{Profile}
use Rattle.wit_model.specs.declared.locks.Class.{Class}
use Rattle.wit_model.specs.declared.locks.TypeNo.{TypeNo}
use Rattle.wit_model.specs.declared.locks.Watch.{Watch}
use Rattle.wit_model.specs.declared.locks.Instance.{Instance}
use Rattle.wit_model.specs.declared.calls.Adoption.{Adoption}
use Rattle.wit_model.specs.declared.calls.Call.{Call}
use Rattle.wit_model.specs.declared.calls.Reply.{Reply}
use Rattle.wit_model.specs.declared.calls.Reply.TheVariants.{Silent, Reversal, Duplicate}
use Rattle.wit_model.specs.declared.calls.Request.{Request}
use Rattle.wit_model.specs.declared.calls.Entry.{Entry}
use Rattle.wit_model.specs.Rules.Sizes.{Sizes}
use Rattle.wit_model.specs.Rules.Numbers.{is_given, with_number}
use Rattle.wit_model.specs.Rules.Types.{LockType, listed_types, types_from}
use Rattle.wit_model.specs.Rules.Locks.{Lock, made_among, lock_at, destroyed_of, is_destroyed}
use Rattle.wit_model.specs.Rules.Orders.{listed_orders, orders_from, found_once}
use Rattle.wit_model.specs.Rules.History.{chain, pending, watch_of}
use Rattle.wit_model.specs.Rules.SeatGroups.{seat_groups}

-- what a verifier is made with: its sizes, which held locks a request is compared with, static
-- lists of types in order, and pairs of type names that may be taken in either order
pub record Start : Type 0 where
  pub sizes : Sizes
  pub profile : Profile
  pub lists : List (List (Class × List ℕ))
  pub blessed : List (List ℕ × List ℕ)

-- a verifier as its callers see it: how it began, its history (newest entry first), the files that
-- were named to it (in the order of their numbers, from 1), and the call of a seat that is
-- prepared, which no rule reads
pub record Story : Type 0 where
  pub start : Start
  pub history : List Entry
  pub files : List (List ℕ)
  pub ready : Option (ℕ × Call)

-- nothing has happened, no file is named, and no call is prepared
abbrev pub fresh : Start → Story
fresh start = record { start = start; history = []; files = []; ready = None }

-- what a seat holds, of each kind oldest first, the groups in which these locks lie, and what it
-- has asked for
pub record Seat : Type 0 where
  pub sleep : List Instance
  pub spin : List Instance
  pub sleep_groups : List (List ℕ)
  pub spin_groups : List (List ℕ)
  pub pending : Option Request

abbrev pub seat_of : List Entry → ℕ → Seat
seat_of h t = record {
  sleep = chain false t h;
  spin = chain true t h;
  sleep_groups = seat_groups false t h;
  spin_groups = seat_groups true t h;
  pending = pending t h;
}

-- the first n seats
abbrev pub seats_of : ℕ → List Entry → List Seat
seats_of n h = map (seat_of h) (range_with_len 1 n)

-- the types enrolled: those of the lists, then those of the locks made
abbrev pub types_of : Start → List Entry → List LockType
types_of start h = types_from (listed_types start.lists []) h

-- the orders adopted, newest first: those of the lists, then those that the requests taught
abbrev pub orders_of : Start → List Entry → List Adoption
orders_of start h = orders_from (listed_orders start.lists [] []) h

-- the locks made, oldest first, each with its type's number at the time (numbers stay, since types
-- only grow)
abbrev pub typed_locks : Start → List Entry → List Lock
typed_locks start [] = []
typed_locks start (e ∷ h) = typed_locks start h ++ made_among (types_of start h) e.call

-- the pairs of types found in violation, once a reply names one
abbrev pub found_after : List Lock → Reply → List (TypeNo × TypeNo) → List (TypeNo × TypeNo)
found_after locks (Silent a b) pairs = found_once a b pairs
found_after locks (Reversal c) pairs =
    found_once (lock_at locks c.held.lock.0).type_no (lock_at locks c.asked.lock.0).type_no pairs
found_after locks (Duplicate d) pairs =
    found_once (lock_at locks d.asked.lock.0).type_no (lock_at locks d.asked.lock.0).type_no pairs
found_after _ _ pairs = pairs

-- the pairs of types found in violation, newest first
abbrev pub found_of : Start → List Entry → List (TypeNo × TypeNo)
found_of start [] = []
found_of start (e ∷ h) = found_after (typed_locks start h) e.reply (found_of start h)

-- what is known of types, locks and orders, and the pairs of type names that may be taken in either
-- order
pub record Known : Type 0 where
  pub types : List LockType
  pub locks : List Lock
  pub orders : List Adoption
  pub found : List (TypeNo × TypeNo)
  pub blessed : List (List ℕ × List ℕ)

abbrev pub known_of : Start → List Entry → Known
known_of start h = record {
  types = types_of start h;
  locks = typed_locks start h;
  orders = orders_of start h;
  found = found_of start h;
  blessed = start.blessed;
}

pub record State : Type 0 where
  pub sizes : Sizes
  pub profile : Profile
  pub files : ℕ
  pub known : Known
  pub destroyed : List ℕ
  pub seats : List Seat
  pub watch : Watch
  pub used : ℕ

abbrev pub state_of : Story → State
state_of s = record {
  sizes = s.start.sizes;
  profile = s.start.profile;
  files = length s.files;
  known = known_of s.start s.history;
  destroyed = destroyed_of s.history;
  seats = seats_of s.start.sizes.seats s.history;
  watch = watch_of s.history;
  used = length s.history;
}

abbrev pub no_seat : Seat
no_seat = record { sleep = []; spin = []; sleep_groups = []; spin_groups = []; pending = None }

-- the seat with this number
abbrev pub seat_among : List Seat → ℕ → Seat
seat_among seats t = unwrap_or (with_number seats t) no_seat

abbrev pub seat_at : State → ℕ → Seat
seat_at s t = seat_among s.seats t

-- what a seat holds of one kind: the spin kind is `true`
abbrev pub chain_in : Bool → Seat → List Instance
chain_in spin s = if spin then s.spin else s.sleep

-- the groups in which these locks lie
abbrev pub groups_in : Bool → Seat → List (List ℕ)
groups_in spin s = if spin then s.spin_groups else s.sleep_groups

abbrev pub is_seat : State → ℕ → Bool
is_seat s t = is_given s.seats t

-- whether the lock was made and isn't destroyed
abbrev pub is_live : State → ℕ → Bool
is_live s l = is_given s.known.locks l && not (is_destroyed s.destroyed l)

-- whether this is the number of a live lock of a type
abbrev pub is_live_of : List Lock → List ℕ → ℕ → ℕ → Bool
is_live_of locks destroyed t l =
    ((lock_at locks l).type_no.0 == t) && not (is_destroyed destroyed l)

-- how many of these locks are of a type and not among the destroyed ones
abbrev pub live_among : List Lock → List ℕ → ℕ → ℕ
live_among locks destroyed t =
    count_by (is_live_of locks destroyed t) (range_with_len 1 (length locks))

-- how many locks of a type are live
abbrev pub live : State → ℕ → ℕ
live s t = live_among s.known.locks s.destroyed t

-- the acquisitions in a chain, recursions counted
abbrev pub recorded_in : List Instance → ℕ
recorded_in c = sum_by (λ (i : Instance). i.count + 1) c

-- a pending request will be noted and released
abbrev pub owed_for : Option Request → ℕ
owed_for None = 0
owed_for (Some q) = 2

-- the log entries that a seat will still need
abbrev pub owed_by : Seat → ℕ
owed_by s = recorded_in s.sleep + recorded_in s.spin + owed_for s.pending

-- those of all seats
abbrev pub owed : State → ℕ
owed s = sum_by owed_by s.seats

-- the chunks of a seat: one for each of its groups
abbrev pub chunks_of : Seat → ℕ
chunks_of s = length s.sleep_groups + length s.spin_groups

-- the chunks that no seat has
abbrev pub free : State → ℕ
free s = s.sizes.chunks - sum_by chunks_of s.seats

-- whether the log has room for n entries beside those that are owed
abbrev pub has_room : State → ℕ → Bool
has_room s n = nat_le (s.used + owed s + n) s.sizes.log
