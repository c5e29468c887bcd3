-- A search for a circle of waiting seats: who waits for whom as a table, and the seats that are
-- reached from one of them.
use Rattle.std.specs.Prelude.{ℕ, ◌+◌, ◌<◌, ◌≤◌, ◌≡◌, Bool, true, false, List, [], Option, None}
use Rattle.std.specs.Prelude.{Some, length, nat_le, map, unwrap_or, if◌then◌else◌}
use Rattle.std.specs.Global.{Vec}
use Rattle.std.specs.List.{list_all, range_with_len, slice_index_or, sum_by}
use Rattle.wit_model.specs.declared.locks.SeatNo.{SeatNo}
use Rattle.wit_model.specs.Rules.Circles.{IsQueue, IsCircle, starts_with_least, seat_numbers}
use Rattle.wit_model.specs.Rules.Numbers.{with_number, IsNumber}
use Rattle.wit_waiting.specs.declared.circle.Reached.{Reached}

-- whether the number is marked; no other number is
unfoldable pub is_marked : List Bool → ℕ → Bool
is_marked marks t = unwrap_or (with_number marks t) false

-- of the first n seats, those that wait for seat u
abbrev pub waiting : (ℕ → ℕ → Bool) → ℕ → ℕ → List Bool
waiting waits n u = map (λ t. waits t u) (range_with_len 1 n)

-- for each of the first n seats, those that wait for it
abbrev pub all_waiting : (ℕ → ℕ → Bool) → ℕ → List (List Bool)
all_waiting waits n = map (waiting waits n) (range_with_len 1 n)

abbrev pub table_of : List (Vec Bool) → List (List Bool)
table_of rows = map (λ (row : Vec Bool). row.items) rows

-- whether such a table says that t waits for u
abbrev pub says : List (List Bool) → ℕ → ℕ → Bool
says rows t u = is_marked (unwrap_or (with_number rows u) []) t

abbrev pub Says : List (List Bool) → ℕ → ℕ → Type 0
Says rows t u = says rows t u ≡ true

-- a row for each seat, with a mark for each
abbrev pub IsTable : List (List Bool) → Type 0
IsTable rows = (i : ℕ) → i < length rows → length (slice_index_or rows i []) ≡ length rows

abbrev pub nobody : Reached
nobody = record { seat = record { 0 = 0 }; next = 0 }

-- the seat at a place, and the place of the one that it waits for
abbrev pub seat_reached : List Reached → ℕ → ℕ
seat_reached reached i = (slice_index_or reached i nobody).seat.0

abbrev pub next_reached : List Reached → ℕ → ℕ
next_reached reached i = (slice_index_or reached i nobody).next

-- the first seat stands first; each other one is greater, and waits for one that stands before it
pub record IsTrail (rows : List (List Bool)) (first : ℕ) (reached : List Reached) : Type 0 where
  pub some : 0 < length reached
  pub start : seat_reached reached 0 ≡ first
  pub seats : (i : ℕ) → i < length reached → IsNumber (length rows) (seat_reached reached i)
  pub greater : (i : ℕ) → 0 < i → i < length reached → first < seat_reached reached i
  pub earlier : (i : ℕ) → 0 < i → i < length reached → next_reached reached i < i
  pub waits : (i : ℕ) → 0 < i → i < length reached
      → Says rows (seat_reached reached i) (seat_reached reached (next_reached reached i))

-- a seat that was reached, by its place
abbrev pub IsReached : List Reached → ℕ → Type 0
IsReached reached t = (i : ℕ) × (i < length reached) × (seat_reached reached i ≡ t)

abbrev pub one_if_not : Bool → ℕ
one_if_not b = if b then 0 else 1

-- just the seats that were reached are marked
pub record IsSearch (rows : List (List Bool)) (first : ℕ) (reached : List Reached)
    (seen : List Bool) : Type 0 where
  pub trail : IsTrail rows first reached
  pub size : length seen ≡ length rows
  pub own : is_marked seen first ≡ true
  pub marked : (t : ℕ) → is_marked seen t ≡ true → IsReached reached t
  pub left : length reached + sum_by one_if_not seen ≡ length seen

-- what was reached and marked stays so
pub record IsLater (reached later : List Reached) (seen marks : List Bool) : Type 0 where
  pub longer : length reached ≤ length later
  pub same : (i : ℕ) → i < length reached → seat_reached later i ≡ seat_reached reached i
  pub stays : (t : ℕ) → is_marked seen t ≡ true → is_marked marks t ≡ true

-- of the seats behind the first and up to n, all that wait for this one are marked
abbrev pub AreMarked : List (List Bool) → ℕ → ℕ → ℕ → List Bool → Type 0
AreMarked rows first n u marks = (t : ℕ) → first < t → t ≤ n → Says rows t u
    → is_marked marks t ≡ true

-- a search went on with those, up to n, that wait for the seat at this place
pub record Reaches (rows : List (List Bool)) (first place n : ℕ) (reached later : List Reached)
    (seen marks : List Bool) : Type 0 where
  pub search : IsSearch rows first later marks
  pub keeps : IsLater reached later seen marks
  pub all : AreMarked rows first n (seat_reached reached place) marks

-- the first seat doesn't wait for the one at this place; or this circle starts with it, and it is
-- its least seat
abbrev pub IsClosing : List (List Bool) → List Reached → ℕ → Option (Vec SeatNo) → Type 0
IsClosing rows reached place None =
    says rows (seat_reached reached 0) (seat_reached reached place) ≡ false
IsClosing rows reached place (Some seats) = IsCircle (Says rows) (seat_numbers seats.items)
    × (starts_with_least (seat_numbers seats.items) ≡ true)

-- of the seats from the first on, the first itself doesn't wait for any of those at the places
-- below this one, and all that do are marked
abbrev pub AreClosed : List (List Bool) → ℕ → List Reached → List Bool → ℕ → Type 0
AreClosed rows first reached seen places =
    (i : ℕ) → i < places → (t : ℕ) → Says rows t (seat_reached reached i) → first ≤ t
    → (t ≡ first → ⊥) × (is_marked seen t ≡ true)

-- what a search tells: a circle that starts with this seat as its least, or that there is none
abbrev pub IsCircleFrom : List (List Bool) → ℕ → Option (Vec SeatNo) → Type 0
IsCircleFrom rows first None = (others : List ℕ) → IsQueue (Says rows) first others first
    → list_all (nat_le first) others ≡ true → ⊥
IsCircleFrom rows first (Some seats) = IsCircle (Says rows) (seat_numbers seats.items)
    × (starts_with_least (seat_numbers seats.items) ≡ true)
