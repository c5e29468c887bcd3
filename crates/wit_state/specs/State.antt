-- What a verifier knows, in lines for programs, whose fields are parted by tabs.
use Rattle.std.specs.Prelude.{ℕ, List, [], ◌∷◌, ◌++◌, Option, None, Some, length, reverse, codes}
use Rattle.std.specs.Fmt.{decimal}
use Rattle.std.specs.List.{flat_map, range_with_len}
use Rattle.wit_model.specs.declared.calls.Request.{Request}
use Rattle.wit_model.specs.declared.locks.Instance.{Instance}
use Rattle.wit_model.specs.declared.locks.Mode.{Mode}
use Rattle.wit_model.specs.declared.locks.Site.{Site}
use Rattle.wit_model.specs.Rules.Orders.{origin_of}
use Rattle.wit_model.specs.Rules.State.{Story, Seat, Known, known_of, state_of, seat_at}
use Rattle.wit_model.specs.Rules.Types.{name_of}
use Rattle.wit_model.specs.Trace.Texts.{origin_words, site_words}
use Rattle.wit_model.specs.Trace.Views.{children_of, mode_words}
use Rattle.wit_state.specs.Clean.{clean_text}

abbrev pub field : List ℕ → List ℕ
field words = 9 ∷ words

-- ---- orders

-- a direct order: its types, and where it comes from
abbrev pub order_item : Known → List (List ℕ) → ℕ → ℕ → List ℕ
order_item k files parent child =
    codes "order" ++ field (name_of parent k.types) ++ field (name_of child k.types)
    ++ field (origin_words files (origin_of parent child k.orders)) ++ 10 ∷ []

abbrev pub orders_from : Known → List (List ℕ) → ℕ → List ℕ
orders_from k files parent = flat_map (order_item k files parent) (children_of k parent)

-- the direct orders, by the parent's number, then by the child's
abbrev pub order_items : Known → List (List ℕ) → List ℕ
order_items k files = flat_map (orders_from k files) (range_with_len 1 (length k.types))

-- ---- seats

-- a seat, a lock, a mode and a place
abbrev pub lock_fields : List (List ℕ) → ℕ → ℕ → Mode → Site → List ℕ
lock_fields files t lock mode site =
    field (decimal t) ++ field (decimal lock) ++ field (mode_words mode)
    ++ field (site_words files site) ++ 10 ∷ []

-- a held lock, how it is held, and where it was acquired last
abbrev pub held_item : List (List ℕ) → ℕ → Instance → List ℕ
held_item files t held =
    codes "held" ++ lock_fields files t held.lock.0 held.mode held.site

abbrev pub held_items : List (List ℕ) → ℕ → List Instance → List ℕ
held_items files t held = flat_map (held_item files t) held

-- a lock that is asked for, how it is to be held, and where
abbrev pub request_item : List (List ℕ) → ℕ → Option Request → List ℕ
request_item files t None = []
request_item files t (Some q) = codes "asks" ++ lock_fields files t q.lock.0 q.mode q.site

-- what a seat holds, of the spin kind and then of the sleep kind, each newest first; and what it asks
-- for
abbrev pub seat_items : List (List ℕ) → ℕ → Seat → List ℕ
seat_items files t seat =
    held_items files t (reverse seat.spin) ++ held_items files t (reverse seat.sleep)
    ++ request_item files t seat.pending

-- of one of a verifier's seats
abbrev pub items_of_seat : Story → ℕ → List ℕ
items_of_seat s t = seat_items s.files t (seat_at (state_of s) t)

abbrev pub all_seat_items : Story → List ℕ
all_seat_items s = flat_map (items_of_seat s) (range_with_len 1 s.start.sizes.seats)

-- ---- a circle

abbrev pub seat_fields : List ℕ → List ℕ
seat_fields seats = flat_map (λ t. field (decimal t)) seats

-- seats of which each waits for the next, and the last for the first
abbrev pub circle_item : Option (List ℕ) → List ℕ
circle_item None = []
circle_item (Some seats) = codes "circle" ++ seat_fields seats ++ 10 ∷ []

-- ---- all of them

-- first whether the log is clean, and what keeps it from that, by a line of the trace
abbrev pub state_text : Story → ℕ → Option (List ℕ) → List ℕ
state_text s n circle =
    codes "clean" ++ field (clean_text s n) ++ order_items (known_of s.start s.history) s.files
    ++ all_seat_items s ++ circle_item circle
