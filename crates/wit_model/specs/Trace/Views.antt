-- The texts of the views: what is held, which types and orders there are, and a circle. And those
-- of assertions and warnings.
use Rattle.std.specs.Prelude.{ℕ, List, [], ◌∷◌, ◌++◌, Option, None, Some, length, filter, reverse}
use Rattle.std.specs.Prelude.{codes}
use Rattle.std.specs.Fmt.{decimal}
use Rattle.std.specs.List.{flat_map, range_with_len}
use Rattle.wit_model.specs.declared.assertions.AssertAnswer.{AssertAnswer}
use Rattle.wit_model.specs.declared.assertions.AssertAnswer.TheVariants.{Holds, Skipped, Invalid}
use Rattle.wit_model.specs.declared.assertions.AssertAnswer.TheVariants.{IsLocked, IsNotLocked}
use Rattle.wit_model.specs.declared.assertions.AssertAnswer.TheVariants.{IsNotExclusive}
use Rattle.wit_model.specs.declared.assertions.AssertAnswer.TheVariants.{IsExclusive, IsNotRecursed}
use Rattle.wit_model.specs.declared.assertions.AssertAnswer.TheVariants.{IsRecursed}
use Rattle.wit_model.specs.declared.locks.Instance.{Instance}
use Rattle.wit_model.specs.declared.locks.Lock.{Lock}
use Rattle.wit_model.specs.declared.locks.Mode.{Mode}
use Rattle.wit_model.specs.declared.locks.Mode.TheVariants.{Shared, Exclusive}
use Rattle.wit_model.specs.declared.calls.Request.{Request}
use Rattle.wit_model.specs.Rules.Locks.{lock_at}
use Rattle.wit_model.specs.Rules.Orders.{is_direct}
use Rattle.wit_model.specs.Rules.State.{Story, State, Seat, Known, state_of, known_of, typed_locks}
use Rattle.wit_model.specs.Rules.State.{types_of, seat_at, free}
use Rattle.wit_model.specs.Rules.Types.{LockType, type_name_of, name_of, class_of}
use Rattle.wit_model.specs.Trace.Spelling.{quoted}
use Rattle.wit_model.specs.Trace.Texts.{line, class_words, site_words}

-- ---- held locks

abbrev pub mode_words : Mode → List ℕ
mode_words Shared = codes "shared"
mode_words Exclusive = codes "exclusive"

-- a held lock, as a line: MODE CLASS "NAME" (TYPE) r = COUNT @ SITE
abbrev pub held_line : List Lock → List (List ℕ) → Instance → List ℕ
held_line locks files i =
    let lock = (lock_at locks i.lock.0).made in
    line (mode_words i.mode ∷ codes " " ∷ class_words lock.class ∷ codes " " ∷ quoted lock.name
    ∷ codes " (" ∷ type_name_of lock ∷ codes ") r = "
    ∷ decimal i.count ∷ codes " @ " ∷ site_words files i.site ∷ [])

-- these locks, a line each
abbrev pub held_lines : List Lock → List (List ℕ) → List Instance → List ℕ
held_lines locks files held = flat_map (held_line locks files) held

-- what a seat holds: of the sleep kind, then of the spin kind, each newest first
abbrev pub all_held : Seat → List Instance
all_held seat = reverse seat.sleep ++ reverse seat.spin

-- the locks of one seat
abbrev pub locks_text : Story → ℕ → List ℕ
locks_text s t =
    held_lines (typed_locks s.start s.history) s.files (all_held (seat_at (state_of s) t))

-- behind the seat's number; nothing where it holds none
abbrev pub holder_lines : List Lock → List (List ℕ) → ℕ → List Instance → List ℕ
holder_lines locks files t [] = []
holder_lines locks files t (i ∷ held) =
    line (codes "seat " ∷ decimal t ∷ codes " holds:" ∷ []) ++ held_lines locks files (i ∷ held)

abbrev pub holder_text : Story → ℕ → List ℕ
holder_text s t =
    holder_lines (typed_locks s.start s.history) s.files t (all_held (seat_at (state_of s) t))

abbrev pub free_line : ℕ → List ℕ
free_line chunks = line (codes "free chunks: " ∷ decimal chunks ∷ [])

-- the locks of all seats that hold any, by the seats' numbers, and how many chunks are free
abbrev pub all_locks_text : Story → List ℕ
all_locks_text s =
    flat_map (holder_text s) (range_with_len 1 s.start.sizes.seats) ++ free_line (free (state_of s))

-- ---- types and orders

-- a type with its live locks, as a line: N "TYPE" CLASS locks K
abbrev pub type_line : List LockType → (ℕ → ℕ) → ℕ → List ℕ
type_line types live t =
    line (decimal t ∷ codes " " ∷ quoted (name_of t types) ∷ codes " "
    ∷ class_words (class_of t types) ∷ codes " locks " ∷ decimal (live t) ∷ [])

-- the types by their numbers
abbrev pub type_lines : List LockType → (ℕ → ℕ) → List ℕ
type_lines types live = flat_map (type_line types live) (range_with_len 1 (length types))

-- a direct order, as a line: "PARENT","CHILD"
abbrev pub edge_line : Known → ℕ → ℕ → List ℕ
edge_line k parent child =
    line (quoted (name_of parent k.types) ∷ codes "," ∷ quoted (name_of child k.types) ∷ [])

-- the types that a direct order puts behind this one, by their numbers
abbrev pub children_of : Known → ℕ → List ℕ
children_of k parent = filter (is_direct k.orders parent) (range_with_len 1 (length k.types))

abbrev pub edge_lines : Known → ℕ → List ℕ
edge_lines k parent = flat_map (edge_line k parent) (children_of k parent)

-- the direct orders, by the parent's number, then by the child's
abbrev pub graph_text : Story → List ℕ
graph_text s =
    flat_map (edge_lines (known_of s.start s.history))
    (range_with_len 1 (length (types_of s.start s.history)))

-- ---- circles

-- the name of the lock that a seat asks for, empty where it asks for none
abbrev pub asked_name : List Lock → Option Request → List ℕ
asked_name locks None = []
asked_name locks (Some q) = (lock_at locks q.lock.0).made.name

-- a seat that waits for another, as a line
abbrev pub wait_line : State → ℕ → ℕ → List ℕ
wait_line s t u =
    line (codes " seat " ∷ decimal t ∷ codes " waits for " ∷ quoted
    (asked_name s.known.locks (seat_at s t).pending) ∷ codes " held by seat " ∷ decimal u ∷ [])

-- from t by these seats to u, each waits for the next
abbrev pub wait_lines : State → ℕ → List ℕ → ℕ → List ℕ
wait_lines s t [] u = wait_line s t u
wait_lines s t (v ∷ vs) u = wait_line s t v ++ wait_lines s v vs u

-- each seat waits for the next, and the last for the first
abbrev pub circle_lines : State → List ℕ → List ℕ
circle_lines s [] = []
circle_lines s (first ∷ others) = wait_lines s first others first

abbrev pub circle_text : State → Option (List ℕ) → List ℕ
circle_text s None = line (codes "no circle" ∷ [])
circle_text s (Some seats) = line (codes "circle:" ∷ []) ++ circle_lines s seats

-- ---- assertions and warnings

-- what an assertion comes to, in words; nothing where it holds, or nothing was looked at
abbrev pub answer_words : AssertAnswer → Option (List ℕ)
answer_words Holds = None
answer_words Skipped = None
answer_words Invalid = Some (codes "Invalid lock assertion")
answer_words IsLocked = Some (codes "locked")
answer_words IsNotLocked = Some (codes "not locked")
answer_words IsNotExclusive = Some (codes "not exclusively locked")
answer_words IsExclusive = Some (codes "exclusively locked")
answer_words IsNotRecursed = Some (codes "not recursed")
answer_words IsRecursed = Some (codes "recursed")

abbrev pub failed_line : List ℕ → Option (List ℕ) → List ℕ
failed_line name None = []
failed_line name (Some words) = line (codes "assert " ∷ quoted name ∷ codes ": " ∷ words ∷ [])

-- a failed assertion about a lock; nothing of one that didn't fail
abbrev pub assert_text : List Lock → ℕ → AssertAnswer → List ℕ
assert_text locks l answer = failed_line (lock_at locks l).made.name (answer_words answer)

-- a warning that counted these locks; nothing where it counted none
abbrev pub warn_text : List Lock → List (List ℕ) → List Instance → List ℕ
warn_text locks files [] = []
warn_text locks files (i ∷ held) =
    line (decimal (length (i ∷ held)) ∷ codes " locks held:" ∷ [])
    ++ held_lines locks files (i ∷ held)
