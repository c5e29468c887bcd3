-- How a request is written, with what its thread holds: as lines of seat 1, which holds nothing before
-- and after them. A type has two locks: one that stands for what is held, and one that stands for what
-- is asked for.
use Rattle.std.specs.Prelude.{ℕ, ◌+◌, ◌*◌, Bool, not, ◌&&◌, ◌||◌, nat_le, nat_lt, List, [], ◌∷◌, ◌++◌, length}
use Rattle.std.specs.Prelude.{Option, None, Some, codes, if◌then◌else◌}
use Rattle.std.specs.List.{list_all}
use Rattle.std.specs.Fmt.{decimal}
use Rattle.wit_model.specs.declared.locks.Class.{Class}
use Rattle.wit_model.specs.Trace.Spelling.{class_text}
use Rattle.wit_import.specs.declared.blocks.TheConstants.{MOST_TYPES}
use Rattle.wit_import.specs.declared.events.Acquisition.{Acquisition}
use Rattle.wit_import.specs.declared.held.Holding.{Holding}
use Rattle.wit_import.specs.declared.pairs.Fate.{Fate}
use Rattle.wit_import.specs.declared.pairs.Fate.TheVariants.{Written, Known, LeftOut}
use Rattle.wit_import.specs.Held.{is_of, asks_again}
use Rattle.wit_import.specs.Names.{has_name, place_in, with_name}

-- ---- what was written so far: the names of the types, and the pairs of them
pub record Told : Type 0 where
  pub types : List (List ℕ)
  pub pairs : List (List ℕ)

-- a pair as a text: no name has a quotation mark
abbrev pub pair_text : List ℕ → List ℕ → List ℕ
pair_text a b = a ++ 34 ∷ b

-- ---- whether a request is written

-- each type that the thread holds makes a pair with this one that was written
abbrev pub are_known : List (List ℕ) → List ℕ → List ℕ → List Holding → Bool
are_known pairs thread b held =
    list_all (λ (h : Holding). not (is_of thread h)
    || has_name pairs (pair_text h.acquisition.name b)) held

-- how many of the types with this name have no number yet
abbrev pub missing : List (List ℕ) → List ℕ → ℕ
missing types name = if has_name types name then 0 else 1

-- a trace has room for so many types, and for those of the request that have no number yet
abbrev pub have_room : List (List ℕ) → Acquisition → ℕ → List Holding → Bool
have_room types a count [] = nat_le (count + missing types a.name) MOST_TYPES
have_room types a count (h ∷ held) =
    let next = count + (if is_of a.thread h then missing types h.acquisition.name else 0) in
    nat_le next MOST_TYPES && have_room types a next held

abbrev pub has_room : List (List ℕ) → List Holding → Acquisition → Bool
has_room types held a =
    nat_le (length types) MOST_TYPES && have_room types a (length types) held

abbrev pub is_written : Told → List Holding → Acquisition → Bool
is_written t held a =
    not (are_known t.pairs a.thread a.name held) && (not (asks_again held a)
    && has_room t.types held a)

-- what becomes of a request
abbrev pub fate_of : Told → List Holding → Acquisition → Fate
fate_of t held a =
    if are_known t.pairs a.thread a.name held || asks_again held a then Known
    else if has_room t.types held a then Written
    else LeftOut

-- ---- what is known then

abbrev pub with_types : List (List ℕ) → List ℕ → List Holding → List (List ℕ)
with_types types thread [] = types
with_types types thread (h ∷ held) =
    with_types (if is_of thread h then with_name types h.acquisition.name else types) thread held

abbrev pub with_pairs : List (List ℕ) → List ℕ → List ℕ → List Holding → List (List ℕ)
with_pairs pairs thread b [] = pairs
with_pairs pairs thread b (h ∷ held) =
    with_pairs (if is_of thread h then with_name pairs (pair_text h.acquisition.name b) else pairs)
    thread b held

abbrev pub types_after : List (List ℕ) → List Holding → Acquisition → List (List ℕ)
types_after types held a = with_name (with_types types a.thread held) a.name

abbrev pub told_after : Told → List Holding → Acquisition → Told
told_after t held a =
    if is_written t held a
    then record {
      types = types_after t.types held a;
      pairs = with_pairs t.pairs a.thread a.name held;
    }
    else t

-- ---- its lines

-- the number of the lock of a type that stands for what is held
abbrev pub held_no : Option ℕ → ℕ
held_no None = 1
held_no (Some place) = if nat_le place MOST_TYPES then 2 * place + 1 else 1

abbrev pub held_lock : List (List ℕ) → List ℕ → ℕ
held_lock types name = held_no (place_in types name)

-- the one that stands for what is asked for
abbrev pub asked_lock : List (List ℕ) → List ℕ → ℕ
asked_lock types name = held_lock types name + 1

-- a place, at the end of a line
abbrev pub place_text : Acquisition → List ℕ
place_text a = a.file ++ 58 ∷ (decimal a.line ++ 10 ∷ [])

-- a lock of this type is made, which may be acquired recursively
abbrev pub init_line : Class → List ℕ → List ℕ
init_line class name =
    codes "init 1 " ++ (class_text class ++ (codes " r \"" ++ (name ++ 34 ∷ 10 ∷ [])))

abbrev pub check_line : ℕ → Acquisition → List ℕ
check_line n a = codes "check 1 " ++ (decimal n ++ (codes " x n " ++ place_text a))

abbrev pub try_line : ℕ → Acquisition → List ℕ
try_line n a = codes "try 1 " ++ (decimal n ++ (codes " x " ++ place_text a))

abbrev pub got_line : ℕ → List ℕ
got_line n = codes "lock 1 " ++ (decimal n ++ 10 ∷ [])

abbrev pub give_up_line : ℕ → List ℕ
give_up_line n = codes "giveup 1 " ++ (decimal n ++ 10 ∷ [])

-- it is said of a lock that it is held
abbrev pub assert_line : ℕ → List ℕ
assert_line n = codes "assert 1 " ++ (decimal n ++ (codes " l" ++ 10 ∷ []))

abbrev pub unlock_line : ℕ → List ℕ
unlock_line n = codes "unlock 1 " ++ (decimal n ++ (codes " x" ++ 10 ∷ []))

-- the two locks of a type that has no number yet
abbrev pub init_lines : List (List ℕ) → Class → List ℕ → List ℕ
init_lines types class name =
    if has_name types name then [] else init_line class name ++ init_line class name

abbrev pub held_inits : List (List ℕ) → List ℕ → List Holding → List ℕ
held_inits types thread [] = []
held_inits types thread (h ∷ held) =
    if is_of thread h
    then init_lines types h.acquisition.class h.acquisition.name
    ++ held_inits (with_name types h.acquisition.name) thread held
    else held_inits types thread held

-- what is held is acquired
abbrev pub holding_lines : List (List ℕ) → Holding → List ℕ
holding_lines types h =
    let n = held_lock types h.acquisition.name in
    if h.tried then try_line n h.acquisition else check_line n h.acquisition ++ got_line n

abbrev pub held_lines : List (List ℕ) → List ℕ → List Holding → List ℕ
held_lines types thread [] = []
held_lines types thread (h ∷ held) =
    (if is_of thread h then holding_lines types h else []) ++ held_lines types thread held

-- it is released
abbrev pub release_lines : List (List ℕ) → List ℕ → List Holding → List ℕ
release_lines types thread [] = []
release_lines types thread (h ∷ held) =
    (if is_of thread h then unlock_line (held_lock types h.acquisition.name) else [])
    ++ release_lines types thread held

-- the lock is asked for
abbrev pub asking_lines : List (List ℕ) → Acquisition → List ℕ
asking_lines types a =
    check_line (asked_lock types a.name) a ++ give_up_line (asked_lock types a.name)

-- all lines, where these are the types then
abbrev pub lines_with : List (List ℕ) → List Holding → Acquisition → List ℕ
lines_with types held a =
    held_lines types a.thread held ++ asking_lines types a ++ release_lines types a.thread held

abbrev pub block : Told → List Holding → Acquisition → List ℕ
block t held a =
    held_inits t.types a.thread held ++ init_lines (with_types t.types a.thread held) a.class a.name
    ++ lines_with (types_after t.types held a) held a

-- what is written of a request
abbrev pub request_text : Told → List Holding → Acquisition → List ℕ
request_text t held a = if is_written t held a then block t held a else []

-- ---- a lock of this type was released that nobody holds

-- a trace has room for the type
abbrev pub has_place : List (List ℕ) → List ℕ → Bool
has_place types name = has_name types name || nat_lt (length types) MOST_TYPES

abbrev pub told_of_twice : Told → List ℕ → Told
told_of_twice t name =
    if has_place t.types name then record t { types = with_name t.types name } else t

-- seat 1 holds nothing: so a lock of the type is said to be held that isn't
abbrev pub twice_text : Told → Class → List ℕ → List ℕ
twice_text t class name =
    if has_place t.types name
    then init_lines t.types class name ++ assert_line (held_lock (with_name t.types name) name)
    else []
