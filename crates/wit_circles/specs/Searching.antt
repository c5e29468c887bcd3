-- A search for a way between types: for each type a row of those that come next after it, and the
-- types that were met from one of them on.
use Rattle.std.specs.Prelude.{ℕ, ◌+◌, ◌<◌, ◌≤◌, ◌≡◌, Bool, true, false, List, [], Option, None}
use Rattle.std.specs.Prelude.{Some, length, map, slice_index, if◌then◌else◌}
use Rattle.std.specs.Global.{Vec}
use Rattle.std.specs.List.{slice_index_or, sum_by}
use Rattle.wit_circles.specs.declared.search.Met.{Met}
use Rattle.wit_circles.specs.Orders.{IsWayBy}

abbrev pub rows_of : List (Vec ℕ) → List (List ℕ)
rows_of rows = map (λ (r : Vec ℕ). r.items) rows

abbrev pub row : List (List ℕ) → ℕ → List ℕ
row rows a = slice_index_or rows a []

-- b comes next after a
abbrev pub Next : List (List ℕ) → ℕ → ℕ → Type 0
Next rows a b = (k : ℕ) × (k < length (row rows a)) × (slice_index (row rows a) k ≡ b)

-- what comes next has a row, too
abbrev pub IsTable : List (List ℕ) → Type 0
IsTable rows = (a k : ℕ) → k < length (row rows a) → slice_index (row rows a) k < length rows

-- what a search tells
abbrev pub TellsWay : List (List ℕ) → ℕ → ℕ → Option (Vec ℕ) → Type 0
TellsWay rows a b None = (way : List ℕ) → IsWayBy (Next rows) a way b → ⊥
TellsWay rows a b (Some way) = IsWayBy (Next rows) a way.items b

-- ---- while it goes on

abbrev pub is_marked : List Bool → ℕ → Bool
is_marked marks t = slice_index_or marks t false

abbrev pub nothing : Met
nothing = record { of = 0; before = 0 }

-- the type at a place, and the place of the one from which it was met
abbrev pub type_met : List Met → ℕ → ℕ
type_met met i = (slice_index_or met i nothing).of

abbrev pub before_met : List Met → ℕ → ℕ
before_met met i = (slice_index_or met i nothing).before

-- the first type stands first; each other one comes next after one that stands before it
pub record IsTrail (rows : List (List ℕ)) (first : ℕ) (met : List Met) : Type 0 where
  pub some : 0 < length met
  pub start : type_met met 0 ≡ first
  pub types : (i : ℕ) → i < length met → type_met met i < length rows
  pub earlier : (i : ℕ) → 0 < i → i < length met → before_met met i < i
  pub next : (i : ℕ) → 0 < i → i < length met
      → Next rows (type_met met (before_met met i)) (type_met met i)

-- a type that was met, by its place
abbrev pub IsMet : List Met → ℕ → Type 0
IsMet met t = (i : ℕ) × (i < length met) × (type_met met i ≡ t)

abbrev pub one_if_not : Bool → ℕ
one_if_not b = if b then 0 else 1

-- just the types that were met are marked, and the last one isn't
pub record IsSearch (rows : List (List ℕ)) (first last : ℕ) (met : List Met) (marks : List Bool)
    : Type 0 where
  pub trail : IsTrail rows first met
  pub size : length marks ≡ length rows
  pub own : is_marked marks first ≡ true
  pub missing : is_marked marks last ≡ false
  pub marked : (t : ℕ) → is_marked marks t ≡ true → IsMet met t
  pub left : length met + sum_by one_if_not marks ≡ length marks

-- what was met and marked stays so
pub record IsLater (met later : List Met) (marks next : List Bool) : Type 0 where
  pub longer : length met ≤ length later
  pub same : (i : ℕ) → i < length met → type_met later i ≡ type_met met i
  pub stays : (t : ℕ) → is_marked marks t ≡ true → is_marked next t ≡ true

-- a search went on with the first n types of a row
pub record Reaches (rows : List (List ℕ)) (first last n : ℕ) (row : List ℕ) (met later : List Met)
    (marks next : List Bool) : Type 0 where
  pub search : IsSearch rows first last later next
  pub keeps : IsLater met later marks next
  pub all : (k : ℕ) → k < n → is_marked next (slice_index row k) ≡ true

-- what comes next after those at the places below this one is marked
abbrev pub AreClosed : List (List ℕ) → List Met → List Bool → ℕ → Type 0
AreClosed rows met marks places =
    (i : ℕ) → i < places → (t : ℕ) → Next rows (type_met met i) t → is_marked marks t ≡ true
