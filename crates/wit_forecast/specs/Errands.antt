-- Errands: what seats did from a moment on at which they had nothing.
use Rattle.std.specs.Prelude.{ℕ, ◌≡◌, ◌≤◌, ◌+◌, ◌-◌, ◌||◌, ◌&&◌, ◌==◌, Bool, true, not, Option, Some, None}
use Rattle.std.specs.Prelude.{List, [], ◌∷◌, ◌++◌, map, filter, take, get_or, codes, nat_eq}
use Rattle.std.specs.Prelude.{if◌then◌else◌}
use Rattle.std.specs.Global.{Vec}
use Rattle.std.specs.List.{starts_with}
use Rattle.wit_forecast.specs.Owners.{after_space, goes_on, lines_in, own, field, Begins, most_seats}

-- ---- what a line does

-- it makes a lock
abbrev pub makes : List ℕ → Bool
makes line = starts_with nat_eq line (codes "init ")

-- it gets a share of a lock
abbrev pub gets : List ℕ → Bool
gets line = starts_with nat_eq line (codes "take ") || starts_with nat_eq line (codes "trytake ")

-- it gives one back
abbrev pub frees : List ℕ → Bool
frees line = starts_with nat_eq line (codes "free ")

-- how many shares are had after a line, where so many are had before it
abbrev pub after_line : List ℕ → ℕ → ℕ
after_line line shares = if gets line then shares + 1 else if frees line then shares - 1 else shares

-- and after these lines
abbrev pub had : ℕ → List (List ℕ) → ℕ
had shares [] = shares
had shares (line ∷ lines) = had (after_line line shares) lines

-- ---- what a seat does

-- a line of a seat that makes no lock
abbrev pub does : List ℕ → List ℕ → Bool
does seat line = goes_on seat line && not (makes line)

abbrev pub doing : List ℕ → List (List ℕ) → List (List ℕ)
doing seat lines = filter (does seat) lines

-- what makes locks
abbrev pub making : List (List ℕ) → List (List ℕ)
making lines = filter makes lines

-- where one of these stands, that seat has nothing before the line of its place
abbrev pub AreRests : List (Option ℕ) → List (Vec ℕ) → Type 0
AreRests rests body = (place seat : ℕ) → get_or rests place None ≡ Some seat
    → had 0 (doing (field seat) (lines_in (take place body))) ≡ 0

-- ---- whoever does it

-- a line without the field after so many spaces
abbrev pub without_field : List ℕ → ℕ → List ℕ
without_field [] spaces = []
without_field (b ∷ bytes) spaces =
    if spaces == 0 then after_space (b ∷ bytes)
    else (b ∷ without_field bytes (if b == 32 then spaces - 1 else spaces))

-- lines without their seats
abbrev pub seatless : List (List ℕ) → List (List ℕ)
seatless lines = map (λ line. without_field line 1) lines

-- a prelude, whatever the number of its seats
abbrev pub without_seats : List (List ℕ) → List (List ℕ)
without_seats [] = []
without_seats (header ∷ lines) = without_field header 3 ∷ lines

-- ---- errands

-- one list without its seats stands in the other, and begins it
pub record Follows (chosen lines : List (List ℕ)) : Type 0 where
  pub done : List (List ℕ)
  pub after : List (List ℕ)
  pub parts : lines ≡ done ++ after
  pub alike : seatless chosen ≡ seatless done

-- what a seat does among the chosen lines is an unbroken part of what a seat did in the trace, from a
-- moment on at which this one had nothing
pub record IsErrand (seat from : ℕ) (chosen body : List (List ℕ)) : Type 0 where
  pub before : List (List ℕ)
  pub lines : List (List ℕ)
  pub parts : doing (field from) body ≡ before ++ lines
  pub nothing : had 0 before ≡ 0
  pub follows : Follows (own seat chosen) lines

-- it is the seat's own, where all are to be
abbrev pub HasErrand : Bool → List (List ℕ) → List (List ℕ) → ℕ → Type 0
HasErrand own_alone chosen body seat =
    (from : ℕ) × ((own_alone ≡ true → from ≡ seat) × IsErrand seat from chosen body)

-- a text has the trace's prelude, with as many seats as it likes; then the first lines of the trace
-- that make locks; then of each seat an errand of the trace
pub record AreErrands (own_alone : Bool) (trace opening made chosen : List (List ℕ)) : Type 0 where
  pub head : List (List ℕ)
  pub body : List (List ℕ)
  pub read : trace ≡ head ++ body
  pub opens : without_seats opening ≡ without_seats head
  pub makings : Begins made (making body)
  pub errands : (seat : ℕ) → seat ≤ most_seats → HasErrand own_alone chosen body seat
