-- What the token of a seat stands for, and how the steps of a shared verifier leave it. Histories
-- are newest entry first.
use Rattle.std.specs.Prelude.{ℕ, ◌≡◌, ◌≢◌, ◌<◌, ◌≤◌, List, [], ◌∷◌, ◌++◌, Some}
use Rattle.wit_model.specs.declared.calls.Entry.{Entry}
use Rattle.wit_model.specs.declared.locks.FileNo.{FileNo}
use Rattle.wit_model.specs.Rules.Beginnings.{IsBeginning}
use Rattle.wit_model.specs.Rules.History.{own_entries}
use Rattle.wit_model.specs.Rules.Numbers.{with_number}
use Rattle.wit_model.specs.Rules.State.{Start, Story}
use Rattle.wit_model.specs.Rules.Step.{IsLegal}
use Rattle.wit_seats.specs.declared.views.Journal.{Journal}
use Rattle.wit_seats.specs.declared.views.SeatKnowledge.{SeatKnowledge}

-- each of these stands among the files, under its number
abbrev pub AreFiles : List (List ℕ) → List (FileNo × List ℕ) → Type 0
AreFiles files [] = Unit {0}
AreFiles files (g ∷ gs) = (with_number files g.0.0 ≡ Some g.1) × AreFiles files gs

-- what is true of a seat by itself: it has seen a legal history, whose entries of this seat are its
-- own
pub record IsKnowledge (start : Start) (k : SeatKnowledge) : Type 0 where
  pub legal : (files : List (List ℕ)) × IsLegal start files k.seen × AreFiles files k.given
  pub own : own_entries k.seat k.seen ≡ k.own

-- how a seat stands to the log: its own entries are those of the log, which began with what it has
-- seen
pub record IsSeatOf (j : Journal) (k : SeatKnowledge) : Type 0 where
  pub number : (0 < k.seat) × (k.seat ≤ j.handed)
  pub own : own_entries k.seat j.entries ≡ k.own
  pub seen : IsBeginning k.seen j.entries
  pub files : AreFiles j.files k.given

-- the history has become this one, by entries of this seat alone, and more files may be named
pub record Grows (j : Journal) (seat : ℕ) (after : Story) : Type 0 where
  pub entries : (added : List Entry) × (after.history ≡ added ++ j.entries)
      × ((other : ℕ) → other ≢ seat → own_entries other added ≡ [])
  pub files : (more : List (List ℕ)) × (after.files ≡ j.files ++ more)

-- the seat once it has seen all, and was given these files
abbrev pub caught_up : Story → List (FileNo × List ℕ) → SeatKnowledge → SeatKnowledge
caught_up after given k =
    record {
      seat = k.seat;
      own = own_entries k.seat after.history;
      seen = after.history;
      given = given ++ k.given;
    }

-- a seat met a log, and has seen what became of it: since it last looked only others had made
-- entries
pub record Entered (start : Start) (given : List (FileNo × List ℕ)) (history : List Entry)
    (named : List (List ℕ)) (after : Story) (v w : SeatKnowledge) : Type 0 where
  pub others : (between : List Entry) × (history ≡ between ++ v.seen)
      × (own_entries v.seat between ≡ [])
  pub own : own_entries v.seat history ≡ v.own
  pub files : AreFiles named v.given
  pub legal : IsLegal start after.files after.history
  pub now : w ≡ caught_up after given v

-- What a call tells its seat, where `means` says what it does to a verifier. Others had made
-- entries since the seat last looked, and none of them is its own; from there the call did what it
-- means; the seat has seen all of that
pub record Told (start : Start) (given : List (FileNo × List ℕ)) (means : Story → Story
    → Type 0) (v w : SeatKnowledge) : Type 0 where
  pub before : Story
  pub after : Story
  pub began : before.start ≡ start
  pub entered : Entered start given before.history before.files after v w
  pub did : means before after
