-- The rule of the table: there is one log, each card that stands for it knows it as it is, and each
-- seat's card has just the seat's entries.
use Rattle.std.specs.Prelude.{ℕ, ◌+◌, ◌≡◌, ◌≢◌, ◌⊎◌, ◌<◌, List, [], ◌++◌, Option, None, Some}
use Rattle.std.specs.Prelude.{IfSome, IsSomeAnd}
use mathlib.Core.Option.{some}
use lib.ListN.{get_elem?}
use Rattle.atomic_table.specs.Table.{State, Me, Step}
use Rattle.wit_model.specs.declared.calls.Entry.{Entry}
use Rattle.wit_model.specs.declared.locks.FileNo.{FileNo}
use Rattle.wit_model.specs.Rules.History.{own_entries}
use Rattle.wit_model.specs.Rules.State.{Story}
use Rattle.wit_seats.specs.declared.views.Journal.{Journal}
use Rattle.wit_seats.specs.declared.views.SeatKnowledge.{SeatKnowledge}
use Rattle.wit_seats.specs.declared.views.CardView.{CardView}
use Rattle.wit_seats.specs.Seats.{AreFiles, IsSeatOf, caught_up}

abbrev pub shows : Option Journal → Option SeatKnowledge → CardView
shows j k = record { journal = j; holder = k }

abbrev pub journal : List Entry → List (List ℕ) → ℕ → Journal
journal entries files handed = record { entries = entries; files = files; handed = handed }

-- a card without its seat, and the seat alone
abbrev pub without : CardView → CardView
without v = shows v.journal None

abbrev pub alone : CardView → CardView
alone v = shows None v.holder

-- a card with another's seat
abbrev pub with_guest : CardView → CardView → CardView
with_guest v w = shows v.journal w.holder

-- one more seat is out
abbrev pub one_more_out : Option Journal → Option Journal
one_more_out None = None
one_more_out (Some j) = Some (record j { handed = j.handed + 1 })

-- the next seat, which has made no entry and has seen the log
abbrev pub newcomer : Journal → SeatKnowledge
newcomer j = record { seat = j.handed + 1; own = []; seen = j.entries; given = [] }

abbrev pub next : Option Journal → Option SeatKnowledge
next None = None
next (Some j) = Some (newcomer j)

abbrev pub with_next : CardView → CardView
with_next v = shows (one_more_out v.journal) v.holder

abbrev pub handed_out : CardView → CardView
handed_out v = shows None (next v.journal)

-- no seat has this number
abbrev pub IsOutside : ℕ → ℕ → Type 0
IsOutside handed t = (t ≡ 0) ⊎ (handed < t)

-- the card by stands for the log, as it is
pub record Keeps (keeper : ℕ) (whole : Journal) (by : ℕ) (j : Journal) : Type 0 where
  pub card : by ≡ keeper
  pub log : j ≡ whole

-- the card by stands for a seat, and no other card does
pub record Sits (place : ℕ → ℕ) (log : Journal) (by : ℕ) (k : SeatKnowledge) : Type 0 where
  pub card : place k.seat ≡ by
  pub known : IsSeatOf log k

pub record Fits (keeper : ℕ) (place : ℕ → ℕ) (log : Journal) (by : ℕ) (v : CardView) : Type 0 where
  pub keeps : IfSome v.journal (Keeps keeper log by)
  pub sits : IfSome v.holder (Sits place log by)

pub record Kept (views : List CardView) : Type 0 where
  pub keeper : ℕ
  pub place : ℕ → ℕ
  pub log : Journal
  pub outside : (t : ℕ) → IsOutside log.handed t → own_entries t log.entries ≡ []
  pub each : (by : ℕ) (v : CardView) → get_elem? views by ≡ some v → Fits keeper place log by v

-- what a step leaves of each part of a card
abbrev pub log_after : Story → Option Journal → Option Journal
log_after after None = None
log_after after (Some j) = Some (journal after.history after.files j.handed)

abbrev pub seat_after : Story → List (FileNo × List ℕ) → Option SeatKnowledge → Option SeatKnowledge
seat_after after given None = None
seat_after after given (Some k) = Some (caught_up after given k)

-- the log may become this one: by entries of the seat that is there alone, and by more files, the
-- given ones among them
pub record MayBecome (after : Story) (holder : Option SeatKnowledge) (j : Journal) : Type 0 where
  pub entries : (added : List Entry) × (after.history ≡ added ++ j.entries)
      × ((t : ℕ) → IfSome holder (λ (k : SeatKnowledge). t ≢ k.seat) → own_entries t added ≡ [])
  pub files : (more : List (List ℕ)) × (after.files ≡ j.files ++ more)

pub record MayFollow (after : Story) (given : List (FileNo × List ℕ)) (v : CardView) : Type 0 where
  pub log : IsSomeAnd v.journal (MayBecome after v.holder)
  pub named : AreFiles after.files given

-- what a step of the log tells its card: how the seat stood to the log, and that none else has
-- entries
pub record Followed (after : Story) (given : List (FileNo × List ℕ)) (v w : CardView) : Type 0 where
  pub now : w ≡ shows (log_after after v.journal) (seat_after after given v.holder)
  pub learnt : IfSome v.journal (λ (j : Journal). IfSome v.holder (IsSeatOf j))
  pub outside : IfSome v.journal (λ (j : Journal). (t : ℕ) → IsOutside j.handed t
      → own_entries t j.entries ≡ [])

abbrev pub Plays : Story → List (FileNo × List ℕ) → Step (Unit {0}) → Me (Unit {0}) CardView → ℕ
    → Me (Unit {0}) CardView → Type 0
Plays after given st m n w = Followed after given m.0 w.0
