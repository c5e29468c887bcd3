-- A verifier as its callers see it, and what ties its parts to its history.
use Rattle.std.specs.Prelude.{ℕ, ◌≡◌, ◌≤◌, Bool, true, List, None, Ok, IfSome, map, length}
use Rattle.std.specs.Option.{option_map}
use Rattle.wit_model.specs.declared.calls.Entry.{Entry}
use Rattle.wit_model.specs.Rules.Chunks.{Chunks}
use Rattle.wit_model.specs.Rules.Clean.{CleanMeansNoCircle}
use Rattle.wit_model.specs.Rules.History.{chain}
use Rattle.wit_model.specs.Rules.Numbers.{IsNumber}
use Rattle.wit_model.specs.Rules.Orders.{IsSound, cell}
use Rattle.wit_model.specs.Rules.State.{Start, Story, State, Known, state_of, orders_of, found_of}
use Rattle.wit_model.specs.Rules.State.{owed}
use Rattle.wit_model.specs.Rules.Start.{start_fault}
use Rattle.wit_model.specs.Rules.Step.{answer_of, is_logged, IsLegal}
use Rattle.wit_model.specs.Rules.Locks.{destroyed_of}
use Rattle.wit_matrix.specs.Relation.{HasSameFound}
use Rattle.wit_known.specs.Live.{live_flags}
use Rattle.wit_core.specs.declared.ready.Ready.{Ready}
use Rattle.wit_core.specs.declared.verifier.Verifier.TheInside.{Inside}
use Rattle.wit_waiting.specs.Seats.{seat_view}
use Rattle.wit_core.specs.Held.{HoldAll}
use Rattle.wit_known.specs.Known.{IsRoomFor}
use Rattle.wit_known.specs.Listed.{all_listed}
use Rattle.wit_core.specs.Plans.{planned_call, planned, entries_for}
use Rattle.wit_waiting.specs.Seats.{seat_in, locks_in, HoldFor}

abbrev pub start_in : Inside → Start
start_in v =
    record {
      sizes = v.limits;
      profile = v.profile;
      lists = all_listed v.lists.items;
      blessed = v.known.known.blessed;
    }

abbrev pub history_in : Inside → List Entry
history_in v = v.log.history

abbrev pub story_in : Inside → Story
story_in v =
    record {
      start = start_in v;
      history = history_in v;
      files = v.known.files;
      ready = option_map planned v.ready;
    }

-- what is known, with the pairs found in violation as the rules have them
abbrev pub known_in : Inside → Known
known_in v = record v.known.known { found = found_of (start_in v) (history_in v) }

abbrev pub state_in : Inside → State
state_in v = record {
  sizes = v.limits;
  profile = v.profile;
  files = length v.known.files;
  known = known_in v;
  destroyed = destroyed_of (history_in v);
  seats = map seat_view v.seats.seats;
  watch = v.watch;
  used = length v.log.history;
}

-- what is kept of a call that is prepared: its answer, which is logged, once more for the log, and
-- room for its entries and for what it teaches
pub record IsReady (v : Inside) (r : Ready) : Type 0 where
  pub answer : answer_of (story_in v) r.seat.0 (planned_call r.plan) ≡ Ok r.reply
  pub kept : r.kept ≡ r.reply
  pub logged : is_logged r.reply ≡ true
  pub log : entries_for (planned_call r.plan) ≤ v.log.spare
  pub known : IsRoomFor r.reply v.known.spare

-- the start is accepted, the log is a legal history, the parts are its state, the same pairs are
-- found in violation, the locks that weren't destroyed are live, the log owes what the rules say,
-- the limits of the log, of types and of chunks are the start's, and what is prepared is ready
pub record IsTied (v : Inside) : Type 0 where
  pub started : start_fault (start_in v) ≡ None
  pub legal : IsLegal (start_in v) v.known.files (history_in v)
  pub state : state_in v ≡ state_of (story_in v)
  pub found : HasSameFound v.known.known.found (found_of (start_in v) (history_in v))
  pub live : v.known.live ≡ live_flags (length v.known.known.locks) (destroyed_of (history_in v))
  pub owed : v.log.owed ≡ owed (state_in v)
  pub limit : v.log.limit ≡ v.limits.log
  pub types : v.known.most_types ≡ v.limits.types
  pub chunks : v.seats.chunks ≡ v.limits.chunks
  pub ready : IfSome v.ready (IsReady v)

-- what a verifier keeps between its calls: its parts are tied to its history, and so
pub record IsKept (v : Inside) : Type 0 where
  -- the relation of each two types is the history's
  pub cells : (a b : ℕ) → cell v.known.known.orders v.known.known.found a b
      ≡ cell (orders_of (start_in v) (history_in v)) (found_of (start_in v) (history_in v)) a b
  -- no type is before itself
  pub sound : IsSound v.known.known.orders
  -- each seat holds what the history has it hold, in that order
  pub chains : (t : ℕ) (spin : Bool) → IsNumber v.limits.seats t
      → locks_in spin (seat_in v.seats t) ≡ chain spin t (history_in v)
  -- lists of chunks in which the seats hold their locks have them as the history says, and each
  -- chunk once
  pub chunks : (c : Chunks) → HoldFor v.seats c → HoldAll (story_in v) c
  -- while the log is clean no seats wait for one another in a circle, by what is recorded
  pub apart : CleanMeansNoCircle (story_in v)
  pub tied : IsTied v
