-- What C is told as numbers: the last report, the orders that it goes against, and held locks.
use Rattle.std.specs.Prelude.{ℕ, List, [], ◌∷◌, map, length, Option, None, Some, Result, Ok, Err}
use Rattle.std.specs.Prelude.{unwrap_or}
use Rattle.wit_core.specs.Numbered.{lock_type, type_class}
use Rattle.wit_core.specs.Numbered as numbered
use Rattle.wit_model.specs.declared.calls.Entry.{Entry}
use Rattle.wit_model.specs.declared.calls.LockAt.{LockAt}
use Rattle.wit_model.specs.declared.calls.Reply.{Reply}
use Rattle.wit_model.specs.declared.calls.Reply.TheVariants.{Reversal, Duplicate, Exhausted}
use Rattle.wit_model.specs.declared.faults.Fault.{Fault}
use Rattle.wit_model.specs.declared.locks.Class.TheVariants.{SleepMutex}
use Rattle.wit_model.specs.declared.locks.Instance.{Instance}
use Rattle.wit_model.specs.declared.locks.Origin.{Origin}
use Rattle.wit_model.specs.declared.locks.Origin.TheVariants.{At}
use Rattle.wit_model.specs.declared.locks.Site.{Site}
use Rattle.wit_model.specs.Rules.Numbers.{with_number}
use Rattle.wit_model.specs.Rules.Orders.{origin_of}
use Rattle.wit_model.specs.Rules.State.{Story, state_of, seat_at, typed_locks, orders_of, types_of}
use Rattle.wit_model.specs.Trace.Paths.{path}
use Rattle.wit_model.specs.Trace.Views.{all_held}
use Rattle.wit_c.specs.Numbers.{class_number, mode_number, heading_number, origin_number}
use Rattle.wit_c.specs.Numbers.{site_in}
use Rattle.wit_c.specs.declared.kept_verifier.KeptVerifier.{KeptVerifier}
use Rattle.wit_c.specs.declared.structures.LockTold.{LockTold}
use Rattle.wit_c.specs.declared.structures.ReportTold.{ReportTold}
use Rattle.wit_c.specs.declared.structures.OrderTold.{OrderTold}
use Rattle.wit_c.specs.declared.structures.HeldTold.{HeldTold}

-- ---- a lock at a place

-- the number of a lock's type, 0 of a lock that there isn't
abbrev pub type_told : Story → ℕ → ℕ
type_told s l =
    (unwrap_or (lock_type (typed_locks s.start s.history) l) (record { 0 = 0 })).0

-- the number of a type's class
abbrev pub class_told : Story → ℕ → ℕ
class_told s t =
    class_number (unwrap_or (type_class (types_of s.start s.history) t) SleepMutex)

abbrev pub lock_told : Story → LockAt → LockTold
lock_told s at = record {
  lock = at.lock.0;
  type_no = type_told s at.lock.0;
  class = class_told s (type_told s at.lock.0);
  file = at.site.file.0;
  line = at.site.line;
}

-- all zeroes
abbrev pub no_lock : LockTold
no_lock = record { lock = 0; type_no = 0; class = 0; file = 0; line = 0 }

-- where there is one
abbrev pub maybe_told : Story → Option LockAt → LockTold
maybe_told s None = no_lock
maybe_told s (Some at) = lock_told s at

-- ---- the report of the answer that is kept

-- whose call the log has as its newest
abbrev pub newest_seat : List Entry → ℕ
newest_seat [] = 0
newest_seat (e ∷ h) = e.seat.0

abbrev pub no_report : ReportTold
no_report = record { heading = 0; seat = 0; held = no_lock; asked = no_lock; third = no_lock }

abbrev pub reply_told : Story → Reply → ReportTold
reply_told s (Reversal c) = record {
  heading = heading_number c.heading;
  seat = newest_seat s.history;
  held = lock_told s c.held;
  asked = lock_told s c.asked;
  third = maybe_told s c.older;
}
reply_told s (Duplicate d) =
    record no_report {
      seat = newest_seat s.history;
      held = lock_told s d.last;
      asked = lock_told s d.asked;
    }
reply_told s Exhausted = record no_report { seat = newest_seat s.history }
reply_told s _ = no_report

abbrev pub answer_told : Story → Result Reply Fault → ReportTold
answer_told s (Ok reply) = reply_told s reply
answer_told s (Err fault) = no_report

abbrev pub last_report : KeptVerifier → ReportTold
last_report kept = answer_told kept.verifier kept.last

-- ---- the established order that it goes against

-- the place from which an order comes, zeroes where it comes from none
abbrev pub origin_site : Option Origin → Site
origin_site (Some (At site)) = site
origin_site _ = site_in 0 0

abbrev pub order_told : Story → ℕ → ℕ → OrderTold
order_told s a b =
    let origin = origin_of a b (orders_of s.start s.history) in
    record {
      first = a;
      second = b;
      origin = origin_number origin;
      file = (origin_site origin).file.0;
      line = (origin_site origin).line;
    }

-- the orders between neighbours of a path
abbrev pub steps_told : Story → List ℕ → List OrderTold
steps_told s [] = []
steps_told s (a ∷ []) = []
steps_told s (a ∷ b ∷ way) = order_told s a b ∷ steps_told s (b ∷ way)

-- those that lead from one type to another, none where no path does
abbrev pub path_told : Story → ℕ → ℕ → List OrderTold
path_told s a b =
    steps_told s (unwrap_or (path (orders_of s.start s.history)
    (length (types_of s.start s.history)) a b) [])

abbrev pub answer_path : Story → Result Reply Fault → List OrderTold
answer_path s (Ok (Reversal c)) =
    path_told s (type_told s c.asked.lock.0) (type_told s c.held.lock.0)
answer_path s _ = []

-- from the type of the lock that was asked for to that of the held one
abbrev pub last_path : KeptVerifier → List OrderTold
last_path kept = answer_path kept.verifier kept.last

-- ---- held locks

abbrev pub instance_told : Story → Instance → HeldTold
instance_told s i = record {
  at = lock_told s (record { lock = i.lock; site = i.site });
  exclusive = mode_number i.mode;
  count = i.count;
}

abbrev pub held_told : ℕ → KeptVerifier → List HeldTold
held_told seat kept =
    map (instance_told kept.verifier) (all_held (seat_at (state_of kept.verifier) seat))

-- ---- names, empty under a number that was never given

abbrev pub lock_name : ℕ → KeptVerifier → List ℕ
lock_name l kept =
    let s = kept.verifier in unwrap_or (numbered.lock_name (typed_locks s.start s.history) l) []

abbrev pub type_name : ℕ → KeptVerifier → List ℕ
type_name t kept =
    let s = kept.verifier in unwrap_or (numbered.type_name (types_of s.start s.history) t) []

abbrev pub file_name : ℕ → KeptVerifier → List ℕ
file_name f kept = unwrap_or (with_number kept.verifier.files f) []
