-- Which lock is to be taken before which: the orders between types, as orders between locks of both
-- kinds.
use Rattle.std.specs.Prelude.{ℕ, ◌≡◌, true, List}
use Rattle.wit_model.specs.declared.calls.Entry.{Entry}
use Rattle.wit_model.specs.Rules.Numbers.{IsGiven}
use Rattle.wit_model.specs.Rules.Locks.{locks_of, is_spin_lock, lock_at}
use Rattle.wit_model.specs.Rules.Orders.{Before}
use Rattle.wit_model.specs.Rules.State.{Start, typed_locks, orders_of}

-- the type of a lock
abbrev pub type_of_lock : Start → List Entry → ℕ → ℕ
type_of_lock start h l = (lock_at (typed_locks start h) l).type_no.0

-- of two locks the first is to be taken before the second: no sleep lock is taken under a spin
-- lock, and where they are of one kind, the first one's type is before the second one's
pub record IsAhead (start : Start) (h : List Entry) (a b : ℕ) : Type 0 where
  pub first : IsGiven (locks_of h) a
  pub second : IsGiven (locks_of h) b
  pub kinds : is_spin_lock (locks_of h) a ≡ true → is_spin_lock (locks_of h) b ≡ true
  pub types : is_spin_lock (locks_of h) a ≡ is_spin_lock (locks_of h) b
      → Before (orders_of start h) (type_of_lock start h a) (type_of_lock start h b)
