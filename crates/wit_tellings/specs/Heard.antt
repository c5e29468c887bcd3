-- What was told of single locks and of threads: all that was told of two locks is put together.
use Rattle.std.specs.Prelude.{ℕ, ◌==◌, Bool, true, false, not, ◌&&◌, ◌||◌, List, [], ◌∷◌, ◌++◌, Option}
use Rattle.std.specs.Prelude.{Some, None, is_some, find, max, nat_eq, if◌then◌else◌}
use Rattle.std.specs.Bool.{beq}
use Rattle.std.specs.Option.{option_or}
use Rattle.std.specs.Map.{lookup}
use Rattle.indexmap.specs.IndexMap.{insert_entry}
use Rattle.wit_model.specs.declared.locks.Mode.TheVariants.{Shared, Exclusive}
use Rattle.wit_model.specs.Rules.Verdict.{is_exclusive}
use Rattle.wit_alarms.specs.declared.facts.Join.{Join}
use Rattle.wit_recorded.specs.declared.lines.How.{How}
use Rattle.wit_recorded.specs.declared.lines.How.TheVariants.{ForATime, Repeatedly, AsAWaitEnds}
use Rattle.wit_recorded.specs.declared.lines.Pair.{Pair}
use Rattle.wit_recorded.specs.declared.lines.PairLock.{PairLock}
use Rattle.wit_tellings.specs.declared.asking.Asking.{Asking}
use Rattle.wit_tellings.specs.declared.asking.Deed.{Deed}
use Rattle.wit_tellings.specs.declared.tellings.Making.{Making}
use Rattle.wit_tellings.specs.declared.tellings.Tellings.{Tellings}

-- ---- what is parted

abbrev pub is_for_a_time : How → Bool
is_for_a_time ForATime = true
is_for_a_time _ = false

abbrev pub is_repeated : How → Bool
is_repeated Repeatedly = true
is_repeated _ = false

abbrev pub ends_a_wait : How → Bool
ends_a_wait AsAWaitEnds = true
ends_a_wait _ = false

-- the two locks with their modes, whether the held one was acquired under the other, and how that
-- was asked for
abbrev pub Key : Type 0
Key = ((ℕ × Bool) × (ℕ × Bool)) × ((Bool × Bool) × (Bool × Bool))

abbrev pub lock_key : PairLock → ℕ × Bool
lock_key lock = (lock.serial, is_exclusive lock.mode)

abbrev pub key_of : Pair → Key
key_of p = (
  (lock_key p.held, lock_key p.asked),
  (
    (p.under, is_for_a_time p.how),
    (is_repeated p.how, ends_a_wait p.how),
  ),
)

abbrev pub same_lock : ℕ × Bool → ℕ × Bool → Bool
same_lock a b = nat_eq a.0 b.0 && beq a.1 b.1

abbrev pub same_flags : Bool × Bool → Bool × Bool → Bool
same_flags a b = beq a.0 b.0 && beq a.1 b.1

abbrev pub same_key : Key → Key → Bool
same_key a b =
    (same_lock a.0.0 b.0.0 && same_lock a.0.1 b.0.1)
    && (same_flags a.1.0 b.1.0 && same_flags a.1.1 b.1.1)

-- ---- two locks

-- the first two threads that did so are known, each with its first and last time

abbrev pub is_by : ℕ → Option Deed → Bool
is_by thread None = false
is_by thread (Some d) = d.thread == thread

abbrev pub later : ℕ → Option Deed → Option Deed
later now None = None
later now (Some d) = Some (record d { last = max d.last now })

abbrev pub deed_of : Pair → Deed
deed_of p = record { thread = p.thread; first = p.when; last = p.when; place = p.place }

-- where nobody is known yet, this thread is, if it is none of the further ones
abbrev pub or_this : Option Deed → Deed → Bool → Option Deed
or_this None d further = if further then None else Some d
or_this (Some known) d further = Some known

abbrev pub with_deed : Asking → Deed → Bool → Asking
with_deed a d further =
    if is_by d.thread a.one then record a { one = later d.last a.one }
    else if is_by d.thread a.other then record a { other = later d.last a.other }
    else if is_some a.one then record a { other = or_this a.other d further }
    else record a { one = or_this a.one d further }

-- a third thread did so, too
abbrev pub with_further : Asking → ℕ → Bool → Asking
with_further a thread further =
    if further then record a { further = option_or a.further (Some thread) } else a

abbrev pub with_thread : Asking → Deed → Bool → Asking
with_thread a d further = with_further (with_deed a d further) d.thread further

-- its number in the recording is the last one that it had
abbrev pub last_known : PairLock → PairLock → PairLock
last_known old new = if new.number == 0 then old else new

-- what is in both, as shared where it is in one of them
abbrev pub met : PairLock → Option PairLock → List PairLock
met lock None = []
met lock (Some same) =
    record same { mode = if is_exclusive lock.mode && is_exclusive same.mode then Exclusive else Shared }
    ∷ []

abbrev pub common : List PairLock → List PairLock → List PairLock
common [] told = []
common (lock ∷ locks) told =
    met lock (find (λ (x : PairLock). x.serial == lock.serial) told) ++ common locks told

-- at first
abbrev pub begun : Pair → Asking
begun p =
    with_thread (record {
      held = p.held;
      under = p.under;
      asked = p.asked;
      how = p.how;
      besides = p.besides;
      one = None;
      other = None;
      further = None;
    }) (deed_of p) p.further

-- and again
abbrev pub again : Asking → Pair → Asking
again a p =
    with_thread (record a {
      held = last_known a.held p.held;
      asked = last_known a.asked p.asked;
      besides = common a.besides p.besides;
    }) (deed_of p) p.further

abbrev pub asking_after : Option Asking → Pair → Asking
asking_after None p = begun p
asking_after (Some a) p = again a p

-- ---- threads

-- a second making that differs is of another thread with the same number
abbrev pub making_after : Option Making → ℕ → ℕ → Making
making_after None maker at = record { maker = maker; made_at = at; is_reused = false }
making_after (Some m) maker at =
    record m { is_reused = m.is_reused || not ((m.maker == maker) && (m.made_at == at)) }

-- ---- all

-- what is known of each two locks; how each thread was made; which were joined; whether there may be
-- two locks that aren't told of; and whether calls weren't recorded
pub record Heard : Type 0 where
  pub asked : List (Key × Asking)
  pub lives : List (ℕ × Making)
  pub joins : List Join
  pub many : Bool
  pub lost : Bool

abbrev pub heard : Tellings → Heard
heard t = record {
  asked = t.asked.entries;
  lives = t.lives.entries;
  joins = t.joins.items;
  many = t.many;
  lost = t.lost;
}

abbrev pub nothing_heard : Heard
nothing_heard = record { asked = []; lives = []; joins = []; many = false; lost = false }

abbrev pub with_asking : Heard → Key → Asking → Heard
with_asking h key a = record h { asked = insert_entry same_key h.asked key a }

abbrev pub with_pair : Heard → Pair → Heard
with_pair h p =
    with_asking h (key_of p) (asking_after (lookup (same_key (key_of p)) h.asked) p)

abbrev pub with_life : Heard → ℕ → ℕ → ℕ → Heard
with_life h thread maker at =
    record h {
      lives =
          insert_entry nat_eq h.lives thread
          (making_after (lookup (nat_eq thread) h.lives) maker at);
    }

abbrev pub with_join : Heard → ℕ → ℕ → ℕ → Heard
with_join h thread by at =
    record h {
      joins = h.joins ++ record { thread = record { 0 = thread }; by = record { 0 = by }; at = at } ∷ [];
    }

abbrev pub with_many : Heard → Heard
with_many h = record h { many = true }

abbrev pub with_lost : Heard → Bool → Heard
with_lost h lost = record h { lost = h.lost || lost }

-- there may be more that threads did than was told
abbrev pub lacks : Heard → Bool
lacks h = h.many || h.lost
