-- What is gathered, and what becomes of it by what a line tells.
use Rattle.std.specs.Prelude.{ℕ, Bool, true, false, ◌&&◌, ◌||◌, not, List, [], ◌∷◌, ◌++◌, Option, Some, None}
use Rattle.std.specs.Prelude.{◌+◌, filter, is_some, nat_eq, slice_get, nat_lt, length, remove, if◌then◌else◌}
use Rattle.std.specs.List.{list_any}
use Rattle.std.specs.Map.{lookup}
use Rattle.indexmap.specs.IndexMap.{insert_entry}
use Rattle.indexmap.specs.IndexSet.{insert_key}
use Rattle.wit_traced.specs.declared.contexts.Context.{Context}
use Rattle.wit_traced.specs.declared.contexts.Context.TheVariants.{Task, Idle, Softirq, Hardirq}
use Rattle.wit_traced.specs.declared.contexts.Masked.{Masked}
use Rattle.wit_traced.specs.declared.contexts.Masked.TheVariants.{Nothing, Softirqs, All}
use Rattle.wit_traced.specs.declared.contexts.Preemption.{Preemption}
use Rattle.wit_traced.specs.declared.contexts.Preemption.TheVariants.{On, Off, Untold}
use Rattle.wit_traced.specs.declared.events.Call.{Call}
use Rattle.wit_traced.specs.declared.events.Deed.{Deed}
use Rattle.wit_traced.specs.declared.events.Deed.TheVariants as deed
use Rattle.wit_traced.specs.declared.events.Kind.{Kind}
use Rattle.wit_traced.specs.declared.events.Kind.TheVariants.{Spins, SpinsForReaders, Sleeps, Map}
use Rattle.wit_traced.specs.declared.events.MutexDeed.{MutexDeed}
use Rattle.wit_traced.specs.declared.events.MutexDeed.TheVariants as mutex
use Rattle.wit_traced.specs.declared.events.Reading.{Reading}
use Rattle.wit_traced.specs.declared.events.Reading.TheVariants.{Writes, Reads, Again}
use Rattle.wit_traced.specs.Acquiring.{Acquiring}
use Rattle.wit_traced.specs.Calls.{same_call}
use Rattle.wit_traced.specs.Doings.{Doing}
use Rattle.wit_traced.specs.Doings as does
use Rattle.wit_traced.specs.Tellings.{Telling}
use Rattle.wit_traced.specs.Tellings as tells
use Rattle.wit_gathered.specs.declared.gathering.TheConstants.{MOST_NOTED, MOST_PENDING}
use Rattle.wit_gathered.specs.declared.gathering.Gathering.{Gathering}
use Rattle.wit_gathered.specs.declared.gathering.Pending.{Pending}
use Rattle.wit_gathered.specs.declared.gathering.Settings.{Settings}
use Rattle.wit_gathered.specs.declared.gathering.Taken.{Taken}
use Rattle.wit_gathered.specs.declared.holds.Hold.{Hold}
use Rattle.wit_gathered.specs.declared.requests.Step.{Step}
use Rattle.wit_gathered.specs.declared.types.Type.{«Type»}
use Rattle.wit_gathered.specs.declared.types.Type.TheVariants as kind
use Rattle.wit_gathered.specs.Holds.{has_own, place_released, released, same_context, seen_held, with_newest}
use Rattle.wit_gathered.specs.Names.{number_in, with_name, written}
use Rattle.wit_gathered.specs.Requests.{Requested, after_asking, after_twice, nothing_requested, requested}
use Rattle.wit_gathered.specs.Requests.{steps_under}
use Rattle.wit_gathered.specs.Types.{Known, is_spinning, known, nothing_known, of_class, of_lock, of_mutex}
use Rattle.wit_gathered.specs.Types.{does_sleep, with_held}

-- ---- what is gathered: what is held, and the functions that haven't returned; what is known of types, and the
-- places; what is kept of requests; the types of locks that were acquired, and the locks that lockdep passes over

pub record Gathered : Type 0 where
  pub settings : Settings
  pub held : List Hold
  pub pending : List Pending
  pub known : Known
  pub places : List (List ℕ)
  pub requests : Requested
  pub acquired : List (ℕ × ℕ)
  pub passed_over : List ℕ
  pub counts_preemption : Bool
  pub hard : Bool
  pub soft : Bool

abbrev pub gathered : Gathering → Gathered
gathered g = record {
  settings = g.settings;
  held = g.held.items;
  pending = g.pending.items;
  known = known g.types;
  places = written g.places.keys;
  requests = requested g.requests;
  acquired = g.acquired.entries;
  passed_over = g.passed_over.keys;
  counts_preemption = g.counts_preemption;
  hard = g.hard;
  soft = g.soft;
}

abbrev pub nothing_gathered : Settings → Gathered
nothing_gathered settings = record {
  settings = settings;
  held = [];
  pending = [];
  known = nothing_known;
  places = [];
  requests = nothing_requested;
  acquired = [];
  passed_over = [];
  counts_preemption = false;
  hard = false;
  soft = false;
}

-- ---- requests

abbrev pub asking_for : Gathered → Context → Step → Bool → Gathered
asking_for g context asked nested =
    record g {
      requests =
          after_asking g.requests (steps_under g.settings.interrupts g.held context asked nested)
          asked;
    }

abbrev pub masks_all : Masked → Bool
masks_all All = true
masks_all Softirqs = false
masks_all Nothing = false

abbrev pub masks_nothing : Masked → Bool
masks_nothing Nothing = true
masks_nothing Softirqs = false
masks_nothing All = false

abbrev pub is_hard : Context → Bool
is_hard (Hardirq processor) = true
is_hard (Softirq processor) = false
is_hard (Task task) = false
is_hard (Idle processor) = false

abbrev pub is_soft : Context → Bool
is_soft (Softirq processor) = true
is_soft (Hardirq processor) = false
is_soft (Task task) = false
is_soft (Idle processor) = false

abbrev pub is_interrupt : Context → Bool
is_interrupt context = is_hard context || is_soft context

-- a hard interrupt may come in all but another, where not all are masked
abbrev pub may_be_hard : Context → Masked → Bool
may_be_hard context masked = not (is_hard context || masks_all masked)

-- a soft one in a task, where none is
abbrev pub may_be_soft : Context → Masked → Bool
may_be_soft context masked = not (is_interrupt context) && masks_nothing masked

abbrev pub asking_interrupt : «Type» → Gathered → Context → ℕ → Gathered
asking_interrupt of g context place =
    asking_for g context (record { of = of; place = place; tried = false }) false

abbrev pub asking_hard : Gathered → Context → Masked → ℕ → Gathered
asking_hard g context masked place =
    if may_be_hard context masked then asking_interrupt kind.Hardirq g context place else g

abbrev pub asking_soft : Gathered → Context → Masked → ℕ → Gathered
asking_soft g context masked place =
    if may_be_soft context masked then asking_interrupt kind.Softirq g context place else g

-- the interrupts that may come meanwhile are asked for, where these are told
abbrev pub coming : Gathered → Context → Masked → ℕ → Gathered
coming g context masked place =
    if g.settings.interrupts
    then asking_soft (asking_hard g context masked place) context masked place
    else g

-- ---- an acquisition

abbrev pub reads_again : Reading → Bool
reads_again Writes = false
reads_again Reads = false
reads_again Again = true

abbrev pub step_of : Taken → Bool → Step
step_of t readers = record {
  of = if readers then kind.ReadersOf t.number else kind.Of t.number;
  place = t.place;
  tried = t.tried;
}

-- the recursive readers of a lock may be apart
abbrev pub parts : Settings → Taken → Bool
parts s t = s.readers && t.parted

-- a recursive reader holds what is theirs
abbrev pub hold_of : Settings → Taken → Hold
hold_of s t = record {
  context = t.context;
  lock = t.lock;
  reading = t.reading;
  step = step_of t (parts s t && reads_again t.reading);
}

-- who tries doesn't wait, nor does who reads again what it reads
abbrev pub does_wait : List Hold → Taken → Bool
does_wait held t =
    not t.tried && not (reads_again t.reading && has_own held t.context t.lock)

abbrev pub asking_readers : Gathered → Taken → Bool → Gathered
asking_readers g t apart =
    if apart then asking_for g t.context (step_of t true) t.nested else g

-- who isn't a recursive reader waits for these, too
abbrev pub waiting : Gathered → Taken → Bool → Gathered
waiting g t apart =
    asking_for (asking_readers g t apart) t.context (step_of t false) t.nested

abbrev pub asking_first : Gathered → Taken → Gathered
asking_first g t =
    if does_wait g.held t
    then waiting g t (parts g.settings t && not (reads_again t.reading))
    else g

abbrev pub noting_held : Gathered → Context → Step → Gathered
noting_held g context step =
    record g {
      known = with_held g.known step.of;
      hard = g.hard || is_hard context;
      soft = g.soft || is_soft context;
    }

abbrev pub holding : Gathered → Hold → Gathered
holding g h = record g { held = with_newest g.held h }

-- it is asked for, and held then, and interrupts may come
unfoldable pub acquiring : Gathered → Taken → Gathered
acquiring g t =
    let h = hold_of g.settings t in
    coming (holding (noting_held (asking_first g t) t.context h.step) h) t.context t.masked t.place

-- ---- what is known of its type

abbrev pub with_place : Gathered → List ℕ → Gathered
with_place g place = record g { places = with_name g.places place }

abbrev pub masked_more : Masked → Masked → Masked
masked_more All more = All
masked_more Softirqs All = All
masked_more Softirqs Softirqs = Softirqs
masked_more Softirqs Nothing = Softirqs
masked_more Nothing more = more

abbrev pub tries : Deed → Bool
tries deed.Tries = true
tries deed.Acquires = false
tries deed.MayEnd = false
tries deed.Releases = false

abbrev pub parts_readers : Kind → Bool
parts_readers SpinsForReaders = true
parts_readers Spins = false
parts_readers Sleeps = false
parts_readers Map = false

abbrev pub taken_lock : Context → Masked → Call → ℕ → ℕ → ℕ → Taken
taken_lock context masked call lock number place = record {
  context = context;
  masked = masked_more masked call.masks;
  lock = lock;
  number = number;
  place = place;
  reading = call.reading;
  tried = tries call.deed;
  nested = false;
  parted = parts_readers call.kind;
}

-- a probed function acquires a lock
abbrev pub acquiring_lock : Gathered → Context → Masked → Call → ℕ → List ℕ → Gathered
acquiring_lock g context masked call lock place =
    let r = of_lock g.known lock call place in
    acquiring (with_place (record g { held = seen_held g.held context lock; known = r.0 }) place)
    (taken_lock context masked call lock r.1 (number_in g.places place))

-- of so many locks at most something is noted
abbrev pub noting_acquired : Gathered → ℕ → ℕ → Gathered
noting_acquired g lock number =
    record g {
      acquired =
          insert_entry nat_eq (if nat_lt (length g.acquired) MOST_NOTED then g.acquired else []) lock
          number;
    }

abbrev pub taken_class : Context → Masked → Acquiring → ℕ → ℕ → Taken
taken_class context masked a number place = record {
  context = context;
  masked = masked;
  lock = a.lock;
  number = number;
  place = place;
  reading = a.reading;
  tried = a.tried;
  nested = a.nested;
  parted = not (does_sleep a.kind);
}

-- nothing may sleep there, as far as a line tells
abbrev pub is_early : Context → Masked → Bool
is_early context masked = is_interrupt context || masks_all masked

-- lockdep is told of an acquisition
abbrev pub acquiring_class : Gathered → Context → Masked → Acquiring → Gathered
acquiring_class g context masked a =
    let r = of_class g.known a (is_early context masked) in
    acquiring (noting_acquired (with_place (record g { known = r.0 }) a.place) a.lock r.1)
    (taken_class context masked a r.1 (number_in g.places a.place))

abbrev pub releases_mutex : MutexDeed → Bool
releases_mutex mutex.Releases = true
releases_mutex mutex.Asks = false
releases_mutex mutex.Gets = false
releases_mutex mutex.Tries = false

abbrev pub taken_mutex : Context → Bool → ℕ → ℕ → ℕ → Taken
taken_mutex context tried lock number place = record {
  context = context;
  masked = All;
  lock = lock;
  number = number;
  place = place;
  reading = Writes;
  tried = tried;
  nested = false;
  parted = false;
}

abbrev pub getting_mutex : Gathered → Context → Bool → ℕ → ℕ → ℕ → Gathered
getting_mutex g context tried lock number place =
    acquiring (noting_acquired g lock number) (taken_mutex context tried lock number place)

-- a program does so with a mutex
abbrev pub doing_mutex : Gathered → Context → MutexDeed → ℕ → ℕ → ℕ → Gathered
doing_mutex g context mutex.Asks lock number place =
    asking_for g context (record { of = kind.Of number; place = place; tried = false }) false
doing_mutex g context mutex.Gets lock number place = getting_mutex g context false lock number place
doing_mutex g context mutex.Tries lock number place = getting_mutex g context true lock number place
doing_mutex g context mutex.Releases lock number place = g

abbrev pub acquiring_mutex : Gathered → Context → MutexDeed → ℕ → List ℕ → Gathered
acquiring_mutex g context of lock place =
    let r = of_mutex g.known lock in
    doing_mutex (with_place (record g { known = r.0 }) place) context of lock r.1
    (number_in g.places place)

-- ---- a release

-- nobody holds the lock: that is kept where it was acquired before
abbrev pub unheld : Gathered → Bool → ℕ → Option ℕ → Gathered
unheld g exact place (Some number) =
    if exact
    then record g {
      requests =
          after_twice g.requests (record { of = kind.Of number; place = place; tried = false });
    }
    else g
unheld g exact place None = g

abbrev pub has_lock : List ℕ → ℕ → Bool
has_lock locks lock = list_any (nat_eq lock) locks

abbrev pub letting_go : Gathered → Context → ℕ → Bool → ℕ → Gathered
letting_go g context lock exact place =
    let later = record g { held = released g.held context lock } in
    if is_some (place_released g.held context lock) || has_lock g.passed_over lock then later
    else unheld later exact place (lookup (nat_eq lock) g.acquired)

abbrev pub releasing : Gathered → Context → Masked → ℕ → List ℕ → Bool → Gathered
releasing g context masked lock place exact =
    let number = number_in g.places place in
    letting_go (coming (with_place g place) context masked number) context lock exact number

-- ---- a probed function

-- the last place, counted from n, of what passes a test; where nothing does, what was found before
abbrev pub last_place : (Pending → Bool) → ℕ → Option ℕ → List Pending → Option ℕ
last_place test n found [] = found
last_place test n found (p ∷ pending) =
    last_place test (n + 1) (if test p then Some n else found) pending

abbrev pub without_at : List Pending → Option ℕ → List Pending
without_at pending None = pending
without_at pending (Some n) = remove pending n

abbrev pub pending_at : List Pending → Option ℕ → Option Pending
pending_at pending None = None
pending_at pending (Some n) = slice_get pending n

abbrev pub same_pending : Context → Call → Pending → Bool
same_pending context call p = same_context p.context context && same_call p.call call

abbrev pub pending_with : List Pending → Pending → List Pending
pending_with pending p =
    (if nat_lt (length pending) MOST_PENDING then pending else remove pending 0) ++ p ∷ []

abbrev pub entering : Gathered → Context → Masked → Call → ℕ → List ℕ → Deed → Gathered
entering g context masked call lock place deed.Releases =
    releasing g context masked lock place false
entering g context masked call lock place deed.Acquires =
    acquiring_lock g context masked call lock place
entering g context masked call lock place deed.MayEnd =
    record g { pending = pending_with g.pending (record { context = context; call = call; lock = lock }) }
entering g context masked call lock place deed.Tries =
    record g { pending = pending_with g.pending (record { context = context; call = call; lock = lock }) }

-- where it tries, it gives another number than 0 if it has the lock; else it gives 0
abbrev pub has_it : Bool → Bool → Bool
has_it true gives = gives
has_it false gives = not gives

abbrev pub leaving_with : Gathered → Context → Masked → Call → Bool → List ℕ → Option Pending → Gathered
leaving_with g context masked call gives place None = g
leaving_with g context masked call gives place (Some p) =
    if has_it (tries call.deed) gives then acquiring_lock g context masked call p.lock place else g

-- the newest call of the function by the context that hasn't returned
abbrev pub leaving : Gathered → Context → Masked → Call → Bool → List ℕ → Gathered
leaving g context masked call gives place =
    let found = last_place (same_pending context call) 0 None g.pending in
    leaving_with (record g { pending = without_at g.pending found }) context masked call gives place
    (pending_at g.pending found)

-- ---- a line

abbrev pub passing_over : Gathered → ℕ → Gathered
passing_over g lock =
    record g {
      passed_over =
          insert_key nat_eq
          (if nat_lt (length g.passed_over) MOST_NOTED then g.passed_over else []) lock;
    }

abbrev pub acting : Gathered → Context → Masked → Doing → Gathered
acting g context masked (does.Enters call lock place) =
    entering g context masked call lock place call.deed
acting g context masked (does.Returns call gives place) =
    leaving g context masked call gives place
acting g context masked (does.Acquires a) = acquiring_class g context masked a
acting g context masked (does.PassesOver lock) = passing_over g lock
acting g context masked (does.Releases lock place) = releasing g context masked lock place true
acting g context masked (does.Does of lock place) =
    if releases_mutex of then releasing g context masked lock place false
    else acquiring_mutex g context of lock place

abbrev pub is_probe : Doing → Bool
is_probe (does.Enters call lock place) = true
is_probe (does.Returns call gives place) = true
is_probe (does.Acquires a) = false
is_probe (does.PassesOver lock) = false
is_probe (does.Releases lock place) = false
is_probe (does.Does of lock place) = false

-- in a task in which preemption is on, no lock that spins is held, where the kernel counts how often it was
-- turned off
abbrev pub unspun : Gathered → Context → Gathered
unspun g context =
    record g {
      held =
          filter (λ (h : Hold). not (same_context h.context context
          && is_spinning g.known h.step.of)) g.held;
    }

abbrev pub noting_on : Gathered → Context → Preemption → Gathered
noting_on g context Off = record g { counts_preemption = true }
noting_on g context On = if g.counts_preemption then unspun g context else g
noting_on g context Untold = g

abbrev pub noting_preemption : Gathered → Context → Preemption → Doing → Gathered
noting_preemption g context preemption d =
    if is_probe d && not (is_interrupt context) then noting_on g context preemption else g

-- events are missing: nothing is known of what is held
abbrev pub losing : Gathered → Gathered
losing g = record g { held = []; pending = []; acquired = [] }

abbrev pub with_telling : Gathered → Telling → Gathered
with_telling g tells.Lost = losing g
with_telling g (tells.Tells context masked preemption d) =
    acting (noting_preemption g context preemption d) context masked d
with_telling g tells.Remark = g
