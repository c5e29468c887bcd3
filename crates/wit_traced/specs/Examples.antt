-- Examples of lines, and what they tell.
use Rattle.std.specs.Prelude.{ℕ, ◌≡◌, false, List, [], Some, codes}
use Rattle.wit_traced.specs.declared.contexts.Context.TheVariants.{Task}
use Rattle.wit_traced.specs.declared.contexts.Masked.TheVariants.{All, Nothing}
use Rattle.wit_traced.specs.declared.contexts.Preemption.TheVariants.{On, Untold}
use Rattle.wit_traced.specs.declared.events.Deed.TheVariants as deed
use Rattle.wit_traced.specs.declared.events.Kind.TheVariants.{Sleeps}
use Rattle.wit_traced.specs.declared.events.MutexDeed.TheVariants.{Asks, Gets}
use Rattle.wit_traced.specs.declared.events.Reading.TheVariants.{Writes}
use Rattle.wit_traced.specs.Doings.{Doing, Acquires, Does, Enters, Releases}
use Rattle.wit_traced.specs.Lines.{told_of}
use Rattle.wit_traced.specs.Lttng.{mutex_told}
use Rattle.wit_traced.specs.Tellings.{Telling, Tells}

-- ---- by the tracepoints of lockdep: two tasks acquire a lock A, and under it a lock B. No interrupt
-- may come meanwhile

abbrev pub seven_gets_a : List ℕ
seven_gets_a = codes "sh-7 [000] d.... 1.5: lock_acquire: 0x10 A"

abbrev pub seven_gets_b : List ℕ
seven_gets_b = codes "sh-7 [000] d.... 1.6: lock_acquire: 0x20 B"

abbrev pub seven_frees_b : List ℕ
seven_frees_b = codes "sh-7 [000] d.... 1.7: lock_release: 0x20 B"

abbrev pub seven_frees_a : List ℕ
seven_frees_a = codes "sh-7 [000] d.... 1.8: lock_release: 0x10 A"

abbrev pub eight_gets_a : List ℕ
eight_gets_a = codes "sh-8 [001] d.... 1.9: lock_acquire: 0x10 A"

abbrev pub eight_gets_b : List ℕ
eight_gets_b = codes "sh-8 [001] d.... 2.0: lock_acquire: 0x20 B"

abbrev pub acquires : ℕ → List ℕ → Doing
acquires lock name =
    Acquires (record {
      lock = lock;
      key = [];
      subclass = codes "0";
      name = name;
      kind = Sleeps;
      reading = Writes;
      tried = false;
      nested = false;
      place = codes "lock_acquire";
    })

abbrev pub releases : ℕ → Doing
releases lock = Releases lock (codes "lock_release")

abbrev pub by_task : ℕ → Doing → Telling
by_task task doing = Tells (Task task) All On doing

-- ---- by a probe: a mutex is asked for

abbrev pub probe : List ℕ
probe = codes "sh-7 [000] ..... 1.5: k_mutex_lock: (mutex_lock+0x0/0x30) a=0x10 ip=first+0x10/0x20"

abbrev pub asked_at : Doing
asked_at =
    Enters (record { deed = deed.Acquires; kind = Sleeps; reading = Writes; masks = Nothing }) 16
    (codes "first+0x10")

-- ---- by LTTng: a thread has a mutex, and asks for another one

abbrev pub mutex_got : List ℕ
mutex_got = codes "lttng_ust_pthread:pthread_mutex_lock_acq: { vtid = 7 }, { mutex = 0x10, status = 0 }"

abbrev pub mutex_asked_for : List ℕ
mutex_asked_for = codes "lttng_ust_pthread:pthread_mutex_lock_req: { vtid = 7 }, { mutex = 0x20 }"

-- ---- so they are read

pub record LinesAreRead : Type 0 where
  pub seven_a : told_of seven_gets_a ≡ Some (by_task 7 (acquires 16 (codes "A")))
  pub seven_b : told_of seven_gets_b ≡ Some (by_task 7 (acquires 32 (codes "B")))
  pub seven_without_b : told_of seven_frees_b ≡ Some (by_task 7 (releases 32))
  pub seven_without_a : told_of seven_frees_a ≡ Some (by_task 7 (releases 16))
  pub eight_a : told_of eight_gets_a ≡ Some (by_task 8 (acquires 16 (codes "A")))
  pub eight_b : told_of eight_gets_b ≡ Some (by_task 8 (acquires 32 (codes "B")))
  pub probed : told_of probe ≡ Some (Tells (Task 7) Nothing On asked_at)
  pub got : mutex_told mutex_got ≡ Some (Tells (Task 7) All Untold (Does Gets 16 (codes "?")))
  pub asked_for :
      mutex_told mutex_asked_for ≡ Some (Tells (Task 7) All Untold (Does Asks 32 (codes "?")))
