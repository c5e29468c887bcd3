-- The facts that are told of the locks of some types, and what is known of threads.
use Rattle.std.specs.Prelude.{ℕ, ◌==◌, ◌^◌, ◌-◌, Bool, false, ◌&&◌, ◌||◌, nat_le, nat_eq, List, []}
use Rattle.std.specs.Prelude.{◌∷◌, ◌++◌, flat_map, map, slice_get, Option, Some, None, if◌then◌else◌}
use Rattle.std.specs.Map.{lookup}
use Rattle.std.specs.List.{list_any}
use Rattle.wit_alarms.specs.declared.facts.Had.{Had}
use Rattle.wit_alarms.specs.declared.facts.Join.{Join}
use Rattle.wit_alarms.specs.declared.facts.Life.{Life}
use Rattle.wit_alarms.specs.declared.facts.Manner.{Manner}
use Rattle.wit_alarms.specs.declared.facts.Manner.TheVariants.{Plain, Timed, EndsWait}
use Rattle.wit_alarms.specs.declared.facts.ThreadNo.{ThreadNo}
use Rattle.wit_grades.specs.Reading.{Said}
use Rattle.wit_recorded.specs.declared.lines.How.{How}
use Rattle.wit_recorded.specs.declared.lines.How.TheVariants.{ForATime, AsAWaitEnds}
use Rattle.wit_recorded.specs.declared.lines.PairLock.{PairLock}
use Rattle.wit_tellings.specs.declared.asking.Asking.{Asking}
use Rattle.wit_tellings.specs.declared.asking.Deed.{Deed}
use Rattle.wit_tellings.specs.declared.tellers.Teller.{Teller}
use Rattle.wit_tellings.specs.declared.tellers.TheConstants.{TELLINGS}
use Rattle.wit_tellings.specs.declared.tellings.Making.{Making}
use Rattle.wit_tellings.specs.Heard.{Heard, Key}

-- what is made of the element at a place, if there is one
abbrev pub made_of : {X Y : Type 0} → (X → List Y) → Option X → List Y
made_of f None = []
made_of f (Some x) = f x

abbrev pub at_place : {X Y : Type 0} → (X → List Y) → List X → ℕ → List Y
at_place f xs place = made_of f (slice_get xs place)

-- ---- threads

abbrev pub is_other : Option Making → Bool
is_other None = false
is_other (Some m) = m.is_reused

-- the kernel gave the number to a second thread, too
abbrev pub is_reused : Heard → ℕ → Bool
is_reused h thread = is_other (lookup (nat_eq thread) h.lives)

-- the thread, where it is known which one it is
abbrev pub thread_known : Heard → ℕ → Option ThreadNo
thread_known h thread =
    if (thread == 0) || is_reused h thread then None else Some (record { 0 = thread })

-- how it was made, where both threads are known
abbrev pub life_of : Heard → ℕ × Making → List Life
life_of h x =
    if (x.1.maker == 0) || (is_reused h x.0 || is_reused h x.1.maker) then []
    else record { thread = record { 0 = x.0 }; maker = record { 0 = x.1.maker }; made_at = x.1.made_at }
    ∷ []

abbrev pub makings : Heard → List Life
makings h = flat_map (life_of h) h.lives

abbrev pub join_known : Heard → Join → List Join
join_known h join =
    if is_reused h join.thread.0 || is_reused h join.by.0 then [] else join ∷ []

abbrev pub joinings : Heard → List Join
joinings h = flat_map (join_known h) h.joins

-- ---- who did so

-- of two locks: a thread that is known, with its times; or any further one, of which one is told
abbrev pub teller_of : Asking → Option Deed → ℕ → ℕ → Teller
teller_of a deed thread place = record {
  held = a.held;
  under = a.under;
  asked = a.asked;
  how = a.how;
  besides = a.besides;
  deed = deed;
  thread = thread;
  place = place;
}

abbrev pub by_deed : Asking → Option Deed → List Teller
by_deed a None = []
by_deed a (Some d) = teller_of a (Some d) d.thread d.place ∷ []

-- where it was done first
abbrev pub place_of : Option Deed → ℕ
place_of None = 0
place_of (Some d) = d.place

abbrev pub by_further : Asking → Option ℕ → List Teller
by_further a None = []
by_further a (Some thread) = teller_of a None thread (place_of a.one) ∷ []

abbrev pub tellers_of : Asking → List Teller
tellers_of a = by_deed a a.one ++ (by_deed a a.other ++ by_further a a.further)

abbrev pub is_among : List ℕ → ℕ → Bool
is_among numbers n = list_any (λ m. m == n) numbers

-- both locks are of these types
abbrev pub is_between : List ℕ → Asking → Bool
is_between types a = is_among types a.held.of && is_among types a.asked.of

abbrev pub tellers_between : List ℕ → Asking → List Teller
tellers_between types a = if is_between types a then tellers_of a else []

abbrev pub tellers_at : List ℕ → Key × Asking → List Teller
tellers_at types x = tellers_between types x.1

-- all that did so with locks of these types
abbrev pub tellers : Heard → List ℕ → List Teller
tellers h types = flat_map (tellers_at types) h.asked

-- ---- facts

abbrev pub had_of : PairLock → Had
had_of lock = record { lock = record { 0 = lock.serial }; mode = lock.mode }

-- again and again is until it is had
abbrev pub manner_of : How → Manner
manner_of ForATime = Timed
manner_of AsAWaitEnds = EndsWait
manner_of _ = Plain

abbrev pub not_known : ℕ
not_known = 2 ^ 32 - 1

-- a thread tells of the same again once it has made another one, so often at most
abbrev pub last_of : Heard → Deed → ℕ
last_of h d = if h.lost || nat_le TELLINGS d.last then not_known else d.last

abbrev pub who : Heard → Teller → Option Deed → Option ThreadNo
who h t None = None
who h t (Some d) = thread_known h t.thread

abbrev pub since : Option Deed → ℕ
since None = 0
since (Some d) = d.first

abbrev pub until_when : Heard → Option Deed → ℕ
until_when h None = not_known
until_when h (Some d) = last_of h d

abbrev pub fact_of : Heard → Teller → Said
fact_of h t = record {
  held = had_of t.held;
  under = t.under;
  asked = had_of t.asked;
  manner = manner_of t.how;
  besides = map had_of t.besides;
  thread = who h t t.deed;
  first = since t.deed;
  last = until_when h t.deed;
}

abbrev pub facts : Heard → List Teller → List Said
facts h ts = map (fact_of h) ts
