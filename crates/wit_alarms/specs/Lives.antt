-- Which threads can't be there at the same time when they do what they did: by who made and joined
-- whom. When something was is the number of threads that had been made and joined by then.
use Rattle.std.specs.Prelude.{ℕ, zero, suc, ◌+◌, Bool, true, false, not, ◌&&◌, ◌||◌, ◌==◌, nat_lt, nat_le}
use Rattle.std.specs.Prelude.{List, [], ◌∷◌, length, find, Option, None, Some}
use Rattle.std.specs.List.{list_any}
use Rattle.wit_alarms.specs.declared.facts.ThreadNo.{ThreadNo}
use Rattle.wit_alarms.specs.declared.facts.Fact.{Fact}
use Rattle.wit_alarms.specs.declared.facts.Life.{Life}
use Rattle.wit_alarms.specs.declared.facts.Join.{Join}
use Rattle.wit_alarms.specs.declared.facts.Lives.{Lives}

abbrev pub is_thread : ℕ → Option ThreadNo → Bool
is_thread t None = false
is_thread t (Some u) = u.0 == t

-- whether they are two threads, as far as it is known
abbrev pub are_two : Option ThreadNo → Option ThreadNo → Bool
are_two (Some t) u = not (is_thread t.0 u)
are_two None u = true

-- ---- who made whom

abbrev pub life_of : List Life → ℕ → Option Life
life_of lives t = find (λ (x : Life). x.thread.0 == t) lives

abbrev pub and_before : (ℕ → List Life) → Option Life → List Life
and_before before None = []
and_before before (Some life) = life ∷ before life.maker.0

-- how a thread was made, and how its maker was, and so on, as far as this many
abbrev pub makings : List Life → ℕ → ℕ → List Life
makings lives zero t = []
makings lives (suc n) t = and_before (makings lives n) (life_of lives t)

abbrev pub makings_of : Lives → Option ThreadNo → List Life
makings_of lives None = []
makings_of lives (Some t) = makings lives.made.items (length lives.made.items) t.0

-- whether this was by that thread, and so late
abbrev pub made_since : Option ThreadNo → ℕ → Life → Bool
made_since maker at life = is_thread life.maker.0 maker && nat_le at life.made_at

-- whether the thread was made so, or one that it descends from
abbrev pub descends_since : Lives → Option ThreadNo → Option ThreadNo → ℕ → Bool
descends_since lives t maker at = list_any (made_since maker at) (makings_of lives t)

-- ---- what keeps two of them apart

-- by this join the one thread had ended before the other did what it did: the other joined it before
-- that, or descends from a thread that was made after the join by the one that joined
abbrev pub ends_before : Lives → Fact → Fact → Join → Bool
ends_before lives f g join =
    is_thread join.thread.0 f.thread
    && ((is_thread join.by.0 g.thread && nat_lt join.at g.first)
    || descends_since lives g.thread (Some join.by) (join.at + 1))

abbrev pub is_apart_by_join : Lives → Fact → Fact → Bool
is_apart_by_join lives f g = list_any (ends_before lives f g) lives.joined.items

-- the one thread did so for the last time before it made the other, or one that the other descends
-- from
abbrev pub is_apart_by_making : Lives → Fact → Fact → Bool
is_apart_by_making lives f g = descends_since lives g.thread f.thread f.last

-- it was done before there was another thread, and never after that
abbrev pub is_at_first : Fact → Bool
is_at_first f = f.last == 0

abbrev pub is_apart : Lives → Fact → Fact → Bool
is_apart lives f g =
    is_apart_by_join lives f g || (is_apart_by_making lives f g || is_at_first f)

-- either way round
abbrev pub are_apart : Lives → Fact → Fact → Bool
are_apart lives f g = is_apart lives f g || is_apart lives g f
