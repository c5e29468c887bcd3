-- Courses: what threads do, with who makes and who joins whom. Lists of events are newest first.
use Rattle.std.specs.Prelude.{ℕ, ◌≡◌, Bool, true, false, not, ◌&&◌, ◌||◌, ◌==◌, nat_lt, List, []}
use Rattle.std.specs.Prelude.{◌∷◌, ◌++◌, filter}
use Rattle.std.specs.List.{list_any, list_all}
use Rattle.wit_model.specs.Rules.State.{Start}
use Rattle.wit_model.specs.World.Deeds.{Deed, thread_of, own}
use Rattle.wit_model.specs.World.Stages.{stage, is_over}
use Rattle.wit_model.specs.World.Steps.{IsWorld}
use Rattle.wit_alarms.specs.declared.facts.Life.{Life}
use Rattle.wit_alarms.specs.declared.facts.Join.{Join}
use Rattle.wit_alarms.specs.declared.facts.Lives.{Lives}

pub data Event : Type 0 where
  Does : (deed : Deed) → Event
  -- a thread makes another one
  Makes : (maker thread : ℕ) → Event
  -- it sees that another one has ended
  Joins : (by thread : ℕ) → Event

abbrev pub actor : Event → ℕ
actor (Does d) = thread_of d
actor (Makes t u) = t
actor (Joins t u) = t

-- the events of one thread
abbrev pub own_events : ℕ → List Event → List Event
own_events t c = filter (λ e. actor e == t) c

abbrev pub deed_in : Event → List Deed
deed_in (Does d) = d ∷ []
deed_in _ = []

-- the deeds of a course: its world
abbrev pub deeds : List Event → List Deed
deeds [] = []
deeds (e ∷ c) = deed_in e ++ deeds c

abbrev pub is_making : ℕ → ℕ → Event → Bool
is_making t u (Makes m x) = (m == t) && (x == u)
is_making t u _ = false

-- whether t has made u
abbrev pub has_made : ℕ → ℕ → List Event → Bool
has_made t u c = list_any (is_making t u) c

abbrev pub makes_thread : ℕ → Event → Bool
makes_thread u (Makes m x) = x == u
makes_thread u _ = false

-- whether the thread has been made
abbrev pub is_made : ℕ → List Event → Bool
is_made u c = list_any (makes_thread u) c

abbrev pub makes_any : Event → Bool
makes_any (Makes m x) = true
makes_any _ = false

abbrev pub is_joining : ℕ → ℕ → Event → Bool
is_joining t u (Joins b x) = (b == t) && (x == u)
is_joining t u _ = false

-- whether t has joined u
abbrev pub has_joined : ℕ → ℕ → List Event → Bool
has_joined t u c = list_any (is_joining t u) c

abbrev pub joins_thread : ℕ → Event → Bool
joins_thread u (Joins b x) = x == u
joins_thread u _ = false

-- whether anybody has joined the thread
abbrev pub is_joined : ℕ → List Event → Bool
is_joined u c = list_any (joins_thread u) c

-- whether the thread is at the end of a sequence of deeds, and so doesn't wait
abbrev pub is_idle : ℕ → List Event → Bool
is_idle t c = is_over (stage t (own t (deeds c)))

-- who makes or joins a thread doesn't wait, and who is joined doesn't either
abbrev pub is_free_to : Event → List Event → Bool
is_free_to (Does d) c = true
is_free_to (Makes t u) c = is_idle t c
is_free_to (Joins t u) c = is_idle t c && is_idle u c

-- an event may come next where the first thread is this one: its thread was made before, or is the
-- first, and wasn't joined
abbrev pub may_come : ℕ → Event → List Event → Bool
may_come first e c =
    ((actor e == first) || is_made (actor e) c)
    && (not (is_joined (actor e) c) && is_free_to e c)

abbrev pub all_may_come : ℕ → List Event → Bool
all_may_come first [] = true
all_may_come first (e ∷ c) = may_come first e c && all_may_come first c

-- what is known of lives is so: who made the thread had done it before the thread does anything
abbrev pub was_made_so : Event → List Event → Life → Bool
was_made_so e c life = not (life.thread.0 == actor e) || has_made life.maker.0 life.thread.0 c

-- and had joined by then whom it joined before
abbrev pub had_joined : Event → List Event → Life → Join → Bool
had_joined (Makes t u) c life join =
    not ((life.maker.0 == t) && (life.thread.0 == u))
    || (not ((join.by.0 == t) && nat_lt join.at life.made_at) || has_joined t join.thread.0 c)
had_joined _ c life join = true

abbrev pub is_as_known : Lives → Event → List Event → Bool
is_as_known lives e c =
    list_all (was_made_so e c) lives.made.items
    && list_all (λ life. list_all (had_joined e c life) lives.joined.items) lives.made.items

abbrev pub all_as_known : Lives → List Event → Bool
all_as_known lives [] = true
all_as_known lives (e ∷ c) = is_as_known lives e c && all_as_known lives c

-- a course over a start, where these files are named and this is the first thread: its deeds make a
-- world, and threads make and join one another, as far as it is known so
pub record IsCourse (start : Start) (files : List (List ℕ)) (first : ℕ) (lives : Lives)
    (c : List Event) : Type 0 where
  pub world : IsWorld start files (deeds c)
  pub come : all_may_come first c ≡ true
  pub known : all_as_known lives c ≡ true
