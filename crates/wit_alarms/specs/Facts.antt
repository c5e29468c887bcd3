-- Facts that can be held at once: that each thread holds what its fact says, and waits for the next
-- one. A circle of facts is the list of their places.
use Rattle.std.specs.Prelude.{ℕ, ◌≡◌, Bool, true, false, not, ◌&&◌, ◌||◌, ◌==◌, List, [], ◌∷◌}
use Rattle.std.specs.Prelude.{Option, None, Some, slice_get}
use Rattle.std.specs.List.{list_any, list_all}
use Rattle.wit_model.specs.Rules.Verdict.{is_exclusive}
use Rattle.wit_alarms.specs.declared.facts.Had.{Had}
use Rattle.wit_alarms.specs.declared.facts.Manner.{Manner}
use Rattle.wit_alarms.specs.declared.facts.Manner.TheVariants.{Timed, EndsWait}
use Rattle.wit_alarms.specs.declared.facts.Fact.{Fact}
use Rattle.wit_alarms.specs.declared.facts.Lives.{Lives}
use Rattle.wit_alarms.specs.declared.facts.Reasons.{Reasons}
use Rattle.wit_alarms.specs.Lives.{are_two, are_apart}

-- ---- two facts of two threads

-- both are the same lock, and not both shared: no two threads have a lock so
abbrev pub excludes : Had → Had → Bool
excludes a b = (a.lock.0 == b.lock.0) && (is_exclusive a.mode || is_exclusive b.mode)

-- all that the thread held
abbrev pub locks_held : Fact → List Had
locks_held f = f.held ∷ f.besides.items

-- a gate: both threads held it, not both as readers
abbrev pub has_gate : Fact → Fact → Bool
has_gate f g = list_any (λ a. list_any (excludes a) (locks_held g)) (locks_held f)

-- whether both threads can hold what they held at one time, for all that these reasons say
abbrev pub can_meet : Reasons → Lives → Fact → Fact → Bool
can_meet why lives f g =
    (not why.one_thread || are_two f.thread g.thread)
    && ((not why.gate || not (has_gate f g))
    && (not why.apart || not (are_apart lives f g)))

-- ---- the one waits for the other

abbrev pub is_timed : Manner → Bool
is_timed Timed = true
is_timed _ = false

abbrev pub is_wait_end : Manner → Bool
is_wait_end EndsWait = true
is_wait_end _ = false

abbrev pub is_exclusively : ℕ → Had → Bool
is_exclusively l a = (a.lock.0 == l) && is_exclusive a.mode

-- the one asks for its lock as a wait for a condition ends, and the other took that lock under one
-- that the first kept in its wait: so it had taken it before the wait, or can't have taken it
abbrev pub is_kept_out : Fact → Fact → Bool
is_kept_out f g =
    is_wait_end f.manner
    && (is_exclusive f.asked.mode
    && (g.under && list_any (is_exclusively g.asked.lock.0) (locks_held f)))

-- whether the thread of the one waits for good for the lock that the other's holds, for all that
-- these reasons say
abbrev pub can_wait : Reasons → Fact → Fact → Bool
can_wait why f g =
    (f.asked.lock.0 == g.held.lock.0)
    && ((not why.readers || (is_exclusive f.asked.mode || is_exclusive g.held.mode))
    && ((not why.timed || not (is_timed f.manner))
    && (not why.waits || not (is_kept_out f g))))

-- ---- circles

abbrev pub at : (Fact → Bool) → Option Fact → Bool
at p None = false
at p (Some f) = p f

abbrev pub of_both : (Fact → Fact → Bool) → List Fact → ℕ → ℕ → Bool
of_both p facts i j = at (λ f. at (p f) (slice_get facts j)) (slice_get facts i)

-- from i by these places to j, each leads to the next
abbrev pub leads_by : (ℕ → ℕ → Bool) → ℕ → List ℕ → ℕ → Bool
leads_by leads i [] j = leads i j
leads_by leads i (k ∷ ks) j = leads i k && leads_by leads k ks j

abbrev pub leads_round : (ℕ → ℕ → Bool) → List ℕ → Bool
leads_round leads [] = false
leads_round leads (i ∷ is) = leads_by leads i is i

abbrev pub all_pairs : (ℕ → ℕ → Bool) → List ℕ → Bool
all_pairs p [] = true
all_pairs p (i ∷ is) = list_all (p i) is && all_pairs p is

-- of waits for a condition that end, one began last: its thread had the lock then that it asks for,
-- so not all of a circle's facts are such
abbrev pub may_begin : Reasons → List Fact → ℕ → Bool
may_begin why facts i = at (λ f. not why.waits || not (is_wait_end f.manner)) (slice_get facts i)

-- whether these facts can be held at once, each thread waiting for the next one, and the last for
-- the first, for all that these reasons say
abbrev pub closes : Reasons → Lives → List Fact → List ℕ → Bool
closes why lives facts circle =
    leads_round (of_both (can_wait why) facts) circle
    && (all_pairs (of_both (can_meet why lives) facts) circle
    && list_any (may_begin why facts) circle)

abbrev pub all_reasons : Reasons
all_reasons = record {
  one_thread = true;
  gate = true;
  readers = true;
  timed = true;
  apart = true;
  waits = true;
}

abbrev pub no_reasons : Reasons
no_reasons = record {
  one_thread = false;
  gate = false;
  readers = false;
  timed = false;
  apart = false;
  waits = false;
}

-- no circle of these facts closes
abbrev pub NoneCloses : Reasons → Lives → List Fact → Type 0
NoneCloses why lives facts = (circle : List ℕ) → closes why lives facts circle ≡ true → ⊥
