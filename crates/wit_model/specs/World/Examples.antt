-- Small worlds of two threads.
use Rattle.std.specs.Prelude.{ℕ, List, [], ◌∷◌, ◌++◌, None, reverse, codes}
use Rattle.wit_model.specs.declared.profiles.Profile.TheVariants.{Plain}
use Rattle.wit_model.specs.declared.locks.Class.TheVariants.{SleepMutex}
use Rattle.wit_model.specs.declared.locks.Mode.TheVariants.{Exclusive}
use Rattle.wit_model.specs.declared.locks.Site.{Site}
use Rattle.wit_model.specs.declared.calls.Heading.TheVariants as heading
use Rattle.wit_model.specs.declared.calls.Request.{Request}
use Rattle.wit_model.specs.declared.calls.Call.{Call}
use Rattle.wit_model.specs.declared.calls.Call.TheVariants.{Init, Check, Note, Unlock, DefineOrder}
use Rattle.wit_model.specs.declared.calls.Reply.{Reply}
use Rattle.wit_model.specs.declared.calls.Reply.TheVariants.{Made, Pass, Adopted, Known, Reversal}
use Rattle.wit_model.specs.declared.calls.Reply.TheVariants.{Recorded, Unlocked}
use Rattle.wit_model.specs.declared.sizes.TheConstants.Limits.{MOST_ENTRIES}
use Rattle.wit_model.specs.Rules.State.{Start}
use Rattle.wit_model.specs.World.Deeds.{Deed, Logged, Take, Free}

abbrev pub small : Start
small = record {
  sizes = record { seats = 2; types = 8; locks = 16; chunks = 4; log = MOST_ENTRIES };
  profile = Plain;
  lists = [];
  blessed = [];
}

-- the only file named
abbrev pub files : List (List ℕ)
files = codes "f" ∷ []

abbrev pub by : ℕ → Call → Reply → Deed
by t call reply = Logged (record { seat = record { 0 = t }; call = call; reply = reply })

-- thread 1 makes a mutex of this name, whose type has the same
abbrev pub makes_mutex : List ℕ → ℕ → List Deed
makes_mutex name l =
    by 1 (Init (record {
      class = SleepMutex;
      flags = record { 0 = 0 };
      name = name;
      type_name = None;
    })) (Made (record { 0 = l }))
    ∷ []

abbrev pub at_line : ℕ → Site
at_line line = record { file = record { 0 = 1 }; line = line }

abbrev pub request : ℕ → ℕ → Request
request l line = record {
  lock = record { 0 = l };
  site = at_line line;
  mode = Exclusive;
  ops = record { 0 = 0x01 };
}

-- t asks for lock l, and is answered so
abbrev pub asks : ℕ → ℕ → ℕ → Reply → List Deed
asks t l line reply = by t (Check (request l line)) reply ∷ []

-- it asks for it and gets it
abbrev pub locks : ℕ → ℕ → ℕ → Reply → List Deed
locks t l line reply =
    asks t l line reply ++ Take t l Exclusive ∷ by t (Note (record { 0 = l })) Recorded ∷ []

abbrev pub unlocks : ℕ → ℕ → List Deed
unlocks t l = by t (Unlock (record { 0 = l }) Exclusive) Unlocked ∷ Free t l ∷ []

-- the order from the one lock's type to the other's is learnt; lock l is the first of its type, and
-- so has its number
abbrev learns : ℕ → ℕ → Reply
learns l m = Adopted (record { 0 = l }) (record { 0 = m })

-- lock m is asked for at this line under lock l, which was taken at that one, against the order
-- learnt
abbrev pub reverses : ℕ → ℕ → ℕ → ℕ → Reply
reverses l taken m line = Reversal (record {
  heading = heading.Order;
  held = record { lock = record { 0 = l }; site = at_line taken };
  older = None;
  asked = record { lock = record { 0 = m }; site = at_line line };
})

abbrev two_mutexes : List Deed
two_mutexes = makes_mutex (codes "A") 1 ++ makes_mutex (codes "B") 2

-- one thread after the other: the first takes A and under it B, and frees both; then the second
-- takes B, and asks for A
abbrev pub in_turn : List Deed
in_turn =
    reverse (two_mutexes
    ++ locks 1 1 1 Pass ++ locks 1 2 2 (learns 1 2) ++ unlocks 1 2 ++ unlocks 1 1
    ++ locks 2 2 3 Pass ++ asks 2 1 4 (reverses 2 3 1 4))

-- the same deeds crossed: the first has A and the second B when each asks for the other's, the
-- second one before the first. So it is the second one's order that is learnt, and the first one
-- that reverses it
abbrev pub crossed : List Deed
crossed =
    reverse (two_mutexes
    ++ locks 1 1 1 Pass ++ locks 2 2 3 Pass
    ++ asks 2 1 4 (learns 2 1) ++ asks 1 2 2 (reverses 1 1 2 2))

-- both take A, and under it B, and free both
abbrev pub agreed : List Deed
agreed =
    reverse (two_mutexes
    ++ locks 1 1 1 Pass ++ locks 1 2 2 (learns 1 2) ++ unlocks 1 2 ++ unlocks 1 1
    ++ locks 2 1 3 Pass ++ locks 2 2 4 Pass ++ unlocks 2 2 ++ unlocks 2 1)

-- t defines that A is to be before B, and is answered so
abbrev defines : ℕ → Reply → List Deed
defines t reply = by t (DefineOrder (record { 0 = 1 }) (record { 0 = 2 })) reply ∷ []

-- both define the same order: to the second thread it is known
abbrev pub defined : List Deed
defined = reverse (two_mutexes ++ defines 1 (learns 1 2) ++ defines 2 Known)

-- the same deeds, the second thread first: it is known to the first
abbrev pub defined_before : List Deed
defined_before = reverse (two_mutexes ++ defines 2 (learns 1 2) ++ defines 1 Known)
