-- What was gathered of a request for a B under an A, told.
use Rattle.std.proofs.Common.{◌≡◌, ℕ, List, [], ◌∷◌, ◌++◌, Bool, true, cond, Option, Some, refl, sym}
use Rattle.std.proofs.Common.{ap, ◌∙◌, inl, arith, codes}
use Rattle.std.specs.Fmt.{digits}
use Rattle.wit_traced.specs.Pieces.{behind_last}
use Rattle.wit_traced.proofs.Examples.{no-colon}
use Rattle.wit_gathered.specs.declared.naming.LockClass.{LockClass}
use Rattle.wit_gathered.specs.declared.naming.LockClass.TheVariants.{Sleeping}
use Rattle.wit_gathered.specs.declared.types.Type.TheVariants.{Of}
use Rattle.wit_gathered.specs.Example.{behind_lines, behind_mutex_lines, by_seven, mutexes_by_seven, step}
use Rattle.wit_gathered.specs.Gathering.{Gathered}
use Rattle.wit_gathered.specs.Naming.{Names, names_of, type_named}
use Rattle.wit_gathered.proofs.Example.{pair-met}
use Rattle.wit_import.specs.declared.events.Acquisition.{Acquisition}
use Rattle.wit_import.specs.declared.events.Event.{Event}
use Rattle.wit_import.specs.declared.events.Event.TheVariants.{Asks, Tries, Loses}
use Rattle.wit_import.specs.Blocks.{has_room}
use Rattle.wit_import.specs.Laws.{seen_behind, text_behind}
use Rattle.wit_import.specs.Outputs.{header, nothing_seen}
use Rattle.wit_kernel.specs.Acquisitions.{acquisition, acquisition_at, asking, events_in, events_of, place_text}
use Rattle.wit_kernel.specs.Acquisitions.{site_of, site_parted, trying}
use Rattle.wit_kernel.specs.Example.{RequestIsTold, shown, told_of_seven}

abbrev seven : Gathered
seven = behind_lines by_seven

abbrev names : Names
names = names_of seven

-- ---- the two locks

site : site_of (codes "lock_acquire") ≡ (codes "lock_acquire", 0)
site =
    ap (λ (file : Option (List ℕ)). site_parted (codes "lock_acquire") file
    (behind_last 58 (codes "lock_acquire"))) no-colon

at : (n : ℕ) (named : LockClass × List ℕ) → type_named names (Of n) ≡ named
    → acquisition names seven.places (step n) ≡ acquisition_at named (codes "lock_acquire", 0)
at n named is =
    ap (λ (t : LockClass × List ℕ). acquisition_at t (site_of (place_text seven.places 0))) is
    ∙ ap (λ (places : List (List ℕ)). acquisition_at named (site_of (place_text places 0)))
    pair-met.places
    ∙ ap (acquisition_at named) site

a-shown : acquisition names seven.places (step 0) ≡ Some (shown (codes "A"))
a-shown = at 0 (Sleeping, codes "A") pair-met.name_a

b-shown : acquisition names seven.places (step 1) ≡ Some (shown (codes "B"))
b-shown = at 1 (Sleeping, codes "B") pair-met.name_b

-- ---- what is told of the request

room : has_room (seen_behind nothing_seen (trying (Some (shown (codes "A"))) ++ [])).told.types
    (seen_behind nothing_seen (trying (Some (shown (codes "A"))) ++ [])).held (shown (codes "B")) ≡ true
room = refl

abbrev events_with : Bool → Option Acquisition → Option Acquisition → List Event
events_with held a b = cond held ((trying a ++ []) ++ (asking b ++ Loses ∷ [])) [] ++ []

events : events_of seven ≡ Tries (shown (codes "A")) ∷ Asks (shown (codes "B")) ∷ Loses ∷ []
events =
    ap (events_in names seven.places) pair-met.kept
    ∙ ap (λ (held : Bool). events_with held (acquisition names seven.places (step 0))
    (acquisition names seven.places (step 1))) pair-met.held
    ∙ ap (λ (a : Option Acquisition). events_with true a (acquisition names seven.places (step 1)))
    a-shown
    ∙ ap (events_with true (Some (shown (codes "A")))) b-shown

told : text_behind nothing_seen (Tries (shown (codes "A")) ∷ Asks (shown (codes "B")) ∷ Loses ∷ [])
    ≡ told_of_seven
unfolding digits
told = refl

text : text_behind nothing_seen (events_of seven) ≡ told_of_seven
text = ap (text_behind nothing_seen) events ∙ told

written : header ++ told_of_seven ≡ (header ++ text_behind nothing_seen (events_of seven)) ++ []
written = ap (λ (t : List ℕ). (header ++ t) ++ []) (sym text)

-- ---- a mutex that nobody held

abbrev mutexes : Gathered
mutexes = behind_mutex_lines mutexes_by_seven

none : events_of mutexes ≡ []
none =
    ap (events_in (names_of mutexes) mutexes.places) pair-met.mutexes
    ∙ ap (λ (held : Bool). events_with held (acquisition (names_of mutexes) mutexes.places (step 0))
    (acquisition (names_of mutexes) mutexes.places (step 1))) pair-met.unheld

pub request-told : RequestIsTold
request-told = record {
  kept = record {
    is_kept = pair-met.kept;
    under = inl refl;
    fits = omega arith;
    waited_for = pair-met.held;
    shows_held = a-shown;
    shows_asked = b-shown;
  };
  room =
      ap (λ (a : Option Acquisition). has_room
      (seen_behind nothing_seen (trying a ++ [])).told.types
      (seen_behind nothing_seen (trying a ++ [])).held (shown (codes "B"))) a-shown
      ∙ room;
  text = text;
  imported = record { written = written; summed = refl };
  unheld = ap (text_behind nothing_seen) none;
}
