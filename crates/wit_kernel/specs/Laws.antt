-- No pair of types is lost as the trace is told of what is kept.
use Rattle.std.specs.Prelude.{◌≡◌, ◌≤◌, true, List, ◌∷◌, ◌++◌, Some, length}
use Rattle.wit_gathered.specs.declared.requests.Kept.{Kept}
use Rattle.wit_gathered.specs.declared.requests.Kept.TheVariants as kept
use Rattle.wit_gathered.specs.declared.requests.Step.{Step}
use Rattle.wit_gathered.specs.Asking.{Asking}
use Rattle.wit_gathered.specs.Gathering.{Gathered}
use Rattle.wit_gathered.specs.Laws.{IsAmong}
use Rattle.wit_gathered.specs.Naming.{is_held, names_of}
use Rattle.wit_import.specs.declared.events.Acquisition.{Acquisition}
use Rattle.wit_import.specs.declared.held.TheConstants.{MOST_HELD}
use Rattle.wit_import.specs.Blocks.{has_room, pair_text}
use Rattle.wit_import.specs.Laws.{TellsPair, seen_behind, text_behind}
use Rattle.wit_import.specs.Outputs.{Seen, nothing_seen}
use Rattle.wit_kernel.specs.Acquisitions.{acquisition, events_in, events_of, held_events}

-- what was seen where a request is told, behind what was kept before it
abbrev pub seen_at : Gathered → List Kept → Asking → Seen
seen_at g before r =
    seen_behind (seen_behind nothing_seen (events_in (names_of g) g.places before))
    (held_events (names_of g) g.places r.held)

-- this request is kept, of a type that somebody ever held, and under this step; so many locks are held at most, and
-- both are shown by these acquisitions
pub record AsksUnder (g : Gathered) (before after : List Kept) (r : Asking) (step : Step)
    (held asked : Acquisition) : Type 0 where
  pub is_kept : g.requests.kept ≡ before ++ kept.Asks r ∷ after
  pub under : IsAmong step r.held
  pub fits : length r.held ≤ MOST_HELD
  pub waited_for : is_held (names_of g) r.asked.of ≡ true
  pub shows_held : acquisition (names_of g) g.places step ≡ Some held
  pub shows_asked : acquisition (names_of g) g.places r.asked ≡ Some asked

-- the trace tells its pair, where it has room for the types
abbrev pub KeptPairsAreTold : Type 0
KeptPairsAreTold = (g : Gathered) (before after : List Kept) (r : Asking) (step : Step)
    (held asked : Acquisition) → AsksUnder g before after r step held asked
    → has_room (seen_at g before r).told.types (seen_at g before r).held asked ≡ true
    → TellsPair (text_behind nothing_seen (events_of g)) (pair_text held.name asked.name)
