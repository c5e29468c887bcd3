-- A trace in the making: it is told of events.
use Rattle.std.specs.Prelude.{ℕ, List, [], ◌∷◌, ◌++◌}
use Rattle.wit_import.specs.declared.events.Event.{Event}
use Rattle.wit_import.specs.declared.telling.Teller.{Teller}
use Rattle.wit_import.specs.Importing.{seen}
use Rattle.wit_import.specs.Outputs.{Seen, header, nothing_seen, seen_after, text_of_event}

-- what is known of the events so far, and the text of the trace
pub record Told : Type 0 where
  pub seen : Seen
  pub text : List ℕ

abbrev pub told : Teller → Told
told t = record { seen = seen t.importing; text = t.text.items }

abbrev pub nothing_told : Told
nothing_told = record { seen = nothing_seen; text = header }

abbrev pub told_after : Told → Event → Told
told_after t event =
    record { seen = seen_after t.seen event; text = t.text ++ text_of_event t.seen event }

abbrev pub told_all : Told → List Event → Told
told_all t [] = t
told_all t (event ∷ events) = told_all (told_after t event) events
