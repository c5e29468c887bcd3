-- What is told of events, one behind the other.
use Rattle.std.proofs.Common.{◌≡◌, List, [], ◌∷◌, ◌++◌, refl, sym, ◌∙◌, append_assoc, append-nil}
use Rattle.wit_import.specs.declared.events.Event.{Event}
use Rattle.wit_import.specs.Laws.{seen_behind, text_behind}
use Rattle.wit_import.specs.Outputs.{seen_after, text_of_event}
use Rattle.wit_import.specs.Telling.{Told, told_after, told_all}

pub told_all_append : (t : Told) (events more : List Event)
    → told_all t (events ++ more) ≡ told_all (told_all t events) more
told_all_append t [] more = refl
told_all_append t (event ∷ events) more = told_all_append (told_after t event) events more

pub seen_told_all : (t : Told) (events : List Event)
    → (told_all t events).seen ≡ seen_behind t.seen events
seen_told_all t [] = refl
seen_told_all t (event ∷ events) = seen_told_all (told_after t event) events

pub text_told_all : (t : Told) (events : List Event)
    → (told_all t events).text ≡ t.text ++ text_behind t.seen events
text_told_all t [] = sym (append-nil t.text)
text_told_all t (event ∷ events) =
    text_told_all (told_after t event) events
    ∙ append_assoc t.text (text_of_event t.seen event)
    (text_behind (seen_after t.seen event) events)
