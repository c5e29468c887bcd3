-- Each pair that is kept is told.
use Rattle.std.proofs.Common.{◌≡◌, ℕ, ◌+◌, ◌<◌, ◌≤◌, true, false, List, [], ◌∷◌, ◌++◌, Option, Some}
use Rattle.std.proofs.Common.{None, length, nat_lt, remove, refl, sym, ap, ◌∙◌, subst, inl, inr, ⊎_elim, arith}
use Rattle.std.proofs.Common.{append_assoc}
use Rattle.std.proofs.lemmas.Bool.{cond_both, cond-true, lt-ltb}
use Rattle.std.proofs.lemmas.List.{length-append}
use Rattle.std.specs.Str.{bytes_eq}
use Rattle.wit_gathered.specs.declared.requests.Kept.{Kept}
use Rattle.wit_gathered.specs.declared.requests.Kept.TheVariants as kept
use Rattle.wit_gathered.specs.declared.requests.Step.{Step}
use Rattle.wit_gathered.specs.Asking.{Asking}
use Rattle.wit_gathered.specs.Gathering.{Gathered}
use Rattle.wit_gathered.specs.Laws as gathered
use Rattle.wit_gathered.specs.Naming.{Names, is_held, names_of, type_named}
use Rattle.wit_import.specs.declared.events.Acquisition.{Acquisition}
use Rattle.wit_import.specs.declared.events.Event.{Event}
use Rattle.wit_import.specs.declared.events.Event.TheVariants.{Asks, Gets, Tries, Releases, Twice, Loses}
use Rattle.wit_import.specs.declared.events.LockType.{LockType}
use Rattle.wit_import.specs.declared.events.Release.{Release}
use Rattle.wit_import.specs.declared.events.Sharing.TheVariants.{Exclusive}
use Rattle.wit_import.specs.declared.held.Holding.{Holding}
use Rattle.wit_import.specs.declared.held.TheConstants.{MOST_HELD}
use Rattle.wit_import.specs.Blocks.{Told, has_place, has_room, is_written, pair_text, told_after}
use Rattle.wit_import.specs.Blocks.{types_after, with_pairs}
use Rattle.wit_import.specs.Held.{asks_again, is_of, place_released, with_newest}
use Rattle.wit_import.specs.Laws.{IsAmong, seen_behind}
use Rattle.wit_import.specs.Names.{has_name, with_name}
use Rattle.wit_import.specs.Outputs.{Seen, after_asking, after_release, after_twice, holding, nothing_seen}
use Rattle.wit_import.specs.Outputs.{seen_after, with_unheld}
use Rattle.wit_import.proofs.Told as told
use Rattle.wit_model.specs.declared.locks.Class.{Class}
use Rattle.wit_model.specs.Rules.Names.{is_file_name, is_name}
use Rattle.wit_model.specs.Trace.Reading.{accepted}
use Rattle.wit_kernel.specs.Acquisitions.{acquisition, acquisition_with, asking, class_of, events_in}
use Rattle.wit_kernel.specs.Acquisitions.{events_of, held_events, kept_events, place_text, released}
use Rattle.wit_kernel.specs.Acquisitions.{request_events, site_of, trying, twice_events}
use Rattle.wit_kernel.specs.Laws.{AsksUnder, KeptPairsAreTold, seen_at}

-- ---- events one behind the other

behind-append : (s : Seen) (events more : List Event)
    → seen_behind s (events ++ more) ≡ seen_behind (seen_behind s events) more
behind-append s [] more = refl
behind-append s (event ∷ events) more = behind-append (seen_after s event) events more

events-append : (n : Names) (places : List (List ℕ)) (before after : List Kept)
    → events_in n places (before ++ after)
    ≡ events_in n places before ++ events_in n places after
events-append n places [] after = refl
events-append n places (k ∷ before) after =
    ap (λ (l : List Event). kept_events n places k ++ l) (events-append n places before after)
    ∙ sym (append_assoc (kept_events n places k) (events_in n places before)
    (events_in n places after))

-- ---- a pair that counts as written counts so whatever comes

abbrev Has : List ℕ → Told → Type 0
Has p t = has_name t.pairs p ≡ true

abbrev told_later : Told → List Holding → Acquisition → Told
told_later t held a = record {
  types = types_after t.types held a;
  pairs = with_pairs t.pairs a.thread a.name held;
}

asked-has : (p : List ℕ) (t : Told) (held : List Holding) (a : Acquisition) → Has p t
    → Has p (told_after t held a)
asked-has p t held a has =
    cond_both (is_written t held a) (told_later t held a) t (λ (q : Told). Has p q)
    (λ is. told.pairs-still a.thread a.name held t.pairs p has) (λ is. has)

twice-has : (p : List ℕ) (s : Seen) (name : List ℕ) → Has p s.told
    → Has p (after_twice s name).told
twice-has p s name has =
    cond_both (has_place s.told.types name)
    (record s.told { types = with_name s.told.types name }) s.told (λ (q : Told). Has p q)
    (λ is. has) (λ is. has)

unheld-has : (p : List ℕ) (s : Seen) (name : Option (List ℕ)) → Has p s.told
    → Has p (with_unheld s name).told
unheld-has p s None has = has
unheld-has p s (Some name) has = twice-has p s name has

release-has : (p : List ℕ) (s : Seen) (r : Release) (place : Option ℕ) → Has p s.told
    → Has p (after_release s r place).told
release-has p s r (Some n) has = has
release-has p s r None has =
    cond_both (has_name s.freed r.lock) (with_unheld s r.name) s (λ (q : Seen). Has p q.told)
    (λ is. unheld-has p s r.name has) (λ is. has)

event-has : (p : List ℕ) (s : Seen) (event : Event) → Has p s.told → Has p (seen_after s event).told
event-has p s (Asks a) has = asked-has p s.told s.held a has
event-has p s (Gets a) has = asked-has p s.told s.held a has
event-has p s (Tries a) has = has
event-has p s (Releases r) has = release-has p s r (place_released s.held r) has
event-has p s (Twice t) has = twice-has p s t.name has
event-has p s Loses has = has

events-have : (p : List ℕ) (s : Seen) (events : List Event) → Has p s.told
    → Has p (seen_behind s events).told
events-have p s [] has = has
events-have p s (event ∷ events) has =
    events-have p (seen_after s event) events (event-has p s event has)

-- ---- between two requests nothing is held

module _ (n : Names) (places : List (List ℕ)) where
  abbrev Free : Seen → Type 0
  Free s = s.held ≡ []

  last-free : (s : Seen) (asked : Option Acquisition)
      → Free (seen_behind s (asking asked ++ Loses ∷ []))
  last-free s None = refl
  last-free s (Some a) = refl

  request-free : (s : Seen) (r : Asking) → Free s → Free (seen_behind s (request_events n places r))
  request-free s r free =
      cond_both (is_held n r.asked.of)
      (held_events n places r.held ++ (asking (acquisition n places r.asked) ++ Loses ∷ [])) []
      (λ (l : List Event). Free (seen_behind s l))
      (λ is. ap (λ (q : Seen). q.held)
      (behind-append s (held_events n places r.held)
      (asking (acquisition n places r.asked) ++ Loses ∷ []))
      ∙ last-free (seen_behind s (held_events n places r.held)) (acquisition n places r.asked))
      (λ is. free)

  twice-free : (s : Seen) (of : Option LockType) → Free s → Free (seen_behind s (twice_events of))
  twice-free s None free = free
  twice-free s (Some of) free = free

  kept-free : (s : Seen) (k : Kept) → Free s → Free (seen_behind s (kept_events n places k))
  kept-free s (kept.Asks r) free = request-free s r free
  kept-free s (kept.Twice step) free = twice-free s (released n places step) free

  all-free : (s : Seen) (all : List Kept) → Free s → Free (seen_behind s (events_in n places all))
  all-free s [] free = free
  all-free s (k ∷ all) free =
      ap (λ (q : Seen). q.held) (behind-append s (kept_events n places k) (events_in n places all))
      ∙ all-free (seen_behind s (kept_events n places k)) all (kept-free s k free)

  -- ---- what is tried is held

  among-longer : (held more : List Holding) (h : Holding) → IsAmong h held → IsAmong h (held ++ more)
  among-longer [] more h among = absurd among
  among-longer (first ∷ held) more h among =
      ⊎_elim (λ is. inl is) (λ later. inr (among-longer held more h later)) among

  among-last : (held : List Holding) (h : Holding) → IsAmong h (held ++ h ∷ [])
  among-last [] h = inl refl
  among-last (first ∷ held) h = inr (among-last held h)

  -- there is room for one more
  newest : (held : List Holding) (h : Holding) → length held < MOST_HELD
      → with_newest held h ≡ held ++ h ∷ []
  newest held h few =
      ap (λ (l : List Holding). l ++ h ∷ [])
      (cond-true (nat_lt (length held) MOST_HELD) held (remove held 0)
      (lt-ltb (length held) MOST_HELD few))

  -- one more is tried, and the others after it
  more-held : (s : Seen) (steps : List Step) (a : Acquisition)
      → length s.held + length steps + 1 ≤ MOST_HELD
      → ((seen_after s (Tries a)).held ≡ s.held ++ holding a true ∷ [])
      × (length (seen_after s (Tries a)).held + length steps ≤ MOST_HELD)
  more-held s steps a fits =
      let new = newest s.held (holding a true) (omega arith) in
      let long = length-append s.held (holding a true ∷ []) in
      (new, omega (arith, ap length new))

  stays : (s : Seen) (steps : List Step) (h : Holding) → length s.held + length steps ≤ MOST_HELD
      → IsAmong h s.held → IsAmong h (seen_behind s (held_events n places steps)).held
  stays s [] h fits among = among
  stays s (step ∷ steps) h fits among =
      elim (acquisition n places step)
      as (λ o. IsAmong h (seen_behind s (trying o ++ held_events n places steps)).held) [
        | None ↦ stays s steps h (omega arith) among
        | Some a ↦
            let more = more-held s steps a (omega arith) in
            stays (seen_after s (Tries a)) steps h more.1
            (subst (λ (l : List Holding). IsAmong h l) (sym more.0)
            (among-longer s.held (holding a true ∷ []) h among))
      ]

  tried : (s : Seen) (steps : List Step) (step : Step) (a : Acquisition)
      → length s.held + length steps ≤ MOST_HELD → gathered.IsAmong step steps
      → acquisition n places step ≡ Some a
      → IsAmong (holding a true) (seen_behind s (held_events n places steps)).held
  tried s [] step a fits among shows = absurd among
  tried s (first ∷ steps) step a fits among shows =
      ⊎_elim (λ is. here is)
      (λ later. elim (acquisition n places first)
      as (λ o. IsAmong (holding a true)
      (seen_behind s (trying o ++ held_events n places steps)).held) [
        | None ↦ tried s steps step a (omega arith) later shows
        | Some b ↦
            tried (seen_after s (Tries b)) steps step a (more-held s steps b (omega arith)).1 later
            shows
      ])
      among
    where
      first-held : IsAmong (holding a true)
          (seen_behind s (trying (Some a) ++ held_events n places steps)).held
      first-held =
          let more = more-held s steps a (omega arith) in
          stays (seen_after s (Tries a)) steps (holding a true) more.1
          (subst (λ (l : List Holding). IsAmong (holding a true) l) (sym more.0)
          (among-last s.held (holding a true)))

      here : step ≡ first
          → IsAmong (holding a true)
          (seen_behind s (trying (acquisition n places first) ++ held_events n places steps)).held
      here is =
          subst
          (λ (o : Option Acquisition). IsAmong (holding a true)
          (seen_behind s (trying o ++ held_events n places steps)).held)
          (sym shows ∙ ap (acquisition n places) is) first-held

-- ---- each acquisition is the one thread's, and not a recursive reader's

pub record IsPlain (a : Acquisition) : Type 0 where
  pub sharing : a.sharing ≡ Exclusive
  pub thread : a.thread ≡ 49 ∷ []

abbrev one : Class → List ℕ → List ℕ → ℕ → Acquisition
one class name file line = record {
  thread = 49 ∷ [];
  lock = 49 ∷ [];
  class = class;
  name = name;
  sharing = Exclusive;
  file = file;
  line = line;
}

plain : (class : Class) (name file : Option (List ℕ)) (line : ℕ) (a : Acquisition)
    → acquisition_with class name file line ≡ Some a → IsPlain a
plain class None file line a is = (cc)
plain class (Some name) None line a is = (cc)
plain class (Some name) (Some file) line a is =
    let same : one class name file line ≡ a = cc in
    record {
      sharing = sym (ap (λ (q : Acquisition). q.sharing) same);
      thread = sym (ap (λ (q : Acquisition). q.thread) same);
    }

shown-plain : (n : Names) (places : List (List ℕ)) (step : Step) (a : Acquisition)
    → acquisition n places step ≡ Some a → IsPlain a
shown-plain n places step a is =
    let named = type_named n step.of in
    let site = site_of (place_text places step.place) in
    plain (class_of named.0) (accepted is_name named.1) (accepted is_file_name site.0) site.1 a is

-- ---- the law

module _ (g : Gathered) (before after : List Kept) (r : Asking) (step : Step)
    (held asked : Acquisition) (asks : AsksUnder g before after r step held asked) where
  abbrev n : Names
  n = names_of g

  abbrev first : Seen
  first = seen_behind nothing_seen (events_in n g.places before)

  abbrev at : Seen
  at = seen_at g before r

  abbrev pair : List ℕ
  pair = pair_text held.name asked.name

  not-again : asks_again at.held asked ≡ false
  not-again =
      let plain-asked = shown-plain n g.places r.asked asked asks.shows_asked in
      subst (λ sharing. asks_again at.held (record asked { sharing = sharing }) ≡ false)
      (sym plain-asked.sharing) refl

  own : is_of asked.thread (holding held true) ≡ true
  own =
      let plain-asked = shown-plain n g.places r.asked asked asks.shows_asked in
      let plain-held = shown-plain n g.places step held asks.shows_held in
      ap (λ (w : List ℕ). bytes_eq w asked.thread) plain-held.thread
      ∙ ap (λ (w : List ℕ). bytes_eq (49 ∷ []) w) plain-asked.thread

  is-held : IsAmong (holding held true) at.held
  is-held =
      let free = all-free n g.places nothing_seen before refl in
      tried n g.places first r.held step held
      (omega (arith, asks.fits, ap length free)) asks.under asks.shows_held

  -- the events, as far as the request
  request-parts : request_events n g.places r
      ≡ held_events n g.places r.held ++ (Asks asked ∷ Loses ∷ [])
  request-parts =
      cond-true (is_held n r.asked.of)
      (held_events n g.places r.held ++ (asking (acquisition n g.places r.asked) ++ Loses ∷ [])) []
      asks.waited_for
      ∙ ap (λ (o : Option Acquisition). held_events n g.places r.held ++ (asking o ++ Loses ∷ []))
      asks.shows_asked

  seen-parts : seen_behind nothing_seen (events_of g)
      ≡ seen_behind (seen_after (after_asking at asked) Loses) (events_in n g.places after)
  seen-parts =
      ap (λ (l : List Kept). seen_behind nothing_seen (events_in n g.places l)) asks.is_kept
      ∙ (ap (seen_behind nothing_seen) (events-append n g.places before (kept.Asks r ∷ after))
      ∙ (behind-append nothing_seen (events_in n g.places before)
      (request_events n g.places r ++ events_in n g.places after)
      ∙ (behind-append first (request_events n g.places r) (events_in n g.places after)
      ∙ (ap (λ (l : List Event). seen_behind (seen_behind first l) (events_in n g.places after))
      request-parts
      ∙ ap (λ (s : Seen). seen_behind s (events_in n g.places after))
      (behind-append first (held_events n g.places r.held) (Asks asked ∷ Loses ∷ []))))))

  pub pair-has : has_room at.told.types at.held asked ≡ true
      → has_name (seen_behind nothing_seen (events_of g)).told.pairs pair ≡ true
  pair-has room =
      ap (λ (s : Seen). has_name s.told.pairs pair) seen-parts
      ∙ events-have pair (seen_after (after_asking at asked) Loses) (events_in n g.places after)
      (told.requests-written at asked (holding held true) not-again room is-held own)

pub pairs-told : KeptPairsAreTold
pairs-told g before after r step held asked asks room =
    told.pairs-told (events_of g) (pair_text held.name asked.name)
    (pair-has g before after r step held asked asks room)
