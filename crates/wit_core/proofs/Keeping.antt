-- What the invariant of a verifier gives, and how each call keeps it.
use Rattle.std.proofs.Common.{◌≡◌, ℕ, ◌+◌, ◌-◌, ◌<◌, ◌≤◌, true, List, ◌∷◌, None, Ok, length, map}
use Rattle.std.proofs.Common.{sum_by, sym, ap, ◌∙◌, subst, arith, Bool, ap₂}
use Rattle.wit_model.specs.declared.calls.Call.{Call}
use Rattle.wit_model.specs.declared.calls.Reply.{Reply}
use Rattle.wit_model.specs.declared.calls.Entry.{Entry}
use Rattle.wit_model.specs.declared.locks.TypeNo.{TypeNo}
use Rattle.wit_model.specs.declared.locks.Watch.{Watch}
use Rattle.wit_model.specs.Rules.State.{Start, Story, State, Known, state_of, owed_by, orders_of}
use Rattle.wit_model.specs.Rules.State.{found_of}
use Rattle.wit_model.specs.Rules.Step.{answer_of, story_after, logged, is_logged, IsLegal}
use Rattle.wit_model.proofs.Chains.Seats.{entry}
use Rattle.wit_model.proofs.Orders.Among.{orders-among}
use Rattle.wit_model.proofs.Orders.Types.{types_legal}
use Rattle.wit_model.proofs.Histories.Legal.{seat-within, seat_accepted}
use Rattle.wit_model.proofs.Orders.Once.{distinct_legal}
use Rattle.wit_model.proofs.Orders.Sound.{sound_legal}
use Rattle.wit_model.proofs.Orders.Started.{sound_started, types_started}
use Rattle.wit_model.specs.Rules.Start.{start_fault}
use Rattle.wit_model.specs.Rules.Orders.{AreDistinct, IsSound, is_found}
use Rattle.wit_matrix.specs.Relation.{OrdersAmong, HasSameFound}
use Rattle.wit_core.specs.declared.verifier.Verifier.TheInside.{Inside}
use Rattle.wit_known.specs.Known.{Facts}
use Rattle.wit_waiting.specs.Seats.{seat_view}
use Rattle.wit_waiting.specs.Seats.{Seating}
use Rattle.wit_core.proofs.Steps.{state, same_state}
use Rattle.wit_core.specs.Journal.{Journal}
use Rattle.wit_core.specs.Kept.{IsTied, start_in, history_in, story_in, known_in, state_in}
use Rattle.wit_model.specs.Rules.Locks.{destroyed_of}
use Rattle.wit_known.specs.Live.{live_flags}

-- types are within their limit
pub types_few : (v : Inside) → IsTied v → length v.known.known.types ≤ v.limits.types
types_few v k =
    let few =
    types_legal (start_in v) v.known.files (history_in v)
    (types_started (start_in v) k.started) k.legal in
    let same = ap (λ (s : State). length s.known.types) k.state in
    omega (arith, few, same)

-- an accepted call's seat is one of the verifier's
pub seat_in_range : (v : Inside) (t : ℕ) (call : Call) (r : Reply) → IsTied v
    → answer_of (story_in v) t call ≡ Ok r → (0 < t) × (t ≤ v.limits.seats)
seat_in_range v t call r k ok =
    seat-within (start_in v) v.known.files (history_in v) t
    (seat_accepted (state_of (story_in v)) t call r ok)

-- a verifier with these parts, for which no call is prepared
abbrev pub with_parts : Inside → Facts → Seating → Watch → Journal → Inside
with_parts v known seats watch log =
    record v { known = known; seats = seats; watch = watch; log = log; ready = None }

-- what an accepted call leaves: this is known, these locks are live, the seats are these, so much
-- is watched, and so much is owed
pub record Leaves (v : Inside) (t : ℕ) (call : Call) (reply : Reply) (known : Known)
    (live : List Bool) (seating : Seating) (watch : Watch) (owes : ℕ) : Type 0 where
  pub state : state v.limits v.profile (length v.known.files) known
      (destroyed_of (entry t call reply ∷ history_in v)) (map seat_view seating.seats) watch
      (length (history_in v) + 1)
      ≡ state_of (story_after (start_in v) v.known.files (entry t call reply ∷ history_in v))
  pub flags : live ≡ live_flags (length known.locks)
      (destroyed_of (entry t call reply ∷ history_in v))
  pub owed : owes ≡ sum_by owed_by (map seat_view seating.seats)
  pub chunks : seating.chunks ≡ v.seats.chunks

-- a log that was given room, and then an entry
pub log_after : (old room new : Journal) (e : Entry) (more spare : ℕ)
    → room ≡ record old { spare = room.spare }
    → new ≡ record room { history = e ∷ room.history; owed = room.owed + more; spare = spare }
    → new ≡ record old { history = e ∷ old.history; owed = old.owed + more; spare = spare }
log_after old room new e more spare same is =
    is ∙ ap (λ (l : Journal). record l {
      history = e ∷ l.history;
      owed = l.owed + more;
      spare = spare;
    }) same

-- a log with the entry of an acquisition: one that was asked for, and one that was tried
abbrev pub noted_log : Journal → ℕ → Call → Reply → ℕ → Journal
noted_log log t call reply owes = record log {
  history = entry t call reply ∷ log.history;
  owed = log.owed - (1 - owes + 1);
  spare = log.spare + (1 - owes);
}

abbrev pub tried_log : Journal → ℕ → ℕ → Call → Reply → ℕ → Journal
tried_log log spare t call reply owes =
    record log {
      history = entry t call reply ∷ log.history;
      owed = log.owed + owes;
      spare = spare - (owes + 1);
    }

-- a story by its parts, with no call prepared
abbrev pub story : Start → List (List ℕ) → List Entry → Story
story start files h = record { start = start; history = h; files = files; ready = None }

pub same_story : (s s' : Start) (f f' : List (List ℕ)) (h h' : List Entry) → s ≡ s' → f ≡ f'
    → h ≡ h' → story s f h ≡ story s' f' h'
same_story s s' f f' h h' es ef eh =
    ap (λ x. story x f h) es ∙ (ap (λ x. story s' x h) ef ∙ ap (λ x. story s' f' x) eh)

module _ (v : Inside) (t : ℕ) (call : Call) (reply : Reply) (known : Known) (live : List Bool)
    (seating : Seating) (watch : Watch) (owes : ℕ) (new_known : Facts) (new_seats : Seating)
    (new_watch : Watch) (new_log : Journal) (spare : ℕ) {room : ℕ} {pairs : List (TypeNo × TypeNo)}
    (left : Leaves v t call reply known live seating watch owes)
    (knows : new_known ≡ record v.known {
      known = record known { found = pairs };
      live = live;
      spare = room;
    })
    (rows : new_seats ≡ seating) (watches : new_watch ≡ watch)
    (log : new_log ≡ record v.log {
      history = entry t call reply ∷ v.log.history;
      owed = owes;
      spare = spare;
    }) where
  -- the verifier is seen as its story with the entry
  pub story_entered : story_in (with_parts v new_known new_seats new_watch new_log)
      ≡ logged (story_in v) t call reply
  story_entered =
      same_story _ _ _ _ _ _
      (ap (λ (b : List (List ℕ × List ℕ)). record (start_in v) { blessed = b })
      (ap (λ (f : Facts). f.known.blessed) knows ∙ ap (λ (s : State). s.known.blessed) left.state))
      (ap (λ (f : Facts). f.files) knows) (ap (λ (l : Journal). l.history) log)

  abbrev entered : Inside
  entered = with_parts v new_known new_seats new_watch new_log

  found_entered : found_of (start_in entered) (history_in entered) ≡ known.found
  found_entered =
      ap (λ (s : Story). found_of s.start s.history) story_entered
      ∙ sym (ap (λ (s : State). s.known.found) left.state)

  known_entered : known_in entered ≡ known
  known_entered =
      ap₂ (λ (f : Facts) (fs : List (TypeNo × TypeNo)). record f.known { found = fs }) knows
      found_entered

  -- and keeps its invariant
  pub kept_entered : HasSameFound pairs known.found → IsTied v → is_logged reply ≡ true
      → answer_of (story_in v) t call ≡ Ok reply → IsTied entered
  kept_entered finds k kept ok =
      let same = story_entered in
      let seats : map seat_view new_seats.seats ≡ map seat_view seating.seats =
      ap (λ (r : Seating). map seat_view r.seats) rows in
      let here : state_in entered ≡ state v.limits v.profile (length v.known.files) known
      (destroyed_of (entry t call reply ∷ history_in v)) (map seat_view seating.seats) watch
      (length (history_in v) + 1) =
      same_state v.limits v.profile _ _ _ _ _ _ _ _ _ _ _ _
      (ap (λ (f : Facts). length f.files) knows) known_entered
      (ap (λ (l : Journal). destroyed_of l.history) log) seats watches
      (ap (λ (l : Journal). length l.history) log ∙ omega arith) in
      record {
        started = subst (λ (s : Story). start_fault s.start ≡ None) (sym same) k.started;
        legal =
            subst (λ (s : Story). IsLegal s.start s.files s.history) (sym same) (ok, kept, k.legal);
        state = here ∙ left.state ∙ ap state_of (sym same);
        found = λ a b.
            ap (λ (f : Facts). is_found f.known.found a b) knows ∙ finds a b
            ∙ ap (λ fs. is_found fs a b) (sym found_entered);
        live = ap (λ (f : Facts). f.live) knows ∙ left.flags
            ∙ ap₂ (λ (f : Facts) (l : Journal). live_flags (length f.known.locks)
            (destroyed_of l.history)) (sym knows) (sym log);
        owed = ap (λ (l : Journal). l.owed) log ∙ left.owed ∙ ap (sum_by owed_by) (sym seats);
        limit = ap (λ (l : Journal). l.limit) log ∙ k.limit;
        types = ap (λ (f : Facts). f.most_types) knows ∙ k.types;
        chunks = ap (λ (r : Seating). r.chunks) rows ∙ left.chunks ∙ k.chunks;
        ready = tt;
      }

-- no type is before itself
pub sound_kept : (v : Inside) → IsTied v → IsSound (orders_of (start_in v) (history_in v))
sound_kept v k =
    sound_legal (start_in v) v.known.files (history_in v)
    (sound_started (start_in v) k.started) k.legal

-- no order stands twice
pub distinct_kept : (v : Inside) → IsTied v → AreDistinct (orders_of (start_in v) (history_in v))
distinct_kept v k = distinct_legal (start_in v) v.known.files (history_in v) k.legal

-- the orders of an accepted start's legal history are between numbers of types
pub orders_within : (start : Start) (files : List (List ℕ)) (h : List Entry)
    → start_fault start ≡ None → IsLegal start files h
    → OrdersAmong start.sizes.types (orders_of start h)
orders_within start files h started legal = λ a b direct.
    let few = types_legal start files h (types_started start started) legal in
    let known = orders-among start files h legal a b direct in
    ((known.0.0, omega (arith, known.0.1, few)), (known.1.0, omega (arith, known.1.1, few)))

pub among_kept : (v : Inside) → IsTied v
    → OrdersAmong v.limits.types (orders_of (start_in v) (history_in v))
among_kept v k = orders_within (start_in v) v.known.files (history_in v) k.started k.legal
