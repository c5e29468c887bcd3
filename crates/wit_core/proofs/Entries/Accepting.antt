-- What every accepted call has.
use Rattle.std.proofs.Common.{◌≡◌, ℕ, ◌+◌, ◌<◌, ◌≤◌, Bool, true, List, ◌∷◌, Some, Ok, length, map}
use Rattle.std.proofs.Common.{sum_by, refl, sym, ap, ◌∙◌, subst, arith}
use Rattle.std.proofs.lemmas.Bool.{leb-true}
use Rattle.wit_model.specs.declared.locks.Watch.{Watch}
use Rattle.wit_model.specs.declared.calls.Request.{Request}
use Rattle.wit_model.specs.declared.calls.Call.{Call}
use Rattle.wit_model.specs.declared.calls.Reply.{Reply}
use Rattle.wit_model.specs.Rules.Numbers.{IsGiven}
use Rattle.wit_model.specs.Rules.Types.{is_spin}
use Rattle.wit_model.specs.Rules.Locks.{locks_of, lock_at, is_spin_lock, destroyed_of}
use Rattle.wit_model.specs.Rules.History.{pending, watch_of}
use Rattle.wit_model.specs.Rules.State.{Story, State, Known, known_of, state_of, seats_of, owed_by}
use Rattle.wit_model.specs.Rules.State.{owed, has_room, seat_at}
use Rattle.wit_model.specs.Rules.Step.{answer_of}
use Rattle.wit_model.proofs.Chains.Sane.{IsSane}
use Rattle.wit_model.proofs.Chains.Seats.{entry}
use Rattle.wit_model.proofs.Chains.Owed.{owed_to}
use Rattle.wit_model.proofs.Histories.Legal.{seat_accepted, sane_more, pending-state}
use Rattle.wit_model.proofs.Orders.TypedLocks.{spin_at}
use Rattle.wit_core.specs.declared.verifier.Verifier.TheInside.{Inside}
use Rattle.wit_waiting.specs.Seats.{seat_view}
use Rattle.wit_core.specs.Journal.{Journal}
use Rattle.wit_core.specs.Kept.{start_in, history_in, story_in, known_in}
use Rattle.wit_waiting.specs.Seats.{Seating}
use Rattle.wit_core.proofs.Keeping.{seat_in_range, Leaves}
use Rattle.wit_core.proofs.Now.{seat-given}
use Rattle.wit_core.proofs.Seen.{IsSeenAs}
use Rattle.wit_core.proofs.Steps.{same_state}
use Rattle.wit_known.specs.Live.{live_flags}

-- a lock's kind, by the locks and by the history
spin_same : (v : Inside) (l : ℕ) (spin : Bool)
    → spin ≡ is_spin (lock_at (state_of (story_in v)).known.locks l).made.class
    → spin ≡ is_spin_lock (locks_of (history_in v)) l
spin_same v l spin e = e ∙ spin_at (start_in v) (history_in v) l

module _ {v : Inside} {s : Story} (this : IsSeenAs v s) where
  pub accepted : (t : ℕ) (call : Call) (reply : Reply) → answer_of s t call ≡ Ok reply
      → answer_of (story_in v) t call ≡ Ok reply
  accepted t call reply ok = subst (λ (x : Story). answer_of x t call ≡ Ok reply) (sym this.seen) ok

  pub sane_next : (t : ℕ) (call : Call) (reply : Reply) → answer_of s t call ≡ Ok reply
      → IsSane (entry t call reply ∷ history_in v)
  sane_next t call reply ok =
      sane_more (start_in v) v.known.files (history_in v) (entry t call reply) this.tied.legal
      (accepted t call reply ok)

  pub within : (t : ℕ) (call : Call) (reply : Reply) → answer_of s t call ≡ Ok reply
      → (0 < t) × (t ≤ v.limits.seats)
  within t call reply ok = seat_in_range v t call reply this.tied (accepted t call reply ok)

  pub owed_now : v.log.owed ≡ owed_to v.limits.seats (history_in v)
  owed_now = this.tied.owed ∙ ap owed this.tied.state

  -- the seat of an accepted call is given
  pub given : (t : ℕ) (call : Call) (reply : Reply) → answer_of s t call ≡ Ok reply
      → IsGiven v.seats.seats t
  given t call reply ok = seat-given this t (seat_accepted (state_of s) t call reply ok)

  pub known-now : known_in v ≡ known_of (start_in v) (history_in v)
  known-now = ap (λ (x : State). x.known) this.tied.state

  pub seats-now : map seat_view v.seats.seats ≡ seats_of v.limits.seats (history_in v)
  seats-now = ap (λ (x : State). x.seats) this.tied.state

  pub watch-now : v.watch ≡ watch_of (history_in v)
  watch-now = ap (λ (x : State). x.watch) this.tied.state

  -- what an entry leaves, part by part
  pub left-by : (t : ℕ) (call : Call) (reply : Reply) (known : Known) (live : List Bool)
      (seating : Seating) (watch : Watch) (owes : ℕ)
      → known ≡ known_of (start_in v) (entry t call reply ∷ history_in v)
      → live ≡ live_flags (length known.locks) (destroyed_of (entry t call reply ∷ history_in v))
      → map seat_view seating.seats
      ≡ seats_of v.limits.seats (entry t call reply ∷ history_in v)
      → watch ≡ watch_of (entry t call reply ∷ history_in v)
      → owes ≡ owed_to v.limits.seats (entry t call reply ∷ history_in v)
      → seating.chunks ≡ v.seats.chunks
      → Leaves v t call reply known live seating watch owes
  left-by t call reply known live seating watch owes knows lives rows watches sum size = record {
    state =
        same_state v.limits v.profile _ _ _ _ _ _ _ _ _ _ _ _ refl knows refl rows watches
        (omega arith);
    flags = lives;
    owed = sum ∙ ap (sum_by owed_by) (sym rows);
    chunks = size;
  }

  pub kind-now : (l : ℕ) (spin : Bool)
      → spin ≡ is_spin (lock_at (state_of s).known.locks l).made.class
      → spin ≡ is_spin_lock (locks_of (history_in v)) l
  kind-now l spin kind =
      spin_same v l spin (kind ∙ ap
      (λ (x : Story). is_spin (lock_at (state_of x).known.locks l).made.class) (sym this.seen))

  -- a request that is pending now was so after the history
  pub wants : (t : ℕ) (call : Call) (reply : Reply) (q : Request) → answer_of s t call ≡ Ok reply
      → (seat_at (state_of s) t).pending ≡ Some q → pending t (history_in v) ≡ Some q
  wants t call reply q ok asked =
      sym (pending-state (start_in v) v.known.files (history_in v) t
      (seat_accepted (state_of (story_in v)) t call reply (accepted t call reply ok)))
      ∙ (ap (λ (x : Story). (seat_at (state_of x) t).pending) this.seen ∙ asked)

  -- room in the log, of which some may have been reserved
  pub room_left : (more : ℕ) (log : Journal) → has_room (state_of (story_in v)) (more + 1) ≡ true
      → log ≡ record v.log { spare = log.spare }
      → length log.history + log.owed + more < log.limit
  room_left more log room same =
      let few = leb-true _ _ room in
      let history = ap (λ (x : Journal). length x.history) same in
      let owes = ap (λ (x : Journal). x.owed) same in
      let limit = ap (λ (x : Journal). x.limit) same in
      omega (
        arith,
        few,
        ap owed this.tied.state,
        this.tied.owed,
        this.tied.limit,
        history,
        owes,
        limit,
      )
