-- What a call that changes how a lock is held needs of a verifier's parts, and what it leaves of
-- them.
use Rattle.std.proofs.Common.{◌≡◌, ℕ, ◌+◌, ◌<◌, Bool, true, false, not, cond, List, ◌∷◌, length}
use Rattle.std.proofs.Common.{map, Ok, refl, sym, ap, ap₂, ◌∙◌, arith}
use Rattle.wit_model.specs.declared.locks.Instance.{Instance}
use Rattle.wit_model.specs.declared.locks.LockNo.{LockNo}
use Rattle.wit_model.specs.declared.locks.Mode.{Mode}
use Rattle.wit_model.specs.declared.locks.Mode.TheVariants.{Shared, Exclusive}
use Rattle.wit_model.specs.declared.calls.NewLock.{NewLock}
use Rattle.wit_model.specs.declared.calls.Call.{Call}
use Rattle.wit_model.specs.declared.calls.Call.TheVariants.{Upgrade, Downgrade, NoRelease}
use Rattle.wit_model.specs.declared.calls.Call.TheVariants.{ReleaseOk}
use Rattle.wit_model.specs.declared.calls.Reply.TheVariants.{Done}
use Rattle.wit_model.specs.declared.calls.Entry.{Entry}
use Rattle.wit_model.specs.Rules.Groups.{flat}
use Rattle.wit_model.specs.Rules.History.{pending, pending_after, watch_of}
use Rattle.wit_model.specs.Rules.Locks.{locks_of, lock_at, is_spin_lock, destroyed_of}
use Rattle.wit_model.specs.Rules.State.{Story, state_of, known_of}
use Rattle.wit_model.specs.Rules.State as model
use Rattle.wit_model.specs.Rules.Step.{answer_of}
use Rattle.wit_model.specs.Rules.Types.{is_spin}
use Rattle.wit_model.proofs.Chains.Changes.{at}
use Rattle.wit_model.proofs.Chains.Owed.{owed-even}
use Rattle.wit_model.proofs.Chains.Seats.{entry, reheld, seat_after, seat_after-turn}
use Rattle.wit_model.proofs.Chains.Seats.{seat_after-mark}
use Rattle.wit_model.proofs.Histories.AcceptedTurns.{is_plain, plain_accepted}
use Rattle.wit_model.proofs.Histories.Legal.{plain-even, plain-keeps}
use Rattle.wit_held.specs.Chains.{in_mode}
use Rattle.wit_held.specs.Marks.{marked}
use Rattle.wit_core.specs.declared.verifier.Verifier.TheInside.{Inside}
use Rattle.wit_waiting.specs.Seats.{numbers, seat_view}
use Rattle.wit_core.specs.Journal.{Journal}
use Rattle.wit_core.specs.Kept.{start_in, history_in, story_in, known_in}
use Rattle.wit_known.specs.Live.{live_flags}
use Rattle.wit_waiting.specs.Seats.{Holdings, with_seat}
use Rattle.wit_waiting.specs.Seats.{changed}
use Rattle.wit_core.specs.Turning.{turn_call, mark_call}
use Rattle.wit_core.proofs.Entries.Accepting.{accepted, sane_next, within, owed_now, known-now}
use Rattle.wit_core.proofs.Entries.Accepting.{seats-now, watch-now, left-by, kind-now, room_left}
use Rattle.wit_core.proofs.HeldSeats.{flat-changed, numbers-changed, seat}
use Rattle.wit_core.proofs.Keeping.{Leaves}
use Rattle.wit_core.proofs.Seen.{IsSeenAs}
use Rattle.wit_core.proofs.Steps.{known-same, seats-after}

-- a seat of which one lock is changed but for its number, as the rules see it
pub changed-view : (ls : List NewLock) (l : ℕ) (f : Instance → Instance)
    → ((i : Instance) → (f i).lock.0 ≡ i.lock.0) → (spin : Bool) (s : Holdings)
    → spin ≡ is_spin_lock ls l
    → seat_view (changed spin l f s) ≡ reheld ls l f (seat_view s)
changed-view ls l f keeps spin s kind = by spin ∙ ap form kind
  where
    form : Bool → model.Seat
    form b =
        seat (cond (not b) (map (at l f) (flat s.sleep)) (flat s.sleep))
        (cond b (map (at l f) (flat s.spin)) (flat s.spin)) (numbers s.sleep)
        (numbers s.spin) s.pending

    by : (b : Bool) → seat_view (changed b l f s) ≡ form b
    by true =
        ap₂ (λ c gs. seat (flat s.sleep) c (numbers s.sleep) gs s.pending) (flat-changed l f s.spin)
        (numbers-changed l f keeps s.spin)
    by false =
        ap₂ (λ c gs. seat c (flat s.spin) gs (numbers s.spin) s.pending) (flat-changed l f s.sleep)
        (numbers-changed l f keeps s.sleep)

module _ {v : Inside} {s : Story} (this : IsSeenAs v s) (t : ℕ) (l : LockNo) where
  abbrev h : List Entry
  h = history_in v

  -- room for the entry of a plain call
  plain_room : (call : Call) (log : Journal) → answer_of s t call ≡ Ok Done → is_plain call ≡ true
      → log ≡ record v.log { spare = log.spare }
      → length log.history + log.owed + 0 < log.limit
  plain_room call log ok plain same =
      room_left this 0 log (plain_accepted (state_of (story_in v)) t call Done plain
      (accepted this t call Done ok) refl).room same

  pub turn_room : (m : Mode) (log : Journal) → answer_of s t (turn_call m l) ≡ Ok Done
      → log ≡ record v.log { spare = log.spare }
      → length log.history + log.owed + 0 < log.limit
  turn_room Exclusive log ok same = plain_room (Upgrade l) log ok refl same
  turn_room Shared log ok same = plain_room (Downgrade l) log ok refl same

  pub mark_room : (b : Bool) (log : Journal) → answer_of s t (mark_call b l) ≡ Ok Done
      → log ≡ record v.log { spare = log.spare }
      → length log.history + log.owed + 0 < log.limit
  mark_room true log ok same = plain_room (NoRelease l) log ok refl same
  mark_room false log ok same = plain_room (ReleaseOk l) log ok refl same

  module _ (spin : Bool) (kind : spin
      ≡ is_spin (lock_at (state_of s).known.locks l.0).made.class) where
    -- a plain call that changes a lock of its seat, and nothing else
    leaves-changed : (call : Call) (f : Instance → Instance)
        → ((i : Instance) → (f i).lock.0 ≡ i.lock.0) → answer_of s t call ≡ Ok Done
        → is_plain call ≡ true
        → ((r : model.Seat) → pending_after call r.pending ≡ r.pending
        → seat_after (locks_of h) (entry t call Done) r ≡ reheld (locks_of h) l.0 f r)
        → known_of (start_in v) h ≡ known_of (start_in v) (entry t call Done ∷ h)
        → destroyed_of h ≡ destroyed_of (entry t call Done ∷ h)
        → watch_of h ≡ watch_of (entry t call Done ∷ h)
        → Leaves v t call Done (known_in v) v.known.live
        (with_seat t (changed spin l.0 f) v.seats) v.watch (v.log.owed + 0)
    leaves-changed call f keeps ok plain seat knows lives watches =
        let sane = sane_next this t call Done ok in
        let in_row = within this t call Done ok in
        let same =
        owed-even v.limits.seats t call Done h sane in_row.0 in_row.1
        (plain-even call Done plain) (plain-keeps call (pending t h) plain) in
        left-by this t call Done _ _ _ _ _
        (known-now this ∙ knows)
        (this.tied.live ∙ ap (live_flags (length v.known.known.locks)) lives)
        (seats-after (start_in v) v.known.files h v.seats
        (seats-now this) t in_row.0 in_row.1 call Done (changed spin l.0 f) sane
        (changed-view (locks_of h) l.0 f keeps spin _ (kind-now this l.0 spin kind)
        ∙ sym (seat _ (plain-keeps call _ plain))))
        (watch-now this ∙ watches) (omega (arith, same, owed_now this)) refl

    pub leaves_turn : (m : Mode) → answer_of s t (turn_call m l) ≡ Ok Done
        → Leaves v t (turn_call m l) Done (known_in v) v.known.live
        (with_seat t (changed spin l.0 (in_mode m)) v.seats) v.watch (v.log.owed + 0)
    leaves_turn Exclusive ok =
        leaves-changed (Upgrade l) (in_mode Exclusive) (λ i. refl) ok refl
        (λ r keeps. seat_after-turn (locks_of h) t (Upgrade l) Done l.0 Exclusive r refl keeps)
        (known-same (start_in v) h t (Upgrade l) Done refl refl refl refl) refl refl
    leaves_turn Shared ok =
        leaves-changed (Downgrade l) (in_mode Shared) (λ i. refl) ok refl
        (λ r keeps. seat_after-turn (locks_of h) t (Downgrade l) Done l.0 Shared r refl keeps)
        (known-same (start_in v) h t (Downgrade l) Done refl refl refl refl) refl refl

    pub leaves_mark : (b : Bool) → answer_of s t (mark_call b l) ≡ Ok Done
        → Leaves v t (mark_call b l) Done (known_in v) v.known.live
        (with_seat t (changed spin l.0 (marked b)) v.seats) v.watch (v.log.owed + 0)
    leaves_mark true ok =
        leaves-changed (NoRelease l) (marked true) (λ i. refl) ok refl
        (λ r keeps. seat_after-mark (locks_of h) t (NoRelease l) Done l.0 true r refl keeps)
        (known-same (start_in v) h t (NoRelease l) Done refl refl refl refl) refl refl
    leaves_mark false ok =
        leaves-changed (ReleaseOk l) (marked false) (λ i. refl) ok refl
        (λ r keeps. seat_after-mark (locks_of h) t (ReleaseOk l) Done l.0 false r refl keeps)
        (known-same (start_in v) h t (ReleaseOk l) Done refl refl refl refl) refl refl
