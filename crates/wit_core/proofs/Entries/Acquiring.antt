-- An acquisition that is noted, and one that is tried.
use Rattle.std.proofs.Common.{◌≡◌, ℕ, ◌+◌, ◌-◌, ◌<◌, ◌≤◌, Bool, true, false, Option, None, Some, Ok}
use Rattle.std.proofs.Common.{length, map, find, get_or, refl, sym, ap, ◌∙◌, arith}
use Rattle.std.proofs.lemmas.List.{length-set}
use Rattle.wit_model.specs.declared.locks.Instance.{Instance}
use Rattle.wit_model.specs.declared.locks.LockNo.{LockNo}
use Rattle.wit_model.specs.declared.locks.Mode.{Mode}
use Rattle.wit_model.specs.declared.locks.Site.{Site}
use Rattle.wit_model.specs.declared.calls.Request.{Request}
use Rattle.wit_model.specs.declared.calls.Call.{Call}
use Rattle.wit_model.specs.declared.calls.Call.TheVariants.{Note, NoteTry}
use Rattle.wit_model.specs.declared.calls.Reply.{Reply}
use Rattle.wit_model.specs.declared.calls.Reply.TheVariants as reply
use Rattle.wit_model.specs.declared.sizes.TheConstants.Limits.{DEEPEST}
use Rattle.wit_model.specs.Rules.Numbers.{IsGiven}
use Rattle.wit_model.specs.Rules.Types.{is_spin}
use Rattle.wit_model.specs.Rules.Locks.{lock_at}
use Rattle.wit_model.specs.Rules.History.{is_off}
use Rattle.wit_model.specs.Rules.State.{Story, state_of, seat_at}
use Rattle.wit_model.specs.Rules.Step.{answer_of, is_logged, held_by, recorded_reply}
use Rattle.wit_model.specs.Rules.Verdict.{is_of}
use Rattle.wit_model.proofs.Chains.Owed.{owed-note, owed-unnoted, owed-try, owed-same}
use Rattle.wit_model.proofs.Chains.Depth.{note-count, try-count}
use Rattle.wit_model.proofs.Histories.Accepted.{note_accepted, try_accepted}
use Rattle.wit_model.proofs.Histories.Legal.{seat_accepted}
use Rattle.wit_held.specs.Chains.{IsOnce, IsShallow, CanRise}
use Rattle.wit_core.specs.declared.verifier.Verifier.TheInside.{Inside}
use Rattle.wit_core.specs.declared.acquiring.Acquisition.{Acquisition}
use Rattle.wit_core.specs.declared.acquiring.Acquisition.TheVariants.{Recorded, Exhausted}
use Rattle.wit_core.specs.declared.acquiring.Acquisition.TheVariants.{Unrecorded}
use Rattle.wit_core.specs.Acquiring.{reply_to, owed_after, acquisition, watch_then, seating_then}
use Rattle.wit_core.specs.Acquiring.{taken}
use Rattle.wit_waiting.specs.Seats.{seat_view}
use Rattle.wit_core.specs.Journal.{Journal}
use Rattle.wit_core.specs.Kept.{start_in, history_in, story_in, known_in}
use Rattle.wit_waiting.specs.Seats.{Seating, no_holdings, seat_in, locks_in, with_seat, asking}
use Rattle.wit_waiting.specs.Seats.{having_acquired}
use Rattle.wit_core.proofs.Keeping.{Leaves}
use Rattle.wit_core.proofs.Now.{chain-now, once-now, acquisition-told}
use Rattle.wit_core.proofs.Seen.{IsSeenAs}
use Rattle.wit_core.proofs.Steps.{known-same, seat-twice, in-row, seats-quiet, seats-same}
use Rattle.wit_core.proofs.Steps.{seats-note, seats-try}
use Rattle.wit_core.proofs.Entries.Accepting.{accepted, kind-now, known-now, left-by, owed_now}
use Rattle.wit_core.proofs.Entries.Accepting.{room_left, sane_next, seats-now, wants, watch-now}
use Rattle.wit_core.proofs.Entries.Accepting.{within}

can_rise : (o : Option Instance) → ((i : Instance) → o ≡ Some i → i.count + 1 ≤ DEEPEST) → CanRise o
can_rise None bound = tt
can_rise (Some i) bound = let few = bound i refl in omega (arith, few)

pub owed-few : (a : Acquisition) → owed_after a ≤ 1
owed-few Recorded = omega arith
owed-few Exhausted = omega arith
owed-few Unrecorded = omega arith

-- a reply to an acquisition is logged
pub reply-logged : (a : Acquisition) → is_logged (reply_to a) ≡ true
reply-logged Recorded = refl
reply-logged Exhausted = refl
reply-logged Unrecorded = refl

-- the seats stand under their numbers after an acquisition too
pub given-then : (a : Acquisition) (t n : ℕ) (spin : Bool) (i : Instance) (seating : Seating)
    → IsGiven seating.seats t → IsGiven (seating_then a n spin i seating).seats t
given-then Recorded t n spin i seating given = (
  given.0,
  omega (
    arith,
    given.1,
    length-set seating.seats (n - 1)
        (having_acquired spin i (get_or seating.seats (n - 1) no_holdings)),
  ),
)
given-then Exhausted t n spin i seating given = given
given-then Unrecorded t n spin i seating given = given

module _ {v : Inside} {s : Story} (this : IsSeenAs v s) where
  module _ (t : ℕ) (l : LockNo) (spin : Bool)
      (kind : spin ≡ is_spin (lock_at (state_of s).known.locks l.0).made.class) where
    -- its reply is the rules'
    pub reply-told : (a : Acquisition) → a ≡ acquisition v.watch v.seats t spin l.0
        → reply_to a ≡ recorded_reply (state_of s) t l.0
    reply-told a is = ap reply_to is ∙ acquisition-told this t l.0 spin kind

    -- the lock stands once, and its count can rise
    pub acquire_once : (call : Call) (reply : Reply) → answer_of s t call ≡ Ok reply
        → IsOnce l.0 (locks_in spin (seat_in v.seats t))
    acquire_once call reply ok =
        once-now this t l.0 spin kind (seat_accepted (state_of s) t call reply ok)

    held-then : (i : Instance) → find (is_of l.0) (locks_in spin (seat_in v.seats t)) ≡ Some i
        → held_by (state_of (story_in v)) t l.0 ≡ Some i
    held-then i is =
        ap (λ (x : Story). held_by (state_of x) t l.0) this.seen
        ∙ ap (find (is_of l.0)) (sym (chain-now this t l.0 spin kind)) ∙ is

    pub note_shallow : (reply : Reply) → answer_of s t (Note l) ≡ Ok reply → is_off v.watch ≡ false
        → IsShallow l.0 (locks_in spin (seat_in v.seats t))
    note_shallow reply ok some =
        can_rise (find (is_of l.0) (locks_in spin (seat_in v.seats t)))
        (λ i is. note-count (start_in v) v.known.files (history_in v) t l.0 reply i this.tied.legal
        (note_accepted (state_of (story_in v)) t l.0 reply (accepted this t (Note l) reply ok))
        (ap is_off (sym (watch-now this)) ∙ some) (held-then i is))

    pub try_shallow : (m : Mode) (site : Site) (reply : Reply)
        → answer_of s t (NoteTry l m site) ≡ Ok reply → is_off v.watch ≡ false
        → IsShallow l.0 (locks_in spin (seat_in v.seats t))
    try_shallow m site reply ok some =
        can_rise (find (is_of l.0) (locks_in spin (seat_in v.seats t)))
        (λ i is. try-count (start_in v) v.known.files (history_in v) t l.0 m site reply i
        this.tied.legal
        (try_accepted (state_of (story_in v)) t l.0 m site reply
        (accepted this t (NoteTry l m site) reply ok)) (ap is_off (sym (watch-now this)) ∙ some)
        (held-then i is))

    module _ (q : Request) (asked : (seat_at (state_of s) t).pending ≡ Some q) where
      pub note_owed : (a : Acquisition) → answer_of s t (Note l) ≡ Ok (reply_to a)
          → 1 - owed_after a < v.log.owed
      note_owed a ok = go a ok
        where
          go : (b : Acquisition) → answer_of s t (Note l) ≡ Ok (reply_to b)
              → 1 - owed_after b < v.log.owed
          go Recorded at =
              let in_row = within this t (Note l) reply.Recorded at in
              let less =
              owed-note v.limits.seats t l q (history_in v)
              (sane_next this t (Note l) reply.Recorded at) in_row.0 in_row.1
              (wants this t (Note l) reply.Recorded q at asked) in
              omega (arith, less, owed_now this)
          go Exhausted at =
              let in_row = within this t (Note l) reply.Exhausted at in
              let less =
              owed-unnoted v.limits.seats t l reply.Exhausted q (history_in v)
              (sane_next this t (Note l) reply.Exhausted at) in_row.0 in_row.1 refl
              (wants this t (Note l) reply.Exhausted q at asked) in
              omega (arith, less, owed_now this)
          go Unrecorded at =
              let in_row = within this t (Note l) reply.Unrecorded at in
              let less =
              owed-unnoted v.limits.seats t l reply.Unrecorded q (history_in v)
              (sane_next this t (Note l) reply.Unrecorded at) in_row.0 in_row.1 refl
              (wants this t (Note l) reply.Unrecorded q at asked) in
              omega (arith, less, owed_now this)

      pub leaves_note : (a : Acquisition) → answer_of s t (Note l) ≡ Ok (reply_to a)
          → Leaves v t (Note l) (reply_to a) (known_in v) v.known.live
          (with_seat t (asking None) (seating_then a t spin (taken l q.mode q.site) v.seats))
          (watch_then a v.watch)
          (v.log.owed - (1 - owed_after a + 1))
      leaves_note Recorded ok =
          let sane = sane_next this t (Note l) reply.Recorded ok in
          let in_row = within this t (Note l) reply.Recorded ok in
          let less =
          owed-note v.limits.seats t l q (history_in v) sane in_row.0 in_row.1
          (wants this t (Note l) reply.Recorded q ok asked) in
          left-by this t (Note l) reply.Recorded _ _ _ _ _
          (known-now this ∙ known-same (start_in v) (history_in v) t
          (Note l) reply.Recorded refl refl refl refl)
          this.tied.live
          (ap (λ (r : Seating). map seat_view r.seats)
          (seat-twice v.seats t (asking None) (having_acquired spin (taken l q.mode q.site))
          (in-row (start_in v) v.known.files (history_in v) v.seats
          (seats-now this) t in_row.0 in_row.1))
          ∙ seats-note (start_in v) v.known.files (history_in v) v.seats
          (seats-now this) t in_row.0 in_row.1 l spin (kind-now this l.0 spin kind) q sane
          (wants this t (Note l) reply.Recorded q ok asked))
          (watch-now this) (omega (arith, less, owed_now this)) refl
      leaves_note Exhausted ok =
          let sane = sane_next this t (Note l) reply.Exhausted ok in
          let in_row = within this t (Note l) reply.Exhausted ok in
          let less =
          owed-unnoted v.limits.seats t l reply.Exhausted q (history_in v) sane in_row.0
          in_row.1 refl (wants this t (Note l) reply.Exhausted q ok asked) in
          left-by this t (Note l) reply.Exhausted _ _ _ _ _
          (known-now this ∙ known-same (start_in v) (history_in v) t
          (Note l) reply.Exhausted refl refl refl refl)
          this.tied.live
          (seats-quiet (start_in v) v.known.files (history_in v) v.seats
          (seats-now this) t in_row.0 in_row.1 (Note l) reply.Exhausted None sane refl refl)
          refl (omega (arith, less, owed_now this)) refl
      leaves_note Unrecorded ok =
          let sane = sane_next this t (Note l) reply.Unrecorded ok in
          let in_row = within this t (Note l) reply.Unrecorded ok in
          let less =
          owed-unnoted v.limits.seats t l reply.Unrecorded q (history_in v) sane in_row.0
          in_row.1 refl (wants this t (Note l) reply.Unrecorded q ok asked) in
          left-by this t (Note l) reply.Unrecorded _ _ _ _ _
          (known-now this ∙ known-same (start_in v) (history_in v) t
          (Note l) reply.Unrecorded refl refl refl refl)
          this.tied.live
          (seats-quiet (start_in v) v.known.files (history_in v) v.seats
          (seats-now this) t in_row.0 in_row.1 (Note l) reply.Unrecorded None sane refl refl)
          (watch-now this) (omega (arith, less, owed_now this)) refl

    pub leaves_try : (m : Mode) (site : Site) (a : Acquisition)
        → answer_of s t (NoteTry l m site) ≡ Ok (reply_to a)
        → Leaves v t (NoteTry l m site) (reply_to a) (known_in v) v.known.live
        (seating_then a t spin (taken l m site) v.seats) (watch_then a v.watch)
        (v.log.owed + owed_after a)
    leaves_try m site Recorded ok =
        let sane = sane_next this t (NoteTry l m site) reply.Recorded ok in
        let in_row = within this t (NoteTry l m site) reply.Recorded ok in
        let more = owed-try v.limits.seats t l m site (history_in v) sane in_row.0 in_row.1 in
        left-by this t (NoteTry l m site) reply.Recorded _ _ _ _ _
        (known-now this ∙ known-same (start_in v) (history_in v) t
        (NoteTry l m site) reply.Recorded refl refl refl refl)
        this.tied.live
        (seats-try (start_in v) v.known.files (history_in v) v.seats
        (seats-now this) t in_row.0 in_row.1 l spin (kind-now this l.0 spin kind) m site sane)
        (watch-now this) (omega (arith, more, owed_now this)) refl
    leaves_try m site Exhausted ok =
        let sane = sane_next this t (NoteTry l m site) reply.Exhausted ok in
        let in_row = within this t (NoteTry l m site) reply.Exhausted ok in
        let same =
        owed-same v.limits.seats t (NoteTry l m site) reply.Exhausted
        (history_in v) sane in_row.0 in_row.1 refl refl in
        left-by this t (NoteTry l m site) reply.Exhausted _ _ _ _ _
        (known-now this ∙ known-same (start_in v) (history_in v) t
        (NoteTry l m site) reply.Exhausted refl refl refl refl)
        this.tied.live
        (seats-same (start_in v) v.known.files (history_in v) v.seats
        (seats-now this) t in_row.0 in_row.1 (NoteTry l m site) reply.Exhausted sane refl refl)
        refl (omega (arith, same, owed_now this)) refl
    leaves_try m site Unrecorded ok =
        let sane = sane_next this t (NoteTry l m site) reply.Unrecorded ok in
        let in_row = within this t (NoteTry l m site) reply.Unrecorded ok in
        let same =
        owed-same v.limits.seats t (NoteTry l m site) reply.Unrecorded
        (history_in v) sane in_row.0 in_row.1 refl refl in
        left-by this t (NoteTry l m site) reply.Unrecorded _ _ _ _ _
        (known-now this ∙ known-same (start_in v) (history_in v) t
        (NoteTry l m site) reply.Unrecorded refl refl refl refl)
        this.tied.live
        (seats-same (start_in v) v.known.files (history_in v) v.seats
        (seats-now this) t in_row.0 in_row.1 (NoteTry l m site) reply.Unrecorded sane refl refl)
        (watch-now this) (omega (arith, same, owed_now this)) refl

  pub try_room : (t : ℕ) (l : LockNo) (m : Mode) (site : Site) (a : Acquisition) (log : Journal)
      → answer_of s t (NoteTry l m site) ≡ Ok (reply_to a)
      → log ≡ record v.log { spare = log.spare }
      → length log.history + log.owed + owed_after a < log.limit
  try_room t l m site a log ok same =
      let room =
      room_left this 1 log (try_accepted (state_of (story_in v)) t l.0 m site (reply_to a)
      (accepted this t (NoteTry l m site) (reply_to a) ok)).room same in
      omega (arith, room, owed-few a)
