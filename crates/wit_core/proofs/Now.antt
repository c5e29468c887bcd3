-- What a verifier's parts say of the state that its story has now.
use Rattle.std.proofs.Common.{◌≡◌, ℕ, Bool, true, false, not, ◌&&◌, ◌||◌, List, [], ◌∷◌, cond, eqb}
use Rattle.std.proofs.Common.{nat_lt, nat_le, length, map, find, Some, None, is_some, refl, sym, ap}
use Rattle.std.proofs.Common.{ap₂, ◌∙◌, subst, arith}
use Rattle.std.specs.List.{list_any}
use Rattle.std.proofs.lemmas.Bool.{and_parts, ltb-true, leb-true}
use Rattle.std.proofs.lemmas.List.{length-map}
use Rattle.wit_model.specs.declared.calls.Reply.TheVariants as reply
use Rattle.wit_model.specs.Rules.Groups.{opens}
use Rattle.wit_model.specs.Rules.History.{is_off, chain}
use Rattle.wit_model.specs.Rules.Locks.{locks_of, lock_at, is_spin_lock, destroyed_of}
use Rattle.wit_model.specs.Rules.Numbers.{is_given, IsGiven}
use Rattle.wit_model.specs.Rules.State.{Story, State, state_of, live, is_seat, seat_at, seat_among}
use Rattle.wit_model.specs.Rules.State.{chain_in, groups_in, free, is_live}
use Rattle.wit_model.specs.Rules.State as model
use Rattle.wit_model.specs.Rules.Step.{chain_for, groups_for, recorded_reply}
use Rattle.wit_model.specs.Rules.Types.{is_spin}
use Rattle.wit_model.specs.Rules.Destroying.{uses, is_used}
use Rattle.wit_model.specs.Rules.Verdict.{is_of}
use Rattle.wit_model.proofs.Numbered.{with_number-or-map}
use Rattle.wit_model.proofs.Chains.Stands.{stands-chain}
use Rattle.wit_model.proofs.Histories.Legal.{sane_legal, chain_for-state}
use Rattle.wit_held.specs.Chains.{IsOnce}
use Rattle.wit_core.specs.declared.verifier.Verifier.TheInside.{Inside}
use Rattle.wit_core.specs.declared.acquiring.Acquisition.TheVariants.{Recorded, Exhausted}
use Rattle.wit_core.specs.declared.acquiring.Acquisition.TheVariants.{Unrecorded}
use Rattle.wit_core.specs.Acquiring.{acquisition, reply_to}
use Rattle.wit_waiting.specs.Seats.{numbers, seat_view}
use Rattle.wit_core.specs.Kept.{start_in, history_in, state_in}
use Rattle.wit_waiting.specs.Seats.{Holdings, Seating, no_holdings, seat_in, locks_in, free_in}
use Rattle.wit_waiting.specs.Seats.{has_no_room}
use Rattle.wit_waiting.specs.Seats as seats
use Rattle.wit_core.proofs.HeldSeats.{opens-numbers, chunks-viewed, stands-filter}
use Rattle.wit_known.proofs.Living.{count-told}
use Rattle.wit_known.proofs.LiveFlags.{flag-is}
use Rattle.wit_known.specs.Live.{is_flagged, live_count, live_told}
use Rattle.wit_core.proofs.Seen.{IsSeenAs}

-- a row's seats as the rules see them
abbrev pub view_at : Seating → ℕ → model.Seat
view_at seating t = seat_among (map seat_view seating.seats) t

pub view-is : (seating : Seating) (t : ℕ) → view_at seating t ≡ seat_view (seat_in seating t)
view-is seating t = with_number-or-map seat_view seating.seats t no_holdings

chain-in : (spin : Bool) (s : Holdings) → chain_in spin (seat_view s) ≡ locks_in spin s
chain-in true s = refl
chain-in false s = refl

groups-in : (spin : Bool) (s : Holdings) → groups_in spin (seat_view s)
    ≡ numbers (seats.groups_held spin s)
groups-in true s = refl
groups-in false s = refl

-- one more acquisition, by what is known of the lock and the chunks
told_by : (off held opened none : Bool)
    → reply_to (cond off Unrecorded (cond (not held && (opened && none)) Exhausted Recorded))
    ≡ cond off reply.Unrecorded (cond held reply.Recorded
    (cond (opened && none) reply.Exhausted reply.Recorded))
told_by true held opened none = refl
told_by false true opened none = refl
told_by false false true true = refl
told_by false false true false = refl
told_by false false false none = refl

module _ {v : Inside} {s : Story} (this : IsSeenAs v s) where
  pub now : state_in v ≡ state_of s
  now = this.tied.state ∙ ap state_of this.seen

  -- the seats
  count : length v.seats.seats ≡ length (state_of s).seats
  count = sym (length-map v.seats.seats seat_view) ∙ ap (λ (x : State). length x.seats) now

  pub seat-given : (t : ℕ) → is_seat (state_of s) t ≡ true → IsGiven v.seats.seats t
  seat-given t is =
      let parts = and_parts (nat_lt 0 t) (nat_le t (length (state_of s).seats)) is in
      let some = ltb-true 0 t parts.0 in
      let within = leb-true t (length (state_of s).seats) parts.1 in
      (omega (arith, some), omega (arith, within, count))

  seat-now : (t : ℕ) → seat_view (seat_in v.seats t) ≡ seat_at (state_of s) t
  seat-now t = sym (view-is v.seats t) ∙ ap (λ (x : State). seat_at x t) now

  pub locks-told : (t : ℕ) (spin : Bool) → locks_in spin (seat_in v.seats t)
      ≡ chain_in spin (seat_at (state_of s) t)
  locks-told t spin = sym (chain-in spin (seat_in v.seats t)) ∙ ap (chain_in spin) (seat-now t)

  pub free-told : free_in v.seats ≡ free (state_of s)
  free-told =
      let sum = chunks-viewed v.seats.seats in
      let size = this.tied.chunks in
      let same : free (state_in v) ≡ free_in v.seats = omega (arith, sum, size) in
      sym same ∙ ap free now

  -- whether a lock is live
  pub live-now : (l : ℕ) → is_flagged v.known.live l ≡ is_live (state_of s) l
  live-now l =
      ap (λ bs. is_flagged bs l) this.tied.live
      ∙ flag-is (length v.known.known.locks) l (destroyed_of (history_in v))
      ∙ ap (λ (x : State). is_live x l) now

  -- how many locks of a type are
  live-counted : (t : ℕ) → live_count v.known.known.locks v.known.live t ≡ live (state_of s) t
  live-counted t =
      ap (λ bs. live_count v.known.known.locks bs t) this.tied.live
      ∙ count-told v.known.known.locks (destroyed_of (history_in v)) t
      ∙ ap (λ (x : State). live x t) now

  pub live-told : (t : ℕ) → is_given v.known.known.types t ≡ true
      → Some (live_count v.known.known.locks v.known.live t) ≡ live_told (state_of s) t
  live-told t given =
      ap Some (live-counted t)
      ∙ sym (ap (λ b. cond b (Some (live (state_of s) t)) None)
      (sym (ap (λ (x : State). is_given x.known.types t) now) ∙ given))

  -- the chain of a lock's kind
  module _ (t l : ℕ) (spin : Bool)
      (kind : spin ≡ is_spin (lock_at (state_of s).known.locks l).made.class) where
    pub chain-now : locks_in spin (seat_in v.seats t) ≡ chain_for (state_of s) t l
    chain-now = locks-told t spin ∙ ap (λ b. chain_in b (seat_at (state_of s) t)) kind

    groups-now : numbers (seats.groups_held spin (seat_in v.seats t)) ≡ groups_for (state_of s) t l
    groups-now =
        sym (groups-in spin (seat_in v.seats t)) ∙ ap (groups_in spin) (seat-now t)
        ∙ ap (λ b. groups_in b (seat_at (state_of s) t)) kind

    pub once-now : is_seat (state_of s) t ≡ true → IsOnce l (locks_in spin (seat_in v.seats t))
    once-now is =
        let in_history = subst (λ (x : Story). is_seat (state_of x) t ≡ true) (sym this.seen) is in
        let once =
        stands-chain (is_spin_lock (locks_of (history_in v)) l) t l (history_in v)
        (sane_legal (start_in v) v.known.files (history_in v) this.tied.legal) in
        subst (IsOnce l) (sym chain-now)
        (subst (λ (x : Story). IsOnce l (chain_for (state_of x) t l)) this.seen
        (subst (IsOnce l) (sym (chain_for-state (start_in v) v.known.files
        (history_in v) t l in_history))
        (omega (
          arith,
          once,
          stands-filter l
              (chain (is_spin_lock (locks_of (history_in v)) l) t (history_in v)),
        ))))

    -- what becomes of an acquisition
    pub acquisition-told : reply_to (acquisition v.watch v.seats t spin l)
        ≡ recorded_reply (state_of s) t l
    acquisition-told =
        told_by (is_off v.watch) (is_some (find (is_of l) (locks_in spin (seat_in v.seats t))))
        (opens (seats.groups_held spin (seat_in v.seats t))) (eqb (free_in v.seats) 0)
        ∙ ap (λ w. cond (is_off w) reply.Unrecorded
        (cond (is_some (find (is_of l) (locks_in spin (seat_in v.seats t)))) reply.Recorded
        (cond (opens (seats.groups_held spin (seat_in v.seats t)) && eqb (free_in v.seats) 0)
        reply.Exhausted reply.Recorded)))
        (ap (λ (x : State). x.watch) now)
        ∙ ap₂ (λ b c. cond (is_off (state_of s).watch) reply.Unrecorded
        (cond b reply.Recorded (cond c reply.Exhausted reply.Recorded)))
        (ap (λ c. is_some (find (is_of l) c)) chain-now)
        (ap₂ (λ o n. o && eqb n 0) (sym (opens-numbers (seats.groups_held spin (seat_in v.seats t)))
        ∙ ap opens groups-now) free-told)

-- a property of some seat, as the rules see it
pub any-viewed : (has : model.Seat → Bool) (ss : List Holdings)
    → list_any (λ s. has (seat_view s)) ss ≡ list_any has (map seat_view ss)
any-viewed has [] = refl
any-viewed has (s ∷ ss) = ap (λ b. has (seat_view s) || b) (any-viewed has ss)

-- whether some seat holds a lock or asks for it
module _ {v : Inside} {s : Story} (this : IsSeenAs v s) (l : ℕ) where
  pub used-now : list_any (λ x. uses l (seat_view x)) v.seats.seats ≡ is_used (state_of s) l
  used-now = any-viewed (uses l) v.seats.seats ∙ ap (λ (x : State). is_used x l) (now this)
