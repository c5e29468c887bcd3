-- A pending request was accepted: its note is accepted too.
use Rattle.std.proofs.Common.{◌≡◌, ℕ, ◌<◌, ◌≤◌, Bool, true, not, cond, List, [], ◌∷◌, length}
use Rattle.std.proofs.Common.{length-append, Option, Some, Result, Ok, Err, refl, ap, sym, ◌∙◌}
use Rattle.std.proofs.Common.{subst, inl, inr, arith, false, ⊎_elim}
use Rattle.std.proofs.lemmas.Bool.{eq-eqb, and_from, lt-ltb, le-leb, or_cases, or_right}
use Rattle.std.proofs.lemmas.Bool.Decides.{eqb_tells}
use Rattle.std.proofs.lemmas.List.FromFn.{length-map-range_with_len}
use Rattle.wit_model.specs.declared.faults.Fault.{Fault}
use Rattle.wit_model.specs.declared.faults.Fault.TheVariants.{UnknownSeat, UnknownLock}
use Rattle.wit_model.specs.declared.faults.Fault.TheVariants.{NotRequested}
use Rattle.wit_model.specs.declared.calls.Request.{Request}
use Rattle.wit_model.specs.declared.calls.Call.{Call}
use Rattle.wit_model.specs.declared.calls.Call.TheVariants.{Check, Note, GiveUp}
use Rattle.wit_model.specs.declared.calls.Reply.{Reply}
use Rattle.wit_model.specs.declared.calls.Reply.TheVariants.{Done}
use Rattle.wit_model.specs.declared.calls.Entry.{Entry}
use Rattle.wit_model.specs.Rules.Locks.{made_among, destroyed_of, is_destroyed}
use Rattle.wit_model.specs.Rules.History.{pending, pending_after, is_held}
use Rattle.wit_model.specs.Rules.State.{Start, Story, state_of, seat_of, seats_of, seat_at, is_seat}
use Rattle.wit_model.specs.Rules.State.{types_of, typed_locks, is_live}
use Rattle.wit_model.specs.Rules.Step.{is_for, recorded_reply, answer_of, story_after, logged}
use Rattle.wit_model.specs.Rules.Step.{IsLegal}
use Rattle.wit_model.specs.Rules.Numbers.{is_given}
use Rattle.wit_model.proofs.Chains.Seats.{entry}
use Rattle.wit_model.proofs.Orders.TypedLocks.{length-typed, made-known, known-made}
use Rattle.wit_model.proofs.Histories.Accepted.{same-request, check_accepted, asked-lock}
use Rattle.wit_model.proofs.Histories.Accepted.{live-undestroyed}
use Rattle.wit_model.proofs.Histories.Legal.{seat-within, pending-state, sane_legal}
use Rattle.wit_model.proofs.Chains.Held.{made_sane}
use Rattle.wit_model.proofs.Histories.Used.{used-undestroyed, uses_after}

-- the request's seat is known, and its lock was made
record IsGood (start : Start) (h : List Entry) (t : ℕ) (q : Request) : Type 0 where
  seat : (0 < t) × (t ≤ start.sizes.seats)
  lock : is_given (typed_locks start h) q.lock.0 ≡ true

Asks : Start → List Entry → ℕ → Option Request → Type 0
Asks start h t o = (q : Request) → o ≡ Some q → IsGood start h t q

pub made-later : (start : Start) (x : Entry) (h : List Entry) (l : ℕ)
    → is_given (typed_locks start h) l ≡ true → is_given (typed_locks start (x ∷ h)) l ≡ true
made-later start x h l is =
    let was = made-known start h l is in
    known-made start (x ∷ h) l (
      was.0,
      omega (arith, was.1, length-more x, length-typed start h, length-typed start (x ∷ h)),
    )
  where
    length-more : (e : Entry) → length (typed_locks start h) ≤ length (typed_locks start (e ∷ h))
    length-more e =
        omega (arith, length-append (typed_locks start h) (made_among (types_of start h) e.call))

good-later : (start : Start) (x : Entry) (h : List Entry) (t : ℕ) (q : Request) → IsGood start h t q
    → IsGood start (x ∷ h) t q
good-later start x h t q g = record { seat = g.seat; lock = made-later start x h q.lock.0 g.lock }

asks_own : (start : Start) (files : List (List ℕ)) (h : List Entry) (t : ℕ) (c : Call) (r : Reply)
    → answer_of (story_after start files h) t c ≡ Ok r
    → Asks start h t (pending t h) → Asks start (entry t c r ∷ h) t (pending_after c (pending t h))
unfolding Asks
asks_own start files h t (Check p) r ok asks = λ q is.
    let a = check_accepted (state_of (story_after start files h)) t p r ok in
    subst (λ (k : Request). IsGood start (entry t (Check p) r ∷ h) t k) (same-request p q is)
    (good-later start (entry t (Check p) r) h t p
    (record { seat = seat-within start files h t a.seat; lock = a.lock }))
asks_own start files h t (Note l) r ok asks = λ q is. absurd (cc)
asks_own start files h t (GiveUp l) r ok asks = λ q is. absurd (cc)
asks_own start files h t c r ok asks = λ q is. good-later start (entry t c r) h t q (asks q is)

asks_by : (start : Start) (files : List (List ℕ)) (h : List Entry) (t : ℕ) (x : Entry)
    → answer_of (story_after start files h) x.seat.0 x.call ≡ Ok x.reply
    → Asks start h t (pending t h) → Asks start (x ∷ h) t (pending t (x ∷ h))
unfolding Asks
asks_by start files h t x ok asks =
    elim (eqb_tells x.seat.0 t) [
      | inl e ↦ subst (λ s. Asks start (x ∷ h) s (pending s (x ∷ h))) e.1
          (subst (λ o. Asks start (x ∷ h) x.seat.0 o)
          (sym (let own : pending x.seat.0 (x ∷ h)
          ≡ pending_after x.call (pending x.seat.0 h) =
          rw (eq-eqb x.seat.0 x.seat.0 refl) refl in own))
          (asks_own start files h x.seat.0 x.call x.reply ok
          (subst (λ s. Asks start h s (pending s h)) (sym e.1) asks)))
      | inr e ↦ subst (λ o. Asks start (x ∷ h) t o)
          (sym (let keep : pending t (x ∷ h) ≡ pending t h = rw e.0 refl in keep))
          (λ q is. good-later start x h t q (asks q is))
    ]

asks_legal : (start : Start) (files : List (List ℕ)) (h : List Entry) (t : ℕ)
    → IsLegal start files h → Asks start h t (pending t h)
unfolding Asks
asks_legal start files [] t legal = λ q is. absurd (cc)
asks_legal start files (x ∷ h) t legal =
    asks_by start files h t x legal.0 (asks_legal start files h t legal.2)

-- the answer to a call that a pending request allows
wanted_by : (a b c : Bool) (r : Reply) → a ≡ true → b ≡ true → c ≡ true
    → cond {A = Result Reply Fault} (not a) (Err UnknownSeat)
    (cond (not b) (Err UnknownLock) (cond (not c) (Err NotRequested) (Ok r))) ≡ Ok r
wanted_by a b c r isa isb isc = rw (isa, isb, isc) refl

known-seat : (start : Start) (files : List (List ℕ)) (h : List Entry) (t : ℕ)
    → (0 < t) × (t ≤ start.sizes.seats) → is_seat (state_of (story_after start files h)) t ≡ true
known-seat start files h t seat =
    and_from _ _ (lt-ltb 0 t seat.0)
    (le-leb t (length (seats_of start.sizes.seats h))
    (omega (arith, seat.1, length-map-range_with_len (seat_of h) 1 start.sizes.seats)))

module _ (start : Start) (files : List (List ℕ)) (h : List Entry) (t : ℕ) (q : Request)
    (good : IsGood start h t q) (is : pending t h ≡ Some q)
    (live : is_live (state_of (story_after start files h)) q.lock.0 ≡ true) where
  asking-seat : is_seat (state_of (story_after start files h)) t ≡ true
  asking-seat = known-seat start files h t good.seat

  wanted : (r : Reply)
      → cond {A = Result Reply Fault} (not (is_seat (state_of (story_after start files h)) t))
      (Err UnknownSeat)
      (cond (not (is_live (state_of (story_after start files h)) q.lock.0)) (Err UnknownLock)
      (cond (not (is_for q.lock.0 (seat_at (state_of (story_after start files h)) t).pending))
      (Err NotRequested) (Ok r))) ≡ Ok r
  wanted r =
      wanted_by (is_seat (state_of (story_after start files h)) t)
      (is_live (state_of (story_after start files h)) q.lock.0)
      (is_for q.lock.0 (seat_at (state_of (story_after start files h)) t).pending) r
      asking-seat live (ap (λ o. is_for q.lock.0 o) (pending-state start files h t asking-seat ∙ is)
      ∙ eq-eqb q.lock.0 q.lock.0 refl)

  note_good : answer_of (story_after start files h) t (Note q.lock)
      ≡ Ok (recorded_reply (state_of (story_after start files h)) t q.lock.0)
  note_good = wanted (recorded_reply (state_of (story_after start files h)) t q.lock.0)

  give_up_good : answer_of (story_after start files h) t (GiveUp q.lock) ≡ Ok Done
  give_up_good = wanted Done

module _ (start : Start) (files : List (List ℕ)) (h : List Entry) (t : ℕ) (q : Request)
    (legal : IsLegal start files h) (is : pending t h ≡ Some q) where
  asked-good : IsGood start h t q
  unfolding Asks
  asked-good = asks_legal start files h t legal q is

  -- a pending request's seat is known, and its lock was made
  pub asked-seat : is_seat (state_of (story_after start files h)) t ≡ true
  asked-seat = known-seat start files h t asked-good.seat

  pub asked-made : is_given (typed_locks start h) q.lock.0 ≡ true
  asked-made = asked-good.lock

  -- it isn't destroyed
  asked-undestroyed : is_destroyed (destroyed_of h) q.lock.0 ≡ false
  asked-undestroyed =
      used-undestroyed start files h t q.lock.0 legal asked-seat
      (or_right (is_held t q.lock.0 h) (is_for q.lock.0 (pending t h))
      (ap (is_for q.lock.0) is ∙ eq-eqb q.lock.0 q.lock.0 refl))

  pub asked-live : is_live (state_of (story_after start files h)) q.lock.0 ≡ true
  asked-live =
      and_from (is_given (typed_locks start h) q.lock.0)
      (not (is_destroyed (destroyed_of h) q.lock.0)) asked-made (ap not asked-undestroyed)

  -- its note is accepted
  pub note_pending : answer_of (story_after start files h) t (Note q.lock)
      ≡ Ok (recorded_reply (state_of (story_after start files h)) t q.lock.0)
  note_pending = note_good start files h t q asked-good is asked-live

  -- and so is its being given up
  pub give_up_pending : answer_of (story_after start files h) t (GiveUp q.lock) ≡ Ok Done
  give_up_pending = give_up_good start files h t q asked-good is asked-live

-- and at once after its check
pub note_checked : (s : Story) (t : ℕ) (q : Request) (r : Reply) → IsLegal s.start s.files s.history
    → answer_of s t (Check q) ≡ Ok r
    → answer_of (logged s t (Check q) r) t (Note q.lock)
    ≡ Ok (recorded_reply (state_of (logged s t (Check q) r)) t q.lock.0)
unfolding Asks
note_checked s t q r legal ok =
    let own : pending t (entry t (Check q) r ∷ s.history) ≡ Some q = rw (eq-eqb t t refl) refl in
    let a = check_accepted (state_of s) t q r ok in
    let good =
    asks_own s.start s.files s.history t (Check q) r ok
    (asks_legal s.start s.files s.history t legal) q refl in
    note_good s.start s.files (entry t (Check q) r ∷ s.history) t q good own
    (and_from (is_given (typed_locks s.start (entry t (Check q) r ∷ s.history)) q.lock.0)
    (not (is_destroyed (destroyed_of s.history) q.lock.0)) good.lock
    (ap not (live-undestroyed (state_of s) q.lock.0 a.live)))

-- a lock that a seat holds or asks for is live
pub used_live : (start : Start) (files : List (List ℕ)) (h : List Entry) (t l : ℕ)
    → IsLegal start files h → is_seat (state_of (story_after start files h)) t ≡ true
    → uses_after t l h ≡ true → is_live (state_of (story_after start files h)) l ≡ true
used_live start files h t l legal seat used =
    and_from (is_given (typed_locks start h) l) (not (is_destroyed (destroyed_of h) l))
    (⊎_elim (λ held. known-made start h l (made_sane t l h (sane_legal start files h legal) held))
    asked (or_cases (is_held t l h) (is_for l (pending t h)) used))
    (ap not (used-undestroyed start files h t l legal seat used))
  where
    asked : is_for l (pending t h) ≡ true → is_given (typed_locks start h) l ≡ true
    asked is =
        let p = asked-lock l (pending t h) is in
        subst (λ k. is_given (typed_locks start h) k ≡ true) p.2
        (asked-made start files h t p.0 legal p.1)
