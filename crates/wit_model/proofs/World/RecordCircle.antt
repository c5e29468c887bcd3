-- A clean legal history leaves no circle of the record: what a seat holds while a request of it is
-- pending is ahead of the lock that it asks for.
use Rattle.std.proofs.Common.{◌≡◌, ℕ, ◌<◌, Bool, true, false, not, ◌&&◌, cond, eqb, is_none}
use Rattle.std.proofs.Common.{unwrap_or, find, List, [], ◌∷◌, Option, Some, None, Ok, refl, ap, sym}
use Rattle.std.proofs.Common.{◌∙◌, subst, inl, inr}
use Rattle.std.proofs.lemmas.Bool.{and_parts, cases_Bool, false≢true}
use Rattle.std.proofs.lemmas.Bool.Decides.{eqb_tells}
use Rattle.wit_model.specs.declared.locks.Mode.{Mode}
use Rattle.wit_model.specs.declared.locks.Instance.{Instance}
use Rattle.wit_model.specs.declared.calls.Request.{Request}
use Rattle.wit_model.specs.declared.calls.Entry.{Entry}
use Rattle.wit_model.specs.Rules.History.{Nothing, act, num, is_held, pending, pending_after}
use Rattle.wit_model.specs.Rules.History.{instance}
use Rattle.wit_model.specs.Rules.State.{Start, State, Seat, no_seat, state_of, seat_at, is_seat}
use Rattle.wit_model.specs.Rules.Start.{start_fault}
use Rattle.wit_model.specs.Rules.Types.{is_spin}
use Rattle.wit_model.specs.Rules.Locks.{lock_at}
use Rattle.wit_model.specs.Rules.Verdict.{is_of, chain_of_kind}
use Rattle.wit_model.specs.Rules.Step.{held_by, answer_of, story_after, IsLegal}
use Rattle.wit_model.specs.Rules.Circles.{is_barred, is_kept_by, Waits, IsRecordCircle}
use Rattle.wit_model.specs.Rules.Ahead.{IsAhead}
use Rattle.wit_model.specs.Rules.Clean.{is_clean}
use Rattle.wit_model.proofs.Numbered.{with_number-none}
use Rattle.wit_model.proofs.Chains.Acts.{num-step}
use Rattle.wit_model.proofs.Chains.Found.{if_some}
use Rattle.wit_model.proofs.Chains.HeldLocks.{num-of_held, num-of_free}
use Rattle.wit_model.proofs.Histories.Legal.{pending-state, held_by-state, sane_legal}
use Rattle.wit_model.proofs.VerdictLaws.AheadLaws.{ahead-at_check, ahead-stays, ahead-trans}
use Rattle.wit_model.proofs.VerdictLaws.AheadLaws.{ahead-sound}
use Rattle.wit_model.proofs.VerdictLaws.Quiet.{clean-parts}
use Rattle.wit_model.proofs.VerdictLaws.Ahead.{asks-now}
use Rattle.wit_model.proofs.World.Own.{act-mine, act-other}
use Rattle.wit_model.proofs.World.Rounds.{round}

-- ---- what waiting by the record says

-- t asks for a lock that it doesn't hold, and u does
record Waited (h : List Entry) (t u : ℕ) : Type 0 where
  request : Request
  asks : pending t h ≡ Some request
  unheld : num t request.lock.0 h ≡ 0
  taken : 0 < num u request.lock.0 h

none-held : (b : Bool) (i : Instance) → is_none (if_some b i) ≡ true → b ≡ false
none-held true i is = absurd (false≢true is)
none-held false i is = refl

barred-held : (b : Bool) (i : Instance) (mode : Mode)
    → is_barred mode (if_some b i) ≡ true → b ≡ true
barred-held true i mode is = refl
barred-held false i mode is = absurd (false≢true is)

none-asked : (s : State) (t u : ℕ) (o : Option Request) → o ≡ None → is_kept_by s t u o ≡ true → ⊥
none-asked s t u o none is = false≢true (ap (λ x. is_kept_by s t u x) (sym none) ∙ is)

no-chain : (l : ℕ) (spin : Bool) → find (is_of l) (cond {A = List Instance} spin [] []) ≡ None
no-chain l true = refl
no-chain l false = refl

module _ (start : Start) (files : List (List ℕ)) (h : List Entry)
    (legal : IsLegal start files h) where
  abbrev st : State
  st = state_of (story_after start files h)

  no-such : (t : ℕ) → is_seat st t ≡ false → seat_at st t ≡ no_seat
  no-such t none = ap (λ o. unwrap_or o no_seat) (with_number-none st.seats t none)

  no-lock : (t l : ℕ) → is_seat st t ≡ false → held_by st t l ≡ None
  no-lock t l none =
      ap (λ (seat : Seat). find (is_of l) (chain_of_kind st.known seat l)) (no-such t none)
      ∙ no-chain l (is_spin (lock_at st.known.locks l).made.class)

  holder : (u l : ℕ) (mode : Mode) → is_barred mode (held_by st u l) ≡ true → 0 < num u l h
  holder u l mode is =
      elim (cases_Bool (is_seat st u)) [
        | inl seat ↦
            num-of_held u l h (barred-held (is_held u l h) (instance u h l) mode
            (ap (λ o. is_barred mode o) (sym
            (held_by-state start files h u l seat (sane_legal start files h legal))) ∙ is))
        | inr none ↦ absurd (false≢true (ap (λ o. is_barred mode o) (sym (no-lock u l none)) ∙ is))
      ]

  waited-by : (t u : ℕ) → is_seat st t ≡ true → (o : Option Request) → pending t h ≡ o
      → is_kept_by st t u o ≡ true → Waited h t u
  waited-by t u seat None asks is = absurd (false≢true is)
  waited-by t u seat (Some q) asks is =
      let free =
      and_parts (is_none (held_by st t q.lock.0))
      (not (eqb u t) && is_barred q.mode (held_by st u q.lock.0)) is in
      let barred = and_parts (not (eqb u t)) (is_barred q.mode (held_by st u q.lock.0)) free.1 in
      record {
        request = q;
        asks = asks;
        unheld = num-of_free t q.lock.0 h (none-held (is_held t q.lock.0 h) (instance t h q.lock.0)
            (ap (λ o. is_none o) (sym (held_by-state start files h t q.lock.0 seat
            (sane_legal start files h legal))) ∙ free.0));
        taken = holder u q.lock.0 q.mode barred.1;
      }

  waited : (t u : ℕ) → Waits st t u → Waited h t u
  waited t u is =
      elim (cases_Bool (is_seat st t)) [
        | inl seat ↦ waited-by t u seat (pending t h) refl
            (ap (λ o. is_kept_by st t u o) (sym (pending-state start files h t seat)) ∙ is)
        | inr none ↦ absurd (none-asked st t u (seat_at st t).pending
            (ap (λ (seat : Seat). seat.pending) (no-such t none)) is)
      ]

-- ---- what is held is ahead of what is asked for

module _ (start : Start) (files : List (List ℕ)) (unblessed : start.blessed ≡ []) where
  pending-ahead : (h : List Entry) → IsLegal start files h → is_clean start.profile h ≡ true
      → (t : ℕ) (q : Request) (l : ℕ)
      → pending t h ≡ Some q → num t q.lock.0 h ≡ 0 → 0 < num t l h → IsAhead start h l q.lock.0
  pending-ahead [] legal clean t q l is unheld some = (cc)
  pending-ahead (e ∷ h) legal clean t q l is unheld some =
      let sane = sane_legal start files h legal.2 in
      elim (eqb_tells e.seat.0 t) [
        | inl mine ↦
            let own : pending t (e ∷ h) ≡ pending_after e.call (pending t h) = rw mine.0 refl in
            let asks =
            asks-now start files h t e.call e.reply q
            (subst (λ s. answer_of (story_after start files h) s e.call ≡ Ok e.reply) mine.1
            legal.0) legal.1 (sym own ∙ is) in
            let none = act-mine t e mine.0 ∙ ap (λ c. act c e.reply) asks in
            ahead-at_check start files unblessed e h q l legal clean asks
            (subst (λ s. num s q.lock.0 h ≡ 0) (sym mine.1)
            (sym (num-step t q.lock.0 e h Nothing none sane) ∙ unheld))
            (subst (λ s. 0 < num s l h) (sym mine.1)
            (subst (λ n. 0 < n) (num-step t l e h Nothing none sane) some))
        | inr other ↦
            let keep : pending t (e ∷ h) ≡ pending t h = rw other.0 refl in
            let none = act-other t e other.0 in
            ahead-stays start e h l q.lock.0
            (pending-ahead h legal.2 (clean-parts start.profile e h clean).1.1 t q l (sym keep ∙ is)
            (sym (num-step t q.lock.0 e h Nothing none sane) ∙ unheld)
            (subst (λ n. 0 < n) (num-step t l e h Nothing none sane) some))
      ]

  -- ---- from a circle of seats to a circle of locks

  abbrev lock_asked : Option Request → ℕ
  lock_asked None = 0
  lock_asked (Some q) = q.lock.0

  module _ (h : List Entry) (legal : IsLegal start files h)
      (clean : is_clean start.profile h ≡ true) where
    abbrev wanted : ℕ → ℕ
    wanted t = lock_asked (pending t h)

    link : (t u x : ℕ) → Waits (state_of (story_after start files h)) t u
        → Waits (state_of (story_after start files h)) u x → IsAhead start h (wanted t) (wanted u)
    link t u x one two =
        let a = waited start files h legal t u one in
        let b = waited start files h legal u x two in
        let ahead =
        pending-ahead h legal clean u b.request a.request.lock.0 b.asks b.unheld a.taken in
        subst (λ m. IsAhead start h m (wanted u)) (sym (ap lock_asked a.asks))
        (subst (λ m. IsAhead start h a.request.lock.0 m) (sym (ap lock_asked b.asks)) ahead)

    pub no_record_circle : start_fault start ≡ None → (seats : List ℕ)
        → IsRecordCircle (state_of (story_after start files h)) seats → ⊥
    no_record_circle accepted seats circle =
        let back =
        round (Waits (state_of (story_after start files h)))
        (λ t u. IsAhead start h (wanted t) (wanted u)) link
        (λ t u x. ahead-trans start h (wanted t) (wanted u) (wanted x)) seats circle in
        ahead-sound start files h (wanted back.0) accepted legal back.1
