-- A legal history is sane; and what is read of its state.
use Rattle.std.proofs.Common.{◌≡◌, ℕ, ◌<◌, ◌≤◌, Bool, true, false, not, ◌&&◌, cond, List, [], ◌∷◌}
use Rattle.std.proofs.Common.{length, find, Some, Ok, refl, ap, ap₂, sym, ◌∙◌, arith, Option}
use Rattle.std.proofs.lemmas.Bool.{and_parts, ltb-true, leb-true, false≢true}
use Rattle.std.proofs.lemmas.List.FromFn.{length-map-range_with_len}
use Rattle.wit_model.specs.declared.locks.Mode.{Mode}
use Rattle.wit_model.specs.declared.locks.Watch.{Watch}
use Rattle.wit_model.specs.declared.locks.Watch.TheVariants.{Off}
use Rattle.wit_model.specs.declared.locks.Instance.{Instance}
use Rattle.wit_model.specs.declared.calls.Call.{Call}
use Rattle.wit_model.specs.declared.calls.Call.TheVariants.{Init, Check, Note, NoteTry, GiveUp}
use Rattle.wit_model.specs.declared.calls.Call.TheVariants.{Unlock, SetWatch, DefineOrder, Destroy}
use Rattle.wit_model.specs.declared.calls.Call.TheVariants.{Downgrade, NoRelease, ReleaseOk}
use Rattle.wit_model.specs.declared.calls.Call.TheVariants.{Upgrade}
use Rattle.wit_model.specs.declared.calls.Reply.{Reply}
use Rattle.wit_model.specs.declared.calls.Reply.TheVariants.{Recorded, Exhausted, Unlocked}
use Rattle.wit_model.specs.declared.calls.Entry.{Entry}
use Rattle.wit_model.specs.Rules.Locks.{locks_of, is_spin_lock, is_of_kind}
use Rattle.wit_model.specs.Rules.History.{act, is_held, chain, instance, pending, is_off}
use Rattle.wit_model.specs.Rules.History.{watch_after, watch_of, Records, pending_after}
use Rattle.wit_model.specs.Rules.SeatGroups.{seat_groups}
use Rattle.wit_model.specs.Rules.State.{Start, State, Seat, state_of, seat_of, seats_of, seat_at}
use Rattle.wit_model.specs.Rules.State.{is_seat, no_seat}
use Rattle.wit_model.specs.Rules.Verdict.{is_of}
use Rattle.wit_model.specs.Rules.Step.{chain_for, groups_for, held_by, step, answer_of, story_after}
use Rattle.wit_model.specs.Rules.Step.{IsLegal}
use Rattle.wit_model.proofs.Chains.Sane.{IsFit, IsSane}
use Rattle.wit_model.proofs.Chains.HeldLocks.{num-of_held}
use Rattle.wit_model.proofs.Chains.Found.{if_some, found}
use Rattle.wit_model.proofs.Numbered.{with_number-or}
use Rattle.wit_model.proofs.Chains.Seats.{get_or-seats_of}
use Rattle.wit_model.proofs.Orders.TypedLocks.{spin_at, made-known}
use Rattle.wit_model.proofs.Histories.Accepted.{check_accepted, note_accepted, try_accepted}
use Rattle.wit_model.proofs.Histories.Accepted.{give_up_accepted, UnlockAccepted, unlock_accepted}
use Rattle.wit_model.proofs.Histories.Accepted.{unlock_seat}
use Rattle.wit_model.proofs.Histories.AcceptedLocks.{watch_accepted, init_accepted}
use Rattle.wit_model.proofs.Histories.AcceptedTurns.{plain_seat, is_plain}
use Rattle.wit_model.specs.declared.calls.Request.{Request}
use Rattle.wit_model.proofs.Chains.Acts.{downgrade-even, fit-even, is_even, norelease-even}
use Rattle.wit_model.proofs.Chains.Acts.{releaseok-even, upgrade-even}

-- a known seat is within the sizes
pub seat-within : (start : Start) (files : List (List ℕ)) (h : List Entry) (t : ℕ)
    → is_seat (state_of (story_after start files h)) t ≡ true
    → (0 < t) × (t ≤ start.sizes.seats)
seat-within start files h t is =
    let parts = and_parts _ _ is in
    let le = leb-true t (length (seats_of start.sizes.seats h)) parts.1 in
    (ltb-true 0 t parts.0, omega (arith, length-map-range_with_len (seat_of h) 1 start.sizes.seats))

pub seat_at-state : (start : Start) (files : List (List ℕ)) (h : List Entry) (t : ℕ)
    → is_seat (state_of (story_after start files h)) t ≡ true
    → seat_at (state_of (story_after start files h)) t ≡ seat_of h t
seat_at-state start files h t is =
    let within = seat-within start files h t is in
    with_number-or (seats_of start.sizes.seats h) t no_seat within.0
    ∙ get_or-seats_of start.sizes.seats t h no_seat within.0 within.1

pub pending-state : (start : Start) (files : List (List ℕ)) (h : List Entry) (t : ℕ)
    → is_seat (state_of (story_after start files h)) t ≡ true
    → (seat_at (state_of (story_after start files h)) t).pending ≡ pending t h
pending-state start files h t is = ap (λ (s : Seat). s.pending) (seat_at-state start files h t is)

pub one_chain : (k : Bool) (t : ℕ) (h : List Entry)
    → cond k (seat_of h t).spin (seat_of h t).sleep ≡ chain k t h
one_chain true t h = refl
one_chain false t h = refl

-- the chain of the lock's kind
pub chain_for-state : (start : Start) (files : List (List ℕ)) (h : List Entry) (t l : ℕ)
    → is_seat (state_of (story_after start files h)) t ≡ true
    → chain_for (state_of (story_after start files h)) t l ≡ chain (is_spin_lock (locks_of h) l) t h
chain_for-state start files h t l is =
    ap₂ (λ (b : Bool) (s : Seat). cond b s.spin s.sleep) (spin_at start h l)
    (seat_at-state start files h t is) ∙ one_chain (is_spin_lock (locks_of h) l) t h

pub one_groups : (k : Bool) (t : ℕ) (h : List Entry)
    → cond k (seat_of h t).spin_groups (seat_of h t).sleep_groups ≡ seat_groups k t h
one_groups true t h = refl
one_groups false t h = refl

-- the groups in which it lies
pub groups_for-state : (start : Start) (files : List (List ℕ)) (h : List Entry) (t l : ℕ)
    → is_seat (state_of (story_after start files h)) t ≡ true
    → groups_for (state_of (story_after start files h)) t l
    ≡ seat_groups (is_spin_lock (locks_of h) l) t h
groups_for-state start files h t l is =
    ap₂ (λ (b : Bool) (s : Seat). cond b s.spin_groups s.sleep_groups) (spin_at start h l)
    (seat_at-state start files h t is)
    ∙ one_groups (is_spin_lock (locks_of h) l) t h

pub own_kind : (k : Bool) (h : List Entry) (l : ℕ) → is_spin_lock (locks_of h) l ≡ k
    → is_of_kind k (locks_of h) l ≡ true
own_kind true h l is = is
own_kind false h l is = rw is refl

if_both : (b c : Bool) (i : Instance) → c ≡ true → if_some (b && c) i ≡ if_some b i
if_both true c i is = rw is refl
if_both false c i is = refl

-- the lock as its seat holds it
pub held_by-state : (start : Start) (files : List (List ℕ)) (h : List Entry) (t l : ℕ)
    → is_seat (state_of (story_after start files h)) t ≡ true → IsSane h
    → held_by (state_of (story_after start files h)) t l ≡ if_some (is_held t l h) (instance t h l)
held_by-state start files h t l is sane =
    ap (λ c. find (is_of l) c) (chain_for-state start files h t l is)
    ∙ found (is_spin_lock (locks_of h) l) t l h sane
    ∙ if_both (is_held t l h) (is_of_kind (is_spin_lock (locks_of h) l) (locks_of h) l)
    (instance t h l) (own_kind (is_spin_lock (locks_of h) l) h l refl)

pub some-held : (b : Bool) (i j : Instance) → if_some b i ≡ Some j → (b ≡ true) × (i ≡ j)
some-held true i j e = (refl, let same : i ≡ j = cc in same)
some-held false i j e = (cc)

-- what an accepted release finds
pub unlock-held : (start : Start) (files : List (List ℕ)) (h : List Entry) (t l : ℕ) (m : Mode)
    (r : Reply) → IsSane h
    → (a : UnlockAccepted (state_of (story_after start files h)) t l m r)
    → (is_held t l h ≡ true) × (instance t h l ≡ a.instance)
unlock-held start files h t l m r sane a =
    some-held (is_held t l h) (instance t h l) a.instance
    (sym (held_by-state start files h t l a.seat sane) ∙ a.held)

call-fit : (start : Start) (files : List (List ℕ)) (h : List Entry) (t : ℕ) (c : Call) (r : Reply)
    → IsSane h
    → answer_of (story_after start files h) t c ≡ Ok r → IsFit (act c r) t h
call-fit start files h t (Note l) Recorded sane ok =
    made-known start h l.0 (note_accepted (state_of (story_after start files h)) t l.0
    Recorded ok).lock
call-fit start files h t (NoteTry l m site) Recorded sane ok =
    made-known start h l.0 (try_accepted (state_of (story_after start files h)) t l.0 m site
    Recorded ok).lock
call-fit start files h t (Unlock l m) Unlocked sane ok =
    num-of_held t l.0 h (unlock-held start files h t l.0 m Unlocked sane
    (unlock_accepted (state_of (story_after start files h)) t l.0 m Unlocked ok refl)).0
call-fit start files h t (Upgrade l) r sane ok = fit-even (act (Upgrade l) r) t h (upgrade-even l r)
call-fit start files h t (Downgrade l) r sane ok =
    fit-even (act (Downgrade l) r) t h (downgrade-even l r)
call-fit start files h t (NoRelease l) r sane ok =
    fit-even (act (NoRelease l) r) t h (norelease-even l r)
call-fit start files h t (ReleaseOk l) r sane ok =
    fit-even (act (ReleaseOk l) r) t h (releaseok-even l r)
call-fit start files h t c r sane ok = tt

pub sane_legal : (start : Start) (files : List (List ℕ)) (h : List Entry)
    → IsLegal start files h → IsSane h
sane_legal start files [] legal = tt
sane_legal start files (e ∷ h) legal = (
  call-fit start files h e.seat.0 e.call e.reply (sane_legal start files h legal.2) legal.0,
  sane_legal start files h legal.2,
)

-- an accepted call extends a legal history to a sane one
pub sane_more : (start : Start) (files : List (List ℕ)) (h : List Entry) (x : Entry)
    → IsLegal start files h
    → answer_of (story_after start files h) x.seat.0 x.call ≡ Ok x.reply → IsSane (x ∷ h)
sane_more start files h x legal ok =
    let sane = sane_legal start files h legal in
    (call-fit start files h x.seat.0 x.call x.reply sane ok, sane)

-- the seat of an accepted call is known
call-seat : (s : State) (t : ℕ) (c : Call) (r : Reply) → step s t c ≡ Ok r → is_seat s t ≡ true
call-seat s t (Init lock) r ok = (init_accepted s t lock r ok).seat
call-seat s t (Check q) r ok = (check_accepted s t q r ok).seat
call-seat s t (Note l) r ok = (note_accepted s t l.0 r ok).seat
call-seat s t (NoteTry l m site) r ok = (try_accepted s t l.0 m site r ok).seat
call-seat s t (GiveUp l) r ok = (give_up_accepted s t l.0 r ok).seat
call-seat s t (Unlock l m) r ok = unlock_seat s t l.0 m r ok
call-seat s t c r ok = plain_seat s t c r refl ok

-- a call that leaves requests and acquisitions does so whatever it is answered
pub plain-even : (c : Call) (r : Reply) → is_plain c ≡ true → is_even (act c r) ≡ true
plain-even (SetWatch w) r plain = refl
plain-even (Destroy l) r plain = refl
plain-even (Upgrade l) r plain = upgrade-even l r
plain-even (Downgrade l) r plain = downgrade-even l r
plain-even (NoRelease l) r plain = norelease-even l r
plain-even (ReleaseOk l) r plain = releaseok-even l r
plain-even (DefineOrder a b) r plain = refl
plain-even c r plain = absurd (false≢true plain)

pub plain-keeps : (c : Call) (p : Option Request) → is_plain c ≡ true → pending_after c p ≡ p
plain-keeps (SetWatch w) p plain = refl
plain-keeps (Destroy l) p plain = refl
plain-keeps (Upgrade l) p plain = refl
plain-keeps (Downgrade l) p plain = refl
plain-keeps (NoRelease l) p plain = refl
plain-keeps (ReleaseOk l) p plain = refl
plain-keeps (DefineOrder a b) p plain = refl
plain-keeps c p plain = absurd (false≢true plain)

-- it records nothing
pub plain-unrecorded : (c : Call) (r : Reply) (l : ℕ) → is_plain c ≡ true → act c r ≡ Records l → ⊥
plain-unrecorded c r l plain acts = false≢true (ap is_even (sym acts) ∙ plain-even c r plain)

pub seat_accepted : (s : State) (t : ℕ) (c : Call) (r : Reply) → step s t c ≡ Ok r
    → is_seat s t ≡ true
seat_accepted s t c r ok = call-seat s t c r ok

watched-call : (s : State) (t : ℕ) (c : Call) (r : Reply) → step s t c ≡ Ok r
    → is_off (watch_after c r s.watch) ≡ false → is_off s.watch ≡ false
watched-call s t (SetWatch w) r ok some =
    sym (ap (λ b. is_off s.watch && not b) some ∙ alone (is_off s.watch))
    ∙ (watch_accepted s t w r ok).level
  where
    alone : (b : Bool) → (b && true) ≡ b
    alone true = refl
    alone false = refl
watched-call s t c Exhausted ok some = absurd (false≢true (sym some))
watched-call s t c r ok some = some

-- what is watched after an accepted call was watched before it
pub watched-before : (start : Start) (files : List (List ℕ)) (h : List Entry) (x : Entry)
    → answer_of (story_after start files h) x.seat.0 x.call ≡ Ok x.reply
    → is_off (watch_of (x ∷ h)) ≡ false → is_off (watch_of h) ≡ false
watched-before start files h x ok some =
    watched-call (state_of (story_after start files h)) x.seat.0 x.call x.reply ok some

off_from : (w : Watch) → is_off w ≡ true → w ≡ Off
off_from Off is = refl
off_from w is = (cc)

-- where nothing was watched, nothing is
pub off-stays : (start : Start) (files : List (List ℕ)) (h : List Entry) (x : Entry)
    → answer_of (story_after start files h) x.seat.0 x.call ≡ Ok x.reply
    → watch_of h ≡ Off → watch_of (x ∷ h) ≡ Off
off-stays start files h x ok off = off_from (watch_of (x ∷ h)) (go (is_off (watch_of (x ∷ h))) refl)
  where
    go : (b : Bool) → is_off (watch_of (x ∷ h)) ≡ b → is_off (watch_of (x ∷ h)) ≡ true
    go true is = is
    go false is = absurd (false≢true (sym (watched-before start files h x ok is) ∙ ap is_off off))
