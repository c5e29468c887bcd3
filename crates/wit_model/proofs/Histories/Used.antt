-- A lock that a seat holds or asks for isn't destroyed.
use Rattle.std.proofs.Common.{◌≡◌, ◌⊎◌, ℕ, zero, suc, ◌+◌, ◌-◌, ◌<◌, ◌≤◌, Bool, true, false, ◌&&◌}
use Rattle.std.proofs.Common.{◌||◌, cond, eqb, List, [], ◌∷◌, ◌++◌, map, find, Option, Some}
use Rattle.std.proofs.Common.{is_some, Ok, refl, ap, ap₂, sym, ◌∙◌, subst, inl, inr, ⊎_elim, arith}
use Rattle.std.proofs.Common.{nat_lt}
use Rattle.std.specs.List.{list_any, range_with_len}
use Rattle.std.proofs.lemmas.Bool.{eqb-true, true≢false, false≢true, or_cases, or_from, or_left}
use Rattle.std.proofs.lemmas.Bool.{or_right}
use Rattle.std.proofs.lemmas.Bool.Decides.{eqb_tells}
use Rattle.wit_model.specs.declared.locks.Instance.{Instance}
use Rattle.wit_model.specs.declared.calls.Request.{Request}
use Rattle.wit_model.specs.declared.calls.Call.{Call}
use Rattle.wit_model.specs.declared.calls.Call.TheVariants.{Check, Note, NoteTry, GiveUp, Unlock}
use Rattle.wit_model.specs.declared.calls.Call.TheVariants.{Destroy, Upgrade, Downgrade, NoRelease}
use Rattle.wit_model.specs.declared.calls.Call.TheVariants.{ReleaseOk}
use Rattle.wit_model.specs.declared.calls.Reply.{Reply}
use Rattle.wit_model.specs.declared.calls.Reply.TheVariants.{Recorded, Unlocked}
use Rattle.wit_model.specs.declared.calls.Entry.{Entry}
use Rattle.wit_model.specs.Rules.Locks.{locks_of, destroyed_of, is_destroyed, is_spin_lock}
use Rattle.wit_model.specs.Rules.Locks.{is_of_kind, destroyed_by}
use Rattle.wit_model.specs.Rules.History.{Act, Nothing, Records, Releases, act, act_by, is_held}
use Rattle.wit_model.specs.Rules.History.{chain, pending, pending_after, instance, num}
use Rattle.wit_model.specs.Rules.State.{Start, State, Seat, state_of, seat_of, is_seat, is_live}
use Rattle.wit_model.specs.Rules.Verdict.{is_of}
use Rattle.wit_model.specs.Rules.Step.{is_for, step, answer_of, story_after, IsLegal}
use Rattle.wit_model.specs.Rules.Destroying.{uses}
use Rattle.wit_model.proofs.Chains.Sane.{IsSane}
use Rattle.wit_model.proofs.Chains.Found.{if_some, found}
use Rattle.wit_model.proofs.Histories.Accepted.{live-undestroyed, check_accepted, note_accepted}
use Rattle.wit_model.proofs.Histories.Accepted.{try_accepted}
use Rattle.wit_model.proofs.Histories.AcceptedLocks.{destroy_accepted}
use Rattle.wit_model.proofs.Histories.Legal.{seat-within, own_kind, sane_legal, plain-unrecorded}
use Rattle.wit_model.specs.declared.locks.LockNo.{LockNo}
use Rattle.wit_model.proofs.Chains.HeldLocks.{held-from, num-of_held}
use Rattle.wit_model.proofs.Chains.Acts.{num-step, num_after-even}

-- whether a seat holds the lock or asks for it
abbrev pub uses_after : ℕ → ℕ → List Entry → Bool
uses_after t l h = is_held t l h || is_for l (pending t h)

any-found : (p : Instance → Bool) (c : List Instance) → list_any p c ≡ is_some (find p c)
any-found p [] = refl
any-found p (i ∷ c) = go (p i) (any-found p c)
  where
    go : (b : Bool) → list_any p c ≡ is_some (find p c)
        → (b || list_any p c) ≡ is_some (cond b (Some i) (find p c))
    go true same = refl
    go false same = same

held-found : (b : Bool) (i : Instance) → is_some (if_some b i) ≡ b
held-found true i = refl
held-found false i = refl

-- a lock stands in the chain of its kind where it is held
held-any : (t l : ℕ) (h : List Entry) → IsSane h
    → list_any (is_of l) (chain (is_spin_lock (locks_of h) l) t h) ≡ is_held t l h
held-any t l h sane =
    any-found (is_of l) (chain (is_spin_lock (locks_of h) l) t h)
    ∙ ap is_some (found (is_spin_lock (locks_of h) l) t l h sane)
    ∙ held-found (is_held t l h && is_of_kind (is_spin_lock (locks_of h) l) (locks_of h) l)
    (instance t h l)
    ∙ ap (λ b. is_held t l h && b) (own_kind (is_spin_lock (locks_of h) l) h l refl)
    ∙ alone (is_held t l h)
  where
    alone : (b : Bool) → (b && true) ≡ b
    alone true = refl
    alone false = refl

none_of : (a b c : Bool) → (a || b || c) ≡ false → (a ≡ false) × (b ≡ false) × (c ≡ false)
none_of true b c unused = absurd (true≢false unused)
none_of false true c unused = absurd (true≢false unused)
none_of false false true unused = absurd (true≢false unused)
none_of false false false unused = (refl, refl, refl)

-- a seat that doesn't use the lock neither holds it nor asks for it
unused-held : (t l : ℕ) (h : List Entry) → IsSane h → uses l (seat_of h t) ≡ false
    → is_held t l h ≡ false
unused-held t l h sane unused =
    let parts =
    none_of (list_any (is_of l) (chain false t h)) (list_any (is_of l) (chain true t h))
    (is_for l (pending t h)) unused in
    sym (held-any t l h sane) ∙ by (is_spin_lock (locks_of h) l) parts.0 parts.1
  where
    by : (k : Bool) → list_any (is_of l) (chain false t h) ≡ false
        → list_any (is_of l) (chain true t h) ≡ false → list_any (is_of l) (chain k t h) ≡ false
    by true sleep spin = spin
    by false sleep spin = sleep

unused-after : (t l : ℕ) (h : List Entry) → IsSane h → uses l (seat_of h t) ≡ false
    → uses_after t l h ≡ false
unused-after t l h sane unused =
    let parts =
    none_of (list_any (is_of l) (chain false t h)) (list_any (is_of l) (chain true t h))
    (is_for l (pending t h)) unused in
    or_from (is_held t l h) (is_for l (pending t h)) (unused-held t l h sane unused) parts.2

-- where no seat does, none of them does
none-of : (p : Seat → Bool) (f : ℕ → Seat) (a n t : ℕ)
    → list_any p (map f (range_with_len a n)) ≡ false → a ≤ t → t < a + n → p (f t) ≡ false
none-of p f a zero t unused from to = absurd (omega (arith, from, to))
none-of p f a (suc n) t unused from to =
    elim (eqb_tells a t) [
      | inl e ↦ sym (ap (λ j. p (f j)) e.1) ∙ first (p (f a))
          (list_any p (map f (range_with_len (a + 1) n))) unused
      | inr e ↦
          (let apart = e.1 in
          none-of p f (a + 1) n t (rest (p (f a)) (list_any p (map f (range_with_len (a + 1) n)))
          unused) (later apart) (omega (arith, to)))
    ]
  where
    first : (b c : Bool) → (b || c) ≡ false → b ≡ false
    first true c none = none
    first false c none = refl

    rest : (b c : Bool) → (b || c) ≡ false → c ≡ false
    rest true c none = absurd (true≢false none)
    rest false c none = none

    later : (a ≡ t → ⊥) → a + 1 ≤ t
    later apart = omega (arith, from, apart)

-- what a seat's own accepted call records is live
recorded-live : (s : State) (t : ℕ) (c : Call) (r : Reply) (l : ℕ) → step s t c ≡ Ok r
    → act c r ≡ Records l → is_live s l ≡ true
recorded-live s t (Note k) Recorded l ok acts =
    subst (λ j. is_live s j ≡ true) (let same : k.0 ≡ l = cc in same)
    (note_accepted s t k.0 Recorded ok).live
recorded-live s t (NoteTry k m site) Recorded l ok acts =
    subst (λ j. is_live s j ≡ true) (let same : k.0 ≡ l = cc in same)
    (try_accepted s t k.0 m site Recorded ok).live
recorded-live s t (Unlock k m) Unlocked l ok acts =
    let unused : ◌≡◌ {A = Act} (Releases k.0) (Records l) = acts in (cc)
recorded-live s t (Upgrade k) r l ok acts = absurd (plain-unrecorded (Upgrade k) r l refl acts)
recorded-live s t (Downgrade k) r l ok acts = absurd (plain-unrecorded (Downgrade k) r l refl acts)
recorded-live s t (NoRelease k) r l ok acts = absurd (plain-unrecorded (NoRelease k) r l refl acts)
recorded-live s t (ReleaseOk k) r l ok acts = absurd (plain-unrecorded (ReleaseOk k) r l refl acts)
recorded-live s t c r l ok acts = let unused : ◌≡◌ {A = Act} Nothing (Records l) = acts in (cc)

-- what it asks for is live, or was asked for before
asked-live : (s : State) (t : ℕ) (c : Call) (r : Reply) (l : ℕ) (p : Option Request)
    → step s t c ≡ Ok r → is_for l (pending_after c p) ≡ true
    → (is_live s l ≡ true) ⊎ (is_for l p ≡ true)
asked-live s t (Check q) r l p ok is =
    inl (subst (λ j. is_live s j ≡ true) (eqb-true q.lock.0 l is) (check_accepted s t q r ok).live)
asked-live s t (Note k) r l p ok is = absurd (false≢true is)
asked-live s t (GiveUp k) r l p ok is = absurd (false≢true is)
asked-live s t c r l p ok is = inr is

act-of : (t : ℕ) (x : Entry) (l : ℕ) → act_by t x ≡ Records l → act x.call x.reply ≡ Records l
act-of t x l acts = go (eqb x.seat.0 t) acts
  where
    go : (b : Bool) → cond b (act x.call x.reply) Nothing ≡ Records l
        → act x.call x.reply ≡ Records l
    go true same = same
    go false same = (cc)

module _ (start : Start) (files : List (List ℕ)) (h : List Entry) (x : Entry)
    (sane : IsSane (x ∷ h))
    (ok : answer_of (story_after start files h) x.seat.0 x.call ≡ Ok x.reply) where
  abbrev Live : ℕ → Type 0
  Live l = is_live (state_of (story_after start files h)) l ≡ true

  -- what a seat holds after an entry is live, or it held it before
  held-by : (t l : ℕ) (a : Act) → act_by t x ≡ a → is_held t l (x ∷ h) ≡ true
      → Live l ⊎ (is_held t l h ≡ true)
  held-by t l (Records m) acts is =
      elim (eqb_tells m l) [
        | inl e ↦ inl (recorded-live (state_of (story_after start files h)) x.seat.0 x.call x.reply
            l ok (act-of t x m acts ∙ ap Records e.1))
        | inr e ↦ (let same : num t l (x ∷ h) ≡ num t l h = num-step t l x h (Records m) acts sane.1
            ∙ rw e.0 refl in inr (sym (ap (λ n. nat_lt 0 n) same) ∙ is))
      ]
  held-by t l (Releases m) acts is =
      let some = num-of_held t l (x ∷ h) is in
      let fewer : num t l (x ∷ h) ≤ num t l h = elim (eqb_tells m l) [
        | inl e ↦ (let s : num t l (x ∷ h) ≡ num t l h - 1 = num-step t l x h
            (Releases m) acts sane.1 ∙ rw e.0 refl in omega arith)
        | inr e ↦ (let s : num t l (x ∷ h) ≡ num t l h = num-step t l x h (Releases m) acts sane.1
            ∙ rw e.0 refl in omega arith)
      ] in
      inr (held-from t l h (omega (arith, some, fewer)))
  held-by t l a acts is =
      inr (sym (ap (λ n. nat_lt 0 n)
      (num-step t l x h a acts sane.1 ∙ num_after-even a l (num t l h) refl)) ∙ is)

  -- and what it asks for
  asked-by : (t l : ℕ) → is_for l (pending t (x ∷ h)) ≡ true → Live l
      ⊎ (is_for l (pending t h) ≡ true)
  asked-by t l is = go (eqb x.seat.0 t) refl
    where
      go : (b : Bool) → eqb x.seat.0 t ≡ b → Live l ⊎ (is_for l (pending t h) ≡ true)
      go true own =
          asked-live (state_of (story_after start files h)) x.seat.0 x.call x.reply l
          (pending t h) ok
          (sym (ap (λ b. is_for l (cond b (pending_after x.call (pending t h)) (pending t h))) own)
          ∙ is)
      go false other =
          inr (sym (ap (λ b. is_for l (cond b (pending_after x.call (pending t h)) (pending t h)))
          other) ∙ is)

  used-live : (t l : ℕ) → uses_after t l (x ∷ h) ≡ true → Live l ⊎ (uses_after t l h ≡ true)
  used-live t l is =
      ⊎_elim
      (λ held. ⊎_elim (λ live. inl live)
      (λ was. inr (or_left (is_held t l h) (is_for l (pending t h)) was))
      (held-by t l (act_by t x) refl held))
      (λ asked. ⊎_elim (λ live. inl live)
      (λ was. inr (or_right (is_held t l h) (is_for l (pending t h)) was)) (asked-by t l asked))
      (or_cases (is_held t l (x ∷ h)) (is_for l (pending t (x ∷ h))) is)

-- no lock that a seat uses is destroyed
AreUndestroyed : Start → List Entry → Type 0
AreUndestroyed start h = (t l : ℕ) → 0 < t → t ≤ start.sizes.seats → uses_after t l h ≡ true
    → is_destroyed (destroyed_of h) l ≡ false

module _ (start : Start) (files : List (List ℕ)) (h : List Entry) (x : Entry)
    (sane : IsSane (x ∷ h))
    (ok : answer_of (story_after start files h) x.seat.0 x.call ≡ Ok x.reply)
    (all : AreUndestroyed start h) where
  -- what was destroyed before
  before-it : (t l : ℕ) → 0 < t → t ≤ start.sizes.seats → uses_after t l (x ∷ h) ≡ true
      → is_destroyed (destroyed_of h) l ≡ false
  unfolding AreUndestroyed
  before-it t l some within is =
      ⊎_elim (λ live. live-undestroyed (state_of (story_after start files h)) l live)
      (λ was. all t l some within was) (used-live start files h x sane ok t l is)

  -- a call that destroys a lock leaves what is used
  used-same : (m : LockNo) (t l : ℕ) → x.call ≡ Destroy m
      → uses_after t l (x ∷ h) ≡ uses_after t l h
  used-same m t l is =
      let none : act_by t x ≡ Nothing =
      ap (λ c. cond (eqb x.seat.0 t) (act c x.reply) Nothing) is ∙ alike (eqb x.seat.0 t) in
      let held : is_held t l (x ∷ h) ≡ is_held t l h =
      ap (λ n. nat_lt 0 n) (num-step t l x h Nothing none sane.1) in
      let keeps : pending t (x ∷ h) ≡ pending t h
      = ap (λ c. cond (eqb x.seat.0 t) (pending_after c (pending t h)) (pending t h)) is
      ∙ same_request (eqb x.seat.0 t) in
      ap₂ (λ b o. b || is_for l o) held keeps
    where
      alike : (b : Bool) → ◌≡◌ {A = Act} (cond b Nothing Nothing) Nothing
      alike true = refl
      alike false = refl

      same_request : (b : Bool) → cond b (pending t h) (pending t h) ≡ pending t h
      same_request true = refl
      same_request false = refl

  -- the destroyed lock was used by none
  not-this : (m : LockNo) (t l : ℕ) → x.call ≡ Destroy m → 0 < t → t ≤ start.sizes.seats
      → uses_after t l h ≡ true → eqb m.0 l ≡ false
  not-this m t l is some within used =
      elim (eqb_tells m.0 l) [
        | inl e ↦
            let a = destroy_accepted (state_of (story_after start files h)) x.seat.0 m.0 x.reply
            (ap (λ c. answer_of (story_after start files h) x.seat.0 c) (sym is) ∙ ok) in
            let none =
            none-of (uses m.0) (seat_of h) 1 start.sizes.seats t a.unused (omega (arith, some))
            (omega (arith, within)) in
            absurd (true≢false (sym used ∙ subst (λ k. uses_after t k h ≡ false) e.1
            (unused-after t m.0 h sane.1 none)))
        | inr e ↦ e.0
      ]

  undestroyed-by : (c : Call) → x.call ≡ c → (t l : ℕ) → 0 < t → t ≤ start.sizes.seats
      → uses_after t l (x ∷ h) ≡ true
      → is_destroyed (destroyed_by c ++ destroyed_of h) l ≡ false
  undestroyed-by (Destroy m) is t l some within used =
      or_from (eqb m.0 l) (is_destroyed (destroyed_of h) l)
      (not-this m t l is some within (sym (used-same m t l is) ∙ used))
      (before-it t l some within used)
  undestroyed-by c is t l some within used = before-it t l some within used

undestroyed_legal : (start : Start) (files : List (List ℕ)) (h : List Entry) → IsLegal start files h
    → AreUndestroyed start h
unfolding AreUndestroyed
undestroyed_legal start files [] legal = λ t l some within is. refl
undestroyed_legal start files (x ∷ h) legal =
    undestroyed-by start files h x (sane_legal start files (x ∷ h) legal) legal.0
    (undestroyed_legal start files h legal.2) x.call refl

-- no lock that a seat holds or asks for is destroyed
pub used-undestroyed : (start : Start) (files : List (List ℕ)) (h : List Entry) (t l : ℕ)
    → IsLegal start files h → is_seat (state_of (story_after start files h)) t ≡ true
    → uses_after t l h ≡ true → is_destroyed (destroyed_of h) l ≡ false
unfolding AreUndestroyed
used-undestroyed start files h t l legal seat used =
    let within =
    seat-within start files h t seat in
    undestroyed_legal start files h legal t l within.0 within.1 used
