-- How often a lock is acquired: the recursion count fits 16 bits.
use Rattle.std.proofs.Common.{◌≡◌, ℕ, ◌+◌, ◌-◌, ◌≤◌, Bool, true, false, not, ◌&&◌, List, [], ◌∷◌}
use Rattle.std.proofs.Common.{Option, Some, None, is_some, Ok, refl, ap, sym, ◌∙◌, subst, inl, inr}
use Rattle.std.proofs.Common.{arith}
use Rattle.std.proofs.lemmas.Bool.{eqb-false, eq-eqb, ne_eqb, ltb-true, false≢true}
use Rattle.std.proofs.lemmas.Bool.Decides.{eqb_tells}
use Rattle.wit_model.specs.declared.locks.Mode.{Mode}
use Rattle.wit_model.specs.declared.locks.Site.{Site}
use Rattle.wit_model.specs.declared.locks.Instance.{Instance}
use Rattle.wit_model.specs.declared.calls.Request.{Request}
use Rattle.wit_model.specs.declared.calls.Call.{Call}
use Rattle.wit_model.specs.declared.calls.Call.TheVariants.{Check, Note, NoteTry, GiveUp, Unlock}
use Rattle.wit_model.specs.declared.calls.Call.TheVariants.{Downgrade, NoRelease, ReleaseOk}
use Rattle.wit_model.specs.declared.calls.Call.TheVariants.{Upgrade}
use Rattle.wit_model.specs.declared.calls.Reply.{Reply}
use Rattle.wit_model.specs.declared.calls.Reply.TheVariants.{Recorded, Unlocked}
use Rattle.wit_model.specs.declared.calls.Entry.{Entry}
use Rattle.wit_model.specs.declared.sizes.TheConstants.Limits.{MOST_ACQUISITIONS, DEEPEST}
use Rattle.wit_model.specs.Rules.History.{Nothing, Records, Releases, act, num, is_held, instance}
use Rattle.wit_model.specs.Rules.History.{pending, pending_after, is_off, watch_of}
use Rattle.wit_model.specs.Rules.State.{Start, state_of, is_seat}
use Rattle.wit_model.specs.Rules.Step.{held_by, is_for, is_deepest, is_too_deep, answer_of}
use Rattle.wit_model.specs.Rules.Step.{story_after, IsLegal}
use Rattle.wit_model.proofs.Chains.Sane.{IsSane}
use Rattle.wit_model.proofs.Chains.Acts.{num-step, num-nil, downgrade-even, is_even, norelease-even}
use Rattle.wit_model.proofs.Chains.Acts.{num_after-even, releaseok-even, upgrade-even}
use Rattle.wit_model.proofs.Chains.HeldLocks.{num-of_free}
use Rattle.wit_model.proofs.Chains.Found.{if_some}
use Rattle.wit_model.proofs.Chains.Seats.{entry, act-own, act-other}
use Rattle.wit_model.proofs.Histories.Accepted.{same-request, asked-lock, recorded_on}
use Rattle.wit_model.proofs.Histories.Accepted.{check_accepted, NoteAccepted, note_accepted}
use Rattle.wit_model.proofs.Histories.Accepted.{TryAccepted, try_accepted}
use Rattle.wit_model.proofs.Histories.Legal.{pending-state, held_by-state, sane_legal}
use Rattle.wit_model.proofs.Histories.Legal.{watched-before}

-- no lock is acquired more often than may be, and one that is asked for less often where its
-- acquisition is recorded
pub record IsShallow (t : ℕ) (h : List Entry) : Type 0 where
  pub bound : (l : ℕ) → num t l h ≤ MOST_ACQUISITIONS
  pub asked : (q : Request) → pending t h ≡ Some q → is_off (watch_of h) ≡ false
      → num t q.lock.0 h ≤ DEEPEST

-- an entry of another seat
shallow-other : (start : Start) (files : List (List ℕ)) (t : ℕ) (x : Entry) (h : List Entry)
    → IsSane h
    → answer_of (story_after start files h) x.seat.0 x.call ≡ Ok x.reply → (x.seat.0 ≡ t → ⊥)
    → IsShallow t h → IsShallow t (x ∷ h)
shallow-other start files t x h sane ok other shallow =
    let same = λ (l : ℕ). num-step t l x h Nothing (act-other t x other) sane in
    record {
      bound = λ l. (let e = same l in let b = shallow.bound l in omega arith);
      asked = λ q is some. (let e = same q.lock.0 in
          let was : pending t h ≡ Some q =
          sym (let keep : pending t (x ∷ h) ≡ pending t h = rw (ne_eqb x.seat.0 t other) refl in
          keep) ∙ is in
          let b = shallow.asked q was (watched-before start files h x ok some) in omega arith);
    }

own_pending : (t : ℕ) (c : Call) (r : Reply) (h : List Entry)
    → pending t (entry t c r ∷ h) ≡ pending_after c (pending t h)
own_pending t c r h = rw (eq-eqb t t refl) refl

count-below : (b : Bool) (n : ℕ) (i : Instance) → i.count ≡ n - 1 → is_deepest (if_some b i) ≡ false
    → n ≤ MOST_ACQUISITIONS → (b ≡ false → n ≡ 0) → n ≤ DEEPEST
count-below true n i is not_deepest le free = let apart =
    eqb-false i.count DEEPEST not_deepest in omega (arith, apart)
count-below false n i is not_deepest le free = let none = free refl in omega arith

-- where watch isn't Off, the test is that of the count
not_deep : (off deep : Bool) → (not off && deep) ≡ false → off ≡ false → deep ≡ false
not_deep true deep is some = absurd (false≢true (sym some))
not_deep false deep is some = is

-- the count of a lock that may be acquired
shallow-num : (start : Start) (files : List (List ℕ)) (h : List Entry) (t l : ℕ) → IsSane h
    → IsShallow t h → is_seat (state_of (story_after start files h)) t ≡ true
    → is_too_deep (state_of (story_after start files h)) t l ≡ false → is_off (watch_of h) ≡ false
    → num t l h ≤ DEEPEST
shallow-num start files h t l sane shallow seat few some =
    count-below (is_held t l h) (num t l h) (instance t h l) refl
    (ap is_deepest (sym (held_by-state start files h t l seat sane))
    ∙ not_deep (is_off (watch_of h))
    (is_deepest (held_by (state_of (story_after start files h)) t l)) few some)
    (shallow.bound l) (λ free. num-of_free t l h free)

idle-none : (o : Option Request) → is_some o ≡ false → o ≡ None
idle-none None is = refl
idle-none (Some q) is = absurd (false≢true (sym is))

module _ (start : Start) (files : List (List ℕ)) (h : List Entry) (t : ℕ) (c : Call) (r : Reply)
    (sane : IsSane h) (ok : answer_of (story_after start files h) t c ≡ Ok r)
    (shallow : IsShallow t h) where
  -- an entry of the seat's own that leaves its acquisitions
  shallow-quiet : is_even (act c r) ≡ true
      → ((q : Request) → pending_after c (pending t h) ≡ Some q → is_off (watch_of h) ≡ false
      → num t q.lock.0 h ≤ DEEPEST)
      → IsShallow t (entry t c r ∷ h)
  shallow-quiet quiet few =
      let same =
      λ (l : ℕ). num-step t l (entry t c r) h (act c r) (act-own (entry t c r)) sane
      ∙ num_after-even (act c r) l (num t l h) quiet in
      record {
        bound = λ l. (let e = same l in let b = shallow.bound l in omega arith);
        asked = λ q is some. (let e = same q.lock.0 in
            let b =
            few q (sym (own_pending t c r h) ∙ is)
            (watched-before start files h (entry t c r) ok some) in omega arith);
      }

  -- one that keeps the request
  shallow-keeps : is_even (act c r) ≡ true → pending_after c (pending t h) ≡ pending t h
      → IsShallow t (entry t c r ∷ h)
  shallow-keeps quiet keeps =
      shallow-quiet quiet (λ q is some. shallow.asked q (sym keeps ∙ is) some)

  -- one that leaves none
  shallow-none : is_even (act c r) ≡ true → pending_after c (pending t h) ≡ None
      → IsShallow t (entry t c r ∷ h)
  shallow-none quiet none =
      shallow-quiet quiet (λ q is some.
      absurd (let no : ◌≡◌ {A = Option Request} None (Some q) = sym none ∙ is in cc))

  -- one that records an acquisition
  shallow-more : (l : ℕ) → act c r ≡ Records l → num t l h ≤ DEEPEST
      → pending_after c (pending t h) ≡ None → IsShallow t (entry t c r ∷ h)
  shallow-more l acts few none =
      let step =
      λ (m : ℕ). num-step t m (entry t c r) h (Records l) (act-own (entry t c r) ∙ acts) sane in
      record {
        bound = λ m. elim (eqb_tells l m) [
          | inl e ↦ (let s : num t m (entry t c r ∷ h) ≡ num t m h + 1 = step m ∙ rw e.0 refl in
              let b : num t m h ≤ DEEPEST = subst (λ k. num t k h ≤ DEEPEST) e.1 few in omega arith)
          | inr e ↦ (let s : num t m (entry t c r ∷ h) ≡ num t m h = step m ∙ rw e.0 refl in
              let b = shallow.bound m in omega arith)
        ];
        asked =
            λ q is some. absurd (let no : ◌≡◌ {A = Option Request} None (Some q) = sym none
            ∙ (sym (own_pending t c r h) ∙ is) in cc);
      }

  -- one that records a release
  shallow-fewer : (l : ℕ) → act c r ≡ Releases l → pending_after c (pending t h) ≡ pending t h
      → IsShallow t (entry t c r ∷ h)
  shallow-fewer l acts keeps =
      let step =
      λ (m : ℕ). num-step t m (entry t c r) h (Releases l)
      (act-own (entry t c r) ∙ acts) sane in
      let le =
      λ (m : ℕ). (let found : num t m (entry t c r ∷ h) ≤ num t m h = elim (eqb_tells l m) [
        | inl e ↦ (let s : num t m (entry t c r ∷ h) ≡ num t m h - 1 = step m ∙ rw e.0 refl in
            omega arith)
        | inr e ↦ (let s : num t m (entry t c r ∷ h) ≡ num t m h = step m ∙ rw e.0 refl in
            omega arith)
      ] in found) in
      record {
        bound = λ m. (let s = le m in let b = shallow.bound m in omega arith);
        asked = λ q is some. (let s = le q.lock.0 in
            let b =
            shallow.asked q (sym keeps ∙ (sym (own_pending t c r h) ∙ is))
            (watched-before start files h (entry t c r) ok some) in omega arith);
      }

note-few : (start : Start) (files : List (List ℕ)) (h : List Entry) (t l : ℕ) (r : Reply)
    → IsShallow t h
    → NoteAccepted (state_of (story_after start files h)) t l r → is_off (watch_of h) ≡ false
    → num t l h ≤ DEEPEST
note-few start files h t l r shallow a some =
    let p =
    asked-lock l (pending t h) (ap (λ o. is_for l o)
    (sym (pending-state start files h t a.seat)) ∙ a.asked) in
    subst (λ k. num t k h ≤ DEEPEST) p.2 (shallow.asked p.0 p.1 some)

-- an entry of the seat's own
shallow-own : (start : Start) (files : List (List ℕ)) (h : List Entry) (t : ℕ) (c : Call)
    (r : Reply) → IsSane h
    → answer_of (story_after start files h) t c ≡ Ok r → IsShallow t h
    → IsShallow t (entry t c r ∷ h)
shallow-own start files h t (Check p) r sane ok shallow =
    let a = check_accepted (state_of (story_after start files h)) t p r ok in
    shallow-quiet start files h t (Check p) r sane ok shallow refl
    (λ q is some. subst (λ (k : Request). num t k.lock.0 h ≤ DEEPEST) (same-request p q is)
    (shallow-num start files h t p.lock.0 sane shallow a.seat a.shallow some))
shallow-own start files h t (Note l) Recorded sane ok shallow =
    let a = note_accepted (state_of (story_after start files h)) t l.0 Recorded ok in
    shallow-more start files h t (Note l) Recorded sane ok shallow l.0 refl
    (note-few start files h t l.0 Recorded shallow a
    (recorded_on (state_of (story_after start files h)) t l.0 (sym a.reply))) refl
shallow-own start files h t (Note l) r sane ok shallow =
    shallow-none start files h t (Note l) r sane ok shallow refl refl
shallow-own start files h t (NoteTry l m site) Recorded sane ok shallow =
    let a = try_accepted (state_of (story_after start files h)) t l.0 m site Recorded ok in
    shallow-more start files h t (NoteTry l m site) Recorded sane ok shallow l.0 refl
    (shallow-num start files h t l.0 sane shallow a.seat a.shallow
    (recorded_on (state_of (story_after start files h)) t l.0 (sym a.reply)))
    (idle-none (pending t h) (ap is_some (sym (pending-state start files h t a.seat)) ∙ a.idle))
shallow-own start files h t (GiveUp l) r sane ok shallow =
    shallow-none start files h t (GiveUp l) r sane ok shallow refl refl
shallow-own start files h t (Unlock l m) Unlocked sane ok shallow =
    shallow-fewer start files h t (Unlock l m) Unlocked sane ok shallow l.0 refl refl
shallow-own start files h t (Upgrade l) r sane ok shallow =
    shallow-keeps start files h t (Upgrade l) r sane ok shallow (upgrade-even l r) refl
shallow-own start files h t (Downgrade l) r sane ok shallow =
    shallow-keeps start files h t (Downgrade l) r sane ok shallow (downgrade-even l r) refl
shallow-own start files h t (NoRelease l) r sane ok shallow =
    shallow-keeps start files h t (NoRelease l) r sane ok shallow (norelease-even l r) refl
shallow-own start files h t (ReleaseOk l) r sane ok shallow =
    shallow-keeps start files h t (ReleaseOk l) r sane ok shallow (releaseok-even l r) refl
shallow-own start files h t c r sane ok shallow =
    shallow-keeps start files h t c r sane ok shallow refl refl

shallow_more : (start : Start) (files : List (List ℕ)) (h : List Entry) (t : ℕ) (x : Entry)
    → IsSane h
    → answer_of (story_after start files h) x.seat.0 x.call ≡ Ok x.reply → IsShallow t h
    → IsShallow t (x ∷ h)
shallow_more start files h t x sane ok shallow =
    elim (eqb_tells x.seat.0 t) [
      | inl e ↦ subst (λ s. IsShallow s (x ∷ h)) e.1
          (shallow-own start files h x.seat.0 x.call x.reply sane ok
          (subst (λ s. IsShallow s h) (sym e.1) shallow))
      | inr e ↦ shallow-other start files t x h sane ok e.1 shallow
    ]

pub shallow_legal : (start : Start) (files : List (List ℕ)) (h : List Entry) (t : ℕ)
    → IsLegal start files h → IsShallow t h
shallow_legal start files [] t legal = record {
  bound = λ l. omega (arith, num-nil t l);
  asked = λ q is some. absurd (let no : ◌≡◌ {A = Option Request} None (Some q) = is in cc);
}
shallow_legal start files (x ∷ h) t legal =
    shallow_more start files h t x (sane_legal start files h legal.2) legal.0
    (shallow_legal start files h t legal.2)

some-is : (b : Bool) (i j : Instance) → if_some b i ≡ Some j → (b ≡ true) × (i ≡ j)
some-is true i j e = (refl, let same : i ≡ j = cc in same)
some-is false i j e = (cc)

-- and so does one more, where the lock is acquired at most 65,535 times
one_more : (start : Start) (files : List (List ℕ)) (h : List Entry) (t l : ℕ) (i : Instance)
    → IsSane h → is_seat (state_of (story_after start files h)) t ≡ true
    → num t l h ≤ DEEPEST → held_by (state_of (story_after start files h)) t l ≡ Some i
    → i.count + 1 ≤ DEEPEST
one_more start files h t l i sane seat few is =
    let same =
    some-is (is_held t l h) (instance t h l) i
    (sym (held_by-state start files h t l seat sane) ∙ is) in
    let up = ltb-true 0 (num t l h) same.0 in
    let e = ap (λ (j : Instance). j.count) same.1 in
    omega arith

-- where a note is recorded
pub note-count : (start : Start) (files : List (List ℕ)) (h : List Entry) (t l : ℕ) (r : Reply)
    (i : Instance) → IsLegal start files h
    → NoteAccepted (state_of (story_after start files h)) t l r → is_off (watch_of h) ≡ false
    → held_by (state_of (story_after start files h)) t l ≡ Some i → i.count + 1 ≤ DEEPEST
note-count start files h t l r i legal a some is =
    one_more start files h t l i (sane_legal start files h legal) a.seat
    (note-few start files h t l r (shallow_legal start files h t legal) a some) is

-- and where a try is
pub try-count : (start : Start) (files : List (List ℕ)) (h : List Entry) (t l : ℕ) (m : Mode)
    (site : Site) (r : Reply) (i : Instance) → IsLegal start files h
    → TryAccepted (state_of (story_after start files h)) t l m site r → is_off (watch_of h) ≡ false
    → held_by (state_of (story_after start files h)) t l ≡ Some i → i.count + 1 ≤ DEEPEST
try-count start files h t l m site r i legal a some is =
    let sane = sane_legal start files h legal in
    one_more start files h t l i sane a.seat
    (shallow-num start files h t l sane (shallow_legal start files h t legal) a.seat
    a.shallow some) is
