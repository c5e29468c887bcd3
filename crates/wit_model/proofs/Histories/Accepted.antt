-- What the acceptance of a call on a held lock says: each fault's absence, and the reply.
use Rattle.std.proofs.Common.{◌≡◌, ℕ, Bool, true, false, not, ◌&&◌, cond, eqb, is_some, Option}
use Rattle.std.proofs.Common.{Some, None, Result, Ok, Err, refl, ap, sym, ◌∙◌}
use Rattle.std.proofs.lemmas.Bool.{eqb-true, false≢true, and_parts, not-true}
use Rattle.wit_model.specs.declared.faults.Fault.{Fault}
use Rattle.wit_model.specs.declared.faults.Fault.TheVariants.{LogFull, NotLocked, SharedUnlock}
use Rattle.wit_model.specs.declared.faults.Fault.TheVariants.{ExclusiveUnlock, ForbiddenUnlock}
use Rattle.wit_model.specs.declared.locks.Mode.{Mode}
use Rattle.wit_model.specs.declared.locks.Site.{Site}
use Rattle.wit_model.specs.declared.locks.Watch.{Watch}
use Rattle.wit_model.specs.declared.locks.Instance.{Instance}
use Rattle.wit_model.specs.declared.calls.Request.{Request}
use Rattle.wit_model.specs.declared.calls.Reply.{Reply}
use Rattle.wit_model.specs.declared.calls.Reply.TheVariants.{Done, Recorded, Exhausted, Unrecorded}
use Rattle.wit_model.specs.declared.calls.Reply.TheVariants.{Unlocked, Ignored}
use Rattle.wit_model.specs.Rules.History.{is_on, is_off}
use Rattle.wit_model.specs.Rules.Locks.{lock_at, is_destroyed}
use Rattle.wit_model.specs.Rules.State.{State, seat_at, is_seat, is_live, has_room}
use Rattle.wit_model.specs.Rules.Verdict.{is_exclusive, verdict}
use Rattle.wit_model.specs.Rules.Types.{is_shareable}
use Rattle.wit_model.specs.Rules.Step.{held_by, is_pending, is_for, is_too_deep}
use Rattle.wit_model.specs.Rules.Step.{with_room, is_exhausted, recorded_reply, released}
use Rattle.wit_model.specs.Rules.Step.{before_naming, before_answering, step_check, step_note_try}
use Rattle.wit_model.specs.Rules.Step.{is_logged}
use Rattle.wit_model.specs.Rules.Numbers.{is_given, is_number}

-- a fault that doesn't apply is passed by
pub passed : (b : Bool) (f : Fault) (rest : Result Reply Fault) (r : Reply)
    → cond b (Err f) rest ≡ Ok r → (b ≡ false) × (rest ≡ Ok r)
passed true f rest r ok = (cc)
passed false f rest r ok = (refl, ok)

pub passed_not : (b : Bool) (f : Fault) (rest : Result Reply Fault) (r : Reply)
    → cond (not b) (Err f) rest ≡ Ok r → (b ≡ true) × (rest ≡ Ok r)
passed_not true f rest r ok = (refl, ok)
passed_not false f rest r ok = (cc)

pub same_reply : {a b : Reply} → ◌≡◌ {A = Result Reply Fault} (Ok a) (Ok b) → a ≡ b
same_reply e = cc

pub same-request : (a b : Request) → ◌≡◌ {A = Option Request} (Some a) (Some b) → a ≡ b
same-request a b e = cc

-- a pending request for this lock
pub asked-lock : (l : ℕ) (o : Option Request) → is_for l o ≡ true
    → (q : Request) × (o ≡ Some q) × (q.lock.0 ≡ l)
asked-lock l None is = absurd (false≢true is)
asked-lock l (Some q) is = (q, refl, eqb-true q.lock.0 l is)

-- a live lock was made
pub live-given : (s : State) (l : ℕ) → is_live s l ≡ true → is_given s.known.locks l ≡ true
live-given s l is = (and_parts (is_given s.known.locks l) (not (is_destroyed s.destroyed l)) is).0

-- and isn't destroyed
pub live-undestroyed : (s : State) (l : ℕ) → is_live s l ≡ true → is_destroyed s.destroyed l ≡ false
live-undestroyed s l is =
    not-true (is_destroyed s.destroyed l)
    (and_parts (is_given s.known.locks l) (not (is_destroyed s.destroyed l)) is).1

pub record CheckAccepted (s : State) (t : ℕ) (q : Request) (r : Reply) : Type 0 where
  pub seat : is_seat s t ≡ true
  pub lock : is_given s.known.locks q.lock.0 ≡ true
  pub live : is_live s q.lock.0 ≡ true
  pub file : is_number s.files q.site.file.0 ≡ true
  pub mode : (not (is_exclusive q.mode)
      && not (is_shareable (lock_at s.known.locks q.lock.0).made.class)) ≡ false
  pub idle : is_pending s t ≡ false
  pub shallow : is_too_deep s t q.lock.0 ≡ false
  pub verdict : verdict s.profile s.known s.watch (seat_at s t) q ≡ Ok r
  pub room : has_room s 3 ≡ true

pub roomy : (s : State) (n : ℕ) (v : Result Reply Fault) (r : Reply) → with_room s n v ≡ Ok r
    → (v ≡ Ok r) × (has_room s n ≡ true)
roomy s n (Err f) r ok = (cc)
roomy s n (Ok a) r ok = go (has_room s n) refl ok
  where
    go : (b : Bool) → has_room s n ≡ b → cond b (Ok a) (Err LogFull) ≡ Ok r
        → (◌≡◌ {A = Result Reply Fault} (Ok a) (Ok r)) × (has_room s n ≡ true)
    go true is same = (same, is)
    go false is same = (cc)

pub check_accepted : (s : State) (t : ℕ) (q : Request) (r : Reply) → step_check s t q ≡ Ok r
    → CheckAccepted s t q r
check_accepted s t q r ok =
    let a = passed_not (is_seat s t) _ _ r ok in
    let b = passed_not (is_live s q.lock.0) _ _ r a.1 in
    let c = passed_not (is_number s.files q.site.file.0) _ _ r b.1 in
    let d =
    passed (not (is_exclusive q.mode)
    && not (is_shareable (lock_at s.known.locks q.lock.0).made.class)) _ _ r c.1 in
    let e = passed (is_pending s t) _ _ r d.1 in
    let f = passed (is_too_deep s t q.lock.0) _ _ r e.1 in
    let g = roomy s 3 (verdict s.profile s.known s.watch (seat_at s t) q) r f.1 in
    record {
      seat = a.0;
      lock = live-given s q.lock.0 b.0;
      live = b.0;
      file = c.0;
      mode = d.0;
      idle = e.0;
      shallow = f.0;
      verdict = g.0;
      room = g.1;
    }

-- what is recorded: nothing at Off, and no lock that is new where its chunk is wanting
recorded_by : (off held none : Bool)
    → cond {A = Reply} off Unrecorded (cond held Recorded (cond none Exhausted Recorded)) ≡ Recorded
    → (off ≡ false) × (held ≡ false → none ≡ false)
recorded_by true held none is = (cc)
recorded_by false true none is = (refl, λ no. absurd (false≢true (sym no)))
recorded_by false false true is = (cc)
recorded_by false false false is = (refl, λ no. refl)

pub recorded_on : (s : State) (t l : ℕ) → recorded_reply s t l ≡ Recorded → is_off s.watch ≡ false
recorded_on s t l is =
    (recorded_by (is_off s.watch) (is_some (held_by s t l)) (is_exhausted s t l) is).0

pub recorded_room : (s : State) (t l : ℕ) → recorded_reply s t l ≡ Recorded
    → is_some (held_by s t l) ≡ false → is_exhausted s t l ≡ false
recorded_room s t l is new =
    (recorded_by (is_off s.watch) (is_some (held_by s t l)) (is_exhausted s t l) is).1 new

pub record NoteAccepted (s : State) (t l : ℕ) (r : Reply) : Type 0 where
  pub seat : is_seat s t ≡ true
  pub lock : is_given s.known.locks l ≡ true
  pub live : is_live s l ≡ true
  pub asked : is_for l (seat_at s t).pending ≡ true
  pub reply : r ≡ recorded_reply s t l

pub note_accepted : (s : State) (t l : ℕ) (r : Reply)
    → before_answering s t l (Ok (recorded_reply s t l)) ≡ Ok r → NoteAccepted s t l r
note_accepted s t l r ok =
    let a = passed_not (is_seat s t) _ _ r ok in
    let b = passed_not (is_live s l) _ _ r a.1 in
    let c = passed_not (is_for l (seat_at s t).pending) _ _ r b.1 in
    record {
      seat = a.0;
      lock = live-given s l b.0;
      live = b.0;
      asked = c.0;
      reply = sym (same_reply c.1);
    }

pub record TryAccepted (s : State) (t l : ℕ) (m : Mode) (site : Site) (r : Reply) : Type 0 where
  pub seat : is_seat s t ≡ true
  pub lock : is_given s.known.locks l ≡ true
  pub live : is_live s l ≡ true
  pub file : is_number s.files site.file.0 ≡ true
  pub mode : (not (is_exclusive m) && not (is_shareable (lock_at s.known.locks l).made.class))
      ≡ false
  pub idle : is_pending s t ≡ false
  pub shallow : is_too_deep s t l ≡ false
  pub room : has_room s 2 ≡ true
  pub reply : r ≡ recorded_reply s t l

pub try_accepted : (s : State) (t l : ℕ) (m : Mode) (site : Site) (r : Reply)
    → step_note_try s t l m site ≡ Ok r → TryAccepted s t l m site r
try_accepted s t l m site r ok =
    let a = passed_not (is_seat s t) _ _ r ok in
    let b = passed_not (is_live s l) _ _ r a.1 in
    let c = passed_not (is_number s.files site.file.0) _ _ r b.1 in
    let d =
    passed (not (is_exclusive m) && not (is_shareable (lock_at s.known.locks l).made.class)) _ _
    r c.1 in
    let e = passed (is_pending s t) _ _ r d.1 in
    let f = passed (is_too_deep s t l) _ _ r e.1 in
    let g = roomy s 2 (Ok (recorded_reply s t l)) r f.1 in
    record {
      seat = a.0;
      lock = live-given s l b.0;
      live = b.0;
      file = c.0;
      mode = d.0;
      idle = e.0;
      shallow = f.0;
      room = g.1;
      reply = sym (same_reply g.0);
    }

pub record GiveUpAccepted (s : State) (t l : ℕ) (r : Reply) : Type 0 where
  pub seat : is_seat s t ≡ true
  pub lock : is_given s.known.locks l ≡ true
  pub live : is_live s l ≡ true
  pub asked : is_for l (seat_at s t).pending ≡ true
  pub reply : r ≡ Done

pub give_up_accepted : (s : State) (t l : ℕ) (r : Reply) → before_answering s t l (Ok Done) ≡ Ok r
    → GiveUpAccepted s t l r
give_up_accepted s t l r ok =
    let a = passed_not (is_seat s t) _ _ r ok in
    let b = passed_not (is_live s l) _ _ r a.1 in
    let c = passed_not (is_for l (seat_at s t).pending) _ _ r b.1 in
    record {
      seat = a.0;
      lock = live-given s l b.0;
      live = b.0;
      asked = c.0;
      reply = sym (same_reply c.1);
    }

pub record UnlockAccepted (s : State) (t l : ℕ) (m : Mode) (r : Reply) : Type 0 where
  pub seat : is_seat s t ≡ true
  pub lock : is_given s.known.locks l ≡ true
  pub live : is_live s l ≡ true
  pub idle : is_pending s t ≡ false
  pub instance : Instance
  pub held : held_by s t l ≡ Some instance
  pub reply : r ≡ Unlocked

-- a lock that isn't held is passed over, or refused
pub missed : (on : Bool) (r : Reply) → is_logged r ≡ true
    → cond {A = Result Reply Fault} on (Err NotLocked) (Ok Ignored) ≡ Ok r → ⊥
missed true r kept ok = (cc)
missed false r kept ok = false≢true (ap is_logged (same_reply ok) ∙ kept)

-- a held lock is released
pub unlocked_reply : (watch : Watch) (m : Mode) (i : Instance) (r : Reply)
    → released watch m (Some i) ≡ Ok r → r ≡ Unlocked
unlocked_reply watch m i r ok = by (is_on watch) ok
  where
    by : (on : Bool)
        → cond (not on) (Ok Unlocked)
        (cond (is_exclusive i.mode && not (is_exclusive m)) (Err SharedUnlock)
        (cond (not (is_exclusive i.mode) && is_exclusive m) (Err ExclusiveUnlock)
        (cond (eqb i.count 0 && i.norelease) (Err ForbiddenUnlock) (Ok Unlocked)))) ≡ Ok r
        → r ≡ Unlocked
    by false is = sym (same_reply is)
    by true is =
        let a = passed (is_exclusive i.mode && not (is_exclusive m)) _ _ r is in
        let b = passed (not (is_exclusive i.mode) && is_exclusive m) _ _ r a.1 in
        let c = passed (eqb i.count 0 && i.norelease) _ _ r b.1 in
        sym (same_reply c.1)

-- an accepted release that is logged finds the lock
release_found : (watch : Watch) (m : Mode) (o : Option Instance) (r : Reply) → is_logged r ≡ true
    → released watch m o ≡ Ok r → (i : Instance) × (o ≡ Some i) × (r ≡ Unlocked)
release_found watch m None r kept ok = absurd (missed (is_on watch) r kept ok)
release_found watch m (Some i) r kept ok = (i, refl, unlocked_reply watch m i r ok)

pub unlock_accepted : (s : State) (t l : ℕ) (m : Mode) (r : Reply)
    → before_naming s t l (released s.watch m (held_by s t l)) ≡ Ok r
    → is_logged r ≡ true → UnlockAccepted s t l m r
unlock_accepted s t l m r ok kept =
    let a = passed_not (is_seat s t) _ _ r ok in
    let b = passed_not (is_live s l) _ _ r a.1 in
    let c = passed (is_pending s t) _ _ r b.1 in
    let d = release_found s.watch m (held_by s t l) r kept c.1 in
    record {
      seat = a.0;
      lock = live-given s l b.0;
      live = b.0;
      idle = c.0;
      instance = d.0;
      held = d.1;
      reply = d.2;
    }

-- the seat of a release is known, also where it is passed over
pub unlock_seat : (s : State) (t l : ℕ) (m : Mode) (r : Reply)
    → before_naming s t l (released s.watch m (held_by s t l)) ≡ Ok r → is_seat s t ≡ true
unlock_seat s t l m r ok = (passed_not (is_seat s t) _ _ r ok).0
