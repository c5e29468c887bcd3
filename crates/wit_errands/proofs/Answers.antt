-- A call is answered the same wherever its seat, the locks and what is watched are as they were, and
-- there is room: only a check may be answered otherwise.
use Rattle.std.proofs.Common.{◌≡◌, ℕ, Bool, true, false, not, ◌&&◌, cond, is_some, List}
use Rattle.std.proofs.Common.{Result, Ok, Err, find, refl, ap, ap₂, sym, ◌∙◌, subst}
use Rattle.std.proofs.lemmas.Bool.{false≢true, true≢false}
use Rattle.wit_model.specs.declared.faults.Fault.{Fault}
use Rattle.wit_model.specs.declared.faults.Fault.TheVariants.{UnknownSeat, UnknownLock, Pending}
use Rattle.wit_model.specs.declared.faults.Fault.TheVariants.{NotRequested, LogFull}
use Rattle.wit_model.specs.declared.locks.Mode.{Mode}
use Rattle.wit_model.specs.declared.locks.Site.{Site}
use Rattle.wit_model.specs.declared.calls.Request.{Request}
use Rattle.wit_model.specs.declared.calls.Call.{Call}
use Rattle.wit_model.specs.declared.calls.Call.TheVariants.{Init, Check, Note, NoteTry, GiveUp}
use Rattle.wit_model.specs.declared.calls.Call.TheVariants.{Unlock, SetWatch, Destroy, Upgrade}
use Rattle.wit_model.specs.declared.calls.Call.TheVariants.{Downgrade, NoRelease, ReleaseOk}
use Rattle.wit_model.specs.declared.calls.Call.TheVariants.{DefineOrder}
use Rattle.wit_model.specs.declared.calls.Reply.{Reply}
use Rattle.wit_model.specs.declared.calls.Reply.TheVariants.{Done, Recorded, Exhausted}
use Rattle.wit_model.specs.declared.calls.Reply.TheVariants.{Unrecorded, Ignored}
use Rattle.wit_model.specs.Laws.{is_exhaustion}
use Rattle.wit_model.specs.Rules.Numbers.{is_given, is_number}
use Rattle.wit_model.specs.Rules.Types.{is_spin, is_shareable}
use Rattle.wit_model.specs.declared.locks.Lock.{Lock}
use Rattle.wit_model.specs.Rules.Locks.{lock_at, is_destroyed}
use Rattle.wit_model.specs.Rules.History.{Records, act, is_off}
use Rattle.wit_model.specs.Rules.State.{State, Seat, seat_at, is_seat, is_live, has_room, chain_in}
use Rattle.wit_model.specs.Rules.Verdict.{is_exclusive, is_of, verdict}
use Rattle.wit_model.specs.Rules.Questions.{class_at, with_entry}
use Rattle.wit_model.specs.Rules.Step.{held_by, is_pending, is_for, before_naming, with_room}
use Rattle.wit_model.specs.Rules.Step.{before_answering, before_acquiring, is_deepest, is_too_deep}
use Rattle.wit_model.specs.Rules.Step.{is_exhausted, recorded_reply, released, step, is_logged}
use Rattle.wit_model.specs.Rules.Turning.{upgraded, downgraded, mark_answer, step_turn, step_mark}
use Rattle.wit_model.specs.World.Reordering.{kept_reply}
use Rattle.wit_model.proofs.Histories.Accepted.{passed, passed_not, same_reply, roomy}
use Rattle.wit_model.proofs.Histories.Accepted.{check_accepted, note_accepted, try_accepted}
use Rattle.wit_model.proofs.Histories.AcceptedLocks.{watch_accepted}
use Rattle.wit_model.proofs.World.Moves.{recorded-logged}
use Rattle.wit_errands.specs.Settled.{is_calm_call}
use Rattle.wit_errands.proofs.Verdicts.{IsLet, verdict-told, verdict-let}

-- two states that differ in other seats, in the orders, and in what is free alone
pub record AreAlike (s s' : State) (t : ℕ) : Type 0 where
  pub known : is_seat s' t ≡ is_seat s t
  pub seat : seat_at s' t ≡ seat_at s t
  pub types : s'.known.types ≡ s.known.types
  pub locks : s'.known.locks ≡ s.known.locks
  pub blessed : s'.known.blessed ≡ s.known.blessed
  pub destroyed : s'.destroyed ≡ s.destroyed
  pub files : s'.files ≡ s.files
  pub profile : s'.profile ≡ s.profile
  pub watch : s'.watch ≡ s.watch

-- the entries that there has to be room for
abbrev pub room_of : Call → ℕ
room_of (Check q) = 3
room_of (NoteTry l m site) = 2
room_of (Note l) = 0
room_of (GiveUp l) = 0
room_of (Unlock l m) = 0
room_of c = 1

-- answered the same, as its thread sees it
pub record IsAnswered (s : State) (t : ℕ) (c : Call) (r : Reply) : Type 0 where
  pub reply : Reply
  pub answer : step s t c ≡ Ok reply
  pub same : kept_reply c reply ≡ kept_reply c r
  pub logged : is_logged reply ≡ is_logged r
  pub plain : is_exhaustion reply ≡ false

module _ (s s' : State) (t : ℕ) (a : AreAlike s s' t) where
  live : (l : ℕ) → is_live s' l ≡ is_live s l
  live l =
      ap₂ (λ (ls : List Lock) ds. is_given ls l && not (is_destroyed ds l)) a.locks a.destroyed

  idle : is_pending s' t ≡ is_pending s t
  idle = ap (λ (x : Seat). is_some x.pending) a.seat

  asked : (l : ℕ) → is_for l (seat_at s' t).pending ≡ is_for l (seat_at s t).pending
  asked l = ap (λ (x : Seat). is_for l x.pending) a.seat

  class : (l : ℕ) → class_at s' l ≡ class_at s l
  class l = ap (λ (ls : List Lock). (lock_at ls l).made.class) a.locks

  held : (l : ℕ) → held_by s' t l ≡ held_by s t l
  held l =
      ap₂ (λ (ls : List Lock) (x : Seat). find (is_of l)
      (chain_in (is_spin (lock_at ls l).made.class) x)) a.locks a.seat

  off : is_off s'.watch ≡ is_off s.watch
  off = ap (λ w. is_off w) a.watch

  deep : (l : ℕ) → is_too_deep s' t l ≡ is_too_deep s t l
  deep l = ap₂ (λ b o. not b && is_deepest o) off (held l)

  naming : (l : ℕ) (rest rest' : Result Reply Fault) → rest' ≡ rest
      → before_naming s' t l rest' ≡ before_naming s t l rest
  naming l rest rest' same =
      ap₂ (λ b x. cond (not b) (Err UnknownSeat) x) a.known
      (ap₂ (λ b x. cond (not b) (Err UnknownLock) x) (live l)
      (ap₂ (λ b x. cond b (Err Pending) x) idle same))

  answering : (l : ℕ) (rest rest' : Result Reply Fault) → rest' ≡ rest
      → before_answering s' t l rest' ≡ before_answering s t l rest
  answering l rest rest' same =
      ap₂ (λ b x. cond (not b) (Err UnknownSeat) x) a.known
      (ap₂ (λ b x. cond (not b) (Err UnknownLock) x) (live l)
      (ap₂ (λ b x. cond (not b) (Err NotRequested) x) (asked l) same))

  roomy-same : (n : ℕ) (v : Result Reply Fault) (r : Reply) → v ≡ Ok r → has_room s' n ≡ true
      → with_room s' n v ≡ Ok r
  roomy-same n v r is room =
      ap (λ x. with_room s' n x) is ∙ ap (λ b. cond b (Ok r) (Err LogFull)) room

  entry-same : (v : Result Reply Fault) (r : Reply) → with_entry s v ≡ Ok r
      → (is_logged r ≡ true → has_room s' 1 ≡ true) → with_entry s' v ≡ Ok r
  entry-same (Err f) r is room = (cc)
  entry-same (Ok Ignored) r is room = is
  entry-same (Ok x) r is room =
      let found = roomy s 1 (Ok x) r is in
      let logged = ap is_logged (sym (same_reply found.0)) in
      roomy-same 1 (Ok x) r found.0 (room logged)

  -- ---- acquisitions

  acquiring : (l : ℕ) (m : Mode) (site : Site) (rest : Result Reply Fault)
      → is_seat s t ≡ true → is_live s l ≡ true → is_number s.files site.file.0 ≡ true
      → (not (is_exclusive m) && not (is_shareable (lock_at s.known.locks l).made.class)) ≡ false
      → is_pending s t ≡ false → is_too_deep s t l ≡ false
      → before_acquiring s' t l m site rest ≡ rest
  acquiring l m site rest seat lives file mode free shallow =
      let file' = ap (λ n. is_number n site.file.0) a.files ∙ file in
      let mode' = ap (λ c. not (is_exclusive m) && not (is_shareable c)) (class l) ∙ mode in
      rw (a.known ∙ seat, live l ∙ lives, file', mode', idle ∙ free, deep l ∙ shallow) refl

  recorded-by : (off held none none' : Bool) (r : Reply) → is_exhaustion r ≡ false
      → r ≡ cond off Unrecorded (cond held Recorded (cond none Exhausted Recorded))
      → (r ≡ Recorded → held ≡ false → none' ≡ false)
      → cond {A = Reply} off Unrecorded (cond held Recorded (cond none' Exhausted Recorded)) ≡ r
  recorded-by true held none none' r plain is room = sym is
  recorded-by false true none none' r plain is room = sym is
  recorded-by false false true none' r plain is room =
      absurd (true≢false (sym (ap is_exhaustion is) ∙ plain))
  recorded-by false false false none' r plain is room = rw (room is refl) (sym is)

  recorded : (l : ℕ) (r : Reply) → is_exhaustion r ≡ false → r ≡ recorded_reply s t l
      → (r ≡ Recorded → is_some (held_by s t l) ≡ false → is_exhausted s' t l ≡ false)
      → recorded_reply s' t l ≡ r
  recorded l r plain is room =
      ap₂ (λ x y. cond x Unrecorded (cond y Recorded (cond (is_exhausted s' t l) Exhausted Recorded)))
      off (ap is_some (held l))
      ∙ recorded-by (is_off s.watch) (is_some (held_by s t l)) (is_exhausted s t l)
      (is_exhausted s' t l) r plain is room

  -- ---- turns

  turning : (l : ℕ) (v v' : Result Reply Fault) (r : Reply) → v' ≡ v → step_turn s t l v ≡ Ok r
      → (is_logged r ≡ true → has_room s' 1 ≡ true) → step_turn s' t l v' ≡ Ok r
  turning l v v' r same ok room =
      let p = passed_not (is_seat s t) _ _ r ok in
      let q = passed_not (is_live s l) _ _ r p.1 in
      let x = passed (is_pending s t) _ _ r q.1 in
      let y = passed_not (is_shareable (class_at s l)) _ _ r x.1 in
      let shareable = ap is_shareable (class l) ∙ y.0 in
      rw (a.known ∙ p.0, live l ∙ q.0, idle ∙ x.0, shareable)
      (ap (λ z. with_entry s' z) same ∙ entry-same v r y.1 room)

  marking : (l : ℕ) (r : Reply) → step_mark s t l ≡ Ok r
      → (is_logged r ≡ true → has_room s' 1 ≡ true) → step_mark s' t l ≡ Ok r
  marking l r ok room =
      let p = passed_not (is_seat s t) _ _ r ok in
      let q = passed_not (is_live s l) _ _ r p.1 in
      let x = passed (is_pending s t) _ _ r q.1 in
      rw (a.known ∙ p.0, live l ∙ q.0, idle ∙ x.0)
      (ap (λ z. with_entry s' z) (ap₂ (λ w o. mark_answer w o) a.watch (held l))
      ∙ entry-same (mark_answer s.watch (held_by s t l)) r x.1 room)

  -- ---- checks

  let-reply : (v : Result Reply Fault) → IsLet v
      → (r : Reply) × (v ≡ Ok r) × (is_logged r ≡ true) × (is_exhaustion r ≡ false)
  let-reply (Ok r) is = (r, refl, is.0, is.1)
  let-reply (Err f) is = absurd is

  ok-let : (v : Result Reply Fault) (r : Reply) → v ≡ Ok r → is_logged r ≡ true
      → is_exhaustion r ≡ false → IsLet v
  ok-let (Ok x) r is logged plain =
      let same = same_reply is in (ap is_logged same ∙ logged, ap is_exhaustion same ∙ plain)
  ok-let (Err f) r is logged plain = (cc)

  verdict-same : (q : Request) → IsLet (verdict s.profile s.known s.watch (seat_at s t) q)
      → IsLet (verdict s'.profile s'.known s'.watch (seat_at s' t) q)
  verdict-same q is =
      subst (λ p. IsLet (verdict p s'.known s'.watch (seat_at s' t) q)) (sym a.profile)
      (subst (λ w. IsLet (verdict s.profile s'.known w (seat_at s' t) q)) (sym a.watch)
      (subst (λ x. IsLet (verdict s.profile s'.known s.watch x q)) (sym a.seat)
      (verdict-let s.profile s.known s'.known s.watch (seat_at s t) q a.types a.locks a.blessed
      is)))

  checking : (q : Request) (r : Reply) → step s t (Check q) ≡ Ok r
      → (is_logged r ≡ true → has_room s' 3 ≡ true) → IsAnswered s' t (Check q) r
  checking q r ok room =
      let c = check_accepted s t q r ok in
      let told = verdict-told s.profile s.known s.watch (seat_at s t) q r c.verdict in
      let v = verdict s'.profile s'.known s'.watch (seat_at s' t) q in
      let new =
      let-reply v (verdict-same q
      (ok-let (verdict s.profile s.known s.watch (seat_at s t) q) r c.verdict told.0 told.1)) in
      record {
        reply = new.0;
        answer =
            acquiring q.lock.0 q.mode q.site (with_room s' 3 v) c.seat c.live c.file c.mode c.idle
            c.shallow ∙ roomy-same 3 v new.0 new.1 (room told.0);
        same = refl;
        logged = new.2 ∙ sym told.0;
        plain = new.3;
      }

  -- ---- any call

  as-before : (c : Call) (r : Reply) → is_exhaustion r ≡ false → step s' t c ≡ Ok r
      → IsAnswered s' t c r
  as-before c r plain is =
      record { reply = r; answer = is; same = refl; logged = refl; plain = plain }

  pub answered : (c : Call) (r : Reply) → is_calm_call c ≡ true → is_exhaustion r ≡ false
      → step s t c ≡ Ok r
      → (is_logged r ≡ true → has_room s' (room_of c) ≡ true)
      → ((l : ℕ) → act c r ≡ Records l → is_some (held_by s t l) ≡ false
      → is_exhausted s' t l ≡ false)
      → IsAnswered s' t c r
  answered (Init lock) r calm plain ok room chunk = absurd (false≢true calm)
  answered (Destroy l) r calm plain ok room chunk = absurd (false≢true calm)
  answered (DefineOrder x y) r calm plain ok room chunk = absurd (false≢true calm)
  answered (Check q) r calm plain ok room chunk = checking q r ok room
  answered (Note l) r calm plain ok room chunk =
      let n = note_accepted s t l.0 r ok in
      let new =
      recorded l.0 r plain n.reply (λ is. chunk l.0 (ap (λ x. act (Note l) x) is)) in
      as-before (Note l) r plain
      (answering l.0 (Ok (recorded_reply s t l.0)) (Ok (recorded_reply s' t l.0))
      (ap Ok (new ∙ n.reply)) ∙ ok)
  answered (NoteTry l m site) r calm plain ok room chunk =
      let n = try_accepted s t l.0 m site r ok in
      let new =
      recorded l.0 r plain n.reply (λ is. chunk l.0 (ap (λ x. act (NoteTry l m site) x) is)) in
      let logged =
      recorded-logged (is_off s.watch) (is_some (held_by s t l.0)) (is_exhausted s t l.0) r n.reply
      in
      as-before (NoteTry l m site) r plain
      (acquiring l.0 m site (with_room s' 2 (Ok (recorded_reply s' t l.0))) n.seat n.live n.file
      n.mode n.idle n.shallow
      ∙ roomy-same 2 (Ok (recorded_reply s' t l.0)) r (ap Ok new) (room logged))
  answered (GiveUp l) r calm plain ok room chunk =
      as-before (GiveUp l) r plain (answering l.0 (Ok Done) (Ok Done) refl ∙ ok)
  answered (Unlock l m) r calm plain ok room chunk =
      as-before (Unlock l m) r plain
      (naming l.0 (released s.watch m (held_by s t l.0)) (released s'.watch m (held_by s' t l.0))
      (ap₂ (λ w o. released w m o) a.watch (held l.0)) ∙ ok)
  answered (SetWatch w) r calm plain ok room chunk =
      let n = watch_accepted s t w r ok in
      let level = ap (λ b. b && not (is_off w)) off ∙ n.level in
      let free = room (ap is_logged n.reply) in
      as-before (SetWatch w) r plain
      (rw (a.known ∙ n.seat, idle ∙ n.idle, level, free) (ap Ok (sym n.reply)))
  answered (Upgrade l) r calm plain ok room chunk =
      as-before (Upgrade l) r plain
      (turning l.0 (upgraded s.watch (held_by s t l.0)) (upgraded s'.watch (held_by s' t l.0)) r
      (ap₂ (λ w o. upgraded w o) a.watch (held l.0)) ok room)
  answered (Downgrade l) r calm plain ok room chunk =
      as-before (Downgrade l) r plain
      (turning l.0 (downgraded s.watch (held_by s t l.0)) (downgraded s'.watch (held_by s' t l.0))
      r (ap₂ (λ w o. downgraded w o) a.watch (held l.0)) ok room)
  answered (NoRelease l) r calm plain ok room chunk =
      as-before (NoRelease l) r plain (marking l.0 r ok room)
  answered (ReleaseOk l) r calm plain ok room chunk =
      as-before (ReleaseOk l) r plain (marking l.0 r ok room)
