-- Each call of a log with the steps beside it.
use Rattle.std.proofs.Common.{◌≡◌, ◌⊎◌, ℕ, zero, suc, ◌<◌, Bool, true, false, cond, eqb, is_some}
use Rattle.std.proofs.Common.{List, ◌∷◌, None, Some, Ok, refl, ap, sym, ◌∙◌, subst, inl, inr, arith}
use Rattle.std.proofs.lemmas.Bool.{eq-eqb, cases_Bool, true≢false}
use Rattle.wit_model.specs.declared.locks.LockNo.{LockNo}
use Rattle.wit_model.specs.declared.locks.Mode.{Mode}
use Rattle.wit_model.specs.declared.locks.Mode.TheVariants.{Shared, Exclusive}
use Rattle.wit_model.specs.declared.locks.Site.{Site}
use Rattle.wit_model.specs.declared.calls.Request.{Request}
use Rattle.wit_model.specs.declared.calls.Call.{Call}
use Rattle.wit_model.specs.declared.calls.Call.TheVariants.{Note, NoteTry}
use Rattle.wit_model.specs.declared.calls.Reply.{Reply}
use Rattle.wit_model.specs.declared.calls.Reply.TheVariants.{Recorded, Exhausted, Unrecorded}
use Rattle.wit_model.specs.declared.raw_steps.RawStep.TheVariants as raw_step
use Rattle.wit_model.specs.Rules.History.{act, is_held, pending, turned_by, mode, is_off}
use Rattle.wit_model.specs.Rules.State.{state_of}
use Rattle.wit_model.specs.Rules.Step.{answer_of, story_after, is_for, held_by, is_exhausted}
use Rattle.wit_model.specs.Rules.Step.{is_logged, grown}
use Rattle.wit_model.specs.World.Deeds.{Deed, Take, thread_of, log_of, own}
use Rattle.wit_model.specs.World.Moving.{LockStep, step_before, step_behind, stage_asked}
use Rattle.wit_model.specs.World.Moving.{deed_beside, is_free_beside, raw_beside}
use Rattle.wit_model.specs.World.Scenes.{Scene, stage_at, is_free, mode_asked, deed_of, is_known}
use Rattle.wit_model.specs.World.Scenes.{may_come, stepped, may_call, step_raw, scene_after}
use Rattle.wit_model.specs.World.Scenes.{raw_after, raw_then}
use Rattle.wit_model.specs.World.Shown.{Shows, deed_called}
use Rattle.wit_model.specs.World.Stages.{Asked, stage, is_same_mode}
use Rattle.wit_model.specs.World.Steps.{IsWorld}
use Rattle.wit_model.proofs.Chains.HeldLocks.{num-of_free, num-of_held}
use Rattle.wit_model.proofs.Histories.Accepted.{asked-lock, note_accepted}
use Rattle.wit_model.proofs.Histories.Legal.{pending-state}
use Rattle.wit_model.proofs.World.Backed.{IsBacked, raw-elsewhere, these-mine, IsApart}
use Rattle.wit_model.proofs.World.Backed.{apart-nothing, apart-other, call-apart, call-held}
use Rattle.wit_model.proofs.World.Backed.{call-new}
use Rattle.wit_model.proofs.World.Beside.{IsIdle, StandsIdle, other-stands, thread-called}
use Rattle.wit_model.proofs.World.Beside.{called-stands, all-stand, all-backed, act-elsewhere, Fits}
use Rattle.wit_model.proofs.World.Beside.{DoesStep, Does, raw-step, call-step, stage-stepped, sane}
use Rattle.wit_model.proofs.World.Beside.{answer-log, caller}
use Rattle.wit_model.proofs.World.Stepping.{seat-shown}

pub same-mode : (m : Mode) → is_same_mode m m ≡ true
same-mode Exclusive = refl
same-mode Shared = refl

pub recorded-logged : (off held none : Bool) (r : Reply)
    → r ≡ cond off Unrecorded (cond held Recorded (cond none Exhausted Recorded))
    → is_logged r ≡ true
recorded-logged true held none r is = ap is_logged is
recorded-logged false true none r is = ap is_logged is
recorded-logged false false true r is = ap is_logged is
recorded-logged false false false r is = ap is_logged is

-- what acquisitions and releases do to no other lock, and to no lock's mode
only-note : (l : LockNo) (r : Reply) (k : ℕ) → eqb l.0 k ≡ false → IsApart (act (Note l) r) k
only-note l Recorded k other = apart-other (act (Note l) Recorded) k other
only-note l r k other = apart-nothing k

note-turns : (l : LockNo) (r : Reply) (k : ℕ) (m : Mode) → turned_by k (act (Note l) r) m ≡ m
note-turns l Recorded k m = refl
note-turns l r k m = refl

pub only-try : (l : LockNo) (n : Mode) (site : Site) (r : Reply) (k : ℕ) → eqb l.0 k ≡ false
    → IsApart (act (NoteTry l n site) r) k
only-try l n site Recorded k other = apart-other (act (NoteTry l n site) Recorded) k other
only-try l n site r k other = apart-nothing k

pub try-turns : (l : LockNo) (n : Mode) (site : Site) (r : Reply) (k : ℕ) (m : Mode)
    → turned_by k (act (NoteTry l n site) r) m ≡ m
try-turns l n site Recorded k m = refl
try-turns l n site r k m = refl

pub none-or_some : (n : ℕ) → (n ≡ 0) ⊎ (0 < n)
none-or_some zero = inl refl
none-or_some (suc n) = inr (omega arith)

module _ (x : Scene) (fits : Fits x) (t : ℕ) where
  abbrev w : List Deed
  w = fits.deeds

  -- ---- a call with no step beside it, with one before it, with one behind

  pub plain : (call : Call) (r : Reply) → step_before x.story.history t call ≡ None
      → step_behind x.story.history x.raw t call ≡ None
      → answer_of x.story t call ≡ Ok r → may_call x t call ≡ true
      → StandsIdle t (deed_called t call r ∷ w)
      → ((u k : ℕ) → IsBacked u k (deed_called t call r ∷ w)) → Does t call r x
  plain call r no_before no_behind ok may stands backed =
      let made = call-step fits.start fits.files w x fits.world fits.shown t call r ok may in
      record {
        first = x;
        last = scene_after x t call r;
        before = subst (λ o. DoesStep x t o x) (sym no_before) refl;
        same = refl;
        made = made.0;
        behind =
            subst (λ o. DoesStep (scene_after x t call r) t o (scene_after x t call r))
            (sym no_behind) refl;
        story = refl;
        shares =
            sym (ap (λ o. raw_beside x.story.history t o
            (raw_then (raw_beside x.story.history t (step_before x.story.history t call) x.raw)
            call r)) no_behind
            ∙ ap (λ o. raw_then (raw_beside x.story.history t o x.raw) call r) no_before);
        fits = record {
          start = fits.start;
          files = fits.files;
          deeds = deed_called t call r ∷ w;
          world = made.1;
          shown = made.2;
          idle =
              all-stand t w (deed_called t call r ∷ w)
              (λ u other was. other-stands u (deed_called t call r) w
              (ap (λ v. eqb v u) (thread-called t call r) ∙ other) was) fits.idle stands;
          backed = backed;
        };
      }

  pub stepped-call : (call : Call) (r : Reply) (k : LockStep) (d : Deed)
      → step_before x.story.history t call ≡ Some k
      → step_behind x.story.history x.raw t call ≡ None
      → deed_beside x.story.history t k ≡ d → thread_of d ≡ t
      → (step_raw x t k.0.0 k.1 ≡ Ok (stepped x d)) × IsWorld fits.start fits.files (d ∷ w)
      × Shows fits.start fits.files (d ∷ w) (stepped x d)
      → answer_of x.story t call ≡ Ok r → may_call (stepped x d) t call ≡ true
      → StandsIdle t (deed_called t call r ∷ d ∷ w)
      → ((u j : ℕ) → IsBacked u j (deed_called t call r ∷ d ∷ w)) → Does t call r x
  stepped-call call r k d is none same mine done ok may stands backed =
      let made =
      call-step fits.start fits.files (d ∷ w) (stepped x d) done.1 done.2 t call r ok may in
      record {
        first = stepped x d;
        last = scene_after (stepped x d) t call r;
        before = subst (λ o. DoesStep x t o (stepped x d)) (sym is) done.0;
        same = refl;
        made = made.0;
        behind =
            subst (λ o. DoesStep (scene_after (stepped x d) t call r) t o
            (scene_after (stepped x d) t call r)) (sym none) refl;
        story = refl;
        shares =
            sym (ap (λ o. raw_beside x.story.history t o
            (raw_then (raw_beside x.story.history t (step_before x.story.history t call) x.raw)
            call r)) none
            ∙ (ap (λ o. raw_then (raw_beside x.story.history t o x.raw) call r) is
            ∙ ap (λ e. raw_then (raw_after e x.raw) call r) same));
        fits = record {
          start = fits.start;
          files = fits.files;
          deeds = deed_called t call r ∷ d ∷ w;
          world = made.1;
          shown = made.2;
          idle = all-stand t w (deed_called t call r ∷ d ∷ w)
              (λ u other was. other-stands u (deed_called t call r) (d ∷ w)
              (ap (λ v. eqb v u) (thread-called t call r) ∙ other)
              (other-stands u d w (ap (λ v. eqb v u) mine ∙ other) was)) fits.idle stands;
          backed = backed;
        };
      }

  pub call-stepped : (call : Call) (r : Reply) (k : LockStep) (d : Deed)
      → step_before x.story.history t call ≡ None
      → step_behind x.story.history x.raw t call ≡ Some k
      → deed_beside x.story.history t k ≡ d
      → deed_of (stage_at (scene_after x t call r) t) t k.0.0 k.1 ≡ d → thread_of d ≡ t
      → answer_of x.story t call ≡ Ok r → may_call x t call ≡ true
      → is_known (state_of (grown x.story t call r)) k.0.0 k.1 ≡ true
      → may_come (scene_after x t call r) d ≡ true → is_free (raw_then x.raw call r) d ≡ true
      → StandsIdle t (d ∷ deed_called t call r ∷ w)
      → ((u j : ℕ) → IsBacked u j (d ∷ deed_called t call r ∷ w)) → Does t call r x
  call-stepped call r k d no_before is same there mine ok may known comes free stands backed =
      let y = scene_after x t call r in
      let c = deed_called t call r in
      let made = call-step fits.start fits.files w x fits.world fits.shown t call r ok may in
      let seat = caller fits.start fits.files w x fits.world fits.shown t call r ok in
      let done = raw-step fits.start fits.files (c ∷ w) y made.1 made.2 t k.0.0 k.1 d there mine
      (seat-shown fits.start fits.files (c ∷ w) y made.2 t
      ∙ (sym (seat-shown fits.start fits.files w x fits.shown t) ∙ seat)) known comes free in
      record {
        first = x;
        last = stepped y d;
        before = subst (λ o. DoesStep x t o x) (sym no_before) refl;
        same = refl;
        made = made.0;
        behind = subst (λ o. DoesStep y t o (stepped y d)) (sym is) done.0;
        story = refl;
        shares =
            sym (ap (λ o. raw_beside x.story.history t o
            (raw_then (raw_beside x.story.history t (step_before x.story.history t call) x.raw)
            call r)) is
            ∙ (ap (λ o. raw_after (deed_beside x.story.history t k)
            (raw_then (raw_beside x.story.history t o x.raw) call r)) no_before
            ∙ ap (λ e. raw_after e (raw_then x.raw call r)) same));
        fits = record {
          start = fits.start;
          files = fits.files;
          deeds = d ∷ c ∷ w;
          world = done.1;
          shown = done.2;
          idle = all-stand t w (d ∷ c ∷ w)
              (λ u other was. other-stands u d (c ∷ w) (ap (λ v. eqb v u) mine ∙ other)
              (other-stands u c w (ap (λ v. eqb v u) (thread-called t call r) ∙ other) was))
              fits.idle stands;
          backed = backed;
        };
      }

  -- ---- a lock that was asked for is noted

  module _ (l : LockNo) (r : Reply) (ok : answer_of x.story t (Note l) ≡ Ok r) where
    note-logged : is_logged r ≡ true
    note-logged =
        let s = state_of x.story in
        recorded-logged (is_off s.watch) (is_some (held_by s t l.0)) (is_exhausted s t l.0) r
        (note_accepted s t l.0 r ok).reply

    note-stands : (v : List Deed) → StandsIdle t (deed_called t (Note l) r ∷ v)
    note-stands v =
        called-stands t (Note l) r v (λ kept. refl)
        (λ passed. absurd (true≢false (sym note-logged ∙ passed)))

    module _ (q : Request) (is : pending t (log_of w) ≡ Some q) (lock : q.lock.0 ≡ l.0) where
      asking : stage_at x t ≡ Asked q
      asking = fits.shown.stages t ∙ subst (λ o. IsIdle o (stage t (own t w))) is (fits.idle t)

      note-held : is_held t l.0 x.story.history ≡ true → Does t (Note l) r x
      note-held held =
          let some =
          num-of_held t l.0 (log_of w)
          (ap (λ h. is_held t l.0 h) (sym fits.shown.logs) ∙ held) in
          let was = fits.backed t l.0 some in
          let safe = sane fits.start fits.files w x fits.world fits.shown t in
          plain (Note l) r (rw held refl) refl ok (rw (asking, eq-eqb q.lock.0 l.0 lock, held) refl)
          (note-stands w)
          (all-backed t l.0 w (deed_called t (Note l) r ∷ w)
          (λ u k other before. call-apart t (Note l) r u k w safe
          (λ kept. act-elsewhere t l.0 (Note l) r (only-note l r) u k other) before) fits.backed
          (call-held t (Note l) r l.0 w some (λ kept. note-turns l r l.0 (mode t l.0 (log_of w))
          ∙ sym was.1) (λ passed. was.1) was.0))

      note-taken : is_held t l.0 x.story.history ≡ false
          → is_free_beside x.story.history x.raw t (step_before x.story.history t (Note l)) ≡ true
          → Does t (Note l) r x
      note-taken unheld free =
          let d = Take t l.0 q.mode in
          let k : LockStep = (l, raw_step.Take) in
          let before : step_before x.story.history t (Note l) ≡ Some k = rw unheld refl in
          let same : deed_beside x.story.history t k ≡ d =
          ap (λ o. Take t l.0 (mode_asked (stage_asked o)))
          (ap (λ h. pending t h) fits.shown.logs ∙ is) in
          let admitted =
          ap (λ e. is_free x.raw e) (sym same)
          ∙ subst (λ o. is_free_beside x.story.history x.raw t o ≡ true) before free in
          let a = note_accepted (state_of x.story) t l.0 r ok in
          let safe = sane fits.start fits.files w x fits.world fits.shown t in
          let done =
          raw-step fits.start fits.files w x fits.world fits.shown t l.0 raw_step.Take d
          (ap (λ g. Take t l.0 (mode_asked g)) asking) refl a.seat a.live
          (rw (asking, eq-eqb q.lock.0 l.0 lock, same-mode q.mode, unheld) refl) admitted in
          let none =
          num-of_free t l.0 (log_of w)
          (ap (λ h. is_held t l.0 h) (sym fits.shown.logs) ∙ unheld) in
          stepped-call (Note l) r k d before refl same refl done ok
          (rw (
            stage-stepped fits.start fits.files w x fits.world fits.shown t d refl a.seat,
            eq-eqb l.0 l.0 refl,
          ) refl) (note-stands (d ∷ w))
          (all-backed t l.0 w (deed_called t (Note l) r ∷ d ∷ w)
          (λ u k other was. call-apart t (Note l) r u k (d ∷ w) safe
          (λ kept. act-elsewhere t l.0 (Note l) r (only-note l r) u k other)
          (raw-elsewhere u k d w refl other was)) fits.backed
          (call-new t (Note l) r l.0 (d ∷ w) none (rw (these-mine t l.0, is) refl)
          (rw (these-mine t l.0) (omega arith))))

    pub note-does : is_free_beside x.story.history x.raw t (step_before x.story.history t (Note l))
        ≡ true → Does t (Note l) r x
    note-does free =
        let s = answer-log fits.start fits.files w x fits.world fits.shown t (Note l) r ok in
        let a = note_accepted (state_of (story_after fits.start fits.files (log_of w))) t l.0 r s in
        let p =
        asked-lock l.0 (pending t (log_of w))
        (ap (λ o. is_for l.0 o) (sym
        (pending-state fits.start fits.files (log_of w) t a.seat)) ∙ a.asked) in
        elim (cases_Bool (is_held t l.0 x.story.history)) [
          | inl held ↦ note-held p.0 p.1 p.2 held
          | inr unheld ↦ note-taken p.0 p.1 p.2 unheld free
        ]
