-- Releases and downgrades of a log, with the steps behind them.
use Rattle.std.proofs.Common.{◌≡◌, ℕ, ◌-◌, ◌<◌, Bool, true, false, not, eqb, nat_lt, List, ◌∷◌}
use Rattle.std.proofs.Common.{None, Ok, refl, ap, ap₂, sym, ◌∙◌, subst, inl, inr, arith}
use Rattle.std.proofs.lemmas.Bool.{and_from, eq-eqb, cases_Bool, lt-ltb, ltb-false, false≢true}
use Rattle.std.proofs.lemmas.Bool.{true≢false}
use Rattle.wit_model.specs.declared.locks.LockNo.{LockNo}
use Rattle.wit_model.specs.declared.locks.Mode.{Mode}
use Rattle.wit_model.specs.declared.locks.Mode.TheVariants.{Shared}
use Rattle.wit_model.specs.declared.calls.Call.{Call}
use Rattle.wit_model.specs.declared.calls.Call.TheVariants.{Unlock, Downgrade}
use Rattle.wit_model.specs.declared.calls.Reply.{Reply}
use Rattle.wit_model.specs.declared.calls.Reply.TheVariants.{Unlocked, Ignored, Done}
use Rattle.wit_model.specs.declared.calls.Entry.{Entry}
use Rattle.wit_model.specs.declared.raw_steps.RawStep.TheVariants as raw_step
use Rattle.wit_model.specs.Rules.Locks.{destroyed_of, is_destroyed}
use Rattle.wit_model.specs.Rules.Numbers.{is_given}
use Rattle.wit_model.specs.Rules.History.{Releases, act, act_by, num, pending, turned_by, mode}
use Rattle.wit_model.specs.Rules.State.{State, state_of, is_live, typed_locks}
use Rattle.wit_model.specs.Rules.Verdict.{is_exclusive}
use Rattle.wit_model.specs.Rules.Questions.{class_at}
use Rattle.wit_model.specs.Rules.Types.{is_shareable}
use Rattle.wit_model.specs.Rules.Step.{answer_of, story_after, held_by, is_logged, grown}
use Rattle.wit_model.specs.World.Deeds.{Deed, Free, RawDown, log_of, shares, own}
use Rattle.wit_model.specs.World.Moving.{is_kept}
use Rattle.wit_model.specs.World.Scenes.{Scene, raw_of, shares_of, stage_at, is_free, raw_then}
use Rattle.wit_model.specs.World.Scenes.{scene_after}
use Rattle.wit_model.specs.World.Shown.{deed_called}
use Rattle.wit_model.specs.World.Stages.{Over, Forgot, Lowered, stage_logged}
use Rattle.wit_model.proofs.Chains.Acts.{num-step}
use Rattle.wit_model.proofs.Chains.HeldLocks.{held-from, mode-stays, rises-held}
use Rattle.wit_model.proofs.Histories.Accepted.{UnlockAccepted, passed_not, live-given}
use Rattle.wit_model.proofs.Histories.Accepted.{live-undestroyed, unlock_accepted}
use Rattle.wit_model.proofs.Histories.AcceptedTurns.{downgrade_accepted}
use Rattle.wit_model.proofs.Histories.Asked.{made-later}
use Rattle.wit_model.proofs.World.Backed.{IsBacked, raw-elsewhere, these-mine, IsApart}
use Rattle.wit_model.proofs.World.Backed.{apart-nothing, apart-other, call-held}
use Rattle.wit_model.proofs.World.Beside.{IsIdle, StandsIdle, called-stands, all-backed, Fits, Does}
use Rattle.wit_model.proofs.World.Beside.{stage-called, sane}
use Rattle.wit_model.proofs.World.Calling.{passed-ignored}
use Rattle.wit_model.proofs.World.Moves.{plain, call-stepped}
use Rattle.wit_model.proofs.World.MovedCalls.{naming, entered-ignored, none-released, none-lowered}
use Rattle.wit_model.proofs.World.MovedCalls.{unheld-log, held-log, ok-log, idle-now, over}
use Rattle.wit_model.proofs.World.MovedCalls.{all-safe}
use Rattle.wit_model.proofs.World.Own.{shares-own, num-own}
use Rattle.wit_model.proofs.World.Keeping.{either-false, keeps-fewer}

module _ (x : Scene) (fits : Fits x) (t : ℕ) (l : LockNo) where
  abbrev w : List Deed
  w = fits.deeds

  abbrev st : State
  st = state_of (story_after fits.start fits.files (log_of w))

  abbrev entry : Call → Reply → Entry
  entry call r = record { seat = record { 0 = t }; call = call; reply = r }

  fewer-own : nat_lt (shares t l.0 (own t w)) (num t l.0 (log_of (own t w)))
      ≡ nat_lt (shares_of x.raw t l.0) (num t l.0 x.story.history)
  fewer-own =
      ap₂ (λ a b. nat_lt a b) (shares-own t l.0 w ∙ sym (fits.shown.had t l.0))
      (num-own t l.0 w ∙ ap (λ h. num t l.0 h) (sym fits.shown.logs))

  given-later : (e : Entry) → is_live (state_of x.story) l.0 ≡ true
      → is_given (typed_locks x.story.start (e ∷ x.story.history)) l.0 ≡ true
  given-later e live =
      made-later x.story.start e x.story.history l.0 (live-given (state_of x.story) l.0 live)

  -- ---- a lock that is released

  module _ (m : Mode) where
    only-unlock : (r : Reply) (k : ℕ) → eqb l.0 k ≡ false → IsApart (act (Unlock l m) r) k
    only-unlock Unlocked k other = apart-other (act (Unlock l m) Unlocked) k other
    only-unlock r k other = apart-nothing k

    -- it stays, or it is freed
    unlock-stays : (r : Reply) → answer_of x.story t (Unlock l m) ≡ Ok r
        → is_kept x.story.history x.raw t l.0 ≡ true
        → IsBacked t l.0 (deed_called t (Unlock l m) r ∷ w)
        → StandsIdle t (deed_called t (Unlock l m) r ∷ w) → Does t (Unlock l m) r x
    unlock-stays r ok kept mine stands =
        let b = naming st t l.0 _ r (ok-log x fits t (Unlock l m) r ok) in
        plain x fits t (Unlock l m) r refl (rw kept refl) ok
        (over x fits t (idle-now x fits t b.0 b.2)) stands
        (all-backed t l.0 w (deed_called t (Unlock l m) r ∷ w)
        (all-safe x fits t l.0 (Unlock l m) r (only-unlock r) w refl) fits.backed mine)

    unlock-freed : (r : Reply) (g : Bool) → answer_of x.story t (Unlock l m) ≡ Ok r
        → is_kept x.story.history x.raw t l.0 ≡ false
        → stage_at (scene_after x t (Unlock l m) r) t ≡ Forgot l.0 g
        → nat_lt 0 (shares_of (raw_then x.raw (Unlock l m) r) t l.0) ≡ true
        → is_given (state_of (grown x.story t (Unlock l m) r)).known.locks l.0 ≡ true
        → IsBacked t l.0 (Free t l.0 ∷ deed_called t (Unlock l m) r ∷ w)
        → StandsIdle t (Free t l.0 ∷ deed_called t (Unlock l m) r ∷ w) → Does t (Unlock l m) r x
    unlock-freed r g ok freed at some given mine stands =
        let b = naming st t l.0 _ r (ok-log x fits t (Unlock l m) r ok) in
        let c = deed_called t (Unlock l m) r in
        let d = Free t l.0 in
        call-stepped x fits t (Unlock l m) r (l, raw_step.Free) d refl
        (rw freed refl) refl refl refl ok (over x fits t (idle-now x fits t b.0 b.2)) given
        (rw (at, eq-eqb l.0 l.0 refl) some) refl stands
        (all-backed t l.0 w (d ∷ c ∷ w)
        (λ u k other was. raw-elsewhere u k d (c ∷ w) refl other
        (all-safe x fits t l.0 (Unlock l m) r (only-unlock r) w refl u k other was))
        fits.backed mine)

    unlocked-does : answer_of x.story t (Unlock l m) ≡ Ok Unlocked → Does t (Unlock l m) Unlocked x
    unlocked-does ok =
        elim (cases_Bool (is_kept x.story.history x.raw t l.0)) [
          | inl kept ↦
              unlock-stays Unlocked ok kept called
              (called-stands t (Unlock l m) Unlocked w
              (λ still. subst (λ o. IsIdle o (stage_logged t (Unlock l m) (own t w))) (sym none)
              (fewer-own ∙ keeps-fewer (shares_of x.raw t l.0) (num t l.0 x.story.history)
              (subst (λ h. 0 < num t l.0 h) (sym fits.shown.logs) held) kept))
              (λ skipped. absurd (true≢false skipped)))
          | inr freed ↦
              let both =
              either-false (nat_lt 0 (shares_of x.raw t l.0))
              (nat_lt (shares_of x.raw t l.0) (num t l.0 x.story.history)) freed in
              let few = ltb-false (shares_of x.raw t l.0) (num t l.0 x.story.history) both.1 in
              let same = ap (λ h. num t l.0 h) fits.shown.logs in
              let a = naming (state_of x.story) t l.0 _ Unlocked ok in
              unlock-freed Unlocked false ok freed
              (stage-called fits.start fits.files w x fits.world fits.shown t
              (Unlock l m) Unlocked a.0 ∙ ap (λ g. Forgot l.0 g) both.1)
              both.0 (given-later (entry (Unlock l m) Unlocked) a.1)
              (λ some.
              (let one = num-step t l.0 (entry (Unlock l m) Unlocked) (log_of w) (Releases l.0)
              (rw (eq-eqb t t refl) refl) (sane fits.start fits.files w x fits.world
              fits.shown t) in
              let one' : num t l.0 (entry (Unlock l m) Unlocked ∷ log_of w)
              ≡ num t l.0 (log_of w) - 1 = one ∙ (rw (eq-eqb l.0 l.0 refl) refl) in
              let had = fits.shown.had t l.0 in
              (rw (these-mine t l.0) (omega (arith, few, same, had, some, one')), (called some).1)))
              (rw (eq-eqb t t refl) (subst (λ o. IsIdle o Over) (sym none) refl))
        ]
      where
        b : UnlockAccepted st t l.0 m Unlocked
        b = unlock_accepted st t l.0 m Unlocked (ok-log x fits t (Unlock l m) Unlocked ok) refl

        none : pending t (log_of w) ≡ None
        none = idle-now x fits t b.seat b.idle

        held : 0 < num t l.0 (log_of w)
        held =
            (held-log fits.start fits.files w x fits.world fits.shown t l.0 b.instance
            b.seat b.held).0

        called : IsBacked t l.0 (deed_called t (Unlock l m) Unlocked ∷ w)
        called =
            let was = fits.backed t l.0 held in
            call-held t (Unlock l m) Unlocked l.0 w held (λ still. sym was.1)
            (λ skipped. absurd (true≢false skipped)) was.0

    passed-does : answer_of x.story t (Unlock l m) ≡ Ok Ignored → Does t (Unlock l m) Ignored x
    passed-does ok =
        elim (cases_Bool (is_kept x.story.history x.raw t l.0)) [
          | inl kept ↦
              unlock-stays Ignored ok kept (λ some. absurd (omega (arith, unheld, some)))
              (called-stands t (Unlock l m) Ignored w (λ still. absurd (false≢true still))
              (λ skipped. subst (λ o. IsIdle o (Forgot l.0 true)) (sym none) refl))
          | inr freed ↦
              let a = naming (state_of x.story) t l.0 _ Ignored ok in
              unlock-freed Ignored true ok freed
              (stage-called fits.start fits.files w x fits.world fits.shown t
              (Unlock l m) Ignored a.0)
              (either-false (nat_lt 0 (shares_of x.raw t l.0))
              (nat_lt (shares_of x.raw t l.0) (num t l.0 x.story.history)) freed).0
              (live-given (state_of x.story) l.0 a.1)
              (λ some. absurd (omega (arith, unheld, some)))
              (rw (eq-eqb t t refl) (subst (λ o. IsIdle o Over) (sym none) refl))
        ]
      where
        none : pending t (log_of w) ≡ None
        none = let b = naming st t l.0 _ Ignored (ok-log x fits t (Unlock l m) Ignored ok) in
            idle-now x fits t b.0 b.2

        unheld : num t l.0 (log_of w) ≡ 0
        unheld =
            let b = naming st t l.0 _ Ignored (ok-log x fits t (Unlock l m) Ignored ok) in
            unheld-log fits.start fits.files w x fits.world fits.shown t l.0 b.0
            (none-released st.watch m (held_by st t l.0) b.3)

    pub unlock-does : (r : Reply) → answer_of x.story t (Unlock l m) ≡ Ok r
        → Does t (Unlock l m) r x
    unlock-does r ok =
        elim (cases_Bool (is_logged r)) [
          | inl kept ↦
              let is = (unlock_accepted (state_of x.story) t l.0 m r ok kept).reply in
              subst (λ y. Does t (Unlock l m) y x) (sym is) (unlocked-does (ok ∙ ap (λ y. Ok y) is))
          | inr skipped ↦
              let is = passed-ignored r skipped in
              subst (λ y. Does t (Unlock l m) y x) (sym is) (passed-does (ok ∙ ap (λ y. Ok y) is))
        ]

  -- ---- a lock that is turned shared

  only-downgrade : (r : Reply) (k : ℕ) → eqb l.0 k ≡ false → IsApart (act (Downgrade l) r) k
  only-downgrade Done k other = apart-other (act (Downgrade l) Done) k other
  only-downgrade r k other = apart-nothing k

  lowered : (r : Reply) (g : Bool) → answer_of x.story t (Downgrade l) ≡ Ok r
      → is_free x.raw (RawDown t l.0) ≡ true
      → is_free (raw_then x.raw (Downgrade l) r) (RawDown t l.0) ≡ true
      → stage_at (scene_after x t (Downgrade l) r) t ≡ Lowered l.0 g
      → is_live (state_of (grown x.story t (Downgrade l) r)) l.0 ≡ true
      → IsBacked t l.0 (RawDown t l.0 ∷ deed_called t (Downgrade l) r ∷ w)
      → StandsIdle t (RawDown t l.0 ∷ deed_called t (Downgrade l) r ∷ w)
      → Does t (Downgrade l) r x
  lowered r g ok free free' at live mine stands =
      let b = naming st t l.0 _ r (ok-log x fits t (Downgrade l) r ok) in
      let c = deed_called t (Downgrade l) r in
      let d = RawDown t l.0 in
      call-stepped x fits t (Downgrade l) r (l, raw_step.Down) d refl
      (rw free refl) refl refl refl ok (over x fits t (idle-now x fits t b.0 b.2)) live
      (rw (at, eq-eqb l.0 l.0 refl) refl) free' stands
      (all-backed t l.0 w (d ∷ c ∷ w)
      (λ u k other was. raw-elsewhere u k d (c ∷ w) refl other
      (all-safe x fits t l.0 (Downgrade l) r only-downgrade' w refl u k other was))
      fits.backed mine)
    where
      only-downgrade' : (k : ℕ) → eqb l.0 k ≡ false → IsApart (act (Downgrade l) r) k
      only-downgrade' = only-downgrade r

  done-does : answer_of x.story t (Downgrade l) ≡ Ok Done → Does t (Downgrade l) Done x
  done-does ok =
      let b = downgrade_accepted st t l.0 Done (ok-log x fits t (Downgrade l) Done ok) refl in
      let a = naming (state_of x.story) t l.0 _ Done ok in
      let none = idle-now x fits t b.seat b.idle in
      let held =
      held-log fits.start fits.files w x fits.world fits.shown t l.0 b.instance b.seat b.held in
      let was = fits.backed t l.0 held.0 in
      let exclusive : is_exclusive (raw_of x.raw l.0).mode ≡ true =
      ap is_exclusive (fits.shown.modes t l.0 was.0 ∙ (was.1 ∙ held.1)) ∙ b.mode in
      let had : 0 < shares_of x.raw t l.0 = subst (λ n. 0 < n) (sym (fits.shown.had t l.0)) was.0 in
      let free =
      and_from (nat_lt 0 (shares_of x.raw t l.0)) (is_exclusive (raw_of x.raw l.0).mode)
      (lt-ltb 0 (shares_of x.raw t l.0) had) exclusive in
      let e = entry (Downgrade l) Done in
      let turns : turned_by l.0 (act_by t e) (mode t l.0 (log_of w)) ≡ Shared =
      rw (eq-eqb t t refl, eq-eqb l.0 l.0 refl) refl in
      lowered Done false ok free free
      (stage-called fits.start fits.files w x fits.world fits.shown t (Downgrade l) Done a.0)
      (and_from (is_given (typed_locks x.story.start (e ∷ x.story.history)) l.0)
      (not (is_destroyed (destroyed_of x.story.history) l.0)) (given-later e a.1)
      (ap not (live-undestroyed (state_of x.story) l.0 a.1)))
      (λ some. (
        was.0,
        rw (these-mine t l.0)
            (sym (mode-stays t l.0 e (log_of w)
            (rises-held t l.0 e (log_of w) (held-from t l.0 (log_of w) held.0)) ∙ turns)),
      ))
      (rw (eq-eqb t t refl) (subst (λ o. IsIdle o Over) (sym none) refl))

  skipped-does : answer_of x.story t (Downgrade l) ≡ Ok Ignored → Does t (Downgrade l) Ignored x
  skipped-does ok =
      let a = naming (state_of x.story) t l.0 _ Ignored ok in
      elim (cases_Bool (is_free x.raw (RawDown t l.0))) [
        | inl free ↦
            lowered Ignored true ok free free
            (stage-called fits.start fits.files w x fits.world fits.shown t
            (Downgrade l) Ignored a.0) a.1
            (λ some. absurd (omega (arith, unheld, some)))
            (rw (eq-eqb t t refl) (subst (λ o. IsIdle o Over) (sym none) refl))
        | inr kept ↦
            plain x fits t (Downgrade l) Ignored refl (rw kept refl) ok (over x fits t none)
            (called-stands t (Downgrade l) Ignored w (λ still. absurd (false≢true still))
            (λ skipped. subst (λ o. IsIdle o (Lowered l.0 true)) (sym none) refl))
            (all-backed t l.0 w (deed_called t (Downgrade l) Ignored ∷ w)
            (all-safe x fits t l.0 (Downgrade l) Ignored (only-downgrade Ignored) w refl)
            fits.backed (λ some. absurd (omega (arith, unheld, some))))
      ]
    where
      none : pending t (log_of w) ≡ None
      none =
          let b = naming st t l.0 _ Ignored (ok-log x fits t (Downgrade l) Ignored ok) in
          idle-now x fits t b.0 b.2

      unheld : num t l.0 (log_of w) ≡ 0
      unheld =
          let b = naming st t l.0 _ Ignored (ok-log x fits t (Downgrade l) Ignored ok) in
          let c = passed_not (is_shareable (class_at st l.0)) _ _ Ignored b.3 in
          unheld-log fits.start fits.files w x fits.world fits.shown t l.0 b.0
          (none-lowered st.watch (held_by st t l.0) (entered-ignored st _ c.1))

  pub downgrade-does : (r : Reply) → answer_of x.story t (Downgrade l) ≡ Ok r
      → Does t (Downgrade l) r x
  downgrade-does r ok =
      elim (cases_Bool (is_logged r)) [
        | inl kept ↦
            let is = (downgrade_accepted (state_of x.story) t l.0 r ok kept).reply in
            subst (λ y. Does t (Downgrade l) y x) (sym is) (done-does (ok ∙ ap (λ y. Ok y) is))
        | inr skipped ↦
            let is = passed-ignored r skipped in
            subst (λ y. Does t (Downgrade l) y x) (sym is) (skipped-does (ok ∙ ap (λ y. Ok y) is))
      ]
