-- Tries and upgrades of a log, with the steps before them.
use Rattle.std.proofs.Common.{◌≡◌, ◌⊎◌, ℕ, ◌<◌, Bool, true, false, cond, eqb, nat_lt}
use Rattle.std.proofs.Common.{is_some, List, ◌∷◌, Option, None, Some, Result, Ok, Err, refl, ap}
use Rattle.std.proofs.Common.{sym, ◌∙◌, subst, inl, inr, arith}
use Rattle.std.proofs.lemmas.Bool.{eq-eqb, cases_Bool, true≢false}
use Rattle.wit_model.specs.declared.faults.Fault.{Fault}
use Rattle.wit_model.specs.declared.faults.Fault.TheVariants.{LogFull}
use Rattle.wit_model.specs.declared.locks.LockNo.{LockNo}
use Rattle.wit_model.specs.declared.locks.Mode.{Mode}
use Rattle.wit_model.specs.declared.locks.Site.{Site}
use Rattle.wit_model.specs.declared.locks.Watch.{Watch}
use Rattle.wit_model.specs.declared.locks.Instance.{Instance}
use Rattle.wit_model.specs.declared.calls.Call.{Call}
use Rattle.wit_model.specs.declared.calls.Call.TheVariants.{NoteTry, Upgrade}
use Rattle.wit_model.specs.declared.calls.Reply.{Reply}
use Rattle.wit_model.specs.declared.calls.Reply.TheVariants.{Unlocked, Ignored, Done}
use Rattle.wit_model.specs.declared.raw_steps.RawStep.TheVariants as raw_step
use Rattle.wit_model.specs.Rules.History.{act, num, is_held, pending, turned_by, mode, is_off}
use Rattle.wit_model.specs.Rules.State.{Start, State, state_of, is_seat, is_live, has_room}
use Rattle.wit_model.specs.Rules.Verdict.{is_exclusive}
use Rattle.wit_model.specs.Rules.Questions.{before_naming, with_room, with_entry, class_at}
use Rattle.wit_model.specs.Rules.Types.{is_shareable}
use Rattle.wit_model.specs.Rules.Turning.{upgraded, downgraded}
use Rattle.wit_model.specs.Rules.Step.{answer_of, story_after, is_pending, held_by, is_exhausted}
use Rattle.wit_model.specs.Rules.Step.{is_logged, released, step}
use Rattle.wit_model.specs.World.Deeds.{Deed, TryTake, RawUp, log_of, are_these, shares, raw_mode}
use Rattle.wit_model.specs.World.Deeds.{own}
use Rattle.wit_model.specs.World.Moving.{step_before, is_free_beside}
use Rattle.wit_model.specs.World.Scenes.{Scene, stage_at, is_free}
use Rattle.wit_model.specs.World.Shown.{Shows, deed_called}
use Rattle.wit_model.specs.World.Stages.{Over, stage, is_over}
use Rattle.wit_model.specs.World.Steps.{admits, IsWorld}
use Rattle.wit_model.proofs.Chains.Sane.{IsSane}
use Rattle.wit_model.proofs.Chains.Found.{if_some}
use Rattle.wit_model.proofs.Chains.HeldLocks.{num-of_free, num-of_held}
use Rattle.wit_model.proofs.Histories.Accepted.{passed, passed_not, try_accepted, unlocked_reply}
use Rattle.wit_model.proofs.Histories.AcceptedTurns.{upgrade_accepted}
use Rattle.wit_model.proofs.Histories.Legal.{held_by-state, some-held, pending-state}
use Rattle.wit_model.proofs.World.Backed.{IsBacked, raw-elsewhere, these-mine, IsApart}
use Rattle.wit_model.proofs.World.Backed.{apart-nothing, apart-other, call-apart, call-held}
use Rattle.wit_model.proofs.World.Backed.{call-new, call-none}
use Rattle.wit_model.proofs.World.Beside.{IsIdle, called-stands, all-backed, act-elsewhere, Fits}
use Rattle.wit_model.proofs.World.Beside.{Does, none-from, raw-step, stage-stepped, sane}
use Rattle.wit_model.proofs.World.Beside.{answer-log}
use Rattle.wit_model.proofs.World.Calling.{passed-ignored}
use Rattle.wit_model.proofs.World.Exclusion.{has_seat, got-by}
use Rattle.wit_model.proofs.World.Moves.{stepped-call, recorded-logged, only-try, try-turns}
use Rattle.wit_model.proofs.World.Moves.{none-or_some, same-mode}
use Rattle.wit_model.proofs.World.Apart.{both-shared}

-- a call that names one lock, where its seat asks for nothing
pub naming : (s : State) (t l : ℕ) (rest : Result Reply Fault) (r : Reply)
    → before_naming s t l rest ≡ Ok r
    → (is_seat s t ≡ true) × (is_live s l ≡ true) × (is_pending s t ≡ false) × (rest ≡ Ok r)
naming s t l rest r ok =
    let a = passed_not (is_seat s t) _ _ r ok in
    let b = passed_not (is_live s l) _ _ r a.1 in
    let c = passed (is_pending s t) _ _ r b.1 in
    (a.0, b.0, c.0, c.1)

pub entered-ignored : (s : State) (answer : Result Reply Fault) → with_entry s answer ≡ Ok Ignored
    → answer ≡ Ok Ignored
entered-ignored s (Ok Ignored) ok = refl
entered-ignored s answer ok = roomed s answer ok
  where
    roomed : (s : State) (v : Result Reply Fault) → with_room s 1 v ≡ Ok Ignored → v ≡ Ok Ignored
    roomed s (Err f) ok = (cc)
    roomed s (Ok a) ok = go (has_room s 1) ok
      where
        go : (b : Bool) → cond b (Ok a) (Err LogFull) ≡ Ok Ignored
            → ◌≡◌ {A = Result Reply Fault} (Ok a) (Ok Ignored)
        go true is = is
        go false is = (cc)

-- a release or a turn is passed over where the lock isn't held
pub none-released : (watch : Watch) (m : Mode) (o : Option Instance)
    → released watch m o ≡ Ok Ignored → o ≡ None
none-released watch m None ok = refl
none-released watch m (Some i) ok =
    let is : Ignored ≡ Unlocked = unlocked_reply watch m i Ignored ok in (cc)

none-raised : (watch : Watch) (o : Option Instance) → upgraded watch o ≡ Ok Ignored → o ≡ None
none-raised watch None ok = refl
none-raised watch (Some i) ok =
    let a = passed (is_exclusive i.mode) _ _ Ignored ok in
    let b = passed (nat_lt 0 i.count) _ _ Ignored a.1 in
    let same : ◌≡◌ {A = Result Reply Fault} (Ok Done) (Ok Ignored) = b.1 in (cc)

pub none-lowered : (watch : Watch) (o : Option Instance)
    → downgraded watch o ≡ Ok Ignored → o ≡ None
none-lowered watch None ok = refl
none-lowered watch (Some i) ok =
    let a = passed_not (is_exclusive i.mode) _ _ Ignored ok in
    let b = passed (nat_lt 0 i.count) _ _ Ignored a.1 in
    let same : ◌≡◌ {A = Result Reply Fault} (Ok Done) (Ok Ignored) = b.1 in (cc)

unheld-by : (b : Bool) (i : Instance) → if_some b i ≡ None → b ≡ false
unheld-by true i is = (cc)
unheld-by false i is = refl

module _ (start : Start) (files : List (List ℕ)) (w : List Deed) (x : Scene)
    (world : IsWorld start files w) (shown : Shows start files w x) (t : ℕ) where
  abbrev log-state : State
  log-state = state_of (story_after start files (log_of w))

  -- whom a state's question is answered by the log
  pub unheld-log : (l : ℕ) → is_seat log-state t ≡ true → held_by log-state t l ≡ None
      → num t l (log_of w) ≡ 0
  unheld-log l seat none =
      num-of_free t l (log_of w) (unheld-by (is_held t l (log_of w)) _
      (sym (held_by-state start files (log_of w) t l seat (sane start files w x world shown t))
      ∙ none))

  pub held-log : (l : ℕ) (i : Instance) → is_seat log-state t ≡ true
      → held_by log-state t l ≡ Some i → (0 < num t l (log_of w)) × (mode t l (log_of w) ≡ i.mode)
  held-log l i seat is =
      let h =
      some-held (is_held t l (log_of w)) _ i
      (sym (held_by-state start files (log_of w) t l seat
      (sane start files w x world shown t)) ∙ is) in
      (num-of_held t l (log_of w) h.0, ap (λ (j : Instance). j.mode) h.1)

  idle-log : is_seat log-state t ≡ true → is_pending log-state t ≡ false
      → pending t (log_of w) ≡ None
  idle-log seat idle =
      none-from (pending t (log_of w))
      (ap is_some (sym (pending-state start files (log_of w) t seat)) ∙ idle)

module _ (x : Scene) (fits : Fits x) (t : ℕ) where
  abbrev w : List Deed
  w = fits.deeds

  abbrev st : State
  st = state_of (story_after fits.start fits.files (log_of w))

  pub ok-log : (call : Call) (r : Reply) → answer_of x.story t call ≡ Ok r → step st t call ≡ Ok r
  ok-log call r ok = answer-log fits.start fits.files w x fits.world fits.shown t call r ok

  pub idle-now : is_seat st t ≡ true → is_pending st t ≡ false → pending t (log_of w) ≡ None
  idle-now seat idle = idle-log fits.start fits.files w x fits.world fits.shown t seat idle

  pub over : pending t (log_of w) ≡ None → is_over (stage_at x t) ≡ true
  over none =
      ap is_over (fits.shown.stages t)
      ∙ subst (λ o. IsIdle o (stage t (own t w))) none (fits.idle t)

  pub all-safe : (l : ℕ) (call : Call) (r : Reply)
      → ((k : ℕ) → eqb l k ≡ false → IsApart (act call r) k) → (v : List Deed) → log_of v ≡ log_of w
      → (u k : ℕ) → are_these u k t l ≡ false → IsBacked u k v
      → IsBacked u k (deed_called t call r ∷ v)
  all-safe l call r only v same u k other was =
      call-apart t call r u k v (subst IsSane (sym same)
      (sane fits.start fits.files w x fits.world fits.shown t))
      (λ kept. act-elsewhere t l call r only u k other) was

  -- ---- a lock that was got by a try

  module _ (l : LockNo) (m : Mode) (site : Site) (r : Reply)
      (ok : answer_of x.story t (NoteTry l m site) ≡ Ok r) where
    try-logged : is_logged r ≡ true
    try-logged =
        let s = state_of x.story in
        recorded-logged (is_off s.watch) (is_some (held_by s t l.0)) (is_exhausted s t l.0) r
        (try_accepted s t l.0 m site r ok).reply

    pub try-does : is_free_beside x.story.history x.raw t
        (step_before x.story.history t (NoteTry l m site)) ≡ true → Does t (NoteTry l m site) r x
    try-does free =
        let a = try_accepted (state_of x.story) t l.0 m site r ok in
        let b = try_accepted st t l.0 m site r (ok-log (NoteTry l m site) r ok) in
        let none = idle-now b.seat b.idle in
        let d = TryTake t l.0 m in
        let done =
        raw-step fits.start fits.files w x fits.world fits.shown t l.0
        (raw_step.TryTake m) d refl refl a.seat a.live (rw (over none) refl) free in
        stepped-call x fits t (NoteTry l m site) r (l, raw_step.TryTake m) d refl refl
        refl refl done ok
        (rw (
          stage-stepped fits.start fits.files w x fits.world fits.shown t d refl a.seat,
          eq-eqb l.0 l.0 refl,
          same-mode m,
        ) refl)
        (called-stands t (NoteTry l m site) r (d ∷ w)
        (λ kept. subst (λ o. IsIdle o Over) (sym none) refl)
        (λ skipped. absurd (true≢false (sym try-logged ∙ skipped))))
        (all-backed t l.0 w (deed_called t (NoteTry l m site) r ∷ d ∷ w)
        (λ u k other was. all-safe l.0 (NoteTry l m site) r (only-try l m site r)
        (d ∷ w) refl u k other (raw-elsewhere u k d w refl other was)) fits.backed
        (both (none-or_some (num t l.0 (log_of w))) done.1.0.1.1))
      where
        had : 0 < shares t l.0 (TryTake t l.0 m ∷ w)
        had = rw (these-mine t l.0) (omega arith)

        in-mode : raw_mode t l.0 (TryTake t l.0 m ∷ w) ≡ m
        in-mode = rw (these-mine t l.0) refl

        -- where it holds the lock by the record already, it has it in this mode
        same : 0 < num t l.0 (log_of w) → admits fits.start.sizes.seats l.0 m w ≡ true
            → mode t l.0 (log_of w) ≡ m
        same some admitted =
            let was = fits.backed t l.0 some in
            let seat = has_seat fits.start fits.files w fits.world t l.0 was.0 in
            let both = got-by fits.start fits.files m w t l.0 seat was.0 admitted in
            sym was.1 ∙ sym (both-shared m (raw_mode t l.0 w) both.0 both.1)

        both : (num t l.0 (log_of w) ≡ 0) ⊎ (0 < num t l.0 (log_of w))
            → admits fits.start.sizes.seats l.0 m w ≡ true
            → IsBacked t l.0 (deed_called t (NoteTry l m site) r ∷ TryTake t l.0 m ∷ w)
        both (inl none) admitted =
            call-new t (NoteTry l m site) r l.0 (TryTake t l.0 m ∷ w) none in-mode had
        both (inr some) admitted =
            call-held t (NoteTry l m site) r l.0 (TryTake t l.0 m ∷ w) some
            (λ kept. try-turns l m site r l.0 (mode t l.0 (log_of w))
            ∙ (same some admitted ∙ sym in-mode))
            (λ skipped. in-mode ∙ sym (same some admitted)) had

  -- ---- a lock that is turned exclusive

  upgrade-with : (l : LockNo) (r : Reply) → answer_of x.story t (Upgrade l) ≡ Ok r
      → is_free x.raw (RawUp t l.0) ≡ true
      → IsBacked t l.0 (deed_called t (Upgrade l) r ∷ RawUp t l.0 ∷ w) → Does t (Upgrade l) r x
  upgrade-with l r ok free mine =
      let a = naming (state_of x.story) t l.0 _ r ok in
      let b = naming st t l.0 _ r (ok-log (Upgrade l) r ok) in
      let none = idle-now b.0 b.2 in
      let d = RawUp t l.0 in
      let done =
      raw-step fits.start fits.files w x fits.world fits.shown t l.0 raw_step.Up d refl refl a.0
      a.1 (rw (over none) refl) free in
      stepped-call x fits t (Upgrade l) r (l, raw_step.Up) d refl refl refl refl done ok
      (rw (
        stage-stepped fits.start fits.files w x fits.world fits.shown t d refl a.0,
        eq-eqb l.0 l.0 refl,
      ) refl)
      (called-stands t (Upgrade l) r (d ∷ w) (λ kept. subst (λ o. IsIdle o Over) (sym none) refl)
      (λ skipped. subst (λ o. IsIdle o Over) (sym none) refl))
      (all-backed t l.0 w (deed_called t (Upgrade l) r ∷ d ∷ w)
      (λ u k other was. all-safe l.0 (Upgrade l) r (only-upgrade l r) (d ∷ w) refl u k other
      (raw-elsewhere u k d w refl other was)) fits.backed mine)
    where
      only-upgrade : (l : LockNo) (r : Reply) (k : ℕ) → eqb l.0 k ≡ false
          → IsApart (act (Upgrade l) r) k
      only-upgrade l Done k other = apart-other (act (Upgrade l) Done) k other
      only-upgrade l r k other = apart-nothing k

  upgrade-none : (l : LockNo) → answer_of x.story t (Upgrade l) ≡ Ok Ignored
      → num t l.0 (log_of w) ≡ 0
  upgrade-none l ok =
      let b = naming st t l.0 _ Ignored (ok-log (Upgrade l) Ignored ok) in
      let c = passed_not (is_shareable (class_at st l.0)) _ _ Ignored b.3 in
      unheld-log fits.start fits.files w x fits.world fits.shown t l.0 b.0
      (none-raised st.watch (held_by st t l.0) (entered-ignored st _ c.1))

  pub upgrade-does : (l : LockNo) (r : Reply) → answer_of x.story t (Upgrade l) ≡ Ok r
      → is_free x.raw (RawUp t l.0) ≡ true → Does t (Upgrade l) r x
  upgrade-does l r ok free =
      elim (cases_Bool (is_logged r)) [
        | inl kept ↦
            let a = upgrade_accepted st t l.0 r (ok-log (Upgrade l) r ok) kept in
            let held =
            held-log fits.start fits.files w x fits.world fits.shown t l.0 a.instance
            a.seat a.held in
            let was = fits.backed t l.0 held.0 in
            upgrade-with l r ok free (call-held t (Upgrade l) r l.0 (RawUp t l.0 ∷ w) held.0
            (λ still. subst (λ y. turned_by l.0 (act (Upgrade l) y) (mode t l.0 (log_of w))
            ≡ raw_mode t l.0 (RawUp t l.0 ∷ w)) (sym a.reply)
            (rw (eq-eqb l.0 l.0 refl, eq-eqb t t refl) refl))
            (λ skipped. absurd (true≢false (sym kept ∙ skipped))) was.0)
        | inr skipped ↦
            let is = passed-ignored r skipped in
            upgrade-with l r ok free (call-none t (Upgrade l) r l.0 (RawUp t l.0 ∷ w) skipped
            (upgrade-none l (ok ∙ ap (λ y. Ok y) is)))
      ]
