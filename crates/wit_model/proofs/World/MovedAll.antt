-- Whatever a log tells, its calls are done with the steps beside them; so a scene goes on as a log
-- does.
use Rattle.std.proofs.Common.{◌≡◌, ℕ, Bool, true, false, cond, eqb, List, [], ◌∷◌, ◌++◌, inl}
use Rattle.std.proofs.Common.{inr, arith, None, Ok, refl, ap, sym, ◌∙◌, subst}
use Rattle.std.proofs.lemmas.Bool.{eq-eqb, cases_Bool, true≢false}
use Rattle.wit_model.specs.declared.locks.LockNo.{LockNo}
use Rattle.wit_model.specs.declared.calls.Call.{Call}
use Rattle.wit_model.specs.declared.calls.Call.TheVariants.{Init, Check, Note, NoteTry, GiveUp}
use Rattle.wit_model.specs.declared.calls.Call.TheVariants.{Unlock, SetWatch, Destroy, Upgrade}
use Rattle.wit_model.specs.declared.calls.Call.TheVariants.{Downgrade, NoRelease, ReleaseOk}
use Rattle.wit_model.specs.declared.calls.Call.TheVariants.{DefineOrder}
use Rattle.wit_model.specs.declared.calls.Reply.{Reply}
use Rattle.wit_model.specs.Rules.Files.{is_known_file, files_after}
use Rattle.wit_model.specs.Rules.History.{act, act_by, pending, pending_after}
use Rattle.wit_model.specs.Rules.State.{State, Story, state_of, is_seat, is_live}
use Rattle.wit_model.specs.Rules.Step.{answer_of, story_after, is_for, is_logged}
use Rattle.wit_model.specs.World.Deeds.{Deed, log_of, own}
use Rattle.wit_model.specs.World.Moving.{step_before, step_behind, is_free_beside}
use Rattle.wit_model.specs.World.Scenes.{Scene, opening, stage_at, may_call}
use Rattle.wit_model.specs.World.Shown.{Shows, deed_called}
use Rattle.wit_model.specs.World.Stages.{Asked, stage, stage_logged, stage_passed}
use Rattle.wit_model.proofs.Chains.Acts.{num-nil}
use Rattle.wit_model.proofs.Histories.Accepted.{passed, passed_not, asked-lock, check_accepted}
use Rattle.wit_model.proofs.Histories.Accepted.{give_up_accepted}
use Rattle.wit_model.proofs.Histories.AcceptedLocks.{init_accepted, watch_accepted}
use Rattle.wit_model.proofs.Histories.Legal.{pending-state}
use Rattle.wit_model.proofs.World.Backed.{IsApart, apart-nothing, apart-norelease, apart-releaseok}
use Rattle.wit_model.proofs.World.Backed.{call-apart}
use Rattle.wit_model.proofs.World.Beside.{IsIdle, StandsIdle, called-stands, Fits, Does, sane}
use Rattle.wit_model.proofs.World.Calling.{world-named, shown-named}
use Rattle.wit_model.proofs.World.Moves.{plain, note-does}
use Rattle.wit_model.proofs.World.MovedCalls.{naming, ok-log, idle-now, over, try-does}
use Rattle.wit_model.proofs.World.MovedCalls.{upgrade-does}
use Rattle.wit_model.proofs.World.MovedReleases.{unlock-does, downgrade-does}
use Rattle.wit_model.proofs.World.Opening.{opening-shows}

module _ (x : Scene) (fits : Fits x) (t : ℕ) where
  abbrev w : List Deed
  w = fits.deeds

  abbrev st : State
  st = state_of (story_after fits.start fits.files (log_of w))

  -- a call that acts on no lock's record
  quiet : (call : Call) (r : Reply) → step_before x.story.history t call ≡ None
      → step_behind x.story.history x.raw t call ≡ None
      → answer_of x.story t call ≡ Ok r → may_call x t call ≡ true
      → StandsIdle t (deed_called t call r ∷ w) → ((k : ℕ) → IsApart (act call r) k)
      → Does t call r x
  quiet call r no_before no_behind ok may stands apart =
      plain x fits t call r no_before no_behind ok may stands
      (λ u k. call-apart t call r u k w (sane fits.start fits.files w x fits.world fits.shown t)
      (λ kept. apart-by u k) (fits.backed u k))
    where
      apart-by : (u k : ℕ) → IsApart
          (act_by u (record { seat = record { 0 = t }; call = call; reply = r })) k
      apart-by u k =
          elim (cases_Bool (eqb t u)) [
            | inl is ↦ rw is (apart k)
            | inr other ↦ rw other (apart-nothing k)
          ]

  -- the caller asks for nothing, before or behind it
  rests : (call : Call) (r : Reply) → pending t (log_of w) ≡ None
      → ((o : List Deed) → IsIdle (pending_after call None) (stage_logged t call o))
      → IsIdle None (stage_passed call)
      → StandsIdle t (deed_called t call r ∷ w)
  rests call r none logged passed =
      called-stands t call r w (λ kept.
      subst (λ o. IsIdle (pending_after call o) (stage_logged t call (own t w))) (sym none)
      (logged (own t w)))
      (λ skipped. subst (λ o. IsIdle o (stage_passed call)) (sym none) passed)

  give_up-does : (l : LockNo) (r : Reply) → answer_of x.story t (GiveUp l) ≡ Ok r
      → Does t (GiveUp l) r x
  give_up-does l r ok =
      let a = give_up_accepted st t l.0 r (ok-log x fits t (GiveUp l) r ok) in
      let p =
      asked-lock l.0 (pending t (log_of w))
      (ap (λ o. is_for l.0 o) (sym
      (pending-state fits.start fits.files (log_of w) t a.seat)) ∙ a.asked) in
      let asking : stage_at x t ≡ Asked p.0 =
      fits.shown.stages t ∙ subst (λ o. IsIdle o (stage t (own t w))) p.1 (fits.idle t) in
      quiet (GiveUp l) r refl refl ok (rw (asking, eq-eqb p.0.lock.0 l.0 p.2) refl)
      (called-stands t (GiveUp l) r w (λ kept. refl)
      (λ skipped. absurd (true≢false (sym (ap is_logged a.reply) ∙ skipped))))
      (λ k. apart-nothing k)

  -- each accepted call is done, where the lock admits the step before it
  pub does : (call : Call) (r : Reply) → answer_of x.story t call ≡ Ok r
      → is_free_beside x.story.history x.raw t (step_before x.story.history t call) ≡ true
      → Does t call r x
  does (Note l) r ok free = note-does x fits t l r ok free
  does (NoteTry l m site) r ok free = try-does x fits t l m site r ok free
  does (Upgrade l) r ok free = upgrade-does x fits t l r ok free
  does (Unlock l m) r ok free = unlock-does x fits t l m r ok
  does (Downgrade l) r ok free = downgrade-does x fits t l r ok
  does (GiveUp l) r ok free = give_up-does l r ok
  does (Init lock) r ok free =
      let a = init_accepted st t lock r (ok-log x fits t (Init lock) r ok) in
      let none = idle-now x fits t a.seat a.idle in
      quiet (Init lock) r refl refl ok (over x fits t none)
      (rests (Init lock) r none (λ o. refl) refl) (λ k. apart-nothing k)
  does (Check q) r ok free =
      let a = check_accepted st t q r (ok-log x fits t (Check q) r ok) in
      let none = idle-now x fits t a.seat a.idle in
      quiet (Check q) r refl refl ok (over x fits t none) (rests (Check q) r none (λ o. refl) refl)
      (λ k. apart-nothing k)
  does (SetWatch watch) r ok free =
      let a = watch_accepted st t watch r (ok-log x fits t (SetWatch watch) r ok) in
      let none = idle-now x fits t a.seat a.idle in
      quiet (SetWatch watch) r refl refl ok (over x fits t none)
      (rests (SetWatch watch) r none (λ o. refl) refl) (λ k. apart-nothing k)
  does (Destroy l) r ok free =
      let a = naming st t l.0 _ r (ok-log x fits t (Destroy l) r ok) in
      let none = idle-now x fits t a.0 a.2 in
      quiet (Destroy l) r refl refl ok (over x fits t none)
      (rests (Destroy l) r none (λ o. refl) refl) (λ k. apart-nothing k)
  does (NoRelease l) r ok free =
      let a = naming st t l.0 _ r (ok-log x fits t (NoRelease l) r ok) in
      let none = idle-now x fits t a.0 a.2 in
      quiet (NoRelease l) r refl refl ok (over x fits t none)
      (rests (NoRelease l) r none (λ o. refl) refl) (λ k. apart-norelease l r k)
  does (ReleaseOk l) r ok free =
      let a = naming st t l.0 _ r (ok-log x fits t (ReleaseOk l) r ok) in
      let none = idle-now x fits t a.0 a.2 in
      quiet (ReleaseOk l) r refl refl ok (over x fits t none)
      (rests (ReleaseOk l) r none (λ o. refl) refl) (λ k. apart-releaseok l r k)
  does (DefineOrder a b) r ok free =
      let c = passed_not (is_seat st t) _ _ r (ok-log x fits t (DefineOrder a b) r ok) in
      let d = passed_not (is_live st a.0) _ _ r c.1 in
      let e = naming st t b.0 _ r d.1 in
      let none = idle-now x fits t e.0 e.2 in
      quiet (DefineOrder a b) r refl refl ok (over x fits t none)
      (rests (DefineOrder a b) r none (λ o. refl) refl) (λ k. apart-nothing k)

-- ---- the beginning, and one more file

pub opening-fits : (s : Story) → s.history ≡ [] → Fits (opening s)
opening-fits s empty = record {
  start = s.start;
  files = s.files;
  deeds = [];
  world = tt;
  shown = opening-shows s empty;
  idle = λ t. refl;
  backed = λ t l some. absurd (let none = num-nil t l in omega (arith, none, some));
}

pub naming-fits : (file : List ℕ) (x : Scene) → Fits x
    → Fits (record x { story = record x.story { files = files_after file x.story.files } })
naming-fits file x fits = go (is_known_file file x.story.files)
  where
    go : (b : Bool) → Fits (record
        x { story = record x.story { files = cond b x.story.files (x.story.files ++ file ∷ []) } })
    go true = fits
    go false = record {
      start = fits.start;
      files = fits.files ++ file ∷ [];
      deeds = fits.deeds;
      world = world-named fits.start fits.files file fits.deeds fits.world;
      shown =
          subst (λ fs. Shows fits.start (fits.files ++ file ∷ []) fits.deeds
          (record x { story = record x.story { files = fs ++ file ∷ [] } }))
          (sym fits.shown.named)
          (shown-named fits.start fits.files file fits.deeds x fits.shown);
      idle = fits.idle;
      backed = fits.backed;
    }
