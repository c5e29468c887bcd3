-- A call of a log and the steps beside it are done in a scene: each is accepted where the call is,
-- and where the lock admits the step before it.
use Rattle.std.proofs.Common.{◌≡◌, ℕ, Bool, true, false, ◌&&◌, cond, eqb, is_some, List, ◌∷◌}
use Rattle.std.proofs.Common.{Option, None, Some, Ok, refl, ap, sym, ◌∙◌, subst, inl, inr}
use Rattle.std.proofs.lemmas.Bool.{eq-eqb, cases_Bool, true≢false}
use Rattle.std.proofs.lemmas.Bool.Decides.{eqb_tells}
use Rattle.wit_model.specs.declared.calls.Request.{Request}
use Rattle.wit_model.specs.declared.calls.Call.{Call}
use Rattle.wit_model.specs.declared.calls.Reply.{Reply}
use Rattle.wit_model.specs.declared.calls.Entry.{Entry}
use Rattle.wit_model.specs.declared.raw_steps.RawStep.{RawStep}
use Rattle.wit_model.specs.Rules.Numbers.{is_given, is_number}
use Rattle.wit_model.specs.Rules.History.{act, act_by, pending, pending_after}
use Rattle.wit_model.specs.Rules.State.{Start, state_of, is_seat}
use Rattle.wit_model.specs.Rules.Step.{answer_of, story_after, is_logged, grown, step}
use Rattle.wit_model.specs.World.Deeds.{Deed, Logged, PassedOver, Take, TryTake, Free, RawUp}
use Rattle.wit_model.specs.World.Deeds.{RawDown, thread_of, own, log_of, are_these}
use Rattle.wit_model.specs.World.Moving.{LockStep, step_before, step_behind, raw_moved}
use Rattle.wit_model.specs.World.Scenes.{Scene, stage_at, is_free, deed_of, is_known, may_come}
use Rattle.wit_model.specs.World.Scenes.{stepped, stage_stepped, may_call, step_deed, step_raw}
use Rattle.wit_model.specs.World.Scenes.{answer_in, stage_then, scene_after}
use Rattle.wit_model.specs.World.Shown.{Shows, deed_called}
use Rattle.wit_model.specs.World.Stages.{Stage, Over, Asked, stage_logged, stage_passed, stage}
use Rattle.wit_model.specs.World.Stages.{is_over}
use Rattle.wit_model.specs.World.Steps.{IsWorld}
use Rattle.wit_model.proofs.Chains.Sane.{IsSane}
use Rattle.wit_model.proofs.Histories.Legal.{seat_accepted, sane_legal}
use Rattle.wit_model.proofs.World.Backed.{IsBacked, IsApart, apart-nothing}
use Rattle.wit_model.proofs.World.Calling.{call-answered, call-deed}
use Rattle.wit_model.proofs.World.Covering.{legal_world}
use Rattle.wit_model.proofs.World.Exclusion.{these}
use Rattle.wit_model.proofs.World.Own.{own-other}
use Rattle.wit_model.proofs.World.Placed.{changed-here}
use Rattle.wit_model.proofs.World.ShownCalls.{state-shown}
use Rattle.wit_model.proofs.World.Stepping.{accepts, step-deed, seat-shown}

-- ---- between the lines of a log a thread has finished its sequence, or has just asked

abbrev pub IsIdle : Option Request → Stage → Type 0
IsIdle None g = is_over g ≡ true
IsIdle (Some q) g = g ≡ Asked q

abbrev pub StandsIdle : ℕ → List Deed → Type 0
StandsIdle t w = IsIdle (pending t (log_of w)) (stage t (own t w))

pending-other : (u : ℕ) (d : Deed) (w : List Deed) → eqb (thread_of d) u ≡ false
    → pending u (log_of (d ∷ w)) ≡ pending u (log_of w)
pending-other u (Logged e) w other = rw other refl
pending-other u (PassedOver t call) w other = refl
pending-other u (Take t l m) w other = refl
pending-other u (TryTake t l m) w other = refl
pending-other u (Free t l) w other = refl
pending-other u (RawUp t l) w other = refl
pending-other u (RawDown t l) w other = refl

pub other-stands : (u : ℕ) (d : Deed) (w : List Deed) → eqb (thread_of d) u ≡ false → StandsIdle u w
    → StandsIdle u (d ∷ w)
other-stands u d w other was =
    subst (λ o. IsIdle (pending u (log_of (d ∷ w))) (stage u o)) (sym (own-other u d w other))
    (subst (λ p. IsIdle p (stage u (own u w))) (sym (pending-other u d w other)) was)

module _ (t : ℕ) (call : Call) (r : Reply) where
  abbrev entry : Entry
  entry = record { seat = record { 0 = t }; call = call; reply = r }

  abbrev called : Bool → Deed
  called b = cond b (Logged entry) (PassedOver t call)

  pub thread-called : thread_of (deed_called t call r) ≡ t
  thread-called = go (is_logged r)
    where
      go : (b : Bool) → thread_of (called b) ≡ t
      go true = refl
      go false = refl

  -- the caller's own stage
  pub called-stands : (w : List Deed)
      → (is_logged r ≡ true → IsIdle (pending_after call (pending t (log_of w)))
      (stage_logged t call (own t w)))
      → (is_logged r ≡ false → IsIdle (pending t (log_of w)) (stage_passed call))
      → StandsIdle t (deed_called t call r ∷ w)
  called-stands w logged passed = go (is_logged r) refl
    where
      go : (b : Bool) → is_logged r ≡ b → StandsIdle t (called b ∷ w)
      go true is = rw (eq-eqb t t refl) (logged is)
      go false is = rw (eq-eqb t t refl) (passed is)

-- and of all threads where it is that of one
pub all-stand : (t : ℕ) (w w' : List Deed)
    → ((u : ℕ) → eqb t u ≡ false → StandsIdle u w → StandsIdle u w') → ((u : ℕ) → StandsIdle u w)
    → StandsIdle t w' → (u : ℕ) → StandsIdle u w'
all-stand t w w' others was mine u =
    elim (eqb_tells t u) [
      | inl is ↦ subst (λ v. StandsIdle v w') is.1 mine
      | inr other ↦ others u other.0 (was u)
    ]

-- what one thread does to one lock leaves all others backed
pub all-backed : (t l : ℕ) (w w' : List Deed)
    → ((u k : ℕ) → are_these u k t l ≡ false → IsBacked u k w → IsBacked u k w')
    → ((u k : ℕ) → IsBacked u k w) → IsBacked t l w' → (u k : ℕ) → IsBacked u k w'
all-backed t l w w' others was mine u k =
    elim (cases_Bool (are_these u k t l)) [
      | inl is ↦ let e =
          these u k t l is in subst (λ v. IsBacked v k w') e.0
          (subst (λ j. IsBacked t j w') e.1 mine)
      | inr other ↦ others u k other (was u k)
    ]

-- a call that acts on one lock alone
pub act-elsewhere : (t l : ℕ) (call : Call) (r : Reply)
    → ((k : ℕ) → eqb l k ≡ false → IsApart (act call r) k)
    → (u k : ℕ) → are_these u k t l ≡ false → IsApart (act_by u (entry t call r)) k
act-elsewhere t l call r only u k other =
    elim (cases_Bool (eqb t u)) [
      | inl is ↦ rw is (only k (ap (λ b. b && eqb l k) (sym is) ∙ other))
      | inr not_mine ↦ rw not_mine (apart-nothing k)
    ]

-- a scene of a world whose threads stand so, and whose record is backed
pub record Fits (x : Scene) : Type 0 where
  pub start : Start
  pub files : List (List ℕ)
  pub deeds : List Deed
  pub world : IsWorld start files deeds
  pub shown : Shows start files deeds x
  pub idle : (t : ℕ) → StandsIdle t deeds
  pub backed : (t l : ℕ) → IsBacked t l deeds

abbrev pub DoesStep : Scene → ℕ → Option LockStep → Scene → Type 0
DoesStep x t None y = y ≡ x
DoesStep x t (Some k) y = step_raw x t k.0.0 k.1 ≡ Ok y

-- a call and the steps beside it are done
pub record Does (t : ℕ) (call : Call) (r : Reply) (x : Scene) : Type 0 where
  pub first : Scene
  pub last : Scene
  pub before : DoesStep x t (step_before x.story.history t call) first
  pub same : first.story ≡ x.story
  pub made : answer_in first t call ≡ Ok r
  pub behind : DoesStep (scene_after first t call r) t
      (step_behind x.story.history x.raw t call) last
  pub story : last.story ≡ grown x.story t call r
  pub shares : last.raw ≡ raw_moved x.story.history x.raw t call r
  pub fits : Fits last

pub none-from : (o : Option Request) → is_some o ≡ false → o ≡ None
none-from None is = refl
none-from (Some q) is = absurd (true≢false is)

module _ (start : Start) (files : List (List ℕ)) (w : List Deed) (x : Scene)
    (world : IsWorld start files w) (shown : Shows start files w x) (t : ℕ) where
  pub raw-step : (l : ℕ) (step : RawStep) (d : Deed) → deed_of (stage_at x t) t l step ≡ d
      → thread_of d ≡ t → is_seat (state_of x.story) t ≡ true
      → is_known (state_of x.story) l step ≡ true → may_come x d ≡ true → is_free x.raw d ≡ true
      → (step_raw x t l step ≡ Ok (stepped x d)) × IsWorld start files (d ∷ w)
      × Shows start files (d ∷ w) (stepped x d)
  raw-step l step d is mine seat known comes free =
      let ok : step_raw x t l step ≡ Ok (stepped x d)
      = ap (λ e. step_deed x e (is_known (state_of x.story) l step)) is
      ∙ accepts x d (is_known (state_of x.story) l step)
      (ap (λ u. is_seat (state_of x.story) u) mine ∙ seat) known comes free in
      let deed = step-deed start files w x shown world t l (stepped x d) step ok in (
        ok,
        subst (λ e. IsWorld start files (e ∷ w)) is deed.0,
        subst (λ e. Shows start files (e ∷ w) (stepped x d)) is deed.1,
      )

  pub call-step : (call : Call) (r : Reply) → answer_of x.story t call ≡ Ok r
      → may_call x t call ≡ true
      → (answer_in x t call ≡ Ok r) × IsWorld start files (deed_called t call r ∷ w)
      × Shows start files (deed_called t call r ∷ w) (scene_after x t call r)
  call-step call r ok may =
      let a = call-answered x t call may ∙ ok in
      let d = call-deed start files w x shown t call r world a in
      (a, d.0, d.1)

  pub stage-given : is_seat (state_of x.story) t ≡ true → is_given x.stages t ≡ true
  stage-given seat =
      ap (λ n. is_number n t) shown.seats ∙ (sym (seat-shown start files w x shown t) ∙ seat)

  pub stage-stepped : (d : Deed) → thread_of d ≡ t → is_seat (state_of x.story) t ≡ true
      → stage_at (stepped x d) t ≡ stage_stepped d
  stage-stepped d mine seat =
      subst (λ u. stage_at (stepped x d) u ≡ stage_stepped d) mine
      (changed-here x.stages (thread_of d) (stage_stepped d) Over
      (ap (λ u. is_given x.stages u) mine ∙ stage-given seat))

  pub stage-called : (call : Call) (r : Reply) → is_seat (state_of x.story) t ≡ true
      → stage_at (scene_after x t call r) t ≡ stage_then x t call r
  stage-called call r seat = changed-here x.stages t (stage_then x t call r) Over (stage-given seat)

  pub sane : IsSane (log_of w)
  sane = sane_legal start files (log_of w) (legal_world start files w world)

  -- what an accepted call says of its caller
  module _ (call : Call) (r : Reply) (ok : answer_of x.story t call ≡ Ok r) where
    pub answer-log : answer_of (story_after start files (log_of w)) t call ≡ Ok r
    answer-log = ap (λ st. step st t call) (sym (state-shown start files w x shown)) ∙ ok

    pub caller : is_seat (state_of x.story) t ≡ true
    caller = seat_accepted (state_of x.story) t call r ok

    caller-log : is_seat (state_of (story_after start files (log_of w))) t ≡ true
    caller-log = seat_accepted (state_of (story_after start files (log_of w))) t call r answer-log
