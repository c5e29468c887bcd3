-- Calls in a scene: those that may come next are answered as the verifier answers them, and one
-- that is accepted is a deed of the world that the scene shows.
use Rattle.std.proofs.Common.{◌≡◌, ℕ, Bool, true, false, not, ◌&&◌, cond, List, [], ◌∷◌, ◌++◌}
use Rattle.std.proofs.Common.{Result, Ok, Err, refl, ap, sym, ◌∙◌, inl, inr}
use Rattle.std.proofs.lemmas.Bool.{cases_Bool, true≢false}
use Rattle.wit_model.specs.declared.faults.Fault.{Fault}
use Rattle.wit_model.specs.declared.faults.Fault.TheVariants.{UnknownSeat, UnknownLock, StepOrder}
use Rattle.wit_model.specs.declared.calls.Call.{Call}
use Rattle.wit_model.specs.declared.calls.Call.TheVariants.{Init, Check, Note, NoteTry, GiveUp}
use Rattle.wit_model.specs.declared.calls.Call.TheVariants.{Unlock, SetWatch, Destroy, Upgrade}
use Rattle.wit_model.specs.declared.calls.Call.TheVariants.{Downgrade, NoRelease, ReleaseOk}
use Rattle.wit_model.specs.declared.calls.Call.TheVariants.{DefineOrder}
use Rattle.wit_model.specs.declared.calls.Reply.{Reply}
use Rattle.wit_model.specs.declared.calls.Reply.TheVariants.{Ignored}
use Rattle.wit_model.specs.declared.calls.Entry.{Entry}
use Rattle.wit_model.specs.Rules.State.{Start, State, state_of, is_seat, is_live}
use Rattle.wit_model.specs.Rules.Step.{answer_of, story_after, is_logged, step}
use Rattle.wit_model.specs.World.Deeds.{Deed, Logged, PassedOver, Take, TryTake, Free, RawUp}
use Rattle.wit_model.specs.World.Deeds.{RawDown, log_of}
use Rattle.wit_model.specs.World.Stages.{may_follow}
use Rattle.wit_model.specs.World.Steps.{CanDo, IsWorld}
use Rattle.wit_model.specs.World.Scenes.{Scene, names_live, may_call, answer_in, scene_after}
use Rattle.wit_model.specs.World.Shown.{Shows, deed_called}
use Rattle.wit_model.proofs.Histories.NamedFiles.{answer-named}
use Rattle.wit_model.proofs.World.ShownCalls.{state-shown, call-shows}
use Rattle.wit_model.proofs.World.Stepping.{gone-by, let-by, seat-shown, follow-shown}

-- ---- the seat comes first, then the locks that are named

stops : (b : Bool) (f : Fault) (rest : Result Reply Fault) → b ≡ false
    → cond (not b) (Err f) rest ≡ Err f
stops true f rest is = absurd (true≢false is)
stops false f rest is = refl

module _ (st : State) (t : ℕ) where
  no-seat : (call : Call) → is_seat st t ≡ false → step st t call ≡ Err UnknownSeat
  no-seat (Init lock) is = stops (is_seat st t) UnknownSeat _ is
  no-seat (Check q) is = stops (is_seat st t) UnknownSeat _ is
  no-seat (Note l) is = stops (is_seat st t) UnknownSeat _ is
  no-seat (NoteTry l mode site) is = stops (is_seat st t) UnknownSeat _ is
  no-seat (GiveUp l) is = stops (is_seat st t) UnknownSeat _ is
  no-seat (Unlock l mode) is = stops (is_seat st t) UnknownSeat _ is
  no-seat (SetWatch watch) is = stops (is_seat st t) UnknownSeat _ is
  no-seat (Destroy l) is = stops (is_seat st t) UnknownSeat _ is
  no-seat (Upgrade l) is = stops (is_seat st t) UnknownSeat _ is
  no-seat (Downgrade l) is = stops (is_seat st t) UnknownSeat _ is
  no-seat (NoRelease l) is = stops (is_seat st t) UnknownSeat _ is
  no-seat (ReleaseOk l) is = stops (is_seat st t) UnknownSeat _ is
  no-seat (DefineOrder a b) is = stops (is_seat st t) UnknownSeat _ is

  module _ (seat : is_seat st t ≡ true) where
    one-lock : (l : ℕ) (rest : Result Reply Fault) → is_live st l ≡ false
        → cond (not (is_seat st t)) (Err UnknownSeat)
        (cond (not (is_live st l)) (Err UnknownLock) rest) ≡ Err UnknownLock
    one-lock l rest is =
        let-by (is_seat st t) UnknownSeat _ seat ∙ stops (is_live st l) UnknownLock rest is

    two-locks : (a b : ℕ) (rest : Result Reply Fault) (first : Bool) → is_live st a ≡ first
        → (first && is_live st b) ≡ false
        → cond (not (is_seat st t)) (Err UnknownSeat) (cond (not (is_live st a)) (Err UnknownLock)
        (cond (not (is_seat st t)) (Err UnknownSeat)
        (cond (not (is_live st b)) (Err UnknownLock) rest))) ≡ Err UnknownLock
    two-locks a b rest false at is = one-lock a _ at
    two-locks a b rest true at is =
        let-by (is_seat st t) UnknownSeat _ seat ∙ let-by (is_live st a) UnknownLock _ at
        ∙ one-lock b rest is

    no-lock : (call : Call) → names_live st call ≡ false → step st t call ≡ Err UnknownLock
    no-lock (Init lock) is = absurd (true≢false is)
    no-lock (SetWatch watch) is = absurd (true≢false is)
    no-lock (Check q) is = one-lock q.lock.0 _ is
    no-lock (Note l) is = one-lock l.0 _ is
    no-lock (NoteTry l mode site) is = one-lock l.0 _ is
    no-lock (GiveUp l) is = one-lock l.0 _ is
    no-lock (Unlock l mode) is = one-lock l.0 _ is
    no-lock (Destroy l) is = one-lock l.0 _ is
    no-lock (Upgrade l) is = one-lock l.0 _ is
    no-lock (Downgrade l) is = one-lock l.0 _ is
    no-lock (NoRelease l) is = one-lock l.0 _ is
    no-lock (ReleaseOk l) is = one-lock l.0 _ is
    no-lock (DefineOrder a b) is = two-locks a.0 b.0 _ (is_live st a.0) refl is

pub call-answered : (s : Scene) (t : ℕ) (call : Call) → may_call s t call ≡ true
    → answer_in s t call ≡ answer_of s.story t call
call-answered s t call may =
    elim (cases_Bool (is_seat (state_of s.story) t)) [
      | inr none ↦ stops (is_seat (state_of s.story) t) UnknownSeat _ none
          ∙ sym (no-seat (state_of s.story) t call none)
      | inl seat ↦
          let-by (is_seat (state_of s.story) t) UnknownSeat _ seat
          ∙ elim (cases_Bool (names_live (state_of s.story) call)) [
            | inr none ↦ stops (names_live (state_of s.story) call) UnknownLock _ none
                ∙ sym (no-lock (state_of s.story) t seat call none)
            | inl live ↦
                let-by (names_live (state_of s.story) call) UnknownLock _ live
                ∙ let-by (may_call s t call) StepOrder (answer_of s.story t call) may
          ]
    ]

-- ---- calls as deeds

pub passed-ignored : (r : Reply) → is_logged r ≡ false → r ≡ Ignored
passed-ignored Ignored is = refl
passed-ignored r is = absurd (true≢false is)

entry : ℕ → Call → Reply → Entry
entry t call r = record { seat = record { 0 = t }; call = call; reply = r }

module _ (start : Start) (files : List (List ℕ)) (w : List Deed) (s : Scene)
    (shown : Shows start files w s) (t : ℕ) (call : Call) (r : Reply) where
  may-follow : may_call s t call ≡ may_follow (PassedOver t call) w
  may-follow = follow-shown start files w s shown (PassedOver t call)

  answer-shown : answer_of s.story t call ≡ answer_of (story_after start files (log_of w)) t call
  answer-shown = ap (λ st. step st t call) (state-shown start files w s shown)

  pub call-deed : IsWorld start files w → answer_in s t call ≡ Ok r
      → IsWorld start files (deed_called t call r ∷ w)
      × Shows start files (deed_called t call r ∷ w) (scene_after s t call r)
  call-deed world ok =
      let a = gone-by (is_seat (state_of s.story) t) UnknownSeat _ r ok in
      let b = gone-by (names_live (state_of s.story) call) UnknownLock _ r a.1 in
      let c = gone-by (may_call s t call) StepOrder (answer_of s.story t call) r b.1 in
      let seat = sym (seat-shown start files w s shown t) ∙ a.0 in (
        (go (is_logged r) refl (sym answer-shown ∙ c.1) (sym may-follow ∙ c.0), world),
        call-shows start files w s shown t call r seat,
      )
    where
      go : (b : Bool) → is_logged r ≡ b → answer_of (story_after start files (log_of w)) t call
          ≡ Ok r → may_follow (PassedOver t call) w ≡ true
          → CanDo start files (cond b (Logged
          (record { seat = record { 0 = t }; call = call; reply = r })) (PassedOver t call)) w
      go true logs answer follows = (follows, (answer, logs))
      go false logs answer follows = (follows, answer ∙ ap (λ x. Ok x) (passed-ignored r logs))

  pub deed-call : CanDo start files (deed_called t call r) w → answer_in s t call ≡ Ok r
  deed-call can =
      let x = go (is_logged r) refl can in
      call-answered s t call (may-follow ∙ x.1) ∙ (answer-shown ∙ x.0)
    where
      go : (b : Bool) → is_logged r ≡ b
          → CanDo start files (cond b (Logged
          (record { seat = record { 0 = t }; call = call; reply = r })) (PassedOver t call)) w
          → (answer_of (story_after start files (log_of w)) t call ≡ Ok r)
          × (may_follow (PassedOver t call) w ≡ true)
      go true logs can = (can.1.0, can.0)
      go false logs can = (can.1 ∙ ap (λ x. Ok x) (sym (passed-ignored r logs)), can.0)

-- ---- one more file

pub world-named : (start : Start) (files : List (List ℕ)) (name : List ℕ) (w : List Deed)
    → IsWorld start files w → IsWorld start (files ++ name ∷ []) w
world-named start files name [] world = tt
world-named start files name (Logged e ∷ w) world = (
  (
    world.0.0,
    (
      answer-named start files name (log_of w) e.seat.0 e.call e.reply world.0.1.0,
      world.0.1.1,
    ),
  ),
  world-named start files name w world.1,
)
world-named start files name (PassedOver t call ∷ w) world = (
  (world.0.0, answer-named start files name (log_of w) t call Ignored world.0.1),
  world-named start files name w world.1,
)
world-named start files name (Take t l mode ∷ w) world =
    (world.0, world-named start files name w world.1)
world-named start files name (TryTake t l mode ∷ w) world =
    (world.0, world-named start files name w world.1)
world-named start files name (Free t l ∷ w) world =
    (world.0, world-named start files name w world.1)
world-named start files name (RawUp t l ∷ w) world =
    (world.0, world-named start files name w world.1)
world-named start files name (RawDown t l ∷ w) world =
    (world.0, world-named start files name w world.1)

pub shown-named : (start : Start) (files : List (List ℕ)) (name : List ℕ) (w : List Deed)
    (s : Scene) → Shows start files w s
    → Shows start (files ++ name ∷ []) w
    (record s { story = record s.story { files = files ++ name ∷ [] } })
shown-named start files name w s shown = record {
  begun = shown.begun;
  logs = shown.logs;
  named = refl;
  locks = shown.locks;
  had = shown.had;
  modes = shown.modes;
  tidy = shown.tidy;
  stages = shown.stages;
  seats = shown.seats;
}
