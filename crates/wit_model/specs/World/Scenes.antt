-- A world as it is kept while it goes on: what the verifier was told, which shares of the locks
-- themselves threads have, and where each thread stands in its latest sequence.
use Rattle.std.specs.Prelude.{ℕ, ◌+◌, ◌-◌, Bool, true, false, not, ◌&&◌, ◌||◌, ◌==◌, nat_lt, List}
use Rattle.std.specs.Prelude.{[], ◌∷◌, ◌++◌, length, replicate, unwrap_or, Result, Ok, Err}
use Rattle.std.specs.Prelude.{if◌then◌else◌}
use Rattle.std.specs.List.{list_all}
use Rattle.wit_model.specs.declared.faults.Fault.{Fault}
use Rattle.wit_model.specs.declared.faults.Fault.TheVariants.{UnknownSeat, UnknownLock, RawNotFree}
use Rattle.wit_model.specs.declared.faults.Fault.TheVariants.{StepOrder}
use Rattle.wit_model.specs.declared.locks.Mode.{Mode}
use Rattle.wit_model.specs.declared.locks.Mode.TheVariants.{Shared, Exclusive}
use Rattle.wit_model.specs.declared.calls.Call.{Call}
use Rattle.wit_model.specs.declared.calls.Call.TheVariants.{Init, Check, Note, NoteTry, GiveUp}
use Rattle.wit_model.specs.declared.calls.Call.TheVariants.{Unlock, SetWatch, Destroy, Upgrade}
use Rattle.wit_model.specs.declared.calls.Call.TheVariants.{Downgrade, NoRelease, ReleaseOk}
use Rattle.wit_model.specs.declared.calls.Call.TheVariants.{DefineOrder}
use Rattle.wit_model.specs.declared.calls.Reply.{Reply}
use Rattle.wit_model.specs.declared.raw_steps.RawStep.{RawStep}
use Rattle.wit_model.specs.declared.raw_steps.RawStep.TheVariants as raw_step
use Rattle.wit_model.specs.Rules.Numbers.{is_given, with_number, with_changed}
use Rattle.wit_model.specs.Rules.History.{num, is_held}
use Rattle.wit_model.specs.Rules.State.{Story, state_of, is_seat, is_live}
use Rattle.wit_model.specs.Rules.State as state
use Rattle.wit_model.specs.Rules.Verdict.{is_exclusive}
use Rattle.wit_model.specs.Rules.Step.{answer_of, grown, is_logged}
use Rattle.wit_model.specs.World.Deeds.{Deed, Logged, PassedOver, Take, TryTake, Free, RawUp}
use Rattle.wit_model.specs.World.Deeds.{RawDown, thread_of}
use Rattle.wit_model.specs.World.Stages.{Stage, Over, Asked, Taken, Tried, Raised, stage_called}
use Rattle.wit_model.specs.World.Stages.{stage_passed, call_follows, deed_follows}

-- who has how many shares of a lock, and in which mode
pub record RawLock : Type 0 where
  pub mode : Mode
  pub holders : List (ℕ × ℕ)

-- the locks and the stages by the numbers of locks and threads
pub record Scene : Type 0 where
  pub story : Story
  pub raw : List RawLock
  pub stages : List Stage

-- where nothing was logged yet
abbrev pub opening : Story → Scene
opening story = record {
  story = story;
  raw = [];
  stages = replicate story.start.sizes.seats Over;
}

abbrev pub stage_among : List Stage → ℕ → Stage
stage_among stages t = unwrap_or (with_number stages t) Over

abbrev pub stage_at : Scene → ℕ → Stage
stage_at s t = stage_among s.stages t

-- ---- shares

-- a lock of which nobody has a share
abbrev pub nobodys : RawLock
nobodys = record { mode = Exclusive; holders = [] }

abbrev pub raw_of : List RawLock → ℕ → RawLock
raw_of raw l = unwrap_or (with_number raw l) nobodys

abbrev pub shares_among : ℕ → List (ℕ × ℕ) → ℕ
shares_among t [] = 0
shares_among t (x ∷ xs) = if x.0 == t then x.1 else shares_among t xs

-- the shares that t has of lock l
abbrev pub shares_of : List RawLock → ℕ → ℕ → ℕ
shares_of raw t l = shares_among t (raw_of raw l).holders

-- whether it may be had so: exclusive where nobody has it, the asker included, and shared where
-- nobody has it exclusively
abbrev pub is_admitted : Mode → RawLock → Bool
is_admitted Exclusive k = length k.holders == 0
is_admitted Shared k = (length k.holders == 0) || not (is_exclusive k.mode)

-- whether t has its only share
abbrev pub is_only : ℕ → RawLock → Bool
is_only t k = (shares_among t k.holders == 1) && list_all (λ (x : ℕ × ℕ). x.0 == t) k.holders

-- whether a lock itself admits a deed
abbrev pub is_free : List RawLock → Deed → Bool
is_free raw (Take t l mode) = is_admitted mode (raw_of raw l)
is_free raw (TryTake t l mode) = is_admitted mode (raw_of raw l)
is_free raw (RawUp t l) = is_only t (raw_of raw l) && not (is_exclusive (raw_of raw l).mode)
is_free raw (RawDown t l) = nat_lt 0 (shares_of raw t l) && is_exclusive (raw_of raw l).mode
is_free raw _ = true

abbrev pub one_more : ℕ → List (ℕ × ℕ) → List (ℕ × ℕ)
one_more t [] = (t, 1) ∷ []
one_more t (x ∷ xs) = if x.0 == t then (t, x.1 + 1) ∷ xs else x ∷ one_more t xs

abbrev pub one_fewer : ℕ → List (ℕ × ℕ) → List (ℕ × ℕ)
one_fewer t [] = []
one_fewer t (x ∷ xs) =
    if x.0 == t then (if nat_lt 1 x.1 then (t, x.1 - 1) ∷ xs else xs) else x ∷ one_fewer t xs

-- t gets a share more of lock l, in this mode
abbrev pub got : ℕ → ℕ → Mode → List RawLock → List RawLock
got t l mode raw =
    with_changed raw l (record { mode = mode; holders = one_more t (raw_of raw l).holders })

abbrev pub freed : ℕ → ℕ → List RawLock → List RawLock
freed t l raw =
    with_changed raw l (record (raw_of raw l) { holders = one_fewer t (raw_of raw l).holders })

abbrev pub turned : ℕ → Mode → List RawLock → List RawLock
turned l mode raw = with_changed raw l (record (raw_of raw l) { mode = mode })

-- a lock that is made is nobody's
abbrev pub raw_called : Call → List RawLock → List RawLock
raw_called (Init lock) raw = raw ++ nobodys ∷ []
raw_called _ raw = raw

abbrev pub raw_after : Deed → List RawLock → List RawLock
raw_after (Logged e) raw = raw_called e.call raw
raw_after (PassedOver t call) raw = raw
raw_after (Take t l mode) raw = got t l mode raw
raw_after (TryTake t l mode) raw = got t l mode raw
raw_after (Free t l) raw = freed t l raw
raw_after (RawUp t l) raw = turned l Exclusive raw
raw_after (RawDown t l) raw = turned l Shared raw

-- ---- steps of the locks themselves

-- the mode of the request that stands at a stage
abbrev pub mode_asked : Stage → Mode
mode_asked (Asked q) = q.mode
mode_asked _ = Exclusive

-- what t does by such a step to lock l, where it stands so: it takes the lock in the mode that it
-- asked for
abbrev pub deed_of : Stage → ℕ → ℕ → RawStep → Deed
deed_of at t l raw_step.Take = Take t l (mode_asked at)
deed_of at t l (raw_step.TryTake mode) = TryTake t l mode
deed_of at t l raw_step.Free = Free t l
deed_of at t l raw_step.Up = RawUp t l
deed_of at t l raw_step.Down = RawDown t l

-- a lock that was destroyed since may be freed
abbrev pub is_known : state.State → ℕ → RawStep → Bool
is_known st l raw_step.Free = is_given st.known.locks l
is_known st l step = is_live st l

-- a thread may let go of a lock that it got by a try, or turned, without a call in between; no call
-- was refused where none was made, so a step is no such way back
abbrev pub is_way_back : Deed → Stage → Bool
is_way_back (Free t l) (Tried m mode) = true
is_way_back (RawDown t l) (Raised m) = true
is_way_back d at = false

abbrev pub has_share : List RawLock → Deed → Bool
has_share raw (Free t l) = nat_lt 0 (shares_of raw t l)
has_share raw d = true

-- whether a deed may come next; who has no share has none to free
abbrev pub may_come : Scene → Deed → Bool
may_come s d =
    deed_follows d (λ l. is_held (thread_of d) l s.story.history) (stage_at s (thread_of d))
    && (not (is_way_back d (stage_at s (thread_of d))) && has_share s.raw d)

-- where a thread stands after a deed that is no call
abbrev pub stage_stepped : Deed → Stage
stage_stepped (Take t l mode) = Taken l
stage_stepped (TryTake t l mode) = Tried l mode
stage_stepped (RawUp t l) = Raised l
stage_stepped d = Over

abbrev pub stepped : Scene → Deed → Scene
stepped s d = record {
  story = s.story;
  raw = raw_after d s.raw;
  stages = with_changed s.stages (thread_of d) (stage_stepped d);
}

-- a deed that is no call, of a lock that is known or not
abbrev pub step_deed : Scene → Deed → Bool → Result Scene Fault
step_deed s d known =
    if not (is_seat (state_of s.story) (thread_of d)) then Err UnknownSeat
    else if not known then Err UnknownLock
    else if not (may_come s d) then Err StepOrder
    else if not (is_free s.raw d) then Err RawNotFree
    else Ok (stepped s d)

-- what comes of a step of t with lock l
abbrev pub step_raw : Scene → ℕ → ℕ → RawStep → Result Scene Fault
step_raw s t l step =
    step_deed s (deed_of (stage_at s t) t l step) (is_known (state_of s.story) l step)

-- ---- calls

-- whether the locks that a call names are live
abbrev pub names_live : state.State → Call → Bool
names_live st (Init lock) = true
names_live st (SetWatch watch) = true
names_live st (Check q) = is_live st q.lock.0
names_live st (Note l) = is_live st l.0
names_live st (NoteTry l mode site) = is_live st l.0
names_live st (GiveUp l) = is_live st l.0
names_live st (Unlock l mode) = is_live st l.0
names_live st (Destroy l) = is_live st l.0
names_live st (Upgrade l) = is_live st l.0
names_live st (Downgrade l) = is_live st l.0
names_live st (NoRelease l) = is_live st l.0
names_live st (ReleaseOk l) = is_live st l.0
names_live st (DefineOrder a b) = is_live st a.0 && is_live st b.0

abbrev pub may_call : Scene → ℕ → Call → Bool
may_call s t call = call_follows call (λ l. is_held t l s.story.history) (stage_at s t)

-- the answer to a call of t
abbrev pub answer_in : Scene → ℕ → Call → Result Reply Fault
answer_in s t call =
    if not (is_seat (state_of s.story) t) then Err UnknownSeat
    else if not (names_live (state_of s.story) call) then Err UnknownLock
    else if not (may_call s t call) then Err StepOrder
    else answer_of s.story t call

abbrev pub stage_then : Scene → ℕ → Call → Reply → Stage
stage_then s t call r =
    if is_logged r
    then stage_called (λ l. nat_lt (shares_of s.raw t l) (num t l s.story.history)) call
    else stage_passed call

abbrev pub raw_then : List RawLock → Call → Reply → List RawLock
raw_then raw call r = if is_logged r then raw_called call raw else raw

-- the scene once the call got this reply
abbrev pub scene_after : Scene → ℕ → Call → Reply → Scene
scene_after s t call r = record {
  story = grown s.story t call r;
  raw = raw_then s.raw call r;
  stages = with_changed s.stages t (stage_then s t call r);
}
