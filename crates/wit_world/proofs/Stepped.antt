-- The scene after a step or a call, from its parts.
use Rattle.std.proofs.Common.{◌≡◌, ℕ, ◌-◌, ◌<◌, ◌≤◌, ◌^◌, Bool, true, false, ◌&&◌, cond, eqb}
use Rattle.std.proofs.Common.{nat_lt, nat_le, List, [], ◌∷◌, ◌++◌, length, map, set, get_or}
use Rattle.std.proofs.Common.{replicate, zero, suc, refl, ap, ap₂, sym, ◌∙◌, arith, length-append}
use Rattle.std.proofs.lemmas.Bool.{and_parts, eqb-true, ltb-true, leb-true}
use Rattle.std.proofs.lemmas.List.{map-set, get_or_read}
use Rattle.wit_model.specs.declared.locks.Mode.{Mode}
use Rattle.wit_model.specs.declared.calls.Call.{Call}
use Rattle.wit_model.specs.declared.calls.Call.TheVariants.{Init}
use Rattle.wit_model.specs.declared.calls.Entry.{Entry}
use Rattle.wit_model.specs.declared.calls.Reply.{Reply}
use Rattle.wit_model.specs.declared.raw_steps.RawStep.{RawStep}
use Rattle.wit_model.specs.declared.raw_steps.RawStep.TheVariants as raw_step
use Rattle.wit_model.specs.Rules.History.{num}
use Rattle.wit_model.specs.Rules.Numbers.{is_given, is_number, with_changed, IsGiven}
use Rattle.wit_model.specs.Rules.State.{Start, Story, state_of, is_live, types_of, typed_locks}
use Rattle.wit_model.specs.Rules.Locks.{made_among}
use Rattle.wit_model.specs.Rules.Step.{is_logged, grown}
use Rattle.wit_model.specs.World.Deeds.{thread_of, log_of}
use Rattle.wit_model.specs.World.Stages.{Stage, Over, stage_called, stage_passed}
use Rattle.wit_model.specs.World.Scenes.{RawLock, Scene, nobodys, raw_of, shares_of, opening}
use Rattle.wit_model.specs.World.Scenes.{stage_among, stage_at, mode_asked, deed_of, is_known}
use Rattle.wit_model.specs.World.Scenes.{may_come, is_free, is_only, raw_after, raw_then}
use Rattle.wit_model.specs.World.Scenes.{stage_stepped, stage_then, stepped, scene_after}
use Rattle.wit_model.proofs.Numbered.{with_changed-at, with_number-or, with_number-or-map}
use Rattle.wit_world.specs.declared.stages.Stage as declared
use Rattle.wit_world.specs.declared.stages.Stage.TheVariants as kept
use Rattle.wit_world.specs.Stages.{stage_of}
use Rattle.wit_world.specs.Steps.{deed_in, IsReadyFor, makes_lock}
use Rattle.wit_world.specs.Kept.{IsKept}
use Rattle.wit_world.proofs.Bounded.{shares-few}

-- ---- a step

in-of : (at : Stage) (t l : ℕ) (step : RawStep)
    → deed_in (mode_asked at) t l step ≡ deed_of at t l step
in-of at t l raw_step.Take = refl
in-of at t l (raw_step.TryTake mode) = refl
in-of at t l raw_step.Free = refl
in-of at t l raw_step.Up = refl
in-of at t l raw_step.Down = refl

of-thread : (at : Stage) (t l : ℕ) (step : RawStep) → thread_of (deed_of at t l step) ≡ t
of-thread at t l raw_step.Take = refl
of-thread at t l (raw_step.TryTake mode) = refl
of-thread at t l raw_step.Free = refl
of-thread at t l raw_step.Up = refl
of-thread at t l raw_step.Down = refl

abbrev pub scene : Story → List RawLock → List Stage → Scene
scene story raw stages = record { story = story; raw = raw; stages = stages }

-- one stage changed
pub stage-changed : (items : List declared.Stage) (stages : List Stage) (t : ℕ)
    (after : declared.Stage) (g : Stage) → map stage_of items ≡ stages → 0 < t → stage_of after ≡ g
    → map stage_of (set items (t - 1) after) ≡ with_changed stages t g
stage-changed items stages t after g same some is =
    map-set stage_of items (t - 1) after ∙ ap₂ (λ xs x. set xs (t - 1) x) same is
    ∙ sym (with_changed-at stages t g some)

pub stepped-now : (s : Scene) (t l : ℕ) (step : RawStep) (asked : Mode) (raw : List RawLock)
    (items : List declared.Stage) (after : declared.Stage)
    → map stage_of items ≡ s.stages → 0 < t → asked ≡ mode_asked (stage_at s t)
    → raw ≡ raw_after (deed_in asked t l step) s.raw
    → stage_of after ≡ stage_stepped (deed_in asked t l step)
    → scene s.story raw (map stage_of (set items (t - 1) after))
    ≡ stepped s (deed_of (stage_at s t) t l step)
stepped-now s t l step asked raw items after same some mode does goes =
    let deed : deed_in asked t l step ≡ deed_of (stage_at s t) t l step =
    ap (λ m. deed_in m t l step) mode ∙ in-of (stage_at s t) t l step in
    ap₂ (λ a b. scene s.story a b) (does ∙ ap (λ d. raw_after d s.raw) deed)
    (stage-changed items s.stages t after (stage_stepped (deed_of (stage_at s t) t l step)) same
    some (goes ∙ ap stage_stepped deed)
    ∙ ap (λ u. with_changed s.stages u (stage_stepped (deed_of (stage_at s t) t l step)))
    (sym (of-thread (stage_at s t) t l step)))

-- what a step needs is there
module _ (s : Scene) (k : IsKept s) (t l : ℕ) (short : length s.story.history < 2 ^ 63) where
  made : is_live (state_of s.story) l ≡ true → IsGiven s.raw l
  made live =
      let there : is_given (typed_locks s.story.start s.story.history) l ≡ true =
      (and_parts (is_given (typed_locks s.story.start s.story.history) l) _ live).0 in
      let given =
      ap (λ n. is_number n l) k.shown.locks ∙ ap (λ h. is_given (typed_locks s.story.start h) l)
      (sym k.shown.logs) ∙ there in
      let parts = and_parts (nat_lt 0 l) (nat_le l (length s.raw)) given in
      (ltb-true 0 l parts.0, leb-true l (length s.raw) parts.1)

  few : shares_of s.raw t l < 2 ^ 64 - 1
  few = let most = shares-few s k t l in omega (arith, most, short)

  pub ready : (step : RawStep) → is_known (state_of s.story) l step ≡ true
      → may_come s (deed_of (stage_at s t) t l step) ≡ true
      → is_free s.raw (deed_of (stage_at s t) t l step) ≡ true → IsReadyFor s.raw t l step
  ready raw_step.Take known comes free = (made known, few)
  ready (raw_step.TryTake mode) known comes free = (made known, few)
  ready raw_step.Free known comes free =
      ltb-true 0 (shares_of s.raw t l)
      (and_parts _ (nat_lt 0 (shares_of s.raw t l)) (and_parts _ _ comes).1).1
  ready raw_step.Up known comes free =
      let only = (and_parts (is_only t (raw_of s.raw l)) _ free).0 in
      let one =
      eqb-true (shares_of s.raw t l) 1 (and_parts (eqb (shares_of s.raw t l) 1) _ only).0 in
      omega (arith, one)
  ready raw_step.Down known comes free =
      ltb-true 0 (shares_of s.raw t l) (and_parts (nat_lt 0 (shares_of s.raw t l)) _ free).0

-- ---- a call

made-then : (call : Call) (r : Reply) (raw : List RawLock)
    → cond (makes_lock call && is_logged r) (raw ++ nobodys ∷ []) raw ≡ raw_then raw call r
made-then (Init lock) r raw = refl
made-then call r raw = go (is_logged r)
  where
    go : (b : Bool) → raw ≡ cond b raw raw
    go true = refl
    go false = refl

-- no more locks are made than calls are logged
locks-few : (start : Start) (h : List Entry) → length (typed_locks start h) ≤ length h
locks-few start [] = omega arith
locks-few start (e ∷ h) =
    let before = locks-few start h in
    let more = length-append (typed_locks start h) (made_among (types_of start h) e.call) in
    let one = go e.call in
    omega (arith, before, more, one)
  where
    go : (call : Call) → length (made_among (types_of start h) call) ≤ 1
    go (Init lock) = omega arith
    go call = omega arith

pub raw-few : (s : Scene) → IsKept s → length s.raw ≤ length s.story.history
raw-few s k =
    let few = locks-few s.story.start (log_of k.deeds) in
    let locks = k.shown.locks in
    let logs = ap length k.shown.logs in
    omega (arith, few, locks, logs)

pub called-now : (s : Scene) (t : ℕ) (call : Call) (r : Reply) (story : Story) (raw : List RawLock)
    (items : List declared.Stage) (after logged passed : declared.Stage) (makes enters : Bool)
    → map stage_of items ≡ s.stages → 0 < t → story ≡ grown s.story t call r
    → enters ≡ is_logged r → makes ≡ makes_lock call
    → raw ≡ cond (makes && enters) (s.raw ++ nobodys ∷ []) s.raw
    → stage_of logged ≡ stage_called (λ l. nat_lt (shares_of s.raw t l) (num t l s.story.history))
    call → stage_of passed ≡ stage_passed call
    → stage_of after ≡ cond enters (stage_of logged) (stage_of passed)
    → scene story raw (map stage_of (set items (t - 1) after)) ≡ scene_after s t call r
called-now s t call r story raw items after logged passed makes enters same some grows is makes-is
    does log pass goes =
    let raw-is =
    does ∙ ap₂ (λ a b. cond (a && b) (s.raw ++ nobodys ∷ []) s.raw) makes-is is
    ∙ made-then call r s.raw in
    let stage-is : stage_of after ≡ stage_then s t call r =
    goes ∙ ap (λ b. cond b (stage_of logged) (stage_of passed)) is
    ∙ ap₂ (λ a b. cond (is_logged r) a b) log pass in
    ap (λ x. scene x raw (map stage_of (set items (t - 1) after))) grows
    ∙ ap₂ (λ a b. scene (grown s.story t call r) a b) raw-is
    (stage-changed items s.stages t after (stage_then s t call r) same some stage-is)

-- ---- where nothing was done yet

map-over : (n : ℕ) → map stage_of (replicate n kept.Over) ≡ replicate n Over
map-over zero = refl
map-over (suc n) = ap (λ xs. Over ∷ xs) (map-over n)

pub opened-now : (story : Story) (raw : List RawLock) (n : ℕ) (items : List declared.Stage)
    → raw ≡ [] → n ≡ story.start.sizes.seats → items ≡ replicate n kept.Over
    → scene story raw (map stage_of items) ≡ opening story
opened-now story raw n items none count is =
    ap₂ (λ a b. scene story a b) none
    (ap (map stage_of) is ∙ map-over n ∙ ap (λ m. replicate m Over) count)

-- ---- a stage

pub stage-now : (items : List declared.Stage) (t : ℕ) (x : declared.Stage) → 0 < t
    → t ≤ length items → x ≡ get_or items (t - 1) x
    → stage_of x ≡ stage_among (map stage_of items) t
stage-now items t x some within here =
    let below : t - 1 < length items = omega (arith, some, within) in
    ap stage_of (get_or_read items (t - 1) x below here kept.Over
    ∙ sym (with_number-or items t kept.Over some))
    ∙ sym (with_number-or-map stage_of items t kept.Over)
