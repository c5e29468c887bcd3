-- What a call and the step that goes with it come to.
use Rattle.std.proofs.Common.{◌≡◌, ℕ, Bool, true, false, cond, List, [], ◌∷◌, ◌++◌, Option, None}
use Rattle.std.proofs.Common.{Some, Result, Ok, Err, refl, sym, ap, ap₂, ◌∙◌, inl, inr, arith}
use Rattle.std.specs.Global.{Vec}
use Rattle.std.proofs.lemmas.Bool.{cases_Bool, true≢false}
use Rattle.wit_model.specs.declared.calls.Call.{Call}
use Rattle.wit_model.specs.declared.calls.Call.TheVariants.{Init}
use Rattle.wit_model.specs.declared.calls.Reply.{Reply}
use Rattle.wit_model.specs.declared.faults.Fault.TheVariants.{RawNotFree}
use Rattle.wit_model.specs.declared.lines.Cause.TheVariants as why
use Rattle.wit_model.specs.declared.lines.Line.TheVariants.{OnLock}
use Rattle.wit_model.specs.declared.lines.LockLine.TheVariants as lock_line
use Rattle.wit_model.specs.Rules.History.{reports_of}
use Rattle.wit_model.specs.Rules.State.{Story, state_of}
use Rattle.wit_model.specs.Rules.Step.{AnswersOrFails, answer_of, grown, is_logged}
use Rattle.wit_model.specs.Trace.Moving.{Moved, MovingOutcome, with_feeds}
use Rattle.wit_model.specs.Trace.Moving.{step_line, answered, moves}
use Rattle.wit_model.specs.Trace.Moving as moving
use Rattle.wit_model.specs.Trace.Output.{Logs, makes}
use Rattle.wit_model.specs.Trace.Spelling.{spelling}
use Rattle.wit_model.specs.World.Deeds.{Deed}
use Rattle.wit_model.specs.World.Moving.{is_free_beside, raw_beside}
use Rattle.wit_model.specs.World.Moving as model
use Rattle.wit_model.specs.World.Scenes.{RawLock, nobodys, is_free, raw_after, raw_called, raw_then}
use Rattle.wit_model.proofs.Histories.AcceptedLocks.{init_accepted}
use Rattle.wit_model.proofs.Histories.Legal.{seat_accepted}
use Rattle.wit_fields.specs.declared.errors.LineError.{LineError}
use Rattle.wit_fields.specs.declared.errors.LineError.TheVariants.{Bad, Memory}
use Rattle.wit_world.specs.Steps.{makes_lock}
use Rattle.wit_migrate.specs.Migrates.{AddsOneAtMost, DoesBeside, MovesAsDue, GoesWithCall, IsBeside}
use Rattle.wit_migrate.specs.Migrates.{Writes, weight}
use Rattle.wit_migrate.specs.Migrates.{before_of, behind_of, line_and_step, deed, is_first}
use Rattle.wit_migrate.specs.Migrates.{line_of_step}
use Rattle.wit_migrate.specs.declared.steps.LockStep.{LockStep}
use Rattle.wit_lines.proofs.CountLemmas.{grown-le}

-- it makes no lock
abbrev pub IsPlain : Call → Type 0
IsPlain call = (raw : List RawLock) → raw_called call raw ≡ raw

plain-call : (call : Call) → makes_lock call ≡ false → IsPlain call
plain-call (Init lock) makes = absurd (true≢false makes)
plain-call call makes = λ raw. refl

then-same : (call : Call) (r : Reply) (raw : List RawLock) → IsPlain call
    → raw_then raw call r ≡ raw
then-same call r raw plain = go (is_logged r)
  where
    go : (b : Bool) → cond b (raw_called call raw) raw ≡ raw
    go true = plain raw
    go false = refl

-- the step that goes with it, or none, and what is written
abbrev pub DoesStep : Option LockStep → List ℕ → List RawLock → List RawLock
    → Result (Vec ℕ) LineError → Type 0
DoesStep None bytes old new (Ok text) = (new ≡ old) × (text.items ≡ with_feeds (bytes ∷ []))
DoesStep None bytes old new (Err Memory) = Unit {0}
DoesStep None bytes old new (Err (Bad cause)) = ⊥
DoesStep (Some k) bytes old new r = DoesBeside k bytes old new r

module _ (s : Story) (raw : List RawLock) (m : ℕ) (bytes : List ℕ) (t : ℕ) (call : Call)
    (r : Reply) where
  -- what it comes to with these steps
  abbrev with_steps : Option model.LockStep → Option model.LockStep → MovingOutcome
  with_steps before behind =
      cond (is_free_beside s.history raw t before)
      (moving.Goes
      (Moved (grown s t call r) (raw_beside s.history t behind
      (raw_then (raw_beside s.history t before raw) call r)) m)
      (step_line t before ++ bytes ∷ step_line t behind))
      (moving.Bad (why.Fault RawNotFree))

  module _ (new : Story) (ok : answer_of s t call ≡ Ok r) (grows : new ≡ grown s t call r)
      (plain : IsPlain call) where
    stepped : (k : Option LockStep) → IsBeside s.history raw t call k
        → answered s raw m bytes t call (answer_of s t call)
        ≡ with_steps (before_of k) (behind_of k)
    stepped k b = ap (λ a. answered s raw m bytes t call a) ok ∙ ap₂ with_steps b.first b.last

    pub made-alone : IsBeside s.history raw t call None
        → answered s raw m bytes t call (answer_of s t call)
        ≡ moving.Goes (Moved new raw m) (bytes ∷ [])
    made-alone b =
        stepped None b
        ∙ ap₂ (λ st rs. moving.Goes (Moved st rs m) (bytes ∷ [])) (sym grows)
        (then-same call r raw plain)

    module _ (k : LockStep) (b : IsBeside s.history raw t call (Some k)) where
      abbrev own : ℕ → List ℕ
      own u = spelling (OnLock (lock_line.Step (record { 0 = u }) k.lock k.step))

      abbrev goes : Story → List RawLock → List (List ℕ) → MovingOutcome
      goes st rs lines = moving.Goes (Moved st rs m) lines

      abbrev if_free : Deed → MovingOutcome → MovingOutcome
      if_free d o = cond (is_free raw d) o (moving.Bad (why.Fault RawNotFree))

      -- the step before a call
      first-due : is_first k.step ≡ true
          → answered s raw m bytes t call (answer_of s t call)
          ≡ if_free (deed k) (goes new (raw_after (deed k) raw) (line_and_step k bytes))
      first-due is =
          let st = grown s t call r in
          stepped (Some k) b
          ∙ ap (λ f. with_steps (cond f (Some (k.lock, k.step)) None)
          (cond f None (Some (k.lock, k.step)))) is
          ∙ ap (λ d. if_free d (goes st (raw_then (raw_after d raw) call r) (own t ∷ bytes ∷ [])))
          b.own.1
          ∙ ap (λ rs. if_free (deed k) (goes st rs (own t ∷ bytes ∷ [])))
          (then-same call r (raw_after (deed k) raw) plain)
          ∙ ap (λ u. if_free (deed k) (goes st (raw_after (deed k) raw) (own u ∷ bytes ∷ [])))
          (sym b.own.0)
          ∙ ap₂ (λ x f. if_free (deed k)
          (goes x (raw_after (deed k) raw)
          (cond f (line_of_step k ∷ bytes ∷ []) (bytes ∷ line_of_step k ∷ []))))
          (sym grows) (sym is)

      -- the step behind it
      last-due : is_first k.step ≡ false
          → answered s raw m bytes t call (answer_of s t call)
          ≡ goes new (raw_after (deed k) raw) (line_and_step k bytes)
      last-due is =
          let st = grown s t call r in
          stepped (Some k) b
          ∙ ap (λ f. with_steps (cond f (Some (k.lock, k.step)) None)
          (cond f None (Some (k.lock, k.step)))) is
          ∙ ap (λ d. goes st (raw_after d (raw_then raw call r)) (bytes ∷ own t ∷ [])) b.own.1
          ∙ ap (λ rs. goes st (raw_after (deed k) rs) (bytes ∷ own t ∷ []))
          (then-same call r raw plain)
          ∙ ap (λ u. goes st (raw_after (deed k) raw) (bytes ∷ own u ∷ [])) (sym b.own.0)
          ∙ ap₂ (λ x f. goes x (raw_after (deed k) raw)
          (cond f (line_of_step k ∷ bytes ∷ []) (bytes ∷ line_of_step k ∷ [])))
          (sym grows) (sym is)

      free-due : is_free raw (deed k) ≡ true
          → answered s raw m bytes t call (answer_of s t call)
          ≡ goes new (raw_after (deed k) raw) (line_and_step k bytes)
      free-due free =
          elim (cases_Bool (is_first k.step)) [
            | inl is ↦
                first-due is
                ∙ ap (λ f. cond f (goes new (raw_after (deed k) raw) (line_and_step k bytes))
                (moving.Bad (why.Fault RawNotFree))) free
            | inr is ↦ last-due is
          ]

      barred-due : is_free raw (deed k) ≡ false
          → answered s raw m bytes t call (answer_of s t call) ≡ moving.Bad (why.Fault RawNotFree)
      barred-due barred =
          elim (cases_Bool (is_first k.step)) [
            | inl is ↦
                first-due is
                ∙ ap (λ f. cond f (goes new (raw_after (deed k) raw) (line_and_step k bytes))
                (moving.Bad (why.Fault RawNotFree))) barred
            | inr is ↦ absurd (true≢false (sym (b.own.2 is) ∙ barred))
          ]

    -- a call whose step the lock doesn't admit may have been reported
    made-adds : (raw' : List RawLock) → raw' ≡ raw
        → AddsOneAtMost (Moved s raw m) (Moved new raw' m)
    made-adds raw' stays = record {
      counts =
          omega (
            arith,
            grown-le s t call r,
            ap (λ (x : Story). reports_of x.history) grows,
          );
      weighs = omega (arith, ap weight stays);
    }

    made-step : (k : Option LockStep) → IsBeside s.history raw t call k
        → (raw' : List RawLock) (res : Result (Vec ℕ) LineError) → DoesStep k bytes raw raw' res
        → MovesAsDue (answered s raw m bytes t call (answer_of s t call)) (Moved s raw m)
        (Moved new raw' m) res
    made-step None b raw' (Ok text) does = record {
      lines = bytes ∷ [];
      goes = made-alone b ∙ ap (λ rs. moving.Goes (Moved new rs m) (bytes ∷ [])) (sym does.0);
      written = does.1;
    }
    made-step None b raw' (Err Memory) does = tt
    made-step None b raw' (Err (Bad cause)) does = elim does [ ]
    made-step (Some k) b raw' (Ok text) does = record {
      lines = line_and_step k bytes;
      goes =
          free-due k b does.0 ∙ ap (λ rs. moving.Goes (Moved new rs m) (line_and_step k bytes))
          (sym does.1);
      written = does.2;
    }
    made-step (Some k) b raw' (Err Memory) does = tt
    made-step (Some k) b raw' (Err (Bad cause)) does =
        (barred-due k b does.0 ∙ ap moving.Bad (sym does.1), refl, made-adds raw' does.2)

-- ---- what is told of a call that was made

module _ (s new : Story) (raw raw' : List RawLock) (m : ℕ) (bytes : List ℕ) (t : ℕ) (call : Call)
    (reply : Reply) (made : AnswersOrFails s t call (Ok reply) new) where
  -- one that makes no lock, with the step that goes with it
  pub log-made : (k : Option LockStep) (r : Result (Vec ℕ) LineError) → GoesWithCall s raw t call k
      → makes_lock call ≡ false → DoesStep k bytes raw raw' r
      → MovesAsDue (moves s raw m bytes (Logs t call)) (Moved s raw m) (Moved new raw' m) r
  log-made k r goes plain does =
      made-step s raw m bytes t call reply new made.0 made.1 (plain-call call plain) k
      (goes (seat_accepted (state_of s) t call reply made.0)) raw' r does

-- one that makes a lock
pub lock-made : (s new : Story) (raw : List RawLock) (m : ℕ) (bytes : List ℕ) (t : ℕ) (call : Call)
    (reply : Reply) (text : List ℕ) → AnswersOrFails s t call (Ok reply) new
    → makes_lock call ≡ true → text ≡ with_feeds (bytes ∷ [])
    → Writes (moves s raw m bytes (Logs t call)) (Moved new (raw ++ nobodys ∷ []) m) text
lock-made s new raw m bytes t (Init lock) reply text made makes is = record {
  lines = bytes ∷ [];
  goes =
      ap (answered s raw m bytes t (Init lock)) made.0
      ∙ ap₂ (λ st rs. moving.Goes (Moved st rs m) (bytes ∷ [])) (sym made.1)
      (ap (raw_then raw (Init lock)) (init_accepted (state_of s) t lock reply made.0).reply);
  written = is;
}
lock-made s new raw m bytes t call reply text made makes is = absurd (true≢false (sym makes))
