-- What is accepted in a scene is a deed of the world that it shows, and what the world allows is
-- accepted.
use Rattle.std.proofs.Common.{◌≡◌, ℕ, ◌<◌, Bool, true, false, not, ◌&&◌, ◌||◌, cond, eqb, nat_lt}
use Rattle.std.proofs.Common.{List, ◌∷◌, Result, Ok, Err, refl, ap, ap₂, sym, ◌∙◌, subst, arith}
use Rattle.std.proofs.lemmas.Bool.{and_parts, and_from, eq-eqb, eqb-true, ne_eqb, or_right, lt-ltb}
use Rattle.std.proofs.lemmas.Bool.{ltb-true, not-true, false≢true, true≢false}
use Rattle.std.proofs.lemmas.List.FromFn.{length-map-range_with_len}
use Rattle.wit_model.specs.declared.faults.Fault.{Fault}
use Rattle.wit_model.specs.declared.faults.Fault.TheVariants.{UnknownSeat, UnknownLock, RawNotFree}
use Rattle.wit_model.specs.declared.faults.Fault.TheVariants.{StepOrder}
use Rattle.wit_model.specs.declared.locks.Mode.{Mode}
use Rattle.wit_model.specs.declared.locks.Mode.TheVariants.{Shared, Exclusive}
use Rattle.wit_model.specs.declared.raw_steps.RawStep.{RawStep}
use Rattle.wit_model.specs.declared.raw_steps.RawStep.TheVariants as raw_step
use Rattle.wit_model.specs.Rules.Numbers.{is_given, is_number}
use Rattle.wit_model.specs.Rules.History.{is_held}
use Rattle.wit_model.specs.Rules.State.{Start, State, typed_locks, seat_of, state_of, is_seat}
use Rattle.wit_model.specs.Rules.State.{is_live}
use Rattle.wit_model.specs.Rules.Verdict.{is_exclusive}
use Rattle.wit_model.specs.World.Deeds.{Deed, Take, TryTake, Free, RawUp, RawDown, thread_of}
use Rattle.wit_model.specs.World.Deeds.{log_of, shares, raw_mode}
use Rattle.wit_model.specs.World.Stages.{deed_follows, may_follow}
use Rattle.wit_model.specs.World.Steps.{admits, is_alone, CanDo, IsWorld}
use Rattle.wit_model.specs.World.Scenes.{Scene, raw_of, shares_of, stage_at, is_admitted, is_only}
use Rattle.wit_model.specs.World.Scenes.{is_free, mode_asked, deed_of, is_known, is_way_back}
use Rattle.wit_model.specs.World.Scenes.{has_share, may_come, stepped, step_deed, step_raw}
use Rattle.wit_model.specs.World.Shown.{Shows}
use Rattle.wit_model.proofs.Histories.Accepted.{live-given}
use Rattle.wit_model.proofs.World.Exclusion.{has_seat}
use Rattle.wit_model.proofs.World.Holders.{holders_threads, admitted_exclusive, admitted_shared}
use Rattle.wit_model.proofs.World.Shown.{take-shows, try-shows, free-shows, up-shows}
use Rattle.wit_model.proofs.World.ShownCalls.{state-shown}
use Rattle.wit_model.proofs.World.Shown.{down-shows}

-- ---- a step is accepted exactly where no fault stands

pub gone-by : {X : Type 0} (b : Bool) (f : Fault) (rest : Result X Fault) (x : X)
    → cond (not b) (Err f) rest ≡ Ok x → (b ≡ true) × (rest ≡ Ok x)
gone-by true f rest x ok = (refl, ok)
gone-by false f rest x ok = (cc)

pub let-by : {X : Type 0} (b : Bool) (f : Fault) (rest : Result X Fault) → b ≡ true
    → cond (not b) (Err f) rest ≡ rest
let-by true f rest is = refl
let-by false f rest is = absurd (false≢true is)

pub record Accepted (s : Scene) (d : Deed) (known : Bool) (then : Scene) : Type 0 where
  pub seat : is_seat (state_of s.story) (thread_of d) ≡ true
  pub lock : known ≡ true
  pub comes : may_come s d ≡ true
  pub free : is_free s.raw d ≡ true
  pub next : stepped s d ≡ then

pub accepted : (s : Scene) (d : Deed) (known : Bool) (then : Scene) → step_deed s d known ≡ Ok then
    → Accepted s d known then
accepted s d known then ok =
    let a = gone-by (is_seat (state_of s.story) (thread_of d)) UnknownSeat _ then ok in
    let b = gone-by known UnknownLock _ then a.1 in
    let c = gone-by (may_come s d) StepOrder _ then b.1 in
    let e = gone-by (is_free s.raw d) RawNotFree (Ok (stepped s d)) then c.1 in
    let same : ◌≡◌ {A = Result Scene Fault} (Ok (stepped s d)) (Ok then) = e.1 in
    record {
      seat = a.0;
      lock = b.0;
      comes = c.0;
      free = e.0;
      next = (let eq : stepped s d ≡ then = cc in eq);
    }

pub accepts : (s : Scene) (d : Deed) (known : Bool) → is_seat (state_of s.story) (thread_of d)
    ≡ true → known ≡ true → may_come s d ≡ true → is_free s.raw d ≡ true
    → step_deed s d known ≡ Ok (stepped s d)
accepts s d known seat lock comes free =
    let-by (is_seat (state_of s.story) (thread_of d)) UnknownSeat _ seat
    ∙ (let-by known UnknownLock _ lock
    ∙ (let-by (may_come s d) StepOrder _ comes ∙ let-by (is_free s.raw d) RawNotFree
    (Ok (stepped s d)) free))

none-is : (n : ℕ) → 0 < n → eqb n 0 ≡ false
none-is n some = ne_eqb n 0 (λ none. (omega (arith, some, none)))

or_none : (a b : Bool) → b ≡ false → (a || b) ≡ a
or_none true b is = refl
or_none false b is = is

untrue : (b : Bool) → b ≡ false → not b ≡ true
untrue true is = absurd (true≢false is)
untrue false is = refl

one-some : (n : ℕ) → eqb n 1 ≡ true → 0 < n
one-some n is = let one = eqb-true n 1 is in omega (arith, one)

module _ (start : Start) (files : List (List ℕ)) (w : List Deed) (s : Scene)
    (shown : Shows start files w s) where
  -- ---- the scene's tests are the world's

  pub seat-shown : (t : ℕ) → is_seat (state_of s.story) t ≡ is_number start.sizes.seats t
  seat-shown t =
      ap (λ st. is_seat st t) (state-shown start files w s shown)
      ∙ ap (λ n. is_number n t) (length-map-range_with_len (seat_of (log_of w)) 1 start.sizes.seats)

  live-shown : (l : ℕ) → is_live (state_of s.story) l ≡ true
      → is_given (typed_locks start (log_of w)) l ≡ true
  live-shown l is =
      ap (λ (st : State). is_given st.known.locks l) (sym (state-shown start files w s shown))
      ∙ live-given (state_of s.story) l is

  given-shown : (l : ℕ) → is_given (state_of s.story).known.locks l ≡ true
      → is_given (typed_locks start (log_of w)) l ≡ true
  given-shown l is =
      ap (λ (st : State). is_given st.known.locks l) (sym (state-shown start files w s shown)) ∙ is

  pub follow-shown : (d : Deed)
      → deed_follows d (λ l. is_held (thread_of d) l s.story.history) (stage_at s (thread_of d))
      ≡ may_follow d w
  follow-shown d =
      ap₂ (λ h at. deed_follows d (λ l. is_held (thread_of d) l h) at) shown.logs
      (shown.stages (thread_of d))

  module _ (world : IsWorld start files w) where
    admitted-shown : (l : ℕ) (mode : Mode) → is_admitted mode (raw_of s.raw l)
        ≡ admits start.sizes.seats l mode w
    admitted-shown l Exclusive =
        admitted_exclusive (raw_of s.raw l).holders
        ∙ holders_threads start.sizes.seats (λ t. shares t l w) (λ t. false)
        (λ t. eqb (shares t l w) 0) (raw_of s.raw l).holders (shown.tidy l) (λ t. shown.had t l)
        (λ t some. has_seat start files w world t l some) (λ t none. eq-eqb (shares t l w) 0 none)
        (λ t some. none-is (shares t l w) some)
    admitted-shown l Shared =
        admitted_shared (not (is_exclusive (raw_of s.raw l).mode)) (raw_of s.raw l).holders
        ∙ holders_threads start.sizes.seats (λ t. shares t l w)
        (λ t. not (is_exclusive (raw_of s.raw l).mode))
        (λ t. eqb (shares t l w) 0 || not (is_exclusive (raw_mode t l w)))
        (raw_of s.raw l).holders (shown.tidy l) (λ t. shown.had t l)
        (λ t some. has_seat start files w world t l some)
        (λ t none. ap (λ b. b || not (is_exclusive (raw_mode t l w)))
        (eq-eqb (shares t l w) 0 none))
        (λ t some. ap₂ (λ b mode. b || not (is_exclusive mode)) (none-is (shares t l w) some)
        (sym (shown.modes t l some)))

    only-shown : (t l : ℕ) → is_only t (raw_of s.raw l) ≡ is_alone start.sizes.seats t l w
    only-shown t l =
        ap₂ (λ a b. a && b) (ap (λ n. eqb n 1) (shown.had t l))
        (holders_threads start.sizes.seats (λ u. shares u l w) (λ u. eqb u t)
        (λ u. eqb u t || eqb (shares u l w) 0) (raw_of s.raw l).holders (shown.tidy l)
        (λ u. shown.had u l)
        (λ u some. has_seat start files w world u l some)
        (λ u none. or_right (eqb u t) (eqb (shares u l w) 0) (eq-eqb (shares u l w) 0 none))
        (λ u some. or_none (eqb u t) (eqb (shares u l w) 0) (none-is (shares u l w) some)))

    -- ---- what is accepted is a deed

    -- that it is one, and that the next scene shows it
    IsDeed : Deed → Scene → Type 0
    IsDeed d then = IsWorld start files (d ∷ w) × Shows start files (d ∷ w) then

    module _ (t l : ℕ) (then : Scene) where
      had-mode : 0 < shares t l w → (raw_of s.raw l).mode ≡ raw_mode t l w
      had-mode some = shown.modes t l some

      pub step-deed : (step : RawStep) → step_raw s t l step ≡ Ok then
          → IsWorld start files (deed_of (stage_at s t) t l step ∷ w)
          × Shows start files (deed_of (stage_at s t) t l step ∷ w) then
      step-deed raw_step.Take ok =
          let mode = mode_asked (stage_at s t) in
          let x = accepted s (Take t l mode) (is_live (state_of s.story) l) then ok in
          let seat = sym (seat-shown t) ∙ x.seat in
          let follows = sym (follow-shown (Take t l mode)) ∙ (and_parts _ _ x.comes).0 in
          let free = sym (admitted-shown l mode) ∙ x.free in (
            ((follows, (seat, free)), world),
            subst (λ n. Shows start files (Take t l mode ∷ w) n)
                x.next (take-shows start files w s shown world t l seat
                (live-shown l x.lock) mode free),
          )
      step-deed (raw_step.TryTake mode) ok =
          let x = accepted s (TryTake t l mode) (is_live (state_of s.story) l) then ok in
          let seat = sym (seat-shown t) ∙ x.seat in
          let follows = sym (follow-shown (TryTake t l mode)) ∙ (and_parts _ _ x.comes).0 in
          let free = sym (admitted-shown l mode) ∙ x.free in (
            ((follows, (seat, free)), world),
            subst (λ n. Shows start files (TryTake t l mode ∷ w) n)
                x.next (try-shows start files w s shown world t l seat
                (live-shown l x.lock) mode free),
          )
      step-deed raw_step.Free ok =
          let x = accepted s (Free t l) (is_given (state_of s.story).known.locks l) then ok in
          let seat = sym (seat-shown t) ∙ x.seat in
          let comes = and_parts _ _ x.comes in
          let follows = sym (follow-shown (Free t l)) ∙ comes.0 in
          let some =
          subst (λ n. 0 < n) (shown.had t l)
          (ltb-true 0 (shares_of s.raw t l) (and_parts _ _ comes.1).1) in (
            ((follows, some), world),
            subst (λ n. Shows start files (Free t l ∷ w) n) x.next
                (free-shows start files w s shown world t l seat (given-shown l x.lock)),
          )
      step-deed raw_step.Up ok =
          let x = accepted s (RawUp t l) (is_live (state_of s.story) l) then ok in
          let seat = sym (seat-shown t) ∙ x.seat in
          let follows = sym (follow-shown (RawUp t l)) ∙ (and_parts _ _ x.comes).0 in
          let free =
          and_parts (is_only t (raw_of s.raw l))
          (not (is_exclusive (raw_of s.raw l).mode)) x.free in
          let alone = sym (only-shown t l) ∙ free.0 in
          let some = one-some (shares t l w) (and_parts (eqb (shares t l w) 1) _ alone).0 in
          let shared =
          ap is_exclusive (sym (shown.modes t l some))
          ∙ not-true (is_exclusive (raw_of s.raw l).mode) free.1 in (
            ((follows, (alone, shared)), world),
            subst (λ n. Shows start files (RawUp t l ∷ w) n)
                x.next (up-shows start files w s shown world t l seat (live-shown l x.lock) alone),
          )
      step-deed raw_step.Down ok =
          let x = accepted s (RawDown t l) (is_live (state_of s.story) l) then ok in
          let seat = sym (seat-shown t) ∙ x.seat in
          let follows = sym (follow-shown (RawDown t l)) ∙ (and_parts _ _ x.comes).0 in
          let free =
          and_parts (nat_lt 0 (shares_of s.raw t l))
          (is_exclusive (raw_of s.raw l).mode) x.free in
          let some = subst (λ n. 0 < n) (shown.had t l) (ltb-true 0 (shares_of s.raw t l) free.0) in
          let exclusive = ap is_exclusive (sym (shown.modes t l some)) ∙ free.1 in (
            ((follows, (some, exclusive)), world),
            subst (λ n. Shows start files (RawDown t l ∷ w) n) x.next
                (down-shows start files w s shown world t l seat
                (live-shown l x.lock) some exclusive),
          )

    -- ---- what the world allows is accepted

    module _ (t l : ℕ) where
      comes-next : (d : Deed) → may_follow d w ≡ true → is_way_back d (stage_at s (thread_of d))
          ≡ false → has_share s.raw d ≡ true → may_come s d ≡ true
      comes-next d follows forth share =
          and_from _ _ (follow-shown d ∙ follows)
          (and_from _ _ (untrue (is_way_back d (stage_at s (thread_of d))) forth) share)

      pub deed-step : (step : RawStep) → CanDo start files (deed_of (stage_at s t) t l step) w
          → is_known (state_of s.story) l step ≡ true
          → is_way_back (deed_of (stage_at s t) t l step) (stage_at s t) ≡ false
          → step_raw s t l step ≡ Ok (stepped s (deed_of (stage_at s t) t l step))
      deed-step raw_step.Take can known forth =
          accepts s (Take t l (mode_asked (stage_at s t))) (is_live (state_of s.story) l)
          (seat-shown t ∙ can.1.0) known
          (comes-next (Take t l (mode_asked (stage_at s t))) can.0 forth refl)
          (admitted-shown l (mode_asked (stage_at s t)) ∙ can.1.1)
      deed-step (raw_step.TryTake mode) can known forth =
          accepts s (TryTake t l mode) (is_live (state_of s.story) l) (seat-shown t ∙ can.1.0) known
          (comes-next (TryTake t l mode) can.0 forth refl) (admitted-shown l mode ∙ can.1.1)
      deed-step raw_step.Free can known forth =
          accepts s (Free t l) (is_given (state_of s.story).known.locks l)
          (seat-shown t ∙ has_seat start files w world t l can.1) known
          (comes-next (Free t l) can.0 forth
          (lt-ltb 0 (shares_of s.raw t l) (subst (λ n. 0 < n) (sym (shown.had t l)) can.1)))
          refl
      deed-step raw_step.Up can known forth =
          let some = one-some (shares t l w) (and_parts (eqb (shares t l w) 1) _ can.1.0).0 in
          accepts s (RawUp t l) (is_live (state_of s.story) l)
          (seat-shown t ∙ has_seat start files w world t l some) known
          (comes-next (RawUp t l) can.0 forth refl)
          (and_from _ _ (only-shown t l ∙ can.1.0)
          (untrue (is_exclusive (raw_of s.raw l).mode)
          (ap is_exclusive (shown.modes t l some) ∙ can.1.1)))
      deed-step raw_step.Down can known forth =
          accepts s (RawDown t l) (is_live (state_of s.story) l)
          (seat-shown t ∙ has_seat start files w world t l can.1.0) known
          (comes-next (RawDown t l) can.0 forth refl)
          (and_from _ _ (lt-ltb 0 (shares_of s.raw t l)
          (subst (λ n. 0 < n) (sym (shown.had t l)) can.1.0))
          (ap is_exclusive (shown.modes t l can.1.0) ∙ can.1.1))
