-- A thread has at most one share more of a lock than the log has entries.
use Rattle.std.proofs.Common.{◌≡◌, ℕ, ◌+◌, ◌-◌, ◌<◌, ◌≤◌, Bool, true, false, cond, eqb, List, []}
use Rattle.std.proofs.Common.{◌∷◌, length, Ok, refl, ap, sym, ◌∙◌, subst, inl, inr, arith}
use Rattle.std.proofs.lemmas.Bool.{eq-eqb, eqb-true, false≢true}
use Rattle.std.proofs.lemmas.Bool.Decides.{eqb_tells}
use Rattle.wit_model.specs.declared.locks.LockNo.{LockNo}
use Rattle.wit_model.specs.declared.locks.Mode.{Mode}
use Rattle.wit_model.specs.declared.locks.Site.{Site}
use Rattle.wit_model.specs.declared.calls.Call.{Call}
use Rattle.wit_model.specs.declared.calls.Call.TheVariants.{Check, Note, NoteTry, GiveUp, Unlock}
use Rattle.wit_model.specs.declared.calls.Call.TheVariants.{Downgrade, Upgrade}
use Rattle.wit_model.specs.declared.calls.Reply.TheVariants.{Recorded, Exhausted, Unrecorded}
use Rattle.wit_model.specs.declared.calls.Reply.TheVariants.{Ignored}
use Rattle.wit_model.specs.Rules.History.{is_held, is_off}
use Rattle.wit_model.specs.Rules.State.{Start, state_of}
use Rattle.wit_model.specs.Rules.Step.{held_by, is_exhausted, answer_of, story_after}
use Rattle.std.specs.Prelude.{is_some}
use Rattle.wit_model.specs.World.Deeds.{Deed, Logged, PassedOver, Take, TryTake, Free, RawUp}
use Rattle.wit_model.specs.World.Deeds.{RawDown, thread_of, own, log_of, are_these, shares}
use Rattle.wit_model.specs.World.Stages.{Stage, Over, Asked, Taken, Tried, Forgot, Raised, Lowered}
use Rattle.wit_model.specs.World.Stages.{stage_called, stage_passed, stage, is_over, call_follows}
use Rattle.wit_model.specs.World.Stages.{deed_follows}
use Rattle.wit_model.specs.World.Steps.{IsWorld}
use Rattle.wit_model.specs.World.Scenes.{Scene, shares_of}
use Rattle.wit_model.proofs.Histories.Accepted.{try_accepted}
use Rattle.wit_model.proofs.World.Own.{own-mine, own-other, shares-other}
use Rattle.wit_world.specs.Kept.{IsKept}

abbrev one : Bool → ℕ
one b = cond b 1 0

-- n shares of lock l, at this stage, where the log has k entries: one fewer where the thread asks,
-- and one more where it just got that lock by a try
abbrev Bound : ℕ → Stage → ℕ → ℕ → Type 0
Bound l (Asked q) n k = n < k
Bound l (Tried m mode) n k = n ≤ k + one (eqb m l)
Bound l Over n k = n ≤ k
Bound l (Taken m) n k = n ≤ k
Bound l (Forgot m may_keep) n k = n ≤ k
Bound l (Raised m) n k = n ≤ k
Bound l (Lowered m passed) n k = n ≤ k

one-le : (b : Bool) → one b ≤ 1
one-le true = omega arith
one-le false = omega arith

most : (l : ℕ) (at : Stage) (n k : ℕ) → Bound l at n k → n ≤ k + 1
most l (Asked q) n k b = omega (arith, b)
most l (Tried m mode) n k b = omega (arith, b, one-le (eqb m l))
most l Over n k b = omega (arith, b)
most l (Taken m) n k b = omega (arith, b)
most l (Forgot m may_keep) n k b = omega (arith, b)
most l (Raised m) n k b = omega (arith, b)
most l (Lowered m passed) n k b = omega (arith, b)

at-end : (l : ℕ) (at : Stage) (n k : ℕ) → Bound l at n k → is_over at ≡ true → n ≤ k
at-end l (Asked q) n k b over = omega (arith, b)
at-end l (Tried m mode) n k b over = absurd (false≢true over)
at-end l Over n k b over = b
at-end l (Taken m) n k b over = b
at-end l (Forgot m may_keep) n k b over = b
at-end l (Raised m) n k b over = b
at-end l (Lowered m passed) n k b over = b

later : (l : ℕ) (at : Stage) (n k j : ℕ) → k ≤ j → Bound l at n k → Bound l at n j
later l (Asked q) n k j more b = omega (arith, b, more)
later l (Tried m mode) n k j more b = omega (arith, b, more)
later l Over n k j more b = omega (arith, b, more)
later l (Taken m) n k j more b = omega (arith, b, more)
later l (Forgot m may_keep) n k j more b = omega (arith, b, more)
later l (Raised m) n k j more b = omega (arith, b, more)
later l (Lowered m passed) n k j more b = omega (arith, b, more)

-- ---- calls

module _ (l : ℕ) (at : Stage) (held : ℕ → Bool) (n k : ℕ) (was : Bound l at n k) where
  logged-bound : (call : Call) (has_fewer : ℕ → Bool) → call_follows call held at ≡ true
      → Bound l (stage_called has_fewer call) n (k + 1)
  logged-bound (Check q) has_fewer may = let end = at-end l at n k was may in omega (arith, end)
  logged-bound (Unlock m mode) has_fewer may = most l at n k was
  logged-bound (Downgrade m) has_fewer may = most l at n k was
  logged-bound call has_fewer may = most l at n k was

passed-note : (l m : ℕ) (lock : LockNo) (at : Stage) (held : ℕ → Bool) (n k : ℕ) → Bound l at n k
    → call_follows (Note lock) held at ≡ true → n ≤ k
passed-note l m lock (Asked q) held n k was may = omega (arith, was)
passed-note l m lock (Taken x) held n k was may = was
passed-note l m lock at held n k was may = absurd (false≢true may)

passed-given_up : (l : ℕ) (lock : LockNo) (at : Stage) (held : ℕ → Bool) (n k : ℕ) → Bound l at n k
    → call_follows (GiveUp lock) held at ≡ true → n ≤ k
passed-given_up l lock (Asked q) held n k was may = omega (arith, was)
passed-given_up l lock at held n k was may = absurd (false≢true may)

passed-raised : (l : ℕ) (lock : LockNo) (at : Stage) (held : ℕ → Bool) (n k : ℕ) → Bound l at n k
    → call_follows (Upgrade lock) held at ≡ true → n ≤ k
passed-raised l lock (Raised m) held n k was may = was
passed-raised l lock at held n k was may = absurd (false≢true may)

passed-bound : (l : ℕ) (at : Stage) (held : ℕ → Bool) (n k : ℕ) → Bound l at n k → (call : Call)
    → ((m : LockNo) (mode : Mode) (site : Site) → call ≡ NoteTry m mode site → ⊥)
    → call_follows call held at ≡ true → Bound l (stage_passed call) n k
passed-bound l at held n k was (NoteTry m mode site) not may = absurd (not m mode site refl)
passed-bound l at held n k was (Note m) not may = passed-note l 0 m at held n k was may
passed-bound l at held n k was (GiveUp m) not may = passed-given_up l m at held n k was may
passed-bound l at held n k was (Upgrade m) not may = passed-raised l m at held n k was may
passed-bound l at held n k was (Unlock m mode) not may = at-end l at n k was may
passed-bound l at held n k was (Downgrade m) not may = at-end l at n k was may
passed-bound l at held n k was call not may = at-end l at n k was may

-- ---- steps of a lock

taking : (l : ℕ) (at : Stage) (held : ℕ → Bool) (n k : ℕ) → Bound l at n k → (t m : ℕ) (mode : Mode)
    → deed_follows (Take t m mode) held at ≡ true → n < k
taking l (Asked q) held n k was t m mode may = was
taking l at held n k was t m mode may = absurd (false≢true may)

got-one : (b : Bool) (n : ℕ) → cond b (n + 1) n ≤ n + one b
got-one true n = omega arith
got-one false n = omega arith

-- the lock that was got by a try is the one that is freed
freed-tried : (b : Bool) (n k : ℕ) → n ≤ k + one b → cond b (n - 1) n ≤ k
freed-tried true n k was = omega (arith, was)
freed-tried false n k was = omega (arith, was)

freed-other : (b : Bool) (n k : ℕ) → n ≤ k → cond b (n - 1) n ≤ k
freed-other true n k was = omega (arith, was)
freed-other false n k was = was

freeing : (l : ℕ) (at : Stage) (held : ℕ → Bool) (n k : ℕ) → Bound l at n k → (t m : ℕ)
    → deed_follows (Free t m) held at ≡ true → cond (eqb m l) (n - 1) n ≤ k
freeing l (Tried x mode) held n k was t m may =
    let same : x ≡ m = eqb-true x m may in
    freed-tried (eqb m l) n k (subst (λ y. n ≤ k + one (eqb y l)) same was)
freeing l (Forgot x may_keep) held n k was t m may = freed-other (eqb m l) n k was
freeing l at held n k was t m may = absurd (false≢true may)

lowering : (l : ℕ) (at : Stage) (held : ℕ → Bool) (n k : ℕ) → Bound l at n k → (t m : ℕ)
    → deed_follows (RawDown t m) held at ≡ true → n ≤ k
lowering l (Raised x) held n k was t m may = was
lowering l (Lowered x passed) held n k was t m may = was
lowering l at held n k was t m may = absurd (false≢true may)

these : (t l m : ℕ) → are_these t l t m ≡ eqb m l
these t l m = rw (eq-eqb t t refl) refl

-- ---- along a world

acquired-logged : (off held none : Bool)
    → Ignored ≡ cond off Unrecorded (cond held Recorded (cond none Exhausted Recorded)) → ⊥
acquired-logged true held none is = (cc)
acquired-logged false true none is = (cc)
acquired-logged false false true is = (cc)
acquired-logged false false false is = (cc)

module _ (start : Start) (files : List (List ℕ)) where
  not-passed : (u : ℕ) (c : Call) (w : List Deed) → IsWorld start files (PassedOver u c ∷ w)
      → (m : LockNo) (mode : Mode) (site : Site) → c ≡ NoteTry m mode site → ⊥
  not-passed u c w world m mode site is =
      let st = state_of (story_after start files (log_of w)) in
      let ok : answer_of (story_after start files (log_of w)) u (NoteTry m mode site) ≡ Ok Ignored
      = ap (λ y. answer_of (story_after start files (log_of w)) u y) (sym is) ∙ world.0.1 in
      acquired-logged (is_off st.watch) (is_some (held_by st u m.0)) (is_exhausted st u m.0)
      (try_accepted st u m.0 mode site Ignored ok).reply

  mine : (d : Deed) (w : List Deed) → IsWorld start files (d ∷ w) → (l : ℕ)
      → Bound l (stage (thread_of d) (own (thread_of d) w)) (shares (thread_of d) l w)
      (length (log_of w))
      → Bound l (stage (thread_of d) (d ∷ own (thread_of d) w)) (shares (thread_of d) l (d ∷ w))
      (length (log_of (d ∷ w)))
  mine (Logged e) w world l was =
      let next : length (log_of w) + 1 ≡ length (e ∷ log_of w) = omega arith in
      subst (λ k. Bound l (stage e.seat.0 (Logged e ∷ own e.seat.0 w)) (shares e.seat.0 l w) k) next
      (logged-bound l (stage e.seat.0 (own e.seat.0 w)) (λ m. is_held e.seat.0 m (log_of w))
      (shares e.seat.0 l w) (length (log_of w)) was e.call _ world.0.0)
  mine (PassedOver u c) w world l was =
      passed-bound l (stage u (own u w)) (λ m. is_held u m (log_of w)) (shares u l w)
      (length (log_of w)) was c (not-passed u c w world) world.0.0
  mine (Take u m mode) w world l was =
      let few =
      taking l (stage u (own u w)) (λ x. is_held u x (log_of w)) (shares u l w)
      (length (log_of w)) was u m mode world.0.0 in
      let more = got-one (are_these u l u m) (shares u l w) in
      let least = one-le (are_these u l u m) in
      omega (arith, few, more, least)
  mine (TryTake u m mode) w world l was =
      let few = at-end l (stage u (own u w)) (shares u l w) (length (log_of w)) was world.0.0 in
      subst (λ b. cond b (shares u l w + 1) (shares u l w) ≤ length (log_of w) + one (eqb m l))
      (sym (these u l m))
      (let more = got-one (eqb m l) (shares u l w) in omega (arith, few, more))
  mine (Free u m) w world l was =
      subst (λ b. cond b (shares u l w - 1) (shares u l w) ≤ length (log_of w)) (sym (these u l m))
      (freeing l (stage u (own u w)) (λ x. is_held u x (log_of w)) (shares u l w)
      (length (log_of w)) was u m world.0.0)
  mine (RawUp u m) w world l was =
      at-end l (stage u (own u w)) (shares u l w) (length (log_of w)) was world.0.0
  mine (RawDown u m) w world l was =
      lowering l (stage u (own u w)) (λ x. is_held u x (log_of w)) (shares u l w)
      (length (log_of w)) was u m world.0.0

  log-more : (d : Deed) (w : List Deed) → length (log_of w) ≤ length (log_of (d ∷ w))
  log-more (Logged e) w = omega arith
  log-more d w = omega arith

  bounded : (w : List Deed) → IsWorld start files w → (t l : ℕ)
      → Bound l (stage t (own t w)) (shares t l w) (length (log_of w))
  bounded [] world t l = omega arith
  bounded (d ∷ w) world t l =
      let before = bounded w world.1 in
      elim (eqb_tells (thread_of d) t) [
        | inl is ↦
            subst (λ k. Bound l (stage k (own k (d ∷ w))) (shares k l (d ∷ w))
            (length (log_of (d ∷ w)))) is.1
            (subst (λ o. Bound l (stage (thread_of d) o) (shares (thread_of d) l (d ∷ w))
            (length (log_of (d ∷ w))))
            (sym (own-mine (thread_of d) d w (eq-eqb (thread_of d) (thread_of d) refl)))
            (mine d w world l (before (thread_of d) l)))
        | inr is ↦
            later l (stage t (own t (d ∷ w))) (shares t l (d ∷ w)) (length (log_of w))
            (length (log_of (d ∷ w))) (log-more d w)
            (subst (λ k. Bound l (stage t (own t (d ∷ w))) k (length (log_of w)))
            (sym (shares-other t l d w is.0))
            (subst (λ o. Bound l (stage t o) (shares t l w) (length (log_of w)))
            (sym (own-other t d w is.0)) (before t l)))
      ]

pub shares-few : (s : Scene) → IsKept s → (t l : ℕ)
    → shares_of s.raw t l ≤ length s.story.history + 1
shares-few s k t l =
    let few =
    most l (stage t (own t k.deeds)) (shares t l k.deeds) (length (log_of k.deeds))
    (bounded s.story.start s.story.files k.deeds k.world t l) in
    let had = k.shown.had t l in
    let logs = ap length k.shown.logs in
    omega (arith, few, had, logs)
