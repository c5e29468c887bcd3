-- Where a run reported nothing, no reordering of it reaches a deadlock: what a thread has when it
-- asks for a lock is ahead of that lock, in the run's own log, and ahead comes round to no lock.
use Rattle.std.proofs.Common.{◌≡◌, ℕ, ◌<◌, true, List, [], ◌∷◌, ◌++◌, map, None, refl, ap, sym, ◌∙◌}
use Rattle.std.proofs.Common.{subst, inl, inr, arith}
use Rattle.std.proofs.lemmas.Bool.{eq-eqb}
use Rattle.std.proofs.lemmas.Bool.Decides.{eqb_tells}
use Rattle.wit_model.specs.declared.calls.Request.{Request}
use Rattle.wit_model.specs.declared.calls.Call.TheVariants.{Check}
use Rattle.wit_model.specs.declared.calls.Entry.{Entry}
use Rattle.wit_model.specs.Rules.History.{Nothing, act, num, is_held}
use Rattle.wit_model.specs.Rules.State.{Start}
use Rattle.wit_model.specs.Rules.Start.{start_fault}
use Rattle.wit_model.specs.Rules.Ahead.{IsAhead}
use Rattle.wit_model.specs.Rules.Clean.{is_clean}
use Rattle.wit_model.specs.World.Deeds.{Deed, Logged, PassedOver, Take, TryTake, Free, RawUp}
use Rattle.wit_model.specs.World.Deeds.{RawDown, thread_of, own, log_of, shares}
use Rattle.wit_model.specs.World.Stages.{Stage, Asked, stage, is_over, call_follows}
use Rattle.wit_model.specs.World.Steps.{IsWorld}
use Rattle.wit_model.specs.World.Waiting.{IsWaiting, IsDeadlock}
use Rattle.wit_model.specs.World.Reordering.{kept, IsReordering}
use Rattle.wit_model.proofs.Chains.Acts.{num-step}
use Rattle.wit_model.proofs.Chains.HeldLocks.{num-of_free}
use Rattle.wit_model.proofs.Histories.Legal.{sane_legal}
use Rattle.wit_model.proofs.VerdictLaws.AheadLaws.{ahead-at_check, ahead-stays, ahead-trans}
use Rattle.wit_model.proofs.VerdictLaws.AheadLaws.{ahead-sound}
use Rattle.wit_model.proofs.World.Covered.{covered}
use Rattle.wit_model.proofs.World.Covering.{legal_world, clean-before}
use Rattle.wit_model.proofs.World.Own.{own-mine, own-other, shares-own, shares-kept, num-own}
use Rattle.wit_model.proofs.World.Own.{num-kept, act-mine, asked-deed, kept-check}
use Rattle.wit_model.proofs.World.Rounds.{round}

none-longer : (later : List Deed) (x : Deed) (xs : List Deed)
    → ◌≡◌ {A = List Deed} [] (later ++ x ∷ xs) → ⊥
none-longer [] x xs is = (cc)
none-longer (y ∷ later) x xs is = (cc)

-- a list with the same looks as a thread's own deeds has the same shares and the same record
same-shares : (t l : ℕ) (w o : List Deed) → map kept (own t w) ≡ map kept o
    → shares t l o ≡ shares t l w
same-shares t l w o same =
    sym (shares-kept t l o) ∙ (ap (λ x. shares t l x) (sym same)
    ∙ (shares-kept t l (own t w) ∙ shares-own t l w))

same-num : (t l : ℕ) (w o : List Deed) → map kept (own t w) ≡ map kept o
    → num t l (log_of o) ≡ num t l (log_of w)
same-num t l w o same =
    sym (num-kept t l o) ∙ (ap (λ x. num t l (log_of x)) (sym same)
    ∙ (num-kept t l (own t w) ∙ num-own t l w))

module _ (start : Start) (files : List (List ℕ)) (unblessed : start.blessed ≡ []) where
  stays : (d : Deed) (w : List Deed) (a b : ℕ) → IsAhead start (log_of w) a b
      → IsAhead start (log_of (d ∷ w)) a b
  stays (Logged e) w a b is = ahead-stays start e (log_of w) a b is
  stays (Take u m mode) w a b is = is
  stays (TryTake u m mode) w a b is = is
  stays (PassedOver u c) w a b is = is
  stays (Free u m) w a b is = is
  stays (RawUp u m) w a b is = is
  stays (RawDown u m) w a b is = is

  over-at_check : (e : Entry) (w : List Deed) (q : Request) → IsWorld start files (Logged e ∷ w)
      → e.call ≡ Check q → is_over (stage e.seat.0 (own e.seat.0 w)) ≡ true
  over-at_check e w q world asks =
      ap (λ c. call_follows c (λ l. is_held e.seat.0 l (log_of w))
      (stage e.seat.0 (own e.seat.0 w))) (sym asks) ∙ world.0.0

  -- the check itself: all that its thread has is recorded
  ahead-asking : (e : Entry) (w : List Deed) (q : Request) (l : ℕ)
      → IsWorld start files (Logged e ∷ w) → is_clean start.profile (log_of (Logged e ∷ w)) ≡ true
      → e.call ≡ Check q
      → num e.seat.0 q.lock.0 (e ∷ log_of w) ≡ 0 → 0 < shares e.seat.0 l w
      → IsAhead start (e ∷ log_of w) l q.lock.0
  ahead-asking e w q l world clean asks unheld some =
      let legal = legal_world start files (Logged e ∷ w) world in
      let idle =
      act-mine e.seat.0 e (eq-eqb e.seat.0 e.seat.0 refl) ∙ ap (λ c. act c e.reply) asks in
      let same =
      num-step e.seat.0 q.lock.0 e (log_of w) Nothing idle
      (sane_legal start files (log_of w) legal.2) in
      let all =
      covered start files w world.1 (clean-before start.profile (Logged e) w clean) e.seat.0 l
      (over-at_check e w q world asks) in
      ahead-at_check start files unblessed e (log_of w) q l legal clean asks (sym same ∙ unheld)
      (omega (arith, all, some))

  -- a thread in a reordering that has just done what d was
  module _ (q : Request) (l : ℕ) (o : List Deed) where
    ahead-now : (d : Deed) (w : List Deed) → IsWorld start files (d ∷ w)
        → is_clean start.profile (log_of (d ∷ w)) ≡ true
        → map kept (own (thread_of d) (d ∷ w)) ≡ map kept o
        → stage (thread_of d) o ≡ Asked q → num (thread_of d) q.lock.0 (log_of o) ≡ 0
        → 0 < shares (thread_of d) l o → IsAhead start (log_of (d ∷ w)) l q.lock.0
    ahead-now d w world clean same asks unheld some =
        let made = asked-deed (thread_of d) o q asks in
        let whole : kept d ∷ map kept (own (thread_of d) w) ≡ kept (Logged made.0) ∷ map kept made.1
        = ap (λ x. map kept x) (sym (own-mine (thread_of d) d w
        (eq-eqb (thread_of d) (thread_of d) refl))) ∙ (same ∙ ap (λ x. map kept x) made.2) in
        let head : kept d ≡ kept (Logged made.0) = cc in
        let check = kept-check d made.0 q head made.3 in
        let unheld' : num (thread_of d) q.lock.0 (log_of (d ∷ w)) ≡ 0 =
        sym (same-num (thread_of d) q.lock.0 (d ∷ w) o same) ∙ unheld in
        let some' = subst (λ n. 0 < n) (same-shares (thread_of d) l (d ∷ w) o same) some in
        go d check.0 check.1 check.2 world clean unheld' some'
      where
        go : (x : Deed) (e : Entry) → x ≡ Logged e → e.call ≡ Check q → IsWorld start files (x ∷ w)
            → is_clean start.profile (log_of (x ∷ w)) ≡ true
            → num (thread_of x) q.lock.0 (log_of (x ∷ w)) ≡ 0 → 0 < shares (thread_of x) l (x ∷ w)
            → IsAhead start (log_of (x ∷ w)) l q.lock.0
        go (Logged f) e is checks world clean unheld some =
            let same : f ≡ e = cc in
            ahead-asking f w q l world clean (ap (λ (y : Entry). y.call) same ∙ checks) unheld some
        go (Take u m mode) e is checks world clean unheld some = (cc)
        go (TryTake u m mode) e is checks world clean unheld some = (cc)
        go (PassedOver u c) e is checks world clean unheld some = (cc)
        go (Free u m) e is checks world clean unheld some = (cc)
        go (RawUp u m) e is checks world clean unheld some = (cc)
        go (RawDown u m) e is checks world clean unheld some = (cc)

  -- who asks for a lock in a reordering asked for it in the run, when it had the same
  asked-in_run : (t : ℕ) (q : Request) (l : ℕ) (o : List Deed) → stage t o ≡ Asked q
      → num t q.lock.0 (log_of o) ≡ 0 → 0 < shares t l o
      → (w : List Deed) → IsWorld start files w → is_clean start.profile (log_of w) ≡ true
      → (later : List Deed) → map kept (own t w) ≡ later ++ map kept o
      → IsAhead start (log_of w) l q.lock.0
  asked-in_run t q l o asks unheld some [] world clean later same =
      let made = asked-deed t o q asks in
      absurd (none-longer later (kept (Logged made.0)) (map kept made.1)
      (same ∙ ap (λ x. later ++ map kept x) made.2))
  asked-in_run t q l o asks unheld some (d ∷ w) world clean later same =
      let before =
      asked-in_run t q l o asks unheld some w world.1 (clean-before start.profile d w clean) in
      elim (eqb_tells (thread_of d) t) [
        | inl is ↦ last later same
            (λ now. subst (λ k. map kept (own k (d ∷ w)) ≡ map kept o
            → IsAhead start (log_of (d ∷ w)) l q.lock.0) is.1
            (λ alike. ahead-now q l o d w world clean alike
            (subst (λ k. stage k o ≡ Asked q) (sym is.1) asks)
            (subst (λ k. num k q.lock.0 (log_of o) ≡ 0) (sym is.1) unheld)
            (subst (λ k. 0 < shares k l o) (sym is.1) some)) now)
            (λ x xs past. stays d w l q.lock.0 (before xs
            (let whole : kept d ∷ map kept (own t w)
            ≡ x ∷ (xs ++ map kept o) =
            ap (λ y. map kept y) (sym (own-mine t d w is.0)) ∙ past in
            let tail : map kept (own t w) ≡ xs ++ map kept o = cc in tail)))
        | inr is ↦ stays d w l q.lock.0
            (before later (ap (λ y. map kept y) (sym (own-other t d w is.0)) ∙ same))
      ]
    where
      last : (xs : List Deed) → map kept (own t (d ∷ w)) ≡ xs ++ map kept o
          → (map kept (own t (d ∷ w)) ≡ map kept o → IsAhead start (log_of (d ∷ w)) l q.lock.0)
          → ((x : Deed) (ys : List Deed) → map kept (own t (d ∷ w)) ≡ x ∷ (ys ++ map kept o)
          → IsAhead start (log_of (d ∷ w)) l q.lock.0)
          → IsAhead start (log_of (d ∷ w)) l q.lock.0
      last [] is now past = now is
      last (x ∷ xs) is now past = past x xs is

  -- ---- from a circle of threads to a circle of locks

  abbrev lock_asked : Stage → ℕ
  lock_asked (Asked q) = q.lock.0
  lock_asked _ = 0

  abbrev wanted : List Deed → ℕ → ℕ
  wanted v t = lock_asked (stage t (own t v))

  module _ (v w : List Deed) (world : IsWorld start files w)
      (clean : is_clean start.profile (log_of w) ≡ true) (reordered : IsReordering start v w) where
    link : (t u x : ℕ) → IsWaiting v t u → IsWaiting v u x
        → IsAhead start (log_of w) (wanted v t) (wanted v u)
    link t u x one two =
        let first = reordered.same u in
        let unheld =
        num-own u two.request.lock.0 v ∙ num-of_free u two.request.lock.0
        (log_of v) two.unheld in
        let some = subst (λ n. 0 < n) (sym (shares-own u one.request.lock.0 v)) one.taken in
        let ahead =
        asked-in_run u two.request one.request.lock.0
        (own u v) two.asks unheld some w world clean first.0 first.1 in
        subst (λ a. IsAhead start (log_of w) a (wanted v u)) (sym (ap lock_asked one.asks))
        (subst (λ b. IsAhead start (log_of w) one.request.lock.0 b)
        (sym (ap lock_asked two.asks)) ahead)

    pub no_circle : start_fault start ≡ None → (threads : List ℕ) → IsDeadlock v threads → ⊥
    no_circle accepted threads circle =
        let back =
        round (IsWaiting v) (λ t u. IsAhead start (log_of w) (wanted v t) (wanted v u)) link
        (λ t u x. ahead-trans start (log_of w) (wanted v t) (wanted v u) (wanted v x))
        threads circle in
        ahead-sound start files (log_of w) (wanted v back.0) accepted
        (legal_world start files w world) back.1
