-- Threads that wait for one another in a circle stand in facts that close one.
use Rattle.std.proofs.Common.{◌≡◌, ℕ, ◌<◌, Bool, true, false, not, ◌&&◌, ◌||◌, eqb, List, [], ◌∷◌}
use Rattle.std.proofs.Common.{length, refl, ap, sym, ◌∙◌, subst, arith}
use Rattle.std.proofs.Common.{⊎_elim}
use Rattle.std.specs.List.{list_any, list_all, AllByRecursion}
use Rattle.std.proofs.lemmas.Bool.{and_parts, and_from, or_cases, or_parts, eq-eqb}
use Rattle.std.proofs.lemmas.Bool.{true≢false, not_from_false, false_from_ne_true}
use Rattle.std.proofs.lemmas.Bool.{true_from_ne_false, not-false, eqb-false, or_left, or_right}
use Rattle.wit_model.specs.declared.calls.Request.{Request}
use Rattle.wit_model.specs.Rules.State.{Start}
use Rattle.wit_model.specs.Rules.Verdict.{is_exclusive}
use Rattle.wit_model.specs.Rules.Circles.{IsQueue, IsCircle}
use Rattle.wit_model.specs.World.Deeds.{shares, raw_mode}
use Rattle.wit_model.specs.World.Waiting.{IsWaiting, IsDeadlock}
use Rattle.wit_alarms.specs.declared.facts.Fact.{Fact}
use Rattle.wit_alarms.specs.declared.facts.Lives.{Lives}
use Rattle.wit_alarms.specs.Courses.{Event, deeds, IsCourse}
use Rattle.wit_alarms.specs.Facts.{is_timed, is_wait_end, is_kept_out, can_meet, can_wait, of_both}
use Rattle.wit_alarms.specs.Facts.{is_exclusively, locks_held, leads_by, leads_round, all_pairs, may_begin, closes}
use Rattle.wit_alarms.specs.Facts.{all_reasons, NoneCloses}
use Rattle.wit_alarms.specs.Keeping.{AsksAsSaid}
use Rattle.wit_alarms.specs.NoneMeansNone.{AsksForGood}
use Rattle.wit_alarms.proofs.Simple.{AllDiffer, SimpleCircle, simple}
use Rattle.wit_alarms.proofs.Standing.{Stand, stands, here, has-held, has-besides, mode-asked}
use Rattle.wit_alarms.proofs.Standing.{same-request}
use Rattle.wit_alarms.proofs.Meeting.{of-both, meets}
use Rattle.wit_alarms.proofs.WaitEnds.{exclusive-one, Began, began, kept-out, began-before}

module _ (start : Start) (files : List (List ℕ)) (first : ℕ) (lives : Lives) (facts : List Fact)
    (these : ℕ → Bool) (limited : List Event → Bool) (c : List Event)
    (course : IsCourse start files first lives c)
    (keeps : AsksAsSaid these facts lives limited first c) where
  abbrev StandIn : ℕ → ℕ → Type 0
  StandIn t i = Stand start first lives facts these limited c t i

  -- t waits for u, for one of these locks, for good
  abbrev Waits : ℕ → ℕ → Type 0
  Waits t u = IsWaiting (deeds c) t u × AsksForGood these limited c t

  -- ---- a wait is one of the facts

  module _ (t i u j : ℕ) (s : StandIn t i) (r : StandIn u j) (waits : Waits t u)
      (held : r.lock ≡ waits.0.request.lock.0) where
    asked-same : s.request ≡ waits.0.request
    asked-same =
        same-request start first lives facts these limited c t i s waits.0.request waits.0.asks

    lock-same : s.request.lock.0 ≡ r.lock
    lock-same = ap (λ (q : Request). q.lock.0) asked-same ∙ sym held

    asks-it : eqb s.said.fact.asked.lock.0 r.said.fact.held.lock.0 ≡ true
    asks-it =
        eq-eqb s.said.fact.asked.lock.0 r.said.fact.held.lock.0
        (s.said.asked ∙ (lock-same ∙ sym r.said.held))

    bars-it : (is_exclusive s.said.fact.asked.mode || is_exclusive r.said.fact.held.mode) ≡ true
    bars-it =
        ⊎_elim
        (λ theirs.
        let had : is_exclusive r.said.fact.held.mode ≡ true =
        r.said.held_mode
        ∙ (ap is_exclusive (mode-asked start first lives facts these limited c u r.lock r.entry
        r.before r.whole)
        ∙ (ap (λ l. is_exclusive (raw_mode u l (deeds c))) held ∙ theirs)) in
        or_right (is_exclusive s.said.fact.asked.mode) (is_exclusive r.said.fact.held.mode) had)
        (λ mine.
        or_left (is_exclusive s.said.fact.asked.mode) (is_exclusive r.said.fact.held.mode)
        (s.said.asked_mode
        ∙ (ap (λ (q : Request). is_exclusive q.mode) asked-same ∙ mine)))
        (or_cases (is_exclusive (raw_mode u waits.0.request.lock.0 (deeds c)))
        (is_exclusive waits.0.request.mode) waits.0.barred)

    unlimited : is_timed s.said.fact.manner ≡ true → ⊥
    unlimited is =
        true≢false (sym (s.said.timed is) ∙ (ap limited (sym s.whole) ∙ waits.1.unlimited))

    not-kept : is_kept_out s.said.fact r.said.fact ≡ true → ⊥
    not-kept is =
        let one =
        and_parts (is_wait_end s.said.fact.manner)
        (is_exclusive s.said.fact.asked.mode && (r.said.fact.under
        && list_any (is_exclusively r.said.fact.asked.lock.0) (locks_held s.said.fact))) is in
        let two =
        and_parts (is_exclusive s.said.fact.asked.mode) (r.said.fact.under
        && list_any (is_exclusively r.said.fact.asked.lock.0) (locks_held s.said.fact)) one.1 in
        let three =
        and_parts r.said.fact.under
        (list_any (is_exclusively r.said.fact.asked.lock.0) (locks_held s.said.fact)) two.1 in
        let kept =
        exclusive-one t r.said.fact.asked.lock.0 (deeds c) (locks_held s.said.fact) (
          has-held start first lives facts these limited c t i s,
          has-besides start first lives facts these limited c t i s,
        ) three.1 in
        kept-out start files first lives facts these limited c course t i u j s r waits.0.another
        lock-same (began start files first lives facts these limited c course t i s one.0)
        (sym s.said.asked_mode ∙ two.0) (r.said.under three.0)
        (subst (λ m. (0 < shares t m (deeds c)) × (is_exclusive (raw_mode t m (deeds c)) ≡ true))
        r.said.asked kept)

    leads : of_both (can_wait all_reasons) facts i j ≡ true
    leads =
        of-both start files first lives facts these limited c course (can_wait all_reasons) i j
        s.said.fact r.said.fact
        (here start first lives facts these limited c t i s)
        (here start first lives facts these limited c u j r)
        (and_from _ _ asks-it
        (and_from (is_exclusive s.said.fact.asked.mode || is_exclusive r.said.fact.held.mode) _
        bars-it
        (and_from (not (is_timed s.said.fact.manner))
        (not (is_kept_out s.said.fact r.said.fact))
        (not_from_false (is_timed s.said.fact.manner)
        (false_from_ne_true (is_timed s.said.fact.manner) unlimited))
        (not_from_false (is_kept_out s.said.fact r.said.fact)
        (false_from_ne_true (is_kept_out s.said.fact r.said.fact) not-kept)))))

  -- ---- a queue of threads leads along their facts

  abbrev AllStand : List ℕ → List ℕ → Type 0
  AllStand [] [] = Unit {0}
  AllStand [] (i ∷ is) = ⊥
  AllStand (t ∷ ts) [] = ⊥
  AllStand (t ∷ ts) (i ∷ is) = StandIn t i × AllStand ts is

  -- the facts of these threads, each of which holds what the one before asks for
  record Lifted (t : ℕ) (us : List ℕ) (x : ℕ) : Type 0 where
    places : List ℕ
    last : ℕ
    all : AllStand us places
    end : StandIn x last
    leads : (i : ℕ) → StandIn t i → leads_by (of_both (can_wait all_reasons) facts) i places last ≡ true

  stand-next : (t u x : ℕ) (waits : Waits t u) → Waits u x
      → (j : ℕ) × (r : StandIn u j) × (r.lock ≡ waits.0.request.lock.0)
  stand-next t u x waits next =
      stands start first lives facts these limited c course.come keeps u waits.0.request.lock.0
      next.0.request next.0.asks next.0.unheld (next.1.one next.0.request next.0.asks)
      (waits.1.one waits.0.request waits.0.asks) waits.0.taken

  first-wait : (u : ℕ) (us : List ℕ) (x : ℕ) → IsQueue Waits u us x → (v : ℕ) × Waits u v
  first-wait u [] x queue = (x, queue)
  first-wait u (v ∷ vs) x queue = (v, queue.0)

  lift : (t : ℕ) (us : List ℕ) (x y : ℕ) → IsQueue Waits t us x → Waits x y → Lifted t us x
  lift t [] x y queue next =
      let end = stand-next t x y queue next in
      record {
        places = [];
        last = end.0;
        all = tt;
        end = end.1;
        leads = λ i s. leads t i x end.0 s end.1 queue end.2;
      }
  lift t (u ∷ us) x y queue next =
      let rest = lift u us x y queue.1 next in
      let after = first-wait u us x queue.1 in
      let mid = stand-next t u after.0 queue.0 after.1 in
      record {
        places = mid.0 ∷ rest.places;
        last = rest.last;
        all = (mid.1, rest.all);
        end = rest.end;
        leads = λ i s.
            and_from (of_both (can_wait all_reasons) facts i mid.0)
            (leads_by (of_both (can_wait all_reasons) facts) mid.0 rest.places rest.last)
            (leads t i u mid.0 s mid.1 queue.0 mid.2) (rest.leads mid.0 mid.1);
      }

  -- ---- they can meet

  meet-all : (t i : ℕ) → StandIn t i → (us is : List ℕ) → AllStand us is
      → list_any (eqb t) us ≡ false
      → list_all (of_both (can_meet all_reasons lives) facts i) is ≡ true
  meet-all t i s [] [] all differ = refl
  meet-all t i s [] (j ∷ js) all differ = absurd all
  meet-all t i s (u ∷ us) [] all differ = absurd all
  meet-all t i s (u ∷ us) (j ∷ js) all differ =
      let parts = or_parts (eqb t u) (list_any (eqb t) us) differ in
      and_from (of_both (can_meet all_reasons lives) facts i j)
      (list_all (of_both (can_meet all_reasons lives) facts i) js)
      (meets start files first lives facts these limited c course t i u j s all.0
      (λ e. eqb-false t u parts.0 (sym e)))
      (meet-all t i s us js all.1 parts.1)

  all-meet : (ts is : List ℕ) → AllStand ts is → AllDiffer ts
      → all_pairs (of_both (can_meet all_reasons lives) facts) is ≡ true
  all-meet [] [] all differ = refl
  all-meet [] (i ∷ is) all differ = absurd all
  all-meet (t ∷ ts) [] all differ = absurd all
  all-meet (t ∷ ts) (i ∷ is) all differ =
      and_from (list_all (of_both (can_meet all_reasons lives) facts i) is)
      (all_pairs (of_both (can_meet all_reasons lives) facts) is)
      (meet-all t i all.0 ts is all.1 differ.0) (all-meet ts is all.1 differ.1)

  -- ---- not all of them ask as a wait ends

  ends-wait : (t i : ℕ) (s : StandIn t i) → may_begin all_reasons facts i ≡ false
      → is_wait_end s.said.fact.manner ≡ true
  ends-wait t i s is =
      not-false (is_wait_end s.said.fact.manner)
      (sym (rw (here start first lives facts these limited c t i s) refl) ∙ is)

  abbrev BeganIn : (t i : ℕ) → StandIn t i → Type 0
  BeganIn t i s = Began start files first lives facts these limited c course t i s

  began-in : (t i : ℕ) (s : StandIn t i) → may_begin all_reasons facts i ≡ false → BeganIn t i s
  began-in t i s is =
      began start files first lives facts these limited c course t i s (ends-wait t i s is)

  rises : (t i u j : ℕ) (s : StandIn t i) (r : StandIn u j) (b : BeganIn t i s)
      (d : BeganIn u j r) → Waits t u → length b.freed.before < length d.freed.before
  rises t i u j s r b d waits =
      let same =
      same-request start first lives facts these limited c t i s waits.0.request waits.0.asks in
      began-before start files first lives facts these limited c course t i u j s r
      waits.0.another b d
      (subst (λ (q : Request). 0 < shares u q.lock.0 (deeds c)) (sym same) waits.0.taken)
      (subst (λ (q : Request). (is_exclusive (raw_mode u q.lock.0 (deeds c))
      || is_exclusive q.mode) ≡ true) (sym same) waits.0.barred)

  rise : (t i : ℕ) (s : StandIn t i) (b : BeganIn t i s) (us is : List ℕ) → AllStand us is
      → list_any (may_begin all_reasons facts) is ≡ false
      → (x j : ℕ) (r : StandIn x j) (d : BeganIn x j r) → IsQueue Waits t us x
      → length b.freed.before < length d.freed.before
  rise t i s b [] [] all none x j r d queue = rises t i x j s r b d queue
  rise t i s b [] (k ∷ ks) all none x j r d queue = absurd all
  rise t i s b (u ∷ us) [] all none x j r d queue = absurd all
  rise t i s b (u ∷ us) (k ∷ ks) all none x j r d queue =
      let parts =
      or_parts (may_begin all_reasons facts k) (list_any (may_begin all_reasons facts) ks) none in
      let mid = began-in u k all.0 parts.0 in
      let one = rises t i u k s all.0 b mid queue.0 in
      let two = rise u k all.0 mid us ks all.1 parts.1 x j r d queue.1 in
      omega (arith, one, two)

  -- ---- so the facts of a circle close one

  closing : SimpleCircle Waits → (circle : List ℕ) × (closes all_reasons lives facts circle ≡ true)
  closing ring =
      let after = first-wait ring.first ring.others ring.first ring.round in
      let lifted = lift ring.first ring.others ring.first after.0 ring.round after.1 in
      let circle = lifted.last ∷ lifted.places in (
        circle,
        and_from (leads_round (of_both (can_wait all_reasons) facts) circle)
            (all_pairs (of_both (can_meet all_reasons lives) facts) circle
            && list_any (may_begin all_reasons facts) circle)
            (lifted.leads lifted.last lifted.end)
            (and_from (all_pairs (of_both (can_meet all_reasons lives) facts) circle)
            (list_any (may_begin all_reasons facts) circle)
            (all-meet (ring.first ∷ ring.others) circle (lifted.end, lifted.all) ring.differ)
            (true_from_ne_false (list_any (may_begin all_reasons facts) circle)
            (λ none.
            let parts =
            or_parts (may_begin all_reasons facts lifted.last)
            (list_any (may_begin all_reasons facts) lifted.places) none in
            let b = began-in ring.first lifted.last lifted.end parts.0 in
            let more =
            rise ring.first lifted.last lifted.end b ring.others lifted.places lifted.all parts.1
            ring.first lifted.last lifted.end b ring.round in
            omega (arith, more)))),
      )

  -- ---- a deadlock is such a circle

  good-queue : (t : ℕ) (us : List ℕ) (x : ℕ) → IsQueue (IsWaiting (deeds c)) t us x
      → AllByRecursion (AsksForGood these limited c) (t ∷ us) → IsQueue Waits t us x
  good-queue t [] x queue good = (queue, good.0)
  good-queue t (u ∷ us) x queue good =
      ((queue.0, good.0), good-queue u us x queue.1 good.1)

  good-circle : (threads : List ℕ) → IsDeadlock (deeds c) threads
      → AllByRecursion (AsksForGood these limited c) threads → IsCircle Waits threads
  good-circle [] circle good = circle
  good-circle (t ∷ ts) circle good = good-queue t ts t circle good

  pub none-means-none : NoneCloses all_reasons lives facts → (threads : List ℕ)
      → AllByRecursion (AsksForGood these limited c) threads
      → IsDeadlock (deeds c) threads → ⊥
  none-means-none none threads good circle =
      let found = closing (simple Waits threads (good-circle threads circle good)) in
      none found.0 found.1
