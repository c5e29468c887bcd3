-- Threads that ask for a lock again as a wait for a condition ends: who waits for whom.
use Rattle.std.proofs.Common.{◌≡◌, ℕ, ◌<◌, Bool, true, false, ◌&&◌, ◌||◌, eqb, List, [], ◌∷◌}
use Rattle.std.proofs.Common.{◌++◌, length, refl, ap, sym, ◌∙◌, subst, ⊎_elim, arith}
use Rattle.std.proofs.Common.{append_assoc, length-append}
use Rattle.std.specs.List.{list_any, AllByRecursion}
use Rattle.std.proofs.lemmas.Bool.{and_parts, or_cases, or_from, eqb-true, true≢false}
use Rattle.std.proofs.lemmas.Bool.{false≢true}
use Rattle.wit_model.specs.Rules.State.{Start}
use Rattle.wit_model.specs.Rules.Verdict.{is_exclusive}
use Rattle.wit_model.specs.World.Deeds.{Deed, Logged, Free, thread_of, own, shares, raw_mode}
use Rattle.wit_model.specs.World.Steps.{IsWorld}
use Rattle.wit_model.proofs.World.Own.{own-mine, own-other, shares-own}
use Rattle.wit_model.proofs.World.Exclusion.{exclusive_alone}
use Rattle.wit_alarms.specs.declared.facts.Had.{Had}
use Rattle.wit_alarms.specs.declared.facts.Fact.{Fact}
use Rattle.wit_alarms.specs.declared.facts.Lives.{Lives}
use Rattle.wit_alarms.specs.Courses.{Event, deeds, IsCourse}
use Rattle.wit_alarms.specs.Facts.{is_wait_end, is_exclusively}
use Rattle.wit_alarms.specs.Keeping.{Has, TookUnder, frees}
use Rattle.wit_alarms.proofs.Events.{mode-own}
use Rattle.wit_alarms.proofs.Standing.{Stand, own-asked}
use Rattle.wit_alarms.proofs.Suffixes.{world-before, ends, Did, did, own-append, Still, still}
use Rattle.wit_alarms.proofs.Suffixes.{share-kept, any-rest, same-front}

-- one of these locks it has exclusively
pub exclusive-one : (t m : ℕ) (w : List Deed) (hads : List Had) → AllByRecursion (Has t w) hads
    → list_any (is_exclusively m) hads ≡ true
    → (0 < shares t m w) × (is_exclusive (raw_mode t m w) ≡ true)
exclusive-one t m w [] has is = absurd (false≢true is)
exclusive-one t m w (a ∷ hads) has is =
    ⊎_elim
    (λ now.
    let parts = and_parts (eqb a.lock.0 m) (is_exclusive a.mode) now in
    let same = eqb-true a.lock.0 m parts.0 in (
      subst (λ l. 0 < shares t l w) same has.0.some,
      subst (λ l. is_exclusive (raw_mode t l w) ≡ true) same (has.0.alone parts.1),
    ))
    (λ later. exclusive-one t m w hads has.1 later)
    (or_cases (eqb a.lock.0 m && is_exclusive a.mode)
    (list_any (is_exclusively m) hads) is)

two-threads : (t u : ℕ) (d e : Deed) (a b : List Deed) → (u ≡ t → ⊥) → eqb (thread_of d) t ≡ true
    → eqb (thread_of e) u ≡ true → ◌≡◌ {A = List Deed} (d ∷ a) (e ∷ b) → ⊥
two-threads t u d e a b other mine theirs same =
    let heads : d ≡ e = cc in
    other (sym (eqb-true (thread_of e) u theirs)
    ∙ (ap thread_of (sym heads) ∙ eqb-true (thread_of d) t mine))

not-mine : (t u : ℕ) (d : Deed) → (u ≡ t → ⊥) → eqb (thread_of d) u ≡ true
    → eqb (thread_of d) t ≡ false
not-mine t u d other theirs = go (eqb (thread_of d) t) refl
  where
    go : (b : Bool) → eqb (thread_of d) t ≡ b → eqb (thread_of d) t ≡ false
    go true is =
        absurd (other (sym (eqb-true (thread_of d) u theirs) ∙ eqb-true (thread_of d) t is))
    go false is = is

module _ (start : Start) (files : List (List ℕ)) (first : ℕ) (lives : Lives) (facts : List Fact)
    (these : ℕ → Bool) (limited : List Event → Bool) (c : List Event)
    (course : IsCourse start files first lives c) where
  -- where the thread freed the lock that it asks for
  pub record Began (t i : ℕ) (s : Stand start first lives facts these limited c t i) : Type 0 where
    pub own_before : List Deed
    pub asked : own t (deeds c) ≡ Logged s.entry ∷ Free t s.request.lock.0 ∷ own_before
    pub freed : Did t (deeds c) (Logged s.entry ∷ []) (Free t s.request.lock.0) own_before
    pub mode : is_exclusive (raw_mode t s.request.lock.0 freed.before)
        ≡ is_exclusive s.request.mode

  pub began : (t i : ℕ) (s : Stand start first lives facts these limited c t i)
      → is_wait_end s.said.fact.manner ≡ true → Began t i s
  began t i s is =
      let wait = s.said.wait_end is in
      let asked : own t (deeds c) ≡ Logged s.entry ∷ Free t s.request.lock.0 ∷ wait.before =
      own-asked start first lives facts these limited c t s.entry s.before s.whole
      ∙ ap (λ o. Logged s.entry ∷ o) wait.freed in
      let freed =
      did t (deeds c) (Logged s.entry ∷ []) (Free t s.request.lock.0) wait.before asked in
      record {
        own_before = wait.before;
        asked = asked;
        freed = freed;
        mode =
            ap is_exclusive (sym (mode-own t s.request.lock.0 freed.before)
            ∙ ap (λ o. raw_mode t s.request.lock.0 o) freed.own_before) ∙ wait.mode;
      }

  module _ (t i : ℕ) (s : Stand start first lives facts these limited c t i)
      (b : Began t i s) where
    world-freed : IsWorld start files (Free t s.request.lock.0 ∷ b.freed.before)
    world-freed =
        world-before start files b.freed.later (Free t s.request.lock.0 ∷ b.freed.before)
        (subst (λ w. IsWorld start files w) b.freed.whole course.world)

    -- it had the lock until then
    had-it : 0 < shares t s.request.lock.0 b.freed.before
    had-it = world-freed.0.1

    own-freed : own t (Free t s.request.lock.0 ∷ b.freed.before)
        ≡ Free t s.request.lock.0 ∷ b.own_before
    own-freed =
        own-mine t (Free t s.request.lock.0) b.freed.before b.freed.mine
        ∙ ap (λ o. Free t s.request.lock.0 ∷ o) b.freed.own_before

    -- what it has now it had at each moment since
    still-since : (x later w : List Deed) → deeds c ≡ later ++ w
        → w ≡ x ++ Free t s.request.lock.0 ∷ b.freed.before → Still t (deeds c) w
    still-since x later w whole since =
        still t s.entry (Free t s.request.lock.0 ∷ b.own_before) later (deeds c) w (own t x) whole
        b.asked
        (ap (λ y. own t y) since
        ∙ (own-append t x (Free t s.request.lock.0 ∷ b.freed.before)
        ∙ ap (λ y. own t x ++ y) own-freed))

  -- ---- who took the lock under one that the first kept is kept out

  module _ (t i u j : ℕ) (s : Stand start first lives facts these limited c t i)
      (r : Stand start first lives facts these limited c u j) (other : u ≡ t → ⊥)
      (same : s.request.lock.0 ≡ r.lock) (b : Began t i s)
      (exclusive : is_exclusive s.request.mode ≡ true)
      (k : TookUnder u r.lock r.request.lock.0 (deeds r.before))
      (keeps : (0 < shares t r.request.lock.0 (deeds c))
      × (is_exclusive (raw_mode t r.request.lock.0 (deeds c)) ≡ true)) where
    took-own : own u (deeds c) ≡ (Logged r.entry ∷ k.since) ++ k.take ∷ k.before
    took-own =
        own-asked start first lives facts these limited c u r.entry r.before r.whole
        ∙ ap (λ o. Logged r.entry ∷ o) k.whole

    took : Did u (deeds c) (Logged r.entry ∷ k.since) k.take k.before
    took = did u (deeds c) (Logged r.entry ∷ k.since) k.take k.before took-own

    own-took : own u (k.take ∷ took.before) ≡ k.take ∷ k.before
    unfolding took
    own-took =
        own-mine u k.take took.before took.mine ∙ ap (λ o. k.take ∷ o) took.own_before

    -- it took it after the wait began: under the lock that the first has
    took-late : (x : List Deed)
        → k.take ∷ took.before ≡ x ++ Free t s.request.lock.0 ∷ b.freed.before → ⊥
    unfolding took
    took-late [] is =
        two-threads u t k.take (Free t s.request.lock.0) took.before b.freed.before
        (λ e. other (sym e)) took.mine b.freed.mine is
    took-late (y ∷ x) is =
        let tail : took.before ≡ x ++ Free t s.request.lock.0 ∷ b.freed.before =
        (let whole : ◌≡◌ {A = List Deed} (k.take ∷ took.before)
        (y ∷ (x ++ Free t s.request.lock.0 ∷ b.freed.before)) = is in cc) in
        let whole : deeds c ≡ (took.later ++ k.take ∷ []) ++ took.before =
        took.whole ∙ sym (append_assoc took.later (k.take ∷ []) took.before) in
        let unmoved = still-since t i s b x (took.later ++ k.take ∷ []) took.before whole tail in
        let world =
        world-before start files (took.later ++ k.take ∷ []) took.before
        (subst (λ w. IsWorld start files w) whole course.world) in
        let m = r.request.lock.0 in
        let had : 0 < shares u m took.before =
        subst (λ n. 0 < n) (ap (λ o. shares u m o) (sym took.own_before)
        ∙ shares-own u m took.before) k.under in
        true≢false (sym (ap is_exclusive (unmoved.same_mode m) ∙ keeps.1)
        ∙ exclusive_alone start files took.before t u m world other
        (subst (λ n. 0 < n) (sym (unmoved.same_shares m)) keeps.0) had)

    -- it took it before: while the first had it
    took-early : (y : List Deed)
        → Free t s.request.lock.0 ∷ b.freed.before ≡ y ++ k.take ∷ took.before → ⊥
    unfolding took
    took-early [] is =
        two-threads t u (Free t s.request.lock.0) k.take b.freed.before took.before other
        b.freed.mine took.mine is
    took-early (z ∷ y) is =
        let tail : b.freed.before ≡ y ++ k.take ∷ took.before =
        (let whole : ◌≡◌ {A = List Deed} (Free t s.request.lock.0 ∷ b.freed.before)
        (z ∷ (y ++ k.take ∷ took.before)) = is in cc) in
        let theirs : own u b.freed.before ≡ own u y ++ k.take ∷ k.before =
        ap (λ w. own u w) tail
        ∙ (own-append u y (k.take ∷ took.before) ∙ ap (λ w. own u y ++ w) own-took) in
        let front : own u b.freed.later ++ own u y ≡ Logged r.entry ∷ k.since =
        same-front (own u b.freed.later ++ own u y) (Logged r.entry ∷ k.since)
        (k.take ∷ k.before)
        (append_assoc (own u b.freed.later) (own u y) (k.take ∷ k.before)
        ∙ (ap (λ w. own u b.freed.later ++ w)
        (sym theirs ∙ sym (own-other u (Free t s.request.lock.0) b.freed.before
        (not-mine u t (Free t s.request.lock.0) (λ e. other (sym e)) b.freed.mine)))
        ∙ (sym (own-append u b.freed.later (Free t s.request.lock.0 ∷ b.freed.before))
        ∙ (ap (λ w. own u w) (sym b.freed.whole) ∙ took-own)))) in
        let unfreed : list_any (frees r.lock) (own u y) ≡ false =
        any-rest (frees r.lock) (own u b.freed.later) (own u y)
        (ap (λ w. list_any (frees r.lock) w) front ∙ k.kept) in
        let had : 0 < shares u r.lock b.freed.before =
        subst (λ n. 0 < n) (ap (λ w. shares u r.lock w) (sym theirs)
        ∙ shares-own u r.lock b.freed.before)
        (share-kept u r.lock (own u y) (k.take ∷ k.before) unfreed k.taken) in
        true≢false (sym (b.mode ∙ exclusive)
        ∙ exclusive_alone start files b.freed.before t u s.request.lock.0
        (world-freed t i s b).1 other (had-it t i s b)
        (subst (λ l. 0 < shares u l b.freed.before) (sym same) had))

    pub kept-out : ⊥
    kept-out =
        ⊎_elim (λ x. took-early x.0 x.1) (λ y. took-late y.0 y.1)
        (ends b.freed.later (Free t s.request.lock.0 ∷ b.freed.before) took.later
        (k.take ∷ took.before) (sym b.freed.whole ∙ took.whole))

  -- ---- of two such threads the one that waits for the other began its wait before

  module _ (t i u j : ℕ) (s : Stand start first lives facts these limited c t i)
      (r : Stand start first lives facts these limited c u j) (other : u ≡ t → ⊥)
      (b : Began t i s) (d : Began u j r)
      (some : 0 < shares u s.request.lock.0 (deeds c))
      (barred : (is_exclusive (raw_mode u s.request.lock.0 (deeds c))
      || is_exclusive s.request.mode) ≡ true) where
    not-later : (x : List Deed)
        → Free t s.request.lock.0 ∷ b.freed.before
        ≡ x ++ Free u r.request.lock.0 ∷ d.freed.before → ⊥
    not-later [] is =
        two-threads t u (Free t s.request.lock.0) (Free u r.request.lock.0) b.freed.before
        d.freed.before other b.freed.mine d.freed.mine is
    not-later (z ∷ x) is =
        let tail : b.freed.before ≡ x ++ Free u r.request.lock.0 ∷ d.freed.before =
        (let whole : ◌≡◌ {A = List Deed} (Free t s.request.lock.0 ∷ b.freed.before)
        (z ∷ (x ++ Free u r.request.lock.0 ∷ d.freed.before)) = is in cc) in
        let whole : deeds c ≡ (b.freed.later ++ Free t s.request.lock.0 ∷ []) ++ b.freed.before =
        b.freed.whole
        ∙ sym (append_assoc b.freed.later (Free t s.request.lock.0 ∷ []) b.freed.before) in
        let unmoved =
        still-since u j r d x (b.freed.later ++ Free t s.request.lock.0 ∷ []) b.freed.before whole
        tail in
        let l = s.request.lock.0 in
        let had : 0 < shares u l b.freed.before =
        subst (λ n. 0 < n) (sym (unmoved.same_shares l)) some in
        let shared =
        sym b.mode
        ∙ exclusive_alone start files b.freed.before t u l (world-freed t i s b).1 other
        (had-it t i s b) had in
        let shared_too =
        ap is_exclusive (sym (unmoved.same_mode l))
        ∙ exclusive_alone start files b.freed.before u t l (world-freed t i s b).1
        (λ e. other (sym e)) had (had-it t i s b) in
        true≢false (sym barred
        ∙ or_from (is_exclusive (raw_mode u l (deeds c))) (is_exclusive s.request.mode) shared_too
        shared)

    pub began-before : length b.freed.before < length d.freed.before
    began-before =
        ⊎_elim (λ x. absurd (not-later x.0 x.1))
        (λ y. longer y.0 y.1)
        (ends b.freed.later (Free t s.request.lock.0 ∷ b.freed.before) d.freed.later
        (Free u r.request.lock.0 ∷ d.freed.before) (sym b.freed.whole ∙ d.freed.whole))
      where
        longer : (y : List Deed)
            → Free u r.request.lock.0 ∷ d.freed.before
            ≡ y ++ Free t s.request.lock.0 ∷ b.freed.before
            → length b.freed.before < length d.freed.before
        longer [] is =
            absurd (two-threads t u (Free t s.request.lock.0) (Free u r.request.lock.0)
            b.freed.before d.freed.before other b.freed.mine d.freed.mine (sym is))
        longer (z ∷ y) is =
            let sum = ap length is in
            let parts =
            length-append y (Free t s.request.lock.0 ∷ b.freed.before) in
            omega (arith, sum, parts)
