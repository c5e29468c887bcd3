-- Facts in which two threads stand at one moment can be held at once.
use Rattle.std.proofs.Common.{◌≡◌, ℕ, ◌+◌, ◌<◌, Bool, true, false, not, ◌&&◌, ◌||◌, eqb, nat_lt, nat_le}
use Rattle.std.proofs.Common.{List, [], ◌∷◌, length, Option, None, Some, refl, ap, sym, ◌∙◌, subst}
use Rattle.std.proofs.Common.{⊎_elim, slice_get, arith}
use Rattle.std.specs.List.{list_any, AllByRecursion}
use Rattle.std.proofs.lemmas.Bool.{and_parts, and_from, or_cases, or_from, eqb-true, eq-eqb}
use Rattle.std.proofs.lemmas.Bool.{ltb-true, lt-ltb, leb-true, true≢false, false≢true, not_from_false}
use Rattle.std.proofs.lemmas.Bool.{false_from_ne_true}
use Rattle.wit_model.specs.Rules.State.{Start}
use Rattle.wit_model.specs.Rules.Verdict.{is_exclusive}
use Rattle.wit_model.specs.World.Deeds.{Logged, shares}
use Rattle.wit_model.specs.World.Stages.{is_over}
use Rattle.wit_model.proofs.World.Exclusion.{exclusive_alone}
use Rattle.wit_alarms.specs.declared.facts.ThreadNo.{ThreadNo}
use Rattle.wit_alarms.specs.declared.facts.Had.{Had}
use Rattle.wit_alarms.specs.declared.facts.Fact.{Fact}
use Rattle.wit_alarms.specs.declared.facts.Life.{Life}
use Rattle.wit_alarms.specs.declared.facts.Join.{Join}
use Rattle.wit_alarms.specs.declared.facts.Lives.{Lives}
use Rattle.wit_alarms.specs.Courses.{Event, Does, own_events, deeds, IsCourse, has_made, has_joined}
use Rattle.wit_alarms.specs.Courses.{is_joined, makes_any}
use Rattle.wit_alarms.specs.Lives.{is_thread, are_two, makings_of, made_since}
use Rattle.wit_alarms.specs.Lives.{descends_since, ends_before}
use Rattle.wit_alarms.specs.Lives.{is_apart_by_join, is_apart_by_making, is_at_first, is_apart}
use Rattle.wit_alarms.specs.Lives.{are_apart}
use Rattle.wit_alarms.specs.Facts.{excludes, locks_held, has_gate, can_meet, all_reasons, of_both}
use Rattle.wit_alarms.specs.Keeping.{Has}
use Rattle.wit_alarms.proofs.Among.{Among, contained, any-among}
use Rattle.wit_alarms.proofs.Made.{acts, own-acts, own-made, own-joined, has-joined, Happened}
use Rattle.wit_alarms.proofs.Made.{happened}
use Rattle.wit_alarms.proofs.Made.{joined-before, joined-idle, all-first, acts-first}
use Rattle.wit_alarms.proofs.Standing.{Stand, here, has-held, has-besides}

one-thread : (t u : ℕ) (a b : Option ThreadNo) → (t ≡ u → ⊥)
    → ((k : ℕ) → is_thread k a ≡ true → k ≡ t) → ((k : ℕ) → is_thread k b ≡ true → k ≡ u)
    → are_two a b ≡ true
one-thread t u None b other one two = refl
one-thread t u (Some a) b other one two =
    not_from_false (is_thread a.0 b) (false_from_ne_true (is_thread a.0 b)
    (λ is. other (sym (one a.0 (eq-eqb a.0 a.0 refl)) ∙ two a.0 is)))

module _ (start : Start) (files : List (List ℕ)) (first : ℕ) (lives : Lives) (facts : List Fact)
    (these : ℕ → Bool) (limited : List Event → Bool) (c : List Event)
    (course : IsCourse start files first lives c) where
  -- ---- no gate

  module _ (t u : ℕ) (other : u ≡ t → ⊥) where
    not-both : (a b : Had) → Has t (deeds c) a → Has u (deeds c) b → excludes a b ≡ true → ⊥
    not-both a b has had is =
        let parts =
        and_parts (eqb a.lock.0 b.lock.0) (is_exclusive a.mode || is_exclusive b.mode) is in
        let same = eqb-true a.lock.0 b.lock.0 parts.0 in
        let had-same : 0 < shares u a.lock.0 (deeds c) =
        subst (λ l. 0 < shares u l (deeds c)) (sym same) had.some in
        ⊎_elim
        (λ exclusive.
        true≢false (sym (has.alone exclusive)
        ∙ exclusive_alone start files (deeds c) t u a.lock.0 course.world other has.some
        had-same))
        (λ exclusive.
        true≢false (sym (had.alone exclusive)
        ∙ exclusive_alone start files (deeds c) u t b.lock.0 course.world (λ e. other (sym e))
        had.some (subst (λ l. 0 < shares t l (deeds c)) same has.some)))
        (or_cases (is_exclusive a.mode) (is_exclusive b.mode) parts.1)

    none-excludes : (a : Had) (bs : List Had) → Has t (deeds c) a
        → AllByRecursion (Has u (deeds c)) bs → list_any (excludes a) bs ≡ true → ⊥
    none-excludes a [] has all is = false≢true is
    none-excludes a (b ∷ bs) has all is =
        ⊎_elim (λ now. not-both a b has all.0 now) (λ later. none-excludes a bs has all.1 later)
        (or_cases (excludes a b) (list_any (excludes a) bs) is)

    no-gate : (xs bs : List Had) → AllByRecursion (Has t (deeds c)) xs
        → AllByRecursion (Has u (deeds c)) bs
        → list_any (λ a. list_any (excludes a) bs) xs ≡ true → ⊥
    no-gate [] bs has had is = false≢true is
    no-gate (x ∷ xs) bs has had is =
        ⊎_elim (λ now. none-excludes x bs has.0 had now)
        (λ later. no-gate xs bs has.1 had later)
        (or_cases (list_any (excludes x) bs) (list_any (λ a. list_any (excludes a) bs) xs) is)

  -- ---- not apart

  module _ (t i : ℕ) (s : Stand start first lives facts these limited c t i) where
    stands-acts : acts t c ≡ true
    stands-acts = own-acts t c (Does (Logged s.entry)) s.before s.whole

    -- who waits was not joined
    not-joined : is_joined t c ≡ true → ⊥
    not-joined is =
        false≢true (sym (ap is_over s.asks) ∙ joined-idle first c course.come t is)

    -- what it has made or joined, it had when it asked
    made-then : (u : ℕ) → has_made t u c ≡ has_made t u s.before
    made-then u = sym (own-made t u c) ∙ ap (λ o. has_made t u o) s.whole

    joined-then : (u : ℕ) → has_joined t u c ≡ has_joined t u s.before
    joined-then u = sym (own-joined t u c) ∙ ap (λ o. has_joined t u o) s.whole

    -- one of the makings that it descends from
    descends : (p : Life → Bool) → list_any p (makings_of lives s.said.fact.thread) ≡ true
        → Happened lives p c
    descends p is = go s.said.fact.thread s.said.thread is
      where
        go : (o : Option ThreadNo) → ((k : ℕ) → is_thread k o ≡ true → k ≡ t)
            → list_any p (makings_of lives o) ≡ true → Happened lives p c
        go None mine is = absurd (false≢true is)
        go (Some n) mine is =
            happened lives c course.known p (length lives.made.items) n.0
            (subst (λ k. acts k c ≡ true) (sym (mine n.0 (eq-eqb n.0 n.0 refl))) stands-acts) is

  module _ (t i u j : ℕ) (s : Stand start first lives facts these limited c t i)
      (r : Stand start first lives facts these limited c u j) (other : u ≡ t → ⊥) where
    joined-gone : (join : Join) → is_thread join.thread.0 s.said.fact.thread ≡ true
        → has_joined join.by.0 join.thread.0 c ≡ true → ⊥
    joined-gone join mine joined =
        not-joined t i s
        (subst (λ k. is_joined k c ≡ true) (s.said.thread join.thread.0 mine)
        (has-joined join.by.0 join.thread.0 c joined))

    -- the other's thread joined it before
    joined-itself : (join : Join) → Among lives.joined.items join
        → is_thread join.thread.0 s.said.fact.thread ≡ true
        → is_thread join.by.0 r.said.fact.thread ≡ true
        → nat_lt join.at r.said.fact.first ≡ true → ⊥
    joined-itself join among mine by before =
        let is = r.said.thread join.by.0 by in
        joined-gone join mine
        (subst (λ k. has_joined k join.thread.0 c ≡ true) (sym is)
        (joined-then u j r join.thread.0
        ∙ r.said.in_time.joined join (contained lives.joined.items join among) is
        (ltb-true join.at r.said.fact.first before)))

    no-join : is_apart_by_join lives s.said.fact r.said.fact ≡ true → ⊥
    no-join is =
        let one =
        any-among (ends_before lives s.said.fact r.said.fact) lives.joined.items is in
        let join = one.0 in
        let parts =
        and_parts (is_thread join.thread.0 s.said.fact.thread)
        ((is_thread join.by.0 r.said.fact.thread && nat_lt join.at r.said.fact.first)
        || descends_since lives r.said.fact.thread (Some join.by) (join.at + 1)) one.2 in
        ⊎_elim
        (λ itself.
        let both =
        and_parts (is_thread join.by.0 r.said.fact.thread) (nat_lt join.at r.said.fact.first)
        itself in
        joined-itself join one.1 parts.0 both.0 both.1)
        (λ above.
        let from = descends u j r (made_since (Some join.by) (join.at + 1)) above in
        let both =
        and_parts (eqb join.by.0 from.life.maker.0) (nat_le (join.at + 1) from.life.made_at)
        from.is in
        let late = leb-true (join.at + 1) from.life.made_at both.1 in
        joined-gone join parts.0
        (joined-before lives c course.known from.life join from.among one.1 from.made
        (eqb-true join.by.0 from.life.maker.0 both.0)
        (lt-ltb join.at from.life.made_at (omega (arith, late)))))
        (or_cases (is_thread join.by.0 r.said.fact.thread && nat_lt join.at r.said.fact.first)
        (descends_since lives r.said.fact.thread (Some join.by) (join.at + 1)) parts.1)

    no-making : is_apart_by_making lives s.said.fact r.said.fact ≡ true → ⊥
    no-making is =
        let from =
        descends u j r (made_since s.said.fact.thread s.said.fact.last) is in
        let both =
        and_parts (is_thread from.life.maker.0 s.said.fact.thread)
        (nat_le s.said.fact.last from.life.made_at) from.is in
        let maker = s.said.thread from.life.maker.0 both.0 in
        let unmade =
        s.said.in_time.unmade from.life (contained lives.made.items from.life from.among) maker
        (leb-true s.said.fact.last from.life.made_at both.1) in
        true≢false (sym from.made
        ∙ (ap (λ k. has_made k from.life.thread.0 c) maker
        ∙ (made-then t i s from.life.thread.0 ∙ unmade)))

    no-first : is_at_first s.said.fact ≡ true → ⊥
    no-first is =
        let at_first = s.said.in_time.at_first (eqb-true s.said.fact.last 0 is) in
        let none : list_any makes_any (own_events first c) ≡ false =
        ap (λ k. list_any makes_any (own_events k c)) (sym at_first.0)
        ∙ (ap (λ o. list_any makes_any o) s.whole ∙ at_first.1) in
        other (acts-first first u c (all-first first c course.come none) (stands-acts u j r)
        ∙ sym at_first.0)

    pub not-apart : is_apart lives s.said.fact r.said.fact ≡ true → ⊥
    not-apart is =
        ⊎_elim no-join
        (λ rest.
        ⊎_elim no-making no-first
        (or_cases (is_apart_by_making lives s.said.fact r.said.fact) (is_at_first s.said.fact)
        rest))
        (or_cases (is_apart_by_join lives s.said.fact r.said.fact)
        (is_apart_by_making lives s.said.fact r.said.fact || is_at_first s.said.fact) is)

  -- ---- so the facts can be held at once

  pub of-both : (p : Fact → Fact → Bool) (i j : ℕ) (f g : Fact) → slice_get facts i ≡ Some f
      → slice_get facts j ≡ Some g → p f g ≡ true → of_both p facts i j ≡ true
  of-both p i j f g one two is = rw (one, two) is

  pub meets : (t i u j : ℕ) (s : Stand start first lives facts these limited c t i)
      (r : Stand start first lives facts these limited c u j) → (u ≡ t → ⊥)
      → of_both (can_meet all_reasons lives) facts i j ≡ true
  meets t i u j s r other =
      let back : t ≡ u → ⊥ = λ e. other (sym e) in
      of-both (can_meet all_reasons lives) i j s.said.fact r.said.fact
      (here start first lives facts these limited c t i s)
      (here start first lives facts these limited c u j r)
      (and_from (are_two s.said.fact.thread r.said.fact.thread)
      (not (has_gate s.said.fact r.said.fact) && not (are_apart lives s.said.fact r.said.fact))
      (one-thread t u s.said.fact.thread r.said.fact.thread back s.said.thread r.said.thread)
      (and_from (not (has_gate s.said.fact r.said.fact))
      (not (are_apart lives s.said.fact r.said.fact))
      (not_from_false (has_gate s.said.fact r.said.fact)
      (false_from_ne_true (has_gate s.said.fact r.said.fact)
      (λ gate.
      no-gate t u other (locks_held s.said.fact) (locks_held r.said.fact) (
        has-held start first lives facts these limited c t i s,
        has-besides start first lives facts these limited c t i s,
      ) (
        has-held start first lives facts these limited c u j r,
        has-besides start first lives facts these limited c u j r,
      ) gate)))
      (not_from_false (are_apart lives s.said.fact r.said.fact)
      (or_from (is_apart lives s.said.fact r.said.fact) (is_apart lives r.said.fact s.said.fact)
      (false_from_ne_true (is_apart lives s.said.fact r.said.fact) (not-apart t i u j s r other))
      (false_from_ne_true (is_apart lives r.said.fact s.said.fact)
      (not-apart u j t i r s back))))))
