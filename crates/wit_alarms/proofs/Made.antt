-- Who made and joined whom in a course, as far as it is known.
use Rattle.std.proofs.Common.{◌≡◌, ℕ, zero, suc, Bool, true, false, not, ◌&&◌, ◌||◌, eqb, nat_lt}
use Rattle.std.proofs.Common.{List, [], ◌∷◌, Option, None, Some, refl, ap, sym, ◌∙◌, subst, inl, inr}
use Rattle.std.proofs.Common.{⊎_elim}
use Rattle.std.specs.List.{list_any, list_all}
use Rattle.std.proofs.lemmas.Bool.{and_parts, and_from, or_cases, or_left, or_right, or_parts}
use Rattle.std.proofs.lemmas.Bool.{cases_Bool, eqb-true, eq-eqb, not-true, true≢false, false≢true}
use Rattle.wit_model.specs.World.Deeds.{own}
use Rattle.wit_model.specs.World.Stages.{stage, is_over}
use Rattle.wit_alarms.specs.declared.facts.Life.{Life}
use Rattle.wit_alarms.specs.declared.facts.Join.{Join}
use Rattle.wit_alarms.specs.declared.facts.Lives.{Lives}
use Rattle.wit_alarms.specs.Courses.{Event, Does, Makes, Joins, actor, own_events, is_making}
use Rattle.wit_alarms.specs.Courses.{has_made, is_made, makes_any, is_joining, has_joined, is_joined}
use Rattle.wit_alarms.specs.Courses.{is_idle, is_free_to, may_come, all_may_come, was_made_so}
use Rattle.wit_alarms.specs.Courses.{had_joined, is_as_known, all_as_known, joins_thread}
use Rattle.wit_alarms.specs.Courses.{makes_thread}
use Rattle.wit_alarms.specs.Lives.{life_of, and_before, makings}
use Rattle.wit_alarms.proofs.Among.{Among, all-among, find-among}
use Rattle.wit_alarms.proofs.Events.{events-mine, events-other, other-deeds}

-- whether the thread does anything
abbrev pub acts : ℕ → List Event → Bool
acts t c = list_any (λ e. eqb (actor e) t) c

-- a condition that is met
met : (a b : Bool) → (not a || b) ≡ true → a ≡ true → b ≡ true
met true b is a = is
met false b is a = absurd (false≢true a)

-- ---- by its own events

own-any : (t : ℕ) (p : Event → Bool)
    → ((e : Event) → eqb (actor e) t ≡ false → p e ≡ false)
    → (c : List Event) → list_any p (own_events t c) ≡ list_any p c
own-any t p mine [] = refl
own-any t p mine (e ∷ c) =
    elim (cases_Bool (eqb (actor e) t)) [
      | inl is ↦ ap (λ o. list_any p o) (events-mine t e c is)
          ∙ ap (λ b. p e || b) (own-any t p mine c)
      | inr is ↦ ap (λ o. list_any p o) (events-other t e c is)
          ∙ (own-any t p mine c ∙ ap (λ b. b || list_any p c) (sym (mine e is)))
    ]

making-other : (t u : ℕ) (e : Event) → eqb (actor e) t ≡ false → is_making t u e ≡ false
making-other t u (Does d) is = refl
making-other t u (Makes m x) is = rw is refl
making-other t u (Joins b x) is = refl

joining-other : (t u : ℕ) (e : Event) → eqb (actor e) t ≡ false → is_joining t u e ≡ false
joining-other t u (Does d) is = refl
joining-other t u (Makes m x) is = refl
joining-other t u (Joins b x) is = rw is refl

pub own-made : (t u : ℕ) (c : List Event) → has_made t u (own_events t c) ≡ has_made t u c
own-made t u c = own-any t (is_making t u) (making-other t u) c

pub own-joined : (t u : ℕ) (c : List Event) → has_joined t u (own_events t c) ≡ has_joined t u c
own-joined t u c = own-any t (is_joining t u) (joining-other t u) c

-- ---- who makes a thread acts

making-acts : (m x : ℕ) (e : Event) → is_making m x e ≡ true → eqb (actor e) m ≡ true
making-acts m x (Does d) is = absurd (false≢true is)
making-acts m x (Makes t u) is = (and_parts (eqb t m) (eqb u x) is).0
making-acts m x (Joins b u) is = absurd (false≢true is)

any-any : {X : Type 0} (p q : X → Bool) → ((x : X) → p x ≡ true → q x ≡ true) → (xs : List X)
    → list_any p xs ≡ true → list_any q xs ≡ true
any-any p q f [] is = absurd (false≢true is)
any-any p q f (x ∷ xs) is =
    ⊎_elim (λ here. or_left (q x) (list_any q xs) (f x here))
    (λ there. or_right (q x) (list_any q xs) (any-any p q f xs there))
    (or_cases (p x) (list_any p xs) is)

pub made-acts : (m x : ℕ) (c : List Event) → has_made m x c ≡ true → acts m c ≡ true
made-acts m x c is = any-any (is_making m x) (λ e. eqb (actor e) m) (making-acts m x) c is

joining-joins : (t u : ℕ) (e : Event) → is_joining t u e ≡ true
    → joins_thread u e ≡ true
joining-joins t u (Does d) is = absurd (false≢true is)
joining-joins t u (Makes m x) is = absurd (false≢true is)
joining-joins t u (Joins b x) is = (and_parts (eqb b t) (eqb x u) is).1

pub has-joined : (t u : ℕ) (c : List Event) → has_joined t u c ≡ true → is_joined u c ≡ true
has-joined t u c is =
    any-any (is_joining t u) (joins_thread u) (joining-joins t u) c
    is

none-first : (x : Event) (own : List Event) → ◌≡◌ {A = List Event} [] (x ∷ own) → ⊥
none-first x own is = (cc)

pub own-acts : (t : ℕ) (c : List Event) (x : Event) (own : List Event)
    → own_events t c ≡ x ∷ own → acts t c ≡ true
own-acts t [] x own is = absurd (none-first x own is)
own-acts t (e ∷ c) x own is =
    elim (cases_Bool (eqb (actor e) t)) [
      | inl mine ↦ or_left (eqb (actor e) t) (acts t c) mine
      | inr other ↦
          or_right (eqb (actor e) t) (acts t c)
          (own-acts t c x own (sym (events-other t e c other) ∙ is))
    ]

-- ---- who acts was made, and so was its maker

module _ (lives : Lives) where
  pub acted-made : (c : List Event) → all_as_known lives c ≡ true → (t : ℕ) → acts t c ≡ true
      → (life : Life) → Among lives.made.items life → life.thread.0 ≡ t
      → has_made life.maker.0 life.thread.0 c ≡ true
  acted-made [] known t act life among is = absurd (false≢true act)
  acted-made (e ∷ c) known t act life among is =
      let parts = and_parts (is_as_known lives e c) (all_as_known lives c) known in
      ⊎_elim
      (λ now.
      let so =
      all-among (was_made_so e c) lives.made.items life
      (and_parts (list_all (was_made_so e c) lives.made.items) _ parts.0).0 among in
      or_right (is_making life.maker.0 life.thread.0 e)
      (has_made life.maker.0 life.thread.0 c)
      (met (eqb life.thread.0 (actor e)) (has_made life.maker.0 life.thread.0 c) so
      (eq-eqb life.thread.0 (actor e) (is ∙ sym (eqb-true (actor e) t now)))))
      (λ before.
      or_right (is_making life.maker.0 life.thread.0 e)
      (has_made life.maker.0 life.thread.0 c)
      (acted-made c parts.1 t before life among is))
      (or_cases (eqb (actor e) t) (acts t c) act)

  -- of these makings one has the property, and happened
  pub record Happened (p : Life → Bool) (c : List Event) : Type 0 where
    pub life : Life
    pub among : Among lives.made.items life
    pub is : p life ≡ true
    pub made : has_made life.maker.0 life.thread.0 c ≡ true

  module _ (c : List Event) (known : all_as_known lives c ≡ true) (p : Life → Bool) where
    pub happened : (n t : ℕ) → acts t c ≡ true → list_any p (makings lives.made.items n t) ≡ true
        → Happened p c
    happened zero t act any = absurd (false≢true any)
    happened (suc n) t act any =
        go (λ k acted one. happened n k acted one) (life_of lives.made.items t) refl any
      where
        go : ((k : ℕ) → acts k c ≡ true → list_any p (makings lives.made.items n k) ≡ true
            → Happened p c)
            → (o : Option Life) → life_of lives.made.items t ≡ o
            → list_any p (and_before (makings lives.made.items n) o) ≡ true → Happened p c
        go further None is any = absurd (false≢true any)
        go further (Some life) is any =
            let found = find-among (λ (x : Life). eqb x.thread.0 t) lives.made.items life is in
            let made =
            acted-made c known t act life found.0 (eqb-true life.thread.0 t found.1) in
            ⊎_elim
            (λ here. record { life = life; among = found.0; is = here; made = made })
            (λ there.
            further life.maker.0 (made-acts life.maker.0 life.thread.0 c made) there)
            (or_cases (p life) (list_any p (makings lives.made.items n life.maker.0)) any)

  -- a join that came before a making of the same thread has come where that has
  joined-now : (e : Event) (c : List Event) (life : Life) (join : Join)
      → is_making life.maker.0 life.thread.0 e ≡ true → had_joined e c life join ≡ true
      → join.by.0 ≡ life.maker.0 → nat_lt join.at life.made_at ≡ true
      → has_joined join.by.0 join.thread.0 c ≡ true
  joined-now (Does d) c life join making had by before = absurd (false≢true making)
  joined-now (Makes m x) c life join making had by before =
      let these = and_parts (eqb m life.maker.0) (eqb x life.thread.0) making in
      let maker = eqb-true m life.maker.0 these.0 in
      let thread = eqb-true x life.thread.0 these.1 in
      let first =
      met ((eqb life.maker.0 m) && (eqb life.thread.0 x))
      (not ((eqb join.by.0 m) && nat_lt join.at life.made_at) || has_joined m join.thread.0 c) had
      (and_from (eqb life.maker.0 m) (eqb life.thread.0 x) (eq-eqb life.maker.0 m (sym maker))
      (eq-eqb life.thread.0 x (sym thread))) in
      subst (λ k. has_joined k join.thread.0 c ≡ true) (maker ∙ sym by)
      (met ((eqb join.by.0 m) && nat_lt join.at life.made_at) (has_joined m join.thread.0 c) first
      (and_from (eqb join.by.0 m) (nat_lt join.at life.made_at)
      (eq-eqb join.by.0 m (by ∙ sym maker)) before))
  joined-now (Joins b x) c life join making had by before = absurd (false≢true making)

  pub joined-before : (c : List Event) → all_as_known lives c ≡ true → (life : Life) (join : Join)
      → Among lives.made.items life → Among lives.joined.items join
      → has_made life.maker.0 life.thread.0 c ≡ true → join.by.0 ≡ life.maker.0
      → nat_lt join.at life.made_at ≡ true → has_joined join.by.0 join.thread.0 c ≡ true
  joined-before [] known life join a b made by before = absurd (false≢true made)
  joined-before (e ∷ c) known life join a b made by before =
      let parts = and_parts (is_as_known lives e c) (all_as_known lives c) known in
      or_right (is_joining join.by.0 join.thread.0 e) (has_joined join.by.0 join.thread.0 c)
      (⊎_elim
      (λ now.
      let had =
      all-among (had_joined e c life) lives.joined.items join
      (all-among (λ (x : Life). list_all (had_joined e c x) lives.joined.items)
      lives.made.items life
      (and_parts (list_all (was_made_so e c) lives.made.items) _ parts.0).1 a) b in
      joined-now e c life join now had by before)
      (λ earlier. joined-before c parts.1 life join a b earlier by before)
      (or_cases (is_making life.maker.0 life.thread.0 e) (has_made life.maker.0 life.thread.0 c)
      made))

-- ---- who was joined is idle

pub come-parts : (first : ℕ) (e : Event) (c : List Event) → may_come first e c ≡ true
    → ((eqb (actor e) first || is_made (actor e) c) ≡ true) × (is_joined (actor e) c ≡ false)
    × (is_free_to e c ≡ true)
come-parts first e c may =
    let one =
    and_parts (eqb (actor e) first || is_made (actor e) c)
    (not (is_joined (actor e) c) && is_free_to e c) may in
    let two = and_parts (not (is_joined (actor e) c)) (is_free_to e c) one.1 in
    (one.0, not-true (is_joined (actor e) c) two.0, two.1)

idle-kept : (t : ℕ) (e : Event) (c : List Event) → eqb (actor e) t ≡ false
    → is_idle t c ≡ true → is_idle t (e ∷ c) ≡ true
idle-kept t e c other idle =
    ap (λ o. is_over (stage t o)) (other-deeds t e c other) ∙ idle

joined-here : (t : ℕ) (e : Event) (c : List Event)
    → joins_thread t e ≡ true → is_free_to e c ≡ true
    → is_idle t (e ∷ c) ≡ true
joined-here t (Does d) c is free = absurd (false≢true is)
joined-here t (Makes m x) c is free = absurd (false≢true is)
joined-here t (Joins b x) c is free =
    subst (λ k. is_idle k c ≡ true) (eqb-true x t is) (and_parts (is_idle b c) (is_idle x c) free).1

pub joined-idle : (first : ℕ) (c : List Event) → all_may_come first c ≡ true → (t : ℕ)
    → is_joined t c ≡ true → is_idle t c ≡ true
joined-idle first [] come t is = absurd (false≢true is)
joined-idle first (e ∷ c) come t is =
    let parts = and_parts (may_come first e c) (all_may_come first c) come in
    let may = come-parts first e c parts.0 in
    ⊎_elim
    (λ now. joined-here t e c now may.2)
    (λ before.
    elim (cases_Bool (eqb (actor e) t)) [
      | inl mine ↦
          let gone = may.1 in
          absurd (true≢false (sym (subst (λ k. is_joined k c ≡ true)
          (sym (eqb-true (actor e) t mine)) before) ∙ gone))
      | inr other ↦ idle-kept t e c other (joined-idle first c parts.1 t before)
    ])
    (or_cases (joins_thread t e) (is_joined t c) is)

-- ---- where the first thread has made none there is no other

made-any : (e : Event) (u : ℕ) → makes_thread u e ≡ true
    → makes_any e ≡ true
made-any (Does d) u is = absurd (false≢true is)
made-any (Makes m x) u is = refl
made-any (Joins b x) u is = absurd (false≢true is)

-- each of these events is the first thread's
abbrev AllBy : ℕ → List Event → Type 0
AllBy first c = list_all (λ e. eqb (actor e) first) c ≡ true

all-own : (first : ℕ) (c : List Event) → AllBy first c → own_events first c ≡ c
all-own first [] all = refl
all-own first (e ∷ c) all =
    let parts = and_parts (eqb (actor e) first) _ all in
    events-mine first e c parts.0 ∙ ap (λ o. e ∷ o) (all-own first c parts.1)

none-before : (first : ℕ) (e : Event) (c : List Event)
    → list_any makes_any (own_events first (e ∷ c)) ≡ false
    → list_any makes_any (own_events first c) ≡ false
none-before first e c none =
    elim (cases_Bool (eqb (actor e) first)) [
      | inl is ↦ (or_parts (makes_any e) (list_any makes_any (own_events first c))
          (ap (λ o. list_any makes_any o) (sym (events-mine first e c is)) ∙ none)).1
      | inr is ↦ ap (λ o. list_any makes_any o) (sym (events-other first e c is)) ∙ none
    ]

pub all-first : (first : ℕ) (c : List Event) → all_may_come first c ≡ true
    → list_any makes_any (own_events first c) ≡ false → AllBy first c
all-first first [] come none = refl
all-first first (e ∷ c) come none =
    let parts = and_parts (may_come first e c) (all_may_come first c) come in
    let earlier = none-before first e c none in
    let before = all-first first c parts.1 earlier in
    and_from (eqb (actor e) first) (list_all (λ x. eqb (actor x) first) c)
    (⊎_elim (λ is. is)
    (λ made.
    absurd (true≢false (sym (ap (λ o. list_any makes_any o) (all-own first c before)
    ∙ any-any (makes_thread (actor e)) makes_any
    (λ x. made-any x (actor e)) c made) ∙ earlier)))
    (or_cases (eqb (actor e) first) (is_made (actor e) c) (come-parts first e c parts.0).0))
    before

pub acts-first : (first u : ℕ) (c : List Event) → AllBy first c → acts u c ≡ true → u ≡ first
acts-first first u [] all act = absurd (false≢true act)
acts-first first u (e ∷ c) all act =
    let parts = and_parts (eqb (actor e) first) _ all in
    ⊎_elim
    (λ now. sym (eqb-true (actor e) u now) ∙ eqb-true (actor e) first parts.0)
    (λ before. acts-first first u c parts.1 before)
    (or_cases (eqb (actor e) u) (acts u c) act)
