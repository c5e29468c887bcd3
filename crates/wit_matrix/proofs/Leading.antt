-- The way from a type to one that it is before arrives there.
use Rattle.std.proofs.Common.{◌≡◌, ◌⊎◌, ℕ, suc, zero, ◌+◌, ◌<◌, ◌≤◌, Bool, true, false, ◌||◌, cond}
use Rattle.std.proofs.Common.{eqb, List, [], ◌∷◌, find, length, Some, refl, ap, sym, ◌∙◌, subst}
use Rattle.std.proofs.Common.{inl, inr, ⊎_elim, arith}
use Rattle.std.specs.List.{range_with_len}
use Rattle.std.proofs.lemmas.Bool.{or_cases, or_left, or_right, and_parts, and_from, eqb-true}
use Rattle.std.proofs.lemmas.Bool.{eq-eqb, ne_eqb, false≢true}
use Rattle.std.proofs.lemmas.List.FromFn.{length-range_with_len}
use Rattle.wit_model.specs.declared.calls.Adoption.{Adoption}
use Rattle.wit_model.specs.Rules.Orders.{is_direct, IsPath, Before, is_before, IsSound}
use Rattle.wit_model.specs.Rules.Numbers.{IsNumber}
use Rattle.wit_model.specs.Trace.Paths.{leads, next_type, way}
use Rattle.wit_model.proofs.Orders.Paths.{before_from_test, test_from_before, direct-before}
use Rattle.wit_model.proofs.Orders.Paths.{is_before-trans}
use Rattle.wit_matrix.specs.Relation.{OrdersAmong, LeadsBy}
use Rattle.wit_matrix.proofs.Pairs.{among, range_to}

-- how many of these pass
tally : (ℕ → Bool) → List ℕ → ℕ
tally test [] = 0
tally test (x ∷ xs) = cond (test x) 1 0 + tally test xs

one_le : (p q : Bool) → (p ≡ true → q ≡ true) → cond p 1 0 ≤ cond q 1 0
one_le true q more = let e = more refl in rw e (omega arith)
one_le false q more = omega arith

tally_le : (p q : ℕ → Bool) → ((x : ℕ) → p x ≡ true → q x ≡ true) → (xs : List ℕ)
    → tally p xs ≤ tally q xs
unfolding tally
tally_le p q more [] = omega arith
tally_le p q more (x ∷ xs) =
    let here = one_le (p x) (q x) (more x) in
    let rest = tally_le p q more xs in
    omega (arith, here, rest)

none_for : (t : Bool) → t ≡ false → ◌≡◌ {A = ℕ} (cond t 1 0) 0
none_for true fails = (cc)
none_for false fails = refl

one_for : (t : Bool) → t ≡ true → ◌≡◌ {A = ℕ} (cond t 1 0) 1
one_for true holds = refl
one_for false holds = (cc)

-- one that passes the second test alone makes the difference
tally_lt : (p q : ℕ → Bool) → ((x : ℕ) → p x ≡ true → q x ≡ true) → (c : ℕ) → p c ≡ false
    → q c ≡ true → (xs : List ℕ) → among c xs ≡ true → tally p xs < tally q xs
unfolding tally
tally_lt p q more c fails holds [] is = absurd (false≢true is)
tally_lt p q more c fails holds (x ∷ xs) is =
    ⊎_elim
    (λ here. let e = eqb-true x c here in
    let none = none_for (p x) (subst (λ k. p k ≡ false) (sym e) fails) in
    let one = one_for (q x) (subst (λ k. q k ≡ true) (sym e) holds) in
    let rest = tally_le p q more xs in
    omega (arith, none, one, rest))
    (λ later. let here = one_le (p x) (q x) (more x) in
    let rest = tally_lt p q more c fails holds xs later in
    omega (arith, here, rest))
    (or_cases (eqb x c) (among c xs) is)

tally_all : (xs : List ℕ) → tally (λ _. true) xs ≡ length xs
unfolding tally
tally_all [] = refl
tally_all (x ∷ xs) = let rest = tally_all xs in omega (arith, rest)

pub found_with : (test : ℕ → Bool) (c : ℕ) (xs : List ℕ) → among c xs ≡ true → test c ≡ true
    → (k : ℕ) × ((find test xs ≡ Some k) × (test k ≡ true))
found_with test c [] is passes = absurd (false≢true is)
found_with test c (x ∷ xs) is passes =
    step (test x) refl (λ later. found_with test c xs later passes)
    (or_cases (eqb x c) (among c xs) is)
  where
    step : (t : Bool) → test x ≡ t
        → (among c xs ≡ true → (k : ℕ) × ((find test xs ≡ Some k) × (test k ≡ true)))
        → (eqb x c ≡ true) ⊎ (among c xs ≡ true)
        → (k : ℕ) × ((cond t (Some x) (find test xs) ≡ Some k) × (test k ≡ true))
    step true holds rest which = (x, (refl, holds))
    step false fails rest (inl here) =
        absurd (false≢true (sym fails ∙ subst (λ k. test k ≡ true)
        (sym (eqb-true x c here)) passes))
    step false fails rest (inr later) = rest later

-- a direct child leads on, where there is a path
child_leads : (os : List Adoption) (a b : ℕ) (p : Before os a b) → (c : ℕ) × (leads os a b c ≡ true)
child_leads os a b p = go p.0 p.1
  where
    go : (between : List ℕ) → IsPath os a between b → (c : ℕ) × (leads os a b c ≡ true)
    go [] is = (
      b,
      and_from (is_direct os a b) (eqb b b || is_before os b b) is
          (or_left (eqb b b) (is_before os b b) (eq-eqb b b refl)),
    )
    go (v ∷ between) is = (
      v,
      and_from (is_direct os a v) (eqb v b || is_before os v b) is.0
          (or_right (eqb v b) (is_before os v b) (test_from_before os v b (between, is.1))),
    )

-- how many types a type is before
pub below : List Adoption → ℕ → ℕ → ℕ
below os n a = tally (is_before os a) (range_with_len 1 n)

in_range : (n c : ℕ) → IsNumber n c → among c (range_with_len 1 n) ≡ true
in_range n c is = range_to 1 n c is.0 (omega (arith, is.1))

not_itself : (os : List Adoption) → IsSound os → (a : ℕ) → is_before os a a ≡ false
not_itself os sound a = go (is_before os a a) refl
  where
    go : (t : Bool) → is_before os a a ≡ t → t ≡ false
    go true is = absurd (sound a (before_from_test os a a is))
    go false is = refl

pub below_child : (os : List Adoption) (n a c : ℕ) → IsSound os → IsNumber n c
    → is_direct os a c ≡ true → below os n c < below os n a
unfolding below
below_child os n a c sound ct direct =
    let before : is_before os a c ≡ true = test_from_before os a c (direct-before os a c direct) in
    tally_lt (is_before os c) (is_before os a) (λ x is. is_before-trans os a c x before is) c
    (not_itself os sound c) before (range_with_len 1 n) (in_range n c ct)

pub below_all : (os : List Adoption) (n a : ℕ) → IsSound os → IsNumber n a → below os n a < n
unfolding below
below_all os n a sound at =
    let less =
    tally_lt (is_before os a) (λ _. true) (λ x is. refl) a (not_itself os sound a) refl
    (range_with_len 1 n) (in_range n a at) in
    omega (arith, less, tally_all (range_with_len 1 n), length-range_with_len 1 n)

pub way_arrives : (os : List Adoption) (n most b : ℕ) → eqb b b ≡ true → 0 < most
    → way os n most b b ≡ b ∷ []
way_arrives os n zero b same some = absurd (omega arith)
way_arrives os n (suc most) b same some = rw same refl

pub way_goes : (os : List Adoption) (n most a b c : ℕ) → eqb a b ≡ false
    → next_type os n a b ≡ Some c → way os n (suc most) a b ≡ a ∷ way os n most c b
way_goes os n most a b c apart next = rw (apart, next) refl

-- a step that arrives, and a step that goes on
last_step : (os : List Adoption) (n most a b c : ℕ) → eqb a b ≡ false → next_type os n a b ≡ Some c
    → is_direct os a c ≡ true → 0 < most → c ≡ b
    → LeadsBy os a b (way os n (suc most) a b)
last_step os n most a b c apart next direct some e =
    let arrives : way os n most c b ≡ b ∷ [] =
    subst (λ x. way os n most x b ≡ b ∷ []) (sym e)
    (way_arrives os n most b (eq-eqb b b refl) some) in (
      [],
      (
        way_goes os n most a b c apart next ∙ ap (λ w. a ∷ w) arrives,
        subst (λ x. is_direct os a x ≡ true) e direct,
      ),
    )

step_on : (os : List Adoption) (n most a b c : ℕ) → eqb a b ≡ false → next_type os n a b ≡ Some c
    → is_direct os a c ≡ true → LeadsBy os c b (way os n most c b)
    → LeadsBy os a b (way os n (suc most) a b)
step_on os n most a b c apart next direct rest = (
  c ∷ rest.0,
  (
    way_goes os n most a b c apart next ∙ ap (λ w. a ∷ w) rest.1.0,
    (direct, rest.1.1),
  ),
)

-- where a path leads on, the least child is there, and leads there
pub next_there : (os : List Adoption) (n : ℕ) → OrdersAmong n os → (a b : ℕ)
    → is_before os a b ≡ true → (c : ℕ) × ((next_type os n a b ≡ Some c) × (leads os a b c ≡ true))
next_there os n within a b is =
    let some = child_leads os a b (before_from_test os a b is) in
    found_with (leads os a b) some.0 (range_with_len 1 n)
    (in_range n some.0 (within a some.0
    (and_parts (is_direct os a some.0) (eqb some.0 b || is_before os some.0 b) some.1).0).1)
    some.1

pub differ : (os : List Adoption) → IsSound os → (a b : ℕ) → is_before os a b ≡ true
    → eqb a b ≡ false
differ os sound a b is =
    ne_eqb a b (λ e. false≢true (sym (not_itself os sound a)
    ∙ subst (λ x. is_before os a x ≡ true) (sym e) is))

pub way_leads : (os : List Adoption) (n : ℕ) → OrdersAmong n os → IsSound os → (most a b : ℕ)
    → is_before os a b ≡ true → below os n a < most → LeadsBy os a b (way os n most a b)
way_leads os n within sound zero a b is lt = absurd (omega arith)
way_leads os n within sound (suc most) a b is lt =
    by_child (next_there os n within a b is)
    (λ c before fewer. way_leads os n within sound most c b before fewer)
  where
    by_child : (c : ℕ) × ((next_type os n a b ≡ Some c) × (leads os a b c ≡ true))
        → ((c : ℕ) → is_before os c b ≡ true → below os n c < most
        → LeadsBy os c b (way os n most c b))
        → LeadsBy os a b (way os n (suc most) a b)
    by_child next rest =
        let parts =
        and_parts (is_direct os a next.0) (eqb next.0 b || is_before os next.0 b) next.1.1 in
        let fewer : below os n next.0 < below os n a =
        below_child os n a next.0 sound (within a next.0 parts.0).1 parts.0 in
        ⊎_elim
        (λ here. last_step os n most a b next.0 (differ os sound a b is) next.1.0 parts.0
        (omega (arith, fewer, lt)) (eqb-true next.0 b here))
        (λ before. step_on os n most a b next.0 (differ os sound a b is) next.1.0 parts.0
        (rest next.0 before (omega (arith, fewer, lt))))
        (or_cases (eqb next.0 b) (is_before os next.0 b) parts.1)

-- so the path of n steps at most is one from a to b
pub path_leads : (os : List Adoption) (n a b : ℕ) → OrdersAmong n os → IsSound os → IsNumber n a
    → is_before os a b ≡ true → LeadsBy os a b (way os n n a b)
path_leads os n a b within sound at is =
    way_leads os n within sound n a b is (below_all os n a sound at)
