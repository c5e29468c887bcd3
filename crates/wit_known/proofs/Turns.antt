-- Where, of two neighbours in a list of numbers, the second is before the first once the neighbours
-- before them are adopted, a later entry is an earlier one or before it; and the other way round.
use Rattle.std.proofs.Common.{◌≡◌, ℕ, Bool, true, false, ◌&&◌, ◌||◌, cond, eqb, List, [], ◌∷◌, refl}
use Rattle.std.proofs.Common.{ap, ap₂, sym, ◌∙◌, subst, ⊎_elim}
use Rattle.std.specs.List.{list_any}
use Rattle.std.proofs.lemmas.Bool.{and_parts, or_parts, or_cases, eqb-true, eq-eqb, false≢true}
use Rattle.wit_model.specs.declared.locks.Origin.TheVariants.{Listed}
use Rattle.wit_model.specs.declared.calls.Adoption.{Adoption}
use Rattle.wit_model.specs.Rules.Orders.{is_direct, is_before, adopted_once}
use Rattle.wit_model.proofs.Orders.Paths.{direct-before, test_from_before, is_before-trans}

-- b is a or before it
unfoldable pub back : List Adoption → ℕ → ℕ → Bool
back orders a b = eqb a b || is_before orders b a

abbrev pub backs : List Adoption → List ℕ → Bool
backs orders [] = false
backs orders (a ∷ ns) = list_any (back orders a) ns || backs orders ns

abbrev pub turns : List Adoption → List ℕ → Bool
turns orders [] = false
turns orders (a ∷ []) = false
turns orders (a ∷ b ∷ ns) = is_before orders b a || turns (adopted_once a b Listed orders) (b ∷ ns)

abbrev pub twins : List ℕ → Bool
twins [] = false
twins (a ∷ []) = false
twins (a ∷ b ∷ ns) = eqb a b || twins (b ∷ ns)

-- who is before whom once an order is adopted, also one that is direct
unfoldable pub joins : List Adoption → ℕ → ℕ → ℕ → ℕ → Bool
joins orders p c x y = (eqb p x || is_before orders x p) && (eqb c y || is_before orders c y)

absorbed : (b j : Bool) → (j ≡ true → b ≡ true) → b ≡ (b || j)
absorbed true j e = refl
absorbed false true e = absurd (false≢true (e refl))
absorbed false false e = refl

joined-before : (orders : List Adoption) (p c x y : ℕ) → is_direct orders p c ≡ true
    → joins orders p c x y ≡ true → is_before orders x y ≡ true
unfolding joins
joined-before orders p c x y direct is =
    let parts = and_parts (eqb p x || is_before orders x p) (eqb c y || is_before orders c y) is in
    let here = test_from_before orders p c (direct-before orders p c direct) in
    let from : is_before orders x c ≡ true = ⊎_elim
    (λ e. subst (λ z. is_before orders z c ≡ true) (eqb-true p x e) here)
    (λ q. is_before-trans orders x p c q here)
    (or_cases (eqb p x) (is_before orders x p) parts.0) in
    ⊎_elim
    (λ e. subst (λ z. is_before orders x z ≡ true) (eqb-true c y e) from)
    (λ q. is_before-trans orders x c y from q)
    (or_cases (eqb c y) (is_before orders c y) parts.1)

pub before-once : (orders : List Adoption) (p c x y : ℕ)
    → is_before (adopted_once p c Listed orders) x y
    ≡ (is_before orders x y || joins orders p c x y)
unfolding joins
before-once orders p c x y = go (is_direct orders p c) refl
  where
    go : (b : Bool) → is_direct orders p c ≡ b
        → is_before (cond b orders (record {
          parent = record { 0 = p };
          child = record { 0 = c };
          origin = Listed;
        } ∷ orders)) x y ≡ (is_before orders x y || joins orders p c x y)
    go true direct =
        absorbed (is_before orders x y) (joins orders p c x y) (joined-before orders p c x y direct)
    go false new = refl

swapped : (a b c d : Bool) → ((a || b) || (c || d)) ≡ ((a || c) || (b || d))
swapped true b c d = refl
swapped false true true d = refl
swapped false true false d = refl
swapped false false true d = refl
swapped false false false d = refl

any-or : (f g : ℕ → Bool) (ns : List ℕ) → list_any (λ n. f n || g n) ns
    ≡ (list_any f ns || list_any g ns)
any-or f g [] = refl
any-or f g (n ∷ ns) =
    ap (λ b. (f n || g n) || b) (any-or f g ns) ∙ swapped (f n) (g n) (list_any f ns)
    (list_any g ns)

any-same : (f g : ℕ → Bool) (ns : List ℕ) → ((n : ℕ) → f n ≡ g n) → list_any f ns ≡ list_any g ns
any-same f g [] same = refl
any-same f g (n ∷ ns) same = ap₂ (λ a b. a || b) (same n) (any-same f g ns same)

any-but : (f g h : ℕ → Bool) (ns : List ℕ) → ((n : ℕ) → h n ≡ false → f n ≡ g n)
    → list_any h ns ≡ false → list_any f ns ≡ list_any g ns
any-but f g h [] same none = refl
any-but f g h (n ∷ ns) same none =
    let parts =
    or_parts (h n) (list_any h ns) none in
    ap₂ (λ a b. a || b) (same n parts.0) (any-but f g h ns same parts.1)

grouped : (e p j : Bool) → (e || (p || (j && true))) ≡ ((e || p) || j)
grouped true p j = refl
grouped false true j = refl
grouped false false true = refl
grouped false false false = refl

ungrouped : (e p j k : Bool) → j ≡ false → (e || (p || (j && k))) ≡ (e || p)
ungrouped e p j k none = rw none (plain e p)
  where
    plain : (a b : Bool) → (a || (b || false)) ≡ (a || b)
    plain true b = refl
    plain false true = refl
    plain false false = refl

-- once a is put before b, what is back of b is what was back of either
back-child : (orders : List Adoption) (a b x : ℕ)
    → back (adopted_once a b Listed orders) b x ≡ (back orders b x || back orders a x)
unfolding back joins
back-child orders a b x =
    ap (λ z. eqb b x || z) (before-once orders a b x b)
    ∙ (ap (λ z. eqb b x || (is_before orders x b
    || ((eqb a x || is_before orders x a) && (z || is_before orders b b)))) (eq-eqb b b refl)
    ∙ grouped (eqb b x) (is_before orders x b) (eqb a x || is_before orders x a))

-- of a type that isn't back of a, the same is back
back-other : (orders : List Adoption) (a b x y : ℕ) → back orders a y ≡ false
    → back (adopted_once a b Listed orders) x y ≡ back orders x y
unfolding back joins
back-other orders a b x y none =
    ap (λ z. eqb x y || z) (before-once orders a b y x)
    ∙ ungrouped (eqb x y) (is_before orders y x) (eqb a y || is_before orders y a)
    (eqb b x || is_before orders b x) none

backs-same : (orders : List Adoption) (a b : ℕ) (ns : List ℕ) → list_any (back orders a) ns ≡ false
    → backs (adopted_once a b Listed orders) ns ≡ backs orders ns
backs-same orders a b [] none = refl
backs-same orders a b (x ∷ ns) none =
    let parts = or_parts (back orders a x) (list_any (back orders a) ns) none in
    ap₂ (λ m n. m || n) (any-but _ _ (back orders a) ns
    (λ y free. back-other orders a b x y free) parts.1) (backs-same orders a b ns parts.1)

closed : (p a b r s : Bool) → (a ≡ false → s ≡ r) → ((p || a) || (b || r)) ≡ (p || ((b || a) || s))
closed true a b r s e = refl
closed false true true r s e = refl
closed false true false r s e = refl
closed false false true r s e = refl
closed false false false r s e = sym (e refl)

backs-step : (orders : List Adoption) (a b : ℕ) (ns : List ℕ) → eqb a b ≡ false
    → backs orders (a ∷ b ∷ ns) ≡ (is_before orders b a
    || backs (adopted_once a b Listed orders) (b ∷ ns))
unfolding back
backs-step orders a b ns apart =
    ap (λ z. ((z || is_before orders b a) || list_any (back orders a) ns)
    || (list_any (back orders b) ns || backs orders ns)) apart
    ∙ (closed (is_before orders b a) (list_any (back orders a) ns) (list_any (back orders b) ns)
    (backs orders ns) (backs (adopted_once a b Listed orders) ns)
    (λ none. backs-same orders a b ns none)
    ∙ ap (λ z. is_before orders b a || (z || backs (adopted_once a b Listed orders) ns))
    (sym (any-same _ _ ns (back-child orders a b) ∙ any-or (back orders b) (back orders a) ns)))

pub turns-back : (orders : List Adoption) (ns : List ℕ) → twins ns ≡ false
    → turns orders ns ≡ backs orders ns
turns-back orders [] apart = refl
turns-back orders (a ∷ []) apart = refl
turns-back orders (a ∷ b ∷ ns) apart =
    let parts = or_parts (eqb a b) (twins (b ∷ ns)) apart in
    ap (λ z. is_before orders b a || z)
    (turns-back (adopted_once a b Listed orders) (b ∷ ns) parts.1)
    ∙ sym (backs-step orders a b ns parts.0)
