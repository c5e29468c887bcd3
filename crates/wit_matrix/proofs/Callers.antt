-- For a caller that keeps lists of its own: where they hold the same orders and pairs as a matrix,
-- they do so after each change, and tell the same paths.
use Rattle.std.proofs.Common.{◌≡◌, ℕ, suc, zero, ◌+◌, ◌-◌, ◌<◌, ◌≤◌, Bool, true, false, ◌&&◌, ◌||◌}
use Rattle.std.proofs.Common.{cond, eqb, List, [], ◌∷◌, find, Some, None, refl, ap, ap₂, sym, ◌∙◌}
use Rattle.std.proofs.Common.{subst, ⊎_elim, arith}
use Rattle.std.specs.List.{range_with_len}
use Rattle.std.proofs.lemmas.Bool.{or_cases, and_parts, eqb-true, eq-eqb, cases_lt}
use Rattle.wit_model.specs.declared.locks.Origin.TheVariants.{Listed}
use Rattle.wit_model.specs.declared.calls.Adoption.{Adoption}
use Rattle.wit_model.specs.Rules.Orders.{is_adoption_of, is_direct, is_before, IsSound}
use Rattle.wit_model.specs.Rules.Orders.{adopted_once}
use Rattle.wit_model.specs.Rules.Numbers.{IsNumber}
use Rattle.wit_model.specs.Trace.Paths.{leads, next_type, way, path}
use Rattle.wit_matrix.specs.Relation.{HasSameOrders, OrdersAmong}
use Rattle.wit_matrix.proofs.Settled.{same_before}
use Rattle.wit_matrix.proofs.Edits.{adopted_again}
use Rattle.wit_matrix.proofs.Leading.{below, below_all, below_child, way_arrives, way_goes}
use Rattle.wit_matrix.proofs.Leading.{next_there, differ}
use Rattle.wit_matrix.proofs.Ways.{find_none}

-- an order more, where `new` are the matrix's orders after it and `ms` those before
pub adopted_by : (ms ps new : List Adoption) (o : Adoption) → HasSameOrders ms ps
    → HasSameOrders new (adopted_once o.parent.0 o.child.0 Listed ms) → HasSameOrders new (o ∷ ps)
adopted_by ms ps new o same now a b =
    now a b ∙ (sym (adopted_again o.parent.0 o.child.0 ms a b)
    ∙ ap (λ t. is_adoption_of a b o || t) (same a b))

find_same : (p q : ℕ → Bool) → ((x : ℕ) → p x ≡ q x) → (xs : List ℕ) → find p xs ≡ find q xs
find_same p q same [] = refl
find_same p q same (x ∷ xs) = ap₂ (λ t r. cond t (Some x) r) (same x) (find_same p q same xs)

-- numbers more, of which none passes
find_more : (test : ℕ → Bool) (s n more : ℕ) → ((t : ℕ) → s + n ≤ t → test t ≡ false)
    → find test (range_with_len s (n + more)) ≡ find test (range_with_len s n)
find_more test s zero more none =
    let same : zero + more ≡ more = omega arith in
    ap (λ k. find test (range_with_len s k)) same
    ∙ sym (find_none test s more (λ t le lt. none t (omega arith)))
find_more test s (suc n) more none =
    let same : suc n + more ≡ suc (n + more) = omega arith in
    ap (λ k. find test (range_with_len s k)) same
    ∙ ap (λ r. cond (test s) (Some s) r)
    (find_more test (s + 1) n more (λ t le. none t (omega arith)))

leads_same : (os ps : List Adoption) → HasSameOrders os ps → (a b c : ℕ)
    → leads os a b c ≡ leads ps a b c
leads_same os ps same a b c =
    ap₂ (λ d t. d && (eqb c b || t)) (same a c) (same_before os ps same c b)

leads_not : (os : List Adoption) (n a b c : ℕ) → OrdersAmong n os → n < c → leads os a b c ≡ false
leads_not os n a b c among lt = go (is_direct os a c) refl
  where
    go : (t : Bool) → is_direct os a c ≡ t
        → (is_direct os a c && (eqb c b || is_before os c b)) ≡ false
    go true is = absurd (let w = (among a c is).1.1 in omega (arith, w, lt))
    go false isnt = rw isnt refl

-- what is said of some types holds among more
pub next_more : (os ps : List Adoption) (n m a b : ℕ) → HasSameOrders os ps → OrdersAmong n os
    → n ≤ m → next_type os n a b ≡ next_type ps m a b
next_more os ps n m a b same among le =
    let up : n + (m - n) ≡ m = omega arith in
    sym (find_more (leads os a b) 1 n (m - n)
    (λ t lt. leads_not os n a b t among (omega (arith, lt))))
    ∙ (ap (λ k. find (leads os a b) (range_with_len 1 k)) up
    ∙ find_same (leads os a b) (leads ps a b) (leads_same os ps same a b) (range_with_len 1 m))

same_ways : (os ps : List Adoption) (n m : ℕ) → HasSameOrders os ps → OrdersAmong n os
    → IsSound os → n ≤ m
    → (k l a b : ℕ) → is_before os a b ≡ true → below os n a < k → below os n a < l
    → way os n k a b ≡ way ps m l a b
same_ways os ps n m same among sound le zero l a b is lt more = absurd (omega arith)
same_ways os ps n m same among sound le (suc k) zero a b is lt more = absurd (omega arith)
same_ways os ps n m same among sound le (suc k) (suc l) a b is lt more =
    by_child (next_there os n among a b is)
    (λ c before fewer less. same_ways os ps n m same among sound le k l c b before fewer less)
  where
    by_child : (c : ℕ) × ((next_type os n a b ≡ Some c) × (leads os a b c ≡ true))
        → ((c : ℕ) → is_before os c b ≡ true → below os n c < k → below os n c < l
        → way os n k c b ≡ way ps m l c b)
        → way os n (suc k) a b ≡ way ps m (suc l) a b
    by_child next rest =
        let parts =
        and_parts (is_direct os a next.0) (eqb next.0 b || is_before os next.0 b) next.1.1 in
        let fewer : below os n next.0 < below os n a =
        below_child os n a next.0 sound (among a next.0 parts.0).1 parts.0 in
        let apart = differ os sound a b is in
        way_goes os n k a b next.0 apart next.1.0
        ∙ (ap (λ w. a ∷ w)
        (⊎_elim
        (λ here. let e = eqb-true next.0 b here in
        subst (λ x. way os n k x b ≡ way ps m l x b) (sym e)
        (way_arrives os n k b (eq-eqb b b refl) (omega (arith, fewer, lt))
        ∙ sym (way_arrives ps m l b (eq-eqb b b refl) (omega (arith, fewer, more)))))
        (λ before. rest next.0 before (omega (arith, fewer, lt)) (omega (arith, fewer, more)))
        (or_cases (eqb next.0 b) (is_before os next.0 b) parts.1))
        ∙ sym (way_goes ps m l a b next.0 apart
        (sym (next_more os ps n m a b same among le) ∙ next.1.0)))

-- lists with the same orders tell the same path, among the types that have orders or more
path_up : (os ps : List Adoption) (n m a b : ℕ) → HasSameOrders os ps → OrdersAmong n os
    → IsSound os → IsNumber n a → n ≤ m → path os n a b ≡ path ps m a b
path_up os ps n m a b same among sound at le = go (is_before os a b) refl
  where
    go : (t : Bool) → is_before os a b ≡ t → cond (is_before os a b) (Some (way os n n a b)) None
        ≡ cond (is_before ps a b) (Some (way ps m m a b)) None
    go true is =
        let few = below_all os n a sound at in
        ap₂ (λ t w. cond t (Some w) None) (same_before os ps same a b)
        (same_ways os ps n m same among sound le n m a b is few (omega (arith, few)))
    go false isnt = let other : is_before ps a b ≡ false =
        sym (same_before os ps same a b) ∙ isnt in rw (isnt, other) refl

pub same_path : (os ps : List Adoption) (n m a b : ℕ) → HasSameOrders os ps → OrdersAmong n os
    → OrdersAmong m ps → IsSound os → IsSound ps → IsNumber n a → IsNumber m a
    → path os n a b ≡ path ps m a b
same_path os ps n m a b same among_n among_m sound sound_too at at_too =
    ⊎_elim
    (λ (lt : n < m). path_up os ps n m a b same among_n sound at (omega arith))
    (λ (le : m ≤ n). sym (path_up ps os m n a b (λ x y. sym (same x y)) among_m
    sound_too at_too le))
    (cases_lt n m)
