-- Ways by orders, and the test whether there is one.
use Rattle.std.proofs.Common.{◌≡◌, ◌⊎◌, ℕ, ◌<◌, ◌≤◌, true, ◌&&◌, List, []}
use Rattle.std.proofs.Common.{◌∷◌, ◌++◌, refl, sym, ap, subst, inl, inr, arith}
use Rattle.std.proofs.lemmas.Bool.{and_from, and_parts, eq-eqb, eqb-true, or_cases, or_left, or_right}
use Rattle.wit_circles.specs.declared.orders.Order.{Order}
use Rattle.wit_circles.specs.Orders.{Has, IsWayBy, IsWay, leads}

-- ---- over any relation of what comes next

pub way-likewise : (next other : ℕ → ℕ → Type 0) → ((a b : ℕ) → next a b → other a b)
    → (a : ℕ) (way : List ℕ) (b : ℕ) → IsWayBy next a way b → IsWayBy other a way b
way-likewise next other same a [] b is = is
way-likewise next other same a (c ∷ way) b is =
    (same a c is.0, way-likewise next other same c way b is.1)

pub way-joined : (next : ℕ → ℕ → Type 0) (a : ℕ) (way : List ℕ) (b : ℕ) (more : List ℕ) (c : ℕ)
    → IsWayBy next a way b → IsWayBy next b more c → IsWayBy next a (way ++ more) c
way-joined next a [] b more c one two = subst (λ x. IsWayBy next x more c) (sym one) two
way-joined next a (d ∷ way) b more c one two =
    (one.0, way-joined next d way b more c one.1 two)

-- where a rank rises with each step, it doesn't fall on a way
pub way-rises : (next : ℕ → ℕ → Type 0) (rank : ℕ → ℕ) → ((a b : ℕ) → next a b → rank a < rank b)
    → (a : ℕ) (way : List ℕ) (b : ℕ) → IsWayBy next a way b → rank a ≤ rank b
way-rises next rank rises a [] b is = omega (arith, ap rank is)
way-rises next rank rises a (c ∷ way) b is =
    omega (arith, rises a c is.0, way-rises next rank rises c way b is.1)

-- ---- by orders

way-more : (o : Order) (orders : List Order) (a : ℕ) (way : List ℕ) (b : ℕ) → IsWay orders a way b
    → IsWay (o ∷ orders) a way b
way-more o orders = way-likewise (Has orders) (Has (o ∷ orders)) (λ a b is. inr is)

pub leads-self : (orders : List Order) (a : ℕ) → leads orders a a ≡ true
unfolding leads
leads-self [] a = eq-eqb a a refl
leads-self (o ∷ orders) a =
    or_left (leads orders a a) (leads orders a o.from && leads orders o.to a) (leads-self orders a)

pub leads-more : (o : Order) (orders : List Order) (a b : ℕ) → leads orders a b ≡ true
    → leads (o ∷ orders) a b ≡ true
unfolding leads
leads-more o orders a b is =
    or_left (leads orders a b) (leads orders a o.from && leads orders o.to b) is

leads-by : (o : Order) (orders : List Order) (a b : ℕ) → leads orders a o.from ≡ true
    → leads orders o.to b ≡ true → leads (o ∷ orders) a b ≡ true
unfolding leads
leads-by o orders a b one two =
    or_right (leads orders a b) (leads orders a o.from && leads orders o.to b)
    (and_from (leads orders a o.from) (leads orders o.to b) one two)

-- either the older orders lead there, or the newest one is on the way
pub leads-cases : (o : Order) (orders : List Order) (a b : ℕ) → leads (o ∷ orders) a b ≡ true
    → (leads orders a b ≡ true)
    ⊎ ((leads orders a o.from ≡ true) × (leads orders o.to b ≡ true))
unfolding leads
leads-cases o orders a b is =
    elim (or_cases (leads orders a b) (leads orders a o.from && leads orders o.to b) is) [
      | inl old ↦ inl old
      | inr both ↦ inr (and_parts (leads orders a o.from) (leads orders o.to b) both)
    ]

leads-none : (a b : ℕ) → leads [] a b ≡ true → a ≡ b
unfolding leads
leads-none a b is = eqb-true a b is

pub leads-onward : (orders : List Order) (a b c : ℕ) → leads orders a b ≡ true
    → leads orders b c ≡ true → leads orders a c ≡ true
leads-onward [] a b c one two =
    subst (λ x. leads [] x c ≡ true) (sym (leads-none a b one)) two
leads-onward (o ∷ orders) a b c one two =
    elim (leads-cases o orders a b one) [
      | inl old ↦ elim (leads-cases o orders b c two) [
        | inl old' ↦ leads-more o orders a c (leads-onward orders a b c old old')
        | inr by ↦ leads-by o orders a c (leads-onward orders a b o.from old by.0) by.1
      ]
      | inr by ↦ elim (leads-cases o orders b c two) [
        | inl old' ↦ leads-by o orders a c by.0 (leads-onward orders o.to b c by.1 old')
        | inr by' ↦ leads-by o orders a c by.0 by'.1
      ]
    ]

pub leads-has : (orders : List Order) (a b : ℕ) → Has orders a b → leads orders a b ≡ true
leads-has [] a b has = absurd has
leads-has (o ∷ orders) a b (inl is) =
    leads-by o orders a b (subst (λ x. leads orders a x ≡ true) (sym is.0) (leads-self orders a))
    (subst (λ x. leads orders x b ≡ true) (sym is.1) (leads-self orders b))
leads-has (o ∷ orders) a b (inr has) = leads-more o orders a b (leads-has orders a b has)

pub way-leads : (orders : List Order) (a : ℕ) (way : List ℕ) (b : ℕ) → IsWay orders a way b
    → leads orders a b ≡ true
way-leads orders a [] b is = subst (λ x. leads orders a x ≡ true) is (leads-self orders a)
way-leads orders a (c ∷ way) b is =
    leads-onward orders a c b (leads-has orders a c is.0) (way-leads orders c way b is.1)

pub leads-way : (orders : List Order) (a b : ℕ) → leads orders a b ≡ true
    → (way : List ℕ) × IsWay orders a way b
leads-way [] a b is = ([], leads-none a b is)
leads-way (o ∷ orders) a b is =
    elim (leads-cases o orders a b is) [
      | inl old ↦ let found = leads-way orders a b old in
          (found.0, way-more o orders a found.0 b found.1)
      | inr by ↦
          let one = leads-way orders a o.from by.0 in
          let two = leads-way orders o.to b by.1 in (
            one.0 ++ o.to ∷ two.0,
            way-joined (Has (o ∷ orders)) a one.0 o.from (o.to ∷ two.0) b
                (way-more o orders a one.0 o.from one.1)
                (inl (refl, refl), way-more o orders o.to two.0 b two.1),
          )
    ]
