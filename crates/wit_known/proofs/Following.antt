-- Orders behind one child, adopted one after the other.
use Rattle.std.proofs.Common.{◌≡◌, ℕ, ◌+◌, ◌<◌, ◌&&◌, ◌||◌, eqb, List, [], ◌∷◌, ◌++◌, length, drop}
use Rattle.std.proofs.Common.{get_or, map, reverse, sym, ap, ◌∙◌, subst, append_assoc}
use Rattle.std.specs.List.{AllByRecursion}
use Rattle.std.proofs.lemmas.Bool.{or_from, and_left, ne_eqb}
use Rattle.std.proofs.lemmas.List.{drop_more, reverse-append}
use Rattle.wit_model.specs.declared.locks.Site.{Site}
use Rattle.wit_model.specs.declared.locks.TypeNo.{TypeNo}
use Rattle.wit_model.specs.declared.calls.Adoption.{Adoption}
use Rattle.wit_model.specs.Rules.Orders.{is_before, taught_at}
use Rattle.wit_known.specs.Following.{CanFollow, CanAllFollow}

-- no types
abbrev pub no-pair : TypeNo × TypeNo
no-pair = (record { 0 = 0 }, record { 0 = 0 })

-- an order can still be adopted behind another of the same child
still-follows : (n : ℕ) (orders : List Adoption) (o : Adoption) (p c : ℕ) → o.child.0 ≡ c
    → CanFollow n orders o.parent.0 c → CanFollow n orders p c → CanFollow n (o ∷ orders) p c
still-follows n orders o p c same first next = record {
  parent = next.parent;
  child = next.child;
  apart = next.apart;
  orderly =
      or_from (is_before orders c p) ((eqb o.parent.0 c || is_before orders c o.parent.0)
      && (eqb o.child.0 p || is_before orders o.child.0 p)) next.orderly
      (and_left (eqb o.parent.0 c || is_before orders c o.parent.0)
      (eqb o.child.0 p || is_before orders o.child.0 p)
      (or_from (eqb o.parent.0 c) (is_before orders c o.parent.0)
      (ne_eqb o.parent.0 c first.apart) first.orderly));
}

all-follow : (n : ℕ) (orders : List Adoption) (o : Adoption) (child : TypeNo)
    (pairs : List (TypeNo × TypeNo)) → o.child ≡ child → CanFollow n orders o.parent.0 child.0
    → AllByRecursion (λ (p : TypeNo × TypeNo). (p.1 ≡ child) × CanFollow n orders p.0.0 p.1.0) pairs
    → AllByRecursion (λ (p : TypeNo × TypeNo). (p.1 ≡ child)
    × CanFollow n (o ∷ orders) p.0.0 p.1.0) pairs
all-follow n orders o child [] same first all = tt
all-follow n orders o child (p ∷ pairs) same first all =
    let c : o.child.0 ≡ p.1.0 = ap (λ (x : TypeNo). x.0) (same ∙ sym all.0.0) in (
      (
        all.0.0,
        still-follows n orders o p.0.0 p.1.0 c
            (subst (λ (x : TypeNo). CanFollow n orders o.parent.0 x.0) (sym all.0.0) first) all.0.1,
      ),
      all-follow n orders o child pairs same first all.1,
    )

-- the next one of several
module _ (n : ℕ) (pairs : List (TypeNo × TypeNo)) (i : ℕ) (x : TypeNo × TypeNo)
    (lt : i < length pairs) (is : x ≡ get_or pairs i x) where
  next-is : drop i pairs ≡ x ∷ drop (i + 1) pairs
  next-is = drop_more pairs i x lt ∙ ap (λ y. y ∷ drop (i + 1) pairs) (sym is)

  pub next-follows : (orders : List Adoption) → CanAllFollow n orders (drop i pairs)
      → CanFollow n orders x.0.0 x.1.0
  next-follows orders can = (subst (CanAllFollow n orders) next-is can).1.0.1

  -- and those behind it
  pub rest-follow : (orders : List Adoption) (site : Site) → CanAllFollow n orders (drop i pairs)
      → CanAllFollow n (taught_at site x ∷ orders) (drop (i + 1) pairs)
  rest-follow orders site can =
      let all = subst (CanAllFollow n orders) next-is can in (
        all.0,
        all-follow n orders (taught_at site x) all.0 (drop (i + 1) pairs) all.1.0.0
            (subst (λ (c : TypeNo). CanFollow n orders x.0.0 c.0) all.1.0.0 all.1.0.1) all.1.1,
      )

  -- what they add
  pub adds-next : (orders : List Adoption) (site : Site)
      → reverse (map (taught_at site) (drop (i + 1) pairs)) ++ (taught_at site x ∷ orders)
      ≡ reverse (map (taught_at site) (drop i pairs)) ++ orders
  adds-next orders site =
      sym
      (ap (λ ps. reverse (map (taught_at site) ps) ++ orders) next-is
      ∙ ap (λ l. l ++ orders) (reverse-append (taught_at site x ∷ [])
      (map (taught_at site) (drop (i + 1) pairs)))
      ∙ append_assoc (reverse (map (taught_at site) (drop (i + 1) pairs)))
      (taught_at site x ∷ []) orders)
