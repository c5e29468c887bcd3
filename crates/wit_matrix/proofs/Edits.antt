-- What an adopted order and a found pair make of the squares.
use Rattle.std.proofs.Common.{◌≡◌, ℕ, ◌*◌, ◌≤◌, Bool, true, false, ◌&&◌, ◌||◌, cond, eqb, List, []}
use Rattle.std.proofs.Common.{◌∷◌, length, refl, ap, ap₂, sym, ◌∙◌, subst, ⊎_elim, replicate}
use Rattle.std.proofs.Math.Bool.{and_comm, or_comm, or_assoc}
use Rattle.std.proofs.lemmas.Bool.{or_cases, or_left, or_right, and_parts, and_from, eqb-true}
use Rattle.std.proofs.lemmas.Bool.{eq-eqb, false≢true}
use Rattle.std.proofs.lemmas.List.{length-replicate}
use Rattle.wit_model.specs.declared.locks.TypeNo.{TypeNo}
use Rattle.wit_model.specs.declared.locks.Origin.TheVariants.{Listed}
use Rattle.wit_model.specs.declared.calls.Adoption.{Adoption}
use Rattle.wit_model.specs.declared.sizes.TheConstants.Limits.{MOST_TYPES}
use Rattle.wit_model.specs.Rules.Orders.{is_adoption_of, is_direct, is_before, IsSound, is_pair_of}
use Rattle.wit_model.specs.Rules.Orders.{is_found, found_once, adopted_once}
use Rattle.wit_model.specs.Rules.Numbers.{IsNumber}
use Rattle.wit_model.proofs.Orders.Paths.{sound_adopt, test_from_before, is_before-trans}
use Rattle.wit_matrix.specs.Relation.{HasSameOrders, HasSameFound, OrdersAmong, FoundAmong, Adopts}
use Rattle.wit_matrix.specs.Relation.{Finds}
use Rattle.wit_matrix.specs.Squares.{width, has, as_order, relation_in, orders_in, found_in, Holds}
use Rattle.wit_matrix.specs.Squares.{IsSquare, IsKept, AddsWhere, IsTransitive, AreMirrors, is_at}
use Rattle.wit_matrix.specs.Squares.{links}
use Rattle.wit_matrix.proofs.Words.{blank_has_none}
use Rattle.wit_matrix.proofs.Settled.{direct_among, found_among, direct_holds, orders_settled}
use Rattle.wit_matrix.proofs.Settled.{found_settled, same_from, same_before, same_sound, orders-sym}
use Rattle.wit_matrix.proofs.Settled.{found-turned}

-- what is before what is transitive, and its mirror stands beside it
pub kept_transitive : (n : ℕ) (direct before after found : List ℕ)
    → IsKept n direct before after found → IsTransitive n before
kept_transitive n direct before after found kept a b c at bt ct first rest =
    kept.tells_before a c at ct
    ∙ is_before-trans (orders_in n direct) a b c (sym (kept.tells_before a b at bt) ∙ first)
    (sym (kept.tells_before b c bt ct) ∙ rest)

more_among : (n p c : ℕ) (os : List Adoption) → IsNumber n p → IsNumber n c → OrdersAmong n os
    → OrdersAmong n (as_order (p, c) ∷ os)
more_among n p c os pt ct among a b is =
    ⊎_elim
    (λ here. let parts = and_parts (eqb p a) (eqb c b) here in (
      subst (λ x. IsNumber n x) (eqb-true p a parts.0) pt,
      subst (λ x. IsNumber n x)
          (eqb-true c b parts.1) ct,
    ))
    (λ later. among a b later)
    (or_cases (is_at p c a b) (is_direct os a b) is)

-- the types that differ, of which the second isn't before the first
pub record CanAdopt (n : ℕ) (direct before after found : List ℕ) (p c : ℕ) : Type 0 where
  pub kept : IsKept n direct before after found
  pub parent : IsNumber n p
  pub child : IsNumber n c
  pub apart : p ≡ c → ⊥
  pub orderly : is_before (orders_in n direct) c p ≡ false

-- the two steps of an adoption, and what they leave
pub record Links (n : ℕ) (direct before after d1 b1 a1 : List ℕ) (p c : ℕ) : Type 0 where
  pub linked : AddsWhere n (links n before p c) before b1
  pub mirrors : AreMirrors n b1 a1
  pub adopted : AddsWhere n (is_at p c) direct d1
  pub direct_square : IsSquare n d1
  pub before_square : IsSquare n b1
  pub after_square : IsSquare n a1

-- an order that was adopted adds nothing
pub adopted_again : (p c : ℕ) (os : List Adoption)
    → HasSameOrders (as_order (p, c) ∷ os) (adopted_once p c Listed os)
adopted_again p c os a b = go (is_direct os p c) refl
  where
    go : (t : Bool) → is_direct os p c ≡ t → is_direct (as_order (p, c) ∷ os) a b
        ≡ is_direct (cond t os (as_order (p, c) ∷ os)) a b
    go false isnt = refl
    go true is =
        same_from (is_at p c a b || is_direct os a b) (is_direct os a b)
        (λ h. ⊎_elim
        (λ here. let parts = and_parts (eqb p a) (eqb c b) here in
        subst (λ x. is_direct os x b ≡ true) (eqb-true p a parts.0)
        (subst (λ x. is_direct os p x ≡ true) (eqb-true c b parts.1) is))
        (λ later. later)
        (or_cases (is_at p c a b) (is_direct os a b) h))
        (λ h. or_right (is_at p c a b) (is_direct os a b) h)

module _ (n : ℕ) (direct before after found d1 b1 a1 : List ℕ) (p c : ℕ)
    (can : CanAdopt n direct before after found p c)
    (made : Links n direct before after d1 b1 a1 p c) where
  direct_more : Holds n d1 (is_direct (as_order (p, c) ∷ orders_in n direct))
  direct_more a b at bt =
      made.adopted a b at bt ∙ (ap (λ t. t || is_at p c a b) (direct_holds n direct a b at bt)
      ∙ or_comm (is_direct (orders_in n direct) a b) (is_at p c a b))

  orders_more : HasSameOrders (orders_in n d1) (as_order (p, c) ∷ orders_in n direct)
  orders_more =
      orders_settled n d1 (as_order (p, c) ∷ orders_in n direct) direct_more
      (more_among n p c (orders_in n direct) can.parent can.child (direct_among n direct))

  before_more : Holds n b1 (is_before (orders_in n d1))
  before_more a b at bt =
      made.linked a b at bt
      ∙ (ap₂ (λ x y. x || ((eqb p a || y) && (eqb c b || has n before c b)))
      (can.kept.tells_before a b at bt) (can.kept.tells_before a p at can.parent)
      ∙ (ap (λ t. is_before (orders_in n direct) a b
      || ((eqb p a || is_before (orders_in n direct) a p) && (eqb c b || t)))
      (can.kept.tells_before c b can.child bt)
      ∙ sym (same_before (orders_in n d1) (as_order (p, c) ∷ orders_in n direct) orders_more a b)))

  pub adopted_kept : IsKept n d1 b1 a1 found
  adopted_kept = record {
    positive = can.kept.positive;
    within = can.kept.within;
    direct_square = made.direct_square;
    before_square = made.before_square;
    after_square = made.after_square;
    found_square = can.kept.found_square;
    tells_before = before_more;
    tells_after = λ a b at bt. made.mirrors a b at bt ∙ before_more b a bt at;
    tells_found = can.kept.tells_found;
    sound =
        same_sound (as_order (p, c) ∷ orders_in n direct) (orders_in n d1)
        (orders-sym (orders_in n d1) (as_order (p, c) ∷ orders_in n direct) orders_more)
        (sound_adopt (as_order (p, c)) (orders_in n direct) can.kept.sound can.orderly can.apart);
  }

  pub adopted_adopts : Adopts (relation_in n direct found) p c (relation_in n d1 found)
  adopted_adopts = record {
    size = refl;
    orders = λ a b. orders_more a b ∙ adopted_again p c (orders_in n direct) a b;
    found = refl;
  }

pub found_again : (a b : TypeNo) (fs : List (TypeNo × TypeNo))
    → HasSameFound ((a, b) ∷ fs) (found_once a b fs)
found_again a b fs i j = go (is_found fs a.0 b.0) refl
  where
    go : (t : Bool) → is_found fs a.0 b.0 ≡ t → is_found ((a, b) ∷ fs) i j
        ≡ is_found (cond t fs ((a, b) ∷ fs)) i j
    go false isnt = refl
    go true is =
        same_from (is_pair_of i j (a, b) || is_found fs i j) (is_found fs i j)
        (λ h. ⊎_elim
        (λ here. ⊎_elim
        (λ s. let parts = and_parts (eqb a.0 i) (eqb b.0 j) s in
        subst (λ x. is_found fs x j ≡ true) (eqb-true a.0 i parts.0)
        (subst (λ x. is_found fs a.0 x ≡ true) (eqb-true b.0 j parts.1) is))
        (λ s. let parts = and_parts (eqb a.0 j) (eqb b.0 i) s in
        found-turned fs j i (subst (λ x. is_found fs x i ≡ true) (eqb-true a.0 j parts.0)
        (subst (λ x. is_found fs a.0 x ≡ true) (eqb-true b.0 i parts.1) is)))
        (or_cases (eqb a.0 i && eqb b.0 j) (eqb a.0 j && eqb b.0 i) here))
        (λ later. later)
        (or_cases (is_pair_of i j (a, b)) (is_found fs i j) h))
        (λ h. or_right (is_pair_of i j (a, b)) (is_found fs i j) h)

found_more_among : (n : ℕ) (a b : TypeNo) (fs : List (TypeNo × TypeNo)) → IsNumber n a.0
    → IsNumber n b.0 → FoundAmong n fs → FoundAmong n ((a, b) ∷ fs)
found_more_among n a b fs at bt among i j is =
    ⊎_elim
    (λ here. ⊎_elim
    (λ s. let parts = and_parts (eqb a.0 i) (eqb b.0 j) s in (
      subst (λ x. IsNumber n x) (eqb-true a.0 i parts.0) at,
      subst (λ x. IsNumber n x) (eqb-true b.0 j parts.1) bt,
    ))
    (λ s. let parts = and_parts (eqb a.0 j) (eqb b.0 i) s in (
      subst (λ x. IsNumber n x) (eqb-true b.0 i parts.1) bt,
      subst (λ x. IsNumber n x) (eqb-true a.0 j parts.0) at,
    ))
    (or_cases (eqb a.0 i && eqb b.0 j) (eqb a.0 j && eqb b.0 i) here))
    (λ later. among i j later)
    (or_cases (is_pair_of i j (a, b)) (is_found fs i j) is)

module _ (n : ℕ) (direct before after f0 f1 f2 : List ℕ) (a b : TypeNo)
    (kept : IsKept n direct before after f0) (at : IsNumber n a.0) (bt : IsNumber n b.0)
    (first : AddsWhere n (is_at a.0 b.0) f0 f1) (second : AddsWhere n (is_at b.0 a.0) f1 f2) where
  found_more : Holds n f2 (is_found ((a, b) ∷ found_in n f0))
  found_more i j it jt =
      let r : Bool = is_found (found_in n f0) i j in
      let k : Bool = is_at a.0 b.0 i j in
      let m : Bool = is_at b.0 a.0 i j in
      second i j it jt
      ∙ (ap (λ t. t || m) (first i j it jt ∙ ap (λ t. t || k) (kept.tells_found i j it jt))
      ∙ (or_assoc r k m ∙ (or_comm r (k || m) ∙ ap (λ t. (k || t) || r)
      (and_comm (eqb b.0 i) (eqb a.0 j)))))

  pairs_more : HasSameFound (found_in n f2) ((a, b) ∷ found_in n f0)
  pairs_more =
      found_settled n f2 ((a, b) ∷ found_in n f0) found_more
      (found_more_among n a b (found_in n f0) at bt (found_among n f0))

  pub marked_kept : IsSquare n f2 → IsKept n direct before after f2
  marked_kept square = record {
    positive = kept.positive;
    within = kept.within;
    direct_square = kept.direct_square;
    before_square = kept.before_square;
    after_square = kept.after_square;
    found_square = square;
    tells_before = kept.tells_before;
    tells_after = kept.tells_after;
    tells_found = λ i j it jt. found_more i j it jt ∙ sym (pairs_more i j);
    sound = kept.sound;
  }

  pub marked_finds : Finds (relation_in n direct f0) a b (relation_in n direct f2)
  marked_finds = record {
    size = refl;
    orders = λ i j. refl;
    found = λ i j. pairs_more i j ∙ found_again a b (found_in n f0) i j;
  }

no_orders : (os : List Adoption) → HasSameOrders os [] → os ≡ []
no_orders [] none = refl
no_orders (o ∷ os) none =
    absurd
    (false≢true
    (sym (none o.parent.0 o.child.0)
    ∙ or_left (is_adoption_of o.parent.0 o.child.0 o) (is_direct os o.parent.0 o.child.0)
    (and_from (eqb o.parent.0 o.parent.0) (eqb o.child.0 o.child.0)
    (eq-eqb o.parent.0 o.parent.0 refl) (eq-eqb o.child.0 o.child.0 refl))))

no_found : (fs : List (TypeNo × TypeNo)) → HasSameFound fs [] → fs ≡ []
no_found [] none = refl
no_found (f ∷ fs) none =
    absurd
    (false≢true
    (sym (none f.0.0 f.1.0)
    ∙ or_left (is_pair_of f.0.0 f.1.0 f) (is_found fs f.0.0 f.1.0)
    (or_left ((eqb f.0.0 f.0.0) && (eqb f.1.0 f.1.0)) ((eqb f.0.0 f.1.0) && (eqb f.1.0 f.0.0))
    (and_from (eqb f.0.0 f.0.0) (eqb f.1.0 f.1.0) (eq-eqb f.0.0 f.0.0 refl)
    (eq-eqb f.1.0 f.1.0 refl)))))

none_sound : IsSound []
none_sound a p = false≢true (test_from_before [] a a p)

-- a matrix begins with no orders and no pairs
blank_orders : (n : ℕ) (words : List ℕ) → words ≡ replicate (n * width n) 0 → orders_in n words ≡ []
blank_orders n words is =
    no_orders (orders_in n words)
    (orders_settled n words [] (blank_has_none n words is) (λ a b h. absurd (false≢true h)))

blank_found : (n : ℕ) (words : List ℕ) → words ≡ replicate (n * width n) 0 → found_in n words ≡ []
blank_found n words is =
    no_found (found_in n words) (found_settled n words [] (blank_has_none n words is)
    (λ a b h. absurd (false≢true h)))

blank_square : (n : ℕ) (words : List ℕ) → words ≡ replicate (n * width n) 0 → IsSquare n words
blank_square n words is = ap length is ∙ length-replicate (n * width n) 0

pub blank_kept : (n : ℕ) (direct before after found : List ℕ) → 1 ≤ n → n ≤ MOST_TYPES
    → direct ≡ replicate (n * width n) 0 → before ≡ replicate (n * width n) 0
    → after ≡ replicate (n * width n) 0 → found ≡ replicate (n * width n) 0
    → IsKept n direct before after found
blank_kept n direct before after found positive within d b a f = record {
  positive = positive;
  within = within;
  direct_square = blank_square n direct d;
  before_square = blank_square n before b;
  after_square = blank_square n after a;
  found_square = blank_square n found f;
  tells_before =
      λ i j it jt. blank_has_none n before b i j it jt
      ∙ ap (λ os. is_before os i j) (sym (blank_orders n direct d));
  tells_after =
      λ i j it jt. blank_has_none n after a i j it jt ∙ ap (λ os. is_before os j i)
      (sym (blank_orders n direct d));
  tells_found =
      λ i j it jt. blank_has_none n found f i j it jt ∙ ap (λ fs. is_found fs i j)
      (sym (blank_found n found f));
  sound = subst IsSound (sym (blank_orders n direct d)) none_sound;
}

pub blank : (n : ℕ) (direct found : List ℕ) → direct ≡ replicate (n * width n) 0
    → found ≡ replicate (n * width n) 0
    → relation_in n direct found ≡ record { size = n; orders = []; found = [] }
blank n direct found d f =
    let orders : orders_in n direct ≡ [] = blank_orders n direct d in
    let pairs : found_in n found ≡ [] = blank_found n found f in
    rw (orders, pairs) refl

-- squares that are equal are kept alike
pub kept_as : (n : ℕ) (d b a found direct before after : List ℕ) → direct ≡ d → before ≡ b
    → after ≡ a → IsKept n d b a found → IsKept n direct before after found
kept_as n d b a found direct before after direct_is before_is after_is kept =
    subst (λ ws. IsKept n ws before after found) (sym direct_is)
    (subst (λ ws. IsKept n d ws after found) (sym before_is)
    (subst (λ ws. IsKept n d b ws found) (sym after_is) kept))
