-- What is kept has no circle.
use Rattle.std.proofs.Common.{◌≡◌, ◌⊎◌, ℕ, Bool, true, false, List, [], ◌∷◌, refl, sym, ◌∙◌, subst, inl, inr}
use Rattle.std.proofs.lemmas.Bool.{false≢true}
use Rattle.std.specs.List.{All}
use Rattle.std.proofs.lemmas.List.Elements.{All-nil, All-cons}
use Rattle.wit_circles.specs.declared.orders.Order.{Order}
use Rattle.wit_circles.specs.Laws.{HaveNoCircle, IsParted, orders_told}
use Rattle.wit_circles.specs.Orders.{Has, IsWay, leads, Told, JudgedBy, Judged}
use Rattle.wit_circles.proofs.Ways.{leads-cases, leads-has, leads-onward, way-leads, way-likewise}

-- none of the orders leads back
abbrev NoneBack : List Order → Type 0
NoneBack kept = (a b : ℕ) → Has kept a b → leads kept b a ≡ true → ⊥

none-more : (kept : List Order) (o : Order) → NoneBack kept → leads kept o.to o.from ≡ false
    → NoneBack (o ∷ kept)
none-more kept o none free a b has back =
    elim (leads-cases o kept b a back) [ inl old ↦ before has old | inr by ↦ through has by.0 by.1 ]
  where
    own : leads kept o.to o.from ≡ true → ⊥
    own is = false≢true (sym free ∙ is)

    before : Has (o ∷ kept) a b → leads kept b a ≡ true → ⊥
    before (inl is) old =
        own (subst (λ x. leads kept x o.from ≡ true) (sym is.1)
        (subst (λ x. leads kept b x ≡ true) (sym is.0) old))
    before (inr has) old = none a b has old

    through : Has (o ∷ kept) a b → leads kept b o.from ≡ true → leads kept o.to a ≡ true → ⊥
    through (inl is) one two = own (subst (λ x. leads kept x o.from ≡ true) (sym is.1) one)
    through (inr has) one two =
        own (leads-onward kept o.to a o.from two
        (leads-onward kept a b o.from (leads-has kept a b has) one))

pub none-circle : (kept : List Order) → NoneBack kept → HaveNoCircle kept
none-circle kept none a c way is = none a c is.0 (way-leads kept c way a is.1)

-- what comes of orders that are judged after these
record IsFollowed (kept orders : List Order) (told : Told) : Type 0 where
  pub last : List Order
  pub all : (a b : ℕ) → Has orders a b → Has last a b ⊎ Has (orders_told told) a b
  pub stays : (a b : ℕ) → Has kept a b → Has last a b
  pub known : (a b : ℕ) → Has last a b → Has kept a b ⊎ Has orders a b
  pub of : (a b : ℕ) → Has (orders_told told) a b → Has orders a b
  pub none : NoneBack last
  pub back : All (λ (t : Order × List ℕ). IsWay last t.0.to t.1 t.0.from) told

module _ (kept : List Order) (o : Order) (orders : List Order) where
  kept-first : (told : Told) → IsFollowed (o ∷ kept) orders told → IsFollowed kept (o ∷ orders) told
  kept-first told is = record {
    last = is.last;
    all = λ a b has. by a b has;
    stays = λ a b has. is.stays a b (inr has);
    known = λ a b has. elim (is.known a b has) [ inl own ↦ from a b own | inr later ↦ inr (inr later) ];
    of = λ a b has. inr (is.of a b has);
    none = is.none;
    back = is.back;
  }
    where
      by : (a b : ℕ) → Has (o ∷ orders) a b → Has is.last a b ⊎ Has (orders_told told) a b
      by a b (inl own) = inl (is.stays a b (inl own))
      by a b (inr later) = is.all a b later

      from : (a b : ℕ) → Has (o ∷ kept) a b → Has kept a b ⊎ Has (o ∷ orders) a b
      from a b (inl own) = inr (inl own)
      from a b (inr has) = inl has

  told-first : (way : List ℕ) (rest : Told) → IsWay kept o.to way o.from → IsFollowed kept orders rest
      → IsFollowed kept (o ∷ orders) ((o, way) ∷ rest)
  told-first way rest back is = record {
    last = is.last;
    all = λ a b has. by a b has;
    stays = is.stays;
    known = λ a b has. elim (is.known a b has) [ inl old ↦ inl old | inr later ↦ inr (inr later) ];
    of = λ a b has. from a b has;
    none = is.none;
    back =
        All-cons (λ (t : Order × List ℕ). IsWay is.last t.0.to t.1 t.0.from) (o, way) rest
        (way-likewise (Has kept) (Has is.last) is.stays o.to way o.from back) is.back;
  }
    where
      by : (a b : ℕ) → Has (o ∷ orders) a b
          → Has is.last a b ⊎ Has (orders_told ((o, way) ∷ rest)) a b
      by a b (inl own) = inr (inl own)
      by a b (inr later) = elim (is.all a b later) [ inl kept ↦ inl kept | inr told ↦ inr (inr told) ]

      from : (a b : ℕ) → Has (orders_told ((o, way) ∷ rest)) a b → Has (o ∷ orders) a b
      from a b (inl own) = inl own
      from a b (inr later) = inr (is.of a b later)

  judged-first : (told : Told) (back : Bool) → leads kept o.to o.from ≡ back
      → NoneBack kept
      → JudgedBy back kept o (λ next. Judged next orders) told
      → ((next : List Order) (told : Told) → NoneBack next → Judged next orders told
      → IsFollowed next orders told)
      → IsFollowed kept (o ∷ orders) told
  judged-first told false is none judged follows =
      kept-first told (follows (o ∷ kept) told (none-more kept o none is) judged)
  judged-first told true is none judged follows =
      subst (IsFollowed kept (o ∷ orders)) (sym judged.parted)
      (told-first judged.way judged.rest judged.back
      (follows kept judged.rest none judged.goes_on))

followed : (orders kept : List Order) (told : Told) → NoneBack kept → Judged kept orders told
    → IsFollowed kept orders told
followed [] kept told none judged =
    subst (IsFollowed kept []) (sym judged)
    (record {
      last = kept;
      all = λ a b has. absurd has;
      stays = λ a b has. has;
      known = λ a b has. inl has;
      of = λ a b has. absurd has;
      none = none;
      back = All-nil (λ (t : Order × List ℕ). IsWay kept t.0.to t.1 t.0.from);
    })
followed (o ∷ orders) kept told none judged =
    judged-first kept o orders told (leads kept o.to o.from) refl none judged
    (followed orders)

pub judged-parted : (orders : List Order) (told : Told) → Judged [] orders told
    → IsParted orders told
judged-parted orders told judged =
    let is = followed orders [] told (λ a b has. absurd has) judged in
    record {
      kept = is.last;
      all = is.all;
      from_kept = λ a b has. elim (is.known a b has) [ inl none ↦ absurd none | inr of ↦ of ];
      from_told = is.of;
      free = none-circle is.last is.none;
      back = is.back;
    }

pub nothing-free : (orders : List Order) → Judged [] orders [] → HaveNoCircle orders
nothing-free orders judged a c way round =
    let is = judged-parted orders [] judged in
    is.free a c way (way-likewise (Has orders) (Has is.kept)
    (λ x y has. elim (is.all x y has) [ inl kept ↦ kept | inr none ↦ absurd none ]) a (c ∷ way) a round)
