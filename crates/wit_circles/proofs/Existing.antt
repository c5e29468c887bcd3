-- Something may always be told of orders.
use Rattle.std.proofs.Common.{◌≡◌, Bool, true, false, List, [], ◌∷◌, refl}
use Rattle.wit_circles.specs.declared.orders.Order.{Order}
use Rattle.wit_circles.specs.Orders.{leads, Told, JudgedBy, Judged}
use Rattle.wit_circles.proofs.Ways.{leads-way}

some_first : (kept : List Order) (o : Order) (next : List Order → Told → Type 0)
    → ((kept : List Order) → (told : Told) × next kept told)
    → (back : Bool) → leads kept o.to o.from ≡ back → (told : Told) × JudgedBy back kept o next told
some_first kept o next rest false is = rest (o ∷ kept)
some_first kept o next rest true is =
    let way = leads-way kept o.to o.from is in
    let more = rest kept in (
      (o, way.0) ∷ more.0,
      record {
        way = way.0;
        rest = more.0;
        parted = refl;
        back = way.1;
        goes_on = more.1;
      },
    )

pub some_told : (orders kept : List Order) → (told : Told) × Judged kept orders told
some_told [] kept = ([], refl)
some_told (o ∷ orders) kept =
    some_first kept o (λ next. Judged next orders) (some_told orders) (leads kept o.to o.from) refl
