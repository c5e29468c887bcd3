-- Orders as their callers see them, and what they keep.
use Rattle.std.specs.Prelude.{ℕ, ◌≡◌, ◌-◌, ◌<◌, Bool, ◌&&◌, ◌==◌, List, Option, None, Some, IfSome}
use Rattle.std.specs.Prelude.{find, length, min, reverse, slice_get, vec_len}
use Rattle.std.specs.Vec.{vec_capacity}
use Rattle.std.specs.Map.{lookup}
use Rattle.wit_model.specs.declared.calls.Adoption.{Adoption}
use Rattle.wit_model.specs.declared.locks.TypeNo.{TypeNo}
use Rattle.wit_model.specs.Rules.Orders.{is_adoption_of}
use Rattle.wit_matrix.specs.Relation.{HasSameOrders, OrdersAmong}
use Rattle.indexmap.specs.IndexMap.{spare}
use Rattle.wit_known.specs.declared.orders.Orders.TheInside.{Inside}
use Rattle.wit_known.specs.Ordering.{Ordering}

-- for how many orders more, with their places, there is memory
abbrev pub room_in : Inside → ℕ
room_in o = min (vec_capacity o.adopted - vec_len o.adopted) (spare o.places)

abbrev pub ordering_in : Inside → Ordering
ordering_in o = record {
  size = o.matrix.size;
  orders = reverse o.adopted.items;
  found = o.matrix.found;
  spare = room_in o;
}

abbrev pub is_pair : TypeNo × TypeNo → TypeNo × TypeNo → Bool
is_pair p q = (p.0.0 == q.0.0) && (p.1.0 == q.1.0)

-- the order at a place, where one is told
abbrev pub order_at : List Adoption → Option ℕ → Option Adoption
order_at orders None = None
order_at orders (Some place) = slice_get orders place

-- under each pair of types stands the place of its order, and under no other pair anything
pub record HavePlaces (places : List ((TypeNo × TypeNo) × ℕ))
    (orders : List Adoption) : Type 0 where
  pub within : (p : TypeNo × TypeNo)
      → IfSome (lookup (is_pair p) places) (λ place. place < length orders)
  pub tells : (a b : TypeNo) → order_at orders (lookup (is_pair (a, b)) places)
      ≡ find (is_adoption_of a.0 b.0) (reverse orders)

-- the matrix holds the same orders, all are between its types, and the places are those of the
-- orders
pub record IsRelated (o : Inside) : Type 0 where
  pub orders : HasSameOrders o.matrix.orders (reverse o.adopted.items)
  pub orders_among : OrdersAmong o.matrix.size (reverse o.adopted.items)
  pub places : HavePlaces o.places.entries o.adopted.items
