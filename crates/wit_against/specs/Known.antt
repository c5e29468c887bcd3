-- What is known of the orders that were read.
use Rattle.std.specs.Prelude.{ℕ, Bool, ◌&&◌, ◌==◌, List, [], ◌∷◌, ◌++◌, length, is_some, position}
use Rattle.std.specs.Prelude.{Option, None, Some, unwrap_or, if◌then◌else◌}
use Rattle.std.specs.List.{list_any, slice_index_or}
use Rattle.wit_circles.specs.declared.orders.Order.{Order}
use Rattle.wit_orders.specs.Answers.{place_in}

-- the types as they are written, each once; the orders by the places of their types, each once; and
-- the line in which each came first
pub record Known : Type 0 where
  pub types : List (List ℕ)
  pub orders : List Order
  pub lines : List (List ℕ)

abbrev pub nothing_known : Known
nothing_known = record { types = []; orders = []; lines = [] }

-- ---- types

-- the place of a type among those that are known; a new one goes last
abbrev pub number_of : List (List ℕ) → List ℕ → ℕ
number_of types text = unwrap_or (place_in types text) (length types)

abbrev pub with_type : List (List ℕ) → List ℕ → List (List ℕ)
with_type types text = if is_some (place_in types text) then types else types ++ text ∷ []

-- ---- orders

abbrev pub same_order : Order → Order → Bool
same_order o p = (o.from == p.from) && (o.to == p.to)

-- the orders and lines with this one, unless it came before
abbrev pub with_new : Known → Order → List ℕ → Known
with_new k o line =
    if list_any (same_order o) k.orders then k
    else record k { orders = k.orders ++ o ∷ []; lines = k.lines ++ line ∷ [] }

-- with the order of two types that are written so
abbrev pub with_order : Known → List ℕ → List ℕ → List ℕ → Known
with_order k first second line =
    let types = with_type k.types first in
    with_new (record k { types = with_type types second })
    (record { from = number_of k.types first; to = number_of types second }) line

-- ---- lines

abbrev pub line_at : List (List ℕ) → Option ℕ → List ℕ
line_at lines None = []
line_at lines (Some place) = slice_index_or lines place []

-- the line in which an order came first
abbrev pub line_of : Known → Order → List ℕ
line_of k o = line_at k.lines (position (same_order o) k.orders)
