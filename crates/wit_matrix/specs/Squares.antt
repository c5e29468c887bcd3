-- Squares of bits: for each of n types a row of words of 64 bits, in which the bit of a number
-- stands for the type of that number.
use Rattle.std.specs.Prelude.{ℕ, ◌+◌, ◌-◌, ◌*◌, ◌/◌, ◌%◌, ◌≡◌, ◌<◌, ◌≤◌, Bool, true, false, ◌&&◌}
use Rattle.std.specs.Prelude.{◌||◌, ◌==◌, List, map, filter, length, get_or, nat_le}
use Rattle.std.specs.Int.{bit_at}
use Rattle.std.specs.List.{range_with_len, flat_map}
use Rattle.wit_model.specs.declared.locks.Origin.TheVariants.{Listed}
use Rattle.wit_model.specs.declared.locks.TypeNo.{TypeNo}
use Rattle.wit_model.specs.declared.calls.Adoption.{Adoption}
use Rattle.wit_model.specs.declared.sizes.TheConstants.Limits.{MOST_TYPES}
use Rattle.wit_model.specs.Rules.Orders.{IsSound, is_before, is_found}
use Rattle.wit_model.specs.Rules.Numbers.{IsNumber}
use Rattle.wit_matrix.specs.Relation.{Relation}

-- how many words a row has: bits for the numbers from 0 to n
abbrev pub width : ℕ → ℕ
width n = n / 64 + 1

-- where a word of row a stands
abbrev pub word_place : ℕ → ℕ → ℕ → ℕ
word_place n a word = (a - 1) * width n + word

abbrev pub word_at : ℕ → List ℕ → ℕ → ℕ → ℕ
word_at n words a word = get_or words (word_place n a word) 0

-- whether row a has the bit of b
abbrev pub has : ℕ → List ℕ → ℕ → ℕ → Bool
has n words a b = bit_at (word_at n words a (b / 64)) (b % 64) == 1

-- the pairs of n types for which this holds, row by row
abbrev pub pairs_where : ℕ → (ℕ → ℕ → Bool) → List (ℕ × ℕ)
pairs_where n holds =
    flat_map (λ a. map (λ b. (a, b)) (filter (holds a) (range_with_len 1 n))) (range_with_len 1 n)

abbrev pub as_order : ℕ × ℕ → Adoption
as_order p = record { parent = record { 0 = p.0 }; child = record { 0 = p.1 }; origin = Listed }

abbrev pub as_types : ℕ × ℕ → TypeNo × TypeNo
as_types p = (record { 0 = p.0 }, record { 0 = p.1 })

-- the orders that a square says were adopted
abbrev pub orders_in : ℕ → List ℕ → List Adoption
orders_in n direct = map as_order (pairs_where n (has n direct))

-- the pairs that a square says were found, each once
abbrev pub found_in : ℕ → List ℕ → List (TypeNo × TypeNo)
found_in n found = map as_types (pairs_where n (λ a b. nat_le a b && has n found a b))

abbrev pub relation_in : ℕ → List ℕ → List ℕ → Relation
relation_in n direct found =
    record { size = n; orders = orders_in n direct; found = found_in n found }

-- the square holds this test of n types
abbrev pub Holds : ℕ → List ℕ → (ℕ → ℕ → Bool) → Type 0
Holds n words test = (a b : ℕ) → IsNumber n a → IsNumber n b → has n words a b ≡ test a b

abbrev pub IsSquare : ℕ → List ℕ → Type 0
IsSquare n words = length words ≡ n * width n

-- four squares: the adopted orders, what is before what by them, the mirror of that, and the pairs
-- found in violation
pub record IsKept (n : ℕ) (direct before after found : List ℕ) : Type 0 where
  pub positive : 1 ≤ n
  pub within : n ≤ MOST_TYPES
  pub direct_square : IsSquare n direct
  pub before_square : IsSquare n before
  pub after_square : IsSquare n after
  pub found_square : IsSquare n found
  pub tells_before : Holds n before (is_before (orders_in n direct))
  pub tells_after : Holds n after (λ a b. is_before (orders_in n direct) b a)
  pub tells_found : Holds n found (is_found (found_in n found))
  pub sound : IsSound (orders_in n direct)

-- the square with the bits of the pairs for which the test holds
abbrev pub AddsWhere : ℕ → (ℕ → ℕ → Bool) → List ℕ → List ℕ → Type 0
AddsWhere n test old new = Holds n new (λ a b. has n old a b || test a b)

abbrev pub is_at : ℕ → ℕ → ℕ → ℕ → Bool
is_at a b i j = (a == i) && (b == j)

-- whether b is a, or row a has its bit
abbrev pub reaches : ℕ → List ℕ → ℕ → ℕ → Bool
reaches n words a b = (a == b) || has n words a b

abbrev pub joins_row : ℕ → List ℕ → ℕ → ℕ → ℕ → ℕ → Bool
joins_row n words row source a b = (row == a) && reaches n words source b

-- whether the mirror's row of a type reaches a, and the source's row b
abbrev pub joins : ℕ → List ℕ → ℕ → List ℕ → ℕ → ℕ → ℕ → Bool
joins n mirror first words source a b = reaches n mirror first a && reaches n words source b

-- whether an order from p to c puts a before b: a is p or before it, and b is c or after it
abbrev pub links : ℕ → List ℕ → ℕ → ℕ → ℕ → ℕ → Bool
links n before p c a b = ((p == a) || has n before a p) && ((c == b) || has n before c b)

-- what leads on from b leads from each row that has the bit of b
abbrev pub IsTransitive : ℕ → List ℕ → Type 0
IsTransitive n words =
    (a b c : ℕ) → IsNumber n a → IsNumber n b → IsNumber n c → has n words a b ≡ true
    → has n words b c ≡ true → has n words a c ≡ true

abbrev pub AreMirrors : ℕ → List ℕ → List ℕ → Type 0
AreMirrors n before after = Holds n after (λ a b. has n before b a)

-- the row has none of the numbers from one up to another
abbrev pub HasNone : ℕ → List ℕ → ℕ → ℕ → ℕ → Type 0
HasNone n words row from to = (b : ℕ) → from ≤ b → b < to → has n words row b ≡ false

abbrev pub ReachesNone : ℕ → List ℕ → ℕ → ℕ → ℕ → Type 0
ReachesNone n words row from to = (b : ℕ) → from ≤ b → b < to → reaches n words row b ≡ false
