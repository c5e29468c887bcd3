-- What a line says: an order and its origin, how many runs met an order, or how many were counted.
use Rattle.std.specs.Prelude.{ℕ, Bool, not, ◌==◌, ◌&&◌, ◌||◌, nat_le, List, [], ◌∷◌}
use Rattle.std.specs.Prelude.{length, take, drop, codes, Option, None, Some, Result, Ok, Err, if◌then◌else◌}
use Rattle.std.specs.List.{list_all}
use Rattle.std.specs.Str.{bytes_eq}
use Rattle.wit_model.specs.Trace.Words.{◌>>=◌, after, number_of, until}
use Rattle.wit_recordings.specs.Recordings.{NamedType}
use Rattle.wit_orders.specs.declared.reading.OrderLine.{OrderLine}
use Rattle.wit_orders.specs.declared.reading.OrderLine.TheVariants.{Listed, Pair}
use Rattle.wit_orders.specs.Reading.{order_line, type_text}
use Rattle.wit_merge.specs.declared.flaws.Flaw.{Flaw}
use Rattle.wit_merge.specs.declared.flaws.Flaw.TheVariants as wrong
use Rattle.wit_merge.specs.declared.reading.Count.{Count}

-- ---- an order

-- it ends no line and no column, for whoever reads it
abbrev pub is_plain_byte : ℕ → Bool
is_plain_byte b = nat_le 32 b && not (b == 127)

abbrev pub is_plain : List ℕ → Bool
is_plain bytes = list_all is_plain_byte bytes

-- after an order nothing stands, or a tab, the mark #, a space and where it comes from
abbrev pub is_origin : List ℕ → Bool
is_origin bytes = (length bytes == 0) || bytes_eq (take 3 bytes) (9 ∷ 35 ∷ 32 ∷ [])

-- what is wrong with an order of types that are written so
abbrev pub pair_flaw : List ℕ → List ℕ → List ℕ → List ℕ → Option Flaw
pair_flaw from to key origin =
    if not (is_origin origin) then Some wrong.Origin
    else if not (is_plain key) || not (is_plain (drop 1 origin)) then Some wrong.Byte
    else if bytes_eq from to then Some wrong.Itself
    else None

-- what is wrong with a line whose first column is read so
abbrev pub order_flaw : Option (OrderLine NamedType) → List ℕ → List ℕ → Option Flaw
order_flaw None key origin = Some wrong.Order
order_flaw (Some (Listed t)) key origin = Some wrong.Order
order_flaw (Some (Pair a b)) key origin = pair_flaw (type_text a) (type_text b) key origin

abbrev pub unless : {A : Type 0} → Option Flaw → A → Result A Flaw
unless None x = Ok x
unless (Some flaw) x = Err flaw

-- the order that a line says, as it is written, and its origin
abbrev pub order_words : List ℕ → Result (List ℕ × List ℕ) Flaw
order_words bytes =
    let columns = until 9 bytes in
    unless (order_flaw (order_line columns.0) columns.0 columns.1) columns

-- ---- how many runs met an order

-- the number above 0 that a word spells
abbrev pub positive : Option ℕ → Option ℕ
positive None = None
positive (Some n) = if n == 0 then None else Some n

abbrev pub above_0 : List ℕ → Option ℕ
above_0 word = positive (number_of 4294967296 word)

-- a number above 0 before a space, and what follows that
abbrev pub numbered : List ℕ → Option (ℕ × List ℕ)
numbered bytes =
    above_0 (until 32 bytes).0 >>= λ n. after 32 (until 32 bytes).1 >>= λ rest. Some (n, rest)

-- what follows the spaces
abbrev pub unpadded : List ℕ → List ℕ
unpadded [] = []
unpadded (b ∷ bytes) = if b == 32 then unpadded bytes else b ∷ bytes

-- the number of the last run may be left out
abbrev pub with_last : ℕ → List ℕ → Option (ℕ × List ℕ) → Option (Count × List ℕ)
with_last runs rest None = Some (record { runs = runs; last = 0 }, rest)
with_last runs rest (Some x) = Some (record { runs = runs; last = x.0 }, x.1)

-- the numbers that stand before an order, and what follows them
abbrev pub count_words : List ℕ → Option (Count × List ℕ)
count_words bytes = numbered (unpadded bytes) >>= λ x. with_last x.0 x.1 (numbered x.1)

abbrev pub counted : Count → Result (List ℕ × List ℕ) Flaw → Result (Count × List ℕ) Flaw
counted count (Ok words) = Ok (count, words.0)
counted count (Err flaw) = Err wrong.Count

abbrev pub counted_by : Option (Count × List ℕ) → Result (Count × List ℕ) Flaw
counted_by None = Err wrong.Count
counted_by (Some x) = counted x.0 (order_words x.1)

-- how many runs met an order, and the order
abbrev pub counted_words : List ℕ → Result (Count × List ℕ) Flaw
counted_words bytes = counted_by (count_words bytes)

-- the line is to say how many runs were counted
abbrev pub is_runs : List ℕ → Bool
is_runs bytes = bytes_eq (until 32 bytes).0 (codes "runs")

-- how many they are
abbrev pub runs_words : List ℕ → Option ℕ
runs_words bytes = after 32 (until 32 bytes).1 >>= above_0
