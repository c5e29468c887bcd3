-- What becomes of a line.
use Rattle.std.specs.Prelude.{ℕ, List, [], ◌∷◌, codes, Option, Some, None, Result, Ok, Err, if◌then◌else◌}
use Rattle.std.specs.Str.{bytes_eq}
use Rattle.wit_merge.specs.declared.flaws.Flaw.{Flaw}
use Rattle.wit_merge.specs.declared.flaws.Flaw.TheVariants as wrong
use Rattle.wit_merge.specs.declared.reading.Count.{Count}
use Rattle.wit_merge.specs.declared.standing.Part.{Part}
use Rattle.wit_merge.specs.declared.standing.Part.TheVariants as part
use Rattle.wit_merge.specs.declared.standing.Standing.{Standing}
use Rattle.wit_merge.specs.Reading.{counted_words, is_runs, order_words, runs_words}
use Rattle.wit_merge.specs.Rows.{Row, counted_in, entered, is_met}
use Rattle.wit_merge.specs.Standing.{begun, exceeds, outside, with_count}

-- what was read: the orders, and where the reading stands
pub record Merged : Type 0 where
  pub rows : List Row
  pub standing : Standing

abbrev pub nothing_merged : Merged
nothing_merged = record { rows = []; standing = outside }

-- ---- a line of a file itself

abbrev pub after_order : Merged → Result (List ℕ × List ℕ) Flaw → Result Merged Flaw
after_order m (Ok words) = Ok (record m { rows = entered m.standing m.rows words.0 words.1 })
after_order m (Err flaw) = Err flaw

abbrev pub after_runs : Merged → Option ℕ → Result Merged Flaw
after_runs m None = Err wrong.Runs
after_runs m (Some n) =
    Ok (record m { standing = record m.standing { most = n; part = part.Ranged } })

abbrev pub after_count : Merged → Result (Count × List ℕ) Flaw → Result Merged Flaw
after_count m (Ok words) =
    if exceeds m.standing words.0 then Err wrong.More
    else Ok (record {
      rows = counted_in m.standing m.rows words.1 words.0;
      standing = with_count m.standing words.0 (is_met m.standing m.rows words.1);
    })
after_count m (Err flaw) = Err flaw

abbrev pub in_part : Merged → Part → Merged
in_part m part = record m { standing = record m.standing { part = part } }

abbrev pub with_begun : Merged → Part → Merged
with_begun m part = record m { standing = begun m.standing part }

abbrev pub content_in : Part → Merged → List ℕ → Result Merged Flaw
content_in part.Outside m bytes = after_order (with_begun m part.Orders) (order_words bytes)
content_in part.Orders m bytes = after_order m (order_words bytes)
content_in part.Counted m bytes = after_order m (order_words bytes)
content_in part.Opened m bytes =
    if is_runs bytes then after_runs m (runs_words bytes)
    else after_count (in_part m part.Free) (counted_words bytes)
content_in part.Free m bytes = after_count m (counted_words bytes)
content_in part.Ranged m bytes = after_count m (counted_words bytes)

abbrev pub after_content : Merged → List ℕ → Result Merged Flaw
after_content m bytes = content_in m.standing.part m bytes

-- ---- a line that says what follows

abbrev pub opened_in : Part → Merged → Result Merged Flaw
opened_in part.Counted m = Ok (in_part m part.Opened)
opened_in _ m = Err wrong.Order

abbrev pub counts_opened : Merged → Result Merged Flaw
counts_opened m = opened_in m.standing.part m

-- ---- any line

abbrev pub after_line : Merged → List ℕ → Result Merged Flaw
after_line m bytes =
    if bytes_eq bytes (9 ∷ codes "file") then Ok (with_begun m part.Orders)
    else if bytes_eq bytes (9 ∷ codes "counted") then Ok (with_begun m part.Counted)
    else if bytes_eq bytes (9 ∷ codes "counts") then counts_opened m
    else after_content m bytes
