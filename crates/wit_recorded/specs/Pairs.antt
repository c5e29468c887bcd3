-- What a recording says of single locks and of threads.
use Rattle.std.specs.Prelude.{ℕ, ◌==◌, Bool, true, false, not, ◌||◌, List, [], ◌∷◌, Option, Some, None, codes}
use Rattle.std.specs.Prelude.{if◌then◌else◌}
use Rattle.std.specs.List.{list_any}
use Rattle.wit_model.specs.declared.locks.Mode.{Mode}
use Rattle.wit_model.specs.declared.locks.Mode.TheVariants.{Shared, Exclusive}
use Rattle.wit_model.specs.Trace.Reading.{◌>>=◌, Reader, behind, both, field_at, fixed_at, leading_count}
use Rattle.wit_model.specs.Trace.Reading.{leading_word, repeated, whole}
use Rattle.wit_recorded.specs.declared.lines.How.{How}
use Rattle.wit_recorded.specs.declared.lines.How.TheVariants.{Plainly, ForATime, Repeatedly, AsAWaitEnds}
use Rattle.wit_recorded.specs.declared.lines.Line.{Line}
use Rattle.wit_recorded.specs.declared.lines.Line.TheVariants as said
use Rattle.wit_recorded.specs.declared.lines.Pair.{Pair}
use Rattle.wit_recorded.specs.declared.lines.PairLock.{PairLock}
use Rattle.wit_recorded.specs.declared.lines.TheConstants.{MOST_BESIDES}

-- ---- what the first line lacks

-- any digit but 0
unfoldable pub is_some_count : List ℕ → Bool
is_some_count digits = list_any (λ digit. not (digit == 48)) digits

-- the counts up to that of calls that had no room: of what threads held, and of calls
abbrev pub leading_missed : Reader (List ℕ × (List ℕ × (List ℕ × (List ℕ × List ℕ))))
leading_missed =
    both (behind (codes "seats") leading_word) (both (behind (codes "types") leading_word)
    (both (behind (codes "locks") leading_word) (both (behind (codes "held") leading_word)
    (behind (codes "log") leading_word))))

abbrev pub missed_of : List ℕ → Option (List ℕ × List ℕ)
missed_of bytes = leading_missed bytes >>= λ x. Some (x.0.1.1.1.0, x.0.1.1.1.1)

-- whether calls are missing, or what their thread held
unfoldable pub lost_of : List ℕ → Option Bool
lost_of bytes =
    fixed_at (codes "missed") bytes >>= λ rest. missed_of rest >>= λ x.
    Some (is_some_count x.0 || is_some_count x.1)

-- ---- pairs

-- a mode, and letters after it
unfoldable pub mode_lettered : List ℕ → Option (Mode × List ℕ)
mode_lettered [] = None
mode_lettered (b ∷ letters) =
    if b == 120 then Some (Exclusive, letters) else if b == 115 then Some (Shared, letters)
    else None

-- a lock of a pair, and the letters after its mode, which tell more
unfoldable pub leading_pair_lock : Reader (PairLock × List ℕ)
leading_pair_lock bytes =
    both leading_count (both leading_count (both leading_count (field_at mode_lettered))) bytes
    >>= λ x.
    Some (
      (
        record { number = x.0.0; serial = x.0.1.0; of = x.0.1.1.0; mode = x.0.1.1.1.0 },
        x.0.1.1.1.1,
      ),
      x.1,
    )

unfoldable pub has : ℕ → List ℕ → Bool
has letter letters = list_any (λ b. b == letter) letters

-- `l`, `p` or `w`
unfoldable pub how_of : List ℕ → How
how_of letters =
    if has 119 letters then AsAWaitEnds else if has 112 letters then Repeatedly
    else if has 108 letters then ForATime else Plainly

-- a lock that was held besides
unfoldable pub leading_beside : Reader PairLock
leading_beside bytes = leading_pair_lock bytes >>= λ x. Some (x.0.0, x.1)

-- those up to the end of the line
abbrev pub besides_of : List ℕ → Option (List PairLock)
besides_of bytes = repeated leading_beside MOST_BESIDES bytes >>= λ x. Some x.0

-- the seat, the thread, when, where, and where the held lock was acquired; and both locks
abbrev pub leading_pair
    : Reader (ℕ × (ℕ × (ℕ × (ℕ × (ℕ × ((PairLock × List ℕ) × (PairLock × List ℕ)))))))
leading_pair =
    both leading_count (both leading_count (both leading_count (both leading_count
    (both leading_count (both leading_pair_lock leading_pair_lock)))))

-- `u`: the held lock was acquired while the other was held; `m`: there are more threads than two
unfoldable pub pair_of : List ℕ → Option Pair
pair_of bytes =
    leading_pair bytes >>= λ x. besides_of x.1 >>= λ besides.
    Some (record {
      thread = x.0.1.0;
      when = x.0.1.1.0;
      place = x.0.1.1.1.0;
      held = x.0.1.1.1.1.1.0.0;
      under = has 117 x.0.1.1.1.1.1.0.1;
      asked = x.0.1.1.1.1.1.1.0;
      how = how_of x.0.1.1.1.1.1.1.1;
      further = has 109 x.0.1.1.1.1.1.1.1;
      besides = besides;
    })

-- one that can't be read may be any
abbrev pub pair_said : Option Pair → Line
pair_said None = said.Many
pair_said (Some pair) = said.Pair pair

-- ---- threads

abbrev pub three_of : List ℕ → Option (ℕ × (ℕ × ℕ))
three_of bytes = whole (both leading_count (both leading_count leading_count)) bytes

-- what can't be read isn't known
abbrev pub life_said : Option (ℕ × (ℕ × ℕ)) → Line
life_said None = said.Passed
life_said (Some x) = said.Life x.0 x.1.0 x.1.1

abbrev pub joined_said : Option (ℕ × (ℕ × ℕ)) → Line
joined_said None = said.Passed
joined_said (Some x) = said.Joined x.0 x.1.0 x.1.1
