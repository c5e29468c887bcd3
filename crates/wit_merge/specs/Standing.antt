-- Where the reading of files stands, and how often an order was met.
use Rattle.std.specs.Prelude.{ℕ, ◌+◌, ◌-◌, ◌^◌, Bool, min, true, false, ◌==◌, ◌&&◌, ◌||◌, nat_lt, if◌then◌else◌}
use Rattle.wit_merge.specs.declared.reading.Count.{Count}
use Rattle.wit_merge.specs.declared.standing.Part.{Part}
use Rattle.wit_merge.specs.declared.standing.Part.TheVariants as part
use Rattle.wit_merge.specs.declared.standing.Standing.{Standing}
use Rattle.wit_merge.specs.declared.standing.Tally.{Tally}

-- no count is greater than 4,294,967,295
abbrev pub sum : ℕ → ℕ → ℕ
sum m n = min (m + n) (2 ^ 32 - 1)

abbrev pub outside : Standing
outside = record { files = 0; before = 0; most = 0; part = part.Outside }

-- the runs of all files
abbrev pub total : Standing → ℕ
total s = sum s.before s.most

-- after the beginning of a file
abbrev pub begun : Standing → Part → Standing
begun s part = record {
  files = min (s.files + 1) (2 ^ 64 - 1);
  before = total s;
  most = 1;
  part = part;
}

-- the number of a run of the file among all
abbrev pub number_of_run : Standing → ℕ → ℕ
number_of_run s run = sum s.before run

abbrev pub is_counted : Part → Bool
is_counted part.Counted = true
is_counted _ = false

-- what is told of an order that no file has had
abbrev pub unmet : Tally
unmet = record { runs = 0; last = 0; file = 0 }

-- of an order that the file has; several lines of it count once
abbrev pub again : Standing → Tally → Tally
again s t = record {
  runs = if t.file == s.files then t.runs else sum t.runs 1;
  last = if is_counted s.part then t.last else number_of_run s 1;
  file = s.files;
}

-- of an order that so many runs met; what the file itself doesn't have stays
abbrev pub counted : Standing → Tally → Count → Tally
counted s t c =
    if t.file == s.files then (record {
      runs = sum t.runs (c.runs - 1);
      last = if c.last == 0 then t.last else number_of_run s c.last;
      file = t.file;
    }) else t

-- it tells of more runs than were counted
abbrev pub exceeds_in : Part → Standing → Count → Bool
exceeds_in part.Ranged s c = nat_lt s.most c.runs || nat_lt s.most c.last
exceeds_in _ s c = nat_lt 0 c.last

abbrev pub exceeds : Standing → Count → Bool
exceeds s c = exceeds_in s.part s c

-- after a count, of an order that the file has or not
abbrev pub with_count : Standing → Count → Bool → Standing
with_count s c is_met =
    record s { most = if is_met && nat_lt s.most c.runs then c.runs else s.most }
