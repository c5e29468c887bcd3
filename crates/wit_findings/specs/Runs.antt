-- What is known of the processes of a run.
use Rattle.std.specs.Prelude.{ℕ, ◌+◌, ◌==◌, Bool, true, false, nat_lt, List, [], ◌∷◌, Option, Some}
use Rattle.std.specs.Prelude.{None, map, get_or, if◌then◌else◌}
use Rattle.std.specs.List.{insert, remove, sum_by}
use Rattle.std.specs.Option.{option_map}
use Rattle.wit_findings.specs.declared.processes.Processes.{Processes}
use Rattle.wit_findings.specs.declared.recording.Recording.{Recording}
use Rattle.wit_findings.specs.Told.{Told, nothing_of, told}

-- the process that lines are of, and the others, in the order of their numbers
pub record Run : Type 0 where
  pub now : Told
  pub others : List Told

abbrev pub known : Processes → Run
known p = record { now = told p.current; others = map told p.others.items }

-- lines are of a process without a number at first
abbrev pub nothing_told : Run
nothing_told = record { now = nothing_of None; others = [] }

abbrev pub with_now : Run → Told → Run
with_now r t = record { now = t; others = r.others }

-- how many bad lines these had, and all
abbrev pub bads_of : List Recording → ℕ
bads_of rs = sum_by (λ (r : Recording). r.bads) rs

abbrev pub bads : Processes → ℕ
bads p = p.current.bads + bads_of p.others.items

-- ---- numbers

abbrev pub is_number : ℕ → Option ℕ → Bool
is_number n None = false
is_number n (Some m) = m == n

abbrev pub is_of : ℕ → Told → Bool
is_of n t = is_number n t.process

-- which of two stands first: one without a number does
abbrev pub precedes : Option ℕ → Option ℕ → Bool
precedes p None = false
precedes None (Some n) = true
precedes (Some m) (Some n) = nat_lt m n

-- so many of these stand before it
abbrev pub place_of : Option ℕ → List Told → ℕ
place_of p [] = 0
place_of p (t ∷ ts) = if precedes t.process p then place_of p ts + 1 else 0

-- these, and one more
abbrev pub with_one : List Told → Told → List Told
with_one ts t = insert ts (place_of t.process ts) t

-- all, in the order of their numbers
abbrev pub in_order : Run → List Told
in_order r = with_one r.others r.now

-- ---- a line that says of which process those after it are

-- where the one of that process stands among these
abbrev pub found : ℕ → List Told → Option ℕ
found n [] = None
found n (t ∷ ts) = if is_of n t then Some 0 else option_map (λ place. place + 1) (found n ts)

-- the one of that process, a new one where it is none of these, and the others
abbrev pub taken_at : ℕ → List Told → Option ℕ → Told × List Told
taken_at n ts None = (nothing_of (Some n), ts)
taken_at n ts (Some place) = (get_or ts place (nothing_of None), remove ts place)

abbrev pub taken : ℕ → List Told → Told × List Told
taken n ts = taken_at n ts (found n ts)

-- no line is of the process without a number where this line is the first: it is left out
abbrev pub moved : Run → ℕ → Told × List Told → Run
moved r n next =
    record { now = next.0; others = if n == 1 then next.1 else with_one next.1 r.now }

-- from the line with number n on lines are of this process
abbrev pub turned : Run → ℕ → ℕ → Run
turned r n process =
    if is_of process r.now then r else moved r n (taken process r.others)
