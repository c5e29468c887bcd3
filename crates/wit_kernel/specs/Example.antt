-- An example: what was gathered of a request for a B under an A, and the trace of it.
use Rattle.std.specs.Prelude.{ℕ, ◌≡◌, true, List, [], ◌∷◌, ◌++◌, None, codes}
use Rattle.wit_model.specs.declared.locks.Class.TheVariants.{Sx}
use Rattle.wit_gathered.specs.Asking.{Asking}
use Rattle.wit_gathered.specs.Example.{all_told, behind_lines, behind_mutex_lines, by_seven, mutexes_by_seven, step}
use Rattle.wit_import.specs.declared.events.Acquisition.{Acquisition}
use Rattle.wit_import.specs.declared.events.Sharing.TheVariants.{Exclusive}
use Rattle.wit_import.specs.Blocks.{has_room}
use Rattle.wit_import.specs.Example.{whole_lines}
use Rattle.wit_import.specs.Laws.{text_behind}
use Rattle.wit_import.specs.Outputs.{ended, header, nothing_seen}
use Rattle.wit_kernel.specs.declared.importing.Tracer.TheVariants.{Ftrace}
use Rattle.wit_kernel.specs.Acquisitions.{events_of}
use Rattle.wit_kernel.specs.Laws.{AsksUnder, seen_at}
use Rattle.wit_kernel.specs.Outputs.{Imports}

-- the request, and the locks as the trace has them
abbrev pub b_under_a : Asking
b_under_a = record { held = step 0 ∷ []; asked = step 1 }

abbrev pub shown : List ℕ → Acquisition
shown name = record {
  thread = codes "1";
  lock = codes "1";
  class = Sx;
  name = name;
  sharing = Exclusive;
  file = codes "lock_acquire";
  line = 0;
}

abbrev pub told_of_seven : List ℕ
told_of_seven =
    whole_lines (codes "init 1 sx r \"A\"" ∷ codes "init 1 sx r \"A\"" ∷ codes "init 1 sx r \"B\""
    ∷ codes "init 1 sx r \"B\"" ∷ codes "try 1 1 x lock_acquire:0" ∷ codes "check 1 4 x n lock_acquire:0"
    ∷ codes "giveup 1 4" ∷ codes "unlock 1 1 x" ∷ [])

-- the premises are met: one request is kept, under one lock, of a type that was held, and there is room.
-- So it is told. A request for what nobody ever held is told nowhere
pub record RequestIsTold : Type 0 where
  pub kept : AsksUnder (behind_lines by_seven) [] [] b_under_a (step 0) (shown (codes "A"))
      (shown (codes "B"))
  pub room : has_room (seen_at (behind_lines by_seven) [] b_under_a).told.types
      (seen_at (behind_lines by_seven) [] b_under_a).held (shown (codes "B")) ≡ true
  pub text : text_behind nothing_seen (events_of (behind_lines by_seven)) ≡ told_of_seven
  pub imported : Imports Ftrace all_told (whole_lines by_seven) (header ++ told_of_seven) (ended None)
  pub unheld : text_behind nothing_seen (events_of (behind_mutex_lines mutexes_by_seven)) ≡ []
