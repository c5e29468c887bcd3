-- An example: a task acquires a lock of type A, and under it one of type B; another task does so too.
use Rattle.std.specs.Prelude.{ℕ, ◌≡◌, true, false, List, [], ◌∷◌, ◌++◌, codes}
use Rattle.wit_traced.specs.Examples.{eight_gets_a, eight_gets_b, mutex_asked_for, mutex_got}
use Rattle.wit_traced.specs.Examples.{seven_frees_a, seven_frees_b, seven_gets_a, seven_gets_b}
use Rattle.wit_gathered.specs.declared.gathering.Settings.{Settings}
use Rattle.wit_gathered.specs.declared.naming.LockClass.TheVariants.{Sleeping}
use Rattle.wit_gathered.specs.declared.requests.Kept.{Kept}
use Rattle.wit_gathered.specs.declared.requests.Step.{Step}
use Rattle.wit_gathered.specs.declared.types.Type.TheVariants.{Of}
use Rattle.wit_gathered.specs.Gathering.{Gathered, nothing_gathered}
use Rattle.wit_gathered.specs.Laws.{with_lines, with_mutex_lines}
use Rattle.wit_gathered.specs.Naming.{is_held, names_of, type_named}
use Rattle.wit_gathered.specs.Requests.{asking, has_pair}

-- ---- lines of ftrace, and of LTTng

abbrev pub by_seven : List (List ℕ)
by_seven = seven_gets_a ∷ seven_gets_b ∷ []

abbrev pub by_eight : List (List ℕ)
by_eight = seven_frees_b ∷ seven_frees_a ∷ eight_gets_a ∷ eight_gets_b ∷ []

abbrev pub mutexes_by_seven : List (List ℕ)
mutexes_by_seven = mutex_got ∷ mutex_asked_for ∷ []

-- ---- what is gathered of them

abbrev pub all_told : Settings
all_told = record { interrupts = true; readers = true }

abbrev pub behind_lines : List (List ℕ) → Gathered
behind_lines lines = with_lines (nothing_gathered all_told) lines

abbrev pub behind_mutex_lines : List (List ℕ) → Gathered
behind_mutex_lines lines = with_mutex_lines (nothing_gathered all_told) lines

abbrev pub step : ℕ → Step
step number = record { of = Of number; place = 0; tried = false }

-- B is asked for, under A
abbrev pub b_under_a : Kept
b_under_a = asking (step 0 ∷ []) (step 1)

-- the pair of A and B is known then, and not the other way round. One request is kept of it, however
-- many tasks ask so. The types have their names at the end, and that of a mutex that is asked for alone
-- is held by nobody
pub record PairIsMet : Type 0 where
  pub known : has_pair (behind_lines by_seven).requests.pairs (Of 0) (Of 1) ≡ true
  pub turned : has_pair (behind_lines by_seven).requests.pairs (Of 1) (Of 0) ≡ false
  pub kept : (behind_lines by_seven).requests.kept ≡ b_under_a ∷ []
  pub again : (behind_lines (by_seven ++ by_eight)).requests.kept ≡ b_under_a ∷ []
  pub mutexes : (behind_mutex_lines mutexes_by_seven).requests.kept ≡ b_under_a ∷ []
  pub mutexes_known :
      has_pair (behind_mutex_lines mutexes_by_seven).requests.pairs (Of 0) (Of 1) ≡ true
  pub name_a : type_named (names_of (behind_lines by_seven)) (Of 0) ≡ (Sleeping, codes "A")
  pub name_b : type_named (names_of (behind_lines by_seven)) (Of 1) ≡ (Sleeping, codes "B")
  pub held : is_held (names_of (behind_lines by_seven)) (Of 1) ≡ true
  pub places : (behind_lines by_seven).places ≡ codes "lock_acquire" ∷ []
  pub unheld : is_held (names_of (behind_mutex_lines mutexes_by_seven)) (Of 1) ≡ false
