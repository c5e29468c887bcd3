-- A request for a B under an A: what is known and kept of the lines that tell it.
use Rattle.std.proofs.Common.{◌≡◌, ℕ, List, [], ◌∷◌, ◌++◌, Some, refl, ap, ◌∙◌, codes, true, false, slice_get, take}
use Rattle.std.specs.Fmt.{digits}
use Rattle.wit_traced.specs.declared.contexts.Context.TheVariants.{Task}
use Rattle.wit_traced.specs.declared.contexts.Masked.TheVariants.{All}
use Rattle.wit_traced.specs.declared.contexts.Preemption.TheVariants.{Untold}
use Rattle.wit_traced.specs.declared.events.MutexDeed.{MutexDeed}
use Rattle.wit_traced.specs.declared.events.MutexDeed.TheVariants.{Asks, Gets}
use Rattle.wit_traced.specs.Doings.{Does}
use Rattle.wit_traced.specs.Examples.{acquires, by_task, releases, seven_gets_a, seven_gets_b, seven_frees_a}
use Rattle.wit_traced.specs.Examples.{seven_frees_b, eight_gets_a, eight_gets_b, mutex_got, mutex_asked_for}
use Rattle.wit_traced.specs.Lines.{told_of}
use Rattle.wit_traced.specs.Lttng.{mutex_told}
use Rattle.wit_traced.specs.Tellings.{Telling, Tells}
use Rattle.wit_traced.proofs.Examples.{behind-zero-a, behind-zero-b, lines-read, onward-a, onward-b, zero-a, zero-b}
use Rattle.wit_gathered.specs.Example.{PairIsMet, all_told, b_under_a, behind_lines, behind_mutex_lines}
use Rattle.wit_gathered.specs.Example.{by_eight, by_seven, mutexes_by_seven}
use Rattle.wit_gathered.specs.Gathering.{Gathered, acquiring, nothing_gathered, with_telling}
use Rattle.wit_gathered.specs.Laws.{with_lines, with_mutex_lines}
use Rattle.wit_gathered.specs.declared.types.Type.TheVariants.{Of}
use Rattle.wit_gathered.specs.Reading.{line_read, mutex_line_read}
use Rattle.wit_gathered.specs.Entries.{Named}
use Rattle.wit_gathered.specs.Naming.{class_and_name, class_name, cleaned, full_name, is_held, names_of, none_named}
use Rattle.wit_gathered.specs.Naming.{subclass_text, type_named, unless_empty, with_first, writers_held}
use Rattle.wit_gathered.specs.Requests.{has_pair}
use Rattle.wit_gathered.specs.Types.{new_facts}
use Rattle.wit_gathered.specs.declared.naming.LockClass.TheVariants.{Sleeping}
use Rattle.wit_gathered.specs.declared.naming.TheConstants.{LONGEST}
use Rattle.wit_gathered.specs.declared.types.Facts.{Facts}
use Rattle.wit_gathered.specs.declared.types.Origin.TheVariants.{Lockdep}
use Rattle.wit_traced.specs.Pieces.{before, rest}

start : Gathered
start = nothing_gathered all_told

-- ---- what the lines tell, one after the other

abbrev told_all : Gathered → List Telling → Gathered
told_all g [] = g
told_all g (t ∷ tellings) = told_all (with_telling g t) tellings

abbrev AreRead : List (List ℕ) → List Telling → Type 0
AreRead lines tellings = (g : Gathered) → with_lines g lines ≡ told_all g tellings

abbrev AreMutexesRead : List (List ℕ) → List Telling → Type 0
AreMutexesRead lines tellings = (g : Gathered) → with_mutex_lines g lines ≡ told_all g tellings

module _ (line : List ℕ) (t : Telling) (lines : List (List ℕ)) (tellings : List Telling) where
  first : told_of line ≡ Some t → AreRead lines tellings → AreRead (line ∷ lines) (t ∷ tellings)
  first told others g =
      ap (λ (h : Gathered). with_lines h lines) (ap (line_read g line) told)
      ∙ others (with_telling g t)

  first-mutex : mutex_told line ≡ Some t → AreMutexesRead lines tellings
      → AreMutexesRead (line ∷ lines) (t ∷ tellings)
  first-mutex told others g =
      ap (λ (h : Gathered). with_mutex_lines h lines) (ap (mutex_line_read g) told)
      ∙ others (with_telling g t)

none : AreRead [] []
none g = refl

none-mutex : AreMutexesRead [] []
none-mutex g = refl

-- ---- what the lines of the example tell

abbrev gets : ℕ → ℕ → List ℕ → Telling
gets task lock name = by_task task (acquires lock name)

abbrev frees : ℕ → ℕ → Telling
frees task lock = by_task task (releases lock)

abbrev does : MutexDeed → ℕ → Telling
does of lock = Tells (Task 7) All Untold (Does of lock (codes "?"))

abbrev told_by_eight : List Telling
told_by_eight =
    frees 7 32 ∷ frees 7 16 ∷ gets 8 16 (codes "A") ∷ gets 8 32 (codes "B") ∷ []

abbrev told_by_seven : List Telling
told_by_seven = gets 7 16 (codes "A") ∷ gets 7 32 (codes "B") ∷ []

abbrev told_of_mutexes : List Telling
told_of_mutexes = does Gets 16 ∷ does Asks 32 ∷ []

-- those of the second task, from its first request on, and from its second one on
eight-got-b : AreRead (eight_gets_b ∷ []) (gets 8 32 (codes "B") ∷ [])
eight-got-b = first eight_gets_b (gets 8 32 (codes "B")) [] [] lines-read.eight_b none

eight-got : AreRead (eight_gets_a ∷ eight_gets_b ∷ []) (gets 8 16 (codes "A") ∷ gets 8 32 (codes "B") ∷ [])
eight-got =
    first eight_gets_a (gets 8 16 (codes "A")) (eight_gets_b ∷ []) (gets 8 32 (codes "B") ∷ [])
    lines-read.eight_a eight-got-b

freed-a : AreRead (seven_frees_a ∷ eight_gets_a ∷ eight_gets_b ∷ [])
    (frees 7 16 ∷ gets 8 16 (codes "A") ∷ gets 8 32 (codes "B") ∷ [])
freed-a =
    first seven_frees_a (frees 7 16) (eight_gets_a ∷ eight_gets_b ∷ [])
    (gets 8 16 (codes "A") ∷ gets 8 32 (codes "B") ∷ []) lines-read.seven_without_a eight-got

eight-read : AreRead by_eight told_by_eight
eight-read =
    first seven_frees_b (frees 7 32) (seven_frees_a ∷ eight_gets_a ∷ eight_gets_b ∷ [])
    (frees 7 16 ∷ gets 8 16 (codes "A") ∷ gets 8 32 (codes "B") ∷ []) lines-read.seven_without_b
    freed-a

got-b : (lines : List (List ℕ)) (tellings : List Telling) → AreRead lines tellings
    → AreRead (seven_gets_b ∷ lines) (gets 7 32 (codes "B") ∷ tellings)
got-b lines tellings rest =
    first seven_gets_b (gets 7 32 (codes "B")) lines tellings lines-read.seven_b rest

got : (lines : List (List ℕ)) (tellings : List Telling) → AreRead lines tellings
    → AreRead (by_seven ++ lines) (told_by_seven ++ tellings)
got lines tellings rest =
    first seven_gets_a (gets 7 16 (codes "A")) (seven_gets_b ∷ lines)
    (gets 7 32 (codes "B") ∷ tellings) lines-read.seven_a (got-b lines tellings rest)

mutex-asked : AreMutexesRead (mutex_asked_for ∷ []) (does Asks 32 ∷ [])
mutex-asked = first-mutex mutex_asked_for (does Asks 32) [] [] lines-read.asked_for none-mutex

mutexes-read : AreMutexesRead mutexes_by_seven told_of_mutexes
mutexes-read =
    first-mutex mutex_got (does Gets 16) (mutex_asked_for ∷ []) (does Asks 32 ∷ []) lines-read.got
    mutex-asked

-- ---- what is gathered

kept : (told_all start told_by_seven).requests.kept ≡ b_under_a ∷ []
unfolding start acquiring
kept = refl

known : has_pair (told_all start told_by_seven).requests.pairs (Of 0) (Of 1) ≡ true
unfolding start acquiring
known = refl

turned : has_pair (told_all start told_by_seven).requests.pairs (Of 1) (Of 0) ≡ false
unfolding start acquiring
turned = refl

again : (told_all start (told_by_seven ++ told_by_eight)).requests.kept ≡ b_under_a ∷ []
unfolding start acquiring
again = refl

mutexes : (told_all start told_of_mutexes).requests.kept ≡ b_under_a ∷ []
unfolding start acquiring digits
mutexes = refl

mutexes-known : has_pair (told_all start told_of_mutexes).requests.pairs (Of 0) (Of 1) ≡ true
unfolding start acquiring digits
mutexes-known = refl

-- ---- the names of the types

abbrev seven : Gathered
seven = told_all start told_by_seven

full-a : full_name Lockdep (codes " 0 A") ≡ codes "A"
full-a =
    ap (λ (text : List ℕ). class_name (rest text)) onward-a
    ∙ ap (λ (text : List ℕ). cleaned (rest text) ++ subclass_text (before 32 (codes "0 A")))
    behind-zero-a
    ∙ ap (λ (text : List ℕ). codes "A" ++ subclass_text text) zero-a

full-b : full_name Lockdep (codes " 0 B") ≡ codes "B"
full-b =
    ap (λ (text : List ℕ). class_name (rest text)) onward-b
    ∙ ap (λ (text : List ℕ). cleaned (rest text) ++ subclass_text (before 32 (codes "0 B")))
    behind-zero-b
    ∙ ap (λ (text : List ℕ). codes "B" ++ subclass_text text) zero-b

learnt : Facts
learnt = record (new_facts Lockdep) { sleeps = true; held = true }

-- with these texts for their names
abbrev named : List ℕ → List ℕ → List Named
named a b =
    (with_first (with_first none_named learnt (unless_empty (take LONGEST a))) learnt
    (unless_empty (take LONGEST b))).named

parted : (names_of seven).named
    ≡ named (full_name Lockdep (codes " 0 A")) (full_name Lockdep (codes " 0 B"))
unfolding start acquiring learnt
parted = refl

names : (names_of seven).named ≡ named (codes "A") (codes "B")
names =
    parted ∙ ap (λ (a : List ℕ). named a (full_name Lockdep (codes " 0 B"))) full-a
    ∙ ap (named (codes "A")) full-b

name-a : type_named (names_of seven) (Of 0) ≡ (Sleeping, codes "A")
unfolding learnt
name-a = ap (λ (all : List Named). class_and_name false (slice_get all 0)) names

name-b : type_named (names_of seven) (Of 1) ≡ (Sleeping, codes "B")
unfolding learnt
name-b = ap (λ (all : List Named). class_and_name false (slice_get all 1)) names

held : is_held (names_of seven) (Of 1) ≡ true
unfolding learnt
held = ap (λ (all : List Named). writers_held (slice_get all 1)) names

places : seven.places ≡ codes "lock_acquire" ∷ []
unfolding start acquiring
places = refl

unheld : is_held (names_of (told_all start told_of_mutexes)) (Of 1) ≡ false
unfolding start acquiring digits
unheld = refl

seven-read : behind_lines by_seven ≡ seven
unfolding start
seven-read = got [] [] none start

mutex-lines-read : behind_mutex_lines mutexes_by_seven ≡ told_all start told_of_mutexes
unfolding start
mutex-lines-read = mutexes-read start

pub pair-met : PairIsMet
unfolding start
pair-met = record {
  known = ap (λ (g : Gathered). has_pair g.requests.pairs (Of 0) (Of 1)) seven-read ∙ known;
  turned = ap (λ (g : Gathered). has_pair g.requests.pairs (Of 1) (Of 0)) seven-read ∙ turned;
  kept = ap (λ (g : Gathered). g.requests.kept) seven-read ∙ kept;
  again = ap (λ (g : Gathered). g.requests.kept) (got by_eight told_by_eight eight-read start) ∙ again;
  mutexes = ap (λ (g : Gathered). g.requests.kept) mutex-lines-read ∙ mutexes;
  mutexes_known =
      ap (λ (g : Gathered). has_pair g.requests.pairs (Of 0) (Of 1)) mutex-lines-read ∙ mutexes-known;
  name_a = ap (λ (g : Gathered). type_named (names_of g) (Of 0)) seven-read ∙ name-a;
  name_b = ap (λ (g : Gathered). type_named (names_of g) (Of 1)) seven-read ∙ name-b;
  held = ap (λ (g : Gathered). is_held (names_of g) (Of 1)) seven-read ∙ held;
  places = ap (λ (g : Gathered). g.places) seven-read ∙ places;
  unheld = ap (λ (g : Gathered). is_held (names_of g) (Of 1)) mutex-lines-read ∙ unheld;
}
