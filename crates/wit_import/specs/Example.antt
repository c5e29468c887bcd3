-- An example: a thread acquires a lock of type A, and asks under it for one of type B.
use Rattle.std.specs.Prelude.{ℕ, ◌≡◌, true, false, List, [], ◌∷◌, ◌++◌, None, Some, codes}
use Rattle.wit_model.specs.declared.lines.Line.{Line}
use Rattle.wit_model.specs.declared.lines.Line.TheVariants.{Init, OnLock}
use Rattle.wit_model.specs.declared.lines.LockLine.TheVariants.{Check, Unlock, Plain}
use Rattle.wit_model.specs.declared.lines.Verb.TheVariants.{Note, GiveUp}
use Rattle.wit_model.specs.declared.locks.Class.TheVariants.{Sx}
use Rattle.wit_model.specs.declared.locks.Mode.TheVariants.{Exclusive}
use Rattle.wit_import.specs.declared.events.Acquisition.{Acquisition}
use Rattle.wit_import.specs.declared.events.Event.{Event}
use Rattle.wit_import.specs.declared.events.Event.TheVariants.{Asks, Gets}
use Rattle.wit_import.specs.declared.events.Sharing.TheVariants as sharing
use Rattle.wit_import.specs.Blocks.{has_room, pair_text}
use Rattle.wit_import.specs.Held.{asks_again, is_of}
use Rattle.wit_import.specs.Laws.{IsAmong, line_text, lock, seat, seen_behind, text_behind}
use Rattle.wit_import.specs.Names.{has_name}
use Rattle.wit_import.specs.Outputs.{Imports, Seen, ended, header, holding, nothing_seen}
use Rattle.wit_import.specs.Reading.{plain_line}

-- ---- two lines of a script, and what they tell

abbrev pub gets_a : List ℕ
gets_a = codes "acq 1 a A x f+0x1"

abbrev pub asks_b : List ℕ
asks_b = codes "req 1 b B x f+0x2"

abbrev acquisition : List ℕ → List ℕ → List ℕ → Acquisition
acquisition word name file = record {
  thread = codes "1";
  lock = word;
  class = Sx;
  name = name;
  sharing = sharing.Exclusive;
  file = file;
  line = 0;
}

abbrev pub lock_a : Acquisition
lock_a = acquisition (codes "a") (codes "A") (codes "f+0x1")

abbrev pub lock_b : Acquisition
lock_b = acquisition (codes "b") (codes "B") (codes "f+0x2")

abbrev pub b_under_a : List Event
b_under_a = Gets lock_a ∷ Asks lock_b ∷ []

-- ---- the text that is written of them

abbrev pub whole_lines : List (List ℕ) → List ℕ
whole_lines [] = []
whole_lines (line ∷ lines) = line ++ 10 ∷ whole_lines lines

abbrev pub b_under_a_text : List ℕ
b_under_a_text =
    whole_lines (codes "init 1 sx r \"A\"" ∷ codes "init 1 sx r \"A\"" ∷ codes "init 1 sx r \"B\""
    ∷ codes "init 1 sx r \"B\"" ∷ codes "check 1 1 x n f+0x1:0" ∷ codes "lock 1 1"
    ∷ codes "check 1 4 x n f+0x2:0" ∷ codes "giveup 1 4" ∷ codes "unlock 1 1 x" ∷ [])

-- ---- what is met by them

abbrev pub behind_a : Seen
behind_a = seen_behind nothing_seen (Gets lock_a ∷ [])

-- the thread holds A as it asks for B: the pair is new then, and counts as written from then on. It
-- isn't told the other way round
pub record RequestIsMet : Type 0 where
  pub reads_a : plain_line gets_a ≡ Some (Some (Gets lock_a))
  pub reads_b : plain_line asks_b ≡ Some (Some (Asks lock_b))
  pub among : IsAmong (holding lock_a false) behind_a.held
  pub own : is_of lock_b.thread (holding lock_a false) ≡ true
  pub again : asks_again behind_a.held lock_b ≡ false
  pub room : has_room behind_a.told.types behind_a.held lock_b ≡ true
  pub new : has_name behind_a.told.pairs (pair_text (codes "A") (codes "B")) ≡ false
  pub known : has_name (seen_behind nothing_seen b_under_a).told.pairs
      (pair_text (codes "A") (codes "B")) ≡ true
  pub turned : has_name (seen_behind nothing_seen b_under_a).told.pairs
      (pair_text (codes "B") (codes "A")) ≡ false
  pub text : text_behind nothing_seen b_under_a ≡ b_under_a_text
  pub imported : Imports (whole_lines (gets_a ∷ asks_b ∷ [])) (header ++ b_under_a_text) (ended None)

-- ---- the same lines as a trace has them

abbrev made : List ℕ → Line
made name =
    Init seat (record { class = Sx; flags = record { 0 = 1 }; name = name; type_name = None })

abbrev pub b_under_a_lines : List Line
b_under_a_lines =
    made (codes "A") ∷ made (codes "A") ∷ made (codes "B") ∷ made (codes "B")
    ∷ OnLock (Check seat (lock 1) Exclusive (record { 0 = 1 }) (codes "f+0x1") 0)
    ∷ OnLock (Plain Note seat (lock 1))
    ∷ OnLock (Check seat (lock 4) Exclusive (record { 0 = 1 }) (codes "f+0x2") 0)
    ∷ OnLock (Plain GiveUp seat (lock 4))
    ∷ OnLock (Unlock seat (lock 1) Exclusive)
    ∷ []

abbrev pub spelled_lines : List Line → List ℕ
spelled_lines [] = []
spelled_lines (line ∷ lines) = line_text line ++ spelled_lines lines

abbrev pub TextIsSpelled : Type 0
TextIsSpelled = b_under_a_text ≡ spelled_lines b_under_a_lines
