-- The laws of what is written: each line is one of a trace, and no pair of types is lost.
use Rattle.std.specs.Prelude.{ℕ, ◌≡◌, ◌⊎◌, true, false, List, [], ◌∷◌, ◌++◌, None}
use Rattle.wit_model.specs.declared.lines.Line.{Line}
use Rattle.wit_model.specs.declared.lines.Line.TheVariants.{Assert, Init, OnLock}
use Rattle.wit_model.specs.declared.lines.LockLine.TheVariants.{Check, Try, Unlock, Plain}
use Rattle.wit_model.specs.declared.lines.Verb.TheVariants.{Note, GiveUp}
use Rattle.wit_model.specs.declared.locks.Mode.TheVariants.{Exclusive}
use Rattle.wit_model.specs.declared.locks.SeatNo.{SeatNo}
use Rattle.wit_model.specs.declared.locks.LockNo.{LockNo}
use Rattle.wit_model.specs.Trace.Spelling.{spelling}
use Rattle.wit_import.specs.declared.events.Acquisition.{Acquisition}
use Rattle.wit_import.specs.declared.events.Event.{Event}
use Rattle.wit_import.specs.declared.held.Holding.{Holding}
use Rattle.wit_import.specs.Blocks.{assert_line, check_line, give_up_line, got_line, has_room, init_line}
use Rattle.wit_import.specs.Blocks.{lines_with, pair_text, try_line, unlock_line}
use Rattle.wit_import.specs.Held.{asks_again, is_of}
use Rattle.wit_import.specs.Names.{has_name}
use Rattle.wit_import.specs.Outputs.{Seen, after_asking, nothing_seen, seen_after, text_of_event}

-- ---- lines

abbrev pub line_text : Line → List ℕ
line_text line = spelling line ++ 10 ∷ []

abbrev pub seat : SeatNo
seat = record { 0 = 1 }

abbrev pub lock : ℕ → LockNo
lock n = record { 0 = n }

-- on lock n, and by an acquisition, these lines of a trace are written, and no other
pub record AreSpelled (n : ℕ) (a : Acquisition) : Type 0 where
  pub init : init_line a.class a.name
      ≡ line_text (Init seat (record {
        class = a.class;
        flags = record { 0 = 1 };
        name = a.name;
        type_name = None;
      }))
  pub check : check_line n a
      ≡ line_text (OnLock (Check seat (lock n) Exclusive (record { 0 = 1 }) a.file a.line))
  pub tried : try_line n a ≡ line_text (OnLock (Try seat (lock n) Exclusive a.file a.line))
  pub got : got_line n ≡ line_text (OnLock (Plain Note seat (lock n)))
  pub given_up : give_up_line n ≡ line_text (OnLock (Plain GiveUp seat (lock n)))
  pub asserted : assert_line n ≡ line_text (Assert seat (lock n) (record { 0 = 2 }))
  pub released : unlock_line n ≡ line_text (OnLock (Unlock seat (lock n) Exclusive))

abbrev pub LinesAreSpelled : Type 0
LinesAreSpelled = (n : ℕ) (a : Acquisition) → AreSpelled n a

-- ---- a run of events

abbrev pub seen_behind : Seen → List Event → Seen
seen_behind s [] = s
seen_behind s (event ∷ events) = seen_behind (seen_after s event) events

abbrev pub text_behind : Seen → List Event → List ℕ
text_behind s [] = []
text_behind s (event ∷ events) = text_of_event s event ++ text_behind (seen_after s event) events

-- ---- what a text tells

abbrev pub IsAmong : Holding → List Holding → Type 0
IsAmong h [] = ⊥
IsAmong h (first ∷ held) = (h ≡ first) ⊎ IsAmong h held

-- the text has the lines of a request by a thread that holds one of these, of which the types are
-- this pair
pub record TellsPair (text pair : List ℕ) : Type 0 where
  pub before : List ℕ
  pub after : List ℕ
  pub types : List (List ℕ)
  pub held : List Holding
  pub asked : Acquisition
  pub holding : Holding
  pub parted : text ≡ before ++ (lines_with types held asked ++ after)
  pub among : IsAmong holding held
  pub own : is_of asked.thread holding ≡ true
  pub names : pair ≡ pair_text holding.acquisition.name asked.name

-- ---- laws

-- each pair that counts as written was written
abbrev pub PairsAreTold : Type 0
PairsAreTold = (events : List Event) (pair : List ℕ)
    → has_name (seen_behind nothing_seen events).told.pairs pair ≡ true
    → TellsPair (text_behind nothing_seen events) pair

-- after a request each of its pairs counts as written: that of each lock that its thread holds. So it
-- is but for a reader that asks for what it reads, and where a trace has no room for its types
abbrev pub RequestsAreWritten : Type 0
RequestsAreWritten = (s : Seen) (a : Acquisition) (h : Holding)
    → asks_again s.held a ≡ false → has_room s.told.types s.held a ≡ true
    → IsAmong h s.held → is_of a.thread h ≡ true
    → has_name (after_asking s a).told.pairs (pair_text h.acquisition.name a.name) ≡ true
