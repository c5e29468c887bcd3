-- What the demonstration writes and sums up.
use Rattle.std.specs.Prelude.{ℕ, ◌≡◌, false, List, [], ◌∷◌, ◌++◌, length, reverse, codes, Option}
use Rattle.std.specs.Prelude.{None, Some}
use Rattle.std.specs.Fmt.{decimal}
use Rattle.std.specs.Io.KnownBytes.{Appends, Keeps}
use Rattle.std.specs.List.{flat_map}
use Rattle.wit_model.specs.declared.calls.Entry.{Entry}
use Rattle.wit_model.specs.declared.faults.Fault as fault
use Rattle.wit_model.specs.declared.lines.Cause.TheVariants.{Fault}
use Rattle.wit_model.specs.declared.profiles.Profile.TheVariants.{Plain}
use Rattle.wit_model.specs.Rules.History.{reports_of}
use Rattle.wit_model.specs.Rules.Sizes.{sizes_of}
use Rattle.wit_model.specs.Rules.State.{Start, Story, orders_of}
use Rattle.wit_model.specs.Rules.Step.{IsLegal}
use Rattle.wit_model.specs.Trace.Output.{reply_text}
use Rattle.wit_model.specs.Trace.Texts.{line}
use Rattle.wit_stream.specs.declared.summary.ReplayError.{ReplayError}
use Rattle.wit_stream.specs.declared.summary.ReplayError.TheVariants.{Memory, Read, Write}
use Rattle.wit_stream.specs.declared.summary.Summary.{Summary}
use Rattle.wit_stream.specs.Stream.{AppendsFront}

-- six seats, two locks of a type each, and a log of 4,096 calls
abbrev pub demo_start : Start
demo_start = record { sizes = sizes_of 6 2 2 12 4096; profile = Plain; lists = []; blessed = [] }

-- the reports of these entries, one behind another
abbrev pub reports_text : Story → List Entry → List ℕ
reports_text s entries = flat_map (λ (e : Entry). reply_text s e.reply) entries

-- how many there are of something, as a line
abbrev pub count_line : List ℕ → ℕ → List ℕ
count_line of count = line (of ∷ decimal count ∷ [])

-- the reports of a log, oldest first, and how many calls, orders and reports it has
abbrev pub demo_text : Story → List ℕ
demo_text s =
    reports_text s (reverse s.history)
    ++ (count_line (codes "calls ") (length s.history)
    ++ (count_line (codes "orders ") (length (orders_of s.start s.history))
    ++ count_line (codes "reports ") (reports_of s.history)))

abbrev pub sum_of : Story → Summary
sum_of s =
    record { calls = length s.history; reports = reports_of s.history; circle = false; bad = None }

-- a verifier with the start of the demonstration, whose log is legal
pub record IsShown (story : Story) : Type 0 where
  pub start : story.start ≡ demo_start
  pub legal : IsLegal story.start story.files story.history

-- the text of such a verifier was written, and this sums up its log
pub record IsTold (written_old written_new : Option (List ℕ)) (summary : Summary) : Type 0 where
  pub story : Story
  pub shown : IsShown story
  pub written : Appends written_old written_new (demo_text story)
  pub sum : summary ≡ sum_of story

-- a call was refused, and nothing was written
pub record IsEnded (written_old written_new : Option (List ℕ)) (summary : Summary) : Type 0 where
  pub fault : fault.Fault
  pub untouched : Keeps written_old written_new
  pub sum : summary ≡ record { calls = 0; reports = 0; circle = false; bad = Some (0, Fault fault) }

-- what was written of the text of this verifier where it failed: nothing for want of memory, a
-- beginning where the writer failed; nothing is read
abbrev pub StopsAt : Story → Option (List ℕ) → Option (List ℕ) → ReplayError → Type 0
StopsAt story written_old written_new Read = ⊥
StopsAt story written_old written_new Write =
    AppendsFront written_old written_new (demo_text story)
StopsAt story written_old written_new Memory = Keeps written_old written_new

-- and of the text of some verifier of the demonstration
abbrev pub IsCutShort : Option (List ℕ) → Option (List ℕ) → ReplayError → Type 0
IsCutShort written_old written_new Read = ⊥
IsCutShort written_old written_new Write =
    (story : Story) × IsShown story × AppendsFront written_old written_new (demo_text story)
IsCutShort written_old written_new Memory = Keeps written_old written_new
