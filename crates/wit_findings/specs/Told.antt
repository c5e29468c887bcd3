-- What is known of a recording so far.
use Rattle.std.specs.Prelude.{ℕ, ◌==◌, List, [], ◌∷◌, Option, Some, None}
use Rattle.std.specs.Prelude.{unwrap_or, replicate, codes, if◌then◌else◌}
use Rattle.wit_model.specs.declared.lines.Cause.{Cause}
use Rattle.wit_model.specs.declared.profiles.Profile.TheVariants.{AllHeld}
use Rattle.wit_model.specs.declared.sizes.TheConstants.Limits.{MOST_SEATS, MOST_TYPES, MOST_LOCKS}
use Rattle.wit_model.specs.declared.sizes.TheConstants.Limits.{MOST_CHUNKS, MOST_ENTRIES}
use Rattle.wit_model.specs.Rules.Numbers.{with_number}
use Rattle.wit_model.specs.Rules.Sizes.{sizes_of}
use Rattle.wit_model.specs.Rules.State.{Start, Story, fresh}
use Rattle.wit_tellings.specs.Heard.{Heard, heard, nothing_heard}
use Rattle.wit_findings.specs.declared.recording.Recording.{Recording}
use Rattle.wit_findings.specs.declared.recording.Reported.{Reported}
use Rattle.wit_findings.specs.declared.spots.Spot.{Spot}

-- the number of the process, where it has one; the verifier's story; the types' names by their numbers;
-- for each lock of the recording its number in the story, 0 where it is none there, and the other way
-- round; for each seat the thread that has it, 0 where none is known; where locks were asked for; what
-- was told of single locks and of threads; the reports of orders; how many lines were bad, and the first
pub record Told : Type 0 where
  pub process : Option ℕ
  pub story : Story
  pub names : List (ℕ × List ℕ)
  pub locks : List ℕ
  pub made : List ℕ
  pub threads : List ℕ
  pub spots : List Spot
  pub heard : Heard
  pub reports : List Reported
  pub bads : ℕ
  pub bad : Option (ℕ × Cause)

abbrev pub told : Recording → Told
told r = record {
  process = r.process;
  story = r.verifier;
  names = r.names.items;
  locks = r.locks.items;
  made = r.made.items;
  threads = r.threads.items;
  spots = r.spots.items;
  heard = heard r.tellings;
  reports = r.reports.items;
  bads = r.bads;
  bad = r.bad;
}

-- all held locks are compared with, and there is as much room as can be
abbrev pub start : Start
start = record {
  sizes = sizes_of MOST_SEATS MOST_TYPES MOST_LOCKS MOST_CHUNKS MOST_ENTRIES;
  profile = AllHeld;
  lists = [];
  blessed = [];
}

-- no thread is known
unfoldable pub no_threads : List ℕ
no_threads = replicate MOST_SEATS 0

-- nothing of a process. Places are told by their numbers among these, as lines of one file
abbrev pub nothing_of : Option ℕ → Told
nothing_of process = record {
  process = process;
  story = record (fresh start) { files = codes "@" ∷ [] };
  names = [];
  locks = [];
  made = [];
  threads = no_threads;
  spots = [];
  heard = nothing_heard;
  reports = [];
  bads = 0;
  bad = None;
}

-- the name of the types of this number: it never changes
abbrev pub named_type : List (ℕ × List ℕ) → ℕ → Option (List ℕ)
named_type [] n = None
named_type (x ∷ names) n = if x.0 == n then Some x.1 else named_type names n

-- the number that the story has for a lock of the recording, 0 for none
abbrev pub lock_number : Told → ℕ → ℕ
lock_number t lock = unwrap_or (with_number t.locks lock) 0

-- the thread that has a seat, 0 where none is known
abbrev pub thread_of : Told → ℕ → ℕ
thread_of t seat = unwrap_or (with_number t.threads seat) 0

-- the number that the recording has for a lock of the story
abbrev pub number_of : Told → ℕ → ℕ
number_of t lock = unwrap_or (with_number t.made lock) 0
