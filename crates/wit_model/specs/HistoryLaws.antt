-- Laws of histories that go on: what stays in every longer one. Lists are newest first.
use Rattle.std.specs.Prelude.{ℕ, ◌+◌, ◌≡◌, Bool, true, List, ◌∷◌, ◌++◌, length, reverse, Some, Err}
use Rattle.std.specs.List.{list_all}
use Rattle.wit_model.specs.declared.faults.Fault.TheVariants.{UnknownFile}
use Rattle.wit_model.specs.declared.locks.TypeNo.{TypeNo}
use Rattle.wit_model.specs.declared.locks.LockNo.{LockNo}
use Rattle.wit_model.specs.declared.locks.Mode.{Mode}
use Rattle.wit_model.specs.declared.locks.Site.{Site}
use Rattle.wit_model.specs.declared.calls.Request.{Request}
use Rattle.wit_model.specs.declared.locks.Origin.{Origin}
use Rattle.wit_model.specs.declared.calls.Adoption.{Adoption}
use Rattle.wit_model.specs.declared.calls.Call.{Call}
use Rattle.wit_model.specs.declared.calls.Call.TheVariants.{Check, NoteTry}
use Rattle.wit_model.specs.declared.calls.Reply.TheVariants.{Adopted}
use Rattle.wit_model.specs.declared.calls.Entry.{Entry}
use Rattle.wit_model.specs.Rules.Beginnings.{IsBeginning}
use Rattle.wit_model.specs.Rules.Files.{is_known_file, file_number, files_after}
use Rattle.wit_model.specs.Rules.History.{own_entries}
use Rattle.wit_model.specs.Rules.Numbers.{is_number, with_number}
use Rattle.wit_model.specs.Rules.State.{Start, Story, orders_of}
use Rattle.wit_model.specs.Rules.Step.{answer_of, IsLegal}

-- ---- entries

-- a seat's entries are those of what came before and those of what came later
abbrev pub OwnEntriesJoin : Type 0
OwnEntriesJoin =
    (t : ℕ) (later h : List Entry)
    → own_entries t (later ++ h) ≡ own_entries t later ++ own_entries t h

-- how a legal history began is legal
abbrev pub BeginningsAreLegal : Type 0
BeginningsAreLegal =
    (start : Start) (files : List (List ℕ)) (h whole : List Entry)
    → IsBeginning h whole → IsLegal start files whole → IsLegal start files h

-- ---- files

-- whether the source file that the call tells, where it tells one, has one of the first n numbers
abbrev pub tells_among : ℕ → Call → Bool
tells_among n (Check q) = is_number n q.site.file.0
tells_among n (NoteTry l mode site) = is_number n site.file.0
tells_among n _ = true

-- whether all calls of a history tell of the first n files alone
abbrev pub all_tell_among : ℕ → List Entry → Bool
all_tell_among n h = list_all (λ (e : Entry). tells_among n e.call) h

-- a legal history tells of files that are there
abbrev pub LegalTellsOfFiles : Type 0
LegalTellsOfFiles =
    (start : Start) (files : List (List ℕ)) (h : List Entry)
    → IsLegal start files h → all_tell_among (length files) h ≡ true

-- and it is legal over any others, more or fewer, of which it tells none that isn't there
abbrev pub ToldFilesSuffice : Type 0
ToldFilesSuffice =
    (start : Start) (files others : List (List ℕ)) (h : List Entry)
    → IsLegal start files h → all_tell_among (length others) h ≡ true → IsLegal start others h

-- files are added behind those that are there
abbrev pub FilesAreAdded : Type 0
FilesAreAdded =
    (name : List ℕ) (files : List (List ℕ))
    → (more : List (List ℕ)) × (files_after name files ≡ files ++ more)

-- a file that was named has the number that it was given
abbrev pub NamedFilesAreThere : Type 0
NamedFilesAreThere =
    (name : List ℕ) (files : List (List ℕ))
    → with_number (files_after name files) (file_number name files) ≡ Some name

-- whoever has a number keeps it in every longer list
abbrev pub FilesKeepNumbers : Type 0
FilesKeepNumbers =
    (files more : List (List ℕ)) (n : ℕ) (name : List ℕ)
    → with_number files n ≡ Some name → with_number (files ++ more) n ≡ Some name

-- and its name, named again, gives the same number
abbrev pub NamesKeepNumbers : Type 0
NamesKeepNumbers =
    (name : List ℕ) (files more : List (List ℕ))
    → is_known_file name files ≡ true → file_number name (files ++ more) ≡ file_number name files

-- a named file is never unknown to a check, nor to a try
abbrev pub ChecksKnowFiles : Type 0
ChecksKnowFiles =
    (s : Story) (t : ℕ) (q : Request)
    → is_number (length s.files) q.site.file.0 ≡ true → answer_of s t (Check q) ≡ Err UnknownFile
    → ⊥

abbrev pub TriesKnowFiles : Type 0
TriesKnowFiles =
    (s : Story) (t : ℕ) (l : LockNo) (mode : Mode) (site : Site)
    → is_number (length s.files) site.file.0 ≡ true
    → answer_of s t (NoteTry l mode site) ≡ Err UnknownFile → ⊥

-- ---- orders

-- the direct orders are numbered as they were adopted, those of static lists first
abbrev pub adoptions : Start → List Entry → List Adoption
adoptions start h = reverse (orders_of start h)

-- orders are added behind those that are there
abbrev pub OrdersAreAdded : Type 0
OrdersAreAdded =
    (start : Start) (later h : List Entry)
    → (news : List Adoption) × (adoptions start (later ++ h) ≡ adoptions start h ++ news)

-- so each keeps its number in every longer history
abbrev pub OrdersKeepNumbers : Type 0
OrdersKeepNumbers =
    (start : Start) (later h : List Entry) (n : ℕ) (o : Adoption)
    → with_number (adoptions start h) n ≡ Some o
    → with_number (adoptions start (later ++ h)) n ≡ Some o

-- and the pair of a reply that adopts one has the number behind those adopted until then
abbrev pub AdoptedAreNumbered : Type 0
AdoptedAreNumbered =
    (start : Start) (files : List (List ℕ)) (e : Entry) (later h : List Entry) (a b : TypeNo)
    → IsLegal start files (e ∷ h) → e.reply ≡ Adopted a b
    → (origin : Origin)
    × (with_number (adoptions start (later ++ e ∷ h)) (length (orders_of start h) + 1)
    ≡ Some (record { parent = a; child = b; origin = origin }))
