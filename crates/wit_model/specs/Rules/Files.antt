-- Source files, by number from 1 in order of first appearance.
use Rattle.std.specs.Prelude.{ℕ, ◌+◌, ◌≡◌, Bool, false, not, ◌&&◌, List, [], ◌∷◌, ◌++◌, length}
use Rattle.std.specs.Prelude.{nat_le, Result, Ok, Err, if◌then◌else◌}
use Rattle.std.specs.List.{list_any, position_or_len}
use Rattle.std.specs.Str.{bytes_eq}
use Rattle.wit_model.specs.declared.faults.Fault.{Fault}
use Rattle.wit_model.specs.declared.faults.Fault.TheVariants.{BadName, FilesFull, OutOfMemory}
use Rattle.wit_model.specs.declared.locks.FileNo.{FileNo}
use Rattle.wit_model.specs.declared.sizes.TheConstants.Limits.{MOST_FILES}
use Rattle.wit_model.specs.Rules.Names.{is_file_name}
use Rattle.wit_model.specs.Rules.Refusals.{IsRefusal}
use Rattle.wit_model.specs.Rules.State.{Story}

-- whether this file was named
abbrev pub is_known_file : List ℕ → List (List ℕ) → Bool
is_known_file name files = list_any (λ (f : List ℕ). bytes_eq f name) files

-- the number of the file; of a new one, the number that it would get
abbrev pub file_number : List ℕ → List (List ℕ) → ℕ
file_number name files = position_or_len (λ (f : List ℕ). bytes_eq f name) files + 1

-- the answer to the naming of a file, want of memory aside: a known file gives its number also
-- where no number is left
abbrev pub file_answer : List ℕ → ℕ → List (List ℕ) → Result ℕ Fault
file_answer name most files =
    if not (is_file_name name) then Err BadName
    else if not (is_known_file name files) && nat_le most (length files) then Err FilesFull
    else Ok (file_number name files)

-- the files once this one is named
abbrev pub files_after : List ℕ → List (List ℕ) → List (List ℕ)
files_after name files = if is_known_file name files then files else files ++ name ∷ []

-- a verifier names so many files at most
abbrev pub naming_answer : Story → List ℕ → Result ℕ Fault
naming_answer story name = file_answer name MOST_FILES story.files

-- naming a file adds it where it is new and changes nothing else; a refusal changes nothing, and a
-- known file isn't refused for want of memory
abbrev pub NamesFile : Story → List ℕ → Result FileNo Fault → Story → Type 0
NamesFile old name (Ok f) new =
    (naming_answer old name ≡ Ok f.0) × (new ≡ record old { files = files_after name old.files })
NamesFile old name (Err fault) new =
    IsRefusal (naming_answer old name) fault
    × (fault ≡ OutOfMemory → is_known_file name old.files ≡ false) × (new ≡ old)
