-- A table as its callers see it, and what it keeps.
use Rattle.std.specs.Prelude.{ℕ, ◌≤◌, ◌≡◌, true, List, length}
use Rattle.std.specs.List.{All}
use Rattle.wit_model.specs.declared.locks.LockType.{LockType}
use Rattle.wit_model.specs.declared.sizes.TheConstants.Limits.{MOST_TYPES, MOST_LOCKS, MOST_FILES}
use Rattle.wit_model.specs.Rules.Names.{is_name, is_file_name}
use Rattle.wit_table.specs.declared.table.Table.TheInside.{Inside}
use Rattle.wit_table.specs.Known.{Names}
use Rattle.wit_table.specs.Rows.{types_in, live_in, texts}

abbrev pub names_in : Inside → Names
names_in t = record {
  types = types_in t.types.entries;
  live = live_in t.types.entries;
  files = texts t.files.keys;
  blessed = t.blessed.items;
  most_types = t.most_types;
  most_files = t.most_files;
}

-- names are names, no list is longer than it may be, and no count is greater than the number of
-- locks ever made
pub record AreKept (n : Names) : Type 0 where
  pub types : length n.types ≤ n.most_types
  pub most_types : n.most_types ≤ MOST_TYPES
  pub names : All (λ (t : LockType). is_name t.name ≡ true) n.types
  pub live : All (λ (count : ℕ). count ≤ MOST_LOCKS) n.live
  pub files : length n.files ≤ n.most_files
  pub most_files : n.most_files ≤ MOST_FILES
  pub file_names : All (λ (f : List ℕ). is_file_name f ≡ true) n.files

abbrev pub IsKept : Inside → Type 0
IsKept t = AreKept (names_in t)
