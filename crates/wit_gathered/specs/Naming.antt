-- The names and classes of types, once all lines are read.
use Rattle.std.specs.Prelude.{ℕ, ◌+◌, ◌-◌, ◌^◌, Bool, true, false, ◌&&◌, ◌||◌, not, List, [], ◌∷◌, ◌++◌, Option}
use Rattle.std.specs.Prelude.{Some, None, codes, length, map, min, nat_eq, nat_le, nat_lt, slice_get, slice_set, take}
use Rattle.std.specs.Prelude.{unwrap_or, if◌then◌else◌}
use Rattle.std.specs.Fmt.{decimal}
use Rattle.std.specs.Option.{option_map}
use Rattle.std.specs.Str.{bytes_eq}
use Rattle.wit_traced.specs.Pieces.{before, begins, onward, rest}
use Rattle.wit_gathered.specs.declared.naming.LockClass.{LockClass}
use Rattle.wit_gathered.specs.declared.naming.LockClass.TheVariants as class
use Rattle.wit_gathered.specs.declared.naming.Maker.{Maker}
use Rattle.wit_gathered.specs.declared.naming.Naming.{Naming}
use Rattle.wit_gathered.specs.declared.naming.TheConstants.{LONGEST}
use Rattle.wit_gathered.specs.declared.types.Facts.{Facts}
use Rattle.wit_gathered.specs.declared.types.Origin.{Origin}
use Rattle.wit_gathered.specs.declared.types.Origin.TheVariants.{Lockdep, Static, Place, Mutex}
use Rattle.wit_gathered.specs.declared.types.Type.{«Type»}
use Rattle.wit_gathered.specs.declared.types.Type.TheVariants as kind
use Rattle.wit_gathered.specs.Entries.{Named}
use Rattle.wit_gathered.specs.Gathering.{Gathered}
use Rattle.wit_gathered.specs.Merging.{merged}
use Rattle.wit_gathered.specs.Names.{number_in, with_name, written}
use Rattle.wit_gathered.specs.Types.{Known, first_of}

-- ---- names

-- a byte that a name may have
abbrev pub clean : ℕ → ℕ
clean b =
    if nat_eq b 34 || nat_eq b 92 then 95 else if nat_le 32 b && nat_le b 126 then b else 95

abbrev pub cleaned : List ℕ → List ℕ
cleaned text = map clean text

abbrev pub subclass_text : List ℕ → List ℕ
subclass_text subclass =
    if bytes_eq subclass (codes "0") then [] else 47 ∷ cleaned subclass

-- of the subclass and the name, which stand behind the key: the name, and the subclass where it isn't 0
abbrev pub class_name : List ℕ → List ℕ
class_name text = cleaned (rest (onward 32 text)) ++ subclass_text (before 32 text)

abbrev pub place_name : List ℕ → List ℕ
place_name text =
    (if begins (codes "@") text then codes "sleep@" else codes "spinlock@") ++ cleaned (rest text)

abbrev pub full_name : Origin → List ℕ → List ℕ
full_name Lockdep text = class_name (rest (onward 32 text))
full_name Static text = cleaned (rest text)
full_name Mutex text = cleaned text
full_name Place text = place_name text

abbrev pub unless_empty : List ℕ → List ℕ
unless_empty name = if nat_eq (length name) 0 then 63 ∷ [] else name

-- cut, with room for what stands behind it
abbrev pub base_name : Origin → List ℕ → List ℕ
base_name origin text = unless_empty (take LONGEST (full_name origin text))

-- ---- how often a name was given

pub record Given : Type 0 where
  pub names : List (List ℕ)
  pub times : List ℕ

abbrev pub one_more : ℕ → ℕ
one_more n = min (n + 1) (2 ^ 64 - 1)

abbrev pub times_with : List ℕ → ℕ → Option ℕ → List ℕ
times_with times n None = times ++ 1 ∷ []
times_with times n (Some t) = slice_set times n (one_more t)

abbrev pub giving : Given → List ℕ → Given
giving g name =
    let n = number_in g.names name in
    record {
      names = with_name g.names name;
      times = times_with g.times n (slice_get g.times n);
    }

abbrev pub times_given : Given → List ℕ → ℕ
times_given g name =
    unwrap_or (option_map one_more (slice_get g.times (number_in g.names name))) 1

-- a name that was given already has a number behind it
abbrev pub name_by_times : List ℕ → ℕ → List ℕ
name_by_times name times = if nat_lt 1 times then name ++ 35 ∷ decimal times else name

-- ---- all types, by their numbers

pub record NamedSoFar : Type 0 where
  pub given : Given
  pub named : List Named

abbrev pub none_named : NamedSoFar
none_named = record { given = record { names = []; times = [] }; named = [] }

abbrev pub so_far : Maker → NamedSoFar
so_far m = record {
  given = record { names = written m.given.keys; times = m.times.items };
  named = m.entries.items;
}

abbrev pub with_given : NamedSoFar → List ℕ → NamedSoFar
with_given s name = record s { given = giving s.given name }

abbrev pub with_entry : NamedSoFar → Named → NamedSoFar
with_entry s e = record s { named = s.named ++ e ∷ [] }

-- the first of those that are one gets a name
abbrev pub with_first : NamedSoFar → Facts → List ℕ → NamedSoFar
with_first s facts name =
    record {
      given = giving s.given name;
      named =
          s.named
          ++ (record { facts = facts; name = name_by_times name (times_given s.given name) }) ∷ [];
    }

abbrev pub with_other : NamedSoFar → Option Named → NamedSoFar
with_other s None = s
with_other s (Some first) = with_entry s first

abbrev pub with_type : Known → NamedSoFar → ℕ → Facts → NamedSoFar
with_type k s n f =
    if nat_eq (first_of k.firsts n) n
    then with_first s (merged n f k.firsts k.facts)
    (base_name f.origin (unwrap_or (slice_get k.texts n) []))
    else with_other s (slice_get s.named (first_of k.firsts n))

abbrev pub with_types : Known → NamedSoFar → ℕ → List Facts → NamedSoFar
with_types k s n [] = s
with_types k s n (f ∷ facts) = with_types k (with_type k s n f) (n + 1) facts

pub record Names : Type 0 where
  pub named : List Named
  pub hard : Bool
  pub soft : Bool

abbrev pub names : Naming → Names
names n = record { named = n.entries.items; hard = n.hard; soft = n.soft }

abbrev pub names_of : Gathered → Names
names_of g = record {
  named = (with_types g.known none_named 0 g.known.facts).named;
  hard = g.hard;
  soft = g.soft;
}

-- ---- a type

abbrev pub writers_held : Option Named → Bool
writers_held None = false
writers_held (Some e) = e.facts.held || (not e.facts.has_readers && e.facts.held_by_readers)

abbrev pub readers_held : Option Named → Bool
readers_held None = false
readers_held (Some e) = e.facts.held_by_readers || (not e.facts.has_readers && e.facts.held)

-- somebody held it, or what else goes by its name
abbrev pub is_held : Names → «Type» → Bool
is_held n kind.Hardirq = n.hard
is_held n kind.Softirq = n.soft
is_held n (kind.Of t) = writers_held (slice_get n.named t)
is_held n (kind.ReadersOf t) = readers_held (slice_get n.named t)

abbrev pub class_of : Facts → LockClass
class_of f = if f.has_readers then class.Readers else if f.spins then class.Mutex else class.Sleeping

abbrev pub readers_text : Bool → List ℕ
readers_text apart = if apart then codes "(read)" else []

abbrev pub mutex_named : List ℕ → LockClass × List ℕ
mutex_named name = (class.Mutex, name)

abbrev pub class_and_name : Bool → Option Named → LockClass × List ℕ
class_and_name readers None = mutex_named (codes "?")
class_and_name readers (Some e) =
    (class_of e.facts, e.name ++ readers_text (readers && e.facts.has_readers))

abbrev pub type_named : Names → «Type» → LockClass × List ℕ
type_named n kind.Hardirq = mutex_named (codes "<hardirq>")
type_named n kind.Softirq = mutex_named (codes "<softirq>")
type_named n (kind.Of t) = class_and_name false (slice_get n.named t)
type_named n (kind.ReadersOf t) = class_and_name true (slice_get n.named t)
