-- The types that were told of, each by the text that tells it from others.
use Rattle.std.specs.Prelude.{ℕ, Bool, true, false, ◌&&◌, ◌||◌, not, List, [], ◌∷◌, ◌++◌, Option, Some, None}
use Rattle.std.specs.Prelude.{codes, length, map, nat_eq, nat_lt, slice_get, slice_set, unwrap_or, if◌then◌else◌}
use Rattle.std.specs.Bool.{beq}
use Rattle.std.specs.Map.{lookup}
use Rattle.std.specs.BTreeMap.{insert_entry as with_symbol_at}
use Rattle.std.specs.Ordering.{nat_cmp}
use Rattle.indexmap.specs.IndexMap.{insert_entry}
use Rattle.wit_traced.specs.declared.events.Kind.{Kind}
use Rattle.wit_traced.specs.declared.events.Kind.TheVariants.{Spins, SpinsForReaders, Sleeps, Map}
use Rattle.wit_traced.specs.declared.events.Reading.{Reading}
use Rattle.wit_traced.specs.declared.events.Reading.TheVariants.{Writes}
use Rattle.wit_traced.specs.declared.events.Call.{Call}
use Rattle.wit_traced.specs.Pieces.{has}
use Rattle.wit_traced.specs.Acquiring.{Acquiring}
use Rattle.wit_gathered.specs.declared.types.Facts.{Facts}
use Rattle.wit_gathered.specs.declared.types.Origin.{Origin}
use Rattle.wit_gathered.specs.declared.types.Origin.TheVariants.{Lockdep, Static, Place, Mutex}
use Rattle.wit_gathered.specs.declared.types.Types.{Types}
use Rattle.wit_gathered.specs.declared.types.Type.{«Type»}
use Rattle.wit_gathered.specs.declared.types.Type.TheVariants as kind
use Rattle.wit_gathered.specs.Holds.{is_writing}
use Rattle.wit_gathered.specs.Names.{has_name, number_in, written}
use Rattle.wit_gathered.specs.Symbols.{hexadecimal, name_at, symbols}

-- what is known: the texts; what was told of each type; for each the first type that it is one with; for each
-- lock, and whether who waits for it sleeps, its type and whether a symbol names it; the symbols
pub record Known : Type 0 where
  pub texts : List (List ℕ)
  pub facts : List Facts
  pub firsts : List ℕ
  pub of_locks : List ((ℕ × Bool) × (ℕ × Bool))
  pub symbols : List (ℕ × List ℕ)

abbrev pub known : Types → Known
known t = record {
  texts = written t.texts.keys;
  facts = t.facts.items;
  firsts = t.firsts.items;
  of_locks = t.of_locks.entries;
  symbols = symbols t.statics;
}

abbrev pub nothing_known : Known
nothing_known = record { texts = []; facts = []; firsts = []; of_locks = []; symbols = [] }

-- ---- what is told of a type

abbrev pub new_facts : Origin → Facts
new_facts origin = record {
  origin = origin;
  spins = false;
  sleeps = false;
  has_readers = false;
  held = false;
  held_by_readers = false;
}

abbrev pub learnt : Kind → Reading → Bool → Facts → Facts
learnt Sleeps reading early f = record f { sleeps = true }
learnt Spins reading early f =
    record f { spins = true; has_readers = f.has_readers || not (is_writing reading) }
learnt SpinsForReaders reading early f = record f { spins = true; has_readers = true }
learnt Map reading early f = record f { has_readers = f.has_readers || early }

abbrev pub changed_at : (Facts → Facts) → List Facts → ℕ → Option Facts → List Facts
changed_at change facts n None = facts
changed_at change facts n (Some f) = slice_set facts n (change f)

abbrev pub with_facts : (Facts → Facts) → Known → ℕ → Known
with_facts change k n =
    record k { facts = changed_at change k.facts n (slice_get k.facts n) }

abbrev pub with_learnt : Known → ℕ → Kind → Reading → Bool → Known
with_learnt k n of reading early = with_facts (learnt of reading early) k n

abbrev pub with_held : Known → «Type» → Known
with_held k (kind.Of n) = with_facts (λ (f : Facts). record f { held = true }) k n
with_held k (kind.ReadersOf n) = with_facts (λ (f : Facts). record f { held_by_readers = true }) k n
with_held k kind.Hardirq = k
with_held k kind.Softirq = k

abbrev pub spins_only : Option Facts → Bool
spins_only None = false
spins_only (Some f) = f.spins && not f.sleeps

-- who waits for it spins, as far as it was told
abbrev pub is_spinning : Known → «Type» → Bool
is_spinning k (kind.Of n) = spins_only (slice_get k.facts n)
is_spinning k (kind.ReadersOf n) = spins_only (slice_get k.facts n)
is_spinning k kind.Hardirq = false
is_spinning k kind.Softirq = false

-- ---- the type that a text tells from others, and its number

abbrev pub with_text : Known → Origin → List ℕ → Known
with_text k origin text =
    if has_name k.texts text then k
    else record k {
      texts = k.texts ++ text ∷ [];
      facts = k.facts ++ new_facts origin ∷ [];
      firsts = k.firsts ++ length k.texts ∷ [];
    }

abbrev pub numbered : Known → Origin → List ℕ → Known × ℕ
numbered k origin text = (with_text k origin text, number_in k.texts text)

abbrev pub learning : Kind → Reading → Bool → Known × ℕ → Known × ℕ
learning of reading early r = (with_learnt r.0 r.1 of reading early, r.1)

abbrev pub class_text : Acquiring → List ℕ
class_text a = a.key ++ 32 ∷ (a.subclass ++ 32 ∷ a.name)

-- a count of sequences is taken where nothing may sleep
abbrev pub of_class : Known → Acquiring → Bool → Known × ℕ
of_class k a early =
    learning a.kind a.reading (early || has (codes "seqcount") a.name) (numbered k Lockdep (class_text a))

abbrev pub of_mutex : Known → ℕ → Known × ℕ
of_mutex k lock =
    learning Spins Writes false
    (numbered k Mutex (codes "mutex@" ++ hexadecimal lock))

-- ---- the type of a lock that a probed function acquires at a place

abbrev pub place_text : Bool → List ℕ → List ℕ
place_text sleeps place = (if sleeps then 64 else 126) ∷ place

abbrev pub static_text : Bool → List ℕ → List ℕ
static_text sleeps name = (if sleeps then 61 else 33) ∷ name

abbrev pub same_lock : ℕ × Bool → ℕ × Bool → Bool
same_lock a b = nat_eq a.0 b.0 && beq a.1 b.1

abbrev pub first_of : List ℕ → ℕ → ℕ
first_of firsts n = unwrap_or (slice_get firsts n) n

abbrev pub one_renamed : ℕ → ℕ → ℕ → ℕ
one_renamed from to n = if nat_eq n from then to else n

-- from then on two types are one: the first of either
abbrev pub renamed : ℕ → ℕ → List ℕ → List ℕ
renamed from to firsts = map (one_renamed from to) firsts

abbrev pub joined : ℕ → ℕ → List ℕ → List ℕ
joined a b firsts =
    if nat_eq a b then firsts
    else if nat_lt a b then renamed b a firsts
    else renamed a b firsts

abbrev pub as_one : ℕ → Known × ℕ → Known × ℕ
as_one n r = (
  record r.0 { firsts = joined (first_of r.0.firsts n) (first_of r.0.firsts r.1) r.0.firsts },
  r.1,
)

abbrev pub noting : ℕ → Bool → Bool → Known × ℕ → Known × ℕ
noting lock sleeps is_static r = (
  record r.0 { of_locks = insert_entry same_lock r.0.of_locks (lock, sleeps) (r.1, is_static) },
  r.1,
)

abbrev pub of_new_lock : Known → ℕ → Bool → List ℕ → Option (List ℕ) → Known × ℕ
of_new_lock k lock sleeps place (Some name) =
    noting lock sleeps true (numbered k Static (static_text sleeps name))
of_new_lock k lock sleeps place None =
    noting lock sleeps false (numbered k Place (place_text sleeps place))

-- one with the types of the other places that acquired the lock; a static one is named by its symbol
abbrev pub of_lock_met : Known → ℕ → Bool → List ℕ → Option (ℕ × Bool) → Known × ℕ
of_lock_met k lock sleeps place None = of_new_lock k lock sleeps place (name_at k.symbols lock)
of_lock_met k lock sleeps place (Some met) =
    if met.1 then (k, met.0) else as_one met.0 (numbered k Place (place_text sleeps place))

abbrev pub does_sleep : Kind → Bool
does_sleep Sleeps = true
does_sleep Spins = false
does_sleep SpinsForReaders = false
does_sleep Map = false

abbrev pub of_lock : Known → ℕ → Call → List ℕ → Known × ℕ
of_lock k lock call place =
    let sleeps = does_sleep call.kind in
    learning call.kind call.reading false
    (of_lock_met k lock sleeps place (lookup (same_lock (lock, sleeps)) k.of_locks))

abbrev pub with_symbol : Known → ℕ → List ℕ → Known
with_symbol k address name = record k { symbols = with_symbol_at nat_cmp k.symbols address name }
