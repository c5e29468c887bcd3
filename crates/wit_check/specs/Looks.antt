-- One look through a chain, newest lock first.
use Rattle.std.specs.Prelude.{◌&&◌, List, [], ◌∷◌, Option, None, Some, is_some, is_none}
use Rattle.std.specs.Prelude.{if◌then◌else◌, find, reverse}
use Rattle.std.specs.List.{before_first}
use Rattle.wit_model.specs.declared.locks.Instance.{Instance}
use Rattle.wit_model.specs.declared.locks.TypeNo.{TypeNo}
use Rattle.wit_model.specs.declared.calls.TypedRequest.{TypedRequest}
use Rattle.wit_model.specs.Rules.Verdict.{Basis, is_of, has_type_of, is_sleepable, is_giant}
use Rattle.wit_model.specs.Rules.Verdict.{violates}
use Rattle.wit_check.specs.declared.held.Seen.{Seen}
use Rattle.wit_check.specs.declared.orders.Sort.{Sort}
use Rattle.wit_check.specs.declared.orders.Sort.TheVariants.{Ordinary, Sleepable, Giant}

abbrev pub sort_of : Basis → TypeNo → Sort
sort_of g t = if is_sleepable g t then Sleepable else if is_giant g t then Giant else Ordinary

-- the newest lock of the requested type among those older than this one
abbrev pub older_than : Basis → TypedRequest → Option Instance → List Instance → Option Instance
older_than g q None c = None
older_than g q (Some h) c = find (has_type_of g q) (reverse (before_first (is_of h.lock.0) c))

-- what a look through the whole chain sees
abbrev pub seen_in : Basis → TypedRequest → List Instance → Seen
seen_in g q c = record {
  held = find (is_of q.lock.0) c;
  broken = find (violates g q) (reverse c);
  older = older_than g q (find (violates g q) (reverse c)) c;
}

abbrev pub nothing_seen : Seen
nothing_seen = record { held = None; broken = None; older = None }

-- what is seen once one lock more, the next older one, is looked at
abbrev pub with_older : Basis → TypedRequest → Instance → Seen → Seen
with_older g q i s = record {
  held = if is_of q.lock.0 i then Some i else s.held;
  broken = if is_some s.broken then s.broken else if violates g q i then Some i else None;
  older = if is_some s.broken && is_none s.older && has_type_of g q i then Some i else s.older;
}

-- what is seen once these are looked at
abbrev pub with_locks : Basis → TypedRequest → List Instance → Seen → Seen
with_locks g q [] s = s
with_locks g q (i ∷ c) s = with_older g q i (with_locks g q c s)
