-- The verdict of a check: WITNESS compares the requested lock with the held ones (witness(4); the
-- comments of witness_checkorder in subr_witness.c). The first rule that applies decides.
use Rattle.std.specs.Prelude.{ℕ, Bool, true, false, not, ◌&&◌, ◌||◌, ◌==◌, List, [], ◌∷◌, Option}
use Rattle.std.specs.Prelude.{None, Some, is_some, is_none, unwrap_or, Result, Ok, Err, map}
use Rattle.std.specs.Prelude.{take, reverse, find, if◌then◌else◌}
use Rattle.std.specs.List.{list_any, list_all, last_or, before_first}
use Rattle.std.specs.Option.{option_map}
use Rattle.std.specs.Str.{bytes_eq}
use Rattle.wit_model.specs.declared.profiles.Profile.{Profile}
use Rattle.wit_model.specs.declared.profiles.Profile.TheVariants.{Plain, AllHeld}
use Rattle.wit_model.specs.declared.faults.Fault.{Fault}
use Rattle.wit_model.specs.declared.faults.Fault.TheVariants.{SleepUnderSpin, SharedOfExclusive}
use Rattle.wit_model.specs.declared.faults.Fault.TheVariants.{ExclusiveOfShared, Recursed}
use Rattle.wit_model.specs.declared.locks.Class.TheVariants.{Sx}
use Rattle.wit_model.specs.declared.locks.Mode.{Mode}
use Rattle.wit_model.specs.declared.locks.Mode.TheVariants.{Shared, Exclusive}
use Rattle.wit_model.specs.declared.locks.Watch.{Watch}
use Rattle.wit_model.specs.declared.locks.Instance.{Instance}
use Rattle.wit_model.specs.declared.locks.TypeNo.{TypeNo}
use Rattle.wit_model.specs.declared.calls.Adoption.{Adoption}
use Rattle.wit_model.specs.declared.calls.Heading.{Heading}
use Rattle.wit_model.specs.declared.calls.Heading.TheVariants as heading
use Rattle.wit_model.specs.declared.calls.LockAt.{LockAt}
use Rattle.wit_model.specs.declared.calls.Conflict.{Conflict}
use Rattle.wit_model.specs.declared.calls.Reply.{Reply}
use Rattle.wit_model.specs.declared.calls.Reply.TheVariants.{Pass, Adopted, AdoptedAll, Silent}
use Rattle.wit_model.specs.declared.calls.Reply.TheVariants.{Duplicate, Reversal}
use Rattle.wit_model.specs.declared.calls.Request.{Request}
use Rattle.wit_model.specs.declared.calls.TypedRequest.{TypedRequest}
use Rattle.wit_model.specs.Rules.Numbers.{with_number}
use Rattle.wit_model.specs.Rules.Types.{LockType, name_of, class_of, is_same_class, is_giant_type}
use Rattle.wit_model.specs.Rules.Types.{is_spin}
use Rattle.wit_model.specs.Rules.Locks.{Lock, has_flag, lock_at}
use Rattle.wit_model.specs.Rules.Orders.{is_direct, is_before, is_found}
use Rattle.wit_model.specs.Rules.History.{is_on}
use Rattle.wit_model.specs.Rules.State.{Known, Seat, chain_in}

-- what a verdict rests on; of the pairs of types those found in violation, and of the pairs of type
-- names those that may be taken in either order
pub record Basis : Type 0 where
  pub types : List LockType
  pub lock_types : List TypeNo
  pub orders : List Adoption
  pub found : List (TypeNo × TypeNo)
  pub blessed : List (List ℕ × List ℕ)

abbrev pub is_exclusive : Mode → Bool
is_exclusive Exclusive = true
is_exclusive Shared = false

-- whether this is a held acquisition of the lock
abbrev pub is_of : ℕ → Instance → Bool
is_of l i = i.lock.0 == l

abbrev pub type_held : Basis → Instance → TypeNo
type_held g i = unwrap_or (with_number g.lock_types i.lock.0) (record { 0 = 0 })

abbrev pub has_type_of : Basis → TypedRequest → Instance → Bool
has_type_of g q i = (type_held g i).0 == q.type_no.0

-- the holder of such a lock may sleep (sx(9))
abbrev pub is_sleepable : Basis → TypeNo → Bool
is_sleepable g t = is_same_class (class_of t.0 g.types) Sx

abbrev pub is_giant : Basis → TypeNo → Bool
is_giant g t = is_giant_type (class_of t.0 g.types) (name_of t.0 g.types)

abbrev pub place_of : Instance → LockAt
place_of i = record { lock = i.lock; site = i.site }

abbrev pub place_asked : TypedRequest → LockAt
place_asked q = record { lock = q.lock; site = q.site }

-- ---- each rule has an answer, or leaves it to the next

abbrev pub Rule : Type 0
Rule = Option (Result Reply Fault)

abbrev pub when : Bool → Result Reply Fault → Rule
when applies answer = if applies then Some answer else None

-- the answer of the first that has one; where none has, the request passes
abbrev pub decided : List Rule → Result Reply Fault
decided [] = Ok Pass
decided (None ∷ rules) = decided rules
decided (Some answer ∷ rules) = answer

-- 1: not everything is watched
abbrev pub isnt_watched : Watch → Rule
isnt_watched watch = when (not (is_on watch)) (Ok Pass)

-- 2: a spin lock is held, and a lock of the sleep kind asked for
abbrev pub sleeps_under_spin : Basis → List Instance → TypedRequest → Rule
sleeps_under_spin g spin q =
    when (not (is_spin (class_of q.type_no.0 g.types)) && is_some (last_or None spin))
    (Err SleepUnderSpin)

-- 3: no lock of its kind is held
abbrev pub holds_nothing : Option Instance → Rule
holds_nothing last = when (is_none last) (Ok Pass)

-- a held lock that is asked for again: the modes must agree, and the lock has to be recursable
-- where it is exclusive. Flags of a request: 0x04 the caller doesn't hold the lock; of a lock: 0x01
-- recursable
abbrev pub again : TypedRequest → Instance → Result Reply Fault
again q i =
    if is_exclusive i.mode && not (is_exclusive q.mode) then Err SharedOfExclusive
    else if not (is_exclusive i.mode) && is_exclusive q.mode then Err ExclusiveOfShared
    else if has_flag q.ops.0 0x04 then Err Recursed
    else if is_exclusive i.mode && not (has_flag q.flags.0 0x01) then Err Recursed
    else Ok Pass

-- 4: the lock itself is held
abbrev pub holds_it : List Instance → TypedRequest → Rule
holds_it chain q = option_map (again q) (find (is_of q.lock.0) chain)

-- two locks of one type: reported once a type, never where the lock or the request allows it (0x02)
abbrev pub doubled : Basis → TypedRequest → Instance → Result Reply Fault
doubled g q last =
    if has_flag q.flags.0 0x02 || has_flag q.ops.0 0x02 then Ok Pass
    else if is_found g.found q.type_no.0 q.type_no.0 then Ok (Silent q.type_no q.type_no)
    else Ok (Duplicate (record { last = place_of last; asked = place_asked q }))

-- the held locks that a request is compared with by the rules 5, 6 and 9, newest first: the newest
-- one alone, or all
abbrev pub compared : Profile → List Instance → List Instance
compared Plain chain = take 1 (reverse chain)
compared AllHeld chain = reverse chain

-- 5: one of these held locks is of its type; the newest one is told
abbrev pub doubles : Basis → List Instance → TypedRequest → Rule
doubles g held q = option_map (doubled g q) (find (has_type_of g q) held)

-- whether the order behind a held lock is a direct one
abbrev pub is_direct_behind : Basis → TypedRequest → Instance → Bool
is_direct_behind g q i = is_direct g.orders (type_held g i).0 q.type_no.0

-- 6: its orders behind all of these are direct ones
abbrev pub follows : Basis → List Instance → TypedRequest → Rule
follows g held q = when (list_all (is_direct_behind g q) held) (Ok Pass)

-- which order a held lock's type breaks, where a lock of the first type is asked for. Giant is let
-- go while its holder sleeps: so it may stand before a sleepable lock, and behind one
abbrev pub breach : Basis → TypeNo → TypeNo → Option Heading
breach g asked held =
    if is_giant g asked && is_sleepable g held then None
    else if is_sleepable g asked && is_giant g held then None
    else if is_sleepable g asked && not (is_sleepable g held) then Some heading.Sleepable
    else if is_giant g asked && not (is_sleepable g held) then Some heading.Giant
    else if is_before g.orders asked.0 held.0 then Some heading.Order
    else None

abbrev pub violates : Basis → TypedRequest → Instance → Bool
violates g q i = is_some (breach g q.type_no (type_held g i))

-- what is told of a reversal: the violating held lock, the newest held lock of the requested type
-- among those older than it, and the requested lock
abbrev pub conflict : Basis → TypedRequest → List Instance → Instance → Conflict
conflict g q chain i = record {
  heading = unwrap_or (breach g q.type_no (type_held g i)) heading.Order;
  held = place_of i;
  older =
      option_map place_of (find (has_type_of g q) (reverse (before_first (is_of i.lock.0) chain)));
  asked = place_asked q;
}

abbrev pub is_named_pair : List ℕ → List ℕ → List ℕ × List ℕ → Bool
is_named_pair a b p = (bytes_eq p.0 a && bytes_eq p.1 b) || (bytes_eq p.0 b && bytes_eq p.1 a)

-- whether these types may be taken in either order: the "blessed" pairs of subr_witness.c
abbrev pub is_blessed : Basis → TypeNo → TypeNo → Bool
is_blessed g a b = list_any (is_named_pair (name_of a.0 g.types) (name_of b.0 g.types)) g.blessed

-- 8: a violation is reported, once for a pair of types, and never where the pair is blessed
abbrev pub reported : Basis → TypedRequest → List Instance → Instance → Result Reply Fault
reported g q chain i =
    if is_found g.found (type_held g i).0 q.type_no.0 || is_blessed g (type_held g i) q.type_no
    then Ok (Silent (type_held g i) q.type_no)
    else Ok (Reversal (conflict g q chain i))

-- 7: a held lock violates the order: the newest one that does
abbrev pub breaks_order : Basis → List Instance → TypedRequest → Rule
breaks_order g chain q = option_map (reported g q chain) (find (violates g q) (reverse chain))

-- whether the order behind a held lock may be learnt: the request allows it (0x01), it isn't that
-- of a sleepable lock behind Giant, and it turns no order round
abbrev pub is_learnt : Basis → TypedRequest → Instance → Bool
is_learnt g q i =
    has_flag q.ops.0 0x01
    && not (is_giant g (type_held g i) && is_sleepable g q.type_no)
    && not (is_before g.orders q.type_no.0 (type_held g i).0)

abbrev pub is_among : ℕ → List TypeNo → Bool
is_among t types = list_any (λ (x : TypeNo). x.0 == t) types

-- whether the order behind a held lock may be learnt and is new once those behind these types are
abbrev pub is_new : Basis → TypedRequest → List TypeNo → Instance → Bool
is_new g q before i =
    is_learnt g q i && not (is_direct_behind g q i) && not (is_among (type_held g i).0 before)

-- the types behind which an order is learnt, of these held locks one after the other
abbrev pub new_parents : Basis → TypedRequest → List TypeNo → List Instance → List TypeNo
new_parents g q before [] = []
new_parents g q before (i ∷ held) =
    if is_new g q before i then type_held g i ∷ new_parents g q (type_held g i ∷ before) held
    else new_parents g q before held

abbrev pub orders_behind : TypedRequest → List TypeNo → List (TypeNo × TypeNo)
orders_behind q parents = map (λ p. (p, q.type_no)) parents

-- the reply that tells the orders behind these types, where there is one at least
abbrev pub told_orders : Profile → TypedRequest → List TypeNo → Rule
told_orders profile q [] = None
told_orders Plain q (p ∷ parents) = Some (Ok (Adopted p q.type_no))
told_orders AllHeld q (p ∷ parents) = Some (Ok (AdoptedAll (orders_behind q (p ∷ parents))))

-- 9: the orders behind these held locks are learnt
abbrev pub teaches : Profile → Basis → List Instance → TypedRequest → Rule
teaches profile g held q = told_orders profile q (new_parents g q [] held)

-- ---- the rules in their order, where these are the spin locks that the seat holds, and its locks
-- of the requested kind, oldest first
abbrev pub rules : Profile → Basis → Watch → List Instance → List Instance → TypedRequest
    → List Rule
rules profile g watch spin chain q =
    isnt_watched watch
    ∷ sleeps_under_spin g spin q
    ∷ holds_nothing (last_or None chain)
    ∷ holds_it chain q
    ∷ doubles g (compared profile chain) q
    ∷ follows g (compared profile chain) q
    ∷ breaks_order g chain q
    ∷ teaches profile g (compared profile chain) q
    ∷ []

-- the one of a seat's two chains that a request is judged by
abbrev pub chain_asked : Basis → List Instance → List Instance → TypedRequest → List Instance
chain_asked g sleep spin q = if is_spin (class_of q.type_no.0 g.types) then spin else sleep

-- the ruling on a request of a seat that holds these locks of the sleep kind and of the spin kind
abbrev pub ruling : Profile → Basis → Watch → List Instance → List Instance → TypedRequest
    → Result Reply Fault
ruling profile g watch sleep spin q =
    decided (rules profile g watch spin (chain_asked g sleep spin q) q)

-- ---- the verdict is the ruling over what a verifier knows

abbrev pub basis_of : Known → Basis
basis_of k = record {
  types = k.types;
  lock_types = map (λ (l : Lock). l.type_no) k.locks;
  orders = k.orders;
  found = k.found;
  blessed = k.blessed;
}

abbrev pub typed_request : Known → Request → TypedRequest
typed_request k q = record {
  lock = q.lock;
  type_no = (lock_at k.locks q.lock.0).type_no;
  flags = (lock_at k.locks q.lock.0).made.flags;
  mode = q.mode;
  ops = q.ops;
  site = q.site;
}

abbrev pub verdict : Profile → Known → Watch → Seat → Request → Result Reply Fault
verdict profile k watch seat q =
    ruling profile (basis_of k) watch seat.sleep seat.spin (typed_request k q)

-- the seat's chain of the lock's kind, oldest first
abbrev pub chain_of_kind : Known → Seat → ℕ → List Instance
chain_of_kind k seat l = chain_in (is_spin (lock_at k.locks l).made.class) seat
