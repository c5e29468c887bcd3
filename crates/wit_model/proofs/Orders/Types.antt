-- Types only grow: numbers stay, and each lock keeps its type's.
use Rattle.std.proofs.Common.{◌≡◌, ℕ, ◌+◌, ◌-◌, ◌<◌, ◌≤◌, Bool, true, false, not, ◌&&◌, ◌||◌, cond}
use Rattle.std.proofs.Common.{nat_le, List, [], ◌∷◌, ◌++◌, length, get_or, Ok, refl, ap, sym, ◌∙◌}
use Rattle.std.proofs.Common.{subst, arith, append-nil, length-append, ⊎_elim}
use Rattle.std.specs.List.{list_any, position_or_len}
use Rattle.std.proofs.lemmas.Bool.{leb-false, false≢true, or_left, or_right, or_parts, cases_lt}
use Rattle.std.proofs.lemmas.Slice.Eq.{bytes_eq-Decides}
use Rattle.std.proofs.lemmas.List.{get_or_append_left}
use Rattle.std.proofs.Math.Seq.{get_or-append_seam}
use Rattle.std.proofs.lemmas.List.Folds.{list_any-append}
use Rattle.wit_model.specs.declared.locks.Class.{Class}
use Rattle.wit_model.specs.declared.calls.NewLock.{NewLock}
use Rattle.wit_model.specs.declared.calls.Call.{Call}
use Rattle.wit_model.specs.declared.calls.Call.TheVariants.{Init}
use Rattle.wit_model.specs.declared.calls.Reply.{Reply}
use Rattle.wit_model.specs.declared.calls.Entry.{Entry}
use Rattle.wit_model.specs.Rules.Types.{LockType, is_named, is_enrolled, type_number, enrolled}
use Rattle.wit_model.specs.Rules.Types.{type_name_of, types_after}
use Rattle.wit_model.specs.Rules.Locks.{Lock, made_among, unknown_lock, lock_at}
use Rattle.wit_model.specs.Rules.State.{Start, state_of, types_of, typed_locks}
use Rattle.wit_model.specs.Rules.Step.{answer_of, story_after, IsLegal}
use Rattle.wit_model.proofs.Numbered.{with_number-or, with_number-stays}
use Rattle.wit_model.proofs.Chains.Seats.{entry}
use Rattle.wit_model.proofs.Histories.AcceptedLocks.{init_accepted}

-- a place that is found stays in a longer list
pub place-append : {X : Type 0} (p : X → Bool) (xs ys : List X) → list_any p xs ≡ true
    → position_or_len p (xs ++ ys) ≡ position_or_len p xs
place-append p [] ys is = absurd (false≢true is)
place-append p (x ∷ xs) ys is = go (p x) refl is (λ rest. place-append p xs ys rest)
  where
    go : (b : Bool) → p x ≡ b → (b || list_any p xs) ≡ true
        → (list_any p xs ≡ true → position_or_len p (xs ++ ys) ≡ position_or_len p xs)
        → position_or_len p (x ∷ (xs ++ ys)) ≡ position_or_len p (x ∷ xs)
    go true e some ih = rw e refl
    go false e some ih = rw e (ap (λ n. 1 + n) (ih some))

pub place-past : {X : Type 0} (p : X → Bool) (xs : List X) → list_any p xs ≡ false
    → position_or_len p xs ≡ length xs
place-past p [] none = refl
place-past p (x ∷ xs) none =
    let parts =
    or_parts (p x) (list_any p xs) none in
    rw parts.0 (let e = place-past p xs parts.1 in omega (arith, e))

pub place-within : {X : Type 0} (p : X → Bool) (xs : List X) → list_any p xs ≡ true
    → position_or_len p xs < length xs
place-within p [] is = absurd (false≢true is)
place-within p (x ∷ xs) is = go (p x) refl is (λ rest. place-within p xs rest)
  where
    go : (b : Bool) → p x ≡ b → (b || list_any p xs) ≡ true
        → (list_any p xs ≡ true → position_or_len p xs < length xs)
        → position_or_len p (x ∷ xs) < length (x ∷ xs)
    go true e some ih = rw e (omega arith)
    go false e some ih = rw e (let lt = ih some in omega (arith, lt))

pub enrolled-stays : (name other : List ℕ) (class : Class) (types : List LockType)
    → is_enrolled name types ≡ true → is_enrolled name (enrolled other class types) ≡ true
enrolled-stays name other class types is = go (is_enrolled other types)
  where
    go : (b : Bool) → is_enrolled name
        (cond b types (types ++ record { name = other; class = class } ∷ [])) ≡ true
    go true = is
    go false = list_any-append (is_named name) types (record { name = other; class = class } ∷ [])
        ∙ or_left (is_enrolled name types)
        (is_enrolled name (record { name = other; class = class } ∷ [])) is

pub number-enrolled : (name other : List ℕ) (class : Class) (types : List LockType)
    → is_enrolled name types ≡ true → type_number name (enrolled other class types)
    ≡ type_number name types
number-enrolled name other class types is = go (is_enrolled other types)
  where
    go : (b : Bool) → type_number name
        (cond b types (types ++ record { name = other; class = class } ∷ []))
        ≡ type_number name types
    go true = refl
    go false =
        ap (λ n. n + 1) (place-append (is_named name) types
        (record { name = other; class = class } ∷ []) is)

named-itself : (name : List ℕ) (class : Class)
    → is_named name (record { name = name; class = class }) ≡ true
named-itself name class = (bytes_eq-Decides name name).1 refl

-- a name is enrolled once it was enrolled, with the number that was foretold
pub enrolled-itself : (name : List ℕ) (class : Class) (types : List LockType)
    → is_enrolled name (enrolled name class types) ≡ true
enrolled-itself name class types = go (is_enrolled name types) refl
  where
    go : (b : Bool) → is_enrolled name types ≡ b
        → is_enrolled name (enrolled name class types) ≡ true
    go true is = rw is is
    go false is =
        rw is (list_any-append (is_named name) types (record { name = name; class = class } ∷ [])
        ∙ or_right (is_enrolled name types)
        (is_enrolled name (record { name = name; class = class } ∷ []))
        (or_left (is_named name (record { name = name; class = class })) false
        (named-itself name class)))

-- a known type's number is within the types, and a new one's is the next
pub number-known : (name : List ℕ) (types : List LockType) → is_enrolled name types ≡ true
    → (0 < type_number name types) × (type_number name types ≤ length types)
number-known name types is = let lt =
    place-within (is_named name) types is in (omega arith, omega arith)

pub number-new : (name : List ℕ) (types : List LockType) → is_enrolled name types ≡ false
    → type_number name types ≡ length types + 1
number-new name types none = ap (λ n. n + 1) (place-past (is_named name) types none)

number-itself : (name : List ℕ) (class : Class) (types : List LockType)
    → type_number name (enrolled name class types) ≡ type_number name types
number-itself name class types = go (is_enrolled name types) refl
  where
    place-last : (ts : List LockType) → list_any (is_named name) ts ≡ false
        → position_or_len (is_named name) (ts ++ record { name = name; class = class } ∷ [])
        ≡ position_or_len (is_named name) ts
    place-last [] none = rw (named-itself name class) refl
    place-last (t ∷ ts) none =
        let parts = or_parts (is_named name t) (list_any (is_named name) ts) none in
        rw parts.0 (ap (λ n. 1 + n) (place-last ts parts.1))

    go : (b : Bool) → is_enrolled name types ≡ b
        → type_number name (enrolled name class types) ≡ type_number name types
    go true is = rw is refl
    go false is = rw is (ap (λ n. n + 1) (place-last types is))

-- an enrolled name stays enrolled, with its number
pub known-stays : (name : List ℕ) (c : Call) (types : List LockType) → is_enrolled name types ≡ true
    → is_enrolled name (types_after c types) ≡ true
known-stays name (Init lock) types is = enrolled-stays name (type_name_of lock) lock.class types is
known-stays name _ types is = is

pub number-stays : (name : List ℕ) (c : Call) (types : List LockType)
    → is_enrolled name types ≡ true → type_number name (types_after c types)
    ≡ type_number name types
number-stays name (Init lock) types is =
    number-enrolled name (type_name_of lock) lock.class types is
number-stays name _ types is = refl

-- a call that makes no lock leaves the locks
pub typed-same : (start : Start) (h : List Entry) (t : ℕ) (c : Call) (r : Reply)
    → made_among (types_of start h) c ≡ []
    → typed_locks start (entry t c r ∷ h) ≡ typed_locks start h
typed-same start h t c r none =
    ap (λ ls. typed_locks start h ++ ls) none ∙ append-nil (typed_locks start h)

-- a lock that was made is the same in a longer history
pub lock-stays : (start : Start) (x : Entry) (h : List Entry) (l : ℕ) → 0 < l
    → l ≤ length (typed_locks start h)
    → lock_at (typed_locks start (x ∷ h)) l ≡ lock_at (typed_locks start h) l
lock-stays start x h l some within =
    with_number-stays (typed_locks start h) (made_among (types_of start h) x.call) l unknown_lock
    some (omega arith)

-- a lock's type is enrolled, and has the lock's type number
pub record IsTyped (types : List LockType) (k : Lock) : Type 0 where
  pub known : is_enrolled (type_name_of k.made) types ≡ true
  pub number : k.type_no.0 ≡ type_number (type_name_of k.made) types

typed-stays : (c : Call) (types : List LockType) (k : Lock) → IsTyped types k
    → IsTyped (types_after c types) k
typed-stays c types k is = record {
  known = known-stays (type_name_of k.made) c types is.known;
  number = is.number ∙ sym (number-stays (type_name_of k.made) c types is.known);
}

typed-new : (lock : NewLock) (types : List LockType)
    → IsTyped (types_after (Init lock) types)
    (record { type_no = record { 0 = type_number (type_name_of lock) types }; made = lock })
typed-new lock types = record {
  known = enrolled-itself (type_name_of lock) lock.class types;
  number = sym (number-itself (type_name_of lock) lock.class types);
}

AreTyped : Start → List Entry → Type 0
AreTyped start h = (i : ℕ) → i < length (typed_locks start h)
    → IsTyped (types_of start h) (get_or (typed_locks start h) i unknown_lock)

typed_more : (start : Start) (t : ℕ) (c : Call) (r : Reply) (h : List Entry) → AreTyped start h
    → AreTyped start (entry t c r ∷ h)
unfolding AreTyped
typed_more start t (Init lock) r h all = λ i lt.
    ⊎_elim
    (λ old. subst (λ (k : Lock). IsTyped (types_after (Init lock) (types_of start h)) k)
    (sym (get_or_append_left (typed_locks start h) (made_among (types_of start h) (Init lock))
    unknown_lock i old))
    (typed-stays (Init lock) (types_of start h)
    (get_or (typed_locks start h) i unknown_lock) (all i old)))
    (λ past. subst (λ (k : Lock). IsTyped (types_after (Init lock) (types_of start h)) k)
    (sym (let e : i ≡ length (typed_locks start h) = omega (
      arith,
      lt,
      past,
      length-append (typed_locks start h)
          (made_among (types_of start h) (Init lock)),
    ) in
    ap (λ n. get_or (typed_locks start (entry t (Init lock) r ∷ h)) n unknown_lock) e
    ∙ get_or-append_seam (typed_locks start h)
    (record {
      type_no = record { 0 = type_number (type_name_of lock) (types_of start h) };
      made = lock;
    }) [] unknown_lock))
    (typed-new lock (types_of start h)))
    (cases_lt i (length (typed_locks start h)))
typed_more start t c r h all =
    subst (λ ls. (i : ℕ) → i < length ls → IsTyped (types_of start h) (get_or ls i unknown_lock))
    (sym (typed-same start h t c r refl)) all

typed_all : (start : Start) (h : List Entry) → AreTyped start h
unfolding AreTyped
typed_all start [] = λ i lt. absurd (omega arith)
typed_all start (x ∷ h) = typed_more start x.seat.0 x.call x.reply h (typed_all start h)

-- every lock made is of an enrolled type, under its number
pub typed_made : (start : Start) (h : List Entry) (l : ℕ) → 0 < l → l ≤ length (typed_locks start h)
    → IsTyped (types_of start h) (lock_at (typed_locks start h) l)
unfolding AreTyped
typed_made start h l some within =
    subst (λ (k : Lock). IsTyped (types_of start h) k)
    (sym (with_number-or (typed_locks start h) l unknown_lock some))
    (typed_all start h (l - 1) (omega arith))

-- types and locks stay within the sizes
length-enrolled : (name : List ℕ) (class : Class) (types : List LockType) (most : ℕ)
    → (not (is_enrolled name types) && nat_le most (length types)) ≡ false
    → length types ≤ most → length (enrolled name class types) ≤ most
length-enrolled name class types most room le = go (is_enrolled name types) refl
  where
    go : (b : Bool) → is_enrolled name types ≡ b
        → length (cond (is_enrolled name types) types
        (types ++ record { name = name; class = class } ∷ [])) ≤ most
    go true is = rw is le
    go false is =
        rw is (let lt = leb-false most (length types)
        (sym (let e : (not (is_enrolled name types) && nat_le most (length types))
        ≡ nat_le most (length types) = rw is refl in e) ∙ room) in
        omega (arith, lt, length-append types (record { name = name; class = class } ∷ [])))

types_by : (start : Start) (files : List (List ℕ)) (h : List Entry) (t : ℕ) (c : Call) (r : Reply)
    → answer_of (story_after start files h) t c ≡ Ok r
    → length (types_of start h) ≤ start.sizes.types
    → length (types_of start (entry t c r ∷ h)) ≤ start.sizes.types
types_by start files h t (Init lock) r ok le =
    length-enrolled (type_name_of lock) lock.class (types_of start h) start.sizes.types
    (init_accepted (state_of (story_after start files h)) t lock r ok).types le
types_by start files h t c r ok le = le

pub types_legal : (start : Start) (files : List (List ℕ)) (h : List Entry)
    → length (types_of start []) ≤ start.sizes.types → IsLegal start files h
    → length (types_of start h) ≤ start.sizes.types
types_legal start files [] le legal = le
types_legal start files (x ∷ h) le legal =
    types_by start files h x.seat.0 x.call x.reply legal.0 (types_legal start files h le legal.2)
