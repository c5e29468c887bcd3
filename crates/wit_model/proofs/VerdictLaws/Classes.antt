-- A lock's type has the lock's class, and the name under which the lock takes part in orders.
use Rattle.std.proofs.Common.{◌≡◌, ℕ, ◌+◌, ◌-◌, Bool, true, false, not, ◌&&◌, cond, List, [], ◌∷◌}
use Rattle.std.proofs.Common.{◌++◌, length, get_or, Ok, refl, ap, sym, ◌∙◌, subst, arith}
use Rattle.std.proofs.Common.{append-nil, length-append}
use Rattle.std.specs.List.{list_all, position_or_len}
use Rattle.std.proofs.lemmas.Bool.{and_parts, and_from, ltb-true, leb-true, lt-ltb, le-leb}
use Rattle.std.proofs.lemmas.Bool.{true_from_ne_false, true≢false, false≢true}
use Rattle.std.proofs.lemmas.Slice.Eq.{bytes_eq-Decides}
use Rattle.std.proofs.lemmas.List.Sums.{passes_at_first}
use Rattle.std.proofs.lemmas.List.Folds.{list_all-append, list_all_at, list_any_at}
use Rattle.std.proofs.Math.Seq.{get_or-append_seam}
use Rattle.wit_model.specs.declared.locks.Class.{Class}
use Rattle.wit_model.specs.declared.locks.Class.TheVariants.{SleepMutex, SpinMutex, Rw, Sx}
use Rattle.wit_model.specs.declared.calls.NewLock.{NewLock}
use Rattle.wit_model.specs.declared.calls.Call.{Call}
use Rattle.wit_model.specs.declared.calls.Call.TheVariants.{Init}
use Rattle.wit_model.specs.declared.calls.Reply.{Reply}
use Rattle.wit_model.specs.declared.calls.Entry.{Entry}
use Rattle.wit_model.specs.Rules.Numbers.{is_number, is_given, IsNumber}
use Rattle.wit_model.specs.Rules.Types.{LockType, is_same_class, is_spin, is_named, is_enrolled}
use Rattle.wit_model.specs.Rules.Types.{is_otherwise, type_number, type_name_of, class_of, name_of}
use Rattle.wit_model.specs.Rules.Types.{types_after}
use Rattle.wit_model.specs.Rules.Locks.{Lock, locks_of, lock_of, lock_at, made_among, unknown_lock}
use Rattle.wit_model.specs.Rules.Locks.{is_spin_lock}
use Rattle.wit_model.specs.Rules.State.{Start, state_of, types_of, typed_locks}
use Rattle.wit_model.specs.Rules.Step.{answer_of, story_after, IsLegal}
use Rattle.wit_model.proofs.Numbered.{with_number-or, with_number-stays}
use Rattle.wit_model.proofs.Lists.{list_all-both}
use Rattle.wit_model.proofs.Chains.Seats.{entry}
use Rattle.wit_model.proofs.Histories.AcceptedLocks.{init_accepted}
use Rattle.wit_model.proofs.Orders.TypedLocks.{lock_at-made}
use Rattle.wit_model.proofs.Orders.Types.{place-within, number-known, number-new, typed-same}
use Rattle.wit_model.proofs.Orders.Types.{typed_made}

same_class : (a b : Class) → is_same_class a b ≡ true → a ≡ b
same_class SleepMutex SleepMutex is = refl
same_class SleepMutex SpinMutex is = absurd (false≢true is)
same_class SleepMutex Rw is = absurd (false≢true is)
same_class SleepMutex Sx is = absurd (false≢true is)
same_class SpinMutex SleepMutex is = absurd (false≢true is)
same_class SpinMutex SpinMutex is = refl
same_class SpinMutex Rw is = absurd (false≢true is)
same_class SpinMutex Sx is = absurd (false≢true is)
same_class Rw SleepMutex is = absurd (false≢true is)
same_class Rw SpinMutex is = absurd (false≢true is)
same_class Rw Rw is = refl
same_class Rw Sx is = absurd (false≢true is)
same_class Sx SleepMutex is = absurd (false≢true is)
same_class Sx SpinMutex is = absurd (false≢true is)
same_class Sx Rw is = absurd (false≢true is)
same_class Sx Sx is = refl

alike : (a : Class) → is_same_class a a ≡ true
alike SleepMutex = refl
alike SpinMutex = refl
alike Rw = refl
alike Sx = refl

abbrev no_type : LockType
no_type = record { name = []; class = SleepMutex }

class-at : (types : List LockType) (i : ℕ) → class_of (i + 1) types ≡ (get_or types i no_type).class
class-at types i =
    ap (λ (t : LockType). t.class) (with_number-or types (i + 1) no_type (omega arith))
    ∙ ap (λ n. (get_or types n no_type).class) (let e : i + 1 - 1 ≡ i = omega arith in e)

class-known : (name : List ℕ) (class : Class) (types : List LockType)
    → is_enrolled name types ≡ true → is_otherwise name class types ≡ false
    → is_same_class (class_of (type_number name types) types) class ≡ true
class-known name class types known same =
    let at : ℕ = position_or_len (is_named name) types in
    let lt = place-within (is_named name) types known in
    let named = passes_at_first (is_named name) types no_type lt in
    true_from_ne_false (is_same_class (class_of (type_number name types) types) class) (λ differs.
    let other : is_same_class (get_or types at no_type).class class ≡ false =
    ap (λ (c : Class). is_same_class c class) (sym (class-at types at)) ∙ differs in
    true≢false (sym (list_any_at (λ t. is_named name t && not (is_same_class t.class class))
    types at no_type lt
    (and_from (is_named name (get_or types at no_type))
    (not (is_same_class (get_or types at no_type).class class)) named (rw other refl))) ∙ same))

class-new : (name : List ℕ) (class : Class) (types : List LockType)
    → is_same_class (class_of (length types + 1)
    (types ++ record { name = name; class = class } ∷ [])) class ≡ true
class-new name class types =
    ap (λ (c : Class). is_same_class c class)
    (class-at (types ++ record { name = name; class = class } ∷ []) (length types)
    ∙ ap (λ (t : LockType). t.class)
    (get_or-append_seam types (record { name = name; class = class }) [] no_type))
    ∙ alike class

-- a lock's type is known, and of its class
abbrev has_class : List LockType → Lock → Bool
has_class types k =
    is_number (length types) k.type_no.0 && is_same_class (class_of k.type_no.0 types) k.made.class

has-class_from : (types : List LockType) (k : Lock) → IsNumber (length types) k.type_no.0
    → is_same_class (class_of k.type_no.0 types) k.made.class ≡ true
    → has_class types k ≡ true
has-class_from types k within same =
    and_from (is_number (length types) k.type_no.0)
    (is_same_class (class_of k.type_no.0 types) k.made.class)
    (and_from _ _ (lt-ltb 0 k.type_no.0 within.0) (le-leb k.type_no.0 (length types) within.1)) same

class-stays : (types more : List LockType) (k : Lock) → has_class types k ≡ true
    → has_class (types ++ more) k ≡ true
class-stays types more k is =
    let parts =
    and_parts (is_number (length types) k.type_no.0)
    (is_same_class (class_of k.type_no.0 types) k.made.class) is in
    let within = and_parts _ _ parts.0 in
    let some = ltb-true 0 k.type_no.0 within.0 in
    let le = leb-true k.type_no.0 (length types) within.1 in
    has-class_from (types ++ more) k (some, omega (arith, length-append types more))
    (ap (λ (t : LockType). is_same_class t.class k.made.class)
    (with_number-stays types more k.type_no.0 no_type some (omega arith)) ∙ parts.1)

-- types are only added
added : (c : Call) (types : List LockType) → (more : List LockType)
    × (types_after c types ≡ types ++ more)
added (Init lock) types = go (is_enrolled (type_name_of lock) types)
  where
    go : (b : Bool) → (more : List LockType)
        × (cond b types (types ++ record { name = type_name_of lock; class = lock.class } ∷ [])
        ≡ types ++ more)
    go true = ([], sym (append-nil types))
    go false = (record { name = type_name_of lock; class = lock.class } ∷ [], refl)
added c types = ([], sym (append-nil types))

class-after : (c : Call) (types : List LockType) (k : Lock) → has_class types k ≡ true
    → has_class (types_after c types) k ≡ true
class-after c types k is =
    let grown =
    added c types in subst (λ ts. has_class ts k ≡ true) (sym grown.1)
    (class-stays types grown.0 k is)

class-made : (lock : NewLock) (types : List LockType)
    → is_otherwise (type_name_of lock) lock.class types ≡ false
    → has_class (types_after (Init lock) types)
    (record { type_no = record { 0 = type_number (type_name_of lock) types }; made = lock })
    ≡ true
class-made lock types same = go (is_enrolled (type_name_of lock) types) refl
  where
    new : Lock
    new = record { type_no = record { 0 = type_number (type_name_of lock) types }; made = lock }

    go : (b : Bool) → is_enrolled (type_name_of lock) types ≡ b
        → has_class (cond (is_enrolled (type_name_of lock) types) types
        (types ++ record { name = type_name_of lock; class = lock.class } ∷ [])) new ≡ true
    go true is =
        rw is (has-class_from types new (number-known (type_name_of lock) types is)
        (class-known (type_name_of lock) lock.class types is same))
    go false is =
        let next = number-new (type_name_of lock) types is in
        let longer : List LockType =
        types ++ record { name = type_name_of lock; class = lock.class } ∷ [] in
        rw is (has-class_from longer new (
          omega (arith, next),
          omega (
            arith,
            next,
            length-append types
                (record { name = type_name_of lock; class = lock.class } ∷ []),
          ),
        )
        (ap (λ n. is_same_class (class_of n longer) lock.class) next
        ∙ class-new (type_name_of lock) lock.class types))

classes_by : (start : Start) (files : List (List ℕ)) (h : List Entry) (t : ℕ) (c : Call) (r : Reply)
    → answer_of (story_after start files h) t c ≡ Ok r
    → list_all (has_class (types_after c (types_of start h))) (typed_locks start h) ≡ true
    → list_all (has_class (types_of start (entry t c r ∷ h))) (typed_locks start (entry t c r ∷ h))
    ≡ true
classes_by start files h t (Init lock) r ok old =
    list_all-append (has_class (types_after (Init lock) (types_of start h))) (typed_locks start h)
    (made_among (types_of start h) (Init lock))
    ∙ and_from (list_all (has_class (types_after (Init lock) (types_of start h)))
    (typed_locks start h)) _ old
    (and_from _ true (class-made lock (types_of start h)
    (init_accepted (state_of (story_after start files h)) t lock r ok).class) refl)
classes_by start files h t c r ok old =
    subst (λ ls. list_all (has_class (types_of start h)) ls ≡ true)
    (sym (typed-same start h t c r refl)) old

classes : (start : Start) (files : List (List ℕ)) (h : List Entry) → IsLegal start files h
    → list_all (has_class (types_of start h)) (typed_locks start h) ≡ true
classes start files [] legal = refl
classes start files (x ∷ h) legal =
    classes_by start files h x.seat.0 x.call x.reply legal.0
    (list_all-both (has_class (types_of start h))
    (has_class (types_after x.call (types_of start h))) (class-after x.call (types_of start h))
    (typed_locks start h)
    (classes start files h legal.2))

-- the class of a made lock's type is the lock's
pub type-class : (start : Start) (files : List (List ℕ)) (h : List Entry) (l : ℕ)
    → IsLegal start files h → is_given (typed_locks start h) l ≡ true
    → class_of (lock_at (typed_locks start h) l).type_no.0 (types_of start h)
    ≡ (lock_of (locks_of h) l).class
type-class start files h l legal given =
    let within = and_parts _ _ given in
    let some = ltb-true 0 l within.0 in
    let le = leb-true l (length (typed_locks start h)) within.1 in
    let all = classes start files h legal in
    let has : has_class (types_of start h) (get_or (typed_locks start h) (l - 1) unknown_lock)
    ≡ true
    = true_from_ne_false _ (λ no. true≢false
    (sym all ∙ list_all_at (has_class (types_of start h)) (typed_locks start h)
    (l - 1) unknown_lock (omega arith) no)) in
    let at : has_class (types_of start h) (lock_at (typed_locks start h) l) ≡ true
    = ap (has_class (types_of start h)) (with_number-or (typed_locks start h) l unknown_lock some)
    ∙ has in
    same_class _ _ (and_parts (is_number (length (types_of start h))
    (lock_at (typed_locks start h) l).type_no.0) _ at).1
    ∙ ap (λ (n : NewLock). n.class) (lock_at-made start h l)

-- and so is its kind
pub type-kind : (start : Start) (files : List (List ℕ)) (h : List Entry) (l : ℕ)
    → IsLegal start files h → is_given (typed_locks start h) l ≡ true
    → is_spin (class_of (lock_at (typed_locks start h) l).type_no.0 (types_of start h))
    ≡ is_spin_lock (locks_of h) l
type-kind start files h l legal given = ap is_spin (type-class start files h l legal given)

named-there : (name : List ℕ) (types : List LockType) → is_enrolled name types ≡ true
    → name_of (type_number name types) types ≡ name
named-there name types known =
    let at : ℕ = position_or_len (is_named name) types in
    ap (λ (t : LockType). t.name) (with_number-or types (at + 1) no_type (omega arith))
    ∙ ap (λ n. (get_or types n no_type).name) (let e : at + 1 - 1 ≡ at = omega arith in e)
    ∙ (bytes_eq-Decides (get_or types at no_type).name name).0
    (passes_at_first (is_named name) types no_type (place-within (is_named name) types known))

-- the name of a made lock's type is the lock's type name
pub type-name : (start : Start) (h : List Entry) (l : ℕ) → is_given (typed_locks start h) l ≡ true
    → name_of (lock_at (typed_locks start h) l).type_no.0 (types_of start h)
    ≡ type_name_of (lock_of (locks_of h) l)
type-name start h l given =
    let within = and_parts _ _ given in
    let is =
    typed_made start h l (ltb-true 0 l within.0)
    (leb-true l (length (typed_locks start h)) within.1) in
    let made = (lock_at (typed_locks start h) l).made in
    ap (λ n. name_of n (types_of start h)) is.number ∙ named-there (type_name_of made)
    (types_of start h) is.known ∙ ap type_name_of (lock_at-made start h l)
