-- Under the number of its type, a lock that was made has its type's name and class.
use Rattle.std.proofs.Common.{◌≡◌, ℕ, ◌-◌, ◌<◌, ◌≤◌, Bool, true, false, not, ◌&&◌, ◌||◌, cond, List}
use Rattle.std.proofs.Common.{[], ◌∷◌, ◌++◌, length, get_or, Option, None, Some, Ok, find}
use Rattle.std.proofs.Common.{unwrap_or, nat_lt, refl, ap, sym, ◌∙◌, subst, arith, length-append}
use Rattle.std.proofs.Common.{⊎_elim}
use Rattle.std.specs.List.{list_any, position_or_len, slice_get}
use Rattle.std.specs.Option.{option_or, option_map, option_copied}
use Rattle.std.specs.Borrow.{Bor}
use Rattle.std.proofs.lemmas.Bool.{false≢true, or_parts, not-false, cases_lt, ltb-true}
use Rattle.std.proofs.lemmas.Slice.Eq.{bytes_eq-Decides}
use Rattle.std.proofs.lemmas.Option.{slice_get_within, same_Some}
use Rattle.std.proofs.lemmas.List.{get_or_append_left}
use Rattle.std.proofs.lemmas.List.Folds.{find-append, find_at}
use Rattle.std.proofs.Math.Seq.{get_or-append_seam}
use Rattle.wit_model.specs.declared.locks.Class.{Class}
use Rattle.wit_model.specs.declared.locks.Class.TheVariants.{SleepMutex, SpinMutex, Rw, Sx}
use Rattle.wit_model.specs.declared.locks.TypeNo.{TypeNo}
use Rattle.wit_model.specs.declared.locks.LockType.{LockType}
use Rattle.wit_model.specs.declared.locks.Lock.{Lock}
use Rattle.wit_model.specs.declared.calls.NewLock.{NewLock}
use Rattle.wit_model.specs.declared.calls.Call.{Call}
use Rattle.wit_model.specs.declared.calls.Call.TheVariants.{Init}
use Rattle.wit_model.specs.declared.calls.Reply.{Reply}
use Rattle.wit_model.specs.declared.calls.Entry.{Entry}
use Rattle.wit_model.specs.Rules.Types.{is_named, is_enrolled, is_otherwise, is_same_class}
use Rattle.wit_model.specs.Rules.Types.{type_number, enrolled, type_name_of, types_after}
use Rattle.wit_model.specs.Rules.Locks.{made_among, unknown_lock, lock_at}
use Rattle.wit_model.specs.Rules.State.{Start, state_of, types_of, typed_locks}
use Rattle.wit_model.specs.Rules.Step.{answer_of, story_after, IsLegal}
use Rattle.wit_model.proofs.Chains.Seats.{entry}
use Rattle.wit_model.proofs.Histories.AcceptedLocks.{init_accepted}
use Rattle.wit_model.proofs.Orders.Types.{IsTyped, typed_made, typed-same}
use Rattle.wit_model.specs.Rules.Numbers.{with_number}
use Rattle.wit_model.proofs.Numbered.{with_number-at, with_number-or}
use Rattle.wit_core.specs.Numbered.{lock_type, type_class, type_name}

-- the type of a lock's name has the lock's class
HasType : List LockType → NewLock → Type 0
HasType types lock =
    find (is_named (type_name_of lock)) types
    ≡ Some (record { name = type_name_of lock; class = lock.class })

same_classes : (a b : Class) → is_same_class a b ≡ true → a ≡ b
same_classes SleepMutex SleepMutex is = refl
same_classes SpinMutex SpinMutex is = refl
same_classes Rw Rw is = refl
same_classes Sx Sx is = refl
same_classes SleepMutex SpinMutex is = absurd (false≢true is)
same_classes SleepMutex Rw is = absurd (false≢true is)
same_classes SleepMutex Sx is = absurd (false≢true is)
same_classes SpinMutex SleepMutex is = absurd (false≢true is)
same_classes SpinMutex Rw is = absurd (false≢true is)
same_classes SpinMutex Sx is = absurd (false≢true is)
same_classes Rw SleepMutex is = absurd (false≢true is)
same_classes Rw SpinMutex is = absurd (false≢true is)
same_classes Rw Sx is = absurd (false≢true is)
same_classes Sx SleepMutex is = absurd (false≢true is)
same_classes Sx SpinMutex is = absurd (false≢true is)
same_classes Sx Rw is = absurd (false≢true is)

found-type : (name : List ℕ) (class : Class) (types : List LockType) → is_enrolled name types ≡ true
    → is_otherwise name class types ≡ false
    → find (is_named name) types ≡ Some (record { name = name; class = class })
found-type name class [] is other = absurd (false≢true is)
found-type name class (t ∷ ts) is other =
    go (is_named name t) refl is other (λ some none. found-type name class ts some none)
  where
    own : List ℕ → Class → LockType
    own n c = record { name = n; class = c }

    go : (b : Bool) → is_named name t ≡ b → (b || is_enrolled name ts) ≡ true
        → ((b && not (is_same_class t.class class)) || is_otherwise name class ts) ≡ false
        → (is_enrolled name ts ≡ true → is_otherwise name class ts ≡ false
        → find (is_named name) ts ≡ Some (record { name = name; class = class }))
        → cond b (Some t) (find (is_named name) ts) ≡ Some (record { name = name; class = class })
    go false e some none later = later some none
    go true e some none later =
        let same : t.class ≡ class =
        same_classes t.class class (not-false _ (or_parts _ _ none).0) in
        let named : t.name ≡ name = (bytes_eq-Decides t.name name).0 e in
        ap (λ n. Some (own n t.class)) named ∙ ap (λ c. Some (own name c)) same

unfound : {X : Type 0} (p : X → Bool) (xs : List X) → list_any p xs ≡ false → find p xs ≡ None
unfound p [] none = refl
unfound p (x ∷ xs) none = let parts =
    or_parts (p x) (list_any p xs) none in rw parts.0 (unfound p xs parts.1)

type-stays : (other : List ℕ) (class : Class) (types : List LockType) (lock : NewLock)
    → HasType types lock → HasType (enrolled other class types) lock
unfolding HasType
type-stays other class types lock has = go (is_enrolled other types)
  where
    go : (b : Bool) → find (is_named (type_name_of lock))
        (cond b types (types ++ record { name = other; class = class } ∷ []))
        ≡ Some (record { name = type_name_of lock; class = lock.class })
    go true = has
    go false =
        find-append (is_named (type_name_of lock)) types
        (record { name = other; class = class } ∷ [])
        ∙ ap (λ o. option_or o (find (is_named (type_name_of lock))
        (record { name = other; class = class } ∷ []))) has

type-new : (types : List LockType) (lock : NewLock)
    → is_otherwise (type_name_of lock) lock.class types ≡ false
    → HasType (enrolled (type_name_of lock) lock.class types) lock
unfolding HasType
type-new types lock other = go (is_enrolled (type_name_of lock) types) refl
  where
    own : LockType
    own = record { name = type_name_of lock; class = lock.class }

    itself : is_named (type_name_of lock) own ≡ true
    itself = (bytes_eq-Decides (type_name_of lock) (type_name_of lock)).1 refl

    go : (b : Bool) → is_enrolled (type_name_of lock) types ≡ b
        → find (is_named (type_name_of lock)) (cond b types (types ++ own ∷ [])) ≡ Some own
    go true is = found-type (type_name_of lock) lock.class types is other
    go false is = find-append (is_named (type_name_of lock)) types (own ∷ [])
        ∙ ap (λ o. option_or o (find (is_named (type_name_of lock)) (own ∷ [])))
        (unfound (is_named (type_name_of lock)) types is)
        ∙ ap (λ b. cond b (Some own) None) itself

HaveTypes : List LockType → List Lock → Type 0
HaveTypes types locks =
    (i : ℕ) → i < length locks → HasType types (get_or locks i unknown_lock).made

types_by : (start : Start) (files : List (List ℕ)) (h : List Entry) (t : ℕ) (c : Call) (r : Reply)
    → answer_of (story_after start files h) t c ≡ Ok r
    → HaveTypes (types_of start h) (typed_locks start h)
    → HaveTypes (types_of start (entry t c r ∷ h)) (typed_locks start (entry t c r ∷ h))
unfolding HaveTypes
types_by start files h t (Init lock) r ok all = λ i lt.
    ⊎_elim
    (λ old. subst (λ (k : Lock). HasType (types_after (Init lock) (types_of start h)) k.made)
    (sym (get_or_append_left (typed_locks start h) (made_among (types_of start h) (Init lock))
    unknown_lock i old))
    (type-stays (type_name_of lock) lock.class (types_of start h)
    (get_or (typed_locks start h) i unknown_lock).made (all i old)))
    (λ past. subst (λ (k : Lock). HasType (types_after (Init lock) (types_of start h)) k.made)
    (sym (let e : i ≡ length (typed_locks start h) = omega (
      arith,
      lt,
      past,
      length-append (typed_locks start h)
          (made_among (types_of start h) (Init lock)),
    ) in
    ap (λ n. get_or (typed_locks start (entry t (Init lock) r ∷ h)) n unknown_lock) e
    ∙ get_or-append_seam (typed_locks start h)
    (record {
      type_no = record { 0 = type_number (type_name_of lock) (types_of start h) };
      made = lock;
    }) [] unknown_lock))
    (type-new (types_of start h) lock
    (init_accepted (state_of (story_after start files h)) t lock r ok).class))
    (cases_lt i (length (typed_locks start h)))
types_by start files h t c r ok all =
    subst (λ ls. (i : ℕ) → i < length ls
    → HasType (types_of start h) (get_or ls i unknown_lock).made)
    (sym (typed-same start h t c r refl)) all

types_all : (start : Start) (files : List (List ℕ)) (h : List Entry) → IsLegal start files h
    → HaveTypes (types_of start h) (typed_locks start h)
unfolding HaveTypes
types_all start files [] legal = λ i lt. absurd (omega arith)
types_all start files (x ∷ h) legal =
    types_by start files h x.seat.0 x.call x.reply legal.0 (types_all start files h legal.2)

-- what stands under a number has a number that was given
number-within : {X : Type 0} (xs : List X) (n : ℕ) (x : X) → with_number xs n ≡ Some x
    → (0 < n) × (n ≤ length xs)
number-within {X = X} xs n x at = go (nat_lt 0 n) refl at
  where
    go : (b : Bool) → nat_lt 0 n ≡ b → cond b (slice_get xs (n - 1)) None ≡ Some x
        → (0 < n) × (n ≤ length xs)
    go true some here =
        let up = ltb-true 0 n some in
        let lt = slice_get_within xs (n - 1) x here in
        (up, omega (arith, up, lt))
    go false none here = cc

-- under its type's number, a lock that was made has its type name and its class
IsOfType : List LockType → Lock → Type 0
IsOfType types k =
    with_number types k.type_no.0
    ≡ Some (record { name = type_name_of k.made; class = k.made.class })

of_type : (start : Start) (files : List (List ℕ)) (h : List Entry) (l : ℕ) → IsLegal start files h
    → 0 < l → l ≤ length (typed_locks start h)
    → IsOfType (types_of start h) (lock_at (typed_locks start h) l)
unfolding HaveTypes HasType IsOfType
of_type start files h l legal some within =
    let k = lock_at (typed_locks start h) l in
    let typed : IsTyped (types_of start h) k = typed_made start h l some within in
    let place : k.type_no.0 - 1 ≡ position_or_len (is_named (type_name_of k.made))
    (types_of start h) = omega (arith, typed.number) in
    let own : find (is_named (type_name_of k.made)) (types_of start h)
    ≡ Some (record { name = type_name_of k.made; class = k.made.class }) =
    subst (λ (m : Lock). find (is_named (type_name_of m.made)) (types_of start h)
    ≡ Some (record { name = type_name_of m.made; class = m.made.class }))
    (sym (with_number-or (typed_locks start h) l unknown_lock some))
    (types_all start files h legal (l - 1) (omega arith)) in
    with_number-at (types_of start h) k.type_no.0 (omega (arith, typed.number))
    ∙ ap (λ i. slice_get (types_of start h) i) place
    ∙ sym (find_at (is_named (type_name_of k.made)) (types_of start h)) ∙ own

-- a lock that was found under a number is of its type
found_lock : (start : Start) (files : List (List ℕ)) (h : List Entry) (n : ℕ) (number : TypeNo)
    → IsLegal start files h
    → Some number ≡ lock_type (typed_locks start h) n
    → (number ≡ (lock_at (typed_locks start h) n).type_no)
    × IsOfType (types_of start h) (lock_at (typed_locks start h) n)
found_lock start files h n number legal is = go (with_number (typed_locks start h) n) refl is
  where
    go : (o : Option Lock) → with_number (typed_locks start h) n ≡ o
        → Some number ≡ option_map (λ (l : Lock). l.type_no) o
        → (number ≡ (lock_at (typed_locks start h) n).type_no)
        × IsOfType (types_of start h) (lock_at (typed_locks start h) n)
    go None none told = cc
    go (Some lock) here told =
        let given = number-within (typed_locks start h) n lock here in
        let own : lock_at (typed_locks start h) n ≡ lock =
        ap (λ o. unwrap_or o unknown_lock) here in (
          same_Some _ _ told ∙ ap (λ (l : Lock). l.type_no) (sym own),
          of_type start files h n legal given.0 given.1,
        )

-- so its type's class and name are its own
pub class_as_made : (start : Start) (files : List (List ℕ)) (h : List Entry) (n : ℕ)
    (number : TypeNo) (r : Option Class) → IsLegal start files h
    → Some number ≡ lock_type (typed_locks start h) n → r ≡ type_class (types_of start h) number.0
    → unwrap_or r SleepMutex ≡ (lock_at (typed_locks start h) n).made.class
unfolding IsOfType
class_as_made start files h n number r legal found told =
    let f = found_lock start files h n number legal found in
    ap (λ o. unwrap_or o SleepMutex)
    (told ∙ ap (λ (t : TypeNo). type_class (types_of start h) t.0) f.0
    ∙ ap (option_map (λ (t : LockType). t.class)) f.1)

pub name_as_made : (start : Start) (files : List (List ℕ)) (h : List Entry) (n : ℕ)
    (number : TypeNo) (r : Option (Bor (List ℕ))) (d : Bor (List ℕ)) → IsLegal start files h
    → Some number ≡ lock_type (typed_locks start h) n
    → option_copied r ≡ type_name (types_of start h) number.0
    → (unwrap_or r d).now ≡ type_name_of (lock_at (typed_locks start h) n).made
unfolding IsOfType
name_as_made start files h n number r d legal found told =
    let f = found_lock start files h n number legal found in
    go r (told ∙ ap (λ (t : TypeNo). type_name (types_of start h) t.0) f.0
    ∙ ap (option_map (λ (t : LockType). t.name)) f.1)
  where
    go : (o : Option (Bor (List ℕ)))
        → option_copied o ≡ Some (type_name_of (lock_at (typed_locks start h) n).made)
        → (unwrap_or o d).now ≡ type_name_of (lock_at (typed_locks start h) n).made
    go None none = cc
    go (Some name) here = same_Some _ _ here
