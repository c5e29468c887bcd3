-- The locks with their types' numbers, beside the locks as they were made.
use Rattle.std.proofs.Common.{◌≡◌, ℕ, ◌<◌, ◌≤◌, true, List, [], ◌∷◌, ◌++◌, length, map, refl, ap}
use Rattle.std.proofs.Common.{ap₂, sym, ◌∙◌, arith}
use Rattle.std.proofs.lemmas.Bool.{and_parts, and_from, ltb-true, leb-true, lt-ltb, le-leb}
use Rattle.std.proofs.lemmas.List.{map-append}
use Rattle.std.proofs.Math.ListN.{length-map}
use Rattle.wit_model.specs.declared.calls.NewLock.{NewLock}
use Rattle.wit_model.specs.declared.calls.Call.{Call}
use Rattle.wit_model.specs.declared.calls.Call.TheVariants.{Init}
use Rattle.wit_model.specs.declared.calls.Entry.{Entry}
use Rattle.wit_model.specs.Rules.Types.{LockType, is_spin}
use Rattle.wit_model.specs.Rules.Locks.{Lock, made, locks_of, lock_of, lock_at, unknown_lock}
use Rattle.wit_model.specs.Rules.Locks.{made_among, is_spin_lock}
use Rattle.wit_model.specs.Rules.State.{Start, types_of, typed_locks}
use Rattle.wit_model.specs.Rules.Numbers.{is_given}
use Rattle.wit_model.proofs.Numbered.{with_number-or-map}

made_of : Lock → NewLock
made_of k = k.made

among-made : (types : List LockType) (c : Call) → map made_of (made_among types c) ≡ made c
unfolding made_of
among-made types (Init lock) = refl
among-made types _ = refl

-- without their types' numbers they are the locks as they were made
pub typed-made : (start : Start) (h : List Entry)
    → map (λ (k : Lock). k.made) (typed_locks start h) ≡ locks_of h
unfolding made_of
typed-made start [] = refl
typed-made start (e ∷ h) =
    map-append (λ (k : Lock). k.made) (typed_locks start h) (made_among (types_of start h) e.call)
    ∙ ap₂ (λ a b. a ++ b) (typed-made start h) (among-made (types_of start h) e.call)

pub length-typed : (start : Start) (h : List Entry)
    → length (typed_locks start h) ≡ length (locks_of h)
length-typed start h =
    sym (length-map (typed_locks start h) (λ (k : Lock). k.made)) ∙ ap length (typed-made start h)

pub lock_at-made : (start : Start) (h : List Entry) (l : ℕ)
    → (lock_at (typed_locks start h) l).made ≡ lock_of (locks_of h) l
lock_at-made start h l =
    sym (with_number-or-map (λ (k : Lock). k.made) (typed_locks start h) l unknown_lock)
    ∙ ap (λ ls. lock_of ls l) (typed-made start h)

pub spin_at : (start : Start) (h : List Entry) (l : ℕ)
    → is_spin (lock_at (typed_locks start h) l).made.class ≡ is_spin_lock (locks_of h) l
spin_at start h l = ap (λ (k : NewLock). is_spin k.class) (lock_at-made start h l)

-- a lock that is known was made
pub made-known : (start : Start) (h : List Entry) (l : ℕ) → is_given (typed_locks start h) l ≡ true
    → (0 < l) × (l ≤ length (locks_of h))
made-known start h l is =
    let parts = and_parts _ _ is in (
      ltb-true 0 l parts.0,
      (let le = leb-true l (length (typed_locks start h)) parts.1 in
          omega (arith, length-typed start h)),
    )

pub known-made : (start : Start) (h : List Entry) (l : ℕ) → (0 < l) × (l ≤ length (locks_of h))
    → is_given (typed_locks start h) l ≡ true
known-made start h l is =
    and_from _ _ (lt-ltb 0 l is.0)
    (le-leb l (length (typed_locks start h)) (omega (arith, is.1, length-typed start h)))
