-- A lock that is destroyed was made, so the next one to be made isn't destroyed.
use Rattle.std.proofs.Common.{◌≡◌, ℕ, ◌+◌, Bool, true, false, eqb, List, [], ◌∷◌, ◌++◌, length}
use Rattle.std.proofs.Common.{refl, subst, arith, length-append, Ok, ⊎_elim}
use Rattle.std.proofs.lemmas.Bool.{eqb-true, or_cases, false≢true}
use Rattle.wit_model.specs.Rules.Locks.{is_destroyed, destroyed_by, destroyed_of, locks_of, made}
use Rattle.wit_model.specs.Rules.Numbers.{IsGiven}
use Rattle.wit_model.specs.Rules.State.{Start, state_of, typed_locks}
use Rattle.wit_model.specs.declared.calls.Call.{Call}
use Rattle.wit_model.specs.declared.calls.Call.TheVariants.{Destroy}
use Rattle.wit_model.specs.declared.calls.Entry.{Entry}
use Rattle.wit_model.specs.Rules.Step.{IsLegal, answer_of, story_after}
use Rattle.wit_model.specs.declared.calls.Reply.{Reply}
use Rattle.wit_model.proofs.Histories.AcceptedLocks.{destroy_accepted}
use Rattle.wit_model.proofs.Orders.TypedLocks.{length-typed, made-known}

-- a destroyed lock was made
destroyed-by : (start : Start) (files : List (List ℕ)) (h : List Entry) (t : ℕ) (c : Call)
    (r : Reply) (l : ℕ) → answer_of (story_after start files h) t c ≡ Ok r
    → (is_destroyed (destroyed_of h) l ≡ true → IsGiven (locks_of h) l)
    → is_destroyed (destroyed_by c ++ destroyed_of h) l ≡ true → IsGiven (locks_of h) l
destroyed-by start files h t (Destroy m) r l ok was is =
    ⊎_elim
    (λ this. subst (λ k. IsGiven (locks_of h) k) (eqb-true m.0 l this)
    (made-known start h m.0 (destroy_accepted (state_of (story_after start files h)) t
    m.0 r ok).lock))
    was
    (or_cases (eqb m.0 l) (is_destroyed (destroyed_of h) l) is)
destroyed-by start files h t c r l ok was is = was is

pub destroyed-made : (start : Start) (files : List (List ℕ)) (h : List Entry) (l : ℕ)
    → IsLegal start files h → is_destroyed (destroyed_of h) l ≡ true → IsGiven (locks_of h) l
destroyed-made start files [] l legal is = absurd (false≢true is)
destroyed-made start files (x ∷ h) l legal is =
    let was =
    destroyed-by start files h x.seat.0 x.call x.reply l legal.0
    (destroyed-made start files h l legal.2) is in
    (was.0, omega (arith, was.1, length-append (locks_of h) (made x.call)))

-- the next lock to be made isn't destroyed
pub next-undestroyed : (start : Start) (files : List (List ℕ)) (h : List Entry)
    → IsLegal start files h
    → is_destroyed (destroyed_of h) (length (typed_locks start h) + 1) ≡ false
next-undestroyed start files h legal =
    go (is_destroyed (destroyed_of h) (length (typed_locks start h) + 1)) refl
  where
    go : (b : Bool) → is_destroyed (destroyed_of h) (length (typed_locks start h) + 1) ≡ b
        → is_destroyed (destroyed_of h) (length (typed_locks start h) + 1) ≡ false
    go true is =
        absurd (let made = destroyed-made start files h
        (length (typed_locks start h) + 1) legal is in
        omega (arith, made.1, length-typed start h))
    go false is = is
