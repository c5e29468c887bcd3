-- How much the log owes for one held lock.
use Rattle.std.proofs.Common.{◌≡◌, ℕ, zero, suc, ◌+◌, ◌-◌, ◌≤◌, ◌<◌, Bool, true, false, not, ◌&&◌, cond}
use Rattle.std.proofs.Common.{nat_lt, List, [], ◌∷◌, Option, None, Some, find, sum_by, unwrap_or}
use Rattle.std.proofs.Common.{refl, ap, arith}
use Rattle.std.specs.List.{slice_get}
use Rattle.std.proofs.lemmas.Bool.{eqb-true, false≢true}
use Rattle.std.proofs.lemmas.List.Sums.{sum_by-cons}
use Rattle.wit_model.specs.declared.locks.Instance.{Instance}
use Rattle.wit_model.specs.declared.sizes.TheConstants.Limits.{MOST_ACQUISITIONS, DEEPEST}
use Rattle.wit_model.specs.Rules.History.{is_off}
use Rattle.wit_model.specs.Rules.Locks.{lock_at}
use Rattle.wit_model.specs.Rules.State.{Story, State, Seat, state_of, seat_at, no_seat, chain_in}
use Rattle.wit_model.specs.Rules.State.{recorded_in, owed_by, owed}
use Rattle.wit_model.specs.Rules.Step.{held_by, is_deepest, is_too_deep}
use Rattle.wit_model.specs.Rules.Types.{is_spin}
use Rattle.wit_model.specs.Rules.Verdict.{is_of}
use Rattle.wit_core.specs.declared.verifier.Verifier.TheInside.{Inside}
use Rattle.wit_core.proofs.Now.{now}
use Rattle.wit_core.proofs.Seen.{IsSeenAs}

-- what is found in a list counts in its sum
found-sum : {X : Type 0} (g : X → ℕ) (p : X → Bool) (xs : List X) (x : X) → find p xs ≡ Some x
    → g x ≤ sum_by g xs
found-sum g p [] x is = (cc)
found-sum g p (y ∷ xs) x is = by (p y) is (λ rest. found-sum g p xs x rest)
  where
    by : (b : Bool) → cond b (Some y) (find p xs) ≡ Some x
        → (find p xs ≡ Some x → g x ≤ sum_by g xs) → g x ≤ sum_by g (y ∷ xs)
    by true at rest = let same : y ≡ x = cc in let e =
        ap g same in omega (arith, e, sum_by-cons g y xs)
    by false at rest = let le = rest at in omega (arith, le, sum_by-cons g y xs)

-- and so does what stands at a place
item-sum : {X : Type 0} (g : X → ℕ) (xs : List X) (i : ℕ) (d : X) → g d ≡ 0
    → g (unwrap_or (slice_get xs i) d) ≤ sum_by g xs
item-sum g [] i d none = omega (arith, none)
item-sum g (x ∷ xs) zero d none = omega (arith, sum_by-cons g x xs)
item-sum g (x ∷ xs) (suc i) d none = let le =
    item-sum g xs i d none in omega (arith, le, sum_by-cons g x xs)

seat-sum : (s : State) (t : ℕ) → owed_by (seat_at s t) ≤ owed s
seat-sum s t = by (nat_lt 0 t)
  where
    by : (b : Bool) → owed_by (unwrap_or (cond b (slice_get s.seats (t - 1)) None) no_seat)
        ≤ sum_by owed_by s.seats
    by true = item-sum owed_by s.seats (t - 1) no_seat refl
    by false = omega arith

chain-sum : (spin : Bool) (seat : Seat) → recorded_in (chain_in spin seat) ≤ owed_by seat
chain-sum true seat = omega arith
chain-sum false seat = omega arith

-- a lock at its greatest depth is owed as many releases as may be
deep-owed : (s : State) (t l : ℕ) → is_deepest (held_by s t l) ≡ true → MOST_ACQUISITIONS ≤ owed s
deep-owed s t l deep = by (held_by s t l) refl deep
  where
    spin : Bool
    spin = is_spin (lock_at s.known.locks l).made.class

    by : (o : Option Instance) → held_by s t l ≡ o → is_deepest o ≡ true → MOST_ACQUISITIONS ≤ owed s
    by None is at = absurd (false≢true at)
    by (Some i) is at =
        let count = eqb-true i.count DEEPEST at in
        let one =
        found-sum (λ (j : Instance). j.count + 1) (is_of l)
        (chain_in spin (seat_at s t)) i is in
        omega (arith, count, one, chain-sum spin (seat_at s t), seat-sum s t)

-- where the log owes fewer, none is
module _ {v : Inside} {s : Story} (this : IsSeenAs v s) (t l owes : ℕ) (is : owes ≡ v.log.owed)
    (few : owes < MOST_ACQUISITIONS) where
  pub not-deep : false ≡ is_too_deep (state_of s) t l
  not-deep = by (is_deepest (held_by (state_of s) t l)) refl
    where
      off : (b : Bool) → false ≡ (b && false)
      off true = refl
      off false = refl

      by : (b : Bool) → is_deepest (held_by (state_of s) t l) ≡ b
          → false ≡ (not (is_off (state_of s).watch) && b)
      by false deep = off (not (is_off (state_of s).watch))
      by true deep =
          let le = deep-owed (state_of s) t l deep in
          let same = ap owed (now this) in
          absurd (omega (arith, le, same, this.tied.owed, is, few))
