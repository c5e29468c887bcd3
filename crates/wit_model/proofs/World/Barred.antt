-- Who waits can't have the lock, and who can't have it waits.
use Rattle.std.proofs.Common.{◌≡◌, ℕ, zero, suc, ◌+◌, ◌<◌, Bool, true, false, not, ◌||◌, eqb, List}
use Rattle.std.proofs.Common.{refl, ap, subst, ⊎_elim, arith}
use Rattle.std.specs.List.{list_all, range_with_len}
use Rattle.std.proofs.lemmas.Bool.{and_cases, cases_Bool, eqb-false, true≢false, false≢true}
use Rattle.wit_model.specs.declared.locks.Mode.{Mode}
use Rattle.wit_model.specs.declared.locks.Mode.TheVariants.{Shared, Exclusive}
use Rattle.wit_model.specs.declared.calls.Request.{Request}
use Rattle.wit_model.specs.Rules.History.{is_held}
use Rattle.wit_model.specs.Rules.State.{Start}
use Rattle.wit_model.specs.Rules.Verdict.{is_exclusive}
use Rattle.wit_model.specs.World.Deeds.{Deed, own, log_of, shares, raw_mode}
use Rattle.wit_model.specs.World.Stages.{Asked, stage}
use Rattle.wit_model.specs.World.Steps.{admits, IsWorld}
use Rattle.wit_model.specs.World.Waiting.{IsWaiting}
use Rattle.wit_model.proofs.World.Exclusion.{none-had, shared-had, has_seat}

-- ---- who waits can't have the lock

not-both : (b : Bool) → (b || false) ≡ true → b ≡ false → ⊥
not-both true one two = true≢false two
not-both false one two = false≢true one

module _ (start : Start) (files : List (List ℕ)) (w : List Deed)
    (world : IsWorld start files w) where
  refused : (u l : ℕ) (mode : Mode) → 0 < shares u l w
      → (is_exclusive (raw_mode u l w) || is_exclusive mode) ≡ true
      → admits start.sizes.seats l mode w ≡ true → ⊥
  refused u l Exclusive some barred admitted =
      none-had start.sizes.seats u l w (has_seat start files w world u l some) some admitted
  refused u l Shared some barred admitted =
      not-both (is_exclusive (raw_mode u l w)) barred
      (shared-had start.sizes.seats u l w (has_seat start files w world u l some) some admitted)

  pub waiting-barred : (t u : ℕ) (x : IsWaiting w t u)
      → admits start.sizes.seats x.request.lock.0 x.request.mode w ≡ false
  waiting-barred t u x =
      ⊎_elim (λ admitted. absurd (refused u x.request.lock.0 x.request.mode x.taken x.barred
      admitted)) (λ none. none)
      (cases_Bool (admits start.sizes.seats x.request.lock.0 x.request.mode w))

-- ---- who can't have it waits

some_not : (p : ℕ → Bool) (a n : ℕ) → list_all p (range_with_len a n) ≡ false
    → (u : ℕ) × (p u ≡ false)
some_not p a zero none = absurd (true≢false none)
some_not p a (suc n) none =
    ⊎_elim (λ here. (a, here)) (λ there. some_not p (a + 1) n there)
    (and_cases (p a) (list_all p (range_with_len (a + 1) n)) none)

neither : (a b : Bool) → (a || not b) ≡ false → (a ≡ false) × (b ≡ true)
neither true b is = absurd (true≢false is)
neither false true is = (refl, refl)
neither false false is = absurd (true≢false is)

positive : (n : ℕ) → eqb n 0 ≡ false → 0 < n
positive n is = let other = eqb-false n 0 is in omega arith

holder : (threads l : ℕ) (mode : Mode) (w : List Deed) → admits threads l mode w ≡ false
    → (u : ℕ) × (0 < shares u l w) × ((is_exclusive (raw_mode u l w) || is_exclusive mode) ≡ true)
holder threads l Exclusive w none =
    let u = some_not (λ t. eqb (shares t l w) 0) 1 threads none in
    (u.0, positive (shares u.0 l w) u.1, either (is_exclusive (raw_mode u.0 l w)))
  where
    either : (b : Bool) → (b || true) ≡ true
    either true = refl
    either false = refl
holder threads l Shared w none =
    let u =
    some_not (λ t. eqb (shares t l w) 0 || not (is_exclusive (raw_mode t l w))) 1
    threads none in
    let both = neither (eqb (shares u.0 l w) 0) (is_exclusive (raw_mode u.0 l w)) u.1 in
    (u.0, positive (shares u.0 l w) both.0, ap (λ b. b || false) both.1)

pub barred-waiting : (threads : ℕ) (w : List Deed) (t : ℕ) (q : Request)
    → stage t (own t w) ≡ Asked q → is_held t q.lock.0 (log_of w) ≡ false
    → shares t q.lock.0 w ≡ 0 → admits threads q.lock.0 q.mode w ≡ false → (u : ℕ) × IsWaiting w t u
barred-waiting threads w t q asks unheld none refused =
    let u = holder threads q.lock.0 q.mode w refused in (
      u.0,
      record {
        request = q;
        asks = asks;
        unheld = unheld;
        another =
            λ same. (let some : 0 < shares t q.lock.0 w = subst
            (λ k. 0 < shares k q.lock.0 w) same u.1 in omega arith);
        taken = u.1;
        barred = u.2;
      },
    )
