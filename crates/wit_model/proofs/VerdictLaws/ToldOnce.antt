-- No pair of types is told of twice.
use Rattle.std.proofs.Common.{◌≡◌, ℕ, Bool, true, false, cond, List, [], ◌∷◌, ◌++◌, refl, ap, sym}
use Rattle.std.proofs.Common.{◌∙◌, subst, ⊎_elim}
use Rattle.std.proofs.lemmas.Bool.{true≢false, or_cases, or_left, or_right, false_from_ne_true}
use Rattle.wit_model.specs.declared.locks.TypeNo.{TypeNo}
use Rattle.wit_model.specs.declared.calls.Reply.{Reply}
use Rattle.wit_model.specs.declared.calls.Reply.TheVariants.{Silent, Reversal, Duplicate}
use Rattle.wit_model.specs.declared.calls.Entry.{Entry}
use Rattle.wit_model.specs.Rules.Locks.{lock_at}
use Rattle.wit_model.specs.Rules.Orders.{is_pair_of, is_found, found_once}
use Rattle.wit_model.specs.Rules.State.{Start, typed_locks, found_after, found_of}
use Rattle.wit_model.specs.Rules.Step.{IsLegal}
use Rattle.wit_model.specs.Rules.Ahead.{type_of_lock}
use Rattle.wit_model.specs.VerdictLaws.{reported_pair, reported_pairs, AreUnlike}
use Rattle.wit_model.proofs.VerdictLaws.Told.{duplicate-one, reversal-fresh, duplicate-fresh}

found-stays : (p q : TypeNo) (pairs : List (TypeNo × TypeNo)) (a b : ℕ) → is_found pairs a b ≡ true
    → is_found (found_once p q pairs) a b ≡ true
found-stays p q pairs a b is = go (is_found pairs p.0 q.0)
  where
    go : (f : Bool) → is_found (cond f pairs ((p, q) ∷ pairs)) a b ≡ true
    go true = is
    go false = or_right (is_pair_of a b (p, q)) (is_found pairs a b) is

found-fresh : (p q : TypeNo) (pairs : List (TypeNo × TypeNo)) → is_found pairs p.0 q.0 ≡ false
    → found_once p q pairs ≡ (p, q) ∷ pairs
found-fresh p q pairs fresh = ap (λ f. cond f pairs ((p, q) ∷ pairs)) fresh

-- each reported pair was found
AreFound : List (TypeNo × TypeNo) → List (TypeNo × TypeNo) → Type 0
AreFound told found = (a b : ℕ) → is_found told a b ≡ true → is_found found a b ≡ true

find-more : (p : TypeNo × TypeNo) (told found : List (TypeNo × TypeNo)) → AreFound told found
    → AreFound (p ∷ told) (p ∷ found)
unfolding AreFound
find-more p told found all a b is =
    ⊎_elim
    (λ here. or_left (is_pair_of a b p) (is_found found a b) here)
    (λ there. or_right (is_pair_of a b p) (is_found found a b) (all a b there))
    (or_cases (is_pair_of a b p) (is_found told a b) is)

find-same : (p : TypeNo × TypeNo) (told found : List (TypeNo × TypeNo)) → AreFound told found
    → is_found found p.0.0 p.1.0 ≡ false → is_found told p.0.0 p.1.0 ≡ false
unfolding AreFound
find-same p told found all fresh =
    false_from_ne_true (is_found told p.0.0 p.1.0)
    (λ is. true≢false (sym (all p.0.0 p.1.0 is) ∙ fresh))

-- the pair that a report names wasn't found before
IsFresh : Start → List Entry → Reply → Type 0
IsFresh start h (Reversal x) =
    is_found (found_of start h) (type_of_lock start h x.held.lock.0)
    (type_of_lock start h x.asked.lock.0) ≡ false
IsFresh start h (Duplicate d) =
    (is_found (found_of start h) (type_of_lock start h d.asked.lock.0)
    (type_of_lock start h d.asked.lock.0) ≡ false)
    × (type_of_lock start h d.last.lock.0 ≡ type_of_lock start h d.asked.lock.0)
IsFresh start h _ = Unit {0}

fresh_by : (start : Start) (files : List (List ℕ)) (e : Entry) (h : List Entry)
    → IsLegal start files (e ∷ h) → (r : Reply) → e.reply ≡ r → IsFresh start h r
unfolding IsFresh
fresh_by start files e h legal (Reversal x) is = reversal-fresh start files e h legal x is
fresh_by start files e h legal (Duplicate d) is =
    (duplicate-fresh start files e h legal d is, duplicate-one start files e h legal d is)
fresh_by start files e h legal _ is = tt

AreOnce : List (TypeNo × TypeNo) → List (TypeNo × TypeNo) → Type 0
AreOnce told found = AreFound told found × AreUnlike told

once_more : (p : TypeNo × TypeNo) (told found : List (TypeNo × TypeNo))
    → is_found found p.0.0 p.1.0 ≡ false → AreOnce told found
    → AreOnce (p ∷ told) (found_once p.0 p.1 found)
unfolding AreOnce
once_more p told found fresh all = (
  subst (λ ps. AreFound (p ∷ told) ps) (sym (found-fresh p.0 p.1 found fresh))
      (find-more p told found all.0),
  (find-same p told found all.0 fresh, all.1),
)

once_by : (start : Start) (h : List Entry) (r : Reply) (told : List (TypeNo × TypeNo))
    → IsFresh start h r → AreOnce told (found_of start h)
    → AreOnce (reported_pair (typed_locks start h) r ++ told)
    (found_after (typed_locks start h) r (found_of start h))
unfolding IsFresh AreOnce AreFound
once_by start h (Reversal x) told fresh all =
    once_more (
      (lock_at (typed_locks start h) x.held.lock.0).type_no,
      (lock_at (typed_locks start h) x.asked.lock.0).type_no,
    ) told (found_of start h) fresh all
once_by start h (Duplicate d) told fresh all =
    let asked : TypeNo = (lock_at (typed_locks start h) d.asked.lock.0).type_no in
    subst (λ (n : TypeNo). AreOnce ((n, asked) ∷ told) (found_once asked asked (found_of start h)))
    (ap (λ n. record { 0 = n }) (sym fresh.1))
    (once_more (asked, asked) told (found_of start h) fresh.0 all)
once_by start h (Silent a b) told fresh all =
    (λ c d is. found-stays a b (found_of start h) c d (all.0 c d is), all.1)
once_by start h _ told fresh all = all

once_all : (start : Start) (files : List (List ℕ)) (h : List Entry) → IsLegal start files h
    → AreOnce (reported_pairs start h) (found_of start h)
unfolding AreOnce AreFound
once_all start files [] legal = (λ a b is. is, tt)
once_all start files (e ∷ h) legal =
    once_by start h e.reply (reported_pairs start h) (fresh_by start files e h legal e.reply refl)
    (once_all start files h legal.2)

-- no unordered pair of types is reported twice
pub reported-once : (start : Start) (files : List (List ℕ)) (h : List Entry) → IsLegal start files h
    → AreUnlike (reported_pairs start h)
unfolding AreOnce
reported-once start files h legal = (once_all start files h legal).1
