-- A lock in a chain where it stands once: found, changed in its place, and removed from it.
use Rattle.std.proofs.Common.{◌≡◌, ℕ, ◌+◌, ◌≤◌, Bool, true, false, cond, eqb, List, [], ◌∷◌, ◌++◌}
use Rattle.std.proofs.Common.{map, filter, find, sum_by, Option, Some, refl, ap, ap₂, sym, ◌∙◌}
use Rattle.std.proofs.Common.{subst, arith}
use Rattle.std.specs.List.{list_all}
use Rattle.std.proofs.lemmas.List.{map-append}
use Rattle.std.proofs.lemmas.List.Elements.{filter-append}
use Rattle.std.proofs.lemmas.List.Sums.{sum_by-append, sum_by-cons}
use Rattle.wit_model.specs.declared.locks.Instance.{Instance}
use Rattle.wit_model.specs.declared.calls.Entry.{Entry}
use Rattle.wit_model.specs.Rules.Locks.{locks_of, is_of_kind}
use Rattle.wit_model.specs.Rules.History.{is_held, held, held_of, chain, instance}
use Rattle.wit_model.specs.Rules.Verdict.{is_of}
use Rattle.wit_model.proofs.Chains.Sane.{IsSane}
use Rattle.wit_model.proofs.Lists.{times, times-cons, times-nil}
use Rattle.wit_model.proofs.Chains.Held.{one_if, once}
use Rattle.wit_model.proofs.Chains.Changes.{at, is_other, map-absent, filter-absent}

-- how often a lock stands in a chain
unfoldable pub stands : ℕ → List Instance → ℕ
stands l [] = 0
stands l (i ∷ c) = one_if (is_of l i) + stands l c

stands-map : (t l : ℕ) (h : List Entry) (ls : List ℕ)
    → stands l (map (instance t h) ls) ≡ times l ls
unfolding stands
stands-map t l h [] = sym (times-nil l)
stands-map t l h (m ∷ ls) =
    ap (λ n. one_if (eqb m l) + n) (stands-map t l h ls) ∙ sym (times-cons l m ls)

times-filter_le : (l : ℕ) (p : ℕ → Bool) (ls : List ℕ) → times l (filter p ls) ≤ times l ls
times-filter_le l p [] = omega arith
times-filter_le l p (m ∷ ls) = go (p m) (times-filter_le l p ls)
  where
    go : (b : Bool) → times l (filter p ls) ≤ times l ls
        → times l (cond b (m ∷ filter p ls) (filter p ls)) ≤ times l (m ∷ ls)
    go true le = omega (arith, times-cons l m (filter p ls), times-cons l m ls, le)
    go false le = omega (arith, times-cons l m ls, le)

one_if-le : (b : Bool) → one_if b ≤ 1
one_if-le true = omega arith
one_if-le false = omega arith

-- in a seat's chain each lock stands at most once
pub stands-chain : (k : Bool) (t l : ℕ) (h : List Entry) → IsSane h → stands l (chain k t h) ≤ 1
stands-chain k t l h sane =
    omega (
      arith,
      stands-map t l h (held_of k t h),
      times-filter_le l (is_of_kind k (locks_of h))
          (held t h),
      once t l h sane,
      one_if-le (is_held t l h),
    )

-- a chain before, at and after the lock
record Split (l : ℕ) (c : List Instance) (i : Instance) : Type 0 where
  front : List Instance
  back : List Instance
  whole : c ≡ front ++ i ∷ back
  here : is_of l i ≡ true
  front_free : list_all (is_other l) front ≡ true
  back_free : list_all (is_other l) back ≡ true

absent-from : (l : ℕ) (c : List Instance) → stands l c ≡ 0 → list_all (is_other l) c ≡ true
unfolding stands
absent-from l [] none = refl
absent-from l (i ∷ c) none = go (is_of l i) refl (absent-from l c (omega arith))
  where
    go : (b : Bool) → is_of l i ≡ b → list_all (is_other l) c ≡ true
        → list_all (is_other l) (i ∷ c) ≡ true
    go true is rest = absurd (let e : one_if (is_of l i) ≡ 1 = ap one_if is in omega arith)
    go false is rest = rw (is, rest) refl

split_cons : (l : ℕ) (x : Instance) (c : List Instance) (i : Instance) → is_of l x ≡ false
    → Split l c i → Split l (x ∷ c) i
split_cons l x c i other s = record {
  front = x ∷ s.front;
  back = s.back;
  whole = ap (λ d. x ∷ d) s.whole;
  here = s.here;
  front_free = rw (other, s.front_free) refl;
  back_free = s.back_free;
}

split_here : (l : ℕ) (x : Instance) (c : List Instance) (i : Instance) → is_of l x ≡ true
    → ◌≡◌ {A = Option Instance} (Some x) (Some i) → stands l c ≡ 0 → Split l (x ∷ c) i
split_here l x c i is same none =
    let e : x ≡ i = cc in
    record {
      front = [];
      back = c;
      whole = ap (λ j. j ∷ c) e;
      here = subst (λ j. is_of l j ≡ true) e is;
      front_free = refl;
      back_free =
          absent-from l c none;
    }

split : (l : ℕ) (c : List Instance) (i : Instance) → find (is_of l) c ≡ Some i
    → stands l c ≤ 1 → Split l c i
unfolding stands
split l [] i is one = (cc)
split l (x ∷ c) i is one = go (is_of l x) refl is (λ f. split l c i f (omega arith))
  where
    go : (b : Bool) → is_of l x ≡ b → cond b (Some x) (find (is_of l) c) ≡ Some i
        → (find (is_of l) c ≡ Some i → Split l c i) → Split l (x ∷ c) i
    go true at is' rest =
        split_here l x c i at is' (let e : one_if (is_of l x) ≡ 1 = ap one_if at in omega arith)
    go false at is' rest = split_cons l x c i at (rest is')

map-split : (l : ℕ) (f : Instance → Instance) (c : List Instance) (i : Instance) → (s : Split l c i)
    → map (at l f) c ≡ s.front ++ f i ∷ s.back
map-split l f c i s =
    ap (λ d. map (at l f) d) s.whole
    ∙ map-append (at l f) s.front (i ∷ s.back)
    ∙ ap₂ (λ a b. a ++ b) (map-absent l f s.front s.front_free)
    (ap₂ (λ j d. j ∷ d) (let e : is_of l i ≡ true = s.here in rw e refl)
    (map-absent l f s.back s.back_free))

filter-split : (l : ℕ) (c : List Instance) (i : Instance) → (s : Split l c i)
    → filter (is_other l) c ≡ s.front ++ s.back
filter-split l c i s =
    ap (λ d. filter (is_other l) d) s.whole
    ∙ filter-append (is_other l) s.front (i ∷ s.back)
    ∙ ap₂ (λ a b. a ++ b) (filter-absent l s.front s.front_free)
    ((let e : is_of l i ≡ true = s.here in rw e refl) ∙ filter-absent l s.back s.back_free)

-- a sum over the chain, where the lock is changed or removed
pub sum-changed : (g : Instance → ℕ) (l : ℕ) (f : Instance → Instance) (c : List Instance)
    (i : Instance) → find (is_of l) c ≡ Some i → stands l c ≤ 1
    → sum_by g (map (at l f) c) + g i ≡ sum_by g c + g (f i)
sum-changed g l f c i is one =
    let s = split l c i is one in
    omega (
      arith,
      ap (λ d. sum_by g d) (map-split l f c i s),
      sum_by-append g s.front (f i ∷ s.back),
      sum_by-cons g (f i) s.back,
      ap (λ d. sum_by g d) s.whole,
      sum_by-append g s.front (i ∷ s.back),
      sum_by-cons g i s.back,
    )

pub sum-removed : (g : Instance → ℕ) (l : ℕ) (c : List Instance) (i : Instance)
    → find (is_of l) c ≡ Some i → stands l c ≤ 1
    → sum_by g (filter (is_other l) c) + g i ≡ sum_by g c
sum-removed g l c i is one =
    let s = split l c i is one in
    omega (
      arith,
      ap (λ d. sum_by g d) (filter-split l c i s),
      sum_by-append g s.front s.back,
      ap (λ d. sum_by g d) s.whole,
      sum_by-append g s.front (i ∷ s.back),
      sum_by-cons g i s.back,
    )
