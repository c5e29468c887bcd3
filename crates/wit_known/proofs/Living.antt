-- How many live locks there are of each type, once one more is made or one is destroyed.
use Rattle.std.proofs.Common.{◌≡◌, ℕ, zero, suc, ◌+◌, ◌-◌, ◌<◌, ◌≤◌, Bool, true, false, not, ◌&&◌}
use Rattle.std.proofs.Common.{cond, eqb, List, [], ◌∷◌, ◌++◌, length, map, set, get_or, count_by}
use Rattle.std.proofs.Common.{refl, ap, sym, ◌∙◌, inl, inr, arith, length-append, append_assoc}
use Rattle.std.specs.List.{range_with_len}
use Rattle.std.proofs.lemmas.Bool.{eq-eqb}
use Rattle.std.proofs.lemmas.Bool.Decides.{eqb_tells}
use Rattle.std.proofs.lemmas.List.{get_or_at}
use Rattle.std.proofs.lemmas.List.Sums.{sum_by-cons}
use Rattle.wit_model.specs.declared.locks.Class.{Class}
use Rattle.wit_model.specs.declared.locks.Lock.{Lock}
use Rattle.wit_model.specs.declared.sizes.TheConstants.Limits.{MOST_LOCKS}
use Rattle.wit_model.specs.Rules.Locks.{lock_at, unknown_lock, is_destroyed}
use Rattle.wit_model.specs.Rules.Numbers.{IsGiven}
use Rattle.wit_model.specs.Rules.State.{is_live_of, live_among}
use Rattle.wit_model.proofs.Numbered.{with_number-or}
use Rattle.wit_table.specs.Known.{Names, with_type, live_of, with_live}
use Rattle.wit_known.specs.Live.{live_flags, is_flagged, live_count}
use Rattle.wit_known.proofs.LiveFlags.{flag-within, live_of-enrolled, live_of-changed}

abbrev one_if : Bool → ℕ
one_if b = cond b 1 0

abbrev pub counts_one : Lock → Bool → ℕ → ℕ
counts_one lock b t = cond (eqb lock.type_no.0 t && b) 1 0

pub count-made : (locks : List Lock) (flags : List Bool) (lock : Lock) (t : ℕ)
    → length flags ≡ length locks
    → live_count (locks ++ lock ∷ []) (flags ++ true ∷ []) t
    ≡ live_count locks flags t + counts_one lock true t
count-made [] [] lock t size = omega arith
count-made [] (b ∷ flags) lock t size = absurd (omega (arith, size))
count-made (l ∷ locks) [] lock t size = absurd (omega (arith, size))
count-made (l ∷ locks) (b ∷ flags) lock t size =
    let more = count-made locks flags lock t (omega (arith, size)) in omega (arith, more)

pub count-destroyed : (locks : List Lock) (flags : List Bool) (i t : ℕ) (d : Lock)
    → i < length locks → get_or flags i false ≡ true
    → live_count locks (set flags i false) t + cond (eqb (get_or locks i d).type_no.0 t) 1 0
    ≡ live_count locks flags t
count-destroyed [] flags i t d lt is = absurd (omega (arith, lt))
count-destroyed (l ∷ locks) [] i t d lt is = (cc)
count-destroyed (l ∷ locks) (b ∷ flags) zero t d lt is = by b is (eqb l.type_no.0 t)
  where
    by : (c : Bool) → c ≡ true → (same : Bool)
        → cond (same && false) 1 0 + live_count locks flags t + cond same 1 0
        ≡ cond (same && c) 1 0 + live_count locks flags t
    by true live true = omega arith
    by true live false = omega arith
    by false live same = (cc)
count-destroyed (l ∷ locks) (b ∷ flags) (suc i) t d lt is =
    let fewer = count-destroyed locks flags i t d (omega (arith, lt)) is in omega (arith, fewer)

pub count-few : (locks : List Lock) (flags : List Bool) (t : ℕ)
    → live_count locks flags t ≤ length locks
count-few [] flags t = omega arith
count-few (l ∷ locks) [] t = omega arith
count-few (l ∷ locks) (b ∷ flags) t = let few =
    count-few locks flags t in by (eqb l.type_no.0 t && b) few
  where
    by : (c : Bool) → live_count locks flags t ≤ length locks
        → cond c 1 0 + live_count locks flags t ≤ suc (length locks)
    by true few = omega (arith, few)
    by false few = omega (arith, few)

-- the count is that of the rules
told-from : (before locks : List Lock) (destroyed : List ℕ) (t a : ℕ) → a ≡ length before + 1
    → live_count locks (map (λ l. not (is_destroyed destroyed l)) (range_with_len a (length locks)))
    t
    ≡ count_by (is_live_of (before ++ locks) destroyed t) (range_with_len a (length locks))
told-from before [] destroyed t a at = refl
told-from before (l ∷ locks) destroyed t a at =
    let whole : before ++ l ∷ locks ≡ (before ++ l ∷ []) ++ locks =
    sym (append_assoc before (l ∷ []) locks) in
    let rest =
    told-from (before ++ l ∷ []) locks destroyed t (a + 1)
    (omega (arith, at, length-append before (l ∷ []))) in
    let e =
    sum_by-cons (λ k. cond (is_live_of (before ++ l ∷ locks) destroyed t k) 1 0) a
    (range_with_len (a + 1) (length locks)) in
    let here : lock_at (before ++ l ∷ locks) a ≡ l
    = with_number-or (before ++ l ∷ locks) a unknown_lock (omega (arith, at))
    ∙ get_or_at before l locks unknown_lock (a - 1) (omega (arith, at)) in
    let f : counts_one l (not (is_destroyed destroyed a)) t
    ≡ cond (is_live_of (before ++ l ∷ locks) destroyed t a) 1 0
    = sym (ap (λ (k : Lock). cond (eqb k.type_no.0 t && not (is_destroyed destroyed a)) 1 0) here)
    in
    let g =
    ap (λ ls. count_by (is_live_of ls destroyed t) (range_with_len (a + 1) (length locks)))
    whole in
    omega (arith, rest, e, f, g)

pub count-told : (locks : List Lock) (destroyed : List ℕ) (t : ℕ)
    → live_count locks (live_flags (length locks) destroyed) t ≡ live_among locks destroyed t
count-told locks destroyed t = told-from [] locks destroyed t 1 refl

-- ---- what a table counts

abbrev pub Counts : Names → List Lock → List Bool → Type 0
Counts names locks flags = (t : ℕ) → live_of names t ≡ live_count locks flags t

-- each type has a count
pub given-count : (n : Names) (types m : ℕ) → types ≡ length n.types → types ≡ length n.live
    → IsGiven n.types m → IsGiven n.live m
given-count n types m of-types of-live given = (given.0, omega (arith, of-types, of-live, given.1))

-- a type that is enrolled leaves what is counted
counted-enrolled : (names enrolled : Names) (name : List ℕ) (class : Class) (locks : List Lock)
    (flags : List Bool) → enrolled ≡ with_type names name class
    → Counts names locks flags → Counts enrolled locks flags
counted-enrolled names enrolled name class locks flags is counts t =
    ap (λ n. live_of n t) is ∙ live_of-enrolled names name class t ∙ counts t

-- there is room for one more
pub room-enrolled : (names enrolled : Names) (name : List ℕ) (class : Class) (m : ℕ)
    (locks : List Lock) (flags : List Bool) → enrolled ≡ with_type names name class
    → Counts names locks flags → length locks < MOST_LOCKS → live_of enrolled m < MOST_LOCKS
room-enrolled names enrolled name class m locks flags is counts few =
    let same = counted-enrolled names enrolled name class locks flags is counts m in
    let le = count-few locks flags m in
    omega (arith, same, le, few)

-- a lock that is made
pub counted-made : (names enrolled retained : Names) (name : List ℕ) (class : Class) (m : ℕ)
    (locks : List Lock) (flags : List Bool) (lock : Lock) → lock.type_no.0 ≡ m
    → enrolled ≡ with_type names name class
    → retained ≡ with_live enrolled m (live_of enrolled m + 1) → IsGiven enrolled.live m
    → length flags ≡ length locks
    → Counts names locks flags → Counts retained (locks ++ lock ∷ []) (flags ++ true ∷ [])
counted-made names enrolled retained name class m locks flags lock of is more given size counts t =
    let was = counted-enrolled names enrolled name class locks flags is counts in
    let now =
    ap (λ n. live_of n t) more ∙ live_of-changed enrolled m (live_of enrolled m + 1) t given in
    let made = count-made locks flags lock t size in
    elim (eqb_tells m t) [
      | inl e ↦
          (let one : live_of retained t ≡ live_of enrolled m + 1 = now ∙ rw e.0 refl in
          let here : counts_one lock true t ≡ 1 =
          ap (λ k. one_if (eqb k t && true)) of ∙ rw e.0 refl in
          let old : live_of enrolled m ≡ live_count locks flags t =
          was m ∙ ap (live_count locks flags) e.1 in
          omega (arith, one, here, old, made))
      | inr e ↦
          (let none : live_of retained t ≡ live_of enrolled t = now ∙ rw e.0 refl in
          let here : counts_one lock true t ≡ 0 =
          ap (λ k. one_if (eqb k t && true)) of ∙ rw e.0 refl in
          let old = was t in
          omega (arith, none, here, old, made))
    ]

-- a live lock is counted
pub counted-live : (names : Names) (locks : List Lock) (flags : List Bool) (l : ℕ)
    → length flags ≡ length locks → is_flagged flags l ≡ true
    → Counts names locks flags → 0 < live_of names (lock_at locks l).type_no.0
counted-live names locks flags l size live counts =
    let within = flag-within flags l live in
    let here : lock_at locks l ≡ get_or locks (l - 1) unknown_lock =
    with_number-or locks l unknown_lock within.0 in
    let flag = sym (with_number-or flags l false within.0) ∙ live in
    let fewer =
    count-destroyed locks flags (l - 1) (lock_at locks l).type_no.0 unknown_lock
    (omega (arith, within.0, within.1, size)) flag in
    let same : cond (eqb (get_or locks (l - 1) unknown_lock).type_no.0 (lock_at locks l).type_no.0)
    1 0 ≡ 1
    = ap one_if (eq-eqb (get_or locks (l - 1) unknown_lock).type_no.0 (lock_at locks l).type_no.0
    (ap (λ (k : Lock). k.type_no.0) (sym here))) in
    omega (arith, fewer, same, counts (lock_at locks l).type_no.0)

-- a lock that is destroyed
pub counted-destroyed : (names released : Names) (l : ℕ) (locks : List Lock) (flags : List Bool)
    → length flags ≡ length locks → is_flagged flags l ≡ true
    → released ≡ with_live names (lock_at locks l).type_no.0
    (live_of names (lock_at locks l).type_no.0 - 1)
    → IsGiven names.live (lock_at locks l).type_no.0
    → Counts names locks flags → Counts released locks (set flags (l - 1) false)
counted-destroyed names released l locks flags size live less given counts t =
    let within = flag-within flags l live in
    let m = (lock_at locks l).type_no.0 in
    let here : lock_at locks l ≡ get_or locks (l - 1) unknown_lock =
    with_number-or locks l unknown_lock within.0 in
    let of : (get_or locks (l - 1) unknown_lock).type_no.0 ≡ m =
    ap (λ (k : Lock). k.type_no.0) (sym here) in
    let flag = sym (with_number-or flags l false within.0) ∙ live in
    let fewer =
    count-destroyed locks flags (l - 1) t unknown_lock
    (omega (arith, within.0, within.1, size)) flag in
    let now = ap (λ n. live_of n t) less ∙ live_of-changed names m (live_of names m - 1) t given in
    elim (eqb_tells m t) [
      | inl e ↦
          (let one : live_of released t ≡ live_of names m - 1 = now ∙ rw e.0 refl in
          let here : cond (eqb (get_or locks (l - 1) unknown_lock).type_no.0 t) 1 0 ≡ 1 =
          ap (λ k. one_if (eqb k t)) of ∙ rw e.0 refl in
          let old : live_of names m ≡ live_count locks flags t =
          counts m ∙ ap (live_count locks flags) e.1 in
          omega (arith, one, here, old, fewer))
      | inr e ↦
          (let none : live_of released t ≡ live_of names t = now ∙ rw e.0 refl in
          let here : cond (eqb (get_or locks (l - 1) unknown_lock).type_no.0 t) 1 0 ≡ 0 =
          ap (λ k. one_if (eqb k t)) of ∙ rw e.0 refl in
          let old = counts t in
          omega (arith, none, here, old, fewer))
    ]
