-- Which locks are live, once one more is made or one is destroyed.
use Rattle.std.proofs.Common.{◌≡◌, ℕ, zero, suc, ◌+◌, ◌-◌, ◌<◌, ◌≤◌, Bool, true, false, not, ◌&&◌}
use Rattle.std.proofs.Common.{◌||◌, cond, eqb, nat_lt, nat_le, List, [], ◌∷◌, ◌++◌, length, map}
use Rattle.std.proofs.Common.{set, get_or, unwrap_or, refl, ap, ap₂, sym, ◌∙◌, inl, inr, ⊎_elim}
use Rattle.std.proofs.Common.{arith}
use Rattle.std.specs.List.{range_with_len}
use Rattle.std.proofs.lemmas.Bool.{ne_eqb, eq-eqb, cases_lt, le-ltb, ltb-true, leb-true, and_parts}
use Rattle.std.proofs.lemmas.Bool.{true≢false}
use Rattle.std.proofs.lemmas.Bool.Decides.{eqb_tells}
use Rattle.std.proofs.lemmas.List.{get_or-set_same, get_or-set_other}
use Rattle.std.proofs.lemmas.List.FromFn.{length-map-range_with_len, get_or-map-range_with_len}
use Rattle.wit_model.specs.declared.locks.Class.{Class}
use Rattle.wit_model.specs.Rules.Types.{is_enrolled}
use Rattle.wit_model.specs.declared.locks.Lock.{Lock}
use Rattle.wit_model.specs.Rules.Locks.{is_destroyed}
use Rattle.wit_model.specs.Rules.Numbers.{is_given, IsGiven, with_number}
use Rattle.wit_model.proofs.Numbered.{with_number-or, with_number-none, with_changed-at}
use Rattle.wit_table.specs.Known.{Names, no_names, with_type, live_of, with_live}
use Rattle.wit_known.specs.Live.{live_flags, is_flagged}

-- ---- the flags

map-push : (f : ℕ → Bool) (a n : ℕ) → map f (range_with_len a (n + 1))
    ≡ map f (range_with_len a n) ++ f (a + n) ∷ []
map-push f a zero = ap (λ k. f k ∷ []) (let same : a ≡ a + 0 = omega arith in same)
map-push f a (suc n) =
    let size : suc n + 1 ≡ suc (n + 1) = omega arith in
    let last : a + 1 + n ≡ a + suc n = omega arith in
    ap (λ k. map f (range_with_len a k)) size ∙ ap (λ bs. f a ∷ bs)
    (map-push f (a + 1) n ∙ ap (λ k. map f (range_with_len (a + 1) n) ++ f k ∷ []) last)

-- one lock more
pub flags-made : (n : ℕ) (locks : List Lock) (destroyed : List ℕ) → length locks ≡ n + 1
    → is_destroyed destroyed (n + 1) ≡ false
    → live_flags (length locks) destroyed ≡ live_flags n destroyed ++ true ∷ []
flags-made n locks destroyed size fresh =
    let last : 1 + n ≡ n + 1 = omega arith in
    ap (λ k. live_flags k destroyed) size ∙ map-push (λ l. not (is_destroyed destroyed l)) 1 n
    ∙ ap (λ b. live_flags n destroyed ++ b ∷ [])
    (ap (λ k. not (is_destroyed destroyed k)) last ∙ ap not fresh)

drop-later : (m : ℕ) (destroyed : List ℕ) (a n : ℕ) → m < a
    → map (λ l. not (is_destroyed destroyed l)) (range_with_len a n)
    ≡ map (λ l. not (is_destroyed (m ∷ destroyed) l)) (range_with_len a n)
drop-later m destroyed a zero past = refl
drop-later m destroyed a (suc n) past =
    ap₂ (λ b bs. not (b || is_destroyed destroyed a) ∷ bs)
    (sym (ne_eqb m a (λ (e : m ≡ a). let none : ⊥ = omega arith in none)))
    (drop-later m destroyed (a + 1) n (omega (arith, past)))

drop-at : (m : ℕ) (destroyed : List ℕ) (a n i : ℕ) → a + i ≡ m → i < n
    → set (map (λ l. not (is_destroyed destroyed l)) (range_with_len a n)) i false
    ≡ map (λ l. not (is_destroyed (m ∷ destroyed) l)) (range_with_len a n)
drop-at m destroyed a zero i at lt = absurd (omega (arith, lt))
drop-at m destroyed a (suc n) zero at lt =
    let here : m ≡ a = omega (arith, at) in
    ap₂ (λ b bs. not (b || is_destroyed destroyed a) ∷ bs) (sym (eq-eqb m a here))
    (drop-later m destroyed (a + 1) n (omega (arith, here)))
drop-at m destroyed a (suc n) (suc i) at lt =
    ap₂ (λ b bs. not (b || is_destroyed destroyed a) ∷ bs)
    (sym (ne_eqb m a (λ (e : m ≡ a). let none : ⊥ = omega (arith, at, e) in none)))
    (drop-at m destroyed (a + 1) n i (omega (arith, at)) (omega (arith, lt)))

-- one lock that is destroyed
pub flags-destroyed : (n m : ℕ) (destroyed : List ℕ) → 0 < m → m ≤ n
    → set (live_flags n destroyed) (m - 1) false ≡ live_flags n (m ∷ destroyed)
flags-destroyed n m destroyed some within =
    drop-at m destroyed 1 n (m - 1) (omega (arith, some)) (omega (arith, some, within))

pub length-flags : (n : ℕ) (destroyed : List ℕ) → length (live_flags n destroyed) ≡ n
length-flags n destroyed = length-map-range_with_len (λ l. not (is_destroyed destroyed l)) 1 n

-- whether a lock is flagged
pub flag-is : (n l : ℕ) (destroyed : List ℕ) → is_flagged (live_flags n destroyed) l
    ≡ (nat_lt 0 l && nat_le l n) && not (is_destroyed destroyed l)
flag-is n l destroyed = go (nat_lt 0 l) refl (nat_le l n) refl
  where
    size : length (live_flags n destroyed) ≡ n
    size = length-map-range_with_len (λ k. not (is_destroyed destroyed k)) 1 n

    absent : (a b : Bool) → (a && b) ≡ false → nat_lt 0 l ≡ a → nat_le l n ≡ b
        → is_flagged (live_flags n destroyed) l ≡ false
    absent a b none some within =
        ap (λ o. unwrap_or o false)
        (with_number-none (live_flags n destroyed) l
        (ap (λ k. nat_lt 0 l && nat_le l k) size ∙ ap₂ (λ c e. c && e) some within ∙ none))

    go : (a : Bool) → nat_lt 0 l ≡ a → (b : Bool) → nat_le l n ≡ b
        → is_flagged (live_flags n destroyed) l ≡ (a && b) && not (is_destroyed destroyed l)
    go true some true within =
        let up = ltb-true 0 l some in
        let le = leb-true l n within in
        with_number-or (live_flags n destroyed) l false up
        ∙ get_or-map-range_with_len (λ k. not (is_destroyed destroyed k)) 1 n (l - 1) l false
        (omega (arith, up)) (omega (arith, up, le))
    go true some false within = absent true false refl some within
    go false some b within = absent false b refl some within

-- a flagged lock has a number
pub flag-within : (flags : List Bool) (l : ℕ) → is_flagged flags l ≡ true
    → (0 < l) × (l ≤ length flags)
flag-within flags l live = go (nat_lt 0 l && nat_le l (length flags)) refl
  where
    go : (b : Bool) → is_given flags l ≡ b → (0 < l) × (l ≤ length flags)
    go true given =
        let parts = and_parts (nat_lt 0 l) (nat_le l (length flags)) given in
        let some = ltb-true 0 l parts.0 in
        let within = leb-true l (length flags) parts.1 in
        (omega (arith, some), omega (arith, within))
    go false none =
        absurd (true≢false (sym live ∙ ap (λ o. unwrap_or o false) (with_number-none flags l none)))

-- ---- the counts

get_or-extended : (xs : List ℕ) (i : ℕ) → get_or (xs ++ 0 ∷ []) i 0 ≡ get_or xs i 0
get_or-extended [] zero = refl
get_or-extended [] (suc i) = refl
get_or-extended (x ∷ xs) zero = refl
get_or-extended (x ∷ xs) (suc i) = get_or-extended xs i

-- what counts 0 more counts the same
number-extended : (xs : List ℕ) (t : ℕ) → unwrap_or (with_number (xs ++ 0 ∷ []) t) 0
    ≡ unwrap_or (with_number xs t) 0
number-extended xs t =
    ⊎_elim
    (λ (some : 0 < t). with_number-or (xs ++ 0 ∷ []) t 0 some ∙ get_or-extended xs (t - 1)
    ∙ sym (with_number-or xs t 0 some))
    (λ (none : t ≤ 0). (let e = le-ltb 0 t none in rw e refl))
    (cases_lt 0 t)

-- where there are no types nothing is counted
pub none-counted : (types files t : ℕ) → live_of (no_names types files) t ≡ 0
none-counted types files t =
    ⊎_elim (λ (some : 0 < t). with_number-or [] t 0 some)
    (λ (none : t ≤ 0). (let zero-t = le-ltb 0 t none in rw zero-t refl)) (cases_lt 0 t)

-- a type that is enrolled leaves the counts
pub live_of-enrolled : (n : Names) (name : List ℕ) (class : Class) (t : ℕ)
    → live_of (with_type n name class) t ≡ live_of n t
live_of-enrolled n name class t = go (is_enrolled name n.types)
  where
    go : (b : Bool) → unwrap_or (with_number (cond b n.live (n.live ++ 0 ∷ [])) t) 0
        ≡ unwrap_or (with_number n.live t) 0
    go true = refl
    go false = number-extended n.live t

-- one count that is changed
pub live_of-changed : (n : Names) (m count t : ℕ) → IsGiven n.live m
    → live_of (with_live n m count) t ≡ cond (eqb m t) count (live_of n t)
live_of-changed n m count t given =
    ⊎_elim
    (λ (some : 0 < t).
    with_number-or (with_live n m count).live t 0 some
    ∙ ap (λ xs. get_or xs (t - 1) 0) (with_changed-at n.live m count given.0) ∙ by some)
    (λ (none : t ≤ 0).
    (let zero-t = le-ltb 0 t none in
    let apart =
    ne_eqb m t (λ (e : m ≡ t). let no-way : ⊥ = omega (arith, e, given.0, none) in no-way) in
    rw (zero-t, apart) refl))
    (cases_lt 0 t)
  where
    later : (m ≡ t → ⊥) → 0 < t → t - 1 ≡ m - 1 → ⊥
    later apart some same = apart (omega (arith, given.0, some, same))

    by : 0 < t → get_or (set n.live (m - 1) count) (t - 1) 0 ≡ cond (eqb m t) count (live_of n t)
    by some =
        elim (eqb_tells m t) [
          | inl e ↦
              (let at : t - 1 ≡ m - 1 = omega (arith, e.1) in
              rw e.0 (ap (λ i. get_or (set n.live (m - 1) count) i 0) at
              ∙ get_or-set_same n.live (m - 1) count 0 (omega (arith, given.0, given.1))))
          | inr e ↦
              (let apart = e.1 in
              rw e.0 (get_or-set_other n.live (m - 1) (t - 1) count 0 (later apart some)
              ∙ sym (with_number-or n.live t 0 some)))
        ]
