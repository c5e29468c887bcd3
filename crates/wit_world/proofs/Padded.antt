-- Locks of which the last ones are nobody's.
use Rattle.std.proofs.Common.{◌≡◌, ℕ, zero, suc, ◌+◌, ◌-◌, ◌<◌, ◌≤◌, nat_lt, List, [], ◌∷◌, ◌++◌}
use Rattle.std.proofs.Common.{length, get_or, set, replicate, Result, Ok, Err, OnErr, refl, ap, sym}
use Rattle.std.proofs.Common.{◌∙◌, subst, inl, inr, arith, append_assoc, length-append}
use Rattle.std.proofs.lemmas.Bool.{cases_Bool, ltb-true, ltb-false}
use Rattle.std.proofs.lemmas.List.{length-set, length-replicate, length_push, replicate_more}
use Rattle.std.proofs.lemmas.List.{replicate-append-replicate, set-append_left, get_or_read}
use Rattle.std.proofs.lemmas.List.{get_or_past}
use Rattle.wit_model.specs.Rules.Numbers.{with_changed}
use Rattle.wit_model.specs.World.Scenes.{RawLock, nobodys, raw_of, shares_among, shares_of}
use Rattle.wit_model.proofs.Numbered.{with_number-or, with_changed-at}
use Rattle.wit_world.specs.Shares.{up_to}

pub length-up_to : (n : ℕ) (xs : List RawLock) → length xs ≤ n → length (up_to n xs) ≡ n
length-up_to n xs fits =
    let many = length-append xs (replicate (n - length xs) nobodys) in
    let rest = length-replicate (n - length xs) nobodys in
    omega (arith, many, rest, fits)

nobody-at : (n i : ℕ) → get_or (replicate n nobodys) i nobodys ≡ nobodys
nobody-at zero i = refl
nobody-at (suc n) zero = refl
nobody-at (suc n) (suc i) = nobody-at n i

padded-at : (xs : List RawLock) (n i : ℕ) → get_or (xs ++ replicate n nobodys) i nobodys
    ≡ get_or xs i nobodys
padded-at [] n i = nobody-at n i
padded-at (x ∷ xs) n zero = refl
padded-at (x ∷ xs) n (suc i) = padded-at xs n i

pub raw_of-up_to : (n : ℕ) (xs : List RawLock) (l : ℕ) → raw_of (up_to n xs) l ≡ raw_of xs l
raw_of-up_to n xs l =
    elim (cases_Bool (nat_lt 0 l)) [
      | inl some ↦
          let up = ltb-true 0 l some in
          with_number-or (up_to n xs) l nobodys up
          ∙ (padded-at xs (n - length xs) (l - 1) ∙ sym (with_number-or xs l nobodys up))
      | inr none ↦ rw none refl
    ]

pub on_err : {X E P : Type 0} (r : Result X E) → P → OnErr r P
on_err (Ok x) p = tt
on_err (Err e) p = p

-- ---- one place more

pub reached_more : (old xs ys : List RawLock)
    → xs ≡ old ++ replicate (length xs - length old) nobodys → length old ≤ length xs
    → ys ≡ xs ++ nobodys ∷ []
    → ys ≡ old ++ replicate (length ys - length old) nobodys
reached_more old xs ys same longer more =
    let pushed = length_push xs nobodys in
    let count = ap length more in
    let next : (length xs - length old) + 1 ≡ length ys - length old =
    omega (arith, pushed, count, longer) in
    more ∙ ap (λ zs. zs ++ nobodys ∷ []) same ∙ append_assoc old
    (replicate (length xs - length old) nobodys) (nobodys ∷ [])
    ∙ ap (λ zs. old ++ zs) (replicate_more (length xs - length old) nobodys)
    ∙ ap (λ k. old ++ replicate k nobodys) next

-- more places are the same locks
pub reached-same : (n : ℕ) (xs ys : List RawLock)
    → ys ≡ xs ++ replicate (length ys - length xs) nobodys → length xs ≤ length ys → length ys ≤ n
    → up_to n ys ≡ up_to n xs
reached-same n xs ys same longer within =
    let sum : (length ys - length xs) + (n - length ys) ≡ n - length xs =
    omega (arith, longer, within) in
    ap (λ zs. zs ++ replicate (n - length ys) nobodys) same
    ∙ append_assoc xs (replicate (length ys - length xs) nobodys)
    (replicate (n - length ys) nobodys)
    ∙ ap (λ zs. xs ++ zs) (replicate-append-replicate (length ys - length xs)
    (n - length ys) nobodys)
    ∙ ap (λ k. xs ++ replicate k nobodys) sum

-- ---- one lock changed

module _ (n : ℕ) (xs : List RawLock) (l : ℕ) (k : RawLock) (some : 0 < l) (within : l ≤ length xs)
    (here : k ≡ get_or xs (l - 1) k) where
  pub lock-now : raw_of (up_to n xs) l ≡ k
  lock-now =
      let below : l - 1 < length xs = omega (arith, some, within) in
      raw_of-up_to n xs l ∙ with_number-or xs l nobodys some
      ∙ sym (get_or_read xs (l - 1) k below here nobodys)

pub changed-now : (n : ℕ) (xs : List RawLock) (l : ℕ) (k new : RawLock) (f : RawLock → RawLock)
    → 0 < l → l ≤ length xs → k ≡ get_or xs (l - 1) k → new ≡ f k
    → up_to n (set xs (l - 1) new) ≡ with_changed (up_to n xs) l (f (raw_of (up_to n xs) l))
changed-now n xs l k new f some within here is =
    let below : l - 1 < length xs = omega (arith, some, within) in
    let old = lock-now n xs l k some within here in
    ap (λ m. set xs (l - 1) new ++ replicate (n - m) nobodys) (length-set xs (l - 1) new)
    ∙ sym (set-append_left xs (replicate (n - length xs) nobodys) (l - 1) new below)
    ∙ ap (λ x. set (up_to n xs) (l - 1) x) (is ∙ ap f (sym old))
    ∙ sym (with_changed-at (up_to n xs) l (f (raw_of (up_to n xs) l)) some)

-- who has a share has one of these
pub had-within : (n : ℕ) (xs : List RawLock) (t l : ℕ) → 0 < shares_of (up_to n xs) t l
    → (0 < l) × (l ≤ length xs)
had-within n xs t l some =
    let had : 0 < shares_of xs t l =
    subst (λ (k : RawLock). 0 < shares_among t k.holders) (raw_of-up_to n xs l) some in
    elim (cases_Bool (nat_lt 0 l)) [
      | inl is ↦
          let up = ltb-true 0 l is in
          elim (cases_Bool (nat_lt (l - 1) (length xs))) [
            | inl below ↦ let lt = ltb-true (l - 1) (length xs) below in (up, omega (arith, up, lt))
            | inr beyond ↦
                let past = ltb-false (l - 1) (length xs) beyond in
                let none : raw_of xs l ≡ nobodys =
                with_number-or xs l nobodys up ∙ get_or_past xs (l - 1) nobodys past in
                let zero : 0 < shares_among t nobodys.holders =
                subst (λ (k : RawLock). 0 < shares_among t k.holders) none had in
                absurd (omega (arith, zero))
          ]
      | inr none ↦ absurd (let zero : 0 < 0 = rw none at had in omega (arith, zero))
    ]
