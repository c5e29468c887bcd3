-- What stands under a number once one of a list is another, or the locks are one more.
use Rattle.std.proofs.Common.{◌≡◌, ℕ, ◌+◌, ◌-◌, ◌<◌, ◌≤◌, Bool, true, false, cond, nat_lt, nat_le}
use Rattle.std.proofs.Common.{List, [], ◌∷◌, ◌++◌, length, zero, suc, set, get_or, unwrap_or, refl}
use Rattle.std.proofs.Common.{ap, sym, ◌∙◌, inl, inr, arith, length-append}
use Rattle.std.proofs.lemmas.Bool.{and_parts, cases_Bool, ltb-true, leb-true}
use Rattle.std.proofs.lemmas.List.{length-set, get_or-set_same, get_or-set_other}
use Rattle.wit_model.specs.declared.calls.Call.{Call}
use Rattle.wit_model.specs.declared.calls.Call.TheVariants.{Init}
use Rattle.wit_model.specs.declared.calls.Entry.{Entry}
use Rattle.wit_model.specs.Rules.Numbers.{is_given, with_number, with_changed}
use Rattle.wit_model.specs.Rules.State.{Start, types_of, typed_locks}
use Rattle.wit_model.specs.Rules.Locks.{made_among}
use Rattle.wit_model.specs.World.Scenes.{RawLock, nobodys, raw_of, raw_called}
use Rattle.wit_model.proofs.Numbered.{with_number-or, with_changed-at}

-- ---- one of a list by its number

pub length-changed : {X : Type 0} (xs : List X) (n : ℕ) (x : X)
    → length (with_changed xs n x) ≡ length xs
length-changed {X = X} xs n x = go (nat_lt 0 n)
  where
    go : (b : Bool) → length (cond b (set xs (n - 1) x) xs) ≡ length xs
    go true = length-set xs (n - 1) x
    go false = refl

module _ {X : Type 0} (xs : List X) (n : ℕ) (x d : X) (given : is_given xs n ≡ true) where
  given-low : 0 < n
  given-low = ltb-true 0 n (and_parts (nat_lt 0 n) (nat_le n (length xs)) given).0

  given-high : n ≤ length xs
  given-high = leb-true n (length xs) (and_parts (nat_lt 0 n) (nat_le n (length xs)) given).1

  pub changed-here : unwrap_or (with_number (with_changed xs n x) n) d ≡ x
  changed-here =
      let low = given-low in
      let high = given-high in
      ap (λ ys. unwrap_or (with_number ys n) d) (with_changed-at xs n x low)
      ∙ (with_number-or (set xs (n - 1) x) n d low ∙ get_or-set_same xs (n - 1) x d
      (omega (arith, low, high)))

  pub changed-elsewhere : (m : ℕ) → (n ≡ m → ⊥)
      → unwrap_or (with_number (with_changed xs n x) m) d ≡ unwrap_or (with_number xs m) d
  changed-elsewhere m other =
      let low = given-low in
      elim (cases_Bool (nat_lt 0 m)) [
        | inl some ↦
            let up = ltb-true 0 m some in
            ap (λ ys. unwrap_or (with_number ys m) d) (with_changed-at xs n x low)
            ∙ (with_number-or (set xs (n - 1) x) m d up
            ∙ (get_or-set_other xs (n - 1) (m - 1) x d
            (λ same. other (omega (arith, same, low, up))) ∙ sym (with_number-or xs m d up)))
        | inr none ↦ rw none refl
      ]

-- a lock that is nobody's at the end changes nothing
pub raw-added : (raw : List RawLock) (l : ℕ) → raw_of (raw ++ nobodys ∷ []) l ≡ raw_of raw l
raw-added raw l =
    elim (cases_Bool (nat_lt 0 l)) [
      | inl some ↦ let up =
          ltb-true 0 l some in with_number-or (raw ++ nobodys ∷ []) l nobodys up
          ∙ (go raw (l - 1) ∙ sym (with_number-or raw l nobodys up))
      | inr none ↦ rw none refl
    ]
  where
    alone : (i : ℕ) → get_or (nobodys ∷ []) i nobodys ≡ nobodys
    alone zero = refl
    alone (suc i) = refl

    go : (ks : List RawLock) (i : ℕ) → get_or (ks ++ nobodys ∷ []) i nobodys ≡ get_or ks i nobodys
    go [] i = alone i
    go (k ∷ ks) zero = refl
    go (k ∷ ks) (suc i) = go ks i

pub raw-called : (call : Call) (raw : List RawLock) (l : ℕ)
    → raw_of (raw_called call raw) l ≡ raw_of raw l
raw-called (Init lock) raw l = raw-added raw l
raw-called call raw l = refl

pub length-called : (start : Start) (e : Entry) (h : List Entry) (raw : List RawLock)
    → length raw ≡ length (typed_locks start h)
    → length (raw_called e.call raw) ≡ length (typed_locks start (e ∷ h))
length-called start e h raw same =
    go e.call ∙ sym (length-append (typed_locks start h) (made_among (types_of start h) e.call))
  where
    go : (call : Call) → length (raw_called call raw) ≡ length (typed_locks start h)
        + length (made_among (types_of start h) call)
    go (Init lock) = length-append raw (nobodys ∷ []) ∙ ap (λ n. n + 1) same
    go call = omega (arith, same)
