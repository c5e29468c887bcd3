-- What stands under a number.
use Rattle.std.proofs.Common.{◌≡◌, ℕ, ◌-◌, ◌<◌, Bool, true, false, cond, ◌&&◌, List, ◌++◌, Option}
use Rattle.std.proofs.Common.{None, Some, length, map, get_or, set, nat_lt, nat_le, unwrap_or, refl}
use Rattle.std.proofs.Common.{sym, ap, ◌∙◌, arith}
use Rattle.std.specs.List.{slice_get}
use Rattle.std.specs.Option.{option_map}
use Rattle.std.proofs.lemmas.Bool.{lt-ltb, ltb-true, leb-false}
use Rattle.std.proofs.lemmas.List.{get_or_append_left}
use Rattle.std.proofs.lemmas.Option.{slice_get-map, slice_get_past, unwrap_or-slice_get}
use Rattle.wit_model.specs.Rules.Numbers.{is_given, with_number, with_changed}

-- numbers begin with 1
pub with_number-at : {X : Type 0} (xs : List X) (n : ℕ) → 0 < n
    → with_number xs n ≡ slice_get xs (n - 1)
with_number-at xs n some = ap (λ b. cond b (slice_get xs (n - 1)) None) (lt-ltb 0 n some)

pub with_number-or : {X : Type 0} (xs : List X) (n : ℕ) (d : X) → 0 < n
    → unwrap_or (with_number xs n) d ≡ get_or xs (n - 1) d
with_number-or xs n d some =
    ap (λ o. unwrap_or o d) (with_number-at xs n some) ∙ unwrap_or-slice_get xs (n - 1) d

-- more at the end change no number
pub with_number-stays : {X : Type 0} (xs ys : List X) (n : ℕ) (d : X) → 0 < n → n - 1 < length xs
    → unwrap_or (with_number (xs ++ ys) n) d ≡ unwrap_or (with_number xs n) d
with_number-stays xs ys n d some within =
    with_number-or (xs ++ ys) n d some ∙ get_or_append_left xs ys d (n - 1) within
    ∙ sym (with_number-or xs n d some)

pub with_number-map : {X Y : Type 0} (f : X → Y) (xs : List X) (n : ℕ)
    → with_number (map f xs) n ≡ option_map f (with_number xs n)
with_number-map f xs n = go (nat_lt 0 n)
  where
    go : (b : Bool) → cond b (slice_get (map f xs) (n - 1)) None
        ≡ option_map f (cond b (slice_get xs (n - 1)) None)
    go true = slice_get-map f xs (n - 1)
    go false = refl

pub with_number-or-map : {X Y : Type 0} (f : X → Y) (xs : List X) (n : ℕ) (d : X)
    → unwrap_or (with_number (map f xs) n) (f d) ≡ f (unwrap_or (with_number xs n) d)
with_number-or-map {X = X} f xs n d =
    ap (λ o. unwrap_or o (f d)) (with_number-map f xs n) ∙ go (with_number xs n)
  where
    go : (o : Option X) → unwrap_or (option_map f o) (f d) ≡ f (unwrap_or o d)
    go None = refl
    go (Some x) = refl

-- what has no number isn't there
pub with_number-none : {X : Type 0} (xs : List X) (n : ℕ) → is_given xs n ≡ false
    → with_number xs n ≡ None
with_number-none xs n none = go (nat_lt 0 n) refl none
  where
    go : (b : Bool) → nat_lt 0 n ≡ b → (b && nat_le n (length xs)) ≡ false
        → cond b (slice_get xs (n - 1)) None ≡ None
    go true some past =
        let up = ltb-true 0 n some in
        let beyond = leb-false n (length xs) past in
        slice_get_past xs (n - 1) (omega (arith, up, beyond))
    go false zero past = refl

pub with_changed-at : {X : Type 0} (xs : List X) (n : ℕ) (x : X) → 0 < n
    → with_changed xs n x ≡ set xs (n - 1) x
with_changed-at xs n x some = ap (λ b. cond b (set xs (n - 1) x) xs) (lt-ltb 0 n some)
