-- Texts that are laid one behind another, for numbers from 1 on.
use Rattle.std.proofs.Common.{◌≡◌, ℕ, ◌+◌, Bool, true, false, cond, List, [], ◌∷◌, ◌++◌, map}
use Rattle.std.proofs.Common.{filter, refl, sym, ap, ◌∙◌, arith, append_assoc}
use Rattle.std.specs.List.{flat_map, range_with_len}
use Rattle.std.proofs.lemmas.List.{append-nil}
use Rattle.std.proofs.lemmas.List.Concat.{flat_map-append}
use Rattle.std.proofs.lemmas.List.FromFn.{map-range_with_len_more}
use Rattle.std.proofs.lemmas.List.FromFn.{filter_of_map_range_with_len_more}

map-same : (xs : List ℕ) → map (λ (x : ℕ). x) xs ≡ xs
map-same [] = refl
map-same (x ∷ xs) = ap (λ ys. x ∷ ys) (map-same xs)

-- ---- for each number from 1 on

pub range-more : (n : ℕ) → range_with_len 1 (n + 1) ≡ range_with_len 1 n ++ (n + 1) ∷ []
range-more n =
    let next : 1 + n ≡ n + 1 = omega arith in
    sym (map-same (range_with_len 1 (n + 1))) ∙ map-range_with_len_more (λ x. x) 1 n (n + 1) next
    ∙ ap (λ xs. xs ++ (n + 1) ∷ []) (map-same (range_with_len 1 n))

pub each_turn : (f : ℕ → List ℕ) (n : ℕ) (t u w : List ℕ) → u ≡ t ++ flat_map f (range_with_len 1 n)
    → w ≡ u ++ f (n + 1) → w ≡ t ++ flat_map f (range_with_len 1 (n + 1))
each_turn f n t u w before next =
    next ∙ ap (λ x. x ++ f (n + 1)) before ∙ append_assoc t
    (flat_map f (range_with_len 1 n)) (f (n + 1))
    ∙ ap (λ x. t ++ (flat_map f (range_with_len 1 n) ++ x)) (sym (append-nil (f (n + 1))))
    ∙ ap (λ x. t ++ x) (sym (flat_map-append f (range_with_len 1 n) ((n + 1) ∷ []))
    ∙ ap (flat_map f) (sym (range-more n)))

-- ---- for each of these that passes a test

pub some-more : (p : ℕ → Bool) (n : ℕ) → filter p (range_with_len 1 (n + 1))
    ≡ filter p (range_with_len 1 n) ++ cond (p (n + 1)) ((n + 1) ∷ []) []
some-more p n =
    let next : 1 + n ≡ n + 1 = omega arith in
    ap (filter p) (sym (map-same (range_with_len 1 (n + 1))))
    ∙ filter_of_map_range_with_len_more p (λ x. x) 1 n (n + 1) next
    ∙ ap (λ xs. filter p xs ++ cond (p (n + 1)) ((n + 1) ∷ []) []) (map-same (range_with_len 1 n))

pub some_turn : (p : ℕ → Bool) (f : ℕ → List ℕ) (n : ℕ) (t u w : List ℕ) → p (n + 1) ≡ true
    → u ≡ t ++ flat_map f (filter p (range_with_len 1 n)) → w ≡ u ++ f (n + 1)
    → w ≡ t ++ flat_map f (filter p (range_with_len 1 (n + 1)))
some_turn p f n t u w is before next =
    let old = filter p (range_with_len 1 n) in
    next ∙ ap (λ x. x ++ f (n + 1)) before ∙ append_assoc t (flat_map f old) (f (n + 1))
    ∙ ap (λ x. t ++ (flat_map f old ++ x)) (sym (append-nil (f (n + 1))))
    ∙ ap (λ x. t ++ x)
    (sym (flat_map-append f old ((n + 1) ∷ []))
    ∙ ap (λ b. flat_map f (old ++ cond b ((n + 1) ∷ []) [])) (sym is)
    ∙ ap (flat_map f) (sym (some-more p n)))

pub some_skip : (p : ℕ → Bool) (f : ℕ → List ℕ) (n : ℕ) (t u : List ℕ) → p (n + 1) ≡ false
    → u ≡ t ++ flat_map f (filter p (range_with_len 1 n))
    → u ≡ t ++ flat_map f (filter p (range_with_len 1 (n + 1)))
some_skip p f n t u isnt before =
    let old = filter p (range_with_len 1 n) in
    before
    ∙ ap (λ x. t ++ flat_map f x) (sym (append-nil old)
    ∙ ap (λ b. old ++ cond b ((n + 1) ∷ []) []) (sym isnt) ∙ sym (some-more p n))
