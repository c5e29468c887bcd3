-- How many locks of a list of chunks pass a test.
use Rattle.std.proofs.Common.{◌≡◌, ℕ, zero, suc, ◌+◌, ◌<◌, ◌≤◌, Bool, not, List, [], ◌∷◌, ◌++◌}
use Rattle.std.proofs.Common.{length, filter, drop, get_or, refl, ap, ◌∙◌, sym, subst, arith}
use Rattle.std.specs.List.{All}
use Rattle.std.proofs.lemmas.List.{drop_more, length-append, get_or_append_left}
use Rattle.std.proofs.lemmas.List.Elements.{All-drop, filter-append}
use Rattle.std.proofs.lemmas.List.Filters.{length-filter_both}
use Rattle.std.proofs.Math.Seq.{drop-append_seam}
use Rattle.wit_model.specs.Rules.Groups.{flat}

module _ {X : Type 0} (P : X → Type 0) where
  all-left : (xs ys : List X) → All P (xs ++ ys) → All P xs
  all-left xs ys all =
      λ k d lt. subst P (get_or_append_left xs ys d k lt)
      (all k d (omega (arith, lt, length-append xs ys)))

  all-right : (xs ys : List X) → All P (xs ++ ys) → All P ys
  all-right xs ys all =
      subst (All P) (drop-append_seam xs ys) (All-drop P (length xs) (xs ++ ys) all)

  -- what all of a list have, all of one of its chunks have
  pub all-in-chunk : (gs : List (List X)) (i : ℕ) → i < length gs → All P (flat gs)
      → All P (get_or gs i [])
  all-in-chunk [] i lt all = absurd (omega arith)
  all-in-chunk (g ∷ gs) zero lt all = all-left g (flat gs) all
  all-in-chunk (g ∷ gs) (suc i) lt all = all-in-chunk gs i (omega arith) (all-right g (flat gs) all)

module _ {X : Type 0} (p : X → Bool) where
  -- those that pass, and those that don't, are all
  pub both : (xs : List X) → length (filter p xs) + length (filter (λ x. not (p x)) xs) ≡ length xs
  both xs = length-filter_both p (λ x. not (p x)) (λ x. refl) xs

  -- those that pass in the last chunks, and in one before them
  pub passing-more : (gs : List (List X)) (i n : ℕ) → i < length gs → n ≡ i + 1
      → length (filter p (flat (drop i gs))) ≡ length (filter p (get_or gs i []))
      + length (filter p (flat (drop n gs)))
  passing-more gs i n lt next =
      ap (λ hs. length (filter p (flat hs))) (drop_more gs i [] lt)
      ∙ ap length (filter-append p (get_or gs i []) (flat (drop (i + 1) gs)))
      ∙ length-append (filter p (get_or gs i [])) (filter p (flat (drop (i + 1) gs)))
      ∙ ap (λ k. length (filter p (get_or gs i [])) + length (filter p (flat (drop k gs))))
      (sym next)

  -- they are no more than all
  pub passing-within : (gs : List (List X)) (i : ℕ)
      → length (filter p (flat (drop i gs))) ≤ length (flat gs)
  passing-within [] zero = omega arith
  passing-within [] (suc i) = omega arith
  passing-within (g ∷ gs) zero = omega (arith, both (g ++ flat gs))
  passing-within (g ∷ gs) (suc i) = omega (arith, passing-within gs i, length-append g (flat gs))

  first-on : (gs : List (List X)) → length (filter p (flat (drop 0 gs)))
      ≡ length (filter p (flat gs))
  first-on [] = refl
  first-on (g ∷ gs) = refl

  -- from the first chunk on they are all that pass
  pub passing-all : (gs : List (List X)) (i : ℕ) → i ≡ 0
      → length (filter p (flat (drop i gs))) ≡ length (filter p (flat gs))
  passing-all gs i first = ap (λ n. length (filter p (flat (drop n gs)))) first ∙ first-on gs
