-- The last chunks of a list, one more at each step.
use Rattle.std.proofs.Common.{◌≡◌, ℕ, zero, suc, ◌+◌, ◌<◌, Bool, true, false, List, [], ◌∷◌, ◌++◌}
use Rattle.std.proofs.Common.{Option, None, Some, is_some, cond, length, drop, get_or, find}
use Rattle.std.proofs.Common.{reverse, refl, ap, sym, ◌∙◌}
use Rattle.std.specs.Option.{option_or}
use Rattle.std.proofs.lemmas.List.{drop_more, reverse-append}
use Rattle.std.proofs.lemmas.List.Folds.{find-append}
use Rattle.wit_model.specs.Rules.Groups.{flat}

-- the last chunks, and one before them
pub chunk-more : {X : Type 0} (gs : List (List X)) (i n : ℕ) → i < length gs → n ≡ i + 1
    → flat (drop i gs) ≡ get_or gs i [] ++ flat (drop n gs)
chunk-more gs i n lt next =
    ap flat (drop_more gs i [] lt) ∙ ap (λ k. get_or gs i [] ++ flat (drop k gs)) (sym next)

-- the newest that passes
pub newest-more : {X : Type 0} (p : X → Bool) (gs : List (List X)) (i n : ℕ)
    → i < length gs → n ≡ i + 1
    → find p (reverse (flat (drop i gs)))
    ≡ option_or (find p (reverse (flat (drop n gs)))) (find p (reverse (get_or gs i [])))
newest-more p gs i n lt next =
    ap (λ c. find p (reverse c)) (chunk-more gs i n lt next)
    ∙ ap (find p) (reverse-append (get_or gs i []) (flat (drop n gs)))
    ∙ find-append p (reverse (flat (drop n gs))) (reverse (get_or gs i []))

-- where it is in the last chunks, it is the newest of all
pub newest-of-all : {X : Type 0} (p : X → Bool) (gs : List (List X)) (n : ℕ) (x : X)
    → find p (reverse (flat (drop n gs))) ≡ Some x → find p (reverse (flat gs)) ≡ Some x
newest-of-all p [] zero x is = is
newest-of-all p [] (suc n) x is = is
newest-of-all p (g ∷ gs) zero x is = is
newest-of-all p (g ∷ gs) (suc n) x is =
    ap (find p) (reverse-append g (flat gs)) ∙ find-append p (reverse (flat gs)) (reverse g)
    ∙ ap (λ o. option_or o (find p (reverse g))) (newest-of-all p gs n x is)

module _ {X : Type 0} (p : X → Bool) (gs : List (List X)) (i n : ℕ) (chunk : List X)
    (found : Option X) (lt : i < length gs) (next : n ≡ i + 1) (is : chunk ≡ get_or gs i [])
    (sees : found ≡ find p (reverse chunk))
    (newer : find p (reverse (flat (drop n gs))) ≡ None) where
  here : find p (reverse (flat (drop i gs))) ≡ found
  here =
      newest-more p gs i n lt next ∙ ap (λ o. option_or o (find p (reverse (get_or gs i [])))) newer
      ∙ ap (λ (g : List X). find p (reverse g)) (sym is) ∙ sym sees

  -- none is newer, and one is in this chunk
  pub found-here : is_some found ≡ true → found ≡ find p (reverse (flat gs))
  found-here some = go found some here
    where
      go : (o : Option X) → is_some o ≡ true → find p (reverse (flat (drop i gs))) ≡ o
          → o ≡ find p (reverse (flat gs))
      go (Some x) some at = sym (newest-of-all p gs i x at)
      go None some at = (cc)

  -- nor is one in this chunk
  pub none-here : is_some found ≡ false → find p (reverse (flat (drop i gs))) ≡ None
  none-here none = go found none here
    where
      go : (o : Option X) → is_some o ≡ false → find p (reverse (flat (drop i gs))) ≡ o
          → find p (reverse (flat (drop i gs))) ≡ None
      go (Some x) none at = (cc)
      go None none at = at

-- a look that goes on from a list's later part to the earlier one: one chunk more
pub chunk-looked : {X S : Type 0} (all : List X → S → S)
    → ((c e : List X) (s : S) → all (c ++ e) s ≡ all c (all e s))
    → (gs : List (List X)) (s : S) (i n : ℕ) → i < length gs
    → n ≡ i + 1 → all (get_or gs i []) (all (flat (drop n gs)) s) ≡ all (flat (drop i gs)) s
chunk-looked all appends gs s i n lt next =
    sym (ap (λ e. all e s) (chunk-more gs i n lt next)
    ∙ appends (get_or gs i []) (flat (drop n gs)) s)

newer-or : {X : Type 0} (o : Option X) (b : Bool) (x : X)
    → cond (is_some o) o (cond b (Some x) None) ≡ option_or o (cond b (Some x) None)
newer-or None b x = refl
newer-or (Some y) b x = refl

-- the newest that passes, one older more
pub newest-older : {X : Type 0} (p : X → Bool) (x : X) (c : List X)
    → cond (is_some (find p (reverse c))) (find p (reverse c)) (cond (p x) (Some x) None)
    ≡ find p (reverse (x ∷ c))
newest-older p x c =
    newer-or (find p (reverse c)) (p x) x
    ∙ sym (ap (find p) (reverse-append (x ∷ []) c) ∙ find-append p (reverse c) (x ∷ []))
