-- A circle has one within it whose seats all differ.
use Rattle.std.proofs.Common.{◌≡◌, ℕ, ◌⊎◌, Bool, true, false, ◌||◌, eqb, List, [], ◌∷◌, refl, sym, subst}
use Rattle.std.proofs.Common.{inl, inr, ⊎_elim}
use Rattle.std.specs.List.{list_any}
use Rattle.std.proofs.lemmas.Bool.{cases_Bool, or_parts, or_from, false≢true, true≢false}
use Rattle.std.proofs.lemmas.Bool.Decides.{eqb_tells}
use Rattle.wit_model.specs.Rules.Circles.{IsQueue, IsCircle}

-- no two of these numbers are equal
abbrev pub AllDiffer : List ℕ → Type 0
AllDiffer [] = Unit {0}
AllDiffer (t ∷ ts) = (list_any (eqb t) ts ≡ false) × AllDiffer ts

rest-true : (a b : Bool) → a ≡ false → (a || b) ≡ true → b ≡ true
rest-true true b none is = absurd (true≢false none)
rest-true false b none is = is

module _ (R : ℕ → ℕ → Type 0) where
  pub record SimpleCircle : Type 0 where
    pub first : ℕ
    pub others : List ℕ
    pub round : IsQueue R first others first
    pub differ : AllDiffer (first ∷ others)

  -- the way from s as far as t, which comes later on it
  record Cut (t s : ℕ) (vs : List ℕ) : Type 0 where
    way : List ℕ
    queue : IsQueue R s way t
    differ : AllDiffer way
    off : list_any (eqb t) way ≡ false
    fewer : (x : ℕ) → list_any (eqb x) vs ≡ false → list_any (eqb x) way ≡ false

  cut : (t s : ℕ) (vs : List ℕ) (u : ℕ) → IsQueue R s vs u → AllDiffer vs
      → list_any (eqb t) vs ≡ true → Cut t s vs
  cut t s [] u queue differ is = absurd (false≢true is)
  cut t s (v ∷ vs) u queue differ is =
      elim (eqb_tells t v) [
        | inl here ↦ record {
          way = [];
          queue = subst (λ k. R s k) (sym here.1) queue.0;
          differ = tt;
          off = refl;
          fewer = λ x none. refl;
        }
        | inr there ↦
            let rest =
            cut t v vs u queue.1 differ.1 (rest-true (eqb t v) (list_any (eqb t) vs) there.0 is) in
            record {
              way = v ∷ rest.way;
              queue = (queue.0, rest.queue);
              differ = (rest.fewer v differ.0, rest.differ);
              off = or_from (eqb t v) (list_any (eqb t) rest.way) there.0 rest.off;
              fewer = λ x none.
                  let parts = or_parts (eqb x v) (list_any (eqb x) vs) none in
                  or_from (eqb x v) (list_any (eqb x) rest.way) parts.0 (rest.fewer x parts.1);
            }
      ]

  walk : (t : ℕ) (vs : List ℕ) (u : ℕ) → IsQueue R t vs u → AllDiffer (t ∷ vs) ⊎ SimpleCircle
  walk t [] u queue = inl (refl, tt)
  walk t (v ∷ vs) u queue =
      ⊎_elim
      (λ differ.
      elim (cases_Bool (list_any (eqb t) (v ∷ vs))) [
        | inl is ↦
            let back = cut t t (v ∷ vs) u queue differ is in
            inr (record {
              first = t;
              others = back.way;
              round = back.queue;
              differ = (back.off, back.differ);
            })
        | inr none ↦ inl (none, differ)
      ])
      (λ simple. inr simple)
      (walk v vs u queue.1)

  pub simple : (seats : List ℕ) → IsCircle R seats → SimpleCircle
  simple [] circle = absurd circle
  simple (first ∷ others) circle =
      ⊎_elim
      (λ differ. record { first = first; others = others; round = circle; differ = differ })
      (λ inside. inside)
      (walk first others first circle)
