-- Facts of each card, where one is changed or one more is made, and of the card that has a seat.
use Rattle.std.proofs.Common.{◌≡◌, ◌≢◌, ℕ, zero, suc, ◌⊎◌, ◌==◌, cond, List, [], ◌∷◌, ◌++◌, length}
use Rattle.std.proofs.Common.{set, Option, None, Some, IfSome, refl, ap, sym, ◌∙◌, subst, inl, inr}
use Rattle.std.proofs.Common.{⊎_elim, eqb, eq-eqb, ne_eqb}
use mathlib.Core.Option.{some, some-injective, some-ne-none}
use lib.ListN.{get_elem?}
use Rattle.atomic_table.proofs.Lists.{at_set}
use Rattle.wit_seats.specs.declared.views.Journal.{Journal}
use Rattle.wit_seats.specs.declared.views.SeatKnowledge.{SeatKnowledge}
use Rattle.wit_seats.specs.declared.views.CardView.{CardView}
use Rattle.wit_seats.specs.Rule.{Keeps, Sits, Fits}

module _ {X : Type 0} where
  at_push : (l : List X) (a b : X) (j : ℕ) → get_elem? (l ++ a ∷ []) j ≡ some b
      → (get_elem? l j ≡ some b) ⊎ ((j ≡ length l) × (a ≡ b))
  at_push [] a b zero e = inr (refl, some-injective a b e)
  at_push [] a b (suc j) e = absurd (some-ne-none b (sym e))
  at_push (x ∷ xs) a b zero e = inl e
  at_push (x ∷ xs) a b (suc j) e =
      ⊎_elim (λ h. inl h) (λ h. inr (ap suc h.0, h.1)) (at_push xs a b j e)

  pub all_set : (F : ℕ → X → Type 0) (l : List X) (i : ℕ) (w : X) → F i w
      → ((j : ℕ) (u : X) → j ≢ i → get_elem? l j ≡ some u → F j u)
      → (j : ℕ) (u : X) → get_elem? (set l i w) j ≡ some u → F j u
  all_set F l i w mine others j u e =
      ⊎_elim (λ (x : (j ≡ i) × (w ≡ u)). subst (λ (y : ℕ × X). F y.0 y.1)
      (λ i. (sym x.0 i, x.1 i)) mine)
      (λ (x : (j ≢ i) × (get_elem? l j ≡ some u)). others j u x.0 x.1) (at_set l i j w u e)

  pub all_push : (F : ℕ → X → Type 0) (l : List X) (w : X)
      → ((j : ℕ) (u : X) → get_elem? l j ≡ some u → F j u) → F (length l) w
      → (j : ℕ) (u : X) → get_elem? (l ++ w ∷ []) j ≡ some u → F j u
  all_push F l w others mine j u e = ⊎_elim (λ (x : get_elem? l j ≡ some u). others j u x)
      (λ (x : (j ≡ length l) × (w ≡ u)). subst (λ (y : ℕ × X). F y.0 y.1)
      (λ i. (sym x.0 i, x.1 i)) mine) (at_push l w u j e)

  pub each_some : (o : Option X) (P Q : X → Type 0) → ((x : X) → P x → Q x)
      → IfSome o P → IfSome o Q
  each_some None P Q f h = tt
  each_some (Some x) P Q f h = f x h

-- where the seats' cards are, once this card's seat is on the card p
pub moved : (ℕ → ℕ) → Option SeatKnowledge → ℕ → ℕ → ℕ
moved place None p t = place t
moved place (Some k) p t = cond (eqb t k.seat) p (place t)

pub moved_here : (place : ℕ → ℕ) (k : SeatKnowledge) (p : ℕ) → moved place (Some k) p k.seat ≡ p
unfolding moved
moved_here place k p = ap (λ b. cond b p (place k.seat)) (eq-eqb k.seat k.seat refl)

pub moved_else : (place : ℕ → ℕ) (k : SeatKnowledge) (p t : ℕ) → t ≢ k.seat
    → moved place (Some k) p t ≡ place t
unfolding moved
moved_else place k p t n = ap (λ b. cond b p (place t)) (ne_eqb t k.seat n)

module _ (place : ℕ → ℕ) (log : Journal) where
  -- the seat of a card that is moved
  pub sits_moved : (o : Option SeatKnowledge) (from to : ℕ) → IfSome o (Sits place log from)
      → IfSome o (Sits (moved place o to) log to)
  sits_moved None from to h = tt
  sits_moved (Some k) from to h = record { card = moved_here place k to; known = h.known }

  -- the seats of the other cards
  pub sits_else : (o : Option SeatKnowledge) (from to j : ℕ) → IfSome o (Sits place log from) → j ≢ from
      → (u : SeatKnowledge) → Sits place log j u → Sits (moved place o to) log j u
  unfolding moved
  sits_else None from to j h n u s = s
  sits_else (Some k) from to j h n u s = record {
    card = moved_else place k to u.seat (λ e. n (sym s.card ∙ ap place e ∙ h.card)) ∙ s.card;
    known = s.known;
  }

  pub fits_else : (keeper : ℕ) (o : Option SeatKnowledge) (from to j : ℕ)
      → IfSome o (Sits place log from) → j ≢ from
      → (u : CardView) → Fits keeper place log j u → Fits keeper (moved place o to) log j u
  fits_else keeper o from to j h n u f = record {
    keeps = f.keeps;
    sits =
        each_some u.holder (Sits place log j) (Sits (moved place o to) log j)
        (sits_else o from to j h n) f.sits;
  }
