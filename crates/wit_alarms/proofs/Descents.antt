-- How a thread was made, and those that it descends from, one making at a time.
use Rattle.std.proofs.Common.{◌≡◌, ℕ, suc, ◌+◌, ◌-◌, ◌<◌, Bool, true, false, ◌||◌, List}
use Rattle.std.proofs.Common.{None, Some, ap, sym, ◌∙◌, arith}
use Rattle.std.specs.List.{list_any}
use Rattle.wit_alarms.specs.declared.facts.Life.{Life}
use Rattle.wit_alarms.specs.Lives.{life_of, and_before, makings}

one-more : (lives : List Life) (n i t : ℕ) → i < n
    → makings lives (n - i) t ≡ and_before (makings lives (n - (i + 1))) (life_of lives t)
one-more lives n i t low =
    let more : n - i ≡ suc (n - (i + 1)) = omega (arith, low) in
    ap (λ k. makings lives k t) more

pub any-none : (p : Life → Bool) (lives : List Life) (n i t : ℕ) → i < n
    → None ≡ life_of lives t → list_any p (makings lives (n - i) t) ≡ false
any-none p lives n i t low is =
    ap (λ m. list_any p m) (one-more lives n i t low)
    ∙ ap (λ o. list_any p (and_before (makings lives (n - (i + 1))) o)) (sym is)

pub any-some : (p : Life → Bool) (lives : List Life) (n i t : ℕ) (life : Life) → i < n
    → Some life ≡ life_of lives t
    → list_any p (makings lives (n - i) t)
    ≡ (p life || list_any p (makings lives (n - (i + 1)) life.maker.0))
any-some p lives n i t life low is =
    ap (λ m. list_any p m) (one-more lives n i t low)
    ∙ ap (λ o. list_any p (and_before (makings lives (n - (i + 1))) o)) (sym is)

pub any-next : (p : Life → Bool) (lives : List Life) (n i t : ℕ) (life : Life) → i < n
    → Some life ≡ life_of lives t → p life ≡ false
    → list_any p (makings lives (n - i) t)
    ≡ list_any p (makings lives (n - (i + 1)) life.maker.0)
any-next p lives n i t life low is none =
    any-some p lives n i t life low is
    ∙ ap (λ b. b || list_any p (makings lives (n - (i + 1)) life.maker.0)) none

pub any-here : (p : Life → Bool) (lives : List Life) (n i t : ℕ) (life : Life) → i < n
    → Some life ≡ life_of lives t → p life ≡ true
    → list_any p (makings lives (n - i) t) ≡ true
any-here p lives n i t life low is one =
    any-some p lives n i t life low is
    ∙ ap (λ b. b || list_any p (makings lives (n - (i + 1)) life.maker.0)) one

pub any-over : (p : Life → Bool) (lives : List Life) (n t : ℕ)
    → list_any p (makings lives (n - n) t) ≡ false
any-over p lives n t =
    let over : n - n ≡ 0 = omega arith in
    ap (λ k. list_any p (makings lives k t)) over
