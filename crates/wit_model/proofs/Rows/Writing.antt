-- What is written into one chunk, as the lists' groups show it.
use Rattle.std.proofs.Common.{◌≡◌, ℕ, zero, suc, ◌+◌, ◌<◌, ◌≤◌, Bool, true, false, cond, eqb, List}
use Rattle.std.proofs.Common.{[], ◌∷◌, length, map, set, get_or, refl, ap, ap₂, ◌∙◌, subst, arith}
use Rattle.std.specs.List.{concat}
use Rattle.std.proofs.lemmas.Bool.{eq-eqb, eqb-false, cond-true}
use Rattle.std.proofs.lemmas.List.{get_or-set_same, get_or-set_other}
use Rattle.wit_model.specs.declared.locks.Instance.{Instance}
use Rattle.wit_model.specs.Rules.Chunks.{times}
use Rattle.wit_model.specs.Rules.Rows.{groups_at}
use Rattle.wit_model.proofs.Rows.Placing.{times-append, times-in, times-list}

module _ (rows : List (List Instance)) (p : ℕ) (y : List Instance) where
  -- a list that doesn't have the chunk stays as it is
  pub same-rows : (ps : List ℕ) → times p ps ≡ 0 → groups_at (set rows p y) ps ≡ groups_at rows ps
  same-rows [] none = refl
  same-rows (q ∷ ps) none = by (eqb q p) refl none (same-rows ps)
    where
      by : (b : Bool) → eqb q p ≡ b → cond b (times p ps + 1) (times p ps) ≡ 0
          → (times p ps ≡ 0 → groups_at (set rows p y) ps ≡ groups_at rows ps)
          → groups_at (set rows p y) (q ∷ ps) ≡ groups_at rows (q ∷ ps)
      by true is h ih = absurd (omega (arith, h))
      by false is h ih =
          ap₂ (λ g gs. g ∷ gs) (get_or-set_other rows p q y [] (eqb-false q p is)) (ih h)

  -- a list that has it once
  pub one-row : (ps : List ℕ) (k : ℕ) → p < length rows → k < length ps → get_or ps k 0 ≡ p
      → times p ps ≤ 1
      → groups_at (set rows p y) ps ≡ set (groups_at rows ps) k y
  one-row [] k there lt at once = absurd (omega (arith, lt))
  one-row (q ∷ ps) zero there lt at once =
      let here : times p (q ∷ ps) ≡ times p ps + 1 =
      cond-true (eqb q p) (times p ps + 1) (times p ps) (eq-eqb q p at) in
      ap₂ (λ g gs. g ∷ gs) (ap (λ n. get_or (set rows p y) n []) at
      ∙ get_or-set_same rows p y [] there) (same-rows ps (omega (arith, here, once)))
  one-row (q ∷ ps) (suc k) there lt at once =
      by (eqb q p) refl once (subst (λ n. 1 ≤ times n ps) at (times-in ps k 0 (omega (arith, lt))))
      (one-row ps k there (omega (arith, lt)) at)
    where
      by : (b : Bool) → eqb q p ≡ b → cond b (times p ps + 1) (times p ps) ≤ 1 → 1 ≤ times p ps
          → (times p ps ≤ 1 → groups_at (set rows p y) ps ≡ set (groups_at rows ps) k y)
          → groups_at (set rows p y) (q ∷ ps) ≡ set (groups_at rows (q ∷ ps)) (suc k) y
      by true is h some ih = absurd (omega (arith, h, some))
      by false is h some ih =
          ap₂ (λ g gs. g ∷ gs) (get_or-set_other rows p q y [] (eqb-false q p is)) (ih h)

  -- lists of which none has the chunk stay as they are
  pub same-lists : (ls : List (List ℕ)) → times p (concat ls) ≡ 0
      → map (groups_at (set rows p y)) ls ≡ map (groups_at rows) ls
  same-lists [] none = refl
  same-lists (x ∷ ls) none =
      let both = times-append p x (concat ls) in
      ap₂ (λ g gs. g ∷ gs) (same-rows x (omega (arith, both, none)))
      (same-lists ls (omega (arith, both, none)))

  -- lists of which one has it once
  pub one-list : (ls : List (List ℕ)) (l k : ℕ) → p < length rows → l < length ls
      → k < length (get_or ls l []) → get_or (get_or ls l []) k 0 ≡ p → times p (concat ls) ≤ 1
      → map (groups_at (set rows p y)) ls
      ≡ set (map (groups_at rows) ls) l (set (groups_at rows (get_or ls l [])) k y)
  one-list [] l k there in_ls in_l at once = absurd (omega (arith, in_ls))
  one-list (x ∷ ls) zero k there in_ls in_l at once =
      let both = times-append p x (concat ls) in
      let some : 1 ≤ times p x = subst (λ n. 1 ≤ times n x) at (times-in x k 0 in_l) in
      ap₂ (λ g gs. g ∷ gs) (one-row x k there in_l at (omega (arith, both, once)))
      (same-lists ls (omega (arith, both, once, some)))
  one-list (x ∷ ls) (suc l) k there in_ls in_l at once =
      let both = times-append p x (concat ls) in
      let some : 1 ≤ times p (concat ls) =
      listed ls l (omega (arith, in_ls))
      (subst (λ n. 1 ≤ times n (get_or ls l [])) at (times-in (get_or ls l []) k 0 in_l)) in
      ap₂ (λ g gs. g ∷ gs) (same-rows x (omega (arith, both, once, some)))
      (one-list ls l k there (omega (arith, in_ls)) in_l at (omega (arith, both, once)))
    where
      listed : (ms : List (List ℕ)) (m : ℕ) → m < length ms → 1 ≤ times p (get_or ms m [])
          → 1 ≤ times p (concat ms)
      listed ms m lt some = omega (arith, times-list p ms m lt, some)
