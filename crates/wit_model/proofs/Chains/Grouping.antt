-- Lists in groups: an edit of one of them, a new one, and groups that are left out.
use Rattle.std.proofs.Common.{◌≡◌, ℕ, zero, suc, ◌+◌, ◌-◌, ◌<◌, ◌≤◌, Bool, true, false, not, cond}
use Rattle.std.proofs.Common.{nat_lt, List, [], ◌∷◌, ◌++◌, length, filter, take, set, get_or, refl}
use Rattle.std.proofs.Common.{ap, sym, ◌∙◌, arith}
use Rattle.std.specs.List.{remove}
use Rattle.std.proofs.lemmas.Bool.{lt-ltb, le-ltb, ltb-true, ltb-false, not-true, not-false}
use Rattle.std.proofs.lemmas.Bool.{true≢false, cond-true, cond-false}
use Rattle.std.proofs.lemmas.List.{length-append, length-set}
use Rattle.wit_model.specs.Rules.Groups.{flat, group_has_room, joined, opens, is_filled, tidied}
use Rattle.wit_model.specs.Rules.Groups.{edited_at, AreFilled, AreTidy}

module _ {X : Type 0} where
  -- an edit at a place is one of the group that the place lies in
  pub edited-set : (edit : ℕ → List X → List X) (gs : List (List X)) (place group index : ℕ)
      → group < length gs → index < length (get_or gs group [])
      → place ≡ length (flat (take group gs)) + index
      → edited_at edit place gs ≡ set gs group (edit index (get_or gs group []))
  edited-set edit [] place group index g i p = absurd (omega (arith, g))
  edited-set edit (x ∷ gs) place zero index g i p =
      let same : place ≡ index = omega (arith, p) in
      let lt : nat_lt place (length x) ≡ true = lt-ltb place (length x) (omega (arith, i, same)) in
      cond-true (nat_lt place (length x)) (edit place x ∷ gs)
      (x ∷ edited_at edit (place - length x) gs) lt
      ∙ ap (λ n. edit n x ∷ gs) same
  edited-set edit (x ∷ gs) place (suc k) index g i p =
      let len : length (x ++ flat (take k gs)) ≡ length x + length (flat (take k gs)) =
      length-append x (flat (take k gs)) in
      let past : nat_lt place (length x) ≡ false =
      le-ltb place (length x) (omega (arith, p, len)) in
      cond-false (nat_lt place (length x)) (edit place x ∷ gs)
      (x ∷ edited_at edit (place - length x) gs) past
      ∙ ap (λ hs. x ∷ hs) (edited-set edit gs (place - length x) k index (omega (arith, g)) i
      (omega (arith, p, len)))

  -- a new one opens a group
  pub joined-opens : (x : X) (gs : List (List X)) → opens gs ≡ true
      → joined x gs ≡ gs ++ (x ∷ []) ∷ []
  joined-opens x [] o = refl
  joined-opens x (g ∷ []) o =
      cond-false (group_has_room g) ((g ++ x ∷ []) ∷ []) (g ∷ (x ∷ []) ∷ [])
      (not-true (group_has_room g) o)
  joined-opens x (g ∷ g' ∷ gs) o = ap (λ hs. g ∷ hs) (joined-opens x (g' ∷ gs) o)

  -- a new one joins the newest group
  pub joined-fits : (x : X) (gs : List (List X)) → opens gs ≡ false
      → joined x gs ≡ set gs (length gs - 1) (get_or gs (length gs - 1) [] ++ x ∷ [])
  joined-fits x [] o = absurd (true≢false o)
  joined-fits x (g ∷ []) o =
      cond-true (group_has_room g) ((g ++ x ∷ []) ∷ []) (g ∷ (x ∷ []) ∷ [])
      (not-false (group_has_room g) o)
  joined-fits x (g ∷ g' ∷ gs) o =
      let next : length (g ∷ g' ∷ gs) - 1 ≡ suc (length (g' ∷ gs) - 1) = omega arith in
      ap (λ hs. g ∷ hs) (joined-fits x (g' ∷ gs) o)
      ∙ sym (ap (λ m. set (g ∷ g' ∷ gs) m (get_or (g ∷ g' ∷ gs) m [] ++ x ∷ [])) next)

  -- the newest group decides
  pub opens-newest : (g : List X) (gs : List (List X))
      → opens (g ∷ gs) ≡ not (group_has_room (get_or (g ∷ gs) (length gs) []))
  opens-newest g [] = refl
  opens-newest g (g' ∷ gs) = opens-newest g' gs

  pub filter-filled : (gs : List (List X)) → AreFilled gs → filter is_filled gs ≡ gs
  filter-filled [] h = refl
  filter-filled (g ∷ gs) h =
      cond-true (is_filled g) (g ∷ filter is_filled gs) (filter is_filled gs)
      (lt-ltb 0 (length g) (omega (arith, h.0)))
      ∙ ap (λ hs. g ∷ hs) (filter-filled gs h.1)

  -- an emptied group is left out
  filter-emptied : (gs : List (List X)) (k : ℕ) → AreFilled gs → k < length gs
      → filter is_filled (set gs k []) ≡ remove gs k
  filter-emptied [] k h lt = absurd (omega (arith, lt))
  filter-emptied (g ∷ gs) zero h lt = filter-filled gs h.1
  filter-emptied (g ∷ gs) (suc k) h lt =
      cond-true (is_filled g) (g ∷ filter is_filled (set gs k [])) (filter is_filled (set gs k []))
      (lt-ltb 0 (length g) (omega (arith, h.0)))
      ∙ ap (λ hs. g ∷ hs) (filter-emptied gs k h.1 (omega (arith, lt)))

  filled-set : (gs : List (List X)) (k : ℕ) (y : List X) → AreFilled gs → 1 ≤ length y
      → AreFilled (set gs k y)
  filled-set [] k y h some = tt
  filled-set (g ∷ gs) zero y h some = (some, h.1)
  filled-set (g ∷ gs) (suc k) y h some = (h.0, filled-set gs k y h.1 some)

  pub filled-append : (gs hs : List (List X)) → AreFilled gs → AreFilled hs → AreFilled (gs ++ hs)
  filled-append [] hs h more = more
  filled-append (g ∷ gs) hs h more = (h.0, filled-append gs hs h.1 more)

  filled-filter : (gs : List (List X)) → AreFilled (filter is_filled gs)
  filled-filter [] = tt
  filled-filter (g ∷ gs) = by (is_filled g) refl (filled-filter gs)
    where
      by : (b : Bool) → is_filled g ≡ b → AreFilled (filter is_filled gs)
          → AreFilled (cond b (g ∷ filter is_filled gs) (filter is_filled gs))
      by true is ih = (omega (arith, ltb-true 0 (length g) is), ih)
      by false is ih = ih

  pub tidy-filled : (gs : List (List X)) → AreFilled gs → AreTidy gs
  tidy-filled [] h = tt
  tidy-filled (g ∷ []) h = tt
  tidy-filled (g ∷ g' ∷ gs) h = h

  filled-many : (gs : List (List X)) → 1 < length gs → AreTidy gs → AreFilled gs
  filled-many [] many h = tt
  filled-many (g ∷ []) many h = absurd (omega (arith, many))
  filled-many (g ∷ g' ∷ gs) many h = h

  tidied-many : (gs : List (List X)) → 1 < length gs → tidied gs ≡ filter is_filled gs
  tidied-many [] many = refl
  tidied-many (g ∷ []) many = absurd (omega (arith, many))
  tidied-many (g ∷ g' ∷ gs) many = refl

  pub tidied-one : (gs : List (List X)) → length gs ≤ 1 → tidied gs ≡ gs
  tidied-one [] one = refl
  tidied-one (g ∷ []) one = refl
  tidied-one (g ∷ g' ∷ gs) one = absurd (omega (arith, one))

  pub tidied-tidy : (gs : List (List X)) → AreTidy gs → tidied gs ≡ gs
  tidied-tidy [] h = refl
  tidied-tidy (g ∷ []) h = refl
  tidied-tidy (g ∷ g' ∷ gs) h = filter-filled (g ∷ g' ∷ gs) h

  pub tidy-tidied : (gs : List (List X)) → AreTidy (tidied gs)
  tidy-tidied [] = tt
  tidy-tidied (g ∷ []) = tt
  tidy-tidied (g ∷ g' ∷ gs) =
      tidy-filled (filter is_filled (g ∷ g' ∷ gs)) (filled-filter (g ∷ g' ∷ gs))

  -- one of several groups is emptied
  pub tidied-emptied : (gs : List (List X)) (k : ℕ) → 1 < length gs → k < length gs → AreTidy gs
      → tidied (set gs k []) ≡ remove gs k
  tidied-emptied gs k many lt h =
      let len : length (set gs k []) ≡ length gs = length-set gs k [] in
      tidied-many (set gs k []) (omega (arith, many, len))
      ∙ filter-emptied gs k (filled-many gs many h) lt

  pub tidy-set : (gs : List (List X)) (k : ℕ) (y : List X) → AreTidy gs → 1 ≤ length y
      → AreTidy (set gs k y)
  tidy-set [] k y h some = tt
  tidy-set (g ∷ []) zero y h some = tt
  tidy-set (g ∷ []) (suc k) y h some = tt
  tidy-set (g ∷ g' ∷ gs) k y h some =
      tidy-filled (set (g ∷ g' ∷ gs) k y) (filled-set (g ∷ g' ∷ gs) k y h some)

  pub tidy-opened : (gs : List (List X)) (x : X) → AreTidy gs → opens gs ≡ true
      → AreTidy (gs ++ (x ∷ []) ∷ [])
  tidy-opened [] x h o = tt
  tidy-opened (g ∷ []) x h o =
      let full : 5 ≤ length g = ltb-false (length g) 5 (not-true (group_has_room g) o) in
      (omega (arith, full), (omega arith, tt))
  tidy-opened (g ∷ g' ∷ gs) x h o = filled-append (g ∷ g' ∷ gs) ((x ∷ []) ∷ []) h (omega arith, tt)
