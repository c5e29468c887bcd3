-- A list is gone through from its newest chunk on.
use Rattle.std.proofs.Common.{◌≡◌, ℕ, zero, suc, ◌+◌, ◌-◌, ◌^◌, ◌<◌, ◌≤◌, Bool, true, false, not}
use Rattle.std.proofs.Common.{cond, nat_lt}
use Rattle.std.proofs.Common.{List, [], ◌∷◌, ◌++◌, length, take, drop, get_or, slice_get, position}
use Rattle.std.proofs.Common.{IfSome}
use Rattle.std.proofs.Common.{Option, None, Some, is_some, unwrap_or, refl, ap, sym, ◌∙◌, subst}
use Rattle.std.proofs.Common.{arith}
use Rattle.std.specs.List.{position_or_len}
use Rattle.std.proofs.lemmas.Bool.{true≢false, lt-ltb, le-ltb, ltb-true, ltb-false}
use Rattle.std.proofs.lemmas.List.{drop_more, take-append-drop, length-append, append-nil}
use Rattle.std.proofs.lemmas.List.{get_or_default}
use Rattle.std.proofs.lemmas.List.Concat.{flat_map-append, get_or-flat_map}
use Rattle.wit_model.specs.declared.locks.Instance.{Instance}
use Rattle.wit_model.specs.declared.chunks.Spot.{Spot}
use Rattle.wit_model.specs.Rules.Verdict.{is_of}
use Rattle.wit_model.specs.Rules.Groups.{flat, edited_at, edited_in}
use Rattle.wit_model.specs.Rules.Chunks.{Chunks, IsSpot, groups_of, group_of, chain_of, upto}
use Rattle.wit_model.proofs.Chains.Grouping.{edited-set}

-- a spot of the list is next, or none
abbrev pub IsNext : Chunks → ℕ → Option Spot → Type 0
IsNext c list o = IfSome o (IsSpot c list)

-- the groups that were gone through, when this spot is next
abbrev pub newer_than : Chunks → ℕ → Option Spot → List (List Instance)
newer_than c list o = drop (upto o) (groups_of c list)

drop-all : {X : Type 0} (xs : List X) (n : ℕ) → n ≡ length xs → drop n xs ≡ []
drop-all [] zero all = refl
drop-all [] (suc n) all = refl
drop-all (x ∷ xs) zero all = absurd (omega (arith, all))
drop-all (x ∷ xs) (suc n) all = drop-all xs n (omega (arith, all))

drop-none : {X : Type 0} (xs : List X) (n : ℕ) → n ≡ 0 → drop n xs ≡ xs
drop-none [] n none = ap (λ k. drop k []) none
drop-none (x ∷ xs) n none = ap (λ k. drop k (x ∷ xs)) none

module _ {X : Type 0} where
  -- nothing was gone through yet
  pub flat-newest : (gs : List (List X)) (n : ℕ) → n ≡ length gs → flat (drop n gs) ≡ []
  flat-newest gs n all = ap (λ (hs : List (List X)). flat hs) (drop-all gs n all)

  -- one group more
  pub flat-older : (gs : List (List X)) (k n m : ℕ) → k < length gs → m ≡ k → n ≡ k + 1
      → flat (drop m gs) ≡ get_or gs k [] ++ flat (drop n gs)
  flat-older gs k n m lt this next =
      ap (λ i. flat (drop i gs)) this ∙ ap (λ (hs : List (List X)). flat hs) (drop_more gs k [] lt)
      ∙ ap (λ i. get_or gs k [] ++ flat (drop i gs)) (sym next)

  -- all of them
  pub flat-oldest : (gs : List (List X)) (n : ℕ) → n ≡ 0 → flat (drop n gs) ≡ flat gs
  flat-oldest gs n none = ap (λ (hs : List (List X)). flat hs) (drop-none gs n none)

  pub flat-parts : (gs : List (List X)) (k : ℕ) → flat gs ≡ flat (take k gs) ++ flat (drop k gs)
  flat-parts gs k =
      ap (λ (hs : List (List X)). flat hs) (sym (take-append-drop k gs))
      ∙ flat_map-append (λ g. g) (take k gs) (drop k gs)

  after : (xs ys : List X) (n : ℕ) → slice_get (xs ++ ys) (length xs + n) ≡ slice_get ys n
  after [] ys n = ap (slice_get ys) (omega arith)
  after (x ∷ xs) ys n =
      let next : length (x ∷ xs) + n ≡ suc (length xs + n) = omega arith in
      ap (slice_get (x ∷ (xs ++ ys))) next ∙ after xs ys n

  -- the last one of a group behind which nothing stands
  pub last-there : (gs : List (List X)) (k : ℕ) → k < length gs → flat (drop (k + 1) gs) ≡ []
      → 0 < length (get_or gs k [])
      → slice_get (flat gs) (length (flat gs) - 1)
      ≡ slice_get (get_or gs k []) (length (get_or gs k []) - 1)
  last-there gs k lt none some =
      let g : List X = get_or gs k [] in
      let parts : flat gs ≡ flat (take k gs) ++ g =
      flat-parts gs k ∙ ap (λ (ys : List X). flat (take k gs) ++ ys)
      (flat-older gs k (k + 1) k lt refl refl ∙ ap (λ (ys : List X). g ++ ys) none
      ∙ append-nil g) in
      let end : length (flat (take k gs) ++ g) - 1 ≡ length (flat (take k gs)) + (length g - 1) =
      omega (arith, some, length-append (flat (take k gs)) g) in
      ap (λ (ys : List X). slice_get ys (length ys - 1)) parts
      ∙ ap (slice_get (flat (take k gs) ++ g)) end ∙ after (flat (take k gs)) g (length g - 1)

  -- a group that has a last one isn't empty
  pub has-last : (g : List X) (o : Option X) → true ≡ is_some o → o ≡ slice_get g (length g - 1)
      → 0 < length g
  has-last [] o some is = absurd (true≢false (some ∙ ap is_some is))
  has-last (x ∷ g) o some is = omega arith

-- a chunk of the list is gone through
module _ (c : Chunks) (list : ℕ) (o : Option Spot) (s : Spot) (is : o ≡ Some s)
    (next : IsNext c list o) where
  pub within : s.group < length (groups_of c list)
  within = (subst (λ p. IfSome p (IsSpot c list)) is next).group

  -- what is newer, and the chunk
  pub one-more : flat (drop s.group (groups_of c list))
      ≡ group_of c list s ++ flat (newer_than c list o)
  one-more = flat-older (groups_of c list) s.group (upto o) s.group within refl (ap upto is)

  -- all locks of the list
  pub all-parts : chain_of c list ≡ flat (take s.group (groups_of c list))
      ++ (group_of c list s ++ flat (newer_than c list o))
  all-parts =
      flat-parts (groups_of c list) s.group
      ∙ ap (λ (ys : List Instance). flat (take s.group (groups_of c list)) ++ ys) one-more

  pub all-lengths : length (chain_of c list)
      ≡ length (flat (take s.group (groups_of c list)))
      + (length (group_of c list s) + length (flat (newer_than c list o)))
  all-lengths =
      ap length all-parts
      ∙ length-append (flat (take s.group (groups_of c list)))
      (group_of c list s ++ flat (newer_than c list o))
      ∙ ap (λ n. length (flat (take s.group (groups_of c list))) + n)
      (length-append (group_of c list s) (flat (newer_than c list o)))

  -- where nothing is newer, a chunk's last lock is the list's
  pub last-met : flat (newer_than c list o) ≡ [] → (last : Option Instance) → true ≡ is_some last
      → last ≡ slice_get (group_of c list s) (length (group_of c list s) - 1)
      → last ≡ slice_get (chain_of c list) (length (chain_of c list) - 1)
  last-met none last some is-last =
      is-last
      ∙ sym (last-there (groups_of c list) s.group within
      (ap (λ n. flat (drop n (groups_of c list))) (sym (ap upto is)) ∙ none)
      (has-last (group_of c list s) last some is-last))

-- the place of a lock in joined lists: it is in the first
place-left : (l : ℕ) (xs ys : List Instance) → position_or_len (is_of l) xs < length xs
    → position_or_len (is_of l) (xs ++ ys) ≡ position_or_len (is_of l) xs
place-left l [] ys lt = absurd (omega (arith, lt))
place-left l (x ∷ xs) ys lt = by (is_of l x) lt (place-left l xs ys)
  where
    by : (b : Bool) → cond (not b) (1 + position_or_len (is_of l) xs) 0 < suc (length xs)
        → (position_or_len (is_of l) xs < length xs
        → position_or_len (is_of l) (xs ++ ys) ≡ position_or_len (is_of l) xs)
        → cond (not b) (1 + position_or_len (is_of l) (xs ++ ys)) 0
        ≡ cond (not b) (1 + position_or_len (is_of l) xs) 0
    by true h ih = refl
    by false h ih = ap (λ n. 1 + n) (ih (omega (arith, h)))

-- or it isn't
place-right : (l : ℕ) (xs ys : List Instance) → length xs ≤ position_or_len (is_of l) xs
    → position_or_len (is_of l) (xs ++ ys) ≡ length xs + position_or_len (is_of l) ys
place-right l [] ys past = omega arith
place-right l (x ∷ xs) ys past = by (is_of l x) past (place-right l xs ys)
  where
    by : (b : Bool) → suc (length xs) ≤ cond (not b) (1 + position_or_len (is_of l) xs) 0
        → (length xs ≤ position_or_len (is_of l) xs
        → position_or_len (is_of l) (xs ++ ys) ≡ length xs + position_or_len (is_of l) ys)
        → cond (not b) (1 + position_or_len (is_of l) (xs ++ ys)) 0
        ≡ suc (length xs) + position_or_len (is_of l) ys
    by true h ih = absurd (omega (arith, h))
    by false h ih = omega (arith, ih (omega (arith, h)))

-- a lock has a place, and this is it
place-found : (l : ℕ) (xs : List Instance) (i : ℕ) → Some i ≡ position (is_of l) xs
    → (position_or_len (is_of l) xs ≡ i) × (position_or_len (is_of l) xs < length xs)
place-found l xs i e = by (nat_lt (position_or_len (is_of l) xs) (length xs)) refl e
  where
    by : (b : Bool) → nat_lt (position_or_len (is_of l) xs) (length xs) ≡ b
        → Some i ≡ cond b (Some (position_or_len (is_of l) xs)) None
        → (position_or_len (is_of l) xs ≡ i) × (position_or_len (is_of l) xs < length xs)
    by true lt at =
        (ap (λ o. unwrap_or o i) (sym at), ltb-true (position_or_len (is_of l) xs) (length xs) lt)
    by false lt at = absurd (true≢false (ap is_some at))

place-missed : (l : ℕ) (xs : List Instance) → None ≡ position (is_of l) xs
    → length xs ≤ position_or_len (is_of l) xs
place-missed l xs e = by (nat_lt (position_or_len (is_of l) xs) (length xs)) refl e
  where
    by : (b : Bool) → nat_lt (position_or_len (is_of l) xs) (length xs) ≡ b
        → None ≡ cond b (Some (position_or_len (is_of l) xs)) None
        → length xs ≤ position_or_len (is_of l) xs
    by true lt at = absurd (true≢false (sym (ap is_some at)))
    by false lt at = ltb-false (position_or_len (is_of l) xs) (length xs) lt

placed-at : (l : ℕ) (xs : List Instance) (i : ℕ) → position_or_len (is_of l) xs ≡ i → i < length xs
    → Some i ≡ position (is_of l) xs
placed-at l xs i e lt =
    sym (ap (λ b. cond b (Some (position_or_len (is_of l) xs)) None)
    (lt-ltb (position_or_len (is_of l) xs) (length xs) (omega (arith, e, lt))) ∙ ap Some e)

module _ (l : ℕ) (xs ys : List Instance) where
  len : length (xs ++ ys) ≡ length xs + length ys
  len = length-append xs ys

  pub found-here : (i : ℕ) → Some i ≡ position (is_of l) xs → Some i ≡ position (is_of l) (xs ++ ys)
  found-here i at =
      let here = place-found l xs i at in
      placed-at l (xs ++ ys) i (place-left l xs ys here.1 ∙ here.0)
      (omega (arith, here.0, here.1, len))

  pub found-newer : (i : ℕ) → None ≡ position (is_of l) xs → Some i ≡ position (is_of l) ys
      → Some (length xs + i) ≡ position (is_of l) (xs ++ ys)
  found-newer i none at =
      let there = place-found l ys i at in
      placed-at l (xs ++ ys) (length xs + i)
      (place-right l xs ys (place-missed l xs none) ∙ ap (λ n. length xs + n) there.0)
      (omega (arith, there.0, there.1, len))

  pub found-nowhere : None ≡ position (is_of l) xs → None ≡ position (is_of l) ys
      → None ≡ position (is_of l) (xs ++ ys)
  found-nowhere none nor =
      let past : length (xs ++ ys) ≤ position_or_len (is_of l) (xs ++ ys) =
      omega (arith, len, place-right l xs ys (place-missed l xs none), place-missed l ys nor) in
      sym (ap (λ b. cond b (Some (position_or_len (is_of l) (xs ++ ys))) None)
      (le-ltb (position_or_len (is_of l) (xs ++ ys)) (length (xs ++ ys)) past))

-- a place that was found fits
pub found-few : (c : Chunks) (list : ℕ) (o : Option Spot) (s : Spot) → o ≡ Some s → IsNext c list o
    → (l : ℕ) (found : Option ℕ)
    → found ≡ position (is_of l) (flat (newer_than c list o)) → length (chain_of c list) < 2 ^ 32
    → IfSome found (λ i. i < 2 ^ 32)
found-few c list o s is next l None at few = tt
found-few c list o s is next l (Some i) at few =
    let there = place-found l (flat (newer_than c list o)) i at in
    omega (arith, few, there.0, there.1, all-lengths c list o s is next)

-- a place of a list lies there: an edit, and what is read
module _ (c : Chunks) (list place : ℕ) (s : Spot) (i : ℕ) (at : IsSpot c list s)
    (inside : i < length (group_of c list s))
    (is : place ≡ length (flat (take s.group (groups_of c list))) + i) where
  pub edited-there : (edit : ℕ → List Instance → List Instance)
      → edited_in edit s.group i (groups_of c list) ≡ edited_at edit place (groups_of c list)
  edited-there edit = sym (edited-set edit (groups_of c list) place s.group i at.group inside is)

  read-there : (d : Instance) → get_or (group_of c list s) i d ≡ get_or (chain_of c list) place d
  read-there d =
      sym (ap (λ n. get_or (chain_of c list) n d) is ∙ get_or-flat_map (λ g. g)
      (groups_of c list) s.group i [] d at.group inside)

  pub reads : (group : List Instance) → group ≡ group_of c list s → (d : Instance)
      → get_or group i d ≡ get_or (chain_of c list) place (get_or group i d)
  reads group same d =
      let x : Instance = get_or group i d in
      get_or_default group i d x (subst (λ (g : List Instance). i < length g) (sym same) inside)
      ∙ ap (λ (g : List Instance). get_or g i x) same ∙ read-there x
