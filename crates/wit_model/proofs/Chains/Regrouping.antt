-- The groups of a seat's held locks: joined they are its chain, and each has from one to five
-- locks.
use Rattle.std.proofs.Common.{◌≡◌, ℕ, suc, ◌≤◌, Bool, true, false, not, ◌&&◌, cond, eqb, List, []}
use Rattle.std.proofs.Common.{◌∷◌, ◌++◌, length, map, filter, refl, ap, ap₂, sym, ◌∙◌, subst, arith}
use Rattle.std.proofs.Common.{append-nil, append_assoc}
use Rattle.std.specs.List.{list_all}
use Rattle.std.proofs.lemmas.Bool.{cond-true, cond-false, and_right, and_from, and_parts, ltb-true}
use Rattle.std.proofs.lemmas.Bool.{ltb-false, eqb-true, true≢false}
use Rattle.std.proofs.lemmas.List.{length-append, map-append, nil_from_length}
use Rattle.std.proofs.lemmas.List.Elements.{filter-append}
use Rattle.wit_model.specs.declared.calls.Entry.{Entry}
use Rattle.wit_model.specs.Rules.Locks.{locks_of, is_of_kind}
use Rattle.wit_model.specs.Rules.History.{Act, Nothing, Records, Releases, Turns, Marks, act_by}
use Rattle.wit_model.specs.Rules.History.{is_held, rises, held, held_of, instance, chain}
use Rattle.wit_model.specs.Rules.Groups.{flat, group_has_room, joined, is_filled, tidied, left}
use Rattle.wit_model.specs.Rules.Groups.{AreShort, AreFilled, AreTidy}
use Rattle.wit_model.specs.Rules.SeatGroups.{falls, regrouped, seat_groups, held_groups}
use Rattle.wit_model.proofs.Chains.Sane.{IsFit, IsSane, fit_by}
use Rattle.wit_model.proofs.Chains.HeldLocks.{rises-not, rises-new}
use Rattle.wit_model.proofs.Chains.Effects.{Effect, Same, New, Gone, effect, is_not, held-same}
use Rattle.wit_model.proofs.Chains.Held.{held-all, kind-stays, kinds-stay, held_of-all}
use Rattle.wit_model.proofs.Chains.Grouping.{tidy-filled, tidy-tidied}
use Rattle.wit_model.proofs.Lists.{filter-swap, list_all-filter, list_all-both}

module _ {X : Type 0} where
  pub flat-joined : (x : X) (gs : List (List X)) → flat (joined x gs) ≡ flat gs ++ x ∷ []
  flat-joined x [] = refl
  flat-joined x (g ∷ []) = by (group_has_room g)
    where
      by : (b : Bool) → flat (cond b ((g ++ x ∷ []) ∷ []) (g ∷ (x ∷ []) ∷ [])) ≡ (g ++ []) ++ x ∷ []
      by true = append-nil (g ++ x ∷ []) ∙ ap (λ xs. xs ++ x ∷ []) (sym (append-nil g))
      by false = ap (λ xs. xs ++ x ∷ []) (sym (append-nil g))
  flat-joined x (g ∷ g' ∷ gs) =
      ap (λ xs. g ++ xs) (flat-joined x (g' ∷ gs)) ∙ sym (append_assoc g (flat (g' ∷ gs)) (x ∷ []))

  flat-filled : (gs : List (List X)) → flat (filter is_filled gs) ≡ flat gs
  flat-filled [] = refl
  flat-filled (g ∷ gs) = by (is_filled g) refl (flat-filled gs)
    where
      by : (b : Bool) → is_filled g ≡ b → flat (filter is_filled gs) ≡ flat gs
          → flat (cond b (g ∷ filter is_filled gs) (filter is_filled gs)) ≡ g ++ flat gs
      by true is ih = ap (λ xs. g ++ xs) ih
      by false is ih =
          let none : length g ≤ 0 = ltb-false 0 (length g) is in
          ih ∙ ap (λ xs. xs ++ flat gs) (sym (nil_from_length g (omega (arith, none))))

  flat-tidied : (gs : List (List X)) → flat (tidied gs) ≡ flat gs
  flat-tidied [] = refl
  flat-tidied (g ∷ []) = refl
  flat-tidied (g ∷ g' ∷ gs) = flat-filled (g ∷ g' ∷ gs)

  flat-filter : (stays : X → Bool) (gs : List (List X))
      → flat (map (filter stays) gs) ≡ filter stays (flat gs)
  flat-filter stays [] = refl
  flat-filter stays (g ∷ gs) =
      ap (λ xs. filter stays g ++ xs) (flat-filter stays gs) ∙ sym (filter-append stays g (flat gs))

  pub flat-left : (stays : X → Bool) (gs : List (List X))
      → flat (left stays gs) ≡ filter stays (flat gs)
  flat-left stays gs = flat-tidied (map (filter stays) gs) ∙ flat-filter stays gs

  filled-joined : (x : X) (gs : List (List X)) → AreFilled gs → AreFilled (joined x gs)
  filled-joined x [] h = (omega arith, tt)
  filled-joined x (g ∷ []) h = by (group_has_room g)
    where
      by : (b : Bool) → AreFilled (cond b ((g ++ x ∷ []) ∷ []) (g ∷ (x ∷ []) ∷ []))
      by true = (omega (arith, length-append g (x ∷ [])), tt)
      by false = (h.0, (omega arith, tt))
  filled-joined x (g ∷ g' ∷ gs) h = (h.0, filled-joined x (g' ∷ gs) h.1)

  tidy-joined : (x : X) (gs : List (List X)) → AreTidy gs → AreTidy (joined x gs)
  tidy-joined x [] h = tt
  tidy-joined x (g ∷ []) h = by (group_has_room g) refl
    where
      by : (b : Bool) → group_has_room g ≡ b
          → AreTidy (cond b ((g ++ x ∷ []) ∷ []) (g ∷ (x ∷ []) ∷ []))
      by true is = tt
      by false is = (omega (arith, ltb-false (length g) 5 is), (omega arith, tt))
  tidy-joined x (g ∷ g' ∷ gs) h =
      tidy-filled (g ∷ joined x (g' ∷ gs)) (h.0, filled-joined x (g' ∷ gs) h.1)

  short-joined : (x : X) (gs : List (List X)) → AreShort gs → AreShort (joined x gs)
  short-joined x [] h = (omega arith, tt)
  short-joined x (g ∷ []) h = by (group_has_room g) refl
    where
      by : (b : Bool) → group_has_room g ≡ b
          → AreShort (cond b ((g ++ x ∷ []) ∷ []) (g ∷ (x ∷ []) ∷ []))
      by true is = (omega (arith, length-append g (x ∷ []), ltb-true (length g) 5 is), tt)
      by false is = (h.0, (omega arith, tt))
  short-joined x (g ∷ g' ∷ gs) h = (h.0, short-joined x (g' ∷ gs) h.1)

  pub filter-shorter : (stays : X → Bool) (g : List X) → length (filter stays g) ≤ length g
  filter-shorter stays [] = omega arith
  filter-shorter stays (x ∷ g) = by (stays x) (filter-shorter stays g)
    where
      by : (b : Bool) → length (filter stays g) ≤ length g
          → length (cond b (x ∷ filter stays g) (filter stays g)) ≤ suc (length g)
      by true ih = omega (arith, ih)
      by false ih = omega (arith, ih)

  short-filter : (stays : X → Bool) (gs : List (List X)) → AreShort gs
      → AreShort (map (filter stays) gs)
  short-filter stays [] h = tt
  short-filter stays (g ∷ gs) h =
      (omega (arith, h.0, filter-shorter stays g), short-filter stays gs h.1)

  short-filled : (gs : List (List X)) → AreShort gs → AreShort (filter is_filled gs)
  short-filled [] h = tt
  short-filled (g ∷ gs) h = by (is_filled g) (short-filled gs h.1)
    where
      by : (b : Bool) → AreShort (filter is_filled gs)
          → AreShort (cond b (g ∷ filter is_filled gs) (filter is_filled gs))
      by true ih = (h.0, ih)
      by false ih = ih

  short-tidied : (gs : List (List X)) → AreShort gs → AreShort (tidied gs)
  short-tidied [] h = tt
  short-tidied (g ∷ []) h = h
  short-tidied (g ∷ g' ∷ gs) h = short-filled (g ∷ g' ∷ gs) h

  pub short-left : (stays : X → Bool) (gs : List (List X)) → AreShort gs → AreShort (left stays gs)
  short-left stays gs h = short-tidied (map (filter stays) gs) (short-filter stays gs h)

either : (P : List (List ℕ) → Type 0) (b : Bool) (gs hs : List (List ℕ)) → P gs → P hs
    → P (cond b gs hs)
either P true gs hs p q = p
either P false gs hs p q = q

-- what joining and leaving keep holds of a seat's groups
module _ (P : List (List ℕ) → Type 0) (joins : (l : ℕ) (gs : List (List ℕ)) → P gs
    → P (joined l gs)) (leaves : (stays : ℕ → Bool) (gs : List (List ℕ)) → P gs
    → P (left stays gs)) where
  regrouped-keeps : (k : Bool) (t : ℕ) (a : Act) (e : Entry) (h : List Entry) (gs : List (List ℕ))
      → P gs → P (regrouped k t a e h gs)
  regrouped-keeps k t Nothing e h gs p = p
  regrouped-keeps k t (Records l) e h gs p =
      either P (is_of_kind k (locks_of h) l && rises t l e h) (joined l gs) gs (joins l gs p) p
  regrouped-keeps k t (Releases l) e h gs p =
      either P (is_of_kind k (locks_of h) l && falls t l e h) (left (λ m. not (eqb m l)) gs) gs
      (leaves (λ m. not (eqb m l)) gs p) p
  regrouped-keeps k t (Turns l m) e h gs p = p
  regrouped-keeps k t (Marks l m) e h gs p = p

  seat-keeps : P [] → (k : Bool) (t : ℕ) (h : List Entry) → P (seat_groups k t h)
  unfolding seat_groups
  seat-keeps none k t [] = none
  seat-keeps none k t (e ∷ h) =
      regrouped-keeps k t (act_by t e) e h (seat_groups k t h) (seat-keeps none k t h)

pub groups-short : (k : Bool) (t : ℕ) (h : List Entry) → AreShort (seat_groups k t h)
groups-short k t h =
    seat-keeps AreShort (λ l gs. short-joined l gs) (λ stays gs. short-left stays gs) tt k t h

pub groups-tidy : (k : Bool) (t : ℕ) (h : List Entry) → AreTidy (seat_groups k t h)
groups-tidy k t h =
    seat-keeps AreTidy (λ l gs. tidy-joined l gs)
    (λ stays gs p. tidy-tidied (map (filter stays) gs)) tt k t h

pub seat_groups-cons : (k : Bool) (t : ℕ) (x : Entry) (h : List Entry)
    → seat_groups k t (x ∷ h) ≡ regrouped k t (act_by t x) x h (seat_groups k t h)
unfolding seat_groups
seat_groups-cons k t x h = refl

pub seat_groups-nil : (k : Bool) (t : ℕ) → seat_groups k t [] ≡ []
unfolding seat_groups
seat_groups-nil k t = refl

-- the locks of a kind after an entry: the same ones, one more, one fewer
held_of-same : (k : Bool) (t : ℕ) (x : Entry) (h : List Entry) → IsSane h
    → ((l : ℕ) → is_held t l (x ∷ h) ≡ is_held t l h) → held_of k t (x ∷ h) ≡ held_of k t h
held_of-same k t x h sane same =
    ap (λ ls. filter (is_of_kind k (locks_of (x ∷ h))) ls) (held-same t x h same)
    ∙ kinds-stay k t x h sane (held t h) (held-all t h)

held_of-new : (k : Bool) (t m : ℕ) (x : Entry) (h : List Entry) → IsSane (x ∷ h)
    → act_by t x ≡ Records m → held t (x ∷ h) ≡ held t h ++ m ∷ []
    → held_of k t (x ∷ h) ≡ held_of k t h ++ cond (is_of_kind k (locks_of h) m) (m ∷ []) []
held_of-new k t m x h sane acts is =
    ap (λ ls. filter (is_of_kind k (locks_of (x ∷ h))) ls) is
    ∙ filter-append (is_of_kind k (locks_of (x ∷ h))) (held t h) (m ∷ [])
    ∙ ap₂ (λ ls ms. ls ++ ms) (kinds-stay k t x h sane.1 (held t h) (held-all t h))
    (ap (λ b. cond b (m ∷ []) [])
    (kind-stays k m x h (subst (λ a. IsFit a t h) acts (fit_by t x h sane))))

held_of-gone : (k : Bool) (t m : ℕ) (x : Entry) (h : List Entry) → IsSane (x ∷ h)
    → held t (x ∷ h) ≡ filter (is_not m) (held t h)
    → held_of k t (x ∷ h) ≡ filter (is_not m) (held_of k t h)
held_of-gone k t m x h sane is =
    ap (λ ls. filter (is_of_kind k (locks_of (x ∷ h))) ls) is
    ∙ kinds-stay k t x h sane.1 (filter (is_not m) (held t h))
    (list_all-filter (λ l. is_held t l h) (is_not m) (held t h) (held-all t h))
    ∙ filter-swap (is_of_kind k (locks_of h)) (is_not m) (held t h)

filter-all : (p : ℕ → Bool) (ls : List ℕ) → list_all p ls ≡ true → filter p ls ≡ ls
filter-all p [] all = refl
filter-all p (l ∷ ls) all =
    let parts = and_parts (p l) (list_all p ls) all in
    cond-true (p l) (l ∷ filter p ls) (filter p ls) parts.0
    ∙ ap (λ ms. l ∷ ms) (filter-all p ls parts.1)

-- a lock of the other kind isn't among them
other-kind : (k : Bool) (t m : ℕ) (h : List Entry) → is_of_kind k (locks_of h) m ≡ false
    → filter (is_not m) (held_of k t h) ≡ held_of k t h
other-kind k t m h other =
    filter-all (is_not m) (held_of k t h)
    (list_all-both (λ l. is_held t l h && is_of_kind k (locks_of h) l) (is_not m)
    (λ l is. apart l (and_parts (is_held t l h) (is_of_kind k (locks_of h) l) is).1 (eqb l m) refl)
    (held_of k t h) (held_of-all k t h))
  where
    apart : (l : ℕ) → is_of_kind k (locks_of h) l ≡ true → (b : Bool) → eqb l m ≡ b → not b ≡ true
    apart l is true same =
        absurd (true≢false (sym is ∙ ap (λ n. is_of_kind k (locks_of h) n)
        (eqb-true l m same) ∙ other))
    apart l is false same = refl

-- the groups after an entry, by what it does
regrouped-same : (k : Bool) (t : ℕ) (a : Act) (x : Entry) (h : List Entry) (gs : List (List ℕ))
    → ((l : ℕ) → is_held t l (x ∷ h) ≡ is_held t l h) → regrouped k t a x h gs ≡ gs
regrouped-same k t Nothing x h gs same = refl
regrouped-same k t (Records l) x h gs same =
    cond-false (is_of_kind k (locks_of h) l && rises t l x h) (joined l gs) gs
    (and_right (is_of_kind k (locks_of h) l) (rises t l x h) (rises-not t l x h (sym (same l))))
regrouped-same k t (Releases l) x h gs same =
    cond-false (is_of_kind k (locks_of h) l && falls t l x h) (left (λ m. not (eqb m l)) gs) gs
    (and_right (is_of_kind k (locks_of h) l) (falls t l x h)
    (ap (λ b. is_held t l h && not b) (same l) ∙ alone (is_held t l h)))
  where
    alone : (b : Bool) → (b && not b) ≡ false
    alone true = refl
    alone false = refl
regrouped-same k t (Turns l m) x h gs same = refl
regrouped-same k t (Marks l m) x h gs same = refl

step : (k : Bool) (t : ℕ) (x : Entry) (h : List Entry) → IsSane (x ∷ h) → Effect t x h
    → flat (seat_groups k t h) ≡ held_of k t h
    → flat (regrouped k t (act_by t x) x h (seat_groups k t h)) ≡ held_of k t (x ∷ h)
step k t x h sane (Same same) ih =
    ap flat (regrouped-same k t (act_by t x) x h (seat_groups k t h) same) ∙ ih
    ∙ sym (held_of-same k t x h sane.1 same)
step k t x h sane (New m acts was now is) ih =
    ap (λ a. flat (regrouped k t a x h (seat_groups k t h))) acts ∙ by (is_of_kind k (locks_of h) m)
    ∙ sym (held_of-new k t m x h sane acts is)
  where
    by : (b : Bool) → flat (cond (b && rises t m x h) (joined m (seat_groups k t h))
        (seat_groups k t h)) ≡ held_of k t h ++ cond b (m ∷ []) []
    by true =
        ap flat (cond-true (rises t m x h) (joined m (seat_groups k t h)) (seat_groups k t h)
        (rises-new t m x h was now))
        ∙ flat-joined m (seat_groups k t h) ∙ ap (λ ls. ls ++ m ∷ []) ih
    by false = ih ∙ sym (append-nil (held_of k t h))
step k t x h sane (Gone m acts was now is) ih =
    ap (λ a. flat (regrouped k t a x h (seat_groups k t h))) acts
    ∙ by (is_of_kind k (locks_of h) m) refl ∙ sym (held_of-gone k t m x h sane is)
  where
    gone : falls t m x h ≡ true
    gone = and_from (is_held t m h) (not (is_held t m (x ∷ h))) was (ap not now)

    by : (b : Bool) → is_of_kind k (locks_of h) m ≡ b
        → flat (cond (b && falls t m x h) (left (is_not m) (seat_groups k t h)) (seat_groups k t h))
        ≡ filter (is_not m) (held_of k t h)
    by true of =
        ap flat (cond-true (falls t m x h) (left (is_not m) (seat_groups k t h))
        (seat_groups k t h) gone)
        ∙ flat-left (is_not m) (seat_groups k t h) ∙ ap (filter (is_not m)) ih
    by false of = ih ∙ sym (other-kind k t m h of)

-- joined in order they are the held locks of the kind
pub groups-joined : (k : Bool) (t : ℕ) (h : List Entry) → IsSane h
    → flat (seat_groups k t h) ≡ held_of k t h
groups-joined k t [] sane = ap flat (seat_groups-nil k t)
groups-joined k t (x ∷ h) sane =
    ap flat (seat_groups-cons k t x h) ∙ step k t x h sane (effect t x h sane)
    (groups-joined k t h sane.1)

pub flat-map : {X Y : Type 0} (f : X → Y) (gs : List (List X))
    → flat (map (map f) gs) ≡ map f (flat gs)
flat-map f [] = refl
flat-map f (g ∷ gs) = ap (λ ys. map f g ++ ys) (flat-map f gs) ∙ sym (map-append f g (flat gs))

-- and as the seat holds them, its chain
pub groups-chain : (k : Bool) (t : ℕ) (h : List Entry) → IsSane h
    → flat (held_groups k t h) ≡ chain k t h
groups-chain k t h sane =
    flat-map (instance t h) (seat_groups k t h) ∙ ap (map (instance t h)) (groups-joined k t h sane)
