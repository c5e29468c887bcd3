-- Lists whose chunks lie in their places, as callers see them.
use Rattle.std.proofs.Common.{◌≡◌, ℕ, zero, suc, ◌+◌, ◌-◌, ◌*◌, ◌^◌, ◌<◌, ◌≤◌, false, List, [], ◌∷◌}
use Rattle.std.proofs.Common.{◌++◌, length, map, set, get_or, take, drop, refl, ap, ap₂, sym, ◌∙◌}
use Rattle.std.proofs.Common.{subst, inl, inr, arith}
use Rattle.std.specs.List.{remove, concat, sum_by, All}
use Rattle.std.proofs.lemmas.Bool.{cond-false, cases_lt}
use Rattle.std.proofs.lemmas.List.{length-append, length-set, length-map, map-append, take-map}
use Rattle.std.proofs.lemmas.List.{drop-map, get_or-map, append-nil, nil_from_length, get_or_past}
use Rattle.std.proofs.lemmas.List.Elements.{All-set}
use Rattle.std.proofs.lemmas.List.Concat.{flat_map-append}
use Rattle.std.proofs.lemmas.List.Sums.{sum_by-cons}
use Rattle.wit_model.specs.declared.locks.Instance.{Instance}
use Rattle.wit_model.specs.declared.sizes.TheConstants.Limits.{MOST_CHUNKS}
use Rattle.wit_model.specs.Rules.Groups.{flat, joined, AreTidy}
use Rattle.wit_model.specs.Rules.Chunks.{Chunks, IsList, IsPlaced, groups_of, set_groups}
use Rattle.wit_model.specs.Rules.Chunks.{is_refused, pushed}
use Rattle.wit_model.specs.Rules.Rows.{row, groups_at, shown_chunks, ArePlaced, AreSettled}
use Rattle.wit_model.proofs.Rows.Placing.{IsTaken, taken}
use Rattle.wit_model.proofs.Rows.Writing.{same-rows, one-list}

lengths-groups : (rows : List (List Instance)) (ls : List (List ℕ))
    → map length ls ≡ map length (map (groups_at rows) ls)
lengths-groups rows [] = refl
lengths-groups rows (x ∷ ls) =
    ap₂ (λ n ns. n ∷ ns) (sym (length-map x (row rows))) (lengths-groups rows ls)

count-groups : (rows : List (List Instance)) (ls : List (List ℕ))
    → sum_by length (map (groups_at rows) ls) ≡ length (concat ls)
count-groups rows [] = refl
count-groups rows (x ∷ ls) =
    sum_by-cons (λ (gs : List (List Instance)). length gs) (groups_at rows x)
    (map (groups_at rows) ls)
    ∙ omega (arith, length-map x (row rows), count-groups rows ls, length-append x (concat ls))

-- callers see each chunk in its place
pub placed-shown : (rows : List (List Instance)) (lists : List (List ℕ)) (unused : List ℕ)
    → ArePlaced (length rows) lists unused → IsPlaced (shown_chunks rows lists unused)
placed-shown rows lists unused placed = record {
  lists = lengths-groups rows lists;
  once = placed.once;
  all = ap (λ n. n + length unused) (count-groups rows lists) ∙ placed.all;
}

pub groups-shown : (rows : List (List Instance)) (lists : List (List ℕ)) (l : ℕ) → l < length lists
    → get_or (map (groups_at rows) lists) l [] ≡ groups_at rows (get_or lists l [])
groups-shown rows lists l lt = get_or-map (groups_at rows) lists l [] [] lt

-- a number of a list names one of the lists
pub list-within : (rows : List (List Instance)) (lists : List (List ℕ)) (unused : List ℕ) (list : ℕ)
    → IsList (shown_chunks rows lists unused) list → list - 1 < length lists
list-within rows lists unused list is = omega (arith, is.0, is.1, length-map lists (groups_at rows))

pub both-nil : {X : Type 0} (xs ys : List X) → xs ++ ys ≡ [] → (xs ≡ []) × (ys ≡ [])
both-nil xs ys e =
    let none : length xs + length ys ≡ 0 = sym (length-append xs ys) ∙ ap length e in
    (nil_from_length xs (omega (arith, none)), nil_from_length ys (omega (arith, none)))

pub flat-push : (rows : List (List Instance)) (ps : List ℕ) (p : ℕ)
    → flat (groups_at rows (ps ++ p ∷ [])) ≡ flat (groups_at rows ps) ++ row rows p
flat-push rows ps p =
    ap flat (map-append (row rows) ps (p ∷ []))
    ∙ flat_map-append (λ g. g) (groups_at rows ps) (row rows p ∷ [])
    ∙ ap (λ g. flat (groups_at rows ps) ++ g) (append-nil (row rows p))

-- what a call leaves: these groups, and everything in its place
pub record Leaves (rows : List (List Instance)) (lists : List (List ℕ)) (unused : List ℕ)
    (shows : List (List (List Instance))) : Type 0 where
  pub groups : map (groups_at rows) lists ≡ shows
  pub settled : AreSettled rows lists unused

pub map-remove : {X Y : Type 0} (f : X → Y) (xs : List X) (i : ℕ)
    → map f (remove xs i) ≡ remove (map f xs) i
map-remove f xs i =
    map-append f (take i xs) (drop (suc i) xs) ∙ ap₂ (λ ys zs. ys ++ zs) (sym (take-map f i xs))
    (sym (drop-map f (suc i) xs))

-- no list has more chunks than there are
pub list-short : (lists : List (List ℕ)) (l : ℕ)
    → length (get_or lists l []) ≤ length (concat lists)
list-short [] l = omega arith
list-short (x ∷ ls) zero = omega (arith, length-append x (concat ls))
list-short (x ∷ ls) (suc l) = omega (arith, length-append x (concat ls), list-short ls l)

pub row-short : (rows : List (List Instance)) → All (λ (g : List Instance). length g ≤ 5) rows
    → (p : ℕ)
    → length (row rows p) ≤ 5
row-short rows short p = elim (cases_lt p (length rows)) [
  | inl lt ↦ short p [] lt
  | inr past ↦ (let none : length (row rows p) ≡ 0 = ap length (get_or_past rows p [] past) in
      omega (arith, none))
]

flat-short : (rows : List (List Instance)) → All (λ (g : List Instance). length g ≤ 5) rows
    → (ps : List ℕ) → length (flat (groups_at rows ps)) ≤ 5 * length ps
flat-short rows short [] = omega arith
flat-short rows short (p ∷ ps) =
    omega (
      arith,
      length-append (row rows p) (flat (groups_at rows ps)),
      row-short rows short p,
      flat-short rows short ps,
    )

-- a list's length fits
pub chain-fits : (rows : List (List Instance)) (lists : List (List ℕ)) (unused : List ℕ) (l : ℕ)
    → AreSettled rows lists unused
    → length (flat (groups_at rows (get_or lists l []))) < 2 ^ 32
chain-fits rows lists unused l settled =
    let few : length (get_or lists l []) ≤ MOST_CHUNKS =
    omega (arith, list-short lists l, settled.placed.all, settled.few) in
    let most : length (flat (groups_at rows (get_or lists l []))) ≤ 327680 =
    omega (arith, flat-short rows settled.short (get_or lists l []), few) in
    omega (arith, most)

-- one chunk of a list is written
module _ (rows : List (List Instance)) (lists : List (List ℕ)) (unused : List ℕ)
    (settled : AreSettled rows lists unused) (l : ℕ) (in_lists : l < length lists) where
  pub tidy-at : AreTidy (groups_at rows (get_or lists l []))
  tidy-at =
      subst AreTidy (groups-shown rows lists l in_lists)
      (settled.tidy l [] (omega (arith, in_lists, length-map lists (groups_at rows))))

  pub written-settled : (k : ℕ) → k < length (get_or lists l []) → (y : List Instance)
      → length y ≤ 5 → AreTidy (set (groups_at rows (get_or lists l [])) k y)
      → Leaves (set rows (get_or (get_or lists l []) k 0) y) lists unused
      (set (map (groups_at rows) lists) l (set (groups_at rows (get_or lists l [])) k y))
  written-settled k in_list y small tidy =
      let p : ℕ = get_or (get_or lists l []) k 0 in
      let known : IsTaken (length rows) lists unused p =
      taken (length rows) lists unused settled.placed l k 0 in_lists in_list in
      let len : length (set rows p y) ≡ length rows = length-set rows p y in
      let groups : map (groups_at (set rows p y)) lists
      ≡ set (map (groups_at rows) lists) l (set (groups_at rows (get_or lists l [])) k y) =
      one-list rows p y lists l k known.within in_lists in_list refl (omega (arith, known.once)) in
      record {
        groups = groups;
        settled = record {
          placed = subst (λ n. ArePlaced n lists unused) (sym len) settled.placed;
          few = omega (arith, len, settled.few);
          short = All-set (λ (g : List Instance). length g ≤ 5) rows p y small settled.short;
          empty = ap flat (same-rows rows p y unused known.apart) ∙ settled.empty;
          tidy =
              subst (All AreTidy) (sym groups)
              (All-set AreTidy (map (groups_at rows) lists) l
              (set (groups_at rows (get_or lists l [])) k y) tidy settled.tidy);
        };
      }

  -- the group and the chunk at a place
  pub row-at : (k : ℕ) → k < length (get_or lists l [])
      → get_or (groups_at rows (get_or lists l [])) k [] ≡ row rows (get_or (get_or lists l []) k 0)
  row-at k in_list = get_or-map (row rows) (get_or lists l []) k 0 [] in_list

pub pushed-taken : (c : Chunks) (list : ℕ) (i : Instance) → is_refused c list ≡ false
    → pushed c list i ≡ set_groups c list (joined i (groups_of c list))
pushed-taken c list i room =
    cond-false (is_refused c list) c.groups (set_groups c list (joined i (groups_of c list))) room
