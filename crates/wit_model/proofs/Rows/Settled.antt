-- A push, a replacement and a removal leave everything in its place.
use Rattle.std.proofs.Common.{◌≡◌, ℕ, ◌+◌, ◌-◌, ◌<◌, ◌≤◌, true, false, eqb, List, [], ◌∷◌, ◌++◌}
use Rattle.std.proofs.Common.{length, map, set, get_or, Some, slice_get, refl, ap, ap₂, sym, ◌∙◌}
use Rattle.std.proofs.Common.{subst, ◌⊎◌, inl, inr, arith}
use Rattle.std.specs.List.{remove, All}
use Rattle.std.proofs.lemmas.Bool.{and_left, and_right, and_from, eq-eqb, ne_eqb}
use Rattle.std.proofs.lemmas.List.{length-append, length-set, length-map, map-append, map-set}
use Rattle.std.proofs.lemmas.List.{set-set, set-get_or, get_or-set_same, nil_from_length}
use Rattle.std.proofs.lemmas.List.Edits.{length-remove}
use Rattle.std.proofs.lemmas.List.Elements.{All-set}
use Rattle.std.proofs.lemmas.Option.{slice_get_within, get_or_from_slice_get}
use Rattle.wit_model.specs.declared.locks.Instance.{Instance}
use Rattle.wit_model.specs.Rules.Groups.{flat, joined, opens, tidied, edited_in, replaced_in}
use Rattle.wit_model.specs.Rules.Groups.{removed_in, AreTidy}
use Rattle.wit_model.specs.Rules.Chunks.{Chunks, groups_of, set_groups, is_refused, pushed, times}
use Rattle.wit_model.specs.Rules.Rows.{row, groups_at, shown_chunks, ArePlaced, AreSettled}
use Rattle.wit_model.proofs.Chains.Grouping.{joined-opens, joined-fits, tidied-one, tidied-tidy}
use Rattle.wit_model.proofs.Chains.Grouping.{tidy-tidied, tidied-emptied, tidy-set, tidy-opened}
use Rattle.wit_model.proofs.Rows.Placing.{IsTaken, IsFree, taken, free, placed-opened, placed-freed}
use Rattle.wit_model.proofs.Rows.Placing.{times-append, times-in, times-list, times-remove}
use Rattle.wit_model.proofs.Rows.Writing.{same-rows, same-lists, one-list}
use Rattle.wit_model.proofs.Rows.Shown.{groups-shown, both-nil, flat-push, Leaves, map-remove}
use Rattle.wit_model.proofs.Rows.Shown.{row-short, tidy-at, written-settled, row-at, pushed-taken}

module _ (rows : List (List Instance)) (lists : List (List ℕ)) (list : ℕ)
    (in_lists : list - 1 < length lists) where
  -- a push that finds room in the list's newest chunk
  pub push-fits : (unused : List ℕ) → AreSettled rows lists unused → (p : ℕ) (i : Instance)
      → slice_get (get_or lists (list - 1) []) (length (get_or lists (list - 1) []) - 1) ≡ Some p
      → length (row rows p) < 5
      → opens (groups_at rows (get_or lists (list - 1) [])) ≡ false
      → Leaves (set rows p (row rows p ++ i ∷ [])) lists unused
      (pushed (shown_chunks rows lists unused) list i)
  push-fits unused settled p i at short fits =
      let ps : List ℕ = get_or lists (list - 1) [] in
      let k : ℕ = length ps - 1 in
      let gs : List (List Instance) = groups_at rows ps in
      let in_list : k < length ps = slice_get_within ps k p at in
      let is : get_or ps k 0 ≡ p = get_or_from_slice_get ps k p 0 at in
      let y : List Instance = row rows p ++ i ∷ [] in
      let long : length y ≡ length (row rows p) + 1 = length-append (row rows p) (i ∷ []) in
      let c : Chunks = shown_chunks rows lists unused in
      let e : groups_of c list ≡ gs = groups-shown rows lists (list - 1) in_lists in
      let fit : joined i gs ≡ set gs k y =
      joined-fits i gs fits
      ∙ ap (λ n. set gs (n - 1) (get_or gs (n - 1) [] ++ i ∷ [])) (length-map ps (row rows))
      ∙ ap (λ g. set gs k (g ++ i ∷ []))
      (row-at rows lists unused settled (list - 1) in_lists k in_list ∙ ap (row rows) is) in
      let does : set (map (groups_at rows) lists) (list - 1) (set gs k y) ≡ pushed c list i =
      ap (set (map (groups_at rows) lists) (list - 1)) (sym fit ∙ ap (joined i) (sym e))
      ∙ sym (pushed-taken c list i
      (and_left (opens (groups_of c list)) (eqb (length unused) 0) (ap opens e ∙ fits))) in
      subst (λ gs'. Leaves (set rows p y) lists unused gs') does
      (subst (λ q. Leaves (set rows q y) lists unused
      (set (map (groups_at rows) lists) (list - 1) (set gs k y))) is
      (written-settled rows lists unused settled (list - 1) in_lists k in_list y
      (omega (arith, long, short))
      (tidy-set gs k y (tidy-at rows lists unused settled (list - 1) in_lists)
      (omega (arith, long)))))

  -- a push that takes a free chunk
  pub push-opens : (rest : List ℕ) (p : ℕ) → AreSettled rows lists (rest ++ p ∷ []) → (i : Instance)
      → opens (groups_at rows (get_or lists (list - 1) [])) ≡ true
      → Leaves (set rows p (row rows p ++ i ∷ []))
      (set lists (list - 1) (get_or lists (list - 1) [] ++ p ∷ [])) rest
      (pushed (shown_chunks rows lists (rest ++ p ∷ [])) list i)
  push-opens rest p settled i full =
      let l : ℕ = list - 1 in
      let ps : List ℕ = get_or lists (list - 1) [] in
      let gs : List (List Instance) = groups_at rows ps in
      let some : 1 ≤ times p (rest ++ p ∷ []) =
      omega (arith, times-append p rest (p ∷ []), times-in (p ∷ []) 0 0 (omega arith)) in
      let known : IsFree (length rows) lists (rest ++ p ∷ []) p =
      free (length rows) lists (rest ++ p ∷ []) settled.placed p some in
      let none : times p rest ≡ 0 =
      omega (
        arith,
        known.once,
        times-append p rest (p ∷ []),
        times-in (p ∷ []) 0 0 (omega arith),
      ) in
      let nils : (flat (groups_at rows rest) ≡ []) × (row rows p ≡ []) =
      both-nil (flat (groups_at rows rest)) (row rows p)
      (sym (flat-push rows rest p) ∙ settled.empty) in
      let y : List Instance = row rows p ++ i ∷ [] in
      let alone : y ≡ i ∷ [] = ap (λ g. g ++ i ∷ []) nils.1 in
      let one : length y ≡ 1 = ap length alone in
      let rows' : List (List Instance) = set rows p y in
      let len : length rows' ≡ length rows = length-set rows p y in
      let c : Chunks = shown_chunks rows lists (rest ++ p ∷ []) in
      let e : groups_of c list ≡ gs = groups-shown rows lists (list - 1) in_lists in
      let apart : times p ps ≡ 0 =
      omega (arith, known.apart, times-list p lists (list - 1) in_lists) in
      let filled : length (rest ++ p ∷ []) ≡ length rest + 1 = length-append rest (p ∷ []) in
      let room : is_refused c list ≡ false =
      and_right (opens (groups_of c list)) (eqb (length (rest ++ p ∷ [])) 0)
      (ne_eqb (length (rest ++ p ∷ [])) 0 (λ z. absurd (omega (arith, z, filled)))) in
      let more : groups_at rows' (ps ++ p ∷ []) ≡ gs ++ (i ∷ []) ∷ [] =
      map-append (row rows') ps (p ∷ [])
      ∙ ap₂ (λ hs g. hs ++ g ∷ []) (same-rows rows p y ps apart)
      (get_or-set_same rows p y [] known.within ∙ alone) in
      let opened : map (groups_at rows') (set lists l (ps ++ p ∷ []))
      ≡ set (map (groups_at rows) lists) l (gs ++ (i ∷ []) ∷ []) =
      map-set (groups_at rows') lists l (ps ++ p ∷ [])
      ∙ ap₂ (λ hs g. set hs l g) (same-lists rows p y lists known.apart) more in
      let does : set (map (groups_at rows) lists) l (gs ++ (i ∷ []) ∷ []) ≡ pushed c list i =
      ap (set (map (groups_at rows) lists) l) (sym (joined-opens i gs full) ∙ ap (joined i) (sym e))
      ∙ sym (pushed-taken c list i room) in
      record {
        groups = opened ∙ does;
        settled = record {
          placed =
              subst (λ n. ArePlaced n (set lists l (ps ++ p ∷ [])) rest) (sym len)
              (placed-opened (length rows) lists rest l p in_lists settled.placed);
          few = omega (arith, len, settled.few);
          short =
              All-set (λ (g : List Instance). length g ≤ 5) rows p y
              (omega (arith, one)) settled.short;
          empty = ap flat (same-rows rows p y rest none) ∙ nils.0;
          tidy =
              subst (All AreTidy) (sym opened)
              (All-set AreTidy (map (groups_at rows) lists) l (gs ++ (i ∷ []) ∷ [])
              (tidy-opened gs i (tidy-at rows lists (rest ++ p ∷ []) settled
              (list - 1) in_lists) full) settled.tidy);
        };
      }

  -- a push that is refused
  pub push-refused : (unused : List ℕ) → opens (groups_at rows (get_or lists (list - 1) [])) ≡ true
      → length unused ≡ 0 → is_refused (shown_chunks rows lists unused) list ≡ true
  push-refused unused full none =
      and_from (opens (groups_of (shown_chunks rows lists unused) list)) (eqb (length unused) 0)
      (ap opens (groups-shown rows lists (list - 1) in_lists) ∙ full)
      (eq-eqb (length unused) 0 none)

  module _ (unused : List ℕ) (settled : AreSettled rows lists unused) (group index : ℕ)
      (in-list : group < length (get_or lists (list - 1) []))
      (in-row : index < length (row rows (get_or (get_or lists (list - 1) []) group 0))) where
    row-is : get_or (groups_at rows (get_or lists (list - 1) [])) group []
        ≡ row rows (get_or (get_or lists (list - 1) []) group 0)
    row-is = row-at rows lists unused settled (list - 1) in_lists group in-list

    -- an edit of the lists is one of a chunk
    edited : (edit : ℕ → List Instance → List Instance)
        → edited_in edit group index (groups_of (shown_chunks rows lists unused) list)
        ≡ set (groups_at rows (get_or lists (list - 1) [])) group
        (edit index (row rows (get_or (get_or lists (list - 1) []) group 0)))
    edited edit =
        ap (edited_in edit group index) (groups-shown rows lists (list - 1) in_lists)
        ∙ ap (λ g. set (groups_at rows (get_or lists (list - 1) [])) group (edit index g)) row-is

    -- another lock is written over one
    pub replaced : (x : Instance)
        → Leaves (set rows (get_or (get_or lists (list - 1) []) group 0)
        (set (row rows (get_or (get_or lists (list - 1) []) group 0)) index x)) lists unused
        (set_groups (shown_chunks rows lists unused) list
        (replaced_in group index x (groups_of (shown_chunks rows lists unused) list)))
    replaced x =
        let g : List Instance = row rows (get_or (get_or lists (list - 1) []) group 0) in
        let y : List Instance = set g index x in
        let long : length y ≡ length g = length-set g index x in
        subst (λ gs. Leaves (set rows (get_or (get_or lists (list - 1) []) group 0) y) lists unused
        (set (map (groups_at rows) lists) (list - 1) gs))
        (sym (edited (λ k h. set h k x)))
        (written-settled rows lists unused settled (list - 1) in_lists group in-list y
        (omega (
          arith,
          long,
          row-short rows settled.short
              (get_or (get_or lists (list - 1) []) group 0),
        ))
        (tidy-set (groups_at rows (get_or lists (list - 1) [])) group y
        (tidy-at rows lists unused settled (list - 1) in_lists) (omega (arith, long, in-row))))

    -- a lock is taken out, and its chunk stays
    pub removed-kept : (1 ≤ length
        (remove (row rows (get_or (get_or lists (list - 1) []) group 0)) index))
        ⊎ (length (get_or lists (list - 1) []) ≡ 1)
        → Leaves (set rows (get_or (get_or lists (list - 1) []) group 0)
        (remove (row rows (get_or (get_or lists (list - 1) []) group 0)) index)) lists unused
        (set_groups (shown_chunks rows lists unused) list
        (removed_in group index (groups_of (shown_chunks rows lists unused) list)))
    removed-kept stays =
        let ps : List ℕ = get_or lists (list - 1) [] in
        let gs : List (List Instance) = groups_at rows ps in
        let g : List Instance = row rows (get_or ps group 0) in
        let y : List Instance = remove g index in
        let fewer : length y + 1 ≡ length g = length-remove g index in-row in
        let short : length gs ≡ length ps = length-map ps (row rows) in
        let len : length (set gs group y) ≡ length gs = length-set gs group y in
        let same : tidied (set gs group y) ≡ set gs group y = elim stays [
          | inl some ↦ tidied-tidy (set gs group y)
              (tidy-set gs group y (tidy-at rows lists unused settled (list - 1) in_lists) some)
          | inr one ↦ tidied-one (set gs group y) (omega (arith, one, short, len))
        ] in
        subst (λ hs. Leaves (set rows (get_or ps group 0) y) lists unused
        (set (map (groups_at rows) lists) (list - 1) hs))
        (sym (ap tidied (edited (λ k h. remove h k)) ∙ same))
        (written-settled rows lists unused settled (list - 1) in_lists group in-list y
        (omega (arith, fewer, row-short rows settled.short (get_or ps group 0)))
        (subst AreTidy same (tidy-tidied (set gs group y))))

    -- a chunk's last lock is taken out, and the chunk becomes free
    pub removed-freed : length (remove (row rows (get_or (get_or lists (list - 1) []) group 0))
        index) ≡ 0 → (length (get_or lists (list - 1) []) ≡ 1 → ⊥)
        → Leaves (set rows (get_or (get_or lists (list - 1) []) group 0)
        (remove (row rows (get_or (get_or lists (list - 1) []) group 0)) index))
        (set lists (list - 1) (remove (get_or lists (list - 1) []) group))
        (unused ++ get_or (get_or lists (list - 1) []) group 0 ∷ [])
        (set_groups (shown_chunks rows lists unused) list
        (removed_in group index (groups_of (shown_chunks rows lists unused) list)))
    removed-freed empty several =
        let l : ℕ = list - 1 in
        let ps : List ℕ = get_or lists (list - 1) [] in
        let p : ℕ = get_or ps group 0 in
        let gs : List (List Instance) = groups_at rows ps in
        let y : List Instance = remove (row rows p) index in
        let nil : y ≡ [] = nil_from_length y empty in
        let rows' : List (List Instance) = set rows p y in
        let len : length rows' ≡ length rows = length-set rows p y in
        let short : length gs ≡ length ps = length-map ps (row rows) in
        let many : 1 < length gs = omega (arith, short, in-list, several) in
        let known : IsTaken (length rows) lists unused p =
        taken (length rows) lists unused settled.placed l group 0 in_lists in-list in
        let tidy : AreTidy gs = tidy-at rows lists unused settled (list - 1) in_lists in
        let left : tidied (set gs group y) ≡ remove gs group =
        ap (λ g. tidied (set gs group g)) nil ∙ tidied-emptied gs group many
        (omega (arith, short, in-list)) tidy in
        let gone : times p (remove ps group) ≡ 0 =
        omega (
          arith,
          times-remove p ps group in-list,
          times-list p lists l in_lists,
          known.once,
          times-in (p ∷ []) 0 0 (omega arith),
        ) in
        let others : groups_at rows' (remove ps group) ≡ remove gs group =
        same-rows rows p y (remove ps group) gone ∙ map-remove (row rows) ps group in
        let groups : map (groups_at rows') (set lists l (remove ps group))
        ≡ set (map (groups_at rows) lists) l (remove gs group) =
        map-set (groups_at rows') lists l (remove ps group)
        ∙ ap₂ (λ hs g. set hs l g) (one-list rows p y lists l group known.within in_lists in-list
        refl (omega (arith, known.once))) others
        ∙ set-set (map (groups_at rows) lists) l (set gs group y) (remove gs group) in
        record {
          groups =
              groups ∙ ap (set (map (groups_at rows) lists) l)
              (sym (ap tidied (edited (λ k h. remove h k)) ∙ left));
          settled = record {
            placed =
                subst (λ n. ArePlaced n (set lists l (remove ps group)) (unused ++ p ∷ []))
                (sym len)
                (placed-freed (length rows) lists unused l group in_lists in-list settled.placed);
            few = omega (arith, len, settled.few);
            short =
                All-set (λ (g : List Instance). length g ≤ 5) rows p y
                (omega (arith, empty)) settled.short;
            empty =
                flat-push rows' unused p
                ∙ ap₂ (λ xs ys. xs ++ ys) (ap flat (same-rows rows p y unused known.apart)
                ∙ settled.empty) (get_or-set_same rows p y [] known.within ∙ nil);
            tidy =
                subst (All AreTidy) (sym groups)
                (All-set AreTidy (map (groups_at rows) lists) l (remove gs group)
                (subst AreTidy left (tidy-tidied (set gs group y))) settled.tidy);
          };
        }

-- a list's chunks are its own: they stay, and those of no other list become others
pub others-kept : (lists : List (List ℕ)) (l : ℕ) → lists ≡ set lists l (get_or lists l [])
others-kept lists l = sym (set-get_or lists l [])

pub others-set : (lists : List (List ℕ)) (l : ℕ) (ps : List ℕ) → l < length lists
    → set lists l ps ≡ set lists l (get_or (set lists l ps) l [])
others-set lists l ps lt = ap (set lists l) (sym (get_or-set_same lists l ps [] lt))
