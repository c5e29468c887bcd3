-- Types that are met in a search.
use Rattle.std.proofs.Common.{◌≡◌, ℕ, ◌+◌, ◌<◌, ◌≤◌, Bool, true, false, List, [], ◌∷◌, ◌++◌}
use Rattle.std.proofs.Common.{◌⊎◌, length, get_or, set, take, drop, replicate, refl, sym, ap, ◌∙◌}
use Rattle.std.proofs.Common.{subst, inl, inr, arith, length-append}
use Rattle.std.proofs.lemmas.Bool.{false≢true, cases_eq, cases_lt}
use Rattle.std.proofs.lemmas.List.{get_or_read, get_or_append_left, get_or_past}
use Rattle.std.proofs.lemmas.List.{append-nil, take_all, drop_all}
use Rattle.std.proofs.lemmas.List.{get_or-replicate, length-set, length-replicate}
use Rattle.std.proofs.lemmas.List.{get_or-set_same, get_or-set_other}
use Rattle.std.proofs.lemmas.List.Folds.{sum_by-replicate}
use Rattle.std.proofs.lemmas.List.Sums.{sum_by-set}
use Rattle.std.proofs.Math.Seq.{get_or-append_seam}
use Rattle.wit_circles.specs.declared.search.Met.{Met}
use Rattle.wit_circles.specs.Searching.{Next, is_marked, nothing, type_met, before_met, row}
use Rattle.wit_circles.specs.Searching.{IsTrail, one_if_not, IsSearch, IsLater, Reaches}

-- ---- marks

-- what isn't there isn't marked
marked_within : (marks : List Bool) (t : ℕ) → is_marked marks t ≡ true → t < length marks
marked_within marks t is =
    elim (cases_lt t (length marks)) [
      | inl lt ↦ lt
      | inr past ↦ absurd (false≢true (sym (get_or_past marks t false past) ∙ is))
    ]

none-marked : (n t : ℕ) → is_marked (replicate n false) t ≡ true → ⊥
none-marked n t is =
    let lt = marked_within (replicate n false) t is in
    false≢true
    (sym (get_or-replicate n t false false (omega (arith, lt, length-replicate n false))) ∙ is)

-- one more is marked
module _ (marks : List Bool) (i : ℕ) (lt : i < length marks) where
  pub marked_before : (t : ℕ) → is_marked (set marks i true) t ≡ true
      → (t ≡ i) ⊎ (is_marked marks t ≡ true)
  marked_before t is =
      elim (cases_eq t i) [
        | inl e ↦ inl e
        | inr apart ↦ inr (sym (get_or-set_other marks i t true false apart) ∙ is)
      ]

  pub marked_after : (t : ℕ) → is_marked marks t ≡ true → is_marked (set marks i true) t ≡ true
  marked_after t is =
      elim (cases_eq t i) [
        | inl e ↦ ap (is_marked (set marks i true)) e ∙ get_or-set_same marks i true false lt
        | inr apart ↦ get_or-set_other marks i t true false apart ∙ is
      ]

-- ---- a search begins

pub begins : (rows : List (List ℕ)) (first last : ℕ) (met : List Met) (m : Met)
    (marks blank : List Bool) → first < length rows → (first ≡ last → ⊥) → m.of ≡ first
    → met ≡ [] ++ m ∷ [] → blank ≡ replicate (length rows) false → marks ≡ set blank first true
    → IsSearch rows first last met marks
begins rows first last met m marks blank within apart of is none marked =
    subst (λ (xs : List Met). IsSearch rows first last xs marks) (sym is)
    (subst (IsSearch rows first last (m ∷ []))
    (sym (marked ∙ ap (λ (xs : List Bool). set xs first true) none)) begun)
  where
    n : ℕ
    n = length rows

    size : length (replicate n false) ≡ n
    size = length-replicate n false

    lt : first < length (replicate n false)
    lt = omega (arith, size, within)

    begun : IsSearch rows first last (m ∷ []) (set (replicate n false) first true)
    begun =
        let long = length-set (replicate n false) first true in
        let sum = sum_by-set one_if_not (replicate n false) first true false lt in
        let was = ap one_if_not (get_or-replicate n first false false within) in
        let all = sum_by-replicate one_if_not n false in
        record {
          trail = record {
            some = omega arith;
            start = of;
            types =
                λ i less. let zero : 0 ≡ i = omega (arith, less) in
                subst (λ k. type_met (m ∷ []) k < n) zero (omega (arith, of, within));
            earlier = λ i some less. absurd (omega (arith, some, less));
            next = λ i some less. absurd (omega (arith, some, less));
          };
          size = long ∙ size;
          own = get_or-set_same (replicate n false) first true false lt;
          missing =
              get_or-set_other (replicate n false) first last true false (λ e. apart (sym e))
              ∙ unmarked last;
          marked =
              λ t is. elim (marked_before (replicate n false) first lt t is) [
                | inl e ↦ (0, omega arith, of ∙ sym e)
                | inr was ↦ absurd (none-marked n t was)
              ];
          left = omega (arith, sum, was, all, long, size);
        }
      where
        unmarked : (t : ℕ) → is_marked (replicate n false) t ≡ false
        unmarked t =
            elim (cases_lt t n) [
              | inl less ↦ get_or-replicate n t false false less
              | inr past ↦ get_or_past (replicate n false) t false (omega (arith, past, size))
            ]

-- ---- one more type is met

module _ (rows : List (List ℕ)) (first last : ℕ) (met : List Met) (marks : List Bool)
    (s : IsSearch rows first last met marks) (place : ℕ) (at : place < length met)
    (m : Met) (t : ℕ) (of : m.of ≡ t) (before : m.before ≡ place)
    (within : t < length rows) (apart : t ≡ last → ⊥) (unmet : get_or marks t false ≡ false)
    (follows : Next rows (type_met met place) t) where
  more : length (met ++ m ∷ []) ≡ length met + 1
  more = length-append met (m ∷ [])

  same-type : (j : ℕ) → j < length met → type_met (met ++ m ∷ []) j ≡ type_met met j
  same-type j lt = ap (λ (x : Met). x.of) (get_or_append_left met (m ∷ []) nothing j lt)

  same-before : (j : ℕ) → j < length met → before_met (met ++ m ∷ []) j ≡ before_met met j
  same-before j lt = ap (λ (x : Met). x.before) (get_or_append_left met (m ∷ []) nothing j lt)

  new-type : (j : ℕ) → j ≡ length met → type_met (met ++ m ∷ []) j ≡ t
  new-type j e =
      ap (type_met (met ++ m ∷ [])) e ∙ ap (λ (x : Met). x.of) (get_or-append_seam met m [] nothing)
      ∙ of

  new-before : (j : ℕ) → j ≡ length met → before_met (met ++ m ∷ []) j ≡ place
  new-before j e =
      ap (before_met (met ++ m ∷ [])) e
      ∙ ap (λ (x : Met). x.before) (get_or-append_seam met m [] nothing) ∙ before

  older : (j : ℕ) → j < length (met ++ m ∷ []) → (j ≡ length met → ⊥) → j < length met
  older j lt apart = omega (arith, more, lt, apart)

  trail_more : IsTrail rows first (met ++ m ∷ [])
  trail_more = record {
    some = omega (arith, more);
    start = same-type 0 s.trail.some ∙ s.trail.start;
    types =
        λ j lt. elim (cases_eq j (length met)) [
          | inl e ↦ omega (arith, new-type j e, within)
          | inr far ↦ omega (arith, same-type j (older j lt far), s.trail.types j (older j lt far))
        ];
    earlier =
        λ j some lt. elim (cases_eq j (length met)) [
          | inl e ↦ omega (arith, new-before j e, at)
          | inr far ↦ omega (
            arith,
            same-before j (older j lt far),
            s.trail.earlier j some (older j lt far),
          )
        ];
    next =
        λ j some lt. elim (cases_eq j (length met)) [
          | inl e ↦
              subst (λ x. Next rows x (type_met (met ++ m ∷ []) j))
              (sym (ap (type_met (met ++ m ∷ [])) (new-before j e) ∙ same-type place at))
              (subst (Next rows (type_met met place)) (sym (new-type j e)) follows)
          | inr far ↦ let lower = s.trail.earlier j some (older j lt far) in
              subst (λ x. Next rows x (type_met (met ++ m ∷ []) j))
              (sym (ap (type_met (met ++ m ∷ [])) (same-before j (older j lt far))
              ∙ same-type (before_met met j) (omega (arith, lower, older j lt far))))
              (subst (Next rows (type_met met (before_met met j)))
              (sym (same-type j (older j lt far)))
              (s.trail.next j some (older j lt far)))
        ];
  }

  lt : t < length marks
  lt = omega (arith, within, s.size)

  pub search_more : IsSearch rows first last (met ++ m ∷ []) (set marks t true)
  search_more =
      let long = length-set marks t true in
      let sum = sum_by-set one_if_not marks t true false lt in
      let was = ap one_if_not unmet in
      record {
        trail = trail_more;
        size = long ∙ s.size;
        own = marked_after marks t lt first s.own;
        missing = get_or-set_other marks t last true false (λ e. apart (sym e)) ∙ s.missing;
        marked =
            λ u is. elim (marked_before marks t lt u is) [
              | inl e ↦ (length met, omega (arith, more), new-type (length met) refl ∙ sym e)
              | inr was ↦ let found = s.marked u was in
                  (found.0, omega (arith, more, found.1), same-type found.0 found.1 ∙ found.2)
            ];
        left = omega (arith, more, long, sum, was, s.left);
      }

  pub later_more : IsLater met (met ++ m ∷ []) marks (set marks t true)
  later_more =
      record { longer = omega (arith, more); same = same-type; stays = marked_after marks t lt }

-- ---- the search goes on with a row

pub reaches_none : (rows : List (List ℕ)) (first last : ℕ) (row : List ℕ) (met : List Met)
    (marks : List Bool) → IsSearch rows first last met marks
    → Reaches rows first last 0 row met met marks marks
reaches_none rows first last row met marks s = record {
  search = s;
  keeps = record {
    longer = omega arith;
    same = λ i lt. refl;
    stays = λ t is. is;
  };
  all = λ k below. absurd (omega (arith, below));
}

module _ (rows : List (List ℕ)) (first last place n : ℕ) (r : List ℕ) (met later : List Met)
    (marks next : List Bool) (so : Reaches rows first last n r met later marks next) where
  all-more : (new : List Bool) → ((t : ℕ) → is_marked next t ≡ true → is_marked new t ≡ true)
      → is_marked new (get_or r n 0) ≡ true
      → (k : ℕ) → k < n + 1 → is_marked new (get_or r k 0) ≡ true
  all-more new stays own k below =
      elim (cases_eq k n) [
        | inl e ↦ subst (λ i. is_marked new (get_or r i 0) ≡ true) (sym e) own
        | inr apart ↦ stays (get_or r k 0) (so.all k (omega (arith, below, apart)))
      ]

  -- it was marked before
  pub reaches_same : get_or next (get_or r n 0) false ≡ true
      → Reaches rows first last (n + 1) r met later marks next
  reaches_same own =
      record { search = so.search; keeps = so.keeps; all = all-more next (λ t is. is) own }

  pub reaches_more : (m : Met) → place < length met → m.of ≡ get_or r n 0 → m.before ≡ place
      → get_or r n 0 < length rows → (get_or r n 0 ≡ last → ⊥)
      → get_or next (get_or r n 0) false ≡ false
      → Next rows (type_met met place) (get_or r n 0)
      → Reaches rows first last (n + 1) r met (later ++ m ∷ []) marks
      (set next (get_or r n 0) true)
  reaches_more m at of before within apart unmet follows =
      let t = get_or r n 0 in
      let there : place < length later = omega (arith, so.keeps.longer, at) in
      let goal : Next rows (type_met later place) t =
      subst (λ x. Next rows x t) (sym (so.keeps.same place at)) follows in
      let more =
      later_more rows first last later next so.search place there m t of before within apart
      unmet goal in
      let long : length met ≤ length (later ++ m ∷ []) =
      omega (arith, more.longer, so.keeps.longer) in
      record {
        search =
            search_more rows first last later next so.search place there m t of before within
            apart unmet goal;
        keeps = record {
          longer = long;
          same = λ i lt. more.same i (omega (arith, lt, so.keeps.longer)) ∙ so.keeps.same i lt;
          stays = λ u is. more.stays u (so.keeps.stays u is);
        };
        all =
            all-more (set next t true) more.stays
            (get_or-set_same next t true false (omega (arith, within, so.search.size)));
      }

-- there are no more types than rows
pub met-few : (rows : List (List ℕ)) (first last : ℕ) (met : List Met) (marks : List Bool)
    → IsSearch rows first last met marks → length met ≤ length rows
met-few rows first last met marks s = omega (arith, s.left, s.size)

-- what is read at a place
pub type-read : (met : List Met) (place : ℕ) (x : Met) → place < length met
    → x ≡ get_or met place x → x.of ≡ type_met met place
type-read met place x lt read =
    ap (λ (m : Met). m.of) (get_or_read met place x lt read nothing)

pub before-read : (met : List Met) (place : ℕ) (x : Met) → place < length met
    → x ≡ get_or met place x → x.before ≡ before_met met place
before-read met place x lt read =
    ap (λ (m : Met). m.before) (get_or_read met place x lt read nothing)

-- what is written back of marks that keep their number
pub marks-back : (n : ℕ) (new old : List Bool) → n ≡ length old → length new ≡ length old
    → take n (new ++ drop (length new) old) ≡ new
marks-back n new old size same =
    ap (λ rest. take n (new ++ rest)) (drop_all (length new) old (omega (arith, same)))
    ∙ ap (take n) (append-nil new) ∙ take_all n new (omega (arith, size, same))
