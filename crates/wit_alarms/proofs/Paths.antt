-- Paths of facts: what a longer one owes to its beginning.
use Rattle.std.proofs.Common.{◌≡◌, ℕ, ◌-◌, Bool, true, false, ◌&&◌}
use Rattle.std.proofs.Common.{List, [], ◌∷◌, ◌++◌, length, Option, Some, slice_get, refl}
use Rattle.std.proofs.Common.{ap, ap₂, sym, ◌∙◌, arith}
use Rattle.std.specs.List.{list_any, list_all}
use Rattle.std.proofs.lemmas.Bool.{and_parts, and_from}
use Rattle.std.proofs.lemmas.List.Folds.{list_all-append}
use Rattle.wit_alarms.specs.declared.facts.Fact.{Fact}
use Rattle.wit_alarms.specs.declared.facts.Lives.{Lives}
use Rattle.wit_alarms.specs.declared.facts.Reasons.{Reasons}
use Rattle.wit_alarms.specs.Facts.{can_meet, can_wait, of_both, leads_by, leads_round, all_pairs}
use Rattle.wit_alarms.specs.Facts.{may_begin, closes}
use Rattle.wit_alarms.specs.Searching.{leads_on, leads_along, last_of, follows, differ}
use Rattle.wit_alarms.specs.Searching.{each_once, is_open}

-- ---- chains

pub and_regroup : (a b c : Bool) → (a && (b && c)) ≡ ((a && b) && c)
and_regroup true b c = refl
and_regroup false b c = refl

module _ (leads : ℕ → ℕ → Bool) where
  pub by-last : (i : ℕ) (is : List ℕ) (j : ℕ)
      → leads_by leads i is j ≡ (leads_on leads i is && leads (last_of i is) j)
  by-last i [] j = refl
  by-last i (k ∷ ks) j =
      ap (λ b. leads i k && b) (by-last k ks j)
      ∙ and_regroup (leads i k) (leads_on leads k ks) (leads (last_of k ks) j)

  pub on-more : (i : ℕ) (is : List ℕ) (j : ℕ)
      → leads_on leads i (is ++ j ∷ []) ≡ leads_by leads i is j
  on-more i [] j = and_true (leads i j)
    where
      and_true : (b : Bool) → (b && true) ≡ b
      and_true true = refl
      and_true false = refl
  on-more i (k ∷ ks) j = ap (λ b. leads i k && b) (on-more k ks j)

  pub on-front : (i : ℕ) (is js : List ℕ) → leads_on leads i (is ++ js) ≡ true
      → leads_on leads i is ≡ true
  on-front i [] js is = refl
  on-front i (k ∷ ks) js is =
      let parts = and_parts (leads i k) (leads_on leads k (ks ++ js)) is in
      and_from (leads i k) (leads_on leads k ks) parts.0 (on-front k ks js parts.1)

  pub by-on : (i : ℕ) (is : List ℕ) (j : ℕ) → leads_by leads i is j ≡ true
      → leads_on leads i is ≡ true
  by-on i is j is_by = (and_parts (leads_on leads i is) (leads (last_of i is) j)
      (sym (by-last i is j) ∙ is_by)).0

pub last_get : (i : ℕ) (is : List ℕ) → slice_get (i ∷ is) (length is) ≡ Some (last_of i is)
last_get i [] = refl
last_get i (j ∷ js) = last_get j js

-- ---- pairs

module _ (p : ℕ → ℕ → Bool) where
  pub pairs-more : (is : List ℕ) (j : ℕ)
      → all_pairs p (is ++ j ∷ []) ≡ (all_pairs p is && list_all (λ i. p i j) is)
  pairs-more [] j = refl
  pairs-more (i ∷ is) j =
      ap₂ (λ a b. a && b) (list_all-append (p i) is (j ∷ [])) (pairs-more is j)
      ∙ shuffle (list_all (p i) is) (p i j) (all_pairs p is) (list_all (λ k. p k j) is)
    where
      shuffle : (a b c d : Bool) → ((a && (b && true)) && (c && d)) ≡ ((a && c) && (b && d))
      shuffle true true c d = refl
      shuffle true false true d = refl
      shuffle true false false d = refl
      shuffle false b c d = refl

  pub all-front : (q : ℕ → Bool) (is js : List ℕ) → list_all q (is ++ js) ≡ true
      → list_all q is ≡ true
  all-front q is js all =
      (and_parts (list_all q is) (list_all q js) (sym (list_all-append q is js) ∙ all)).0

  pub pairs-front : (is js : List ℕ) → all_pairs p (is ++ js) ≡ true → all_pairs p is ≡ true
  pairs-front [] js all = refl
  pairs-front (i ∷ is) js all =
      let parts = and_parts (list_all (p i) (is ++ js)) (all_pairs p (is ++ js)) all in
      and_from (list_all (p i) is) (all_pairs p is) (all-front (p i) is js parts.0)
      (pairs-front is js parts.1)

-- ---- open paths

module _ (why : Reasons) (lives : Lives) (facts : List Fact) where
  abbrev leads : ℕ → ℕ → Bool
  leads = of_both (can_wait why) facts

  abbrev meets : ℕ → ℕ → Bool
  meets = of_both (can_meet why lives) facts

  pub record Open (path : List ℕ) : Type 0 where
    pub along : leads_along leads path ≡ true
    pub meet : all_pairs meets path ≡ true
    pub once : each_once path ≡ true

  pub open-parts : (path : List ℕ) → is_open why lives facts path ≡ true → Open path
  open-parts path is =
      let one = and_parts (leads_along leads path) (all_pairs meets path && each_once path) is in
      let two = and_parts (all_pairs meets path) (each_once path) one.1 in
      record { along = one.0; meet = two.0; once = two.1 }

  pub open-from : (path : List ℕ) → Open path → is_open why lives facts path ≡ true
  open-from path o =
      and_from (leads_along leads path) (all_pairs meets path && each_once path) o.along
      (and_from (all_pairs meets path) (each_once path) o.meet o.once)

  pub record Closed (path : List ℕ) : Type 0 where
    pub round : leads_round leads path ≡ true
    pub meet : all_pairs meets path ≡ true
    pub begins : list_any (may_begin why facts) path ≡ true

  pub closed-parts : (path : List ℕ) → closes why lives facts path ≡ true → Closed path
  closed-parts path is =
      let one =
      and_parts (leads_round leads path)
      (all_pairs meets path && list_any (may_begin why facts) path) is in
      let two = and_parts (all_pairs meets path) (list_any (may_begin why facts) path) one.1 in
      record { round = one.0; meet = two.0; begins = two.1 }

  pub closed-from : (path : List ℕ) → Closed path → closes why lives facts path ≡ true
  closed-from path o =
      and_from (leads_round leads path)
      (all_pairs meets path && list_any (may_begin why facts) path) o.round
      (and_from (all_pairs meets path) (list_any (may_begin why facts) path) o.meet o.begins)

  round-along : (path : List ℕ) → leads_round leads path ≡ true → leads_along leads path ≡ true
  round-along [] is = refl
  round-along (i ∷ is) round = by-on leads i is i round

  along-front : (path rest : List ℕ) → leads_along leads (path ++ rest) ≡ true
      → leads_along leads path ≡ true
  along-front [] rest is = refl
  along-front (i ∷ is) rest on = on-front leads i is rest on

  -- a circle that closes begins with an open path
  pub closed-open : (path rest : List ℕ) → each_once (path ++ rest) ≡ true
      → closes why lives facts (path ++ rest) ≡ true → is_open why lives facts path ≡ true
  closed-open path rest once is =
      let parts = closed-parts (path ++ rest) is in
      open-from path (record {
        along = along-front path rest (round-along (path ++ rest) parts.round);
        meet = pairs-front meets path rest parts.meet;
        once = pairs-front differ path rest once;
      })

  -- ---- a path that goes on

  along-more : (path : List ℕ) (j : ℕ) → leads_along leads path ≡ true
      → leads_along leads (path ++ j ∷ []) ≡ follows why lives facts path j
  along-more [] j along = refl
  along-more (i ∷ is) j along =
      on-more leads i is j
      ∙ (by-last leads i is j ∙ ap (λ b. b && leads (last_of i is) j) along)

  pub open_more : (path : List ℕ) (j : ℕ) → is_open why lives facts path ≡ true
      → is_open why lives facts (path ++ j ∷ [])
      ≡ (follows why lives facts path j && (list_all (λ i. meets i j) path && list_all (λ i. differ i j) path))
  open_more path j is =
      let parts = open-parts path is in
      ap₂ (λ a b. a && b) (along-more path j parts.along)
      (ap₂ (λ a b. a && b)
      (pairs-more meets path j ∙ ap (λ b. b && list_all (λ i. meets i j) path) parts.meet)
      (pairs-more differ path j ∙ ap (λ b. b && list_all (λ i. differ i j) path) parts.once))

  -- and one that comes back
  pub open_closes : (path : List ℕ) (first : ℕ) → is_open why lives facts path ≡ true
      → Some first ≡ slice_get path 0
      → closes why lives facts path
      ≡ (follows why lives facts path first && list_any (may_begin why facts) path)
  open_closes [] first open_path is = (cc)
  open_closes (i ∷ is) first open_path first_is =
      let same : first ≡ i = cc in
      let parts = open-parts (i ∷ is) open_path in
      rw same
      (ap₂ (λ a b. a && b)
      (by-last leads i is i ∙ ap (λ b. b && leads (last_of i is) i) parts.along)
      (ap (λ b. b && list_any (may_begin why facts) (i ∷ is)) parts.meet))

  -- what the last place leads to
  pub follows_last : (path : List ℕ) (last j : ℕ) → Some last ≡ slice_get path (length path - 1)
      → follows why lives facts path j ≡ leads last j
  follows_last [] last j is = (cc)
  follows_last (i ∷ is) last j last_is =
      let short : length (i ∷ is) - 1 ≡ length is = omega arith in
      let got : ◌≡◌ {A = Option ℕ} (Some last) (Some (last_of i is)) =
      last_is ∙ (ap (λ n. slice_get (i ∷ is) n) short ∙ last_get i is) in
      let same : last ≡ last_of i is = cc in
      ap (λ k. leads k j) (sym same)
