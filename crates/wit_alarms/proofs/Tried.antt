-- What was tried of a search: none of these facts goes on to a circle that closes.
use Rattle.std.proofs.Common.{◌≡◌, ℕ, ◌+◌, ◌-◌, ◌<◌, true, false, eqb, List, [], ◌∷◌}
use Rattle.std.proofs.Common.{◌++◌, length, slice_index_or, refl, ap, sym, ◌∙◌, subst, arith}
use Rattle.std.proofs.Common.{append_assoc, suc, ⊎_elim}
use Rattle.std.specs.List.{list_any}
use Rattle.std.proofs.lemmas.Bool.{or_cases, or_left, or_right, eqb-true, eq-eqb, true≢false}
use Rattle.std.proofs.lemmas.Bool.{false≢true, cases_lt}
use Rattle.wit_alarms.specs.declared.facts.Fact.{Fact}
use Rattle.wit_alarms.specs.declared.facts.Lives.{Lives}
use Rattle.wit_alarms.specs.declared.facts.Reasons.{Reasons}
use Rattle.wit_alarms.specs.Facts.{closes}
use Rattle.wit_alarms.specs.Searching.{each_once, is_open, NoneGoesOn, HasAll}
use Rattle.wit_alarms.proofs.Paths.{closed-open}

index-of : (i : ℕ) (xs : List ℕ) → list_any (λ j. eqb i j) xs ≡ true
    → (k : ℕ) × (k < length xs) × (slice_index_or xs k 0 ≡ i)
index-of i [] is = absurd (false≢true is)
index-of i (x ∷ xs) is =
    ⊎_elim
    (λ now. (0, omega arith, sym (eqb-true i x now)))
    (λ later. let k = index-of i xs later in (suc k.0, (let low = k.1 in omega arith), k.2))
    (or_cases (eqb i x) (list_any (λ j. eqb i j) xs) is)

one-further : (path : List ℕ) (i : ℕ) (rest : List ℕ)
    → (path ++ i ∷ []) ++ rest ≡ path ++ i ∷ rest
one-further path i rest = append_assoc path (i ∷ []) rest

member-there : (path : List ℕ) (i : ℕ) (rest : List ℕ)
    → list_any (λ j. eqb i j) (path ++ i ∷ rest) ≡ true
member-there [] i rest = or_left (eqb i i) (list_any (λ j. eqb i j) rest) (eq-eqb i i refl)
member-there (x ∷ path) i rest =
    or_right (eqb i x) (list_any (λ j. eqb i j) (path ++ i ∷ rest)) (member-there path i rest)

module _ (why : Reasons) (lives : Lives) (facts : List Fact) where
  -- no circle that closes goes on from this path by this fact, with fewer further ones
  abbrev pub NoneBy : List ℕ → ℕ → ℕ → Type 0
  NoneBy path most i =
      (rest : List ℕ) → length rest < most → each_once (path ++ i ∷ rest) ≡ true
      → closes why lives facts (path ++ i ∷ rest) ≡ true → ⊥

  pub record Tried (live old now : List ℕ) (index most : ℕ) : Type 0 where
    pub same : now ≡ old
    pub none : (k : ℕ) → k < index → NoneBy old most (slice_index_or live k 0)

  pub start_trying : (live path : List ℕ) (most : ℕ) → Tried live path path 0 most
  start_trying live path most = record { same = refl; none = λ k low. absurd (omega arith) }

  pub none_opens : (path : List ℕ) (i most : ℕ)
      → is_open why lives facts (path ++ i ∷ []) ≡ false → NoneBy path most i
  none_opens path i most shut rest short once is =
      true≢false (sym (closed-open why lives facts (path ++ i ∷ []) rest
      (ap each_once (one-further path i rest) ∙ once)
      (ap (closes why lives facts) (one-further path i rest) ∙ is)) ∙ shut)

  pub none_further : (path : List ℕ) (i most : ℕ)
      → closes why lives facts (path ++ i ∷ []) ≡ false
      → NoneGoesOn why lives facts (path ++ i ∷ []) (most - 1) → NoneBy path most i
  none_further path i most now further [] short once is = true≢false (sym is ∙ now)
  none_further path i most now further (j ∷ rest) short once is =
      further (j ∷ rest) (omega arith) (omega (arith, short))
      (ap each_once (one-further path i (j ∷ rest)) ∙ once)
      (ap (closes why lives facts) (one-further path i (j ∷ rest)) ∙ is)

  pub try_more : (live old now next : List ℕ) (index most i : ℕ) → Tried live old now index most
      → next ≡ old → slice_index_or live index 0 ≡ i → NoneBy old most i
      → Tried live old next (index + 1) most
  try_more live old now next index most i so_far kept is one = record {
    same = kept;
    none = λ k below.
        ⊎_elim (λ earlier. so_far.none k earlier)
        (λ here.
        let same : index ≡ k = omega (arith, here, below) in
        subst (λ x. NoneBy old most x) (sym is ∙ ap (λ n. slice_index_or live n 0) same) one)
        (cases_lt k index);
  }

  pub all_tried : (live old now : List ℕ) (most : ℕ) → Tried live old now (length live) most
      → HasAll why lives facts live → NoneGoesOn why lives facts old most
  all_tried live old now most tried has [] long short once is = omega arith
  all_tried live old now most tried has (i ∷ rest) long short once is =
      let k = index-of i live (has (old ++ i ∷ rest) i is (member-there old i rest)) in
      tried.none k.0 k.1 rest (omega (arith, short))
      (subst (λ x. each_once (old ++ x ∷ rest) ≡ true) (sym k.2) once)
      (subst (λ x. closes why lives facts (old ++ x ∷ rest) ≡ true) (sym k.2) is)
