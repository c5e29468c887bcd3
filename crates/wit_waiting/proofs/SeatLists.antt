-- Seats by their lists and requests, of which one is written.
use Rattle.std.proofs.Common.{◌≡◌, ℕ, zero, suc, ◌+◌, ◌-◌, ◌*◌, ◌<◌, Bool, true, false, List, []}
use Rattle.std.proofs.Common.{◌∷◌, Option, None, length, map, set, get_or, drop, sum_by, replicate}
use Rattle.std.proofs.Common.{refl, sym, ap, ap₂, ◌∙◌, arith}
use Rattle.std.specs.List.{range_with_len}
use Rattle.std.proofs.lemmas.List.{length-set, length-drop, get_or-set_same, get_or-set_other}
use Rattle.std.proofs.lemmas.List.{nil_from_length}
use Rattle.std.proofs.lemmas.List.FromFn.{length-map-range_with_len, get_or-map-range_with_len}
use Rattle.std.proofs.lemmas.List.Sums.{sum_by-cons, sum_by-drop_more}
use Rattle.wit_model.specs.declared.locks.Instance.{Instance}
use Rattle.wit_model.specs.declared.calls.Request.{Request}
use Rattle.wit_model.specs.Rules.Chunks.{Chunks, IsList, IsPlaced, groups_of, set_groups, list_of}
use Rattle.wit_model.specs.Rules.Numbers.{IsGiven}
use Rattle.wit_waiting.specs.Seats.{Holdings, no_holdings, groups_held, chunks_held, asking, in_groups}
use Rattle.wit_waiting.specs.Seated.{seat_by, seats_by}

-- lists that differ at one place
map-but : {X : Type 0} (f g : ℕ → X) (j : ℕ) → ((t : ℕ) → 0 < t → (j ≡ t → ⊥) → f t ≡ g t)
    → (a n : ℕ) → j < a → map f (range_with_len a n) ≡ map g (range_with_len a n)
map-but f g j same a zero lt = refl
map-but f g j same a (suc n) lt =
    ap₂ (λ x xs. x ∷ xs) (same a (omega (arith, lt))
    (λ (e : j ≡ a). let no : ⊥ = omega (arith, e, lt) in no))
    (map-but f g j same (a + 1) n (omega (arith, lt)))

map-one : {X : Type 0} (f g : ℕ → X) (j : ℕ) → ((t : ℕ) → 0 < t → (j ≡ t → ⊥) → f t ≡ g t)
    → (a n i : ℕ) → 0 < a → a + i ≡ j → i < n
    → map f (range_with_len a n) ≡ set (map g (range_with_len a n)) i (f j)
map-one f g j same a zero i some at lt = absurd (omega (arith, lt))
map-one f g j same a (suc n) zero some at lt =
    let here : a ≡ j =
    omega (arith, at) in ap₂ (λ x xs. x ∷ xs) (ap f here)
    (map-but f g j same (a + 1) n (omega (arith, at)))
map-one f g j same a (suc n) (suc i) some at lt =
    ap₂ (λ x xs. x ∷ xs) (same a some (λ (e : j ≡ a). let no : ⊥ = omega (arith, e, at) in no))
    (map-one f g j same (a + 1) n i (omega (arith, some)) (omega (arith, at)) (omega (arith, lt)))

pub map-alike : {X : Type 0} (f : ℕ → X) (x : X) → ((t : ℕ) → f t ≡ x) → (a n : ℕ)
    → map f (range_with_len a n) ≡ replicate n x
map-alike f x alike a zero = refl
map-alike f x alike a (suc n) = ap₂ (λ y ys. y ∷ ys) (alike a) (map-alike f x alike (a + 1) n)

pub get_or-nils : {X : Type 0} (n i : ℕ) (x : X) → get_or (replicate n x) i x ≡ x
get_or-nils zero i x = refl
get_or-nils (suc n) zero x = refl
get_or-nils (suc n) (suc i) x = get_or-nils n i x

-- two seats have four lists
lists-apart : (t u : ℕ) (a b : Bool) → 0 < t → 0 < u → (t ≡ u → ⊥)
    → list_of a u - 1 ≡ list_of b t - 1 → ⊥
lists-apart t u true true some some' other e = other (omega (arith, e, some, some'))
lists-apart t u true false some some' other e = other (omega (arith, e, some, some'))
lists-apart t u false true some some' other e = other (omega (arith, e, some, some'))
lists-apart t u false false some some' other e = other (omega (arith, e, some, some'))

kinds-apart : (t : ℕ) → 0 < t → list_of true t - 1 ≡ list_of false t - 1 → ⊥
kinds-apart t some e = omega (arith, e, some)

abbrev pub seat_with : List (List Instance) → List (List Instance) → Option Request → Holdings
seat_with sleep spin p = record { sleep = sleep; spin = spin; pending = p }

module _ (c : Chunks) (ps : List (Option Request)) where
  pub seats-count : length (seats_by c ps) ≡ length ps
  seats-count = length-map-range_with_len (seat_by c ps) 1 (length ps)

  pub given-by : (t : ℕ) → IsGiven (seats_by c ps) t → IsGiven ps t
  given-by t given = (given.0, omega (arith, given.1, seats-count))

  pub seat-is : (t : ℕ) → IsGiven (seats_by c ps) t → (d : Holdings)
      → get_or (seats_by c ps) (t - 1) d ≡ seat_by c ps t
  seat-is t given d =
      let g = given-by t given in
      get_or-map-range_with_len (seat_by c ps) 1 (length ps) (t - 1) t d (omega (arith, g.0, g.1))
      (omega (arith, g.0))

  pub groups-is : (spin : Bool) (t : ℕ) → groups_held spin (seat_by c ps t)
      ≡ groups_of c (list_of spin t)
  groups-is true t = refl
  groups-is false t = refl

  -- other seats than this one are the same
  seats-one : (c' : Chunks) (ps' : List (Option Request)) (t : ℕ) → IsGiven ps t
      → length ps' ≡ length ps
      → ((u : ℕ) → 0 < u → (t ≡ u → ⊥) → seat_by c' ps' u ≡ seat_by c ps u)
      → seats_by c' ps' ≡ set (seats_by c ps) (t - 1) (seat_by c' ps' t)
  seats-one c' ps' t given len same =
      ap (λ n. map (seat_by c' ps') (range_with_len 1 n)) len
      ∙ map-one (seat_by c' ps') (seat_by c ps) t same 1 (length ps) (t - 1) (omega arith)
      (omega (arith, given.0)) (omega (arith, given.0, given.1))

  -- a request is written
  pub request-set : (t : ℕ) (p : Option Request) → IsGiven (seats_by c ps) t
      → seats_by c (set ps (t - 1) p)
      ≡ set (seats_by c ps) (t - 1) (asking p (get_or (seats_by c ps) (t - 1) no_holdings))
  request-set t p given =
      let g = given-by t given in
      seats-one c (set ps (t - 1) p) t g (length-set ps (t - 1) p)
      (λ u some other. ap (seat_with (groups_of c (list_of false u)) (groups_of c (list_of true u)))
      (get_or-set_other ps (t - 1) (u - 1) p None
      (λ (e : u - 1 ≡ t - 1). other (omega (arith, e, some, g.0)))))
      ∙ ap (set (seats_by c ps) (t - 1))
      (ap (seat_with (groups_of c (list_of false t)) (groups_of c (list_of true t)))
      (get_or-set_same ps (t - 1) p None (omega (arith, g.0, g.1)))
      ∙ ap (asking p) (sym (seat-is t given no_holdings)))

  module _ (pair : length c.groups ≡ 2 * length ps) where
    pub list-given : (t : ℕ) (spin : Bool) → IsGiven (seats_by c ps) t → IsList c (list_of spin t)
    list-given t true given = let g =
        given-by t given in (omega (arith, g.0), omega (arith, g.1, pair))
    list-given t false given = let g =
        given-by t given in (omega (arith, g.0), omega (arith, g.1, pair))

    -- a list is written
    module _ (t : ℕ) (given : IsGiven (seats_by c ps) t) (c' : Chunks)
        (gs : List (List Instance)) where
      written-other : (spin : Bool) (u : ℕ) (kind : Bool)
          → (list_of kind u - 1 ≡ list_of spin t - 1 → ⊥)
          → c'.groups ≡ set_groups c (list_of spin t) gs
          → groups_of c' (list_of kind u) ≡ groups_of c (list_of kind u)
      written-other spin u kind apart is =
          ap (λ gss. get_or gss (list_of kind u - 1) []) is
          ∙ get_or-set_other c.groups (list_of spin t - 1) (list_of kind u - 1) gs [] apart

      written-here : (spin : Bool) → c'.groups ≡ set_groups c (list_of spin t) gs
          → groups_of c' (list_of spin t) ≡ gs
      written-here spin is =
          let l = list-given t spin given in
          ap (λ gss. get_or gss (list_of spin t - 1) []) is
          ∙ get_or-set_same c.groups (list_of spin t - 1) gs [] (omega (arith, l.0, l.1))

      seat-written : (spin : Bool) → c'.groups ≡ set_groups c (list_of spin t) gs
          → seat_by c' ps t ≡ in_groups spin (λ old. gs) (seat_by c ps t)
      seat-written true is =
          ap₂ (λ a b. seat_with a b (get_or ps (t - 1) None))
          (written-other true t false (λ e. kinds-apart t given.0 (sym e)) is)
          (written-here true is)
      seat-written false is =
          ap₂ (λ a b. seat_with a b (get_or ps (t - 1) None)) (written-here false is)
          (written-other false t true (kinds-apart t given.0) is)

      pub list-set : (spin : Bool) → c'.groups ≡ set_groups c (list_of spin t) gs
          → seats_by c' ps ≡ set (seats_by c ps) (t - 1)
          (in_groups spin (λ old. gs) (seat_by c ps t))
      list-set spin is =
          seats-one c' ps t (given-by t given) refl
          (λ u some other. ap₂ (λ a b. seat_with a b (get_or ps (u - 1) None))
          (written-other spin u false (lists-apart t u false spin given.0 some other) is)
          (written-other spin u true (lists-apart t u true spin given.0 some other) is))
          ∙ ap (set (seats_by c ps) (t - 1)) (seat-written spin is)

    -- the groups of all lists are those of all seats
    halves : (k n : ℕ) → length c.groups ≡ 2 * (k + n)
        → sum_by length (drop (2 * k) c.groups)
        ≡ sum_by chunks_held (map (seat_by c ps) (range_with_len (k + 1) n))
    halves k zero len =
        ap (sum_by length) (nil_from_length (drop (2 * k) c.groups)
        (omega (arith, length-drop (2 * k) c.groups, len)))
    halves k (suc n) len =
        let one = sum_by-drop_more length c.groups (2 * k) [] (omega (arith, len)) in
        let two = sum_by-drop_more length c.groups (2 * k + 1) [] (omega (arith, len)) in
        let rest = halves (k + 1) n (omega (arith, len)) in
        let next : 2 * k + 1 + 1 ≡ 2 * (k + 1) = omega arith in
        let left = ap (λ m. sum_by length (drop m c.groups)) next in
        let here =
        sum_by-cons chunks_held (seat_by c ps (k + 1))
        (map (seat_by c ps) (range_with_len (k + 1 + 1) n)) in
        let low : list_of false (k + 1) - 1 ≡ 2 * k = omega arith in
        let high : list_of true (k + 1) - 1 ≡ 2 * k + 1 = omega arith in
        let low_is = ap (λ m. length (get_or c.groups m [])) low in
        let high_is = ap (λ m. length (get_or c.groups m [])) high in
        omega (arith, one, two, rest, left, here, low_is, high_is)

    pub free-by : IsPlaced c → length c.unused ≡ c.size - sum_by chunks_held (seats_by c ps)
    free-by placed =
        let sum = halves 0 (length ps) (omega (arith, pair)) in
        let all = placed.all in
        omega (arith, sum, all)
