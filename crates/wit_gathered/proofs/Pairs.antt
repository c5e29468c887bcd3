-- The pairs of a request are known after it, and each of these is kept.
use Rattle.std.proofs.Common.{◌≡◌, true, false, ◌||◌, List, [], ◌∷◌, ◌++◌}
use Rattle.std.proofs.Common.{refl, sym, ap, ◌∙◌, subst, inl, inr, ⊎_elim, ◌⊎◌}
use Rattle.std.proofs.lemmas.Bool.{and_from, and_parts, cond_both, eq-eqb, eqb-true, or_cases, or_left}
use Rattle.std.proofs.lemmas.Bool.{or_right}
use Rattle.std.proofs.lemmas.List.Folds.{list_any-append}
use Rattle.wit_gathered.specs.declared.requests.Kept.{Kept}
use Rattle.wit_gathered.specs.declared.requests.Kept.TheVariants.{Twice}
use Rattle.wit_gathered.specs.declared.requests.Step.{Step}
use Rattle.wit_gathered.specs.declared.types.Type.{«Type»}
use Rattle.wit_gathered.specs.declared.types.Type.TheVariants as kind
use Rattle.wit_gathered.specs.Laws.{IsAmong, IsKept}
use Rattle.wit_gathered.specs.Requests.{Requested, after_asking, after_twice, are_known, asking, has_pair}
use Rattle.wit_gathered.specs.Requests.{is_pair, same_step, same_type, with_asking, with_pair, with_pairs}
use Rattle.std.specs.List.{list_any}

-- ---- types and pairs of them

pub same_type-refl : (a : «Type») → same_type a a ≡ true
same_type-refl kind.Hardirq = refl
same_type-refl kind.Softirq = refl
same_type-refl (kind.Of n) = eq-eqb n n refl
same_type-refl (kind.ReadersOf n) = eq-eqb n n refl

pub same_type-true : (a b : «Type») → same_type a b ≡ true → a ≡ b
same_type-true kind.Hardirq kind.Hardirq is = refl
same_type-true kind.Softirq kind.Softirq is = refl
same_type-true (kind.Of n) (kind.Of m) is = ap kind.Of (eqb-true n m is)
same_type-true (kind.ReadersOf n) (kind.ReadersOf m) is = ap kind.ReadersOf (eqb-true n m is)
same_type-true kind.Hardirq kind.Softirq is = (cc)
same_type-true kind.Hardirq (kind.Of m) is = (cc)
same_type-true kind.Hardirq (kind.ReadersOf m) is = (cc)
same_type-true kind.Softirq kind.Hardirq is = (cc)
same_type-true kind.Softirq (kind.Of m) is = (cc)
same_type-true kind.Softirq (kind.ReadersOf m) is = (cc)
same_type-true (kind.Of n) kind.Hardirq is = (cc)
same_type-true (kind.Of n) kind.Softirq is = (cc)
same_type-true (kind.Of n) (kind.ReadersOf m) is = (cc)
same_type-true (kind.ReadersOf n) kind.Hardirq is = (cc)
same_type-true (kind.ReadersOf n) kind.Softirq is = (cc)
same_type-true (kind.ReadersOf n) (kind.Of m) is = (cc)

is_pair-refl : (a b : «Type») → is_pair a b (a, b) ≡ true
is_pair-refl a b =
    and_from (same_type a a) (same_type b b) (same_type-refl a) (same_type-refl b)

-- ---- a pair that is added

module _ (pairs : List («Type» × «Type»)) (c d : «Type») where
  still : (a b : «Type») → has_pair pairs a b ≡ true → has_pair (with_pair pairs c d) a b ≡ true
  still a b has =
      cond_both (has_pair pairs c d) pairs (pairs ++ (c, d) ∷ []) (λ l. has_pair l a b ≡ true)
      (λ is. has)
      (λ is. list_any-append (is_pair a b) pairs ((c, d) ∷ [])
      ∙ or_left (has_pair pairs a b) (is_pair a b (c, d) || false) has)

  added : has_pair (with_pair pairs c d) c d ≡ true
  added =
      cond_both (has_pair pairs c d) pairs (pairs ++ (c, d) ∷ []) (λ l. has_pair l c d ≡ true)
      (λ is. is)
      (λ is. list_any-append (is_pair c d) pairs ((c, d) ∷ [])
      ∙ or_right (has_pair pairs c d) (is_pair c d (c, d) || false)
      (or_left (is_pair c d (c, d)) false (is_pair-refl c d)))

  -- one that is known then was known before, or is the added one
  before : (a b : «Type») → has_pair (with_pair pairs c d) a b ≡ true
      → (has_pair pairs a b ≡ true) ⊎ ((c ≡ a) × (d ≡ b))
  before a b =
      cond_both (has_pair pairs c d) pairs (pairs ++ (c, d) ∷ [])
      (λ l. has_pair l a b ≡ true → (has_pair pairs a b ≡ true) ⊎ ((c ≡ a) × (d ≡ b)))
      (λ is has. inl has)
      (λ is has. ⊎_elim (λ old. inl old) (λ new. inr (here new))
      (or_cases (has_pair pairs a b) (is_pair a b (c, d) || false)
      (sym (list_any-append (is_pair a b) pairs ((c, d) ∷ [])) ∙ has)))
    where
      parts : is_pair a b (c, d) ≡ true → (c ≡ a) × (d ≡ b)
      parts is =
          let both = and_parts (same_type a c) (same_type b d) is in
          (sym (same_type-true a c both.0), sym (same_type-true b d both.1))

      here : (is_pair a b (c, d) || false) ≡ true → (c ≡ a) × (d ≡ b)
      here is = ⊎_elim (λ yes. parts yes) (λ no. (cc)) (or_cases (is_pair a b (c, d)) false is)

-- ---- the pairs of a request

all-still : (steps : List Step) (pairs : List («Type» × «Type»)) (d a b : «Type»)
    → has_pair pairs a b ≡ true → has_pair (with_pairs pairs d steps) a b ≡ true
all-still [] pairs d a b has = has
all-still (s ∷ steps) pairs d a b has =
    all-still steps (with_pair pairs s.of d) d a b (still pairs s.of d a b has)

all-added : (steps : List Step) (pairs : List («Type» × «Type»)) (d : «Type») (step : Step)
    → IsAmong step steps → has_pair (with_pairs pairs d steps) step.of d ≡ true
all-added [] pairs d step among = absurd among
all-added (s ∷ steps) pairs d step among =
    ⊎_elim (λ is. all-still steps (with_pair pairs s.of d) d step.of d (here is))
    (λ later. all-added steps (with_pair pairs s.of d) d step later) among
  where
    here : step ≡ s → has_pair (with_pair pairs s.of d) step.of d ≡ true
    here is =
        subst (λ (k : Step). has_pair (with_pair pairs k.of d) step.of d ≡ true) is
        (added pairs step.of d)

-- a step of the request, and its type
abbrev IsStep : List Step → «Type» → Type 0
IsStep steps a = (step : Step) × (IsAmong step steps × (step.of ≡ a))

all-before : (steps : List Step) (pairs : List («Type» × «Type»)) (d a b : «Type»)
    → has_pair (with_pairs pairs d steps) a b ≡ true
    → (has_pair pairs a b ≡ true) ⊎ (IsStep steps a × (d ≡ b))
all-before [] pairs d a b has = inl has
all-before (s ∷ steps) pairs d a b has =
    ⊎_elim (λ was. first (before pairs s.of d a b was))
    (λ new. inr ((new.0.0, (inr new.0.1.0, new.0.1.1)), new.1))
    (all-before steps (with_pair pairs s.of d) d a b has)
  where
    first : (has_pair pairs a b ≡ true) ⊎ ((s.of ≡ a) × (d ≡ b))
        → (has_pair pairs a b ≡ true) ⊎ (IsStep (s ∷ steps) a × (d ≡ b))
    first was = ⊎_elim (λ old. inl old) (λ new. inr ((s, (inl refl, new.0)), new.1)) was

known-has : (steps : List Step) (pairs : List («Type» × «Type»)) (d : «Type») (step : Step)
    → are_known pairs d steps ≡ true → IsAmong step steps → has_pair pairs step.of d ≡ true
known-has [] pairs d step known among = absurd among
known-has (s ∷ steps) pairs d step known among =
    let parts = and_parts (has_pair pairs s.of d) (are_known pairs d steps) known in
    ⊎_elim (λ is. subst (λ (k : Step). has_pair pairs k.of d ≡ true) (sym is) parts.0)
    (λ later. known-has steps pairs d step parts.1 later) among

pub asked-known : (r : Requested) (steps : List Step) (wanted step : Step) → IsAmong step steps
    → has_pair (after_asking r steps wanted).pairs step.of wanted.of ≡ true
asked-known r steps wanted step among =
    cond_both (are_known r.pairs wanted.of steps) r
    (with_asking (record r { pairs = with_pairs r.pairs wanted.of steps }) steps wanted)
    (λ (s : Requested). has_pair s.pairs step.of wanted.of ≡ true)
    (λ known. known-has steps r.pairs wanted.of step known among)
    (λ new. all-added steps r.pairs wanted.of step among)

-- ---- what stays so, whatever is asked for and released

abbrev pub Knows : «Type» → «Type» → Requested → Type 0
Knows a b r = has_pair r.pairs a b ≡ true

pub asking-knows : (a b : «Type») (r : Requested) (steps : List Step) (wanted : Step) → Knows a b r
    → Knows a b (after_asking r steps wanted)
asking-knows a b r steps wanted has =
    cond_both (are_known r.pairs wanted.of steps) r
    (with_asking (record r { pairs = with_pairs r.pairs wanted.of steps }) steps wanted)
    (λ (s : Requested). has_pair s.pairs a b ≡ true)
    (λ known. has)
    (λ new. all-still steps r.pairs wanted.of a b has)

pub twice-knows : (a b : «Type») (r : Requested) (s : Step) → Knows a b r → Knows a b (after_twice r s)
twice-knows a b r s has =
    cond_both (list_any (same_step s) r.twice) r
    (record r { twice = r.twice ++ s ∷ []; kept = r.kept ++ Twice s ∷ [] })
    (λ (q : Requested). has_pair q.pairs a b ≡ true)
    (λ known. has)
    (λ new. has)

-- ---- each pair that is known is kept

abbrev pub AreKept : Requested → Type 0
AreKept r = (a b : «Type») → has_pair r.pairs a b ≡ true → IsKept r.kept a b

among-last : {X : Type 0} (xs : List X) (x : X) → IsAmong x (xs ++ x ∷ [])
among-last [] x = inl refl
among-last (y ∷ xs) x = inr (among-last xs x)

among-longer : {X : Type 0} (xs ys : List X) (x : X) → IsAmong x xs → IsAmong x (xs ++ ys)
among-longer [] ys x among = absurd among
among-longer (y ∷ xs) ys x among =
    ⊎_elim (λ is. inl is) (λ later. inr (among-longer xs ys x later)) among

longer : (kept more : List Kept) (a b : «Type») → IsKept kept a b → IsKept (kept ++ more) a b
longer kept more a b is = record {
  steps = is.steps;
  wanted = is.wanted;
  step = is.step;
  among = among-longer kept more (asking is.steps is.wanted) is.among;
  under = is.under;
  holds = is.holds;
  asks = is.asks;
}

pub asking-kept : (r : Requested) (steps : List Step) (wanted : Step) → AreKept r
    → AreKept (after_asking r steps wanted)
asking-kept r steps wanted kept =
    cond_both (are_known r.pairs wanted.of steps) r
    (with_asking (record r { pairs = with_pairs r.pairs wanted.of steps }) steps wanted) AreKept
    (λ known. kept) (λ new. λ a b has. parts a b (all-before steps r.pairs wanted.of a b has))
  where
    last : (a b : «Type») → IsStep steps a × (wanted.of ≡ b)
        → IsKept (r.kept ++ asking steps wanted ∷ []) a b
    last a b new = record {
      steps = steps;
      wanted = wanted;
      step = new.0.0;
      among = among-last r.kept (asking steps wanted);
      under = new.0.1.0;
      holds = new.0.1.1;
      asks = new.1;
    }

    parts : (a b : «Type») → (has_pair r.pairs a b ≡ true) ⊎ (IsStep steps a × (wanted.of ≡ b))
        → IsKept (r.kept ++ asking steps wanted ∷ []) a b
    parts a b was =
        ⊎_elim (λ old. longer r.kept (asking steps wanted ∷ []) a b (kept a b old))
        (λ new. last a b new) was

pub twice-kept : (r : Requested) (s : Step) → AreKept r → AreKept (after_twice r s)
twice-kept r s kept =
    cond_both (list_any (same_step s) r.twice) r
    (record r { twice = r.twice ++ s ∷ []; kept = r.kept ++ Twice s ∷ [] }) AreKept
    (λ known. kept)
    (λ new. λ a b has. longer r.kept (Twice s ∷ []) a b (kept a b has))
