-- Lists and chunks that hold nothing yet.
use Rattle.std.proofs.Common.{◌≡◌, ℕ, zero, suc, ◌+◌, ◌<◌, ◌≤◌, cond, eqb, nat_lt, List, [], ◌∷◌}
use Rattle.std.proofs.Common.{◌++◌, length, map, replicate, refl, ap, ap₂, sym, ◌∙◌, ◌⊎◌, inl, inr}
use Rattle.std.proofs.Common.{arith}
use Rattle.std.specs.List.{concat, range_with_len}
use Rattle.std.proofs.lemmas.Bool.{cond-true, cond-false, lt-ltb, le-ltb, eq-eqb, ne_eqb}
use Rattle.std.proofs.lemmas.Bool.{cases_order}
use Rattle.std.proofs.lemmas.List.{map-id, length-replicate}
use Rattle.std.proofs.lemmas.List.Elements.{All-replicate, All-map}
use Rattle.std.proofs.lemmas.List.FromFn.{length-range_with_len, map-range_with_len_more}
use Rattle.wit_model.specs.declared.locks.Instance.{Instance}
use Rattle.wit_model.specs.declared.sizes.TheConstants.Limits.{MOST_CHUNKS}
use Rattle.wit_model.specs.Rules.Groups.{flat, AreTidy}
use Rattle.wit_model.specs.Rules.Chunks.{times, IsNew}
use Rattle.wit_model.specs.Rules.Rows.{row, groups_at, shown_chunks, AreSettled}
use Rattle.wit_model.proofs.Rows.Placing.{times-append}
use Rattle.wit_model.proofs.Rows.Shown.{placed-shown}

-- the numbers below one that is greater by one
pub range-more : (n : ℕ) → range_with_len 0 (n + 1) ≡ range_with_len 0 n ++ n ∷ []
range-more n =
    sym (map-id (range_with_len 0 (n + 1))) ∙ map-range_with_len_more (λ (k : ℕ). k) 0 n n
    (omega arith) ∙ ap (λ ks. ks ++ n ∷ []) (map-id (range_with_len 0 n))

-- each number below stands once
times-range : (p n : ℕ) → times p (range_with_len 0 n) ≡ cond (nat_lt p n) 1 0
times-range p zero = sym (cond-false {A = ℕ} (nat_lt p 0) 1 0 (le-ltb p 0 (omega arith)))
times-range p (suc n) =
    let next : suc n ≡ n + 1 = omega arith in
    ap (λ m. times p (range_with_len 0 m)) next ∙ ap (times p) (range-more n)
    ∙ times-append p (range_with_len 0 n) (n ∷ []) ∙ by (cases_order p n) (times-range p n)
  where
    by : (p ≡ n) ⊎ ((p < n) ⊎ (n < p)) → times p (range_with_len 0 n) ≡ cond (nat_lt p n) 1 0
        → times p (range_with_len 0 n) + cond (eqb n p) 1 0 ≡ cond (nat_lt p (suc n)) 1 0
    by (inl e) ih =
        omega (
          arith,
          ih,
          cond-false {A = ℕ} (nat_lt p n) 1 0 (le-ltb p n (omega (arith, e))),
          cond-true {A = ℕ} (eqb n p) 1 0 (eq-eqb n p (sym e)),
          cond-true {A = ℕ} (nat_lt p (suc n)) 1 0 (lt-ltb p (suc n) (omega (arith, e))),
        )
    by (inr (inl lt)) ih =
        omega (
          arith,
          ih,
          cond-true {A = ℕ} (nat_lt p n) 1 0 (lt-ltb p n lt),
          cond-false {A = ℕ} (eqb n p) 1 0 (ne_eqb n p (λ e. absurd (omega (arith, e, lt)))),
          cond-true {A = ℕ} (nat_lt p (suc n)) 1 0 (lt-ltb p (suc n) (omega (arith, lt))),
        )
    by (inr (inr gt)) ih =
        omega (
          arith,
          ih,
          cond-false {A = ℕ} (nat_lt p n) 1 0 (le-ltb p n (omega (arith, gt))),
          cond-false {A = ℕ} (eqb n p) 1 0 (ne_eqb n p (λ e. absurd (omega (arith, e, gt)))),
          cond-false {A = ℕ} (nat_lt p (suc n)) 1 0 (le-ltb p (suc n) (omega (arith, gt))),
        )

concat-empty : (lists : ℕ) → concat (replicate lists []) ≡ []
concat-empty zero = refl
concat-empty (suc n) = concat-empty n

row-empty : (size p : ℕ) → row (replicate size []) p ≡ []
row-empty zero p = refl
row-empty (suc n) zero = refl
row-empty (suc n) (suc p) = row-empty n p

flat-empty : (size : ℕ) (ps : List ℕ) → flat (groups_at (replicate size []) ps) ≡ []
flat-empty size [] = refl
flat-empty size (p ∷ ps) = ap₂ (λ xs ys. xs ++ ys) (row-empty size p) (flat-empty size ps)

groups-empty : (rows : List (List Instance)) (lists : ℕ)
    → map (groups_at rows) (replicate lists []) ≡ replicate lists []
groups-empty rows zero = refl
groups-empty rows (suc n) = ap (λ gs. [] ∷ gs) (groups-empty rows n)

-- nothing is held, and each chunk is free
pub fresh-settled : (size lists : ℕ) → size ≤ MOST_CHUNKS
    → AreSettled (replicate size []) (replicate lists []) (range_with_len 0 size)
fresh-settled size lists few =
    let len : length (replicate size []) ≡ size = length-replicate {A = List Instance} size [] in
    let none : concat (replicate lists []) ≡ [] = concat-empty lists in
    record {
      placed = record {
        once =
            λ p. ap (λ qs. times p (qs ++ range_with_len 0 size)) none ∙ times-range p size
            ∙ ap (λ n. cond (nat_lt p n) 1 0) (sym len);
        all = omega (arith, len, ap length none, length-range_with_len 0 size);
      };
      few = omega (arith, len, few);
      short = All-replicate (λ (g : List Instance). length g ≤ 5) size [] (omega arith);
      empty = flat-empty size (range_with_len 0 size);
      tidy =
          All-map AreTidy (groups_at (replicate size [])) (replicate lists [])
          (All-replicate (λ ps. AreTidy (groups_at (replicate size []) ps)) lists [] tt);
    }

-- and so callers see it
pub fresh-shown : (size lists : ℕ) (rows : List (List Instance)) (places : List (List ℕ))
    (unused : List ℕ) → size ≤ MOST_CHUNKS
    → rows ≡ replicate size [] → places ≡ replicate lists [] → unused ≡ range_with_len 0 size
    → AreSettled rows places unused × IsNew size lists (shown_chunks rows places unused)
fresh-shown size lists rows places unused few r p u =
    let settled : AreSettled rows places unused = rw (r, p, u) (fresh-settled size lists few) in (
      settled,
      record {
        size = ap length r ∙ length-replicate {A = List Instance} size [];
        groups = ap (map (groups_at rows)) p ∙ groups-empty rows lists;
        free = ap length u ∙ length-range_with_len 0 size;
        placed = placed-shown rows places unused settled.placed;
      },
    )
