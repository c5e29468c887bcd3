-- Where the numbers of chunks stand.
use Rattle.std.proofs.Common.{◌≡◌, ℕ, zero, suc, ◌+◌, ◌<◌, ◌≤◌, Bool, true, false, cond, eqb}
use Rattle.std.proofs.Common.{nat_lt, List, [], ◌∷◌, ◌++◌, length, set, get_or, refl, ◌∙◌, arith}
use Rattle.std.specs.List.{remove, concat}
use Rattle.std.proofs.lemmas.Bool.{eq-eqb, ltb-true, cond-true}
use Rattle.std.proofs.lemmas.List.{length-append}
use Rattle.std.proofs.lemmas.List.Edits.{length-remove}
use Rattle.wit_model.specs.Rules.Chunks.{times}
use Rattle.wit_model.specs.Rules.Rows.{ArePlaced, AreWithin, places_at}

pub times-append : (p : ℕ) (xs ys : List ℕ) → times p (xs ++ ys) ≡ times p xs + times p ys
times-append p [] ys = omega arith
times-append p (q ∷ xs) ys = by (eqb q p) (times-append p xs ys)
  where
    by : (b : Bool) → times p (xs ++ ys) ≡ times p xs + times p ys
        → cond b (times p (xs ++ ys) + 1) (times p (xs ++ ys))
        ≡ cond b (times p xs + 1) (times p xs) + times p ys
    by true ih = omega (arith, ih)
    by false ih = ih

-- a number that stands in a list
pub times-in : (ps : List ℕ) (k d : ℕ) → k < length ps → 1 ≤ times (get_or ps k d) ps
times-in [] k d lt = absurd (omega (arith, lt))
times-in (p ∷ ps) zero d lt =
    let here : times p (p ∷ ps) ≡ times p ps + 1 =
    cond-true (eqb p p) (times p ps + 1) (times p ps) (eq-eqb p p refl) in
    omega (arith, here)
times-in (p ∷ ps) (suc k) d lt = by (eqb p (get_or ps k d)) (times-in ps k d (omega (arith, lt)))
  where
    by : (b : Bool) → 1 ≤ times (get_or ps k d) ps
        → 1 ≤ cond b (times (get_or ps k d) ps + 1) (times (get_or ps k d) ps)
    by true ih = omega (arith, ih)
    by false ih = ih

pub times-list : (p : ℕ) (ls : List (List ℕ)) (l : ℕ) → l < length ls
    → times p (get_or ls l []) ≤ times p (concat ls)
times-list p [] l lt = absurd (omega (arith, lt))
times-list p (x ∷ ls) zero lt = omega (arith, times-append p x (concat ls))
times-list p (x ∷ ls) (suc l) lt =
    omega (arith, times-append p x (concat ls), times-list p ls l (omega (arith, lt)))

pub times-remove : (q : ℕ) (ps : List ℕ) (k : ℕ) → k < length ps
    → times q (remove ps k) + times q (get_or ps k 0 ∷ []) ≡ times q ps
times-remove q [] k lt = absurd (omega (arith, lt))
times-remove q (p ∷ ps) zero lt = by (eqb p q)
  where
    by : (b : Bool) → times q ps + cond b 1 0 ≡ cond b (times q ps + 1) (times q ps)
    by true = refl
    by false = omega arith
times-remove q (p ∷ ps) (suc k) lt = by (eqb p q) (times-remove q ps k (omega (arith, lt)))
  where
    by : (b : Bool) → times q (remove ps k) + times q (get_or ps k 0 ∷ []) ≡ times q ps
        → cond b (times q (remove ps k) + 1) (times q (remove ps k)) + times q (get_or ps k 0 ∷ [])
        ≡ cond b (times q ps + 1) (times q ps)
    by true ih = omega (arith, ih)
    by false ih = ih

-- what adds up over joined lists, where one of them becomes another
concat-set : (count : List ℕ → ℕ) → ((xs ys : List ℕ) → count (xs ++ ys) ≡ count xs + count ys)
    → (ls : List (List ℕ)) (l : ℕ) (ys : List ℕ) → l < length ls
    → count (concat (set ls l ys)) + count (get_or ls l []) ≡ count (concat ls) + count ys
concat-set count adds [] l ys lt = absurd (omega (arith, lt))
concat-set count adds (x ∷ ls) zero ys lt = omega (arith, adds ys (concat ls), adds x (concat ls))
concat-set count adds (x ∷ ls) (suc l) ys lt =
    omega (
      arith,
      adds x (concat (set ls l ys)),
      adds x (concat ls),
      concat-set count adds ls l ys (omega (arith, lt)),
    )

one_at_most : (b : Bool) (n : ℕ) → n ≡ cond b 1 0 → n ≤ 1
one_at_most true n e = omega (arith, e)
one_at_most false n e = omega (arith, e)

within : (b : Bool) (p size n : ℕ) → nat_lt p size ≡ b → n ≡ cond b 1 0 → 1 ≤ n → p < size
within true p size n is e some = ltb-true p size is
within false p size n is e some = absurd (omega (arith, e, some))

-- what is known of a chunk of a list: it is there, stands in the lists once, and isn't free
pub record IsTaken (size : ℕ) (lists : List (List ℕ)) (unused : List ℕ) (p : ℕ) : Type 0 where
  pub within : p < size
  pub once : times p (concat lists) ≡ 1
  pub apart : times p unused ≡ 0

-- and of a free chunk
pub record IsFree (size : ℕ) (lists : List (List ℕ)) (unused : List ℕ) (p : ℕ) : Type 0 where
  pub within : p < size
  pub once : times p unused ≡ 1
  pub apart : times p (concat lists) ≡ 0

module _ (size : ℕ) (lists : List (List ℕ)) (unused : List ℕ)
    (placed : ArePlaced size lists unused) where
  some-taken : (p : ℕ) → 1 ≤ times p (concat lists) → IsTaken size lists unused p
  some-taken p some =
      let both : times p (concat lists ++ unused) ≡ times p (concat lists) + times p unused =
      times-append p (concat lists) unused in
      let most : times p (concat lists ++ unused) ≤ 1 =
      one_at_most (nat_lt p size) (times p (concat lists ++ unused)) (placed.once p) in
      record {
        within =
            within (nat_lt p size) p size (times p (concat lists ++ unused)) refl (placed.once p)
            (omega (arith, both, some));
        once = omega (arith, both, most, some);
        apart = omega (arith, both, most, some);
      }

  pub taken : (l k d : ℕ) → l < length lists → k < length (get_or lists l [])
      → IsTaken size lists unused (get_or (get_or lists l []) k d)
  taken l k d lt there =
      let p : ℕ = get_or (get_or lists l []) k d in
      some-taken p (omega (arith, times-in (get_or lists l []) k d there, times-list p lists l lt))

  pub free : (p : ℕ) → 1 ≤ times p unused → IsFree size lists unused p
  free p some =
      let both : times p (concat lists ++ unused) ≡ times p (concat lists) + times p unused =
      times-append p (concat lists) unused in
      let most : times p (concat lists ++ unused) ≤ 1 =
      one_at_most (nat_lt p size) (times p (concat lists ++ unused)) (placed.once p) in
      record {
        within =
            within (nat_lt p size) p size (times p (concat lists ++ unused)) refl (placed.once p)
            (omega (arith, both, some));
        once = omega (arith, both, most, some);
        apart = omega (arith, both, most, some);
      }

  pub all-within : (l : ℕ) → l < length lists → AreWithin size (places_at lists l)
  all-within l lt k d there = (taken l k d lt there).within

-- a free chunk becomes a list's newest
pub placed-opened : (size : ℕ) (lists : List (List ℕ)) (rest : List ℕ) (l p : ℕ) → l < length lists
    → ArePlaced size lists (rest ++ p ∷ [])
    → ArePlaced size (set lists l (get_or lists l [] ++ p ∷ [])) rest
placed-opened size lists rest l p lt placed =
    let ps : List ℕ = get_or lists l [] in
    let more : List (List ℕ) = set lists l (ps ++ p ∷ []) in
    record {
      once = λ q.
          (let e : times q (concat more ++ rest) ≡ times q (concat lists ++ (rest ++ p ∷ [])) =
          omega (
            arith,
            times-append q (concat more) rest,
            times-append q (concat lists) (rest ++ p ∷ []),
            times-append q rest (p ∷ []),
            concat-set (times q) (times-append q) lists l (ps ++ p ∷ []) lt,
            times-append q ps (p ∷ []),
          ) in
          e ∙ placed.once q);
      all =
          omega (
            arith,
            placed.all,
            length-append rest (p ∷ []),
            length-append ps (p ∷ []),
            concat-set length length-append lists l (ps ++ p ∷ []) lt,
          );
    }

-- a chunk of a list becomes free
pub placed-freed : (size : ℕ) (lists : List (List ℕ)) (unused : List ℕ) (l k : ℕ) → l < length lists
    → k < length (get_or lists l []) → ArePlaced size lists unused
    → ArePlaced size (set lists l (remove (get_or lists l []) k))
    (unused ++ get_or (get_or lists l []) k 0 ∷ [])
placed-freed size lists unused l k lt there placed =
    let ps : List ℕ = get_or lists l [] in
    let p : ℕ = get_or ps k 0 in
    let fewer : List (List ℕ) = set lists l (remove ps k) in
    record {
      once = λ q.
          (let e : times q (concat fewer ++ (unused ++ p ∷ [])) ≡ times q (concat lists ++ unused) =
          omega (
            arith,
            times-append q (concat fewer) (unused ++ p ∷ []),
            times-append q unused (p ∷ []),
            times-append q (concat lists) unused,
            concat-set (times q) (times-append q) lists l (remove ps k) lt,
            times-remove q ps k there,
          ) in
          e ∙ placed.once q);
      all =
          omega (
            arith,
            placed.all,
            length-append unused (p ∷ []),
            length-remove ps k there,
            concat-set length length-append lists l (remove ps k) lt,
          );
    }
