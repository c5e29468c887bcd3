-- The locks besides those of a pair are read one at a time.
use Rattle.std.proofs.Common.{◌≡◌, ◌≢◌, ℕ, zero, suc, ◌+◌, ◌<◌, ◌≤◌, true, eqb, List, [], ◌∷◌, ◌++◌}
use Rattle.std.proofs.Common.{length, Option, Some, None, refl, sym, ap, subst, ◌∙◌, append_assoc}
use Rattle.std.proofs.Common.{append-nil, length-append, arith}
use Rattle.std.proofs.lemmas.Bool.{ne_eqb, eq-eqb}
use Rattle.wit_model.specs.Trace.Reading.{◌>>=◌, repeated}
use Rattle.wit_recorded.specs.declared.lines.PairLock.{PairLock}
use Rattle.wit_recorded.specs.declared.lines.TheConstants.{MOST_BESIDES}
use Rattle.wit_recorded.specs.Pairs.{besides_of, leading_beside}

-- these locks, and those that the rest spells
abbrev pub more_of : ℕ → List PairLock → List ℕ → Option (List PairLock)
more_of most before rest = repeated leading_beside most rest >>= λ xs. Some (before ++ xs.0)

-- the bytes spell these locks and those of the rest, of which there may be so many
pub record Reads (bytes : List ℕ) (before : List PairLock) (rest : List ℕ) : Type 0 where
  pub most : ℕ
  pub counted : length before + most ≡ MOST_BESIDES
  pub same : besides_of bytes ≡ more_of most before rest

-- none was read yet
pub reads_start : (bytes : List ℕ) (before : List PairLock) → before ≡ [] → Reads bytes before bytes
reads_start bytes before none =
    subst (λ xs. Reads bytes xs bytes) (sym none)
    (record { most = MOST_BESIDES; counted = refl; same = refl })

abbrev more_with : PairLock → List PairLock × List ℕ → Option (List PairLock × List ℕ)
more_with x xs = Some (x ∷ xs.0, xs.1)

next_more : (before : List PairLock) (x : PairLock) (o : Option (List PairLock × List ℕ))
    → ((o >>= more_with x) >>= λ xs. Some (before ++ xs.0))
    ≡ (o >>= λ xs. Some ((before ++ x ∷ []) ++ xs.0))
next_more before x None = refl
next_more before x (Some y) = ap Some (sym (append_assoc before (x ∷ []) y.0))

next_at : (bytes : List ℕ) (before : List PairLock) (rest : List ℕ) (x : PairLock)
    (others : List ℕ) (most : ℕ) → 0 < length rest → length before ≢ MOST_BESIDES
    → leading_beside rest ≡ Some (x, others) → length before + most ≡ MOST_BESIDES
    → besides_of bytes ≡ more_of most before rest → Reads bytes (before ++ x ∷ []) others
next_at bytes before rest x others zero some few e counted same =
    absurd (few (omega (arith, counted)))
next_at bytes before rest x others (suc most) some few e counted same = record {
  most = most;
  counted = omega (arith, counted, length-append before (x ∷ []));
  same =
      same ∙ rw (ne_eqb (length rest) 0 (λ none. absurd (omega (arith, some))), e)
      (next_more before x (repeated leading_beside most others));
}

-- one more was read
pub reads_next : (bytes : List ℕ) (before : List PairLock) (rest : List ℕ) (x : PairLock)
    (others : List ℕ) → Reads bytes before rest → 0 < length rest
    → length before ≢ MOST_BESIDES → leading_beside rest ≡ Some (x, others)
    → Reads bytes (before ++ x ∷ []) others
reads_next bytes before rest x others r some few e =
    next_at bytes before rest x others r.most some few e r.counted r.same

none_at : (before : List PairLock) (rest : List ℕ) (most : ℕ) → 0 < length rest
    → leading_beside rest ≡ None → more_of most before rest ≡ None
none_at before rest zero some e =
    rw (ne_eqb (length rest) 0 (λ none. absurd (omega (arith, some)))) refl
none_at before rest (suc most) some e =
    rw (ne_eqb (length rest) 0 (λ none. absurd (omega (arith, some))), e) refl

-- what is left is no lock
pub reads_none : (bytes : List ℕ) (before : List PairLock) (rest : List ℕ)
    → Reads bytes before rest → 0 < length rest → leading_beside rest ≡ None
    → besides_of bytes ≡ None
reads_none bytes before rest r some e = r.same ∙ none_at before rest r.most some e

full_at : (before : List PairLock) (rest : List ℕ) (most : ℕ) → 0 < length rest
    → length before ≡ MOST_BESIDES → length before + most ≡ MOST_BESIDES
    → more_of most before rest ≡ None
full_at before rest zero some full counted =
    rw (ne_eqb (length rest) 0 (λ none. absurd (omega (arith, some)))) refl
full_at before rest (suc most) some full counted = absurd (omega (arith, full, counted))

-- more is left than may be
pub reads_more : (bytes : List ℕ) (before : List PairLock) (rest : List ℕ)
    → Reads bytes before rest → 0 < length rest → length before ≡ MOST_BESIDES
    → besides_of bytes ≡ None
reads_more bytes before rest r some full =
    r.same ∙ full_at before rest r.most some full r.counted

end_at : (before : List PairLock) (rest : List ℕ) (most : ℕ) → length rest ≡ 0
    → more_of most before rest ≡ Some before
end_at before rest zero none = rw (eq-eqb (length rest) 0 none) (ap Some (append-nil before))
end_at before rest (suc most) none = rw (eq-eqb (length rest) 0 none) (ap Some (append-nil before))

-- nothing is left
pub reads_end : (bytes : List ℕ) (before : List PairLock) (rest : List ℕ)
    → Reads bytes before rest → length rest ≡ 0 → besides_of bytes ≡ Some before
reads_end bytes before rest r none = r.same ∙ end_at before rest r.most none
