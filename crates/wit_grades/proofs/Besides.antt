-- The other locks of a fact are read one at a time.
use Rattle.std.proofs.Common.{◌≡◌, ℕ, zero, suc, ◌<◌, ◌≤◌, true, eqb, List, [], ◌∷◌, ◌++◌, length}
use Rattle.std.proofs.Common.{Option, Some, None, refl, sym, ap, subst, ◌∙◌, append_assoc}
use Rattle.std.proofs.Common.{append-nil, arith}
use Rattle.std.proofs.lemmas.Bool.{ne_eqb, eq-eqb}
use Rattle.wit_model.specs.Trace.Reading.{◌>>=◌, whole, repeated}
use Rattle.wit_model.proofs.Spelling.Codecs.{bind_some, some_is, chosen}
use Rattle.wit_alarms.specs.declared.facts.Had.{Had}
use Rattle.wit_grades.specs.Reading.{leading_had, many}
use Rattle.wit_grades.proofs.Codecs.{had_shorter}

-- these locks, and those that the rest spells
abbrev pub more_of : ℕ → List Had → List ℕ → Option (List Had)
more_of most before rest = repeated leading_had most rest >>= λ xs. Some (before ++ xs.0)

-- the bytes spell these locks and those of the rest
pub record Reads (bytes : List ℕ) (before : List Had) (rest : List ℕ) : Type 0 where
  pub most : ℕ
  pub enough : length rest ≤ most
  pub same : whole (many leading_had) bytes ≡ more_of most before rest

-- nothing is left after as many as there are
repeated_end : (most : ℕ) (bytes : List ℕ) (y : List Had × List ℕ)
    → repeated leading_had most bytes ≡ Some y → eqb (length y.1) 0 ≡ true
repeated_end zero bytes y e =
    chosen (eqb (length y.1) 0 ≡ true) (eqb (length bytes) 0) (Some ([], bytes)) None y
    (λ is some. subst (λ (z : List Had × List ℕ). eqb (length z.1) 0 ≡ true)
    (some_is ([], bytes) y some) is)
    (λ other none. absurd cc) e
repeated_end (suc most) bytes y e =
    chosen (eqb (length y.1) 0 ≡ true) (eqb (length bytes) 0) (Some ([], bytes))
    (leading_had bytes >>= λ x. repeated leading_had most x.1 >>= λ xs.
    Some (x.0 ∷ xs.0, xs.1)) y
    (λ is some. subst (λ (z : List Had × List ℕ). eqb (length z.1) 0 ≡ true)
    (some_is ([], bytes) y some) is)
    (λ other some.
    let a =
    bind_some (leading_had bytes)
    (λ x. repeated leading_had most x.1 >>= λ xs. Some (x.0 ∷ xs.0, xs.1)) y some in
    let b = bind_some (repeated leading_had most a.0.1) (λ ys. Some (a.0.0 ∷ ys.0, ys.1)) y a.2 in
    subst (λ (z : List Had × List ℕ). eqb (length z.1) 0 ≡ true)
    (some_is (a.0.0 ∷ b.0.0, b.0.1) y b.2)
    (repeated_end most a.0.1 b.0 b.1)) e

all_whole : (o : Option (List Had × List ℕ))
    → ((y : List Had × List ℕ) → o ≡ Some y → eqb (length y.1) 0 ≡ true)
    → whole (λ (b : List ℕ). o) [] ≡ (o >>= λ xs. Some ([] ++ xs.0))
all_whole None ends = refl
all_whole (Some y) ends = rw (ends y refl) refl

-- none was read yet
pub reads_start : (bytes : List ℕ) (before : List Had) → before ≡ [] → Reads bytes before bytes
reads_start bytes before none =
    subst (λ xs. Reads bytes xs bytes) (sym none)
    (record {
      most = length bytes;
      enough = omega arith;
      same =
          all_whole (repeated leading_had (length bytes) bytes)
          (repeated_end (length bytes) bytes);
    })

abbrev more_with : Had → List Had × List ℕ → Option (List Had × List ℕ)
more_with x xs = Some (x ∷ xs.0, xs.1)

next_more : (before : List Had) (x : Had) (o : Option (List Had × List ℕ))
    → ((o >>= more_with x) >>= λ xs. Some (before ++ xs.0))
    ≡ (o >>= λ xs. Some ((before ++ x ∷ []) ++ xs.0))
next_more before x None = refl
next_more before x (Some y) = ap Some (sym (append_assoc before (x ∷ []) y.0))

next_at : (bytes : List ℕ) (before : List Had) (rest : List ℕ) (x : Had) (others : List ℕ)
    (most : ℕ) → leading_had rest ≡ Some (x, others) → length rest ≤ most
    → whole (many leading_had) bytes ≡ more_of most before rest
    → Reads bytes (before ++ x ∷ []) others
next_at bytes before rest x others zero e enough same =
    absurd (omega (arith, had_shorter rest x others e))
next_at bytes before rest x others (suc most) e enough same = record {
  most = most;
  enough = omega (arith, had_shorter rest x others e);
  same =
      same ∙ rw (
        ne_eqb (length rest) 0
            (λ none. absurd (omega (arith, had_shorter rest x others e))),
        e,
      )
      (next_more before x (repeated leading_had most others));
}

-- one more was read
pub reads_next : (bytes : List ℕ) (before : List Had) (rest : List ℕ) (x : Had)
    (others : List ℕ) → Reads bytes before rest → leading_had rest ≡ Some (x, others)
    → Reads bytes (before ++ x ∷ []) others
reads_next bytes before rest x others r e =
    next_at bytes before rest x others r.most e r.enough r.same

none_at : (before : List Had) (rest : List ℕ) (most : ℕ) → 0 < length rest
    → leading_had rest ≡ None → more_of most before rest ≡ None
none_at before rest zero some e = rw (ne_eqb (length rest) 0 (λ none. absurd (omega arith))) refl
none_at before rest (suc most) some e =
    rw (ne_eqb (length rest) 0 (λ none. absurd (omega arith)), e) refl

-- what is left is no lock
pub reads_none : (bytes : List ℕ) (before : List Had) (rest : List ℕ) → Reads bytes before rest
    → 0 < length rest → leading_had rest ≡ None → whole (many leading_had) bytes ≡ None
reads_none bytes before rest r some e = r.same ∙ none_at before rest r.most some e

end_at : (before : List Had) (rest : List ℕ) (most : ℕ) → length rest ≡ 0
    → more_of most before rest ≡ Some before
end_at before rest zero none = rw (eq-eqb (length rest) 0 none) (ap Some (append-nil before))
end_at before rest (suc most) none = rw (eq-eqb (length rest) 0 none) (ap Some (append-nil before))

-- nothing is left
pub reads_end : (bytes : List ℕ) (before : List Had) (rest : List ℕ) → Reads bytes before rest
    → length rest ≡ 0 → whole (many leading_had) bytes ≡ Some before
reads_end bytes before rest r none = r.same ∙ end_at before rest r.most none
