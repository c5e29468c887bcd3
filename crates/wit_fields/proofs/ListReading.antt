-- A list is read one type at a time.
use Rattle.std.proofs.Common.{◌≡◌, ℕ, zero, suc, ◌<◌, ◌≤◌, true, eqb, List, [], ◌∷◌, ◌++◌, length}
use Rattle.std.proofs.Common.{Option, Some, None, refl, sym, ap, subst, ◌∙◌, append_assoc}
use Rattle.std.proofs.Common.{append-nil, arith}
use Rattle.std.proofs.lemmas.Bool.{ne_eqb, eq-eqb}
use Rattle.wit_model.specs.declared.locks.Class.{Class}
use Rattle.wit_model.specs.Trace.Reading.{◌>>=◌, whole, repeated, leading_type, whole_list}
use Rattle.wit_model.proofs.Spelling.Codecs.{bind_some, some_is, chosen}
use Rattle.wit_model.proofs.Spelling.Kinds.{type_shorter}

abbrev Types : Type 0
Types = List (Class × List ℕ)

-- these types, and those that the rest spells
abbrev pub more_of : ℕ → Types → List ℕ → Option Types
more_of most before rest = repeated leading_type most rest >>= λ xs. Some (before ++ xs.0)

-- the bytes spell these types and those of the rest
pub record Reads (bytes : List ℕ) (before : Types) (rest : List ℕ) : Type 0 where
  pub most : ℕ
  pub enough : length rest ≤ most
  pub same : whole_list bytes ≡ more_of most before rest

-- nothing is left behind as many as there are
repeated_end : (most : ℕ) (bytes : List ℕ) (y : Types × List ℕ)
    → repeated leading_type most bytes ≡ Some y → eqb (length y.1) 0 ≡ true
repeated_end zero bytes y e =
    chosen (eqb (length y.1) 0 ≡ true) (eqb (length bytes) 0) (Some ([], bytes)) None y
    (λ is some. subst (λ (z : Types × List ℕ). eqb (length z.1) 0 ≡ true)
    (some_is ([], bytes) y some) is)
    (λ other none. absurd cc) e
repeated_end (suc most) bytes y e =
    chosen (eqb (length y.1) 0 ≡ true) (eqb (length bytes) 0) (Some ([], bytes))
    (leading_type bytes >>= λ x. repeated leading_type most x.1 >>= λ xs.
    Some (x.0 ∷ xs.0, xs.1)) y
    (λ is some. subst (λ (z : Types × List ℕ). eqb (length z.1) 0 ≡ true)
    (some_is ([], bytes) y some) is)
    (λ other some.
    let a =
    bind_some (leading_type bytes)
    (λ x. repeated leading_type most x.1 >>= λ xs. Some (x.0 ∷ xs.0, xs.1)) y some in
    let b = bind_some (repeated leading_type most a.0.1) (λ ys. Some (a.0.0 ∷ ys.0, ys.1)) y a.2 in
    subst (λ (z : Types × List ℕ). eqb (length z.1) 0 ≡ true) (some_is (a.0.0 ∷ b.0.0, b.0.1) y b.2)
    (repeated_end most a.0.1 b.0 b.1)) e

abbrev one_with : Class × List ℕ → Types × List ℕ → Option (((Class × List ℕ) × Types) × List ℕ)
one_with x xs = Some ((x, xs.0), xs.1)

abbrev more_with : Class × List ℕ → Types × List ℕ → Option (Types × List ℕ)
more_with x xs = Some (x ∷ xs.0, xs.1)

first_whole : (x : Class × List ℕ) (o : Option (Types × List ℕ))
    → ((y : Types × List ℕ) → o ≡ Some y → eqb (length y.1) 0 ≡ true)
    → (whole (λ (b : List ℕ). o >>= one_with x) [] >>= λ y. Some (y.0 ∷ y.1))
    ≡ (o >>= λ xs. Some ((x ∷ []) ++ xs.0))
first_whole x None ends = refl
first_whole x (Some y) ends = rw (ends y refl) refl

-- the first type was read
pub reads_first : (bytes : List ℕ) (x : Class × List ℕ) (rest : List ℕ)
    → leading_type bytes ≡ Some (x, rest) → Reads bytes (x ∷ []) rest
unfolding whole_list
reads_first bytes x rest e = record {
  most = length rest;
  enough = omega arith;
  same =
      rw e (first_whole x (repeated leading_type (length rest) rest)
      (λ y some. repeated_end (length rest) rest y some));
}

-- the first is none
pub no_first : (bytes : List ℕ) → leading_type bytes ≡ None → whole_list bytes ≡ None
unfolding whole_list
no_first bytes e = rw e refl

next_more : (before : Types) (x : Class × List ℕ) (o : Option (Types × List ℕ))
    → ((o >>= more_with x) >>= λ xs. Some (before ++ xs.0))
    ≡ (o >>= λ xs. Some ((before ++ x ∷ []) ++ xs.0))
next_more before x None = refl
next_more before x (Some y) = ap Some (sym (append_assoc before (x ∷ []) y.0))

next_at : (bytes : List ℕ) (before : Types) (rest : List ℕ) (x : Class × List ℕ) (others : List ℕ)
    (most : ℕ) → leading_type rest ≡ Some (x, others) → length rest ≤ most
    → whole_list bytes ≡ more_of most before rest → Reads bytes (before ++ x ∷ []) others
next_at bytes before rest x others zero e enough same =
    absurd (omega (arith, type_shorter rest x others e))
next_at bytes before rest x others (suc most) e enough same = record {
  most = most;
  enough = omega (arith, type_shorter rest x others e);
  same =
      same ∙ rw (
        ne_eqb (length rest) 0
            (λ none. absurd (omega (arith, type_shorter rest x others e))),
        e,
      )
      (next_more before x (repeated leading_type most others));
}

-- one more type was read
pub reads_next : (bytes : List ℕ) (before : Types) (rest : List ℕ) (x : Class × List ℕ)
    (others : List ℕ) → Reads bytes before rest → leading_type rest ≡ Some (x, others)
    → Reads bytes (before ++ x ∷ []) others
reads_next bytes before rest x others r e =
    next_at bytes before rest x others r.most e r.enough r.same

none_at : (before : Types) (rest : List ℕ) (most : ℕ) → 0 < length rest → leading_type rest ≡ None
    → more_of most before rest ≡ None
none_at before rest zero some e = rw (ne_eqb (length rest) 0 (λ none. absurd (omega arith))) refl
none_at before rest (suc most) some e =
    rw (ne_eqb (length rest) 0 (λ none. absurd (omega arith)), e) refl

-- what is left is no type
pub reads_none : (bytes : List ℕ) (before : Types) (rest : List ℕ) → Reads bytes before rest
    → 0 < length rest → leading_type rest ≡ None → whole_list bytes ≡ None
reads_none bytes before rest r some e = r.same ∙ none_at before rest r.most some e

end_at : (before : Types) (rest : List ℕ) (most : ℕ) → length rest ≡ 0
    → more_of most before rest ≡ Some before
end_at before rest zero none = rw (eq-eqb (length rest) 0 none) (ap Some (append-nil before))
end_at before rest (suc most) none = rw (eq-eqb (length rest) 0 none) (ap Some (append-nil before))

-- nothing is left
pub reads_end : (bytes : List ℕ) (before : Types) (rest : List ℕ) → Reads bytes before rest
    → length rest ≡ 0 → whole_list bytes ≡ Some before
reads_end bytes before rest r none = r.same ∙ end_at before rest r.most none
