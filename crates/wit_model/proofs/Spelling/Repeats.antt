-- One or more of the same, up to the end of the line.
use Rattle.std.proofs.Common.{◌≡◌, ℕ, zero, suc, ◌<◌, ◌≤◌, eqb, List, [], ◌∷◌, length, Option, Some}
use Rattle.std.proofs.Common.{None, refl, ap, subst, ◌∙◌, arith}
use Rattle.std.proofs.lemmas.Bool.{ne_eqb}
use Rattle.wit_model.specs.Trace.Reading.{◌>>=◌, repeated, one_or_more}
use Rattle.wit_model.proofs.Spelling.Codecs.{IsCodec, EndsHere, Ends, bind_some, some_is, chosen}

abbrev pub print_each : {A : Type 0} → (A → List ℕ → List ℕ) → List A → List ℕ → List ℕ
print_each print [] rest = rest
print_each print (x ∷ xs) rest = print x (print_each print xs rest)

abbrev pub AllFit : {A : Type 0} → (A → Type 0) → List A → Type 0
AllFit Fits [] = Unit {0}
AllFit Fits (x ∷ xs) = Fits x × AllFit Fits xs

-- each one takes some bytes
abbrev pub TakesBytes : {A : Type 0} → (A → List ℕ → List ℕ) → Type 0
TakesBytes {A} print = (x : A) (rest : List ℕ) → length rest < length (print x rest)

each_starts : {A : Type 0} {print : A → List ℕ → List ℕ} {read : List ℕ
    → Option (A × List ℕ)} {Fits : A → Type 0} → IsCodec print read Fits (Ends 32)
    → (xs : List A) (rest : List ℕ) → EndsHere rest → Ends 32 (print_each print xs rest)
each_starts c [] rest last = rw last tt
each_starts {print = print} c (x ∷ xs) rest last =
    c.starts x (print_each print xs rest) (each_starts c xs rest last)

each-le : {A : Type 0} (print : A → List ℕ → List ℕ) → TakesBytes print
    → (xs : List A) (rest : List ℕ) → length xs ≤ length (print_each print xs rest)
each-le print more [] rest = omega arith
each-le print more (x ∷ xs) rest =
    omega (arith, each-le print more xs rest, more x (print_each print xs rest))

repeated_again : {A : Type 0} {print : A → List ℕ → List ℕ} {read : List ℕ
    → Option (A × List ℕ)} {Fits : A → Type 0} → TakesBytes print
    → IsCodec print read Fits (Ends 32) → (xs : List A) (rest : List ℕ) (most : ℕ) → AllFit Fits xs
    → EndsHere rest → length xs ≤ most → repeated read most (print_each print xs rest)
    ≡ Some (xs, rest)
repeated_again more c [] rest zero fits last few = rw last refl
repeated_again more c [] rest (suc most) fits last few = rw last refl
repeated_again more c (x ∷ xs) rest zero fits last few = absurd (omega arith)
repeated_again {print = print} more c (x ∷ xs) rest (suc most) fits last few =
    rw (
      ne_eqb (length (print x (print_each print xs rest))) 0
          (λ e. absurd (omega (arith, more x (print_each print xs rest)))),
      c.again x (print_each print xs rest) fits.0 (each_starts c xs rest last),
      repeated_again more c xs rest most fits.1 last (omega arith),
    ) refl

repeated_takes : {A : Type 0} {print : A → List ℕ → List ℕ} {read : List ℕ
    → Option (A × List ℕ)} {Fits : A → Type 0} → IsCodec print read Fits (Ends 32)
    → (most : ℕ) (bytes : List ℕ) (xs : List A) (rest : List ℕ)
    → repeated read most bytes ≡ Some (xs, rest) → (bytes ≡ print_each print xs rest)
    × AllFit Fits xs
repeated_takes {A} {print} {read} {Fits} c zero bytes xs rest e =
    chosen ((bytes ≡ print_each print xs rest) × AllFit Fits xs) (eqb (length bytes) 0)
    (Some ([], bytes)) None (xs, rest)
    (λ is some. let same : ([], bytes) ≡ (xs, rest) = some_is ([], bytes) (xs, rest) some in
    subst (λ (y : List A × List ℕ). (bytes ≡ print_each print y.0 y.1)
    × AllFit Fits y.0) same (refl, tt))
    (λ other none. absurd cc) e
repeated_takes {A} {print} {read} {Fits} c (suc most) bytes xs rest e =
    chosen ((bytes ≡ print_each print xs rest) × AllFit Fits xs) (eqb (length bytes) 0)
    (Some ([], bytes)) (read bytes >>= λ x. repeated read most x.1 >>= λ xs.
    Some (x.0 ∷ xs.0, xs.1)) (xs, rest)
    (λ is some. let same : ([], bytes) ≡ (xs, rest) = some_is ([], bytes) (xs, rest) some in
    subst (λ (y : List A × List ℕ). (bytes ≡ print_each print y.0 y.1)
    × AllFit Fits y.0) same (refl, tt))
    (λ other some.
    let a =
    bind_some (read bytes) (λ x. repeated read most x.1 >>= λ xs. Some (x.0 ∷ xs.0, xs.1))
    (xs, rest) some in
    let b = bind_some (repeated read most a.0.1) (λ ys. Some (a.0.0 ∷ ys.0, ys.1)) (xs, rest) a.2 in
    let same : (a.0.0 ∷ b.0.0, b.0.1) ≡ (xs, rest) =
    some_is (a.0.0 ∷ b.0.0, b.0.1) (xs, rest) b.2 in
    let s = c.takes bytes a.0.0 a.0.1 a.1 in
    let t = repeated_takes c most a.0.1 b.0.0 b.0.1 b.1 in
    subst (λ (y : List A × List ℕ). (bytes ≡ print_each print y.0 y.1) × AllFit Fits y.0) same
    (s.0 ∙ ap (print a.0.0) t.0, (s.1, t.1))) e

-- the last field of a line may be one or more of the same
pub one_or_more_codec : {A : Type 0} {print : A → List ℕ → List ℕ} {read : List ℕ
    → Option (A × List ℕ)} {Fits : A → Type 0} → TakesBytes print
    → IsCodec print read Fits (Ends 32)
    → IsCodec (λ x rest. print x.0 (print_each print x.1 rest)) (one_or_more read) (λ x. Fits x.0
    × AllFit Fits x.1) EndsHere
one_or_more_codec {A} {print} {read} {Fits} more c = record {
  starts = λ x rest last. c.starts x.0 (print_each print x.1 rest) (each_starts c x.1 rest last);
  again =
      λ x rest fits last. rw (
        c.again x.0 (print_each print x.1 rest) fits.0
            (each_starts c x.1 rest last),
        repeated_again more c x.1 rest
            (length (print_each print x.1 rest)) fits.1 last (each-le print more x.1 rest),
      ) refl;
  takes = λ bytes x rest e.
      let a =
      bind_some (read bytes) (λ x. repeated read (length x.1) x.1 >>= λ xs.
      Some ((x.0, xs.0), xs.1)) (x, rest) e in
      let b =
      bind_some (repeated read (length a.0.1) a.0.1) (λ ys. Some ((a.0.0, ys.0), ys.1))
      (x, rest) a.2 in
      let same : ((a.0.0, b.0.0), b.0.1) ≡ (x, rest) =
      some_is ((a.0.0, b.0.0), b.0.1) (x, rest) b.2 in
      let s = c.takes bytes a.0.0 a.0.1 a.1 in
      let t = repeated_takes c (length a.0.1) a.0.1 b.0.0 b.0.1 b.1 in
      subst (λ (y : (A × List A) × List ℕ). (bytes ≡ print y.0.0 (print_each print y.0.1 y.1))
      × (Fits y.0.0 × AllFit Fits y.0.1)) same (s.0 ∙ ap (print a.0.0) t.0, (s.1, t.1));
}
