-- The fields of a line are printed and read alike.
use Rattle.std.proofs.Common.{◌≡◌, ℕ, ◌+◌, ◌^◌, ◌<◌, Bool, List, ◌∷◌, ◌++◌, length, Option, Some}
use Rattle.std.proofs.Common.{refl, sym, ap, ◌∙◌, subst, arith, length-append}
use Rattle.std.specs.Fmt.{decimal}
use Rattle.wit_model.specs.declared.locks.Mode.{Mode}
use Rattle.wit_model.specs.Trace.Spelling.{mode_text}
use Rattle.wit_model.specs.Trace.Reading.{◌>>=◌, both, leading_count}
use Rattle.wit_model.proofs.Spelling.Codecs.{IsCodec, Ends, bind_some, some_is, print_field}
use Rattle.wit_model.proofs.Spelling.Codecs.{print_both, both_codec, field_codec}
use Rattle.wit_model.proofs.Spelling.Fields.{count_codec, mode_codec}
use Rattle.wit_alarms.specs.declared.facts.Had.{Had}
use Rattle.wit_alarms.specs.declared.facts.Manner.{Manner}
use Rattle.wit_alarms.specs.declared.facts.ThreadNo.{ThreadNo}
use Rattle.wit_grades.specs.Reading.{leading_had, leading_held, leading_fact, held_mode_text}
use Rattle.wit_grades.specs.Reading.{manner_text}
use Rattle.wit_grades.specs.Spelling.{thread_text, IsNumber, IsThread}
use Rattle.wit_grades.proofs.Words.{held_mode_word, manner_word, thread_word}

-- ---- a field that another value is made of

pub made_codec : {A B : Type 0} {print : A → List ℕ → List ℕ} {read : List ℕ
    → Option (A × List ℕ)} {Fits : A → Type 0} {Rest : List ℕ → Type 0} (make : A → B)
    (parts : B → A)
    → ((a : A) → parts (make a) ≡ a) → ((b : B) → make (parts b) ≡ b)
    → IsCodec print read Fits Rest
    → IsCodec (λ b. print (parts b)) (λ bytes. read bytes >>= λ x. Some (make x.0, x.1))
    (λ b. Fits (parts b)) Rest
made_codec {A} {B} {print} {read} {Fits} {Rest} make parts parted whole c = record {
  starts = λ b rest ends. c.starts (parts b) rest ends;
  again =
      λ b rest fits ends. rw (c.again (parts b) rest fits ends)
      (ap (λ (x : B). Some (x, rest)) (whole b));
  takes = λ bytes b rest e.
      let a = bind_some (read bytes) (λ x. Some (make x.0, x.1)) (b, rest) e in
      let same : (make a.0.0, a.0.1) ≡ (b, rest) = some_is (make a.0.0, a.0.1) (b, rest) a.2 in
      let t = c.takes bytes a.0.0 a.0.1 a.1 in
      subst (λ (y : B × List ℕ). (bytes ≡ print (parts y.0) y.1) × Fits (parts y.0)) same (
        t.0 ∙ ap (λ (z : A). print z a.0.1) (sym (parted a.0.0)),
        subst Fits (sym (parted a.0.0)) t.1,
      );
}

-- ---- locks

abbrev had_of : ℕ × Mode → Had
had_of x = record { lock = record { 0 = x.0 }; mode = x.1 }

abbrev had_parts : Had → ℕ × Mode
had_parts h = (h.lock.0, h.mode)

abbrev pub print_had : Had → List ℕ → List ℕ
print_had h = print_both (print_field decimal) (print_field mode_text) (had_parts h)

abbrev pub FitsHad : Had → Type 0
FitsHad h = (h.lock.0 < 2 ^ 32) × Unit {0}

pub had_codec : IsCodec print_had leading_had FitsHad (Ends 32)
unfolding leading_had
had_codec =
    made_codec had_of had_parts (λ a. refl) (λ b. refl) (both_codec count_codec mode_codec)

pub had-lt : (h : Had) (rest : List ℕ) → length rest < length (print_had h rest)
had-lt h rest =
    let inner : length (mode_text h.mode ++ rest) ≡ length (mode_text h.mode) + length rest =
    length-append (mode_text h.mode) rest in
    let outer : length (decimal h.lock.0 ++ 32 ∷ (mode_text h.mode ++ rest))
    ≡ length (decimal h.lock.0) + length (32 ∷ (mode_text h.mode ++ rest)) =
    length-append (decimal h.lock.0) (32 ∷ (mode_text h.mode ++ rest)) in
    omega (arith, inner, outer)

pub had_shorter : (bytes : List ℕ) (h : Had) (rest : List ℕ) → leading_had bytes ≡ Some (h, rest)
    → length rest < length bytes
had_shorter bytes h rest e = let t = had_codec.takes bytes h rest e in rw t.0 (had-lt h rest)

-- ---- the fields of a fact before its other locks

abbrev held_of : ℕ × (Mode × Bool) → Had × Bool
held_of x = (record { lock = record { 0 = x.0 }; mode = x.1.0 }, x.1.1)

abbrev held_parts : Had × Bool → ℕ × (Mode × Bool)
held_parts h = (h.0.lock.0, (h.0.mode, h.1))

abbrev pub print_held : Had × Bool → List ℕ → List ℕ
print_held h = print_both (print_field decimal) (print_field held_mode_text) (held_parts h)

held_codec : IsCodec print_held leading_held (λ h. IsNumber h.0.lock.0 × Unit {0}) (Ends 32)
unfolding leading_held
held_codec =
    made_codec held_of held_parts (λ a. refl) (λ b. refl)
    (both_codec count_codec (field_codec held_mode_word))

abbrev pub Before : Type 0
Before = (Had × Bool) × (Had × (Manner × (Option ThreadNo × (ℕ × ℕ))))

abbrev pub print_before : Before → List ℕ → List ℕ
print_before =
    print_both print_held (print_both print_had (print_both (print_field manner_text)
    (print_both (print_field thread_text) (print_both (print_field decimal)
    (print_field decimal)))))

abbrev pub FitsBefore : Before → Type 0
FitsBefore x =
    (IsNumber x.0.0.lock.0 × Unit {0}) × ((IsNumber x.1.0.lock.0 × Unit {0})
    × (Unit {0} × (IsThread x.1.1.1.0 × (IsNumber x.1.1.1.1.0 × IsNumber x.1.1.1.1.1))))

pub before_codec : IsCodec print_before leading_fact FitsBefore (Ends 32)
before_codec =
    both_codec held_codec (both_codec had_codec (both_codec (field_codec manner_word)
    (both_codec (field_codec thread_word) (both_codec count_codec count_codec))))

-- ---- three numbers

abbrev pub print_three : ℕ × (ℕ × ℕ) → List ℕ → List ℕ
print_three =
    print_both (print_field decimal) (print_both (print_field decimal) (print_field decimal))

pub three_codec : IsCodec print_three (both leading_count (both leading_count leading_count))
    (λ x. IsNumber x.0 × (IsNumber x.1.0 × IsNumber x.1.1)) (Ends 32)
three_codec = both_codec count_codec (both_codec count_codec count_codec)
