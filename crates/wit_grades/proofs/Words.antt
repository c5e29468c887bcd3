-- The words of a line are printed and read alike.
use Rattle.std.proofs.Common.{◌≡◌, ℕ, ◌^◌, Bool, true, false, not, eqb, List, [], ◌∷◌}
use Rattle.std.proofs.Common.{Option, Some, None, refl, subst, codes, arith}
use Rattle.std.specs.List.{list_all}
use Rattle.std.specs.Fmt.{decimal}
use Rattle.std.specs.Str.{bytes_eq}
use Rattle.std.proofs.lemmas.Slice.Eq.{bytes_eq-Decides}
use Rattle.wit_model.specs.declared.locks.Mode.{Mode}
use Rattle.wit_model.specs.declared.locks.Mode.TheVariants.{Shared, Exclusive}
use Rattle.wit_model.specs.Trace.Reading.{◌>>=◌, number_of}
use Rattle.wit_model.proofs.Spelling.Codecs.{IsWord, Lacks, Lacks-test, named_takes, named_word}
use Rattle.wit_model.proofs.Spelling.Codecs.{bind_some, some_is, chosen}
use Rattle.wit_model.proofs.Spelling.Words.{number_word, decimal_lacks}
use Rattle.wit_alarms.specs.declared.facts.Manner.{Manner}
use Rattle.wit_alarms.specs.declared.facts.Manner.TheVariants.{Plain, Timed, EndsWait}
use Rattle.wit_alarms.specs.declared.facts.ThreadNo.{ThreadNo}
use Rattle.wit_grades.specs.declared.reading.Keyword.{Keyword}
use Rattle.wit_grades.specs.declared.reading.Keyword.TheVariants as keyword
use Rattle.wit_grades.specs.Reading.{keyword_text, keyword_named, held_mode_text, held_mode_named}
use Rattle.wit_grades.specs.Reading.{manner_text, manner_named, thread_named}
use Rattle.wit_grades.specs.Spelling.{thread_text, IsThread}

pub held_mode_word : IsWord held_mode_text held_mode_named (λ x. Unit {0})
unfolding held_mode_named
held_mode_word =
    named_word held_mode_text
    ((Shared, false) ∷ (Exclusive, false) ∷ (Shared, true) ∷ (Exclusive, true) ∷ []) plain again
  where
    plain : (x : Mode × Bool) → list_all (λ b. not (eqb b 32)) (held_mode_text x) ≡ true
    plain (Shared, false) = refl
    plain (Exclusive, false) = refl
    plain (Shared, true) = refl
    plain (Exclusive, true) = refl

    again : (x : Mode × Bool) → held_mode_named (held_mode_text x) ≡ Some x
    again (Shared, false) = refl
    again (Exclusive, false) = refl
    again (Shared, true) = refl
    again (Exclusive, true) = refl

pub manner_word : IsWord manner_text manner_named (λ manner. Unit {0})
unfolding manner_named
manner_word = named_word manner_text (Plain ∷ Timed ∷ EndsWait ∷ []) plain again
  where
    plain : (manner : Manner) → list_all (λ b. not (eqb b 32)) (manner_text manner) ≡ true
    plain Plain = refl
    plain Timed = refl
    plain EndsWait = refl

    again : (manner : Manner) → manner_named (manner_text manner) ≡ Some manner
    again Plain = refl
    again Timed = refl
    again EndsWait = refl

-- ---- threads

-- a word without a dash is none
no_dash : (word : List ℕ) → Lacks 45 word → bytes_eq word (codes "-") ≡ false
no_dash [] lacks = refl
no_dash (b ∷ word) lacks = rw (lacks.0) refl

abbrev some_thread : ℕ → Option (Option ThreadNo)
some_thread n = Some (Some (record { 0 = n }))

pub thread_word : IsWord thread_text thread_named IsThread
unfolding thread_named
thread_word = record { plain = plain; again = again; takes = takes }
  where
    plain : (t : Option ThreadNo) → IsThread t → Lacks 32 (thread_text t)
    plain None fits = (refl, tt)
    plain (Some t) fits = decimal_lacks 32 refl t.0 (omega (arith, fits))

    again : (t : Option ThreadNo) → IsThread t → thread_named (thread_text t) ≡ Some t
    again None fits = refl
    again (Some t) fits =
        rw (
          no_dash (decimal t.0) (decimal_lacks 45 refl t.0 (omega (arith, fits))),
          (number_word (2 ^ 32) (omega arith)).again t.0 fits,
        ) refl

    takes : (word : List ℕ) (t : Option ThreadNo) → thread_named word ≡ Some t
        → (word ≡ thread_text t) × IsThread t
    takes word t e =
        chosen ((word ≡ thread_text t) × IsThread t) (bytes_eq word (codes "-")) (Some None)
        (number_of (2 ^ 32) word >>= some_thread) t
        (λ dash some. subst (λ (x : Option ThreadNo). (word ≡ thread_text x) × IsThread x)
        (some_is None t some) ((bytes_eq-Decides word (codes "-")).0 dash, tt))
        (λ other some.
        let n = bind_some (number_of (2 ^ 32) word) some_thread t some in
        let w = (number_word (2 ^ 32) (omega arith)).takes word n.0 n.1 in
        subst (λ (x : Option ThreadNo). (word ≡ thread_text x) × IsThread x)
        (some_is (Some (record { 0 = n.0 })) t n.2) w) e

-- ---- keywords

no_space : (word : Keyword) → list_all (λ b. not (eqb b 32)) (keyword_text word) ≡ true
no_space keyword.Fact = refl
no_space keyword.Life = refl
no_space keyword.Joined = refl
no_space keyword.Missing = refl
no_space keyword.Grade = refl

-- a keyword holds no space
pub keyword_plain : (word : Keyword) → Lacks 32 (keyword_text word)
keyword_plain word = Lacks-test 32 (keyword_text word) (no_space word)

pub keyword_takes : (bytes : List ℕ) (word : Keyword) → keyword_named bytes ≡ Some word
    → bytes ≡ keyword_text word
unfolding keyword_named
keyword_takes =
    named_takes keyword_text (keyword.Fact ∷ keyword.Life ∷ keyword.Joined ∷ keyword.Missing
    ∷ keyword.Grade ∷ [])

pub keyword_again : (word : Keyword) → keyword_named (keyword_text word) ≡ Some word
unfolding keyword_named
keyword_again keyword.Fact = refl
keyword_again keyword.Life = refl
keyword_again keyword.Joined = refl
keyword_again keyword.Missing = refl
keyword_again keyword.Grade = refl
