-- The lines that make calls on locks that are there are printed and read alike.
use Rattle.std.proofs.Common.{◌≡◌, ℕ, ◌^◌, ◌<◌, inl, inr, List, [], ◌∷◌, ◌++◌, Option, Some, None}
use Rattle.std.proofs.Common.{refl, sym, ap, ◌∙◌, arith, codes}
use Rattle.std.specs.Prelude.{IsTrue, IfSome}
use Rattle.std.specs.Fmt.{decimal}
use Rattle.std.proofs.lemmas.Bool.{cases_eq, ne_eqb}
use Rattle.wit_model.specs.declared.lines.Line.{Line}
use Rattle.wit_model.specs.declared.lines.Line.TheVariants.{OnLock, Assert, Warn, Define, Watch}
use Rattle.wit_model.specs.declared.lines.LockLine.{LockLine}
use Rattle.wit_model.specs.declared.lines.LockLine.TheVariants.{Check, Try, Unlock, Plain, Step}
use Rattle.wit_model.specs.declared.lines.Verb.{Verb}
use Rattle.wit_model.specs.declared.raw_steps.RawStep.{RawStep}
use Rattle.wit_model.specs.declared.raw_steps.RawStep.TheVariants as raw_step
use Rattle.wit_model.specs.declared.flags.LockAssert.{LockAssert}
use Rattle.wit_model.specs.declared.flags.WarnFlags.{WarnFlags}
use Rattle.wit_model.specs.declared.locks.LockNo.{LockNo}
use Rattle.wit_model.specs.declared.locks.SeatNo.{SeatNo}
use Rattle.wit_model.specs.declared.locks.Mode.{Mode}
use Rattle.wit_model.specs.declared.locks.Watch as level
use Rattle.wit_model.specs.Rules.Names.{is_file_name}
use Rattle.wit_model.specs.Trace.Spelling.{verb_text, mode_text, level_text, op_letters}
use Rattle.wit_model.specs.Trace.Spelling.{assert_letters, warn_letters, number_if_any, flags_text}
use Rattle.wit_model.specs.Trace.Spelling.{site_text, spaced, step_keyword, lock_keyword}
use Rattle.wit_model.specs.Trace.Spelling.{lock_line_fields, IsNamed, IsSpellableOnLock, Spells}
use Rattle.wit_model.specs.Trace.Reading.{mode_named, level_named, flags_of, site_of, field_at}
use Rattle.wit_model.specs.Trace.Reading.{both, leading_seat, leading_lock, check_of, try_of}
use Rattle.wit_model.specs.Trace.Reading.{unlock_of, plain_of, step_of, try_take_of, assert_of}
use Rattle.wit_model.specs.Trace.Reading.{lock_if_any, warn_of, define_of, watch_line, fields_of}
use Rattle.wit_model.proofs.Spelling.Codecs.{IsCodec, Ends, print_field, print_both, both_codec}
use Rattle.wit_model.proofs.Spelling.Fields.{IsBelow, seat_codec, lock_codec, mode_codec}
use Rattle.wit_model.proofs.Spelling.Fields.{op_flags_codec, assert_flags_codec, warn_flags_codec}
use Rattle.wit_model.proofs.Spelling.Fields.{level_codec, site_codec}
use Rattle.wit_model.proofs.Spelling.Kinds.{kind_takes, kind_again}

-- ---- what becomes of a lock

abbrev check_make : (ℕ × (ℕ × (Mode × (ℕ × (List ℕ × ℕ))))) → Line
check_make x =
    OnLock (Check (record { 0 = x.0 }) (record { 0 = x.1.0 }) x.1.1.0
    (record { 0 = x.1.1.1.0 }) x.1.1.1.1.0 x.1.1.1.1.1)

check_codec : IsCodec (print_both (print_field decimal)
    (print_both (print_field decimal)
    (print_both (print_field mode_text)
    (print_both (print_field (flags_text op_letters)) (print_field (λ x. site_text x.0 x.1))))))
    (both leading_seat (both leading_lock
    (both (field_at mode_named) (both (field_at (flags_of op_letters)) (field_at site_of)))))
    (λ x. IsBelow (2 ^ 16) x.0 × (IsBelow (2 ^ 32) x.1.0
    × (Unit {0} × (IsBelow 8 x.1.1.1.0
    × (IsTrue (is_file_name x.1.1.1.1.0) × IsBelow (2 ^ 32) x.1.1.1.1.1))))) (Ends 32)
check_codec =
    both_codec seat_codec (both_codec lock_codec
    (both_codec mode_codec (both_codec op_flags_codec site_codec)))

pub check_takes : (rest : List ℕ) (line : Line) → check_of rest ≡ Some line
    → Spells (codes "check" ++ rest) line
unfolding check_of
check_takes =
    kind_takes check_codec check_make (codes "check")
    (λ x fits. (refl, (fits.0, fits.1.0, fits.1.1.1.0, fits.1.1.1.1.0, fits.1.1.1.1.1)))

abbrev try_make : (ℕ × (ℕ × (Mode × (List ℕ × ℕ)))) → Line
try_make x = OnLock (Try (record { 0 = x.0 }) (record { 0 = x.1.0 }) x.1.1.0 x.1.1.1.0 x.1.1.1.1)

try_codec : IsCodec (print_both (print_field decimal)
    (print_both (print_field decimal)
    (print_both (print_field mode_text) (print_field (λ x. site_text x.0 x.1)))))
    (both leading_seat (both leading_lock (both (field_at mode_named) (field_at site_of))))
    (λ x. IsBelow (2 ^ 16) x.0 × (IsBelow (2 ^ 32) x.1.0
    × (Unit {0} × (IsTrue (is_file_name x.1.1.1.0) × IsBelow (2 ^ 32) x.1.1.1.1)))) (Ends 32)
try_codec = both_codec seat_codec (both_codec lock_codec (both_codec mode_codec site_codec))

pub try_takes : (rest : List ℕ) (line : Line) → try_of rest ≡ Some line
    → Spells (codes "try" ++ rest) line
unfolding try_of
try_takes =
    kind_takes try_codec try_make (codes "try")
    (λ x fits. (refl, (fits.0, fits.1.0, fits.1.1.1.0, fits.1.1.1.1)))

abbrev unlock_make : (ℕ × (ℕ × Mode)) → Line
unlock_make x = OnLock (Unlock (record { 0 = x.0 }) (record { 0 = x.1.0 }) x.1.1)

unlock_codec : IsCodec (print_both (print_field decimal)
    (print_both (print_field decimal) (print_field mode_text)))
    (both leading_seat (both leading_lock (field_at mode_named))) (λ x. IsBelow (2 ^ 16) x.0
    × (IsBelow (2 ^ 32) x.1.0 × Unit {0})) (Ends 32)
unlock_codec = both_codec seat_codec (both_codec lock_codec mode_codec)

pub unlock_takes : (rest : List ℕ) (line : Line) → unlock_of rest ≡ Some line
    → Spells (codes "unlock" ++ rest) line
unfolding unlock_of
unlock_takes =
    kind_takes unlock_codec unlock_make (codes "unlock") (λ x fits. (refl, (fits.0, fits.1.0)))

abbrev plain_make : Verb → (ℕ × ℕ) → Line
plain_make verb x = OnLock (Plain verb (record { 0 = x.0 }) (record { 0 = x.1 }))

plain_codec : IsCodec (print_both (print_field decimal) (print_field decimal))
    (both leading_seat leading_lock)
    (λ x. IsBelow (2 ^ 16) x.0 × IsBelow (2 ^ 32) x.1) (Ends 32)
plain_codec = both_codec seat_codec lock_codec

pub plain_takes : (verb : Verb) (rest : List ℕ) (line : Line) → plain_of verb rest ≡ Some line
    → Spells (verb_text verb ++ rest) line
unfolding plain_of
plain_takes verb =
    kind_takes plain_codec (plain_make verb) (verb_text verb) (λ x fits. (refl, (fits.0, fits.1)))

-- ---- steps of the lock itself

abbrev step_make : RawStep → (ℕ × ℕ) → Line
step_make step x = OnLock (Step (record { 0 = x.0 }) (record { 0 = x.1 }) step)

-- a step that has no field behind the lock
pub step_takes : (word : List ℕ) (step : RawStep)
    → ((x : ℕ × ℕ) → (x.0 < 2 ^ 16) × (x.1 < 2 ^ 32)
    → Spells (word ++ print_both (print_field decimal) (print_field decimal) x [])
    (step_make step x))
    → (rest : List ℕ) (line : Line) → step_of step rest ≡ Some line → Spells (word ++ rest) line
unfolding step_of
step_takes word step = kind_takes plain_codec (step_make step) word

pub take_takes : (rest : List ℕ) (line : Line) → step_of raw_step.Take rest ≡ Some line
    → Spells (codes "take" ++ rest) line
take_takes = step_takes (codes "take") raw_step.Take (λ x fits. (refl, fits))

pub free_takes : (rest : List ℕ) (line : Line) → step_of raw_step.Free rest ≡ Some line
    → Spells (codes "free" ++ rest) line
free_takes = step_takes (codes "free") raw_step.Free (λ x fits. (refl, fits))

pub raw_up_takes : (rest : List ℕ) (line : Line) → step_of raw_step.Up rest ≡ Some line
    → Spells (codes "rawup" ++ rest) line
raw_up_takes = step_takes (codes "rawup") raw_step.Up (λ x fits. (refl, fits))

pub raw_down_takes : (rest : List ℕ) (line : Line) → step_of raw_step.Down rest ≡ Some line
    → Spells (codes "rawdown" ++ rest) line
raw_down_takes = step_takes (codes "rawdown") raw_step.Down (λ x fits. (refl, fits))

abbrev try_take_make : (ℕ × (ℕ × Mode)) → Line
try_take_make x = OnLock (Step (record { 0 = x.0 }) (record { 0 = x.1.0 }) (raw_step.TryTake x.1.1))

pub try_take_takes : (rest : List ℕ) (line : Line) → try_take_of rest ≡ Some line
    → Spells (codes "trytake" ++ rest) line
unfolding try_take_of
try_take_takes =
    kind_takes unlock_codec try_take_make (codes "trytake") (λ x fits. (refl, (fits.0, fits.1.0)))

-- what is spelled of a step is read again
step_again : (s : SeatNo) (l : LockNo) (step : RawStep) → s.0 < 2 ^ 16 → l.0 < 2 ^ 32
    → fields_of (step_keyword step) (spaced (lock_line_fields (Step s l step)))
    ≡ Some (OnLock (Step s l step))
unfolding step_of try_take_of
step_again s l raw_step.Take p q =
    kind_again plain_codec tt (step_make raw_step.Take) (s.0, l.0) (p, q)
step_again s l (raw_step.TryTake m) p q =
    kind_again unlock_codec tt try_take_make (s.0, (l.0, m)) (p, (q, tt))
step_again s l raw_step.Free p q =
    kind_again plain_codec tt (step_make raw_step.Free) (s.0, l.0) (p, q)
step_again s l raw_step.Up p q = kind_again plain_codec tt (step_make raw_step.Up) (s.0, l.0) (p, q)
step_again s l raw_step.Down p q =
    kind_again plain_codec tt (step_make raw_step.Down) (s.0, l.0) (p, q)

-- what is spelled of a line on a lock is read again
pub lock_line_again : (line : LockLine (List ℕ)) → IsSpellableOnLock line
    → fields_of (lock_keyword line) (spaced (lock_line_fields line)) ≡ Some (OnLock line)
unfolding check_of try_of unlock_of plain_of
lock_line_again (Check s l m o f n) (p0, p1, p2, p3, p4) =
    kind_again check_codec tt check_make (s.0, (l.0, (m, (o.0, (f, n)))))
    (p0, (p1, (tt, (p2, (p3, p4)))))
lock_line_again (Try s l m f n) (p0, p1, p2, p3) =
    kind_again try_codec tt try_make (s.0, (l.0, (m, (f, n)))) (p0, (p1, (tt, (p2, p3))))
lock_line_again (Unlock s l m) (p0, p1) =
    kind_again unlock_codec tt unlock_make (s.0, (l.0, m)) (p0, (p1, tt))
lock_line_again (Step s l step) (p0, p1) = step_again s l step p0 p1
lock_line_again (Plain verb s l) (p0, p1) =
    kind_again plain_codec tt (plain_make verb) (s.0, l.0) (p0, p1)

-- ---- assertions, warnings, orders, watch levels

abbrev assert_make : (ℕ × (ℕ × ℕ)) → Line
assert_make x = Assert (record { 0 = x.0 }) (record { 0 = x.1.0 }) (record { 0 = x.1.1 })

assert_codec : IsCodec (print_both (print_field decimal)
    (print_both (print_field decimal) (print_field (flags_text assert_letters))))
    (both leading_seat (both leading_lock (field_at (flags_of assert_letters))))
    (λ x. IsBelow (2 ^ 16) x.0 × (IsBelow (2 ^ 32) x.1.0 × IsBelow 64 x.1.1)) (Ends 32)
assert_codec = both_codec seat_codec (both_codec lock_codec assert_flags_codec)

pub assert_takes : (rest : List ℕ) (line : Line) → assert_of rest ≡ Some line
    → Spells (codes "assert" ++ rest) line
unfolding assert_of
assert_takes =
    kind_takes assert_codec assert_make (codes "assert")
    (λ x fits. (refl, (fits.0, fits.1.0, fits.1.1)))

abbrev warn_make : (ℕ × (ℕ × ℕ)) → Line
warn_make x = Warn (record { 0 = x.0 }) (lock_if_any x.1.0) (record { 0 = x.1.1 })

warn_codec : IsCodec (print_both (print_field decimal)
    (print_both (print_field decimal) (print_field (flags_text warn_letters))))
    (both leading_seat (both leading_lock (field_at (flags_of warn_letters))))
    (λ x. IsBelow (2 ^ 16) x.0 × (IsBelow (2 ^ 32) x.1.0 × IsBelow 4 x.1.1)) (Ends 32)
warn_codec = both_codec seat_codec (both_codec lock_codec warn_flags_codec)

-- a number that names a lock, or none, is that lock's
number_named : (n : ℕ) → number_if_any (lock_if_any n) ≡ n
number_named n =
    elim (cases_eq n 0) [ inl none ↦ rw none refl | inr some ↦ rw (ne_eqb n 0 some) refl ]

named_if_any : (n : ℕ) → n < 2 ^ 32 → IfSome (lock_if_any n) IsNamed
named_if_any n small =
    elim (cases_eq n 0) [
      | inl none ↦ rw none tt
      | inr some ↦ rw (ne_eqb n 0 some)
          (omega arith, small)
    ]

-- a lock that can be named is found by its number
lock_again : (lock : Option LockNo) → IfSome lock IsNamed → lock_if_any (number_if_any lock) ≡ lock
lock_again None named = refl
lock_again (Some lock) named = rw (ne_eqb lock.0 0 (λ none. absurd (omega (arith, named.0)))) refl

pub number-lt : (lock : Option LockNo) → IfSome lock IsNamed → number_if_any lock < 2 ^ 32
number-lt None named = omega arith
number-lt (Some lock) named = named.1

pub warn_takes : (rest : List ℕ) (line : Line) → warn_of rest ≡ Some line
    → Spells (codes "warn" ++ rest) line
unfolding warn_of
warn_takes =
    kind_takes warn_codec warn_make (codes "warn")
    (λ x fits. (
      ap (λ (n : ℕ). codes "warn" ++ print_field decimal x.0
          (print_field decimal n (print_field (flags_text warn_letters) x.1.1 [])))
          (sym (number_named x.1.0)),
      (fits.0, named_if_any x.1.0 fits.1.0, fits.1.1),
    ))

abbrev define_make : (ℕ × (ℕ × ℕ)) → Line
define_make x = Define (record { 0 = x.0 }) (record { 0 = x.1.0 }) (record { 0 = x.1.1 })

define_codec : IsCodec (print_both (print_field decimal)
    (print_both (print_field decimal) (print_field decimal)))
    (both leading_seat (both leading_lock leading_lock)) (λ x. IsBelow (2 ^ 16) x.0
    × (IsBelow (2 ^ 32) x.1.0 × IsBelow (2 ^ 32) x.1.1)) (Ends 32)
define_codec = both_codec seat_codec (both_codec lock_codec lock_codec)

pub define_takes : (rest : List ℕ) (line : Line) → define_of rest ≡ Some line
    → Spells (codes "define" ++ rest) line
unfolding define_of
define_takes =
    kind_takes define_codec define_make (codes "define")
    (λ x fits. (refl, (fits.0, fits.1.0, fits.1.1)))

abbrev watch_make : (ℕ × level.Watch) → Line
watch_make x = Watch (record { 0 = x.0 }) x.1

watch_codec : IsCodec (print_both (print_field decimal) (print_field level_text))
    (both leading_seat (field_at level_named)) (λ x. IsBelow (2 ^ 16) x.0 × Unit {0}) (Ends 32)
watch_codec = both_codec seat_codec level_codec

pub watch_takes : (rest : List ℕ) (line : Line) → watch_line rest ≡ Some line
    → Spells (codes "watch" ++ rest) line
unfolding watch_line
watch_takes = kind_takes watch_codec watch_make (codes "watch") (λ x fits. (refl, fits.0))

-- what is spelled of such lines is read again
pub assert_again : (s : SeatNo) (l : LockNo) (a : LockAssert) → s.0 < 2 ^ 16
    → l.0 < 2 ^ 32 → a.0 < 64
    → assert_of (spaced (decimal s.0 ∷ decimal l.0 ∷ flags_text assert_letters a.0 ∷ []))
    ≡ Some (Assert s l a)
unfolding assert_of
assert_again s l a p q r = kind_again assert_codec tt assert_make (s.0, (l.0, a.0)) (p, (q, r))

pub warn_again : (s : SeatNo) (l : Option LockNo) (f : WarnFlags) → s.0 < 2 ^ 16
    → IfSome l IsNamed → f.0 < 4
    → warn_of (spaced (decimal s.0 ∷ decimal (number_if_any l) ∷ flags_text warn_letters f.0 ∷ []))
    ≡ Some (Warn s l f)
unfolding warn_of
warn_again s l f p q r =
    kind_again warn_codec tt warn_make (s.0, (number_if_any l, f.0)) (p, (number-lt l q, r))
    ∙ ap (λ (l : Option LockNo). Some (Warn s l f)) (lock_again l q)

pub define_again : (s : SeatNo) (a b : LockNo) → s.0 < 2 ^ 16 → a.0 < 2 ^ 32 → b.0 < 2 ^ 32
    → define_of (spaced (decimal s.0 ∷ decimal a.0 ∷ decimal b.0 ∷ [])) ≡ Some (Define s a b)
unfolding define_of
define_again s a b p q r = kind_again define_codec tt define_make (s.0, (a.0, b.0)) (p, (q, r))

pub watch_again : (s : SeatNo) (w : level.Watch) → s.0 < 2 ^ 16
    → watch_line (spaced (decimal s.0 ∷ level_text w ∷ [])) ≡ Some (Watch s w)
unfolding watch_line
watch_again s w p = kind_again watch_codec tt watch_make (s.0, w) (p, tt)
