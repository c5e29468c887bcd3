-- A line that has a spelling has a short one.
use Rattle.std.proofs.Common.{◌≡◌, ℕ, suc, ◌*◌, ◌/◌, ◌%◌, ◌^◌, ◌<◌, ◌≤◌, Bool, true, false, cond}
use Rattle.std.proofs.Common.{eqb, List, [], ◌∷◌, length, Option, Some, None, refl, arith, codes}
use Rattle.std.specs.Prelude.{IsTrue, IfSome}
use Rattle.std.specs.Fmt.{decimal}
use Rattle.std.proofs.lemmas.Bool.{and_parts, leb-true}
use Rattle.std.proofs.lemmas.Fmt.{length-decimal-le}
use Rattle.std.proofs.lemmas.List.{length-append}
use Rattle.wit_model.specs.declared.lines.Line.{Line}
use Rattle.wit_model.specs.declared.lines.Line.TheVariants.{Header, Profile, Order, Bless, Init}
use Rattle.wit_model.specs.declared.lines.Line.TheVariants.{OnLock, Assert, Warn, Define, Watch}
use Rattle.wit_model.specs.declared.lines.LockLine.{LockLine}
use Rattle.wit_model.specs.declared.lines.LockLine.TheVariants.{Check, Try, Unlock, Plain, Step}
use Rattle.wit_model.specs.declared.raw_steps.RawStep.{RawStep}
use Rattle.wit_model.specs.declared.raw_steps.RawStep.TheVariants as raw_step
use Rattle.wit_model.specs.declared.lines.Version.{Version}
use Rattle.wit_model.specs.declared.lines.Version.TheVariants.{One, Two}
use Rattle.wit_model.specs.declared.lines.Verb.TheVariants.{Note, GiveUp, Destroy, Upgrade}
use Rattle.wit_model.specs.declared.lines.Verb.TheVariants.{Downgrade, NoRelease, ReleaseOk}
use Rattle.wit_model.specs.declared.lines.Keyword.{Keyword}
use Rattle.wit_model.specs.declared.lines.Keyword.TheVariants as keyword
use Rattle.wit_model.proofs.Spelling.CallKinds.{number-lt}
use Rattle.wit_model.specs.declared.locks.LockNo.{LockNo}
use Rattle.wit_model.specs.declared.locks.SeatNo.{SeatNo}
use Rattle.wit_model.specs.declared.locks.Class.{Class}
use Rattle.wit_model.specs.declared.locks.Class.TheVariants.{SleepMutex, SpinMutex, Rw, Sx}
use Rattle.wit_model.specs.declared.locks.Mode.{Mode}
use Rattle.wit_model.specs.declared.locks.Mode.TheVariants.{Shared, Exclusive}
use Rattle.wit_model.specs.declared.locks.Watch as level
use Rattle.wit_model.specs.declared.locks.Watch.TheVariants.{On, Quiet, Off}
use Rattle.wit_model.specs.Rules.Names.{is_name, is_file_name, longest_name, longest_file_name}
use Rattle.wit_model.specs.Trace.Spelling.{version_text, keyword_text, with_keyword, step_keyword}
use Rattle.wit_model.specs.Trace.Spelling.{lock_keyword, lock_line_fields, class_text, mode_text}
use Rattle.wit_model.specs.Trace.Spelling.{level_text, lock_letters, op_letters, assert_letters}
use Rattle.wit_model.specs.Trace.Spelling.{warn_letters, number_if_any, chosen_letters, flags_text}
use Rattle.wit_model.specs.Trace.Spelling.{site_text, quoted, spaced, type_field, spelling}
use Rattle.wit_model.specs.Trace.Spelling.{IsSpellableOnLock, IsSpellable}
use Rattle.wit_model.specs.Trace.Outcomes.{longest_line}

-- a field that takes little of a line
abbrev IsShort : List ℕ → Type 0
IsShort field = length field ≤ 300

abbrev AreShort : List (List ℕ) → Type 0
AreShort [] = Unit {0}
AreShort (field ∷ fields) = IsShort field × AreShort fields

joined-le : (fields : List (List ℕ)) → AreShort fields
    → length (spaced fields) ≤ 301 * length fields
joined-le [] short = omega arith
joined-le (field ∷ fields) short = let rest : length (spaced fields) ≤ 301 * length fields =
    joined-le fields short.1 in omega (arith, length-append field (spaced fields), short.0)

keyword-le : (word : Keyword) → length (keyword_text word) ≤ 13
keyword-le keyword.Header = omega arith
keyword-le keyword.Profile = omega arith
keyword-le keyword.Order = omega arith
keyword-le keyword.Bless = omega arith
keyword-le keyword.Init = omega arith
keyword-le keyword.Check = omega arith
keyword-le keyword.Try = omega arith
keyword-le keyword.Unlock = omega arith
keyword-le (keyword.Plain Note) = omega arith
keyword-le (keyword.Plain GiveUp) = omega arith
keyword-le (keyword.Plain Destroy) = omega arith
keyword-le (keyword.Plain Upgrade) = omega arith
keyword-le (keyword.Plain Downgrade) = omega arith
keyword-le (keyword.Plain NoRelease) = omega arith
keyword-le (keyword.Plain ReleaseOk) = omega arith
keyword-le keyword.Take = omega arith
keyword-le keyword.TryTake = omega arith
keyword-le keyword.Free = omega arith
keyword-le keyword.RawUp = omega arith
keyword-le keyword.RawDown = omega arith
keyword-le keyword.Assert = omega arith
keyword-le keyword.Warn = omega arith
keyword-le keyword.Define = omega arith
keyword-le keyword.Watch = omega arith

line-le : (word : Keyword) (fields : List (List ℕ)) → length fields ≤ 9 → AreShort fields
    → length (with_keyword word fields) ≤ longest_line
line-le word fields few short =
    let rest : length (spaced fields) ≤ 301 * length fields = joined-le fields short in
    omega (arith, keyword-le word, length-append (keyword_text word) (spaced fields))

number-short : (n : ℕ) → n < 2 ^ 32 → IsShort (decimal n)
number-short n small = let e : length (decimal n) ≤ 10 =
    length-decimal-le 10 n (omega arith) (omega arith) (omega arith) in omega arith

version-short : (version : Version) → IsShort (version_text version)
version-short One = omega arith
version-short Two = omega arith

class-short : (class : Class) → IsShort (class_text class)
class-short SleepMutex = omega arith
class-short SpinMutex = omega arith
class-short Rw = omega arith
class-short Sx = omega arith

mode-short : (mode : Mode) → IsShort (mode_text mode)
mode-short Shared = omega arith
mode-short Exclusive = omega arith

level-short : (watch : level.Watch) → IsShort (level_text watch)
level-short On = omega arith
level-short Quiet = omega arith
level-short Off = omega arith

either-le : (odd : Bool) (letter n : ℕ) (word : List ℕ) → length word ≤ n
    → length (cond odd (letter ∷ word) word) ≤ suc n
either-le true letter n word h = omega arith
either-le false letter n word h = omega arith

chosen-le : (letters : List ℕ) (bits : ℕ) → length (chosen_letters letters bits) ≤ length letters
chosen-le [] bits = omega arith
chosen-le (letter ∷ letters) bits =
    either-le (eqb (bits % 2) 1) letter (length letters) (chosen_letters letters (bits / 2))
    (chosen-le letters (bits / 2))

flags-short : (letters : List ℕ) (bits : ℕ) → length letters ≤ 300
    → IsShort (flags_text letters bits)
flags-short letters bits few = either (eqb bits 0)
  where
    either : (none : Bool) → IsShort (cond none (codes "-") (chosen_letters letters bits))
    either true = omega arith
    either false = omega (arith, chosen-le letters bits)

name-le : (name : List ℕ) → IsTrue (is_name name) → length name ≤ longest_name
name-le name h = leb-true (length name) longest_name (and_parts _ _ (and_parts _ _ h).0).1

file-le : (file : List ℕ) → IsTrue (is_file_name file) → length file ≤ longest_file_name
file-le file h = leb-true (length file) longest_file_name (and_parts _ _ (and_parts _ _ h).0).1

name-short : (name : List ℕ) → IsTrue (is_name name) → IsShort (quoted name)
name-short name h = omega (arith, name-le name h, length-append name (34 ∷ []))

site-short : (file : List ℕ) (line : ℕ) → IsTrue (is_file_name file) → line < 2 ^ 32
    → IsShort (site_text file line)
site-short file line h small =
    let digits : length (decimal line) ≤ 10 =
    length-decimal-le 10 line (omega arith) (omega arith) (omega arith) in
    omega (arith, file-le file h, length-append file (58 ∷ decimal line))

init-le : (seat : ℕ) (class : Class) (flags : ℕ) (name : List ℕ) (type_name : Option (List ℕ))
    → seat < 2 ^ 16 → IsTrue (is_name name) → IfSome type_name (λ t. IsTrue (is_name t))
    → length (with_keyword keyword.Init (decimal seat ∷ class_text class
    ∷ flags_text lock_letters flags ∷ quoted name ∷ type_field type_name)) ≤ longest_line
init-le seat class flags name None p q r =
    line-le keyword.Init (decimal seat ∷ class_text class ∷ flags_text lock_letters flags
    ∷ quoted name ∷ []) (omega arith) (
      number-short seat (omega arith),
      (
        class-short class,
        (
          flags-short lock_letters flags (omega arith),
          (name-short name q, tt),
        ),
      ),
    )
init-le seat class flags name (Some t) p q r =
    line-le keyword.Init (decimal seat ∷ class_text class ∷ flags_text lock_letters flags
    ∷ quoted name ∷ quoted t ∷ []) (omega arith) (
      number-short seat (omega arith),
      (
        class-short class,
        (
          flags-short lock_letters flags (omega arith),
          (name-short name q, (name-short t r, tt)),
        ),
      ),
    )

plain-le : (word : Keyword) (s l : ℕ) → s < 2 ^ 16 → l < 2 ^ 32
    → length (with_keyword word (decimal s ∷ decimal l ∷ [])) ≤ longest_line
plain-le word s l p q =
    line-le word (decimal s ∷ decimal l ∷ []) (omega arith)
    (number-short s (omega arith), (number-short l q, tt))

step-le : (s : SeatNo) (l : LockNo) (step : RawStep) → s.0 < 2 ^ 16 → l.0 < 2 ^ 32
    → length (with_keyword (step_keyword step) (lock_line_fields (Step s l step))) ≤ longest_line
step-le s l (raw_step.TryTake m) p q =
    line-le keyword.TryTake (decimal s.0 ∷ decimal l.0 ∷ mode_text m ∷ []) (omega arith)
    (number-short s.0 (omega arith), (number-short l.0 q, (mode-short m, tt)))
step-le s l raw_step.Take p q = plain-le keyword.Take s.0 l.0 p q
step-le s l raw_step.Free p q = plain-le keyword.Free s.0 l.0 p q
step-le s l raw_step.Up p q = plain-le keyword.RawUp s.0 l.0 p q
step-le s l raw_step.Down p q = plain-le keyword.RawDown s.0 l.0 p q

on-lock-le : (line : LockLine (List ℕ)) → IsSpellableOnLock line
    → length (with_keyword (lock_keyword line) (lock_line_fields line)) ≤ longest_line
on-lock-le (Check s l m o f n) (p0, p1, p2, p3, p4) =
    line-le keyword.Check (lock_line_fields (Check s l m o f n)) (omega arith) (
      number-short s.0 (omega arith),
      (
        number-short l.0 p1,
        (
          mode-short m,
          (flags-short op_letters o.0 (omega arith), (site-short f n p3 p4, tt)),
        ),
      ),
    )
on-lock-le (Try s l m f n) (p0, p1, p2, p3) =
    line-le keyword.Try (lock_line_fields (Try s l m f n)) (omega arith) (
      number-short s.0 (omega arith),
      (number-short l.0 p1, (mode-short m, (site-short f n p2 p3, tt))),
    )
on-lock-le (Unlock s l m) (p0, p1) =
    line-le keyword.Unlock (lock_line_fields (Unlock s l m)) (omega arith)
    (number-short s.0 (omega arith), (number-short l.0 p1, (mode-short m, tt)))
on-lock-le (Plain verb s l) (p0, p1) = plain-le (keyword.Plain verb) s.0 l.0 p0 p1
on-lock-le (Step s l step) (p0, p1) = step-le s l step p0 p1

-- a line of another kind than a list
pub spelled-le : (line : Line) → IsSpellable line
    → ((list : List (Class × List ℕ)) → line ≡ Order list → ⊥)
    → length (spelling line) ≤ longest_line
spelled-le (Header v s t l c) (p0, p1, p2, p3) other =
    line-le keyword.Header
    (version_text v ∷ codes "seats" ∷ decimal s ∷ codes "types" ∷ decimal t
    ∷ codes "locks" ∷ decimal l
    ∷ codes "chunks" ∷ decimal c ∷ []) (omega arith) (
      version-short v,
      (
        omega arith,
        (
          number-short s p0,
          (
            omega arith,
            (
              number-short t p1,
              (omega arith, (number-short l p2, (omega arith, (number-short c p3, tt)))),
            ),
          ),
        ),
      ),
    )
spelled-le Profile spellable other =
    line-le keyword.Profile (codes "all" ∷ []) (omega arith) (omega arith, tt)
spelled-le (Order list) spellable other = absurd (other list refl)
spelled-le (Bless a b) (p0, p1) other =
    line-le keyword.Bless (quoted a ∷ quoted b ∷ []) (omega arith)
    (name-short a p0, (name-short b p1, tt))
spelled-le (Init seat lock) (p0, p1) other =
    init-le seat.0 lock.class lock.flags.0 lock.name lock.type_name p0 p1.1 p1.2
spelled-le (OnLock line) p other = on-lock-le line p
spelled-le (Assert s l a) (p0, p1, p2) other =
    line-le keyword.Assert (decimal s.0 ∷ decimal l.0 ∷ flags_text assert_letters a.0 ∷ [])
    (omega arith) (
      number-short s.0 (omega arith),
      (number-short l.0 p1, (flags-short assert_letters a.0 (omega arith), tt)),
    )
spelled-le (Warn s l f) (p0, p1, p2) other =
    line-le keyword.Warn (decimal s.0 ∷ decimal (number_if_any l) ∷ flags_text warn_letters f.0
    ∷ []) (omega arith) (
      number-short s.0 (omega arith),
      (
        number-short (number_if_any l) (number-lt l p1),
        (flags-short warn_letters f.0 (omega arith), tt),
      ),
    )
spelled-le (Define s a b) (p0, p1, p2) other =
    line-le keyword.Define (decimal s.0 ∷ decimal a.0 ∷ decimal b.0 ∷ []) (omega arith)
    (number-short s.0 (omega arith), (number-short a.0 p1, (number-short b.0 p2, tt)))
spelled-le (Watch s w) p0 other =
    line-le keyword.Watch (decimal s.0 ∷ level_text w ∷ []) (omega arith)
    (number-short s.0 (omega arith), (level-short w, tt))
