-- The fields of a line are printed and read alike.
use Rattle.std.proofs.Common.{◌≡◌, ℕ, ◌^◌, ◌<◌, Bool, true, false, not, ◌&&◌, eqb, List, [], ◌∷◌}
use Rattle.std.proofs.Common.{◌++◌, Option, Some, refl, sym, ap, subst, ◌∙◌, append_assoc, arith}
use Rattle.std.specs.Prelude.{IsTrue}
use Rattle.std.specs.Fmt.{decimal}
use Rattle.std.specs.List.{list_all}
use Rattle.std.proofs.lemmas.Bool.{and_parts, not-true, ne_eqb}
use Rattle.std.proofs.lemmas.Option.{cond_some}
use Rattle.wit_model.specs.Rules.Names.{is_name, is_name_byte, is_file_name}
use Rattle.wit_model.specs.Trace.Spelling.{version_text, class_text, mode_text, level_text}
use Rattle.wit_model.specs.Trace.Spelling.{lock_letters, op_letters, assert_letters, warn_letters}
use Rattle.wit_model.specs.Trace.Spelling.{flags_text, site_text, quoted}
use Rattle.wit_model.specs.Trace.Reading.{◌>>=◌, after, until, accepted, version_named, class_named}
use Rattle.wit_model.specs.Trace.Reading.{mode_named, level_named, flags_of, site_of, field_at}
use Rattle.wit_model.specs.Trace.Reading.{leading_quoted, optional, leading_count, leading_seat}
use Rattle.wit_model.specs.Trace.Reading.{leading_lock}
use Rattle.wit_model.proofs.Spelling.Codecs.{IsCodec, EndsHere, FitsIfAny, Lacks, Lacks-all}
use Rattle.wit_model.proofs.Spelling.Codecs.{Lacks-test, Ends, bind_some, some_is, until_end}
use Rattle.wit_model.proofs.Spelling.Codecs.{until_whole, after_some, print_field, print_optional}
use Rattle.wit_model.proofs.Spelling.Codecs.{field_codec, optional_codec}
use Rattle.wit_model.proofs.Spelling.Named.{version_word, class_word, mode_word, level_word}
use Rattle.wit_model.proofs.Spelling.Words.{HaveNoTwin, AreLetters, number_word, flags_word}
use Rattle.wit_model.proofs.Spelling.Sites.{site_word}

-- ---- names

not_name_byte : (b : ℕ) → is_name_byte b ≡ true → eqb b 34 ≡ false
not_name_byte b name = not-true _ (and_parts _ _ name).1

-- what is read of a name once its end is found
abbrev closed : List ℕ × List ℕ → Option (List ℕ × List ℕ)
closed parts = accepted is_name parts.0 >>= λ name. after 34 parts.1 >>= λ rest. Some (name, rest)

quoted_inside : (name rest : List ℕ) → quoted name ++ rest ≡ 34 ∷ (name ++ 34 ∷ rest)
quoted_inside name rest = ap (λ (w : List ℕ). 34 ∷ w) (append_assoc name (34 ∷ []) rest)

quoted_again : (name rest : List ℕ) → is_name name ≡ true
    → leading_quoted (print_field quoted name rest) ≡ Some (name, rest)
unfolding leading_quoted
quoted_again name rest fits =
    let lacks : Lacks 34 name =
    Lacks-all is_name_byte 34 not_name_byte name (and_parts _ _ fits).1 in
    ap (λ (w : List ℕ). leading_quoted (32 ∷ w)) (quoted_inside name rest)
    ∙ ap closed (until_end 34 name (34 ∷ rest) lacks refl) ∙ rw fits refl

quoted_takes : (bytes name rest : List ℕ) → leading_quoted bytes ≡ Some (name, rest)
    → (bytes ≡ print_field quoted name rest) × IsTrue (is_name name)
unfolding leading_quoted
quoted_takes bytes name rest e =
    let o =
    bind_some (after 32 bytes) (λ opened. after 34 opened >>= λ inside.
    closed (until 34 inside)) (name, rest) e in
    let i = bind_some (after 34 o.0) (λ inside. closed (until 34 inside)) (name, rest) o.2 in
    let n =
    bind_some (accepted is_name (until 34 i.0).0)
    (λ name. after 34 (until 34 i.0).1 >>= λ rest. Some (name, rest)) (name, rest) i.2 in
    let r = bind_some (after 34 (until 34 i.0).1) (λ rest. Some (n.0, rest)) (name, rest) n.2 in
    let h = cond_some (is_name (until 34 i.0).0) (until 34 i.0).0 n.0 n.1 in
    let good : is_name n.0 ≡ true = ap is_name (sym h.1) ∙ h.0 in
    let inside : i.0 ≡ n.0 ++ 34 ∷ r.0 =
    until_whole 34 i.0 ∙ ap (λ (w : List ℕ). w ++ (until 34 i.0).1) h.1
    ∙ ap (λ (w : List ℕ). n.0 ++ w) (after_some 34 (until 34 i.0).1 r.0 r.1) in
    let outside : bytes ≡ print_field quoted n.0 r.0 =
    after_some 32 bytes o.0 o.1 ∙ ap (λ (w : List ℕ). 32 ∷ w)
    (after_some 34 o.0 i.0 i.1 ∙ ap (λ (w : List ℕ). 34 ∷ w) inside
    ∙ sym (quoted_inside n.0 r.0)) in
    let same : (n.0, r.0) ≡ (name, rest) = some_is (n.0, r.0) (name, rest) r.2 in
    subst (λ (y : List ℕ × List ℕ). (bytes ≡ print_field quoted y.0 y.1)
    × IsTrue (is_name y.0)) same (outside, good)

-- whatever follows it
pub quoted_codec : (Rest : List ℕ → Type 0)
    → IsCodec (print_field quoted) leading_quoted (λ name. IsTrue (is_name name)) Rest
quoted_codec Rest = record {
  starts = λ name rest ends. refl;
  again = λ name rest fits ends. quoted_again name rest fits;
  takes = λ bytes name rest e. quoted_takes bytes name rest e;
}

pub type_name_codec : IsCodec (print_optional (print_field quoted)) (optional leading_quoted)
    (FitsIfAny (λ name. IsTrue (is_name name))) EndsHere
type_name_codec =
    optional_codec (λ name rest. ne_eqb _ 0 (λ e. absurd (omega arith))) (quoted_codec EndsHere)

-- ---- fields

abbrev pub IsBelow : ℕ → ℕ → Type 0
IsBelow bound n = n < bound

pub count_codec : IsCodec (print_field decimal) leading_count (IsBelow (2 ^ 32)) (Ends 32)
unfolding leading_count
count_codec = field_codec (number_word (2 ^ 32) (omega arith))

pub seat_codec : IsCodec (print_field decimal) leading_seat (IsBelow (2 ^ 16)) (Ends 32)
unfolding leading_seat
seat_codec = field_codec (number_word (2 ^ 16) (omega arith))

pub lock_codec : IsCodec (print_field decimal) leading_lock (IsBelow (2 ^ 32)) (Ends 32)
unfolding leading_lock
lock_codec = field_codec (number_word (2 ^ 32) (omega arith))

pub version_codec : IsCodec (print_field version_text) (field_at version_named)
    (λ version. Unit {0}) (Ends 32)
version_codec = field_codec version_word

pub mode_codec : IsCodec (print_field mode_text) (field_at mode_named) (λ mode. Unit {0}) (Ends 32)
mode_codec = field_codec mode_word

pub level_codec : IsCodec (print_field level_text) (field_at level_named)
    (λ watch. Unit {0}) (Ends 32)
level_codec = field_codec level_word

pub class_codec : IsCodec (print_field class_text) (field_at class_named)
    (λ class. Unit {0}) (Ends 32)
class_codec = field_codec class_word

-- letters that are told from one another, from a space and from a dash
abbrev distinct : List ℕ → Bool
distinct [] = true
distinct (letter ∷ letters) = list_all (λ b. not (eqb b letter)) letters && distinct letters

distinct-are : (letters : List ℕ) → distinct letters ≡ true → HaveNoTwin letters
distinct-are [] all = tt
distinct-are (letter ∷ letters) all =
    let h = and_parts (list_all (λ b. not (eqb b letter)) letters) (distinct letters) all in
    (Lacks-test letter letters h.0, distinct-are letters h.1)

good_letters : (letters : List ℕ) → distinct letters ≡ true
    → list_all (λ b. not (eqb b 32)) letters ≡ true → list_all (λ b. not (eqb b 45)) letters ≡ true
    → AreLetters letters
good_letters letters one plain no_dash = record {
  distinct = distinct-are letters one;
  plain = Lacks-test 32 letters plain;
  no_dash = Lacks-test 45 letters no_dash;
}

abbrev IsFlags : List ℕ → ℕ → Type 0
IsFlags letters bound =
    IsCodec (print_field (flags_text letters)) (field_at (flags_of letters))
    (IsBelow bound) (Ends 32)

pub lock_flags_codec : IsFlags lock_letters 4
lock_flags_codec = field_codec (flags_word lock_letters (good_letters lock_letters refl refl refl))

pub op_flags_codec : IsFlags op_letters 8
op_flags_codec = field_codec (flags_word op_letters (good_letters op_letters refl refl refl))

pub assert_flags_codec : IsFlags assert_letters 64
assert_flags_codec =
    field_codec (flags_word assert_letters (good_letters assert_letters refl refl refl))

pub warn_flags_codec : IsFlags warn_letters 4
warn_flags_codec = field_codec (flags_word warn_letters (good_letters warn_letters refl refl refl))

pub site_codec : IsCodec (print_field (λ x. site_text x.0 x.1)) (field_at site_of)
    (λ x. IsTrue (is_file_name x.0) × IsBelow (2 ^ 32) x.1) (Ends 32)
site_codec = field_codec site_word
