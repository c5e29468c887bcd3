-- Reading the words of a line: numbers, keywords, letters, a file with a line.
use Rattle.std.specs.Prelude.{ℕ, ◌+◌, ◌*◌, ◌^◌, Bool, ◌&&◌, ◌||◌, not, List, [], ◌∷◌, length, take}
use Rattle.std.specs.Prelude.{drop, Option, Some, None, nat_lt, codes, ◌==◌, if◌then◌else◌}
use Rattle.std.specs.Prelude.{slice_index}
use Rattle.std.specs.List.{position_or_len, list_all}
use Rattle.std.specs.Char.{is_ascii_digit}
use Rattle.std.specs.Str.{bytes_eq}
use Rattle.std.specs.Str.Parse.{digits_value}
use Rattle.wit_model.specs.declared.lines.Version.{Version}
use Rattle.wit_model.specs.declared.lines.Version.TheVariants.{One, Two}
use Rattle.wit_model.specs.declared.lines.Verb.TheVariants.{Note, GiveUp, Destroy, Upgrade}
use Rattle.wit_model.specs.declared.lines.Verb.TheVariants.{Downgrade, NoRelease, ReleaseOk}
use Rattle.wit_model.specs.declared.lines.Keyword.{Keyword}
use Rattle.wit_model.specs.declared.lines.Keyword.TheVariants as keyword
use Rattle.wit_model.specs.declared.locks.Class.{Class}
use Rattle.wit_model.specs.declared.locks.Class.TheVariants.{SleepMutex, SpinMutex, Rw, Sx}
use Rattle.wit_model.specs.declared.locks.Mode.{Mode}
use Rattle.wit_model.specs.declared.locks.Mode.TheVariants.{Shared, Exclusive}
use Rattle.wit_model.specs.declared.locks.Watch as level
use Rattle.wit_model.specs.declared.locks.Watch.TheVariants.{On, Quiet, Off}
use Rattle.wit_model.specs.Rules.Names.{is_file_name}
use Rattle.wit_model.specs.Trace.Spelling.{version_text, keyword_text, class_text, mode_text}
use Rattle.wit_model.specs.Trace.Spelling.{level_text}

infixl 10 ◌>>=◌
abbrev pub ◌>>=◌ : {A B : Type 0} → Option A → (A → Option B) → Option B
None >>= f = None
(Some x) >>= f = f x

-- ---- pieces

-- what follows the byte that must stand first
abbrev pub after : ℕ → List ℕ → Option (List ℕ)
after byte [] = None
after byte (b ∷ bytes) = if b == byte then Some bytes else None

-- where the byte stands first, or the length
abbrev pub byte_place : ℕ → List ℕ → ℕ
byte_place byte bytes = position_or_len (λ b. b == byte) bytes

-- what stands before the byte, and the rest from there on
abbrev pub until : ℕ → List ℕ → List ℕ × List ℕ
until byte bytes = (take (byte_place byte bytes) bytes, drop (byte_place byte bytes) bytes)

-- a byte before what was parted behind it; where nothing was, it may be the byte itself that parts
abbrev pub parted_before : ℕ → Bool → List ℕ → Option (List ℕ × List ℕ) → Option (List ℕ × List ℕ)
parted_before b parts bytes (Some x) = Some (b ∷ x.0, x.1)
parted_before b parts bytes None = if parts then Some ([], bytes) else None

-- what stands before the last such byte, and what stands behind it
abbrev pub parted_at_last : ℕ → List ℕ → Option (List ℕ × List ℕ)
parted_at_last byte [] = None
parted_at_last byte (b ∷ bytes) = parted_before b (b == byte) bytes (parted_at_last byte bytes)

-- ---- words

-- `0`, or digits that don't begin with it
abbrev pub is_numeral : List ℕ → Bool
is_numeral word =
    list_all is_ascii_digit word && not (length word == 0)
    && (not (slice_index word 0 == 48) || (length word == 1))

-- a number below a bound
abbrev pub number_of : ℕ → List ℕ → Option ℕ
number_of bound word =
    if is_numeral word && nat_lt (digits_value 10 word) bound
    then Some (digits_value 10 word) else None

-- the value among these that a word names
abbrev pub named : {A : Type 0} → (A → List ℕ) → List A → List ℕ → Option A
named text [] word = None
named text (value ∷ values) word =
    if bytes_eq word (text value) then Some value else named text values word

unfoldable pub version_named : List ℕ → Option Version
version_named = named version_text (One ∷ Two ∷ [])

unfoldable pub class_named : List ℕ → Option Class
class_named = named class_text (SleepMutex ∷ SpinMutex ∷ Rw ∷ Sx ∷ [])

unfoldable pub mode_named : List ℕ → Option Mode
mode_named = named mode_text (Shared ∷ Exclusive ∷ [])

unfoldable pub level_named : List ℕ → Option level.Watch
level_named = named level_text (On ∷ Quiet ∷ Off ∷ [])

-- all keywords
abbrev pub keywords : List Keyword
keywords =
    keyword.Check ∷ keyword.Plain Note ∷ keyword.Unlock ∷ keyword.Try ∷ keyword.Plain GiveUp
    ∷ keyword.Plain Destroy ∷ keyword.Plain Upgrade ∷ keyword.Plain Downgrade
    ∷ keyword.Plain NoRelease ∷ keyword.Plain ReleaseOk ∷ keyword.Take ∷ keyword.Free
    ∷ keyword.TryTake ∷ keyword.RawUp ∷ keyword.RawDown ∷ keyword.Init ∷ keyword.Assert
    ∷ keyword.Warn ∷ keyword.Define ∷ keyword.Watch ∷ keyword.Order ∷ keyword.Bless
    ∷ keyword.Profile ∷ keyword.Header ∷ []

unfoldable pub keyword_named : List ℕ → Option Keyword
keyword_named = named keyword_text keywords

-- the bits of letters that stand in order, none twice
abbrev pub bits_of : List ℕ → List ℕ → Option ℕ
bits_of [] word = if length word == 0 then Some 0 else None
bits_of (letter ∷ letters) [] = bits_of letters [] >>= λ bits. Some (2 * bits)
bits_of (letter ∷ letters) (b ∷ word) =
    if b == letter then (bits_of letters word >>= λ bits. Some (2 * bits + 1))
    else (bits_of letters (b ∷ word) >>= λ bits. Some (2 * bits))

-- flags: a dash, or letters
unfoldable pub flags_of : List ℕ → List ℕ → Option ℕ
flags_of letters word =
    if bytes_eq word (codes "-") then Some 0 else if length word == 0 then None
    else bits_of letters word

-- text that passes a test
abbrev pub accepted : (List ℕ → Bool) → List ℕ → Option (List ℕ)
accepted test text = if test text then Some text else None

-- a file and a line, parted at the last colon
unfoldable pub site_of : List ℕ → Option (List ℕ × ℕ)
site_of word =
    parted_at_last 58 word >>= λ parts. accepted is_file_name parts.0 >>= λ file.
    number_of (2 ^ 32) parts.1 >>= λ line. Some (file, line)
