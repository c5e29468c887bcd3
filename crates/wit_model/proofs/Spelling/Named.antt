-- Words that name one of a few values are printed and read alike.
use Rattle.std.proofs.Common.{◌≡◌, ℕ, true, not, eqb, List, [], ◌∷◌, Some, refl}
use Rattle.std.specs.List.{list_all}
use Rattle.wit_model.specs.Trace.Reading.{version_named, class_named, mode_named, level_named}
use Rattle.wit_model.specs.Trace.Reading.{keyword_named, keywords}
use Rattle.wit_model.specs.Trace.Spelling.{version_text, class_text, mode_text, level_text}
use Rattle.wit_model.specs.Trace.Spelling.{keyword_text}
use Rattle.wit_model.specs.declared.lines.Version.{Version}
use Rattle.wit_model.specs.declared.lines.Version.TheVariants.{One, Two}
use Rattle.wit_model.specs.declared.lines.Verb.TheVariants.{Note, GiveUp, Destroy, Upgrade}
use Rattle.wit_model.specs.declared.lines.Verb.TheVariants.{Downgrade, NoRelease, ReleaseOk}
use Rattle.wit_model.specs.declared.lines.Keyword.{Keyword}
use Rattle.wit_model.specs.declared.lines.Keyword.TheVariants as keyword
use Rattle.wit_model.specs.declared.locks.Class.{Class}
use Rattle.wit_model.specs.declared.locks.Class.TheVariants.{SleepMutex, SpinMutex, Rw, Sx}
use Rattle.wit_model.specs.declared.locks.Mode.{Mode}
use Rattle.wit_model.specs.declared.locks.Mode.TheVariants.{Shared, Exclusive}
use Rattle.wit_model.specs.declared.locks.Watch.{Watch}
use Rattle.wit_model.specs.declared.locks.Watch.TheVariants.{On, Quiet, Off}
use Rattle.wit_model.proofs.Spelling.Codecs.{IsWord, Lacks, Lacks-test, named_takes, named_word}

pub version_word : IsWord version_text version_named (λ version. Unit {0})
unfolding version_named
version_word = named_word version_text (One ∷ Two ∷ []) plain again
  where
    plain : (version : Version) → list_all (λ b. not (eqb b 32)) (version_text version) ≡ true
    plain One = refl
    plain Two = refl

    again : (version : Version) → version_named (version_text version) ≡ Some version
    again One = refl
    again Two = refl

pub class_word : IsWord class_text class_named (λ class. Unit {0})
unfolding class_named
class_word = named_word class_text (SleepMutex ∷ SpinMutex ∷ Rw ∷ Sx ∷ []) plain again
  where
    plain : (class : Class) → list_all (λ b. not (eqb b 32)) (class_text class) ≡ true
    plain SleepMutex = refl
    plain SpinMutex = refl
    plain Rw = refl
    plain Sx = refl

    again : (class : Class) → class_named (class_text class) ≡ Some class
    again SleepMutex = refl
    again SpinMutex = refl
    again Rw = refl
    again Sx = refl

pub mode_word : IsWord mode_text mode_named (λ mode. Unit {0})
unfolding mode_named
mode_word = named_word mode_text (Shared ∷ Exclusive ∷ []) plain again
  where
    plain : (mode : Mode) → list_all (λ b. not (eqb b 32)) (mode_text mode) ≡ true
    plain Shared = refl
    plain Exclusive = refl

    again : (mode : Mode) → mode_named (mode_text mode) ≡ Some mode
    again Shared = refl
    again Exclusive = refl

pub level_word : IsWord level_text level_named (λ watch. Unit {0})
unfolding level_named
level_word = named_word level_text (On ∷ Quiet ∷ Off ∷ []) plain again
  where
    plain : (watch : Watch) → list_all (λ b. not (eqb b 32)) (level_text watch) ≡ true
    plain On = refl
    plain Quiet = refl
    plain Off = refl

    again : (watch : Watch) → level_named (level_text watch) ≡ Some watch
    again On = refl
    again Quiet = refl
    again Off = refl

no_space : (word : Keyword) → list_all (λ b. not (eqb b 32)) (keyword_text word) ≡ true
no_space keyword.Header = refl
no_space keyword.Profile = refl
no_space keyword.Order = refl
no_space keyword.Bless = refl
no_space keyword.Init = refl
no_space keyword.Check = refl
no_space keyword.Try = refl
no_space keyword.Unlock = refl
no_space (keyword.Plain Note) = refl
no_space (keyword.Plain GiveUp) = refl
no_space (keyword.Plain Destroy) = refl
no_space (keyword.Plain Upgrade) = refl
no_space (keyword.Plain Downgrade) = refl
no_space (keyword.Plain NoRelease) = refl
no_space (keyword.Plain ReleaseOk) = refl
no_space keyword.Take = refl
no_space keyword.TryTake = refl
no_space keyword.Free = refl
no_space keyword.RawUp = refl
no_space keyword.RawDown = refl
no_space keyword.Assert = refl
no_space keyword.Warn = refl
no_space keyword.Define = refl
no_space keyword.Watch = refl

-- a keyword holds no space
pub keyword_plain : (word : Keyword) → Lacks 32 (keyword_text word)
keyword_plain word = Lacks-test 32 (keyword_text word) (no_space word)

pub keyword_takes : (bytes : List ℕ) (word : Keyword) → keyword_named bytes ≡ Some word
    → bytes ≡ keyword_text word
unfolding keyword_named
keyword_takes = named_takes keyword_text keywords

pub keyword_again : (word : Keyword) → keyword_named (keyword_text word) ≡ Some word
unfolding keyword_named
keyword_again keyword.Header = refl
keyword_again keyword.Profile = refl
keyword_again keyword.Order = refl
keyword_again keyword.Bless = refl
keyword_again keyword.Init = refl
keyword_again keyword.Check = refl
keyword_again keyword.Try = refl
keyword_again keyword.Unlock = refl
keyword_again (keyword.Plain Note) = refl
keyword_again (keyword.Plain GiveUp) = refl
keyword_again (keyword.Plain Destroy) = refl
keyword_again (keyword.Plain Upgrade) = refl
keyword_again (keyword.Plain Downgrade) = refl
keyword_again (keyword.Plain NoRelease) = refl
keyword_again (keyword.Plain ReleaseOk) = refl
keyword_again keyword.Take = refl
keyword_again keyword.TryTake = refl
keyword_again keyword.Free = refl
keyword_again keyword.RawUp = refl
keyword_again keyword.RawDown = refl
keyword_again keyword.Assert = refl
keyword_again keyword.Warn = refl
keyword_again keyword.Define = refl
keyword_again keyword.Watch = refl
