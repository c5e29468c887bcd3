-- The most frequent mode and the most frequent flag.
use Rattle.std.proofs.Common.{◌≡◌, ℕ, List, ◌++◌, Some, codes, drop, refl, sym, subst}
use Rattle.wit_model.specs.declared.locks.Mode.TheVariants.{Exclusive}
use Rattle.wit_model.specs.Trace.Fields.{field_at, leading_word}
use Rattle.wit_model.specs.Trace.Spelling.{op_letters}
use Rattle.wit_model.specs.Trace.Words.{mode_named, flags_of}

pub is-last-x : (bytes : List ℕ) → bytes ≡ codes " x"
    → field_at mode_named bytes ≡ Some (Exclusive, drop 2 bytes)
unfolding mode_named leading_word
is-last-x bytes is =
    subst (λ xs. field_at mode_named xs ≡ Some (Exclusive, drop 2 xs)) (sym is) refl

pub is-inner-x : (bytes tail : List ℕ) → bytes ≡ codes " x " ++ tail
    → field_at mode_named bytes ≡ Some (Exclusive, drop 2 bytes)
unfolding mode_named leading_word
is-inner-x bytes tail is =
    subst (λ xs. field_at mode_named xs ≡ Some (Exclusive, drop 2 xs)) (sym is) refl

pub is-inner-n : (bytes tail : List ℕ) → bytes ≡ codes " n " ++ tail
    → field_at (flags_of op_letters) bytes ≡ Some (1, drop 2 bytes)
unfolding flags_of leading_word
is-inner-n bytes tail is =
    subst (λ xs. field_at (flags_of op_letters) xs ≡ Some (1, drop 2 xs)) (sym is) refl
