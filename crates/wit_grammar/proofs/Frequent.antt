-- Lines that begin with one of the most frequent keywords.
use Rattle.std.proofs.Common.{◌≡◌, ℕ, List, ◌++◌, codes, drop, refl, sym, subst}
use Rattle.wit_model.specs.declared.lines.Keyword.TheVariants.{Check, Unlock, Plain, Take, Free}
use Rattle.wit_model.specs.declared.lines.Verb.TheVariants.{Note}
use Rattle.wit_model.specs.Trace.Reading.{fields_of, line_of}
use Rattle.wit_model.specs.Trace.Words.{keyword_named}

module _ (bytes tail : List ℕ) where
  pub is-lock : bytes ≡ codes "lock " ++ tail
      → line_of bytes ≡ fields_of (Plain Note) (drop 4 bytes)
  unfolding line_of keyword_named
  is-lock is =
      subst (λ xs. line_of xs ≡ fields_of (Plain Note) (drop 4 xs)) (sym is) refl

  pub is-unlock : bytes ≡ codes "unlock " ++ tail
      → line_of bytes ≡ fields_of Unlock (drop 6 bytes)
  unfolding line_of keyword_named
  is-unlock is =
      subst (λ xs. line_of xs ≡ fields_of Unlock (drop 6 xs)) (sym is) refl

  pub is-check : bytes ≡ codes "check " ++ tail
      → line_of bytes ≡ fields_of Check (drop 5 bytes)
  unfolding line_of keyword_named
  is-check is =
      subst (λ xs. line_of xs ≡ fields_of Check (drop 5 xs)) (sym is) refl

  pub is-take : bytes ≡ codes "take " ++ tail
      → line_of bytes ≡ fields_of Take (drop 4 bytes)
  unfolding line_of keyword_named
  is-take is =
      subst (λ xs. line_of xs ≡ fields_of Take (drop 4 xs)) (sym is) refl

  pub is-free : bytes ≡ codes "free " ++ tail
      → line_of bytes ≡ fields_of Free (drop 4 bytes)
  unfolding line_of keyword_named
  is-free is =
      subst (λ xs. line_of xs ≡ fields_of Free (drop 4 xs)) (sym is) refl
