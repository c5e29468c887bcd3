-- The file that was named last.
use Rattle.std.proofs.Common.{◌≡◌, ℕ, ◌-◌, ◌<◌, ◌≤◌, true, cond, List, Option, None, Some, length}
use Rattle.std.proofs.Common.{slice_get, refl, sym, ap, subst, ◌∙◌, arith}
use Rattle.std.specs.Str.{bytes_eq}
use Rattle.std.proofs.lemmas.Bool.{lt-ltb}
use Rattle.std.proofs.lemmas.List.Folds.{list_any_at}
use Rattle.std.proofs.lemmas.Option.{get_or_from_slice_get}
use Rattle.std.proofs.lemmas.Slice.Eq.{bytes_eq-Decides}
use Rattle.wit_model.specs.Rules.Numbers.{with_number}
use Rattle.wit_model.specs.Rules.Files.{is_known_file}

-- a file that has a number is known
pub known-at : (files : List (List ℕ)) (n : ℕ) (q : List ℕ) → 0 < n → n ≤ length files
    → with_number files n ≡ Some q → is_known_file q files ≡ true
known-at files n q some within is =
    list_any_at (λ (f : List ℕ). bytes_eq f q) files (n - 1) q (omega (arith, some, within))
    (subst (λ (f : List ℕ). bytes_eq f q ≡ true)
    (sym (get_or_from_slice_get files (n - 1) q q there)) ((bytes_eq-Decides q q).1 refl))
  where
    there : slice_get files (n - 1) ≡ Some q
    there =
        ap (λ b. cond {A = Option (List ℕ)} b (slice_get files (n - 1)) None)
        (sym (lt-ltb 0 n some))
        ∙ is
