-- Who gets no lock has none.
use Rattle.std.proofs.Common.{◌≡◌, ℕ, ◌-◌, Bool, true, false, ◌&&◌, cond, eqb, List, [], ◌∷◌}
use Rattle.std.proofs.Common.{◌++◌, refl, ap, sym, ◌∙◌, inl, inr, arith}
use Rattle.std.specs.List.{list_any}
use Rattle.std.proofs.lemmas.Bool.{cases_Bool, or_parts, or_from, true≢false}
use Rattle.std.proofs.lemmas.List.Folds.{list_any-append}
use Rattle.wit_model.specs.World.Deeds.{Deed, Logged, PassedOver, Take, TryTake, Free, RawUp}
use Rattle.wit_model.specs.World.Deeds.{RawDown, thread_of, own, shares}
use Rattle.wit_model.proofs.World.Own.{own-mine, own-other}
use Rattle.wit_errands.specs.Settled.{gets}

none-less : (b : Bool) (n : ℕ) → n ≡ 0 → cond b (n - 1) n ≡ 0
none-less true n none = omega (arith, none)
none-less false n none = none

pub silent-none : (t l : ℕ) (o : List Deed) → list_any gets o ≡ false → shares t l o ≡ 0
silent-none t l [] silent = refl
silent-none t l (Take u m mode ∷ o) silent = absurd (true≢false silent)
silent-none t l (TryTake u m mode ∷ o) silent = absurd (true≢false silent)
silent-none t l (Free u m ∷ o) silent =
    none-less (eqb u t && eqb m l) (shares t l o) (silent-none t l o silent)
silent-none t l (Logged e ∷ o) silent = silent-none t l o silent
silent-none t l (PassedOver u c ∷ o) silent = silent-none t l o silent
silent-none t l (RawUp u m ∷ o) silent = silent-none t l o silent
silent-none t l (RawDown u m ∷ o) silent = silent-none t l o silent

pub silent-own : (t : ℕ) (w : List Deed) → list_any gets w ≡ false
    → list_any gets (own t w) ≡ false
silent-own t [] silent = refl
silent-own t (d ∷ w) silent =
    let parts = or_parts (gets d) (list_any gets w) silent in
    elim (cases_Bool (eqb (thread_of d) t)) [
      | inl is ↦ ap (λ o. list_any gets o) (own-mine t d w is)
          ∙ or_from (gets d) (list_any gets (own t w)) parts.0 (silent-own t w parts.1)
      | inr is ↦ ap (λ o. list_any gets o) (own-other t d w is) ∙ silent-own t w parts.1
    ]

pub silent-later : (x y : List Deed) → list_any gets (x ++ y) ≡ false → list_any gets y ≡ false
silent-later x y silent =
    (or_parts (list_any gets x) (list_any gets y) (sym (list_any-append gets x y) ∙ silent)).1
