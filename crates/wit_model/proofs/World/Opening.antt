-- Where nothing was done yet.
use Rattle.std.proofs.Common.{◌≡◌, ℕ, zero, suc, ◌-◌, [], get_or, replicate, refl, ◌∙◌, inl, inr}
use Rattle.std.proofs.Common.{arith}
use Rattle.std.proofs.lemmas.Bool.{cases_Bool, ltb-true}
use Rattle.std.proofs.lemmas.List.{length-replicate}
use Rattle.std.specs.Prelude.{nat_lt}
use Rattle.wit_model.specs.Rules.State.{Story}
use Rattle.wit_model.specs.World.Stages.{Over}
use Rattle.wit_model.specs.World.Scenes.{nobodys, raw_of, stage_among, opening}
use Rattle.wit_model.specs.World.Shown.{Shows}
use Rattle.wit_model.proofs.Numbered.{with_number-or}

all-over : (n i : ℕ) → get_or (replicate n Over) i Over ≡ Over
all-over zero i = refl
all-over (suc n) zero = refl
all-over (suc n) (suc i) = all-over n i

stage-over : (n t : ℕ) → stage_among (replicate n Over) t ≡ Over
stage-over n t =
    elim (cases_Bool (nat_lt 0 t)) [
      | inl some ↦ with_number-or (replicate n Over) t Over (ltb-true 0 t some) ∙ all-over n (t - 1)
      | inr none ↦ rw none refl
    ]

no-lock : (l : ℕ) → raw_of [] l ≡ nobodys
no-lock l =
    elim (cases_Bool (nat_lt 0 l)) [
      | inl some ↦ with_number-or [] l nobodys (ltb-true 0 l some)
      | inr none ↦ rw none refl
    ]

pub opening-shows : (s : Story) → s.history ≡ [] → Shows s.start s.files [] (opening s)
opening-shows s empty = record {
  begun = refl;
  logs = empty;
  named = refl;
  locks = refl;
  had = λ t l. rw (no-lock l) refl;
  modes = λ t l some. absurd (omega arith);
  tidy = λ l. rw (no-lock l) tt;
  stages = λ t. stage-over s.start.sizes.seats t;
  seats = length-replicate s.start.sizes.seats Over;
}
