-- A certificate, and threads that ask for nothing but its pair.
use Rattle.std.proofs.Common.{◌≡◌, ℕ, ◌<◌, cond, eqb, refl, subst, inl, inr}
use Rattle.std.proofs.lemmas.Bool.Decides.{eqb_tells}
use Rattle.wit_model.specs.Trace.Reading.{class_named, leading_word, fixed_at}
use Rattle.wit_model.specs.World.Examples.{agreed}
use Rattle.wit_recordings.specs.Recordings.{AllAskWithin, types_in}
use Rattle.wit_recordings.proofs.Shorter.{told-all, nothing}
use Rattle.wit_orders.specs.declared.answers.Answer.TheVariants.{Acyclic}
use Rattle.wit_orders.specs.Answers.{answer}
use Rattle.wit_orders.specs.Laws.{HasPair, certificate}
use Rattle.wit_orders.specs.Reading.{leading_type_name, first_type, second_type, pair_of, order_line}

pub certificate-acyclic : answer certificate ≡ Acyclic 2 1
unfolding class_named leading_word fixed_at leading_type_name first_type second_type pair_of order_line
certificate-acyclic = refl

pair : HasPair certificate (types_in agreed 1) (types_in agreed 2)
unfolding class_named leading_word fixed_at leading_type_name first_type second_type pair_of order_line
pair = inr (inr (inl refl))

pair-within : (l : ℕ) → 0 < cond (eqb 1 l) 1 0
    → HasPair certificate (types_in agreed l) (types_in agreed 2)
pair-within l some =
    elim (eqb_tells 1 l) [
      | inl is ↦
          subst (λ m. HasPair certificate (types_in agreed m) (types_in agreed 2)) is.1 pair
      | inr is ↦
          nothing (HasPair certificate (types_in agreed l) (types_in agreed 2))
          (subst (λ b. 0 < cond b 1 0) is.0 some)
    ]

-- two of the four requests come behind a held lock
pub agreed-within : AllAskWithin (HasPair certificate) (types_in agreed) agreed
agreed-within =
    told-all (HasPair certificate) (types_in agreed) agreed (
      pair-within,
      ((λ l some. nothing _ some), (pair-within, ((λ l some. nothing _ some), tt))),
    )
