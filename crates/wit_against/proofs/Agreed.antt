-- An order of which nothing is told, and threads that ask for nothing but its pair.
use Rattle.std.proofs.Common.{◌≡◌, ℕ, ◌<◌, cond, eqb, refl, subst, inl, inr, List, [], ◌∷◌, ◌++◌, codes, None}
use Rattle.std.proofs.lemmas.Bool.Decides.{eqb_tells}
use Rattle.wit_model.specs.declared.locks.Class.TheVariants.{SleepMutex}
use Rattle.wit_model.specs.Trace.Reading.{class_named, leading_word, fixed_at}
use Rattle.wit_model.specs.World.Examples.{agreed}
use Rattle.wit_recordings.specs.Recordings.{AllAskWithin, types_in}
use Rattle.wit_recordings.proofs.Shorter.{told-all, nothing}
use Rattle.wit_circles.specs.Orders.{leads}
use Rattle.wit_orders.specs.Laws.{HasPair}
use Rattle.wit_orders.specs.Reading.{leading_type_name, first_type, second_type, pair_of, order_line, type_text}
use Rattle.wit_against.specs.Answers.{last_text}
use Rattle.wit_against.specs.Known.{Known, nothing_known, with_order}
use Rattle.wit_against.specs.Laws.{IsClean, one_order}
use Rattle.wit_against.specs.Outputs.{ended}

known : Known
known =
    with_order nothing_known (type_text (SleepMutex, codes "A")) (type_text (SleepMutex, codes "B"))
    (type_text (SleepMutex, codes "A") ++ (codes " > " ++ type_text (SleepMutex, codes "B")))

pub one_order-clean : IsClean one_order
unfolding class_named leading_word fixed_at leading_type_name first_type second_type pair_of order_line leads known
one_order-clean =
    record {
      text = last_text known 0;
      summary = ended 0 None;
      judged = record { told = []; judged = refl; written = refl; summed = refl };
      silent = refl;
      whole = refl;
    }

pair : HasPair one_order (types_in agreed 1) (types_in agreed 2)
unfolding class_named leading_word fixed_at leading_type_name first_type second_type pair_of order_line
pair = inl refl

pair-within : (l : ℕ) → 0 < cond (eqb 1 l) 1 0
    → HasPair one_order (types_in agreed l) (types_in agreed 2)
pair-within l some =
    elim (eqb_tells 1 l) [
      | inl is ↦
          subst (λ m. HasPair one_order (types_in agreed m) (types_in agreed 2)) is.1 pair
      | inr is ↦
          nothing (HasPair one_order (types_in agreed l) (types_in agreed 2))
          (subst (λ b. 0 < cond b 1 0) is.0 some)
    ]

-- two of the four requests come after a held lock
pub agreed-within : AllAskWithin (HasPair one_order) (types_in agreed) agreed
agreed-within =
    told-all (HasPair one_order) (types_in agreed) agreed (
      pair-within,
      ((λ l some. nothing _ some), (pair-within, ((λ l some. nothing _ some), tt))),
    )
