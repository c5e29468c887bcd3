-- A circle that was found is told.
use Rattle.std.proofs.Common.{◌≡◌, ℕ, ℤ, List, Option, Some, sym, subst, inl}
use Rattle.std.proofs.Common.{inr}
use Rattle.std.specs.Global.{Vec}
use Rattle.wit_model.specs.declared.locks.SeatNo.{SeatNo}
use Rattle.wit_model.specs.Rules.Circles.{TellsCircle, Waits, seat_numbers, circle_numbers}
use Rattle.wit_model.specs.Rules.State.{state_of}
use Rattle.wit_model.specs.Trace.Views as views
use Rattle.wit_c.specs.declared.kept_verifier.KeptVerifier.{KeptVerifier}
use Rattle.wit_c.specs.Texts.{IsTold, IsToldOrFails}
use Rattle.wit_c.specs.Views.{TellsSeats, TellsCircleText}

-- the circle, as it is shown
shown_circle : (kept : KeptVerifier) (circle : Option (Vec SeatNo)) (seats : Vec SeatNo)
    (shown : List SeatNo) → TellsCircle (Waits (state_of kept.verifier)) (circle_numbers circle)
    → circle ≡ Some seats → shown ≡ seats.items
    → TellsCircle (Waits (state_of kept.verifier)) (Some (seat_numbers shown))
shown_circle kept circle seats shown is some same =
    subst (λ (s : List SeatNo).
    TellsCircle (Waits (state_of kept.verifier)) (Some (seat_numbers s))) (sym same)
    (subst (λ (o : Option (Vec SeatNo)).
    TellsCircle (Waits (state_of kept.verifier)) (circle_numbers o)) some is)

pub seats_told : (kept : KeptVerifier) (circle : Option (Vec SeatNo)) (seats : Vec SeatNo)
    (shown : List SeatNo) (numbers old : List ℕ) (n : ℤ) (new : List ℕ)
    → TellsCircle (Waits (state_of kept.verifier)) (circle_numbers circle) → circle ≡ Some seats
    → shown ≡ seats.items → numbers ≡ seat_numbers shown → IsTold numbers old n new
    → TellsSeats kept old n new
unfolding TellsSeats
seats_told kept circle seats shown numbers old n new is some same numbered told =
    inl (
      Some (seat_numbers shown),
      (
        shown_circle kept circle seats shown is some same,
        subst (λ (all : List ℕ). IsTold all old n new) numbered told,
      ),
    )

pub circle_told : (kept : KeptVerifier) (circle : Option (Vec SeatNo)) (seats : Vec SeatNo)
    (shown : List SeatNo) (old : List ℕ) (n : ℤ) (new : List ℕ)
    → TellsCircle (Waits (state_of kept.verifier)) (circle_numbers circle) → circle ≡ Some seats
    → shown ≡ seats.items
    → IsToldOrFails (views.circle_text (state_of kept.verifier) (Some (seat_numbers shown))) old n
    new → TellsCircleText kept old n new
unfolding TellsCircleText
circle_told kept circle seats shown old n new is some same told =
    elim told [
      | inl t ↦ inl (
        Some (seat_numbers shown),
        (shown_circle kept circle seats shown is some same, t),
      )
      | inr u ↦ inr u
    ]
