-- What a log tells of a seat that follows it and changes nothing.
use Rattle.std.proofs.Common.{◌≡◌, ℕ, zero, suc, nat_lt, ◌≤◌, false, List, [], ◌∷◌, ◌++◌, refl, ap}
use Rattle.std.proofs.Common.{sym, ◌∙◌, subst, inl, inr, arith}
use Rattle.std.proofs.lemmas.Bool.{false≢true, cases_Bool, ltb-true, ltb-false}
use Rattle.wit_model.specs.Rules.History.{own_entries}
use Rattle.wit_model.specs.Rules.State.{Start, Story}
use Rattle.wit_seats.specs.declared.views.Journal.{Journal}
use Rattle.wit_seats.specs.declared.views.SeatKnowledge.{SeatKnowledge}
use Rattle.wit_seats.specs.Rule.{journal, IsOutside}
use Rattle.wit_seats.specs.Seats.{AreFiles, Grows, Entered}
use Rattle.wit_shared.specs.Closing.{has_seat, HasSeatsTo, IsLeft, AreLeft}
use Rattle.wit_shared.proofs.Steps.{may_follow, stays}

pub may_look : (keeper : Journal) (v : Story) (handed t : ℕ)
    → keeper ≡ journal v.history v.files handed → Grows keeper t v
may_look keeper v handed t is = may_follow keeper v v handed t is (stays t v v refl)

pub left : (start : Start) (keeper : Journal) (v : Story) (handed : ℕ) (k w : SeatKnowledge)
    → keeper ≡ journal v.history v.files handed
    → Entered start [] keeper.entries keeper.files v k w → IsLeft v k
left start keeper v handed k w is e = record {
  own = ap (λ (j : Journal). own_entries k.seat j.entries) (sym is) ∙ e.own;
  seen = (e.others.0, ap (λ (j : Journal). j.entries) (sym is) ∙ e.others.1);
  files = subst (λ (j : Journal). AreFiles j.files k.given) is e.files;
}

-- a number that isn't among these was never handed out
never_by : (handed n : ℕ) (seats : List SeatKnowledge) → HasSeatsTo handed seats → has_seat n seats ≡ false
    → n ≤ handed → IsOutside handed n
never_by handed zero seats all none low = inl refl
never_by handed (suc n) seats all none low =
    absurd (false≢true (sym none ∙ all (suc n) (omega arith) low))

pub never_out : (handed n : ℕ) (seats : List SeatKnowledge) → HasSeatsTo handed seats
    → has_seat n seats ≡ false → IsOutside handed n
never_out handed n seats all none =
    elim (cases_Bool (nat_lt handed n)) [
      | inl high ↦ inr (ltb-true handed n high)
      | inr low ↦ never_by handed n seats all none (ltb-false handed n low)
    ]
