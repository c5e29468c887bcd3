-- Three orders that lead round: the first two are kept, and the last one is told.
use Rattle.std.proofs.Common.{◌≡◌, [], ◌∷◌, refl, ap, ◌∙◌, inl, inr}
use Rattle.wit_circles.specs.Laws.{ThreeAreMet, order, orders_told, round, told_last}
use Rattle.wit_circles.specs.Orders.{IsWay, Judged, Told, leads}

two : Judged [] (order 0 1 ∷ order 1 2 ∷ []) []
unfolding leads
two = refl

back : IsWay (order 1 2 ∷ order 0 1 ∷ []) 0 (1 ∷ 2 ∷ []) 2
back = (inr (inl (refl, refl)), (inl (refl, refl), refl))

judged : Judged [] round told_last
unfolding leads
judged = record {
  way = 1 ∷ 2 ∷ [];
  rest = [];
  parted = refl;
  back = back;
  goes_on = refl;
}

alone : (told : Told) → Judged [] round told → orders_told told ≡ order 2 0 ∷ []
unfolding leads
alone told so =
    ap orders_told so.parted ∙ ap (λ (rest : Told). order 2 0 ∷ orders_told rest) so.goes_on

circle : IsWay round 0 (1 ∷ 2 ∷ 0 ∷ []) 0
circle = (
  inl (refl, refl),
  (inr (inl (refl, refl)), (inr (inr (inl (refl, refl))), refl)),
)

pub three-met : ThreeAreMet
three-met = record { two = two; judged = judged; alone = alone; circle = circle }
