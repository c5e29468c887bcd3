use Rattle.std.proofs.Common.{◌≡◌, drop}
use Rattle.std.specs.List.{list_any}
use Rattle.wit_model.specs.Rules.Destroying.{uses}
use Rattle.wit_waiting.specs.Seats.{seat_view}
use Rattle.wit_waiting.specs.Seats.{Holdings}
use Rattle.wit_waiting.proofs.seats.Seats.is_used.Given as goal

abbrev pub invariant-loop-place : goal.invariant-loop-place
invariant-loop-place l =
    list_any (λ (s : Holdings). uses l.lock.0 (seat_view s)) (drop l.place l.self.seats)
    ≡ list_any (λ (s : Holdings). uses l.lock.0 (seat_view s)) l.self.seats
