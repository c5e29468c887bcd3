use Rattle.std.proofs.Common.{◌≡◌, replicate}
use Rattle.wit_shared.proofs.opening.observers_of.Given as goal

-- an observer for each turn, and the publisher is as it was
abbrev pub invariant-loop : goal.invariant-loop
invariant-loop g l =
    (l.publisher ≡ l.fn.publisher) × (l.observers.items ≡ replicate l.counter l.fn.publisher.orders)
