use Rattle.std.proofs.Common.{◌≡◌, length, ◌-◌}
use Rattle.std.specs.List.{list_any}
use Rattle.wit_alarms.specs.Lives.{makings, made_since}
use Rattle.wit_alarms.proofs.lives.was_made_since.Given as goal

-- nothing of this kind was found so far
abbrev pub invariant-loop : goal.invariant-loop
invariant-loop l =
    list_any (made_since l.maker l.at) (makings l.lives (length l.lives) l.fn.thread.0)
    ≡ list_any (made_since l.maker l.at) (makings l.lives (length l.lives - l.counter) l.younger.0)
