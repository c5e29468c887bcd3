use Rattle.std.proofs.Common.{◌≡◌, ◌-◌, ◌≤◌, ◌++◌, length, max, replicate}
use Rattle.wit_model.specs.World.Scenes.{nobodys}
use Rattle.wit_world.proofs.raw.reach.Given as goal

abbrev pub invariant-loop-alloc : goal.invariant-loop-alloc
invariant-loop-alloc l = record {
  same : l.locks.items ≡ l.initial.locks.items
      ++ replicate (length l.locks.items - length l.initial.locks.items) nobodys;
  longer : length l.initial.locks.items ≤ length l.locks.items;
  within : length l.locks.items ≤ max (length l.initial.locks.items) l.lock.0;
}

abbrev pub decreases-loop-alloc : goal.decreases-loop-alloc
decreases-loop-alloc l = l.lock.0 - length l.locks.items
