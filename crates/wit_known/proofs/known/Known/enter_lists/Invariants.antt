use Rattle.std.proofs.Common.{◌≡◌, ◌+◌, length, drop}
use Rattle.wit_model.specs.Rules.Start.{lists_fault}
use Rattle.wit_known.specs.Listed.{all_listed, lists_entered, IsWithin}
use Rattle.wit_known.proofs.known.Known.enter_lists.Given as goal

abbrev pub invariant-loop-place : goal.invariant-loop-place
invariant-loop-place l = record {
  fault : lists_fault l.most (l.place + 1) (all_listed (drop l.place l.lists)) l.self.known.types
      l.self.known.orders
      ≡ lists_fault l.most 1 (all_listed l.lists) l.initial.self.known.types
      l.initial.self.known.orders;
  entered : record l.self {
    known = lists_entered l.self.known (all_listed (drop l.place l.lists));
    spare = 0;
  }
      ≡ record l.initial.self {
        known = lists_entered l.initial.self.known (all_listed l.lists);
        spare = 0;
      };
  most : l.most ≡ l.self.most_types;
  within : IsWithin (length l.self.known.types) l.self.known.orders;
}
