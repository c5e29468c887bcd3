use Rattle.std.proofs.Common.{◌≡◌, drop}
use Rattle.wit_model.specs.Rules.Types.{enrolled_all}
use Rattle.wit_known.specs.Listed.{listed, CanBeEnrolled, KeepsRest}
use Rattle.wit_known.proofs.static_lists.enroll_all.Given as goal

abbrev pub invariant-loop-entry : goal.invariant-loop-entry
invariant-loop-entry l = record {
  types : enrolled_all (listed (drop l.entry-index l.list)) l.names.types
      ≡ enrolled_all (listed l.list) l.initial.names.types;
  can : CanBeEnrolled l.names.most_types l.names.types (listed (drop l.entry-index l.list));
  rest : KeepsRest l.initial.names l.names;
}
