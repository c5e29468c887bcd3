use Rattle.std.proofs.Common.{◌≡◌, ◌++◌, string_bytes}
use Rattle.std.specs.List.{flat_map, range_with_len}
use Rattle.wit_model.specs.Rules.State.{state_of, types_of, live}
use Rattle.wit_model.specs.Trace.Views.{type_line}
use Rattle.wit_report.proofs.type_lists.put_types.Given as goal

abbrev pub invariant-loop-place : goal.invariant-loop-place
invariant-loop-place l =
    string_bytes l.text
    ≡ string_bytes l.initial.text
    ++ flat_map (type_line (types_of l.verifier.start l.verifier.history)
    (live (state_of l.verifier))) (range_with_len 1 l.place)
