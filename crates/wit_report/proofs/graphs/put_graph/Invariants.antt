use Rattle.std.proofs.Common.{◌≡◌, ◌++◌, string_bytes}
use Rattle.std.specs.List.{flat_map, range_with_len}
use Rattle.wit_model.specs.Rules.State.{known_of}
use Rattle.wit_model.specs.Trace.Views.{edge_lines}
use Rattle.wit_report.proofs.graphs.put_graph.Given as goal

abbrev pub invariant-loop-place : goal.invariant-loop-place
invariant-loop-place l =
    string_bytes l.text ≡ string_bytes l.initial.text ++ flat_map
    (edge_lines (known_of l.verifier.start l.verifier.history)) (range_with_len 1 l.place)
