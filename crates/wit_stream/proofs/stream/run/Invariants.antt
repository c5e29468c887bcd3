use Rattle.std.proofs.Common.{◌+◌, ◌^◌, ◌≡◌, ◌<◌, ◌≤◌, [], length}
use Rattle.wit_stream.specs.Stream.{OutputFrom}
use Rattle.wit_stream.proofs.StreamInputs.{Going}
use Rattle.wit_stream.proofs.stream.run.Given as goal
use Rattle.wit_grammar.specs.declared.parse.TheConstants.{LONGEST}

abbrev pub invariant-loop-left : goal.invariant-loop-left
invariant-loop-left g l = record {
  going : Going (OutputFrom (g.M.Machine.allows (g.M.Machine.shows_by l.fn.machine)))
      l.fn.machine l.machine
      (g.R.Read.remaining l.fn.reader) (g.R.Read.remaining l.reader)
      (g.W.Write.contents l.fn.writer) (g.W.Write.contents l.writer) l.number
      l.line.items l.told.items;
  shown : g.M.Machine.shows_by l.machine ≡ g.M.Machine.shows_by l.fn.machine;
  none : l.text.items ≡ [];
  short : length l.line.items ≤ LONGEST;
  fewer : l.number ≤ g.P.Ports.looks l.ports + 1;
  enough : 2 ^ 64 ≤ l.left + g.P.Ports.looks l.ports + l.number;
  told : g.M.Machine.reports l.machine < l.number;
  within : 0 < l.left → l.left + g.P.Ports.looks l.ports + l.number ≤ 2 ^ 64;
}

abbrev pub decreases-loop-left : goal.decreases-loop-left
decreases-loop-left g l = l.left
