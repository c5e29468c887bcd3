use Rattle.std.proofs.Common.{arith}
use Rattle.wit_stream.proofs.AnswerLemmas.{cut_output}
use Rattle.wit_stream.proofs.lines.last_line.Goals as goal

pub returns-else-is_empty : goal.returns-else-is_empty
returns-else-is_empty g c =
    cut_output (g.M.Machine.allows (g.M.Machine.shows_by c.args.machine.now)) c.args.machine.now
    c.args.number c.args.begun.now c.broken.result c.requires.plain
    (grind arith) c.requires.short c.broken.ensures
