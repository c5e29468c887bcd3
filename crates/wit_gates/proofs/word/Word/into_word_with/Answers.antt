use Rattle.std.proofs.Common.{◌∙◌, ap}
use Rattle.wit_model.specs.declared.locks.Mode.TheVariants.{Shared, Exclusive}
use Rattle.wit_gates.specs.Plays.{Stand}
use Rattle.wit_gates.specs.Tickets.{Pass}
use Rattle.wit_gates.proofs.Ends.{ended_alone, ended_shared}
use Rattle.wit_gates.proofs.Steps.{stands}
use Rattle.wit_gates.proofs.word.Word.into_word_with.Goals as goal

pub returns-clause-alone : goal.returns-clause-alone
returns-clause-alone c = λ mode.
    let last = c.close_with-closed.ensures.values.2 in
    let seat = c.ticket.inside.seat in
    ended_alone last.0 _ c.word-last.result seat.id seat.me.0 last.1.0 last.2
    c.word-last.ensures last.1.1
    (ap (λ (m : Stand). m.0) (stands seat.me Exclusive c.ticket.invariant
    (ap (λ (p : Pass). p.mode) c.ticket.view_is ∙ mode)))

pub returns-clause-shared : goal.returns-clause-shared
returns-clause-shared c = λ mode.
    let last = c.close_with-closed.ensures.values.2 in
    let seat = c.ticket.inside.seat in
    ended_shared last.0 _ c.word-last.result seat.id seat.me.0 last.1.0 last.2
    c.word-last.ensures last.1.1
    (ap (λ (m : Stand). m.0) (stands seat.me Shared c.ticket.invariant
    (ap (λ (p : Pass). p.mode) c.ticket.view_is ∙ mode)))
