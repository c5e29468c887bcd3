-- What clauses see of a card.
use Rattle.std.specs.Prelude.{[], unwrap_or}
use Rattle.wit_seats.specs.declared.views.Journal.{Journal}
use Rattle.wit_seats.specs.declared.views.SeatKnowledge.{SeatKnowledge}
use Rattle.wit_seats.specs.declared.views.CardView.{CardView}
use Rattle.wit_seats.specs.Rule.{journal}

-- the log that a card stands for, and the seat
abbrev pub log_in : CardView → Journal
log_in v = unwrap_or v.journal (journal [] [] 0)

abbrev pub knowledge_in : CardView → SeatKnowledge
knowledge_in v = unwrap_or v.holder (record { seat = 0; own = []; seen = []; given = [] })
