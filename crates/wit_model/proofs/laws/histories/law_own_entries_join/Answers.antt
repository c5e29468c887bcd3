use Rattle.std.proofs.Common.{eqb}
use Rattle.std.proofs.lemmas.List.Elements.{filter-append}
use Rattle.wit_model.specs.declared.calls.Entry.{Entry}
use Rattle.wit_model.proofs.laws.histories.law_own_entries_join.Goals as goal

pub returns : goal.returns
returns c = λ t later h. filter-append (λ (e : Entry). eqb e.seat.0 t) later h
