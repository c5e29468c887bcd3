-- How orders that only clauses read are stored by the logic.
use Rattle.std.specs.Prelude.{List}
use Rattle.std.specs.Coded.{Coded, coded_list}
use Rattle.wit_model.specs.declared.calls.Adoption.{Adoption}
use Rattle.wit_model.specs.contracts.calls.Adoption as adoption

abbrev pub orders_coded : Coded (List Adoption)
orders_coded = coded_list adoption.the_row.coded
