-- What a verdict rests on, as the tables have it.
use Rattle.std.specs.Prelude.{◌≤◌, List, length}
use Rattle.std.specs.List.{All}
use Rattle.wit_model.specs.declared.locks.TypeNo.{TypeNo}
use Rattle.wit_model.specs.Rules.Numbers.{IsGiven}
use Rattle.wit_model.specs.Rules.Verdict.{Basis}
use Rattle.wit_table.specs.Known.{Names}
use Rattle.wit_matrix.specs.Relation.{Relation}
use Rattle.wit_check.specs.declared.basis.Basis.TheInside.{Inside}

abbrev pub basis : Names → Relation → List TypeNo → Basis
basis names relation lock_types = record {
  types = names.types;
  lock_types = lock_types;
  orders = relation.orders;
  found = relation.found;
  blessed = names.blessed;
}

-- each lock's type is one of these
abbrev pub AreTypes : Names → List TypeNo → Type 0
AreTypes names lock_types = All (λ (t : TypeNo). IsGiven names.types t.0) lock_types

abbrev pub basis_in : Inside → Basis
basis_in b = basis b.types.now b.matrix.now b.lock_types.now

-- the matrix has room for the types
pub record IsBasis (b : Inside) : Type 0 where
  pub types : AreTypes b.types.now b.lock_types.now
  pub sized : length b.types.now.types ≤ b.matrix.now.size
