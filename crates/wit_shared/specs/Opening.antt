-- What is about to be shared, and why a verifier isn't.
use Rattle.std.specs.Prelude.{List, [], ◌∷◌}
use Rattle.atomic_table.specs.Seated.{TableId}
use Rattle.wit_model.specs.declared.calls.Entry.{Entry}
use Rattle.wit_model.specs.Rules.State.{Story}
use Rattle.wit_adoptions.specs.Naming.{Name}
use Rattle.wit_shared.specs.declared.opening.Reason.{Reason}
use Rattle.wit_shared.specs.declared.opening.Reason.TheVariants.{HasEntries, OutOfMemory}

-- a verifier with no name yet: the table of its log and the list of its orders, which no other
-- verifier shares with it
pub record Unnamed : Type 0 where
  pub story : Story
  pub table : TableId
  pub list : Name

-- one that has entries, for them; one without, for want of memory
abbrev pub why_refused : List Entry → Reason
why_refused [] = OutOfMemory
why_refused (e ∷ es) = HasEntries
