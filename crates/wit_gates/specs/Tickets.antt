-- Words of gates and tickets of them, as contracts see them: a word by the table that it lies in.
use Rattle.std.specs.Prelude.{ℕ, ◌≡◌, ◌≢◌, ◌≤◌, ◌<◌}
use Rattle.wit_model.specs.Gates.{most_shares}
use Rattle.wit_model.specs.declared.locks.Mode.{Mode}
use Rattle.wit_model.specs.declared.locks.Mode.TheVariants.{Shared, Exclusive}
use Rattle.atomic_table.specs.Seated.{TableId}

-- of which word it is, and in which mode
pub record Pass : Type 0 where
  pub word : TableId
  pub mode : Mode

-- a ticket of this word in this mode
abbrev pub pass : TableId → Mode → Pass
pass word mode = record { word = word; mode = mode }

-- which word was met, and what it was
pub record Meeting : Type 0 where
  pub word : TableId
  pub met : ℕ

-- a word that lets nobody in: to share it, where as many do as can, or somebody has it alone; alone,
-- where anybody is in
abbrev pub bars : Mode → ℕ → Type 0
bars Shared met = most_shares ≤ met
bars Exclusive met = 0 < met

-- this word was met so that it lets nobody in so
abbrev pub IsBarred : TableId → Mode → Meeting → Type 0
IsBarred word mode m = (m.word ≡ word) × bars mode m.met

-- a share was asked for, and this word was met as as many share it as can
abbrev pub IsFull : TableId → Mode → Meeting → Type 0
IsFull word mode m = (mode ≡ Shared) × (m.word ≡ word) × (m.met ≡ most_shares)

-- this word was met as another one than that of a single share
abbrev pub IsCrowded : TableId → Meeting → Type 0
IsCrowded word m = (m.word ≡ word) × (m.met ≢ 1)

-- a table of one word and no slot
abbrev pub HasOneWord : TableId → Type 0
HasOneWord table = (table.words ≡ 1) × (table.slots ≡ 0)
