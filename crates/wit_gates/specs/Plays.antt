-- What a step tells who takes it.
use Rattle.std.specs.Prelude.{ℕ, ◌≡◌, ◌==◌, [], MatchBool}
use Rattle.atomic_table.specs.Table.{Me, Step}
use Rattle.wit_gates.specs.declared.claim.Claim.{Claim}
use Rattle.wit_model.specs.declared.locks.Mode.{Mode}
use Rattle.wit_gates.specs.Claims.{claim, claim_of, gone, unmatched, share_met}

-- a seat of the word: what it claims (and no slots, of which there are none)
abbrev pub Stand : Type 0
Stand = Me (Unit {0}) Claim

-- it claims this from then on
abbrev pub HasClaim : Claim → Stand → Type 0
HasClaim c after = after ≡ (c, [])

-- it had a ticket's claim in this mode, and has given it back from then on
abbrev pub Leaves : Mode → Step (Unit {0}) → Stand → ℕ → Stand → Type 0
Leaves mode step before found after = HasClaim (claim_of mode) before × HasClaim (gone mode) after

-- it claims this from then on where the word was the one expected, and else nothing, with the word
-- that it met
abbrev pub Comes : Claim → Step (Unit {0}) → Stand → ℕ → Stand → Type 0
Comes c step before found after =
    MatchBool (found == step.first) (HasClaim c after) (HasClaim (unmatched found) after)

-- it has the exclusive hold from then on where the word was the one expected, and else its share,
-- with the word that it met
abbrev pub Rises : Step (Unit {0}) → Stand → ℕ → Stand → Type 0
Rises step before found after =
    MatchBool (found == step.first) (HasClaim (claim 0 1) after) (HasClaim (share_met found) after)
