-- What tickets claim of a gate's word, and that the word is the sum of it.
use Rattle.std.specs.Prelude.{ℕ, ◌≡◌, ◌+◌, ◌-◌, ◌==◌, List, [], ◌∷◌, sum_by, if◌then◌else◌}
use Rattle.std.specs.Prelude.{None, Some, unwrap_or}
use Rattle.wit_model.specs.declared.locks.Mode.{Mode}
use Rattle.wit_model.specs.declared.locks.Mode.TheVariants.{Shared, Exclusive}
use Rattle.wit_model.specs.Gates.{IsGateWord}
use Rattle.wit_gates.specs.declared.claim.Claim.{Claim}

abbrev pub claim : ℕ → ℕ → Claim
claim shares exclusives =
    record { shares = shares; exclusives = exclusives; met = 0; gave = None }

-- what is claimed by whom no gate let in
abbrev pub nothing : Claim
nothing = claim 0 0

-- what is claimed by who isn't let in, and met this word
abbrev pub unmatched : ℕ → Claim
unmatched met = record { shares = 0; exclusives = 0; met = met; gave = None }

-- what is claimed by who has a share, and met this word
abbrev pub share_met : ℕ → Claim
share_met met = record { shares = 1; exclusives = 0; met = met; gave = None }

-- what is claimed by who gave a ticket in this mode back
abbrev pub gone : Mode → Claim
gone mode = record { shares = 0; exclusives = 0; met = 0; gave = Some mode }

-- the mode of the ticket that was given back, by who claims this
abbrev pub mode_gone : Claim → Mode
mode_gone c = unwrap_or c.gave Shared

-- what a ticket in this mode claims
abbrev pub claim_of : Mode → Claim
claim_of Shared = claim 1 0
claim_of Exclusive = claim 0 1

-- the mode of a ticket that claims this
abbrev pub mode_of : Claim → Mode
mode_of c = if c.exclusives == 0 then Shared else Exclusive

-- two claims together
abbrev pub both_claims : Claim → Claim → Claim
both_claims c d = claim (c.shares + d.shares) (c.exclusives + d.exclusives)

-- a claim without one of its shares
abbrev pub less_one : Claim → Claim
less_one c = claim (c.shares - 1) c.exclusives

-- how many shares are claimed in all
abbrev pub shares_claimed : List Claim → ℕ
shares_claimed claims = sum_by (λ (c : Claim). c.shares) claims

-- how many exclusive holds are claimed in all
abbrev pub exclusives_claimed : List Claim → ℕ
exclusives_claimed claims = sum_by (λ (c : Claim). c.exclusives) claims

-- the only word is that of a gate of which just this is out
abbrev pub IsCounted : List ℕ → List Claim → Type 0
IsCounted words claims =
    (word : ℕ)
    × (words ≡ word ∷ [])
    × IsGateWord word (shares_claimed claims) (exclusives_claimed claims)
