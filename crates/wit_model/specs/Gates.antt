-- A gate lets in one thread alone, or many that share it. It keeps one number, its word.
use Rattle.std.specs.Prelude.{ℕ, ◌≡◌, ◌+◌, ◌*◌, ◌≤◌, ◌⊎◌, ◌↔◌}

-- how many can share a gate
abbrev pub most_shares : ℕ
most_shares = 4294967294

-- the word of a gate that somebody has alone
abbrev pub exclusive_word : ℕ
exclusive_word = 4294967295

-- the word of a gate of which so many shares and so many exclusive holds are out: one has it alone
-- and nobody shares it, or nobody has it alone and the word is the number of shares
abbrev pub IsGateWord : ℕ → ℕ → ℕ → Type 0
IsGateWord word shares exclusives =
    ((word ≡ exclusive_word) × (shares ≡ 0) × (exclusives ≡ 1))
    ⊎ ((word ≡ shares) × (shares ≤ most_shares) × (exclusives ≡ 0))

-- a share is worth 1 and an exclusive hold the greatest word, and they come to no more than that
abbrev pub AddsUp : ℕ → ℕ → ℕ → Type 0
AddsUp word shares exclusives =
    (word ≡ shares + exclusive_word * exclusives) × (shares ≤ most_shares) × (word ≤ exclusive_word)

-- that is the same
abbrev pub WordsAddUp : Type 0
WordsAddUp =
    (word shares exclusives : ℕ)
    → IsGateWord word shares exclusives ↔ AddsUp word shares exclusives
