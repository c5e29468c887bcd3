-- The words behind a program's name.
use Rattle.std.specs.Prelude.{ℕ, ◌+◌, List, [], ◌∷◌, length}

-- each of these is the word at its place, from this place on
abbrev pub StandFrom : (ℕ → List ℕ → Type 0) → ℕ → List (List ℕ) → Type 0
StandFrom is_word place [] = Unit {0}
StandFrom is_word place (word ∷ words) = is_word place word × StandFrom is_word (place + 1) words

-- these are the words, from place 1 on, and behind them there is none
abbrev pub AreWords : (ℕ → List ℕ → Type 0) → (ℕ → Type 0) → List (List ℕ) → Type 0
AreWords is_word is_end words = StandFrom is_word 1 words × is_end (length words + 1)
