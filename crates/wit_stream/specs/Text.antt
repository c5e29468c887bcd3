-- A byte list as lines.
use Rattle.std.specs.Prelude.{◌≡◌, ◌≢◌, ◌⊎◌, ℕ, ◌+◌, ◌≤◌, List, [], ◌∷◌, ◌++◌, length, All}
use Rattle.std.specs.Prelude.{count_by, ◌==◌, if◌then◌else◌}
use Rattle.wit_grammar.specs.declared.parse.TheConstants.{LONGEST}

-- whole lines, without their line feeds, and the unfinished one behind them
pub record LinesAndTail : Type 0 where
  pub lines : List (List ℕ)
  pub tail : List ℕ

-- these lines and this tail
abbrev pub text : List (List ℕ) → List ℕ → LinesAndTail
text lines tail = record { lines = lines; tail = tail }

-- the first line gets one more byte at its front
abbrev pub with_byte : ℕ → List (List ℕ) → List ℕ → LinesAndTail
with_byte b [] tail = text [] (b ∷ tail)
with_byte b (line ∷ lines) tail = text ((b ∷ line) ∷ lines) tail

-- the bytes, parted behind each line feed
abbrev pub text_of : List ℕ → LinesAndTail
text_of [] = text [] []
text_of (b ∷ bytes) = if b == 10 then text ([] ∷ (text_of bytes).lines) (text_of bytes).tail
    else with_byte b (text_of bytes).lines (text_of bytes).tail

-- no byte is a line feed
abbrev pub HasNoFeed : List ℕ → Type 0
HasNoFeed bytes = All (λ b. b ≢ 10) bytes

-- whole lines, each with its line feed
abbrev pub IsWholeLines : List ℕ → Type 0
IsWholeLines bytes = (bytes ≡ []) ⊎ ((front : List ℕ) × (bytes ≡ front ++ 10 ∷ []))

-- a line or the beginning of one, of at most 4,097 bytes beside its line feed
pub record IsLine (bytes : List ℕ) : Type 0 where
  pub line : List ℕ
  pub plain : HasNoFeed line
  pub short : length line ≤ LONGEST + 1
  pub is : (bytes ≡ line) ⊎ (bytes ≡ line ++ 10 ∷ [])

-- how many bytes are line feeds
abbrev pub feeds : List ℕ → ℕ
feeds bytes = count_by (λ b. b == 10) bytes
