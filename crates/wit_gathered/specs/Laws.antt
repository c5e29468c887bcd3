-- No pair of types is lost in gathering.
use Rattle.std.specs.Prelude.{ℕ, ◌≡◌, ◌⊎◌, true, List, [], ◌∷◌}
use Rattle.wit_gathered.specs.declared.gathering.Settings.{Settings}
use Rattle.wit_gathered.specs.declared.requests.Kept.{Kept}
use Rattle.wit_gathered.specs.declared.requests.Step.{Step}
use Rattle.wit_gathered.specs.declared.types.Type.{«Type»}
use Rattle.wit_gathered.specs.Gathering.{Gathered, nothing_gathered}
use Rattle.wit_gathered.specs.Reading.{with_line, with_mutex_line}
use Rattle.wit_gathered.specs.Requests.{Requested, after_asking, asking, has_pair}

abbrev pub IsAmong : {X : Type 0} → X → List X → Type 0
IsAmong x [] = ⊥
IsAmong x (y ∷ ys) = (x ≡ y) ⊎ IsAmong x ys

-- a request is kept that asks for the one type, under the other
pub record IsKept (kept : List Kept) (held asked : «Type») : Type 0 where
  pub steps : List Step
  pub wanted : Step
  pub step : Step
  pub among : IsAmong (asking steps wanted) kept
  pub under : IsAmong step steps
  pub holds : step.of ≡ held
  pub asks : wanted.of ≡ asked

-- ---- lines of one source

abbrev pub with_lines : Gathered → List (List ℕ) → Gathered
with_lines g [] = g
with_lines g (line ∷ lines) = with_lines (with_line g line) lines

abbrev pub with_mutex_lines : Gathered → List (List ℕ) → Gathered
with_mutex_lines g [] = g
with_mutex_lines g (line ∷ lines) = with_mutex_lines (with_mutex_line g line) lines

-- ---- laws

-- after a request each of its pairs is known: of each type that it was made under, and the one asked for
abbrev pub PairsAreKnown : Type 0
PairsAreKnown = (r : Requested) (steps : List Step) (wanted step : Step) → IsAmong step steps
    → has_pair (after_asking r steps wanted).pairs step.of wanted.of ≡ true

-- it stays known, whatever lines follow
abbrev pub PairsStayKnown : Type 0
PairsStayKnown = (g : Gathered) (lines : List (List ℕ)) (held asked : «Type»)
    → has_pair g.requests.pairs held asked ≡ true
    → (has_pair (with_lines g lines).requests.pairs held asked ≡ true)
    × (has_pair (with_mutex_lines g lines).requests.pairs held asked ≡ true)

-- and each pair that is known after any lines is kept
abbrev pub PairsAreKept : Type 0
PairsAreKept = (settings : Settings) (lines : List (List ℕ)) (held asked : «Type»)
    → (has_pair (with_lines (nothing_gathered settings) lines).requests.pairs held asked ≡ true
    → IsKept (with_lines (nothing_gathered settings) lines).requests.kept held asked)
    × (has_pair (with_mutex_lines (nothing_gathered settings) lines).requests.pairs held asked ≡ true
    → IsKept (with_mutex_lines (nothing_gathered settings) lines).requests.kept held asked)
