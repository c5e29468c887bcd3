-- What a view shows of a reading.
use Rattle.std.specs.Prelude.{ℕ, ◌≡◌, Bool, not, false, List, [], ◌++◌, Option, None, Some, is_some}
use Rattle.wit_model.specs.declared.lines.View.TheVariants as model
use Rattle.wit_model.specs.Rules.Circles.{Waits, TellsCircle}
use Rattle.wit_model.specs.Rules.State.{Story, state_of}
use Rattle.wit_model.specs.World.Shown.{WaitsIn}
use Rattle.wit_model.specs.Trace.Output.{Course, Progress, BadLine, Reading, Stepping, bad_text}
use Rattle.wit_model.specs.Trace.Output.{IsViewOf}
use Rattle.wit_state.specs.Clean.{clean_text, is_clean_story}
use Rattle.wit_state.specs.State.{state_text}
use Rattle.wit_lines.specs.declared.view.View.{View}
use Rattle.wit_lines.specs.declared.view.View.TheVariants.{Reports, Graph, Locks, Circle, State}
use Rattle.wit_lines.specs.declared.view.View.TheVariants.{Clean}

-- of the texts that are told of lines
abbrev pub shown_of : View → List ℕ → List ℕ
shown_of Reports text = text
shown_of State text = text
shown_of _ text = []

-- after the whole trace, of a story and of who waits for whom, and whether that is something to act
-- upon: a circle, or that the log isn't clean. Which line keeps it from that may be any number here
abbrev pub IsShownAtEnd : View → Story → (ℕ → ℕ → Type 0) → List ℕ → Bool → Type 0
IsShownAtEnd Reports s waits text found = IsViewOf model.Reports s waits text found
IsShownAtEnd Graph s waits text found = IsViewOf model.Graph s waits text found
IsShownAtEnd Locks s waits text found = IsViewOf model.Locks s waits text found
IsShownAtEnd Circle s waits text found = IsViewOf model.Circle s waits text found
IsShownAtEnd State s waits text found =
    (line : ℕ) × (seats : Option (List ℕ)) × TellsCircle waits seats
    × (text ≡ state_text s line seats) × (found ≡ is_some seats)
IsShownAtEnd Clean s waits text found =
    (line : ℕ) × (text ≡ clean_text s line) × (found ≡ not (is_clean_story s))

-- at the end: of a bad line its text, whatever the view. Of a scene, circles are of seats that wait
-- for one another's shares. Nothing that is short of a header is all that was read
abbrev pub IsLastOf : View → Progress → Option BadLine → List ℕ → Bool → Type 0
IsLastOf view p (Some bad) text found = (text ≡ bad_text bad.0 bad.1) × (found ≡ false)
IsLastOf view (Reading s m) None text found = IsShownAtEnd view s (Waits (state_of s)) text found
IsLastOf view (Stepping s m) None text found = IsShownAtEnd view s.story (WaitsIn s) text found
IsLastOf view p None text found = ⊥

-- the text that a view shows of a reading, and whether there is something to act upon at its end
pub record IsShown (view : View) (c : Course) (text : List ℕ) (found : Bool) : Type 0 where
  pub last : List ℕ
  pub parts : text ≡ shown_of view c.text ++ last
  pub ends : IsLastOf view c.reached c.bad last found
