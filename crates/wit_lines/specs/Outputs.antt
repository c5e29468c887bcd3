-- For every view there is something to write of every trace.
use Rattle.std.specs.Prelude.{Bool, false, not, ℕ, List, [], ◌++◌, Option, None, Some, is_some, refl}
use Rattle.wit_model.specs.Rules.Circles.{Waits, TellsCircle}
use Rattle.wit_model.specs.Rules.State.{Story, state_of}
use Rattle.wit_model.specs.Trace.Output as output
use Rattle.wit_model.specs.Trace.Views.{graph_text, all_locks_text, circle_text}
use Rattle.wit_model.specs.World.Shown.{WaitsIn}
use Rattle.wit_model.proofs.Endings.{IsEnd, course-ends}
use Rattle.wit_model.proofs.Waits.{circle_told}
use Rattle.wit_model.proofs.World.SceneCircles.{scene_circle_told}
use Rattle.wit_state.specs.Clean.{clean_text, is_clean_story}
use Rattle.wit_state.specs.State.{state_text}
use Rattle.wit_lines.specs.Replays.{IsWritten}
use Rattle.wit_lines.specs.Shown.{shown_of, IsLastOf, IsShownAtEnd}
use Rattle.wit_lines.specs.declared.view.View.{View}
use Rattle.wit_lines.specs.declared.view.View.TheVariants.{Reports, Graph, Locks, Circle, State}
use Rattle.wit_lines.specs.declared.view.View.TheVariants.{Clean}
use Rattle.wit_stream.specs.declared.summary.Summary.{Summary}

-- what a view shows of a story, where this is told of circles
abbrev pub some_view : (view : View) (s : Story) (waits : ℕ → ℕ → Type 0)
    (told : (seats : Option (List ℕ)) × TellsCircle waits seats)
    → (text : List ℕ) × ((found : Bool) × IsShownAtEnd view s waits text found)
some_view Reports s waits told = ([], (false, (refl, refl)))
some_view Graph s waits told = (graph_text s, (false, (refl, refl)))
some_view Locks s waits told = (all_locks_text s, (false, (refl, refl)))
some_view Circle s waits told =
    (circle_text (state_of s) told.0, (is_some told.0, (told.0, told.1, refl, refl)))
some_view State s waits told =
    (state_text s 0 told.0, (is_some told.0, (0, told.0, told.1, refl, refl)))
some_view Clean s waits told =
    (clean_text s 0, (not (is_clean_story s), (0, refl, refl)))

abbrev pub some_last : (view : View) (p : output.Progress) (bad : Option output.BadLine)
    → IsEnd p bad → (text : List ℕ) × ((found : Bool) × IsLastOf view p bad text found)
some_last view p (Some bad) end = (output.bad_text bad.0 bad.1, (false, (refl, refl)))
some_last view (output.Reading s m) None end =
    some_view view s (Waits (state_of s)) (circle_told (state_of s))
some_last view (output.Stepping s m) None end =
    some_view view s.story (WaitsIn s) (scene_circle_told s)
some_last view output.Unstarted None end = absurd end
some_last view (output.Opening o) None end = absurd end

-- a summary with these figures
abbrev pub summary_of : output.Total → Bool → Summary
summary_of t circle = record { calls = t.calls; reports = t.reports; circle = circle; bad = t.bad }

abbrev pub some_output : (view : View) (p : output.Progress) (n : ℕ) (lines : List (List ℕ))
    (tail : List ℕ) → (text : List ℕ)
    × ((summary : Summary) × IsWritten view (output.course_from p n lines tail) text summary)
some_output view p n lines tail =
    let c = output.course_from p n lines tail in
    let last = some_last view c.reached c.bad (course-ends p n lines tail) in (
      shown_of view c.text ++ last.0,
      (
        summary_of (output.summed c.reached c.bad) last.1.0,
        record {
          is_shown = record { last = last.0; parts = refl; ends = last.1.1 };
          summed = refl;
        },
      ),
    )
