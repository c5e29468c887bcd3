-- What lines of the second version tell, from a scene on.
use Rattle.std.proofs.Common.{◌≡◌, ℕ, ◌+◌, ◌^◌, ◌<◌, List, [], ◌∷◌, ◌++◌, Option, None, Some, refl}
use Rattle.std.proofs.Common.{ap, sym, ◌∙◌, subst, append_assoc}
use Rattle.wit_model.specs.declared.calls.Call.{Call}
use Rattle.wit_model.specs.declared.calls.Reply.{Reply}
use Rattle.wit_model.specs.declared.lines.Line.TheVariants.{OnLock}
use Rattle.wit_model.specs.declared.lines.LockLine.TheVariants.{Step}
use Rattle.wit_model.specs.Rules.State.{Story, state_of}
use Rattle.wit_model.specs.Rules.Step.{grown}
use Rattle.wit_model.specs.World.Moving.{LockStep, step_before, step_behind}
use Rattle.wit_model.specs.World.Scenes.{Scene, stage_at, deed_of, is_known, stepped, scene_after}
use Rattle.wit_model.specs.Trace.Moving.{step_line}
use Rattle.wit_model.specs.Trace.Output.{Course, Stepping, Goes, reply_text}
use Rattle.wit_model.specs.Trace.Output.{with_file_in, called_in, makes_in, steps, outcome}
use Rattle.wit_model.specs.Trace.Output.{text_before, course_after, course_from}
use Rattle.wit_model.proofs.Moved.Lines.{read-spelled, IsSmallStep}
use Rattle.wit_model.proofs.World.Beside.{DoesStep, Does}
use Rattle.wit_model.proofs.World.Stepping.{accepted, accepts}

abbrev pub all_stepped : List ℕ → Scene → ℕ → Course
all_stepped text x m = record { text = text; reached = Stepping x m; bad = None }

-- from this scene on, whatever number the next line has, these lines tell this text, and end with
-- this story
pub record Tells (x : Scene) (m : ℕ) (lines : List (List ℕ)) (text : List ℕ) (s : Story)
    (k : ℕ) : Type 0 where
  pub scene : Scene
  pub same : scene.story ≡ s
  pub ends : (n : ℕ) → course_from (Stepping x m) n lines [] ≡ all_stepped text scene k

-- one more line in front
pub line-tells : (x y : Scene) (m m' : ℕ) (line : List ℕ) (rest : List (List ℕ))
    (said text : List ℕ) (s : Story) (k : ℕ)
    → ((n : ℕ) → outcome (Stepping x m) n line ≡ Goes (Stepping y m') said)
    → Tells y m' rest text s k → Tells x m (line ∷ rest) (said ++ text) s k
line-tells x y m m' line rest said text s k is tells = record {
  scene = tells.scene;
  same = tells.same;
  ends = λ n.
      ap (λ o. course_after (Stepping x m) n o (λ r. course_from r (n + 1) rest [])) (is n)
      ∙ ap (λ c. text_before said c) (tells.ends (n + 1));
}

-- a step in front, if there is one
pub step-tells : (x y : Scene) (t : ℕ) (o : Option LockStep) (m : ℕ) (rest : List (List ℕ))
    (text : List ℕ) (s : Story) (k : ℕ)
    → t < 2 ^ 16 → IsSmallStep o → DoesStep x t o y → Tells y m rest text s k
    → Tells x m (step_line t o ++ rest) text s k
step-tells x y t None m rest text s k seat small is tells =
    subst (λ z. Tells z m rest text s k) is tells
step-tells x y t (Some j) m rest text s k seat small is tells =
    line-tells x y m m _ rest [] text s k
    (λ n. read-spelled (Stepping x m) n (OnLock (Step (record { 0 = t }) j.0 j.1)) (seat, small)
    (λ list same. (cc)) ∙ ap (λ a. steps m a) is) tells

-- a call's line in front, with the steps beside it
pub call-tells : (x y : Scene) (m t : ℕ) (call : Call) (r : Reply) (z : Scene) (d : Does t call r z)
    (line : List ℕ) (rest : List (List ℕ)) (text : List ℕ) (s : Story) (k : ℕ)
    → t < 2 ^ 16 → IsSmallStep (step_before z.story.history t call)
    → IsSmallStep (step_behind z.story.history z.raw t call)
    → DoesStep x t (step_before z.story.history t call) y
    → ((n : ℕ) → outcome (Stepping y m) n line ≡ makes_in d.first m t call)
    → Tells d.last m rest text s k
    → Tells x m ((step_line t (step_before z.story.history t call)
    ++ line ∷ step_line t (step_behind z.story.history z.raw t call)) ++ rest)
    (reply_text (grown z.story t call r) r ++ text) s k
call-tells x y m t call r z d line rest text s k seat small_before small_behind before is tells =
    subst (λ ls. Tells x m ls (reply_text (grown z.story t call r) r ++ text) s k)
    (sym (append_assoc (step_line t (step_before z.story.history t call))
    (line ∷ step_line t (step_behind z.story.history z.raw t call)) rest))
    (step-tells x y t (step_before z.story.history t call) m _ _ s k seat small_before before
    (line-tells y (scene_after d.first t call r) m m line _
    (reply_text (grown z.story t call r) r) text s k
    (λ n. is n ∙ (ap (λ a. called_in d.first m t call a) d.made
    ∙ ap (λ (u : Story). Goes (Stepping (scene_after d.first t call r) m)
    (reply_text (grown u t call r) r)) d.same))
    (step-tells (scene_after d.first t call r) d.last t (step_behind z.story.history z.raw t call) m
    rest text s k seat small_behind d.behind tells)))

-- a step is the same before a file is named
pub record Unnamed (file : List ℕ) (x : Scene) (t : ℕ) (o : Option LockStep)
    (y : Scene) : Type 0 where
  pub scene : Scene
  pub does : DoesStep x t o scene
  pub named : with_file_in file scene ≡ y
  pub story : scene.story ≡ x.story

pub unnamed : (file : List ℕ) (x : Scene) (t : ℕ) (o : Option LockStep) (y : Scene)
    → DoesStep (with_file_in file x) t o y → Unnamed file x t o y
unnamed file x t None y is = record { scene = x; does = refl; named = sym is; story = refl }
unnamed file x t (Some k) y is =
    let d = deed_of (stage_at x t) t k.0.0 k.1 in
    let known = is_known (state_of x.story) k.0.0 k.1 in
    let a =
    accepted (with_file_in file x) d
    (is_known (state_of (with_file_in file x).story) k.0.0 k.1) y is in
    record {
      scene = stepped x d;
      does = accepts x d known a.seat a.lock a.comes a.free;
      named = a.next;
      story = refl;
    }
