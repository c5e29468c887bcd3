-- Where a migration goes on behind a line, the line was read, and its call was answered.
use Rattle.std.proofs.Common.{◌≡◌, ℕ, ◌≤◌, Bool, true, false, cond, nat_lt, List, ◌∷◌, ◌++◌, length}
use Rattle.std.proofs.Common.{Option, None, Some, Result, Ok, Err, refl, arith}
use Rattle.std.proofs.lemmas.Bool.{ltb-false}
use Rattle.wit_model.specs.declared.faults.Fault.{Fault}
use Rattle.wit_model.specs.declared.faults.Fault.TheVariants.{RawNotFree}
use Rattle.wit_model.specs.declared.calls.Call.{Call}
use Rattle.wit_model.specs.declared.calls.Reply.{Reply}
use Rattle.wit_model.specs.declared.lines.Line.{Line}
use Rattle.wit_model.specs.declared.lines.Cause.TheVariants as why
use Rattle.wit_model.specs.Rules.State.{Story}
use Rattle.wit_model.specs.Rules.Step.{grown}
use Rattle.wit_model.specs.World.Moving.{step_before, step_behind, is_free_beside, raw_moved}
use Rattle.wit_model.specs.World.Scenes.{RawLock}
use Rattle.wit_model.specs.Trace.Moving.{Moving, Moved, Written, step_line, answered, moving_after}
use Rattle.wit_model.specs.Trace.Moving as moving
use Rattle.wit_model.specs.Trace.Moving.{MovingOutcome, moving_entered, moving_outcome}
use Rattle.wit_model.specs.Trace.Moving.{moving_read_as}
use Rattle.wit_model.specs.Trace.Output.{Reading, longest_line}
use Rattle.wit_model.specs.Trace.Reading.{line_of}

-- all was read, and this is the story
abbrev pub IsRead : Written → Story → ℕ → Type 0
IsRead w s k = (w.reached ≡ Reading s k) × (w.bad ≡ None)

pub record GoneOn (q : Moving) (o : MovingOutcome) (next : Moving
    → Written) (s : Story) (k : ℕ) : Type 0 where
  pub then : Moving
  pub lines : List (List ℕ)
  pub is : o ≡ moving.Goes then lines
  pub ends : IsRead (next then) s k

pub gone-on : (q : Moving) (n : ℕ) (o : MovingOutcome) (next : Moving → Written) (s : Story) (k : ℕ)
    → IsRead (moving_after q n o next) s k → GoneOn q o next s k
gone-on q n (moving.Goes then lines) next s k ends =
    record { then = then; lines = lines; is = refl; ends = ends }
gone-on q n (moving.Bad cause) next s k ends = let none = ends.1 in (cc)

pub record Read (q : Moving) (n : ℕ) (bytes : List ℕ) (then : Moving)
    (lines : List (List ℕ)) : Type 0 where
  pub line : Line
  pub short : length bytes ≤ longest_line
  pub spelled : line_of bytes ≡ Some line
  pub enters : moving_entered q n bytes line ≡ moving.Goes then lines

pub was-read : (q : Moving) (n : ℕ) (bytes : List ℕ) (then : Moving) (lines : List (List ℕ))
    → moving_outcome q n bytes ≡ moving.Goes then lines → Read q n bytes then lines
was-read q n bytes then lines is =
    go (nat_lt longest_line (length bytes)) refl (line_of bytes) refl is
  where
    go : (b : Bool) → nat_lt longest_line (length bytes) ≡ b → (o : Option Line) → line_of bytes ≡ o
        → cond b (moving.Bad why.Long) (moving_read_as q n bytes o) ≡ moving.Goes then lines
        → Read q n bytes then lines
    go true long o spelled is = (cc)
    go false long None spelled is = (cc)
    go false long (Some line) spelled is =
        record {
          line = line;
          short = (let le = ltb-false longest_line (length bytes) long in
              omega arith);
          spelled = spelled;
          enters = is;
        }

pub record Answered (s : Story) (raw : List RawLock) (m : ℕ) (bytes : List ℕ) (t : ℕ) (call : Call)
    (a : Result Reply Fault) (q : Moving) (lines : List (List ℕ)) : Type 0 where
  pub reply : Reply
  pub is : a ≡ Ok reply
  pub free : is_free_beside s.history raw t (step_before s.history t call) ≡ true
  pub next : q ≡ Moved (grown s t call reply) (raw_moved s.history raw t call reply) m
  pub written : lines ≡ step_line t (step_before s.history t call)
      ++ bytes ∷ step_line t (step_behind s.history raw t call)

pub was-answered : (s : Story) (raw : List RawLock) (m : ℕ) (bytes : List ℕ) (t : ℕ) (call : Call)
    (a : Result Reply Fault) (q : Moving) (lines : List (List ℕ))
    → answered s raw m bytes t call a ≡ moving.Goes q lines
    → Answered s raw m bytes t call a q lines
was-answered s raw m bytes t call (Err fault) q lines is = (cc)
was-answered s raw m bytes t call (Ok r) q lines is =
    go (is_free_beside s.history raw t (step_before s.history t call)) refl is
  where
    moved : Moving
    moved = Moved (grown s t call r) (raw_moved s.history raw t call r) m

    written_lines : List (List ℕ)
    written_lines =
        step_line t (step_before s.history t call) ++ bytes ∷ step_line t
        (step_behind s.history raw t call)

    go : (b : Bool) → is_free_beside s.history raw t (step_before s.history t call) ≡ b
        → cond b (moving.Goes (Moved (grown s t call r) (raw_moved s.history raw t call r) m)
        (step_line t (step_before s.history t call) ++ bytes
        ∷ step_line t (step_behind s.history raw t call)))
        (moving.Bad (why.Fault RawNotFree)) ≡ moving.Goes q lines
        → Answered s raw m bytes t call (Ok r) q lines
    go true free same = record { reply = r; is = refl; free = free; next = cc; written = cc }
    go false free same = (cc)
