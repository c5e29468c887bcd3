-- The lines that a migration writes of steps are read as these steps.
use Rattle.std.proofs.Common.{◌≡◌, ℕ, ◌^◌, ◌<◌, ◌≤◌, Bool, true, false, cond, List, length, Option}
use Rattle.std.proofs.Common.{None, Some, ap, ◌∙◌}
use Rattle.std.proofs.lemmas.Bool.{le-ltb}
use Rattle.wit_model.specs.declared.calls.Call.{Call}
use Rattle.wit_model.specs.declared.calls.Call.TheVariants.{Note, NoteTry, Unlock, Upgrade}
use Rattle.wit_model.specs.declared.calls.Call.TheVariants.{Downgrade}
use Rattle.wit_model.specs.declared.calls.Entry.{Entry}
use Rattle.wit_model.specs.declared.locks.LockNo.{LockNo}
use Rattle.wit_model.specs.declared.locks.Class.{Class}
use Rattle.wit_model.specs.declared.lines.Line.{Line}
use Rattle.wit_model.specs.declared.lines.Line.TheVariants.{Header, Profile, Order, Bless, Init}
use Rattle.wit_model.specs.declared.lines.Line.TheVariants.{OnLock, Assert, Warn, Define, Watch}
use Rattle.wit_model.specs.declared.lines.LockLine.TheVariants.{Check, Try, Plain, Step}
use Rattle.wit_model.specs.declared.lines.LockLine.TheVariants as lock_line
use Rattle.wit_model.specs.declared.lines.Cause.TheVariants as why
use Rattle.wit_model.specs.declared.lines.Verb.{Verb}
use Rattle.wit_model.specs.declared.lines.Verb.TheVariants as verb
use Rattle.wit_model.specs.Rules.History.{is_held}
use Rattle.wit_model.specs.World.Deeds.{RawDown}
use Rattle.wit_model.specs.World.Moving.{LockStep, step_before, step_behind, is_kept}
use Rattle.wit_model.specs.World.Scenes.{RawLock, is_free}
use Rattle.wit_model.specs.Trace.Output.{Progress, Bad, LineCall, Logs, LogsAt, verb_call, call_of}
use Rattle.wit_model.specs.Trace.Output.{entered, read_as, outcome}
use Rattle.wit_model.specs.Trace.Reading.{line_of}
use Rattle.wit_model.specs.Trace.Spelling.{spelling, IsSpellable}
use Rattle.wit_model.proofs.Spelling.Laws.{line_again}
use Rattle.wit_model.proofs.Spelling.Lengths.{spelled-le}
use Rattle.wit_model.specs.Trace.Outcomes.{longest_line}

-- a line of good length is read as what it spells
pub read-short : (p : Progress) (n : ℕ) (bytes : List ℕ) (line : Line) → length bytes ≤ longest_line
    → line_of bytes ≡ Some line → outcome p n bytes ≡ entered p n line
read-short p n bytes line short is =
    ap (λ b. cond b (Bad why.Long) (read_as p n (line_of bytes)))
    (le-ltb longest_line (length bytes) short)
    ∙ ap (λ o. read_as p n o) is

pub read-spelled : (p : Progress) (n : ℕ) (line : Line) → IsSpellable line
    → ((list : List (Class × List ℕ)) → line ≡ Order list → ⊥)
    → outcome p n (spelling line) ≡ entered p n line
read-spelled p n line fits other =
    read-short p n (spelling line) line (spelled-le line fits other) (line_again line fits)

-- ---- numbers of a step that stands beside a call

abbrev pub IsSmallStep : Option LockStep → Type 0
IsSmallStep None = Unit {0}
IsSmallStep (Some k) = k.0.0 < 2 ^ 32

abbrev pub IsSmallCall : Call → Type 0
IsSmallCall (Note l) = l.0 < 2 ^ 32
IsSmallCall (NoteTry l m site) = l.0 < 2 ^ 32
IsSmallCall (Unlock l m) = l.0 < 2 ^ 32
IsSmallCall (Upgrade l) = l.0 < 2 ^ 32
IsSmallCall (Downgrade l) = l.0 < 2 ^ 32
IsSmallCall _ = Unit {0}

abbrev pub IsSmall : LineCall → Type 0
IsSmall (Logs t call) = (t < 2 ^ 16) × IsSmallCall call
IsSmall (LogsAt t file call) = (t < 2 ^ 16) × ((f : ℕ) → IsSmallCall (call f))
IsSmall _ = Unit {0}

if-small : (b : Bool) (k : LockStep) → k.0.0 < 2 ^ 32 → IsSmallStep (cond b None (Some k))
if-small true k small = tt
if-small false k small = small

if-small' : (b : Bool) (k : LockStep) → k.0.0 < 2 ^ 32 → IsSmallStep (cond b (Some k) None)
if-small' true k small = small
if-small' false k small = tt

pub small-before : (h : List Entry) (t : ℕ) (call : Call) → IsSmallCall call
    → IsSmallStep (step_before h t call)
small-before h t (Note l) small = if-small (is_held t l.0 h) _ small
small-before h t (NoteTry l m site) small = small
small-before h t (Upgrade l) small = small
small-before h t _ small = tt

pub small-behind : (h : List Entry) (raw : List RawLock) (t : ℕ) (call : Call) → IsSmallCall call
    → IsSmallStep (step_behind h raw t call)
small-behind h raw t (Unlock l m) small = if-small (is_kept h raw t l.0) _ small
small-behind h raw t (Downgrade l) small = if-small' (is_free raw (RawDown t l.0)) _ small
small-behind h raw t _ small = tt

small-verb : (v : Verb) (l : LockNo) → l.0 < 2 ^ 32 → IsSmallCall (verb_call v l)
small-verb verb.Note l small = small
small-verb verb.GiveUp l small = tt
small-verb verb.Destroy l small = tt
small-verb verb.Upgrade l small = small
small-verb verb.Downgrade l small = small
small-verb verb.NoRelease l small = tt
small-verb verb.ReleaseOk l small = tt

-- those of a line that has a spelling are small
pub small-line : (line : Line) → IsSpellable line → IsSmall (call_of line)
small-line (OnLock (Check s l m o f n)) p = (p.0, λ file. tt)
small-line (OnLock (Try s l m f n)) p = (p.0, λ file. p.1)
small-line (OnLock (lock_line.Unlock s l m)) p = (p.0, p.1)
small-line (OnLock (Plain v s l)) p = (p.0, small-verb v l p.1)
small-line (OnLock (Step s l step)) p = tt
small-line (Init s lock) p = (p.0, tt)
small-line (Define s a b) p = (p.0, tt)
small-line (Watch s w) p = (p, tt)
small-line (Assert s l a) p = tt
small-line (Warn s l f) p = tt
small-line (Header v s t l c) p = tt
small-line Profile p = tt
small-line (Order list) p = tt
small-line (Bless a b) p = tt
