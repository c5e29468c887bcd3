-- What a line of a process is for the run.
use Rattle.std.proofs.Common.{◌≡◌, ℕ, ◌==◌, if◌then◌else◌, Bool, true, false, List, [], Option, Some, None, is_some}
use Rattle.std.proofs.Common.{refl, ap, sym, ◌∙◌, subst, true≢false}
use Rattle.std.specs.Option.{unwrap_or}
use Rattle.wit_recorded.specs.declared.lines.Line.{Line}
use Rattle.wit_recorded.specs.declared.lines.Line.TheVariants as said
use Rattle.wit_recorded.specs.declared.lines.TheConstants.{VERSION}
use Rattle.wit_findings.specs.Findings.{Enters, EntersRun}
use Rattle.wit_findings.specs.Runs.{Run, turned, with_now}
use Rattle.wit_findings.specs.declared.recording.Reported.{Reported}
use Rattle.wit_findings.specs.Graded.{report_at}
use Rattle.wit_findings.specs.Steps.{After, Tells, Turns, Stops, grades, outcome_of}
use Rattle.wit_findings.specs.Steps.{turns_to}
use Rattle.wit_findings.specs.Told.{Told}

module _ (r : Run) (n : ℕ) (new : Told) (text : List ℕ) (goes : Bool) where
  tells : (a : After) → Enters r.now (Tells a) new text goes
      → EntersRun r n (Tells a) (with_now r new) text goes
  tells a e = (ap (with_now r) e.0, e.1, e.2)

  stops : (a : After) → Enters r.now (Stops a) new text goes
      → EntersRun r n (Stops a) (with_now r new) text goes
  stops a e = (ap (with_now r) e.0, e.1, e.2)

  either-way : (b : Bool) (a c : After)
      → Enters r.now (if b then Tells a else Stops c) new text goes
      → EntersRun r n (if b then Tells a else Stops c) (with_now r new) text goes
  either-way true a c e = tells a e
  either-way false a c e = stops c e

  by-report : (found : Option Reported) → Enters r.now (grades r.now n found) new text goes
      → EntersRun r n (grades r.now n found) (with_now r new) text goes
  by-report None e = tells _ e
  by-report (Some report) e = (ap (with_now r) e.0, e.1, e.2)

  -- one that doesn't say of which process those after it are
  pub enters_run : (line : Line) → turns_to line ≡ None
      → Enters r.now (outcome_of r.now n line) new text goes
      → EntersRun r n (outcome_of r.now n line) (with_now r new) text goes
  enters_run (said.Begun version lost) none e = either-way (version == VERSION) _ _ e
  enters_run (said.Name number name) none e = tells _ e
  enters_run (said.Init seat class recursive of) none e = tells _ e
  enters_run (said.Thread seat thread) none e = tells _ e
  enters_run (said.Check a) none e = tells _ e
  enters_run (said.Try a) none e = tells _ e
  enters_run (said.Lock seat lock) none e = tells _ e
  enters_run (said.GiveUp seat lock) none e = tells _ e
  enters_run (said.Unlock seat lock mode) none e = tells _ e
  enters_run (said.Error what seat lock place) none e = tells _ e
  enters_run (said.Pair pair) none e = tells _ e
  enters_run said.Many none e = tells _ e
  enters_run (said.Life thread maker at) none e = tells _ e
  enters_run (said.Joined thread by at) none e = tells _ e
  enters_run (said.Grade line) none e = by-report (report_at r.now.reports line) e
  enters_run said.Passed none e = tells _ e
  enters_run said.Look none e = (ap (with_now r) e.0, e.1, e.2)
  enters_run (said.Process process) none e = absurd (true≢false (ap is_some none))

-- one that does
module _ (r : Run) (n : ℕ) (process : ℕ) (new : Run) (is : new ≡ turned r n process) where
  turns : (other : Option ℕ) → other ≡ None → other ≡ Some process → ⊥
  turns other none some = true≢false (sym (ap is_some some) ∙ ap is_some none)

  pub turns_run : (line : Line) → turns_to line ≡ Some process
      → EntersRun r n (outcome_of r.now n line) new [] true
  turns_run (said.Begun version lost) some = absurd (turns None refl some)
  turns_run (said.Name number name) some = absurd (turns None refl some)
  turns_run (said.Init seat class recursive of) some = absurd (turns None refl some)
  turns_run (said.Thread seat thread) some = absurd (turns None refl some)
  turns_run (said.Check a) some = absurd (turns None refl some)
  turns_run (said.Try a) some = absurd (turns None refl some)
  turns_run (said.Lock seat lock) some = absurd (turns None refl some)
  turns_run (said.GiveUp seat lock) some = absurd (turns None refl some)
  turns_run (said.Unlock seat lock mode) some = absurd (turns None refl some)
  turns_run (said.Error what seat lock place) some = absurd (turns None refl some)
  turns_run (said.Pair pair) some = absurd (turns None refl some)
  turns_run said.Many some = absurd (turns None refl some)
  turns_run (said.Life thread maker at) some = absurd (turns None refl some)
  turns_run (said.Joined thread by at) some = absurd (turns None refl some)
  turns_run (said.Grade line) some = absurd (turns None refl some)
  turns_run said.Passed some = absurd (turns None refl some)
  turns_run said.Look some = absurd (turns None refl some)
  turns_run (said.Process other) some =
      subst (λ k. EntersRun r n (Turns k) new [] true) (sym (ap (λ o. unwrap_or o 0) some))
      (is, refl, refl)
