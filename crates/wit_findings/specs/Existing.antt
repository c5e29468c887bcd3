-- Of every recording there is something to write.
use Rattle.std.specs.Prelude.{◌≡◌, ℕ, ◌+◌, Bool, true, false, nat_lt, List, [], ◌∷◌, ◌++◌, length, refl}
use Rattle.std.proofs.Common.{sym, ◌∙◌}
use Rattle.std.proofs.lemmas.Bool.{true≢false}
use Rattle.std.specs.Global.{Vec}
use Rattle.wit_model.specs.Rules.State.{state_of}
use Rattle.wit_model.proofs.Waits.{circle_told}
use Rattle.wit_grammar.specs.declared.parse.TheConstants.{LONGEST}
use Rattle.wit_stream.specs.declared.summary.Summary.{Summary}
use Rattle.wit_grades.specs.Existing.{graded}
use Rattle.wit_grades.specs.Outputs.{fits}
use Rattle.wit_findings.specs.declared.processes.Processes.{Processes}
use Rattle.wit_findings.specs.declared.recording.Reported.{Reported}
use Rattle.wit_findings.specs.Findings.{AfterOutcome, AreEnds, EndsAfter, FindsLines, IsEnd, allowed}
use Rattle.wit_findings.specs.Findings.{at_tail, end_line, outcome_at, summary_of}
use Rattle.wit_findings.specs.Runs.{Run, in_order, known, turned, with_now}
use Rattle.wit_findings.specs.States.{IsState, state_text}
use Rattle.wit_findings.specs.Graded.{IsGraded, TellsGrade, facts_told, grade_line}
use Rattle.wit_findings.specs.Steps.{After, Outcome, Tells, Shows, Grades, Turns, Stops}
use Rattle.wit_findings.specs.Told.{Told}

abbrev pub some_state : (t : Told) → (text : List ℕ) × IsState t text
some_state t =
    let circle = circle_told (state_of t.story) in
    (state_text t circle.0, record { seats = circle.0; circle = circle.1; is = refl })

abbrev pub some_end : (t : Told) → (text : List ℕ) × IsEnd t text
some_end t =
    let state = some_state t in
    (state.0 ++ end_line t, record { state = state.0; is_state = state.1; written = refl })

abbrev pub some_ends : (ts : List Told) → (text : List ℕ) × AreEnds ts text
some_ends [] = ([], refl)
some_ends (t ∷ ts) =
    let end = some_end t in
    let rest = some_ends ts in (
      end.0 ++ rest.0,
      record { first = end.0; rest = rest.0; parted = refl; tells = end.1; goes_on = rest.1 },
    )

abbrev pub some_last : (r : Run) (a : After)
    → (text : List ℕ) × ((summary : Summary) × EndsAfter r a text summary)
some_last r a =
    let all = in_order (with_now r a.told) in
    let ends = some_ends all in (
      a.text ++ ends.0,
      (
        summary_of all,
        record { ends = ends.0; are = ends.1; written = refl; sum = refl },
      ),
    )

-- one vector that there is gives the block of others
module _ {X : Type 0} (some : Vec X) where
  abbrev grade_where_it_fits : (t : Told) (r : Reported) → fits (facts_told t r) ≡ true
      → (text : List ℕ) × IsGraded t r text
  grade_where_it_fits t r fit =
      let answer = graded some (facts_told t r) fit in
      let g = answer.1 in (
        grade_line t r g.lives g.facts g.grade,
        record {
          lives = g.lives;
          facts = g.facts;
          grade = g.grade;
          made = g.made;
          joined = g.joined;
          told = g.told;
          graded = g.graded;
          written = refl;
        },
      )

  abbrev some_grade : (t : Told) (r : Reported) → (text : List ℕ) × TellsGrade t r text
  some_grade t r = by (fits (facts_told t r)) refl
    where
      by : (b : Bool) → fits (facts_told t r) ≡ b → (text : List ℕ) × TellsGrade t r text
      by true fit = let is = grade_where_it_fits t r fit in (is.0, λ _. is.1)
      by false not = ([], λ fit. absurd (true≢false (sym fit ∙ not)))

  abbrev pub some_after : (r : Run) (n : ℕ) (o : Outcome) (next : Run → List ℕ → Summary → Type 0)
      → ((u : Run) → (text : List ℕ) × ((summary : Summary) × next u text summary))
      → (text : List ℕ) × ((summary : Summary)
      × AfterOutcome r n o (λ u rest. next u rest summary) text summary)
  some_after r n (Tells a) next some =
      let rest = some (with_now r a.told) in (
        a.text ++ rest.0,
        (
          rest.1.0,
          record { first = a.text; rest = rest.0; parted = refl; tells = refl; goes_on = rest.1.1 },
        ),
      )
  some_after r n Shows next some =
      let rest = some r in
      let state = some_state r.now in (
        state.0 ++ rest.0,
        (
          rest.1.0,
          record {
            first = state.0;
            rest = rest.0;
            parted = refl;
            tells = state.1;
            goes_on = rest.1.1;
          },
        ),
      )
  some_after r n (Grades report) next some =
      let rest = some r in
      let grade = some_grade r.now report in (
        grade.0 ++ rest.0,
        (
          rest.1.0,
          record {
            first = grade.0;
            rest = rest.0;
            parted = refl;
            tells = grade.1;
            goes_on = rest.1.1;
          },
        ),
      )
  some_after r n (Turns process) next some =
      let rest = some (turned r n process) in (
        rest.0,
        (
          rest.1.0,
          record { first = []; rest = rest.0; parted = refl; tells = refl; goes_on = rest.1.1 },
        ),
      )
  some_after r n (Stops a) next some = some_last r a

  abbrev pub some_findings : (r : Run) (n : ℕ) (lines : List (List ℕ)) (tail : List ℕ)
      → (text : List ℕ) × ((summary : Summary) × FindsLines r n lines tail text summary)
  some_findings r n [] tail = some_last r (at_tail r.now n tail)
  some_findings r n (line ∷ lines) tail =
      some_after r n (outcome_at r.now n (nat_lt LONGEST (length line)) line)
      (λ u rest summary. FindsLines u (n + 1) lines tail rest summary)
      (λ u. some_findings u (n + 1) lines tail)

-- something may always be written
abbrev pub some_allowed : (p : Processes) (n : ℕ) (lines : List (List ℕ)) (tail : List ℕ)
    → (text : List ℕ) × ((summary : Summary) × allowed p n lines tail text summary)
some_allowed p n lines tail = some_findings p.others (known p) n lines tail
