-- Something may always be written: what was told has a grade.
use Rattle.std.specs.Prelude.{◌≡◌, ℕ, ◌+◌, ◌^◌, ◌<◌, Bool, true, false, ◌&&◌, nat_lt, List, [], ◌∷◌}
use Rattle.std.specs.Prelude.{◌++◌, length, map, Option, Some, None, refl}
use Rattle.std.proofs.Common.{sym, ap, ◌∙◌, subst, suc}
use Rattle.std.proofs.lemmas.Bool.{true≢false, and_parts, ltb-true}
use Rattle.std.specs.List.{list_all}
use Rattle.std.specs.Global.{Vec}
use Rattle.wit_grammar.specs.declared.parse.TheConstants.{LONGEST}
use Rattle.wit_stream.specs.declared.summary.Summary.{Summary}
use Rattle.wit_alarms.specs.declared.facts.Fact.{Fact}
use Rattle.wit_alarms.specs.declared.facts.Lives.{Lives}
use Rattle.wit_alarms.proofs.Existing.{vec, some-grade}
use Rattle.wit_grades.specs.declared.reading.GradeLine.{GradeLine}
use Rattle.wit_grades.specs.declared.reading.GradeLine.TheVariants as said
use Rattle.wit_grades.specs.Reading.{Said, line_of, shown}
use Rattle.wit_grades.specs.Answers.{grade_text}
use Rattle.wit_grades.specs.Outputs.{Told, told_after, fits, is_short, Answers, IsGraded, AtEnd}
use Rattle.wit_grades.specs.Outputs.{AfterRead, AfterLine, GradesLines, ended}

-- one vector that there is gives the block of others
module _ {X : Type 0} (some : Vec X) where
  abbrev few : {Y : Type 0} (items : List Y) → is_short items ≡ true → length items < 2 ^ 63
  few items short = ltb-true (length items) (2 ^ 63) short

  abbrev fact : (f : Said) → is_short f.besides ≡ true → (g : Fact) × (shown g ≡ f)
  fact f short = (
    record {
      held = f.held;
      under = f.under;
      asked = f.asked;
      manner = f.manner;
      besides = vec some f.besides (few f.besides short);
      thread = f.thread;
      first = f.first;
      last = f.last;
    },
    refl,
  )

  abbrev facts-of : (fs : List Said) → list_all (λ (f : Said). is_short f.besides) fs ≡ true
      → (gs : List Fact) × (map shown gs ≡ fs)
  facts-of [] all = ([], refl)
  facts-of (f ∷ fs) all =
      let parts =
      and_parts (is_short f.besides) (list_all (λ (f : Said). is_short f.besides) fs) all in
      let one = fact f parts.0 in
      let more = facts-of fs parts.1 in
      (one.0 ∷ more.0, ap (λ x. x ∷ map shown more.0) one.1 ∙ ap (λ xs. f ∷ xs) more.1)

  abbrev same-length : (gs : List Fact) → length (map shown gs) ≡ length gs
  same-length [] = refl
  same-length (g ∷ gs) = ap suc (same-length gs)

  -- a grade of what was told
  abbrev pub graded : (t : Told) → fits t ≡ true → (text : List ℕ) × IsGraded t text
  graded t fit =
      let a =
      and_parts (is_short t.made)
      (is_short t.joined && (is_short t.facts
      && list_all (λ (f : Said). is_short f.besides) t.facts)) fit in
      let b =
      and_parts (is_short t.joined)
      (is_short t.facts && list_all (λ (f : Said). is_short f.besides) t.facts) a.1 in
      let c =
      and_parts (is_short t.facts) (list_all (λ (f : Said). is_short f.besides) t.facts) b.1 in
      let lives : Lives = record {
        made = vec some t.made (few t.made a.0);
        joined = vec some t.joined (few t.joined b.0);
      } in
      let facts = facts-of t.facts c.1 in
      let all = few t.facts c.0 in
      let some =
      some-grade some lives facts.0
      (subst (λ n. n < 2 ^ 63)
      (sym (ap (λ (xs : List Said). length xs) facts.1) ∙ same-length facts.0) all)
      t.are_all in (
        grade_text some.0,
        record {
          lives = lives;
          facts = facts.0;
          grade = some.0;
          made = refl;
          joined = refl;
          told = facts.1;
          graded = some.1;
          written = refl;
        },
      )

  abbrev some-answer : (t : Told) → (text : List ℕ) × Answers t text
  some-answer t = by (fits t) refl
    where
      by : (b : Bool) → fits t ≡ b → (text : List ℕ) × Answers t text
      by true fit = let some = graded t fit in (some.0, λ _. some.1)
      by false not = ([], λ fit. absurd (true≢false (sym fit ∙ not)))

  abbrev Allowed : (List ℕ → Summary → Type 0) → Type 0
  Allowed allowed = (text : List ℕ) × ((summary : Summary) × allowed text summary)

  abbrev at-end : (n : ℕ) (tail : List ℕ) → Allowed (AtEnd n tail)
  at-end n [] = ([], (ended None, record { written = refl; summed = refl }))
  at-end n (b ∷ tail) = (_, (_, record { written = refl; summed = refl }))

  module _ (t : Told) (n : ℕ) (next : Told → List ℕ → Summary → Type 0)
      (go : (t' : Told) → Allowed (next t')) where
    abbrev by-read : (read : Option (GradeLine Said))
        → Allowed (λ text summary. AfterRead t n read (λ t' rest. next t' rest summary) text summary)
    by-read None = (_, (_, record { written = refl; summed = refl }))
    by-read (Some (said.Fact f)) = go (told_after t (said.Fact f))
    by-read (Some (said.Life life)) = go (told_after t (said.Life life))
    by-read (Some (said.Joined join)) = go (told_after t (said.Joined join))
    by-read (Some said.Missing) = go (told_after t said.Missing)
    by-read (Some said.Grade) =
        let answer = some-answer t in
        let rest = go (told_after t said.Grade) in (
          answer.0 ++ rest.0,
          (
            rest.1.0,
            record {
              answer = answer.0;
              rest = rest.0;
              parted = refl;
              answers = answer.1;
              goes_on = rest.1.1;
            },
          ),
        )

    abbrev by-line : (long : Bool) (line : List ℕ)
        → Allowed (λ text summary.
        AfterLine t n long line (λ t' rest. next t' rest summary) text summary)
    by-line true line = (_, (_, record { written = refl; summed = refl }))
    by-line false line = by-read (line_of line)

  -- some text may be written, with some summary
  abbrev pub some_grades : (t : Told) (n : ℕ) (lines : List (List ℕ)) (tail : List ℕ)
      → (text : List ℕ) × ((summary : Summary) × GradesLines t n lines tail text summary)
  some_grades t n [] tail = at-end n tail
  some_grades t n (line ∷ lines) tail =
      by-line t n (λ t' rest summary. GradesLines t' (n + 1) lines tail rest summary)
      (λ t'. some_grades t' (n + 1) lines tail) (nat_lt LONGEST (length line)) line
