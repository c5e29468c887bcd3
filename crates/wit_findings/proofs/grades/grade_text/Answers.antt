use Rattle.std.proofs.Common.{not, List, ap, ◌∙◌, subst}
use Rattle.wit_alarms.specs.declared.facts.Fact.{Fact}
use Rattle.wit_alarms.specs.Grades.{IsGrade}
use Rattle.wit_tellings.specs.Facts.{facts}
use Rattle.wit_tellings.specs.Heard.{lacks}
use Rattle.wit_findings.specs.Graded.{grade_line}
use Rattle.wit_findings.specs.Told.{Told, told}
use Rattle.wit_findings.proofs.grades.grade_text.Goals as goal

pub returns : goal.returns
returns c =
    let t : Told = told c.args.known.now in
    let lives = c.in_ok-lives.lives in
    let grade = c.in_ok-grade.grade in
    λ fits. record {
      lives = lives;
      facts = c.in_ok-facts.facts.items;
      grade = grade;
      made = c.in_ok-lives.ensures.made;
      joined = c.in_ok-lives.ensures.joined;
      told =
          c.in_ok-facts.ensures
          ∙ ap (facts t.heard) (c.deref.ensures.value ∙ c.in_ok-tellers.ensures);
      graded =
          subst (λ (fs : List Fact). IsGrade lives fs (not (lacks t.heard)) grade)
          c.deref-2.ensures.value
          (subst (λ b. IsGrade lives c.deref-2.result.now (not b) grade) c.lacks.ensures
          c.in_ok-grade.ensures);
      written =
          c.in_ok-text.ensures
          ∙ ap (λ (fs : List Fact). grade_line t c.args.report.now lives fs grade)
          c.deref-4.ensures.value;
    }
