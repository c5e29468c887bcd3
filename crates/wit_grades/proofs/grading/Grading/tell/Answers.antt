use Rattle.std.proofs.Common.{ℕ, List, true, map, refl, ap, ◌∙◌, subst}
use Rattle.std.specs.Global.{Vec}
use Rattle.wit_alarms.specs.declared.facts.Fact.{Fact}
use Rattle.wit_alarms.specs.Grades.{IsGrade}
use Rattle.wit_grades.specs.Reading.{shown}
use Rattle.wit_grades.specs.Outputs.{Told}
use Rattle.wit_grades.proofs.grading.Grading.tell.Goals as goal

pub returns : goal.returns
returns c =
    let lives = c.args.self.now.lives in
    let after : List Fact → Told = λ facts. record {
      made = lives.made.items;
      joined = lives.joined.items;
      facts = map shown facts;
      are_all = true;
    } in (
      ap after c.clear.ensures.items,
      λ fits. record {
        lives = lives;
        facts = c.args.self.now.facts.items;
        grade = c.in_ok-grade.grade;
        made = refl;
        joined = refl;
        told = refl;
        graded =
            subst (λ facts. IsGrade lives facts c.args.self.now.are_all c.in_ok-grade.grade)
            c.deref.ensures.value c.in_ok-grade.ensures;
        written = ap (λ (v : Vec ℕ). v.items) c.into_bytes.ensures.value ∙ c.in_ok-grade_text.ensures;
      },
    )
