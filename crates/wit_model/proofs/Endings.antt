-- A reading that ends at no bad line came to a story or a scene.
use Rattle.std.proofs.Common.{ℕ, ◌+◌, List, [], ◌∷◌, Option, None, Some, Result, Ok, Err}
use Rattle.wit_model.specs.Trace.Output.{Progress, Unstarted, Opening, Reading, Stepping, BadLine}
use Rattle.wit_model.specs.Trace.Output.{Course, Outcome, Goes, Bad, ends, course_after, course_at}
use Rattle.wit_model.specs.Trace.Output.{course_from, reached, outcome}

abbrev pub IsEnd : Progress → Option BadLine → Type 0
IsEnd p (Some bad) = Unit {0}
IsEnd (Reading s m) None = Unit {0}
IsEnd (Stepping s m) None = Unit {0}
IsEnd p None = ⊥

EndsWell : Course → Type 0
EndsWell c = IsEnd c.reached c.bad

ends-well : (p : Progress) (n : ℕ) (tail : List ℕ) → EndsWell (ends p n tail)
unfolding EndsWell
ends-well Unstarted n [] = tt
ends-well (Opening o) n [] = tt
ends-well (Reading s m) n [] = tt
ends-well (Stepping s m) n [] = tt
ends-well Unstarted n (b ∷ tail) = tt
ends-well (Opening o) n (b ∷ tail) = tt
ends-well (Reading s m) n (b ∷ tail) = tt
ends-well (Stepping s m) n (b ∷ tail) = tt

after-well : (p : Progress) (n : ℕ) (o : Outcome) (next : Progress → Course)
    → ((q : Progress) → EndsWell (next q)) → EndsWell (course_after p n o next)
unfolding EndsWell
after-well p n (Goes q text) next well = well q
after-well p n (Bad cause) next well = tt

at-well : (p : Progress) (r : Result Progress BadLine) (next : Progress → Course)
    → ((q : Progress) → EndsWell (next q)) → EndsWell (course_at p r next)
unfolding EndsWell
at-well p (Ok q) next well = well q
at-well p (Err bad) next well = tt

all-well : (lines : List (List ℕ)) (p : Progress) (n : ℕ) (tail : List ℕ)
    → EndsWell (course_from p n lines tail)
all-well [] p n tail = at-well p (reached p n tail) _ (λ q. ends-well q n tail)
all-well (line ∷ lines) p n tail =
    at-well p (reached p n line) _ (λ q.
    after-well q n (outcome q n line) _ (λ r. all-well lines r (n + 1) tail))

pub course-ends : (p : Progress) (n : ℕ) (lines : List (List ℕ)) (tail : List ℕ)
    → IsEnd (course_from p n lines tail).reached (course_from p n lines tail).bad
unfolding EndsWell
course-ends p n lines tail = all-well lines p n tail
