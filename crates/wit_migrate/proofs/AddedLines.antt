-- No line that a migration adds has a line feed: the header of the second version, and steps.
use Rattle.std.proofs.Common.{◌≢◌, ℕ, ◌^◌, ◌<◌, List}
use Rattle.std.proofs.Common.{[], ◌∷◌, Option, None, Some, refl}
use Rattle.std.proofs.Common.{codes, arith}
use Rattle.std.specs.Prelude.{All}
use Rattle.std.specs.Fmt.{decimal}
use Rattle.std.proofs.lemmas.Bool.{eqb-false}
use Rattle.std.proofs.lemmas.List.Elements.{All-nil, All-cons}
use Rattle.wit_model.specs.declared.locks.LockNo.{LockNo}
use Rattle.wit_model.specs.declared.locks.Mode.TheVariants.{Shared, Exclusive}
use Rattle.wit_model.specs.declared.lines.Keyword.{Keyword}
use Rattle.wit_model.specs.declared.lines.Keyword.TheVariants as keyword
use Rattle.wit_model.specs.declared.lines.Line.TheVariants.{Header, OnLock}
use Rattle.wit_model.specs.declared.lines.LockLine.TheVariants.{Step}
use Rattle.wit_model.specs.declared.lines.Version.TheVariants.{Two}
use Rattle.wit_model.specs.declared.raw_steps.RawStep.{RawStep}
use Rattle.wit_model.specs.declared.raw_steps.RawStep.TheVariants as raw_step
use Rattle.wit_model.specs.World.Moving.{LockStep}
use Rattle.wit_model.specs.Trace.Moving.{step_line}
use Rattle.wit_model.specs.Trace.Spelling.{spelling, spaced, keyword_text, step_keyword, step_field}
use Rattle.wit_model.specs.Trace.Spelling.{IsSpellable, with_keyword}
use Rattle.wit_model.proofs.Moved.Lines.{IsSmallStep}
use Rattle.wit_model.proofs.Spelling.Codecs.{Lacks, Lacks-append, Lacks-test}
use Rattle.wit_model.proofs.Spelling.Words.{decimal_lacks}
use Rattle.wit_stream.specs.Text.{HasNoFeed}

-- no line has a line feed
abbrev pub ArePlain : List (List ℕ) → Type 0
ArePlain lines = All HasNoFeed lines

plain-lacks : (bytes : List ℕ) → Lacks 10 bytes → HasNoFeed bytes
plain-lacks [] lacks = All-nil (λ c. c ≢ 10)
plain-lacks (b ∷ bytes) lacks =
    All-cons (λ c. c ≢ 10) b bytes (eqb-false b 10 lacks.0) (plain-lacks bytes lacks.1)

abbrev AllLack : List (List ℕ) → Type 0
AllLack [] = Unit {0}
AllLack (field ∷ fields) = Lacks 10 field × AllLack fields

spaced-lacks : (fields : List (List ℕ)) → AllLack fields → Lacks 10 (spaced fields)
spaced-lacks [] lacks = tt
spaced-lacks (field ∷ fields) lacks =
    (refl, Lacks-append 10 field (spaced fields) lacks.0 (spaced-lacks fields lacks.1))

line-plain : (word : Keyword) (fields : List (List ℕ)) → Lacks 10 (keyword_text word)
    → AllLack fields → HasNoFeed (with_keyword word fields)
line-plain word fields first others =
    plain-lacks (with_keyword word fields)
    (Lacks-append 10 (keyword_text word) (spaced fields) first (spaced-lacks fields others))

number-lacks : (n : ℕ) → n < 2 ^ 64 → Lacks 10 (decimal n)
number-lacks n small = decimal_lacks 10 refl n small

step-plain : (t : ℕ) (l : LockNo) (step : RawStep) → t < 2 ^ 16 → l.0 < 2 ^ 32
    → HasNoFeed (spelling (OnLock (Step (record { 0 = t }) l step)))
step-plain t l step seat lock =
    line-plain (step_keyword step) (decimal t ∷ decimal l.0 ∷ step_field step) (word step)
    (number-lacks t (omega arith), (number-lacks l.0 (omega arith), field step))
  where
    word : (step : RawStep) → Lacks 10 (keyword_text (step_keyword step))
    word raw_step.Take = Lacks-test 10 (codes "take") refl
    word (raw_step.TryTake mode) = Lacks-test 10 (codes "trytake") refl
    word raw_step.Free = Lacks-test 10 (codes "free") refl
    word raw_step.Up = Lacks-test 10 (codes "rawup") refl
    word raw_step.Down = Lacks-test 10 (codes "rawdown") refl

    field : (step : RawStep) → AllLack (step_field step)
    field raw_step.Take = tt
    field (raw_step.TryTake Shared) = (Lacks-test 10 (codes "s") refl, tt)
    field (raw_step.TryTake Exclusive) = (Lacks-test 10 (codes "x") refl, tt)
    field raw_step.Free = tt
    field raw_step.Up = tt
    field raw_step.Down = tt

pub header-plain : (s t l c : ℕ) → IsSpellable (Header Two s t l c)
    → HasNoFeed (spelling (Header Two s t l c))
header-plain s t l c small =
    line-plain keyword.Header
    (codes "2" ∷ codes "seats" ∷ decimal s ∷ codes "types" ∷ decimal t ∷ codes "locks" ∷ decimal l
    ∷ codes "chunks" ∷ decimal c ∷ [])
    (Lacks-test 10 (codes "witness-trace") refl) (
      Lacks-test 10 (codes "2") refl,
      (
        Lacks-test 10 (codes "seats") refl,
        (
          number-lacks s (omega (arith, small.0)),
          (
            Lacks-test 10 (codes "types") refl,
            (
              number-lacks t (omega (arith, small.1)),
              (
                Lacks-test 10 (codes "locks") refl,
                (
                  number-lacks l (omega (arith, small.2)),
                  (
                    Lacks-test 10 (codes "chunks") refl,
                    (
                      number-lacks c (omega (arith, small.3)),
                      tt,
                    ),
                  ),
                ),
              ),
            ),
          ),
        ),
      ),
    )

pub step_line-plain : (t : ℕ) (o : Option LockStep) → t < 2 ^ 16 → IsSmallStep o
    → ArePlain (step_line t o)
step_line-plain t None seat small = All-nil HasNoFeed
step_line-plain t (Some k) seat small =
    All-cons HasNoFeed _ [] (step-plain t k.0 k.1 seat small) (All-nil HasNoFeed)
