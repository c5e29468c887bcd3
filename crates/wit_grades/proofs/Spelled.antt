-- A line is read just where it is spelled so.
use Rattle.std.proofs.Common.{◌≡◌, ℕ, zero, suc, ◌≤◌, cond, eqb, List, [], ◌∷◌, ◌++◌}
use Rattle.std.proofs.Common.{length, Option, Some, None, refl, sym, ap, ◌∙◌, subst, arith}
use Rattle.std.proofs.lemmas.Bool.{ne_eqb, eqb-true}
use Rattle.std.proofs.lemmas.List.{nil_from_length}
use Rattle.std.proofs.lemmas.Option.{cond_some}
use Rattle.wit_model.specs.Trace.Spelling.{spaced}
use Rattle.wit_model.specs.Trace.Reading.{◌>>=◌, until, repeated, whole}
use Rattle.wit_model.proofs.Spelling.Codecs.{Ends, bind_some, some_is, chosen, until_end, until_whole}
use Rattle.wit_model.proofs.Spelling.Codecs.{whole_again, made_takes}
use Rattle.wit_model.proofs.Spelling.Repeats.{print_each}
use Rattle.wit_alarms.specs.declared.facts.Had.{Had}
use Rattle.wit_alarms.specs.declared.facts.Life.{Life}
use Rattle.wit_alarms.specs.declared.facts.Join.{Join}
use Rattle.wit_grades.specs.declared.reading.GradeLine.{GradeLine}
use Rattle.wit_grades.specs.declared.reading.GradeLine.TheVariants as said
use Rattle.wit_grades.specs.declared.reading.Keyword.{Keyword}
use Rattle.wit_grades.specs.declared.reading.Keyword.TheVariants as keyword
use Rattle.wit_grades.specs.Reading.{Said, leading_had, leading_fact, many, fact_of, life_of, join_of}
use Rattle.wit_grades.specs.Reading.{fields_of, line_of, keyword_text, keyword_named}
use Rattle.wit_grades.specs.Spelling.{lock_fields, fact_fields, life_fields, join_fields, with_keyword}
use Rattle.wit_grades.specs.Spelling.{spelling, AreLocks, IsFact, IsWritable, Spells}
use Rattle.wit_grades.proofs.Words.{keyword_plain, keyword_takes, keyword_again}
use Rattle.wit_grades.proofs.Codecs.{print_had, had_codec, had-lt, Before, print_before, before_codec}
use Rattle.wit_grades.proofs.Codecs.{three_codec}

-- ---- locks, up to the end of the line

abbrev print_all : List Had → List ℕ → List ℕ
print_all = print_each print_had

all_printed : (hads : List Had) → spaced (lock_fields hads) ≡ print_all hads []
all_printed [] = refl
all_printed (had ∷ hads) = ap (print_had had) (all_printed hads)

all_start : (hads : List Had) → Ends 32 (print_all hads [])
all_start [] = tt
all_start (had ∷ hads) = refl

all-le : (hads : List Had) → length hads ≤ length (print_all hads [])
all-le [] = omega arith
all-le (had ∷ hads) = omega (arith, all-le hads, had-lt had (print_all hads []))

repeated_again : (hads : List Had) (most : ℕ) → AreLocks hads → length hads ≤ most
    → repeated leading_had most (print_all hads []) ≡ Some (hads, [])
repeated_again [] zero fits few = refl
repeated_again [] (suc most) fits few = refl
repeated_again (had ∷ hads) zero fits few = absurd (omega (arith, few))
repeated_again (had ∷ hads) (suc most) fits few =
    rw (
      ne_eqb (length (print_had had (print_all hads []))) 0
          (λ e. absurd (omega (arith, had-lt had (print_all hads [])))),
      had_codec.again had (print_all hads []) (fits.0, tt) (all_start hads),
      repeated_again hads most fits.1 (omega (arith, few)),
    ) refl

all_again : (hads : List Had) → AreLocks hads
    → whole (many leading_had) (print_all hads []) ≡ Some hads
all_again hads fits =
    rw (repeated_again hads (length (print_all hads [])) fits (all-le hads)) refl

abbrev Takes : List ℕ → List Had × List ℕ → Type 0
Takes bytes y = (bytes ≡ print_all y.0 y.1) × AreLocks y.0

repeated_takes : (most : ℕ) (bytes : List ℕ) (y : List Had × List ℕ)
    → repeated leading_had most bytes ≡ Some y → Takes bytes y
repeated_takes zero bytes y e =
    chosen (Takes bytes y) (eqb (length bytes) 0) (Some ([], bytes)) None y
    (λ is some. subst (Takes bytes) (some_is ([], bytes) y some) (refl, tt))
    (λ other none. absurd cc) e
repeated_takes (suc most) bytes y e =
    chosen (Takes bytes y) (eqb (length bytes) 0) (Some ([], bytes))
    (leading_had bytes >>= λ x. repeated leading_had most x.1 >>= λ xs.
    Some (x.0 ∷ xs.0, xs.1)) y
    (λ is some. subst (Takes bytes) (some_is ([], bytes) y some) (refl, tt))
    (λ other some.
    let a =
    bind_some (leading_had bytes)
    (λ x. repeated leading_had most x.1 >>= λ xs. Some (x.0 ∷ xs.0, xs.1)) y some in
    let b = bind_some (repeated leading_had most a.0.1) (λ ys. Some (a.0.0 ∷ ys.0, ys.1)) y a.2 in
    let s = had_codec.takes bytes a.0.0 a.0.1 a.1 in
    let t = repeated_takes most a.0.1 b.0 b.1 in
    subst (Takes bytes) (some_is (a.0.0 ∷ b.0.0, b.0.1) y b.2)
    (s.0 ∙ ap (print_had a.0.0) t.0, (s.1.0, t.1))) e

all_takes : (bytes : List ℕ) (hads : List Had) → whole (many leading_had) bytes ≡ Some hads
    → (bytes ≡ print_all hads []) × AreLocks hads
all_takes bytes hads e =
    let r =
    bind_some (many leading_had bytes) (λ x. cond (eqb (length x.1) 0) (Some x.0) None) hads e in
    let h = cond_some (eqb (length r.0.1) 0) r.0.0 hads r.2 in
    let nothing : r.0.1 ≡ [] = nil_from_length r.0.1 (eqb-true (length r.0.1) 0 h.0) in
    let t = repeated_takes (length bytes) bytes r.0 r.1 in
    subst (λ (hs : List Had). (bytes ≡ print_all hs []) × AreLocks hs) h.1
    (t.0 ∙ ap (print_all r.0.0) nothing, t.1)

-- ---- facts

abbrev before : Said → Before
before f = ((f.held, f.under), (f.asked, (f.manner, (f.thread, (f.first, f.last)))))

abbrev said_of : Before → List Had → Said
said_of x besides = record {
  held = x.0.0;
  under = x.0.1;
  asked = x.1.0;
  manner = x.1.1.0;
  thread = x.1.1.1.0;
  first = x.1.1.1.1.0;
  last = x.1.1.1.1.1;
  besides = besides;
}

fact_again : (f : Said) → IsFact f → fact_of (spaced (fact_fields f)) ≡ Some f
unfolding fact_of
fact_again f fits =
    ap (λ rest. fact_of (print_before (before f) rest)) (all_printed f.besides)
    ∙ rw (
      before_codec.again (before f) (print_all f.besides []) (
        (fits.0, tt),
        ((fits.1.0, tt), (tt, (fits.1.1.0, (fits.1.1.1.0, fits.1.1.1.1.0)))),
      ) (all_start f.besides),
      all_again f.besides fits.1.1.1.1.1,
    ) refl

fact_takes : (bytes : List ℕ) (f : Said) → fact_of bytes ≡ Some f
    → (bytes ≡ spaced (fact_fields f)) × IsFact f
unfolding fact_of
fact_takes bytes f e =
    let a =
    bind_some (leading_fact bytes)
    (λ x. whole (many leading_had) x.1 >>= λ besides. Some (said_of x.0 besides)) f e in
    let b =
    bind_some (whole (many leading_had) a.0.1) (λ besides. Some (said_of a.0.0 besides)) f a.2 in
    let t = before_codec.takes bytes a.0.0 a.0.1 a.1 in
    let m = all_takes a.0.1 b.0 b.1 in
    subst (λ (g : Said). (bytes ≡ spaced (fact_fields g)) × IsFact g)
    (some_is (said_of a.0.0 b.0) f b.2) (
      t.0 ∙ ap (print_before a.0.0) (m.0 ∙ sym (all_printed b.0)),
      (
        t.1.0.0,
        (t.1.1.0.0, (t.1.1.1.1.0, (t.1.1.1.1.1.0, (t.1.1.1.1.1.1, m.1)))),
      ),
    )

-- ---- threads that were made or joined

abbrev life_made : ℕ × (ℕ × ℕ) → Life
life_made x =
    record { thread = record { 0 = x.0 }; maker = record { 0 = x.1.0 }; made_at = x.1.1 }

abbrev join_made : ℕ × (ℕ × ℕ) → Join
join_made x = record { thread = record { 0 = x.0 }; by = record { 0 = x.1.0 }; at = x.1.1 }

life_again : (x : Life) → IsWritable (said.Life x) → life_of (spaced (life_fields x)) ≡ Some x
unfolding life_of
life_again x fits =
    rw (whole_again three_codec tt (x.thread.0, (x.maker.0, x.made_at)) fits) refl

join_again : (x : Join) → IsWritable (said.Joined x) → join_of (spaced (join_fields x)) ≡ Some x
unfolding join_of
join_again x fits = rw (whole_again three_codec tt (x.thread.0, (x.by.0, x.at)) fits) refl

life_takes : (bytes : List ℕ) (x : Life) → life_of bytes ≡ Some x
    → (bytes ≡ spaced (life_fields x)) × IsWritable (said.Life x)
unfolding life_of
life_takes bytes x e =
    let m = made_takes three_codec life_made bytes x e in
    subst (λ (y : Life). (bytes ≡ spaced (life_fields y)) × IsWritable (said.Life y)) m.made
    (m.printed, m.fit)

join_takes : (bytes : List ℕ) (x : Join) → join_of bytes ≡ Some x
    → (bytes ≡ spaced (join_fields x)) × IsWritable (said.Joined x)
unfolding join_of
join_takes bytes x e =
    let m = made_takes three_codec join_made bytes x e in
    subst (λ (y : Join). (bytes ≡ spaced (join_fields y)) × IsWritable (said.Joined y)) m.made
    (m.printed, m.fit)

-- ---- lines

spaced_starts : (fields : List (List ℕ)) → Ends 32 (spaced fields)
spaced_starts [] = tt
spaced_starts (field ∷ fields) = refl

abbrev by_parts : List ℕ × List ℕ → Option (GradeLine Said)
by_parts parts = keyword_named parts.0 >>= λ word. fields_of word parts.1

by_keyword : (word : Keyword) (fields : List (List ℕ))
    → line_of (with_keyword word fields) ≡ fields_of word (spaced fields)
unfolding line_of
by_keyword word fields =
    ap by_parts
    (until_end 32 (keyword_text word) (spaced fields) (keyword_plain word) (spaced_starts fields))
    ∙ ap (λ (o : Option Keyword). o >>= λ w. fields_of w (spaced fields)) (keyword_again word)

line_again : (line : GradeLine Said) → IsWritable line → line_of (spelling line) ≡ Some line
line_again (said.Fact f) fits =
    by_keyword keyword.Fact (fact_fields f) ∙ rw (fact_again f fits) refl
line_again (said.Life x) fits =
    by_keyword keyword.Life (life_fields x) ∙ rw (life_again x fits) refl
line_again (said.Joined x) fits =
    by_keyword keyword.Joined (join_fields x) ∙ rw (join_again x fits) refl
line_again said.Missing fits = by_keyword keyword.Missing []
line_again said.Grade fits = by_keyword keyword.Grade []

alone_takes : (word : Keyword) (rest : List ℕ) (made line : GradeLine Said)
    → with_keyword word [] ≡ spelling made → IsWritable made
    → cond (eqb (length rest) 0) (Some made) None ≡ Some line
    → Spells (keyword_text word ++ rest) line
alone_takes word rest made line is fits e =
    let h = cond_some (eqb (length rest) 0) made line e in
    let nothing : rest ≡ [] = nil_from_length rest (eqb-true (length rest) 0 h.0) in
    subst (Spells (keyword_text word ++ rest)) h.1
    (ap (λ (r : List ℕ). keyword_text word ++ r) nothing ∙ is, fits)

fields_take : (word : Keyword) (rest : List ℕ) (line : GradeLine Said)
    → fields_of word rest ≡ Some line → Spells (keyword_text word ++ rest) line
fields_take keyword.Fact rest line e =
    let b = bind_some (fact_of rest) (λ f. Some (said.Fact f)) line e in
    let t = fact_takes rest b.0 b.1 in
    subst (Spells (keyword_text keyword.Fact ++ rest)) (some_is (said.Fact b.0) line b.2)
    (ap (λ (r : List ℕ). keyword_text keyword.Fact ++ r) t.0, t.1)
fields_take keyword.Life rest line e =
    let b = bind_some (life_of rest) (λ x. Some (said.Life x)) line e in
    let t = life_takes rest b.0 b.1 in
    subst (Spells (keyword_text keyword.Life ++ rest)) (some_is (said.Life b.0) line b.2)
    (ap (λ (r : List ℕ). keyword_text keyword.Life ++ r) t.0, t.1)
fields_take keyword.Joined rest line e =
    let b = bind_some (join_of rest) (λ x. Some (said.Joined x)) line e in
    let t = join_takes rest b.0 b.1 in
    subst (Spells (keyword_text keyword.Joined ++ rest)) (some_is (said.Joined b.0) line b.2)
    (ap (λ (r : List ℕ). keyword_text keyword.Joined ++ r) t.0, t.1)
fields_take keyword.Missing rest line e =
    alone_takes keyword.Missing rest said.Missing line refl tt e
fields_take keyword.Grade rest line e = alone_takes keyword.Grade rest said.Grade line refl tt e

line_takes : (bytes : List ℕ) (line : GradeLine Said) → line_of bytes ≡ Some line
    → Spells bytes line
unfolding line_of
line_takes bytes line e =
    let rest = (until 32 bytes).1 in
    let a =
    bind_some (keyword_named (until 32 bytes).0) (λ word. fields_of word rest) line e in
    let whole : bytes ≡ keyword_text a.0 ++ rest =
    until_whole 32 bytes
    ∙ ap (λ (x : List ℕ). x ++ rest) (keyword_takes (until 32 bytes).0 a.0 a.1) in
    subst (λ (x : List ℕ). Spells x line) (sym whole) (fields_take a.0 rest line a.2)

pub reads-spellings : (bytes : List ℕ) (line : GradeLine Said)
    → (line_of bytes ≡ Some line → Spells bytes line)
    × (Spells bytes line → line_of bytes ≡ Some line)
reads-spellings bytes line =
    (line_takes bytes line, λ is. ap line_of is.0 ∙ line_again line is.1)
