-- Something may always be written.
use Rattle.std.specs.Prelude.{ℕ, ◌+◌, Bool, true, false, nat_lt, List, [], ◌∷◌, length}
use Rattle.std.specs.Prelude.{None, Some, Result, Ok, Err, refl, if◌then◌else◌}
use Rattle.std.proofs.lemmas.List.Sorted.{IsPermutation-refl}
use Rattle.wit_grammar.specs.declared.parse.TheConstants.{LONGEST}
use Rattle.wit_stream.specs.declared.summary.Summary.{Summary}
use Rattle.wit_merge.specs.declared.flaws.Flaw.{Flaw}
use Rattle.wit_merge.specs.declared.flaws.Flaw.TheVariants as wrong
use Rattle.wit_merge.specs.declared.machine.Shown.{Shown}
use Rattle.wit_merge.specs.declared.machine.Shown.TheVariants as shown
use Rattle.wit_merge.specs.Flaws.{cause_of}
use Rattle.wit_merge.specs.Lines.{Merged, after_line}
use Rattle.wit_merge.specs.Outputs.{AfterLine, AfterTaken, AtEnd, IsShownAs, Refuses, ShowsLines, Tells}
use Rattle.wit_merge.specs.Outputs.{bad_text, ended}
use Rattle.wit_merge.specs.Rows.{Row}
use Rattle.wit_merge.specs.Standing.{total}
use Rattle.wit_merge.specs.Texts.{count_if, is_unseen, merged_text, people_rows, unseen_text}

abbrev Some_text : (List ℕ → Summary → Type 0) → Type 0
Some_text allowed = (text : List ℕ) × ((summary : Summary) × allowed text summary)

abbrev refused : (n : ℕ) (flaw : Flaw) → Some_text (Refuses n flaw)
refused n flaw =
    (bad_text n flaw, (ended 0 (Some (n, cause_of flaw)), record { written = refl; summed = refl }))

abbrev shown_so : (by : Shown) (all : ℕ) (rows : List Row) → Some_text (IsShownAs by all rows)
shown_so shown.Merged all rows = (merged_text all rows, (ended 0 None, (refl, refl)))
shown_so shown.Text all rows = (people_rows [] rows, (ended 0 None, (refl, refl)))
shown_so (shown.Unseen within) all rows = (
  unseen_text within all rows,
  (ended (count_if (is_unseen within all) rows) None, (refl, refl)),
)

abbrev tells : (by : Shown) (m : Merged) → Some_text (Tells by m)
tells by m =
    let so = shown_so by (total m.standing) m.rows in (
      so.0,
      (so.1.0, record { listed = m.rows; same = IsPermutation-refl m.rows; told = so.1.1 }),
    )

abbrev at_end : (by : Shown) (m : Merged) (n : ℕ) (tail : List ℕ) → Some_text (AtEnd by m n tail)
at_end by m n [] = tells by m
at_end by m n (b ∷ tail) =
    refused n (if nat_lt LONGEST (length (b ∷ tail)) then wrong.Long else wrong.Cut)

abbrev after_taken : (n : ℕ) (taken : Result Merged Flaw)
    (next : Merged → List ℕ → Summary → Type 0) → ((m : Merged) → Some_text (next m))
    → Some_text (AfterTaken n taken next)
after_taken n (Ok m) next rest = rest m
after_taken n (Err flaw) next rest = refused n flaw

abbrev after_any : (m : Merged) (n : ℕ) (is_long : Bool) (line : List ℕ)
    (next : Merged → List ℕ → Summary → Type 0) → ((m : Merged) → Some_text (next m))
    → Some_text (AfterLine m n is_long line next)
after_any m n true line next rest = refused n wrong.Long
after_any m n false line next rest = after_taken n (after_line m line) next rest

abbrev pub some_shown : (by : Shown) (lines : List (List ℕ)) (m : Merged) (n : ℕ) (tail : List ℕ)
    → (text : List ℕ) × ((summary : Summary) × ShowsLines by m n lines tail text summary)
some_shown by [] m n tail = at_end by m n tail
some_shown by (line ∷ lines) m n tail =
    after_any m n (nat_lt LONGEST (length line)) line
    (λ next. ShowsLines by next (n + 1) lines tail) (λ next. some_shown by lines next (n + 1) tail)
