-- What is written of files of orders.
use Rattle.std.specs.Prelude.{◌≡◌, ℕ, ◌+◌, Bool, true, false, nat_lt, List, [], ◌∷◌, length}
use Rattle.std.specs.Prelude.{Option, Some, None, Result, Ok, Err, IsPermutation, codes, if◌then◌else◌}
use Rattle.std.specs.Fmt.{decimal}
use Rattle.wit_model.specs.declared.lines.Cause.{Cause}
use Rattle.wit_model.specs.Trace.Texts as texts
use Rattle.wit_grammar.specs.declared.parse.TheConstants.{LONGEST}
use Rattle.wit_stream.specs.declared.summary.Summary.{Summary}
use Rattle.wit_stream.specs.Text.{text_of}
use Rattle.wit_merge.specs.declared.flaws.Flaw.{Flaw}
use Rattle.wit_merge.specs.declared.flaws.Flaw.TheVariants as wrong
use Rattle.wit_merge.specs.declared.machine.Shown.{Shown}
use Rattle.wit_merge.specs.declared.machine.Shown.TheVariants as shown
use Rattle.wit_merge.specs.Flaws.{cause_of, flaw_text}
use Rattle.wit_merge.specs.Lines.{Merged, after_line, nothing_merged}
use Rattle.wit_merge.specs.Rows.{Row}
use Rattle.wit_merge.specs.Standing.{total}
use Rattle.wit_merge.specs.Texts.{count_if, is_unseen, merged_text, people_rows, unseen_text}

abbrev pub ended : ℕ → Option (ℕ × Cause) → Summary
ended reports bad = record { calls = 0; reports = reports; circle = false; bad = bad }

abbrev pub bad_text : ℕ → Flaw → List ℕ
bad_text n flaw = texts.line (codes "line " ∷ decimal n ∷ codes ": " ∷ flaw_text flaw ∷ [])

-- the reading ends at the bad line with this number
pub record Refuses (n : ℕ) (flaw : Flaw) (text : List ℕ) (summary : Summary) : Type 0 where
  pub written : text ≡ bad_text n flaw
  pub summed : summary ≡ ended 0 (Some (n, cause_of flaw))

-- of orders that are listed so this is shown; each that is unseen counts as reported
abbrev pub IsShownAs : Shown → ℕ → List Row → List ℕ → Summary → Type 0
IsShownAs shown.Merged total rows text summary =
    (text ≡ merged_text total rows) × (summary ≡ ended 0 None)
IsShownAs shown.Text total rows text summary =
    (text ≡ people_rows [] rows) × (summary ≡ ended 0 None)
IsShownAs (shown.Unseen within) total rows text summary =
    (text ≡ unseen_text within total rows)
    × (summary ≡ ended (count_if (is_unseen within total) rows) None)

-- it ends with the input: the orders are listed, each once, and shown
pub record Tells (by : Shown) (m : Merged) (text : List ℕ) (summary : Summary) : Type 0 where
  pub listed : List Row
  pub same : IsPermutation m.rows listed
  pub told : IsShownAs by (total m.standing) listed text summary

-- after the last whole line
abbrev pub AtEnd : Shown → Merged → ℕ → List ℕ → List ℕ → Summary → Type 0
AtEnd by m n [] text summary = Tells by m text summary
AtEnd by m n (b ∷ tail) text summary =
    Refuses n (if nat_lt LONGEST (length (b ∷ tail)) then wrong.Long else wrong.Cut) text summary

-- after a line that is taken so
abbrev pub AfterTaken : ℕ → Result Merged Flaw → (Merged → List ℕ → Summary → Type 0)
    → List ℕ → Summary → Type 0
AfterTaken n (Ok m) next text summary = next m text summary
AfterTaken n (Err flaw) next text summary = Refuses n flaw text summary

-- after a line, which may be too long
abbrev pub AfterLine : Merged → ℕ → Bool → List ℕ → (Merged → List ℕ → Summary → Type 0)
    → List ℕ → Summary → Type 0
AfterLine m n true line next text summary = Refuses n wrong.Long text summary
AfterLine m n false line next text summary = AfterTaken n (after_line m line) next text summary

-- from here on, where the next line has number n, these whole lines and this unfinished one are to
-- come
abbrev pub ShowsLines : Shown → Merged → ℕ → List (List ℕ) → List ℕ → List ℕ → Summary → Type 0
ShowsLines by m n [] tail text summary = AtEnd by m n tail text summary
ShowsLines by m n (line ∷ lines) tail text summary =
    AfterLine m n (nat_lt LONGEST (length line)) line
    (λ next. ShowsLines by next (n + 1) lines tail) text summary

-- from here on, where the first line of the bytes has this number
abbrev pub ShowsFrom : Shown → Merged → ℕ → List ℕ → List ℕ → Summary → Type 0
ShowsFrom by m n input text summary =
    ShowsLines by m n (text_of input).lines (text_of input).tail text summary

-- the orders of the files are shown; or the first bad line is told
abbrev pub ShowsOrders : Shown → List ℕ → List ℕ → Summary → Type 0
ShowsOrders by = ShowsFrom by nothing_merged 1
