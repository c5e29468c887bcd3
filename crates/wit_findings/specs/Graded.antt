-- The grade of a report, by what was told of single locks of its types.
use Rattle.std.specs.Prelude.{◌≡◌, ℕ, Bool, true, false, not, List, [], ◌∷◌, ◌++◌, Option, Some, None}
use Rattle.std.specs.Prelude.{is_some, length, map, flat_map, codes, find, ◌==◌, if◌then◌else◌}
use Rattle.std.specs.List.{list_any}
use Rattle.std.specs.Str.{bytes_eq}
use Rattle.json.specs.Token.{Token, begin_array, begin_object, boolean, end_array, end_object, key}
use Rattle.json.specs.Token.{string}
use Rattle.wit_model.specs.declared.calls.Reply.{Reply}
use Rattle.wit_model.specs.declared.calls.Reply.TheVariants.{Reversal, Duplicate}
use Rattle.wit_model.specs.Rules.State.{orders_of, types_of}
use Rattle.wit_model.specs.Trace.Paths.{path}
use Rattle.wit_model.specs.Trace.Views.{mode_words}
use Rattle.wit_alarms.specs.declared.facts.Fact.{Fact}
use Rattle.wit_alarms.specs.declared.facts.Lives.{Lives}
use Rattle.wit_alarms.specs.declared.grade.Cause.TheVariants.{TypesAlone, Kept, Several}
use Rattle.wit_alarms.specs.declared.grade.Grade.{Grade}
use Rattle.wit_alarms.specs.declared.grade.Grade.TheVariants.{Same, Never, NotKnown}
use Rattle.wit_alarms.specs.declared.grade.Reason.{Reason}
use Rattle.wit_alarms.specs.declared.grade.Reason.TheVariants as reason
use Rattle.wit_alarms.specs.Grades.{IsGrade, keeps_alone}
use Rattle.wit_grades.specs.Reading.{Said, shown}
use Rattle.wit_grades.specs.Outputs.{fits}
use Rattle.wit_grades.specs.Outputs.{Told as GradedFacts}
use Rattle.wit_recorded.specs.declared.lines.How.{How}
use Rattle.wit_recorded.specs.declared.lines.How.TheVariants.{Plainly, ForATime, Repeatedly, AsAWaitEnds}
use Rattle.wit_recorded.specs.declared.lines.PairLock.{PairLock}
use Rattle.wit_tellings.specs.declared.asking.Deed.{Deed}
use Rattle.wit_tellings.specs.declared.tellers.Teller.{Teller}
use Rattle.wit_tellings.specs.Facts.{at_place, facts, joinings, makings, since, tellers, until_when, who}
use Rattle.wit_tellings.specs.Heard.{lacks}
use Rattle.wit_findings.specs.declared.recording.Reported.{Reported}
use Rattle.wit_findings.specs.Objects.{count_member, finding_tokens, line_text, text_member}
use Rattle.wit_findings.specs.Objects.{type_number, type_text}
use Rattle.wit_findings.specs.Told.{Told}

-- ---- reports

-- the types of the established order, from that of the asked lock on; that one alone where none leads
-- to the held one
abbrev pub way_or : ℕ → Option (List ℕ) → List ℕ
way_or type None = type ∷ []
way_or type (Some way) = way

abbrev pub way_of : Told → ℕ → ℕ → List ℕ
way_of t asked held =
    way_or asked (path (orders_of t.story.start t.story.history)
    (length (types_of t.story.start t.story.history)) asked held)

abbrev pub if_any : {X : Type 0} → Option X → List X
if_any None = []
if_any (Some x) = x ∷ []

-- the report of a reply to the line with this number
abbrev pub reported : Told → ℕ → Reply → List Reported
reported t n (Reversal c) =
    record {
      line = n;
      types = way_of t (type_number t.story c.asked.lock.0).0 (type_number t.story c.held.lock.0).0;
    } ∷ []
reported t n (Duplicate d) =
    record { line = n; types = (type_number t.story d.asked.lock.0).0 ∷ [] } ∷ []
reported t n _ = []

abbrev pub with_reports : Told → List Reported → Told
with_reports t reports = record t { reports = t.reports ++ reports }

abbrev pub with_reported : Told → ℕ → Reply → Told
with_reported t n reply = with_reports t (reported t n reply)

-- that of this line
abbrev pub report_at : List Reported → ℕ → Option Reported
report_at reports line = find (λ (r : Reported). r.line == line) reports

-- ---- its facts

abbrev pub is_called : Told → List ℕ → ℕ → Bool
is_called t name type = bytes_eq name (type_text t.story type)

abbrev pub number_if : Bool → ℕ → List ℕ
number_if true number = number ∷ []
number_if false number = []

-- the numbers that the recording has for these types
abbrev pub numbers_in : Told → List ℕ → List (ℕ × List ℕ) → List ℕ
numbers_in t types [] = []
numbers_in t types (x ∷ names) =
    number_if (list_any (is_called t x.1) types) x.0 ++ numbers_in t types names

-- who asked for a lock of these types while it held another one of them
abbrev pub tellers_about : Told → Reported → List Teller
tellers_about t r = tellers t.heard (numbers_in t r.types t.names)

abbrev pub facts_about : Told → Reported → List Said
facts_about t r = facts t.heard (tellers_about t r)

-- all that its grade is of
abbrev pub facts_told : Told → Reported → GradedFacts
facts_told t r = record {
  made = makings t.heard;
  joined = joinings t.heard;
  facts = facts_about t r;
  are_all = not (lacks t.heard);
}

-- ---- words

abbrev pub how_text : How → List ℕ
how_text Plainly = codes "plain"
how_text ForATime = codes "timed"
how_text Repeatedly = codes "repeated"
how_text AsAWaitEnds = codes "wait"

abbrev pub reason_text : Reason → List ℕ
reason_text reason.OneThread = codes "thread"
reason_text reason.Gate = codes "gate"
reason_text reason.Readers = codes "readers"
reason_text reason.Limit = codes "timed"
reason_text reason.Apart = codes "apart"
reason_text reason.Waits = codes "waits"

-- a circle closes; there is none; there is one that something keeps from closing; or it isn't known
abbrev pub grade_word : Grade → List ℕ
grade_word (Same circle) = codes "same"
grade_word (Never TypesAlone) = codes "types"
grade_word (Never (Kept why circle)) = codes "kept"
grade_word (Never (Several circle)) = codes "kept"
grade_word NotKnown = codes "unknown"

-- ---- members

unfoldable pub flag_member : List ℕ → Bool → List Token
flag_member name flag = key name ∷ boolean flag ∷ []

-- a single lock: its number in the recording, the one that no other has, and its mode
unfoldable pub single_value : PairLock → List Token
single_value lock =
    begin_object ∷ (count_member (codes "lock") lock.number
    ++ (count_member (codes "serial") lock.serial
    ++ (text_member (codes "mode") (mode_words lock.mode) ++ end_object ∷ [])))

abbrev pub single_member : List ℕ → PairLock → List Token
single_member name lock = key name ∷ single_value lock

-- who did so
unfoldable pub who_members : Told → Teller → List Token
who_members t teller =
    count_member (codes "thread") teller.thread
    ++ (flag_member (codes "known") (is_some (who t.heard teller teller.deed))
    ++ flag_member (codes "further") (not (is_some teller.deed)))

-- when, and where first
unfoldable pub when_members : Told → Teller → List Token
when_members t teller =
    count_member (codes "first") (since teller.deed)
    ++ (count_member (codes "last") (until_when t.heard teller.deed)
    ++ count_member (codes "place") teller.place)

unfoldable pub besides_member : List PairLock → List Token
besides_member besides =
    key (codes "besides") ∷ begin_array ∷ (flat_map single_value besides ++ end_array ∷ [])

-- what it held, and asked for
unfoldable pub lock_members : Teller → List Token
lock_members teller =
    single_member (codes "held") teller.held
    ++ (flag_member (codes "under") teller.under
    ++ (single_member (codes "asked") teller.asked
    ++ (text_member (codes "how") (how_text teller.how) ++ besides_member teller.besides)))

abbrev pub teller_value : Told → Teller → List Token
teller_value t teller =
    begin_object ∷ (who_members t teller ++ (when_members t teller
    ++ (lock_members teller ++ end_object ∷ [])))

-- ---- the circle, and what keeps it from closing

abbrev pub circle_of : Grade → List ℕ
circle_of (Same circle) = circle.items
circle_of (Never TypesAlone) = []
circle_of (Never (Kept why circle)) = circle.items
circle_of (Never (Several circle)) = circle.items
circle_of NotKnown = []

unfoldable pub circle_member : Told → List Teller → List ℕ → List Token
circle_member t ts circle =
    key (codes "circle") ∷ begin_array
    ∷ (flat_map (at_place (teller_value t) ts) circle ++ end_array ∷ [])

-- of one that doesn't close
abbrev pub kept_circle : Grade → Option (List ℕ)
kept_circle (Same circle) = None
kept_circle (Never TypesAlone) = None
kept_circle (Never (Kept why circle)) = Some circle.items
kept_circle (Never (Several circle)) = Some circle.items
kept_circle NotKnown = None

abbrev pub reason_value : Lives → List Fact → List ℕ → Reason → List Token
reason_value lives fs circle why =
    if keeps_alone why lives fs circle then string (reason_text why) ∷ [] else []

-- each reason that keeps it from closing by itself
abbrev pub reason_values : Lives → List Fact → Option (List ℕ) → List Token
reason_values lives fs None = []
reason_values lives fs (Some circle) =
    flat_map (reason_value lives fs circle) (reason.OneThread ∷ reason.Gate ∷ reason.Readers
    ∷ reason.Limit ∷ reason.Apart ∷ reason.Waits ∷ [])

unfoldable pub reasons_member : Lives → List Fact → Option (List ℕ) → List Token
reasons_member lives fs circle =
    key (codes "reasons") ∷ begin_array ∷ (reason_values lives fs circle ++ end_array ∷ [])

-- ---- the finding

abbrev pub grade_line : Told → Reported → Lives → List Fact → Grade → List ℕ
grade_line t r lives fs grade =
    line_text (finding_tokens t.process (codes "grade") r.line
    ++ (text_member (codes "grade") (grade_word grade)
    ++ (count_member (codes "types") (length r.types)
    ++ (circle_member t (tellers_about t r) (circle_of grade)
    ++ (reasons_member lives fs (kept_circle grade) ++ end_object ∷ [])))))

-- a grade of the facts that were told of single locks of the report's types
pub record IsGraded (t : Told) (r : Reported) (text : List ℕ) : Type 0 where
  pub lives : Lives
  pub facts : List Fact
  pub grade : Grade
  pub made : lives.made.items ≡ makings t.heard
  pub joined : lives.joined.items ≡ joinings t.heard
  pub told : map shown facts ≡ facts_about t r
  pub graded : IsGrade lives facts (not (lacks t.heard)) grade
  pub written : text ≡ grade_line t r lives facts grade

-- no vector has more elements than a machine has room for
abbrev pub TellsGrade : Told → Reported → List ℕ → Type 0
TellsGrade t r text = fits (facts_told t r) ≡ true → IsGraded t r text
