-- What the locks weigh: a line that is migrated makes a lock, or gives a share, or neither.
use Rattle.std.proofs.Common.{◌≡◌, ℕ, ◌+◌, ◌-◌, ◌<◌, ◌≤◌, Bool, true, false, cond, ◌==◌}
use Rattle.std.proofs.Common.{nat_lt, nat_le, List, [], ◌∷◌, ◌++◌, length, get_or, set, sum_by}
use Rattle.std.proofs.Common.{unwrap_or, Option, None, Some, Result, Ok, Err, refl, sym, subst, inl}
use Rattle.std.proofs.Common.{inr, arith}
use Rattle.std.proofs.lemmas.Bool.{cases_Bool, and_parts, ltb-true, ltb-false, leb-true}
use Rattle.std.proofs.lemmas.List.{set_past}
use Rattle.std.proofs.lemmas.List.Sums.{sum_by-cons, sum_by-set, sum_by_push, get_or-le-sum_by}
use Rattle.wit_model.specs.declared.calls.Call.{Call}
use Rattle.wit_model.specs.declared.calls.Call.TheVariants.{Init, Note, NoteTry, Unlock, Upgrade}
use Rattle.wit_model.specs.declared.calls.Call.TheVariants.{Downgrade}
use Rattle.wit_model.specs.declared.calls.Entry.{Entry}
use Rattle.wit_model.specs.declared.calls.Reply.{Reply}
use Rattle.wit_model.specs.declared.faults.Fault.{Fault}
use Rattle.wit_model.specs.declared.faults.Fault.TheVariants.{RawNotFree}
use Rattle.wit_model.specs.declared.lines.Cause.TheVariants as why
use Rattle.wit_model.specs.declared.lines.Line.{Line}
use Rattle.wit_model.specs.declared.lines.Line.TheVariants.{Header}
use Rattle.wit_model.specs.declared.lines.Version.TheVariants.{One, Two}
use Rattle.wit_model.specs.declared.locks.Mode.{Mode}
use Rattle.wit_model.specs.declared.raw_steps.RawStep.{RawStep}
use Rattle.wit_model.specs.declared.raw_steps.RawStep.TheVariants as raw_step
use Rattle.wit_model.specs.Rules.Files.{files_after, naming_answer}
use Rattle.wit_model.specs.Rules.History.{is_held, pending}
use Rattle.wit_model.specs.Rules.Numbers.{is_given, with_changed}
use Rattle.wit_model.specs.Rules.Sizes.{Sizes, sizes_of, are_within_limits}
use Rattle.wit_model.specs.Rules.State.{Story}
use Rattle.wit_model.specs.Rules.Step.{answer_of, grown, is_logged}
use Rattle.wit_model.specs.Trace.Moving.{Moving, Unmoved, Keeping, Moved, MovingOutcome, Goes, Bad}
use Rattle.wit_model.specs.Trace.Moving.{step_line, answered, answered_at, line_alone, moves, keeps}
use Rattle.wit_model.specs.Trace.Moving.{moving_outcome}
use Rattle.wit_model.specs.Trace.Moving.{moving_entered, moving_read_as}
use Rattle.wit_model.specs.Trace.Output.{LineCall, Logs, LogsAt, call_of, calls, empty_prelude}
use Rattle.wit_model.specs.Trace.Output as output
use Rattle.wit_model.specs.Trace.Reading.{line_of}
use Rattle.wit_model.specs.Trace.Spelling.{spelling}
use Rattle.wit_model.specs.World.Deeds.{RawDown}
use Rattle.wit_model.specs.World.Moving.{LockStep, is_free_beside, is_kept, raw_beside, raw_moved}
use Rattle.wit_model.specs.World.Moving.{stage_asked, step_before, step_behind}
use Rattle.wit_model.specs.World.Scenes.{RawLock, deed_of, got, turned, is_free, nobodys, one_fewer}
use Rattle.wit_model.specs.World.Scenes.{one_more, raw_after, raw_of, shares_among, shares_of}
use Rattle.wit_model.specs.World.Stages.{Stage}
use Rattle.wit_model.proofs.Numbered.{with_number-none, with_number-or}
use Rattle.wit_migrate.specs.Migrates.{Writes, lock_weight, weighed, weight}
use Rattle.wit_grammar.specs.declared.parse.TheConstants.{LONGEST}

-- ---- the shares of a lock

abbrev count : ℕ × ℕ → ℕ
count x = x.1

abbrev counts : List (ℕ × ℕ) → ℕ
counts xs = sum_by count xs

among-le : (t : ℕ) (xs : List (ℕ × ℕ)) → shares_among t xs ≤ counts xs
among-le t [] = omega arith
among-le t (x ∷ xs) = by (x.0 == t) (among-le t xs)
  where
    by : (b : Bool) → shares_among t xs ≤ counts xs
        → cond b x.1 (shares_among t xs) ≤ counts (x ∷ xs)
    by true rest = omega (arith, sum_by-cons count x xs)
    by false rest = omega (arith, rest, sum_by-cons count x xs)

more-le : (t : ℕ) (xs : List (ℕ × ℕ)) → counts (one_more t xs) ≤ counts xs + 1
more-le t [] = omega arith
more-le t (x ∷ xs) = by (x.0 == t) (more-le t xs)
  where
    by : (b : Bool) → counts (one_more t xs) ≤ counts xs + 1
        → counts (cond b ((t, x.1 + 1) ∷ xs) (x ∷ one_more t xs)) ≤ counts (x ∷ xs) + 1
    by true rest = omega (arith, sum_by-cons count (t, x.1 + 1) xs, sum_by-cons count x xs)
    by false rest = omega (arith, rest, sum_by-cons count x (one_more t xs), sum_by-cons count x xs)

fewer-le : (t : ℕ) (xs : List (ℕ × ℕ)) → counts (one_fewer t xs) ≤ counts xs
fewer-le t [] = omega arith
fewer-le t (x ∷ xs) = by (x.0 == t) (nat_lt 1 x.1) (fewer-le t xs)
  where
    by : (b c : Bool) → counts (one_fewer t xs) ≤ counts xs
        → counts (cond b (cond c ((t, x.1 - 1) ∷ xs) xs) (x ∷ one_fewer t xs)) ≤ counts (x ∷ xs)
    by true true rest = omega (arith, sum_by-cons count (t, x.1 - 1) xs, sum_by-cons count x xs)
    by true false rest = omega (arith, sum_by-cons count x xs)
    by false c rest =
        omega (arith, rest, sum_by-cons count x (one_fewer t xs), sum_by-cons count x xs)

-- ---- all locks

pub length-le : (raw : List RawLock) → length raw ≤ weight raw
length-le [] = omega arith
length-le (k ∷ raw) = omega (arith, length-le raw, sum_by-cons lock_weight k raw)

pub shares-le : (raw : List RawLock) (t l : ℕ) → shares_of raw t l ≤ weight raw
shares-le raw t l =
    elim (cases_Bool (is_given raw l)) [
      | inl given ↦
          let low = ltb-true 0 l (and_parts (nat_lt 0 l) (nat_le l (length raw)) given).0 in
          let high =
          leb-true l (length raw) (and_parts (nat_lt 0 l) (nat_le l (length raw)) given).1 in
          let k = get_or raw (l - 1) nobodys in
          subst (λ j. shares_among t j.holders ≤ weight raw)
          (sym (with_number-or raw l nobodys low))
          (omega (
            arith,
            among-le t k.holders,
            get_or-le-sum_by lock_weight raw (l - 1) nobodys
                (omega (arith, low, high)),
          ))
      | inr none ↦
          subst (λ o. shares_among t (unwrap_or o nobodys).holders ≤ weight raw)
          (sym (with_number-none raw l none))
          (omega arith)
    ]

-- one lock is another that weighs one more at most
changed-le : (raw : List RawLock) (l : ℕ) (k : RawLock)
    → lock_weight k ≤ lock_weight (raw_of raw l) + 1
    → weight (with_changed raw l k) ≤ weight raw + 1
changed-le raw l k more = by (nat_lt 0 l) refl
  where
    set-le : 0 < l → (b : Bool) → nat_lt (l - 1) (length raw) ≡ b
        → weight (set raw (l - 1) k) ≤ weight raw + 1
    set-le low true is =
        let within = ltb-true (l - 1) (length raw) is in
        let here =
        subst (λ j. lock_weight k ≤ lock_weight j + 1)
        (with_number-or raw l nobodys low) more in
        omega (arith, here, sum_by-set lock_weight raw (l - 1) k nobodys within)
    set-le low false is =
        let past = ltb-false (l - 1) (length raw) is in
        subst (λ ks. weight ks ≤ weight raw + 1) (sym (set_past raw (l - 1) k past)) (omega arith)

    by : (b : Bool) → nat_lt 0 l ≡ b → weight (cond b (set raw (l - 1) k) raw) ≤ weight raw + 1
    by true low = set-le (ltb-true 0 l low) (nat_lt (l - 1) (length raw)) refl
    by false none = omega arith

stepped-le : (at : Stage) (t l : ℕ) (step : RawStep) (raw : List RawLock)
    → weight (raw_after (deed_of at t l step) raw) ≤ weight raw + 1
stepped-le at t l step raw = by step
  where
    got-le : (mode : Mode) → weight (got t l mode raw) ≤ weight raw + 1
    got-le mode =
        changed-le raw l (record { mode = mode; holders = one_more t (raw_of raw l).holders })
        (omega (arith, more-le t (raw_of raw l).holders))

    turned-le : (mode : Mode) → weight (turned l mode raw) ≤ weight raw + 1
    turned-le mode = changed-le raw l (record (raw_of raw l) { mode = mode }) (omega arith)

    by : (step : RawStep) → weight (raw_after (deed_of at t l step) raw) ≤ weight raw + 1
    by raw_step.Take = got-le _
    by (raw_step.TryTake mode) = got-le mode
    by raw_step.Free =
        changed-le raw l (record (raw_of raw l) { holders = one_fewer t (raw_of raw l).holders })
        (omega (arith, fewer-le t (raw_of raw l).holders))
    by raw_step.Up = turned-le _
    by raw_step.Down = turned-le _

-- ---- a call, and the steps beside it

beside-le : (h : List Entry) (t : ℕ) (k : Option LockStep) (raw : List RawLock)
    → weight (raw_beside h t k raw) ≤ weight raw + 1
beside-le h t None raw = omega arith
beside-le h t (Some x) raw = stepped-le (stage_asked (pending t h)) t x.0.0 x.1 raw

both-le : (b : Bool) (raw : List RawLock) (n : ℕ) → weight raw ≤ n → weight (cond b raw raw) ≤ n
both-le true raw n le = le
both-le false raw n le = le

made-le : (b : Bool) (raw : List RawLock)
    → weight (cond b (raw ++ nobodys ∷ []) raw) ≤ weight raw + 1
made-le true raw = omega (arith, sum_by_push lock_weight raw nobodys)
made-le false raw = omega arith

pub moved-le : (h : List Entry) (raw : List RawLock) (t : ℕ) (call : Call) (r : Reply)
    → weight (raw_moved h raw t call r) ≤ weight raw + 1
moved-le h raw t call r = by call
  where
    before : (k : Option LockStep)
        → weight (cond (is_logged r) (raw_beside h t k raw) (raw_beside h t k raw)) ≤ weight raw + 1
    before k = both-le (is_logged r) (raw_beside h t k raw) (weight raw + 1) (beside-le h t k raw)

    behind : (k : Option LockStep)
        → weight (raw_beside h t k (cond (is_logged r) raw raw)) ≤ weight raw + 1
    behind k =
        let le = both-le (is_logged r) raw (weight raw) (omega arith) in
        omega (arith, beside-le h t k (cond (is_logged r) raw raw), le)

    by : (call : Call) → weight (raw_moved h raw t call r) ≤ weight raw + 1
    by (Init lock) = made-le (is_logged r) raw
    by (Note l) = before (cond (is_held t l.0 h) None (Some (l, raw_step.Take)))
    by (NoteTry l mode site) = before (Some (l, raw_step.TryTake mode))
    by (Upgrade l) = before (Some (l, raw_step.Up))
    by (Unlock l mode) = behind (cond (is_kept h raw t l.0) None (Some (l, raw_step.Free)))
    by (Downgrade l) = behind (cond (is_free raw (RawDown t l.0)) (Some (l, raw_step.Down)) None)
    by call = both-le (is_logged r) raw (weight raw + 1) (omega arith)

-- ---- a line

abbrev WeighsOne : ℕ → MovingOutcome → Type 0
WeighsOne w (Goes q lines) = weighed q ≤ w + 1
WeighsOne w (Bad cause) = Unit {0}

answered_weighs : (s : Story) (raw : List RawLock) (m : ℕ) (bytes : List ℕ) (t : ℕ) (call : Call)
    (a : Result Reply Fault)
    → WeighsOne (weight raw) (answered s raw m bytes t call a)
answered_weighs s raw m bytes t call (Err fault) = tt
answered_weighs s raw m bytes t call (Ok r) =
    go (is_free_beside s.history raw t (step_before s.history t call))
  where
    go : (b : Bool) → WeighsOne (weight raw)
        (cond b (Goes (Moved (grown s t call r) (raw_moved s.history raw t call r) m)
        (step_line t (step_before s.history t call) ++ bytes ∷ step_line t
        (step_behind s.history raw t call)))
        (Bad (why.Fault RawNotFree)))
    go true = moved-le s.history raw t call r
    go false = tt

at_weighs : (s : Story) (raw : List RawLock) (m : ℕ) (bytes : List ℕ) (t : ℕ) (call : ℕ
    → Call) (file : List ℕ) (a : Result ℕ Fault)
    → WeighsOne (weight raw) (answered_at s raw m bytes t call file a)
at_weighs s raw m bytes t call file (Err fault) = tt
at_weighs s raw m bytes t call file (Ok f) =
    let named : Story = record s { files = files_after file s.files } in
    answered_weighs named raw m bytes t (call f) (answer_of named t (call f))

alone_weighs : (raw : List RawLock) (bytes : List ℕ) (o : output.Outcome)
    → WeighsOne (weight raw) (line_alone raw bytes o)
alone_weighs raw bytes (output.Goes (output.Reading s m) text) = omega arith
alone_weighs raw bytes (output.Goes p text) = tt
alone_weighs raw bytes (output.Bad cause) = tt

moves_weighs : (s : Story) (raw : List RawLock) (m : ℕ) (bytes : List ℕ) (c : LineCall)
    → WeighsOne (weight raw) (moves s raw m bytes c)
moves_weighs s raw m bytes (Logs t call) = answered_weighs s raw m bytes t call (answer_of s t call)
moves_weighs s raw m bytes (LogsAt t file call) =
    at_weighs s raw m bytes t call file (naming_answer s file)
moves_weighs s raw m bytes c = alone_weighs raw bytes (calls s m c)

keeps_weighs : (kept : List (List ℕ)) (line : List ℕ) (o : output.Outcome)
    → WeighsOne 0 (keeps kept line o)
keeps_weighs kept line (output.Goes (output.Opening p) text) = omega arith
keeps_weighs kept line (output.Goes p text) = tt
keeps_weighs kept line (output.Bad cause) = tt

header_weighs : (sizes : Sizes) (line : List ℕ) (fits : Bool)
    → WeighsOne 0 (cond fits (Goes (Keeping (empty_prelude One sizes) []) (line ∷ []))
    (Bad why.Limit))
header_weighs sizes line true = omega arith
header_weighs sizes line false = tt

entered_weighs : (m : Moving) (n : ℕ) (bytes : List ℕ) (line : Line)
    → WeighsOne (weighed m) (moving_entered m n bytes line)
entered_weighs Unmoved n bytes (Header One s t l c) =
    header_weighs (sizes_of s t l c output.log_limit) (spelling (Header Two s t l c))
    (are_within_limits (sizes_of s t l c output.log_limit))
entered_weighs Unmoved n bytes (Header Two s t l c) = tt
entered_weighs Unmoved n bytes _ = tt
entered_weighs (Keeping p kept) n bytes line =
    keeps_weighs kept bytes (output.entered (output.Opening p) n line)
entered_weighs (Moved s raw m) n bytes line = moves_weighs s raw m bytes (call_of line)

outcome_weighs : (m : Moving) (n : ℕ) (bytes : List ℕ)
    → WeighsOne (weighed m) (moving_outcome m n bytes)
outcome_weighs m n bytes = go (nat_lt LONGEST (length bytes)) (line_of bytes)
  where
    go : (long : Bool) (o : Option Line)
        → WeighsOne (weighed m) (cond long (Bad why.Long) (moving_read_as m n bytes o))
    go true o = tt
    go false None = tt
    go false (Some line) = entered_weighs m n bytes line

pub written_weighs : (m new : Moving) (n : ℕ) (bytes text : List ℕ)
    → Writes (moving_outcome m n bytes) new text
    → weighed new ≤ weighed m + 1
written_weighs m new n bytes text w =
    subst (WeighsOne (weighed m)) w.goes (outcome_weighs m n bytes)
