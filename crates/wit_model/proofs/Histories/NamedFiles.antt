-- A legal history tells of named files alone, and is legal over any files of which it tells none
-- that isn't there.
use Rattle.std.proofs.Common.{◌≡◌, ℕ, ◌≤◌, Bool, true, not, ◌&&◌, cond, nat_lt, nat_le, List, []}
use Rattle.std.proofs.Common.{◌∷◌, ◌++◌, length, Result, Ok, Err, refl, ap, sym, ◌∙◌, arith}
use Rattle.std.proofs.Common.{length-append}
use Rattle.std.proofs.lemmas.Bool.{and_parts, and_from, leb-true, le-leb}
use Rattle.wit_model.specs.declared.faults.Fault.{Fault}
use Rattle.wit_model.specs.declared.faults.Fault.TheVariants.{UnknownSeat, UnknownLock, UnknownFile}
use Rattle.wit_model.specs.declared.faults.Fault.TheVariants.{ModeNotAllowed, Pending}
use Rattle.wit_model.specs.declared.faults.Fault.TheVariants.{RecursionTooDeep}
use Rattle.wit_model.specs.declared.locks.Mode.{Mode}
use Rattle.wit_model.specs.declared.locks.Site.{Site}
use Rattle.wit_model.specs.declared.locks.LockNo.{LockNo}
use Rattle.wit_model.specs.declared.calls.Request.{Request}
use Rattle.wit_model.specs.declared.calls.Call.{Call}
use Rattle.wit_model.specs.declared.calls.Call.TheVariants.{Init, Check, Note, NoteTry, GiveUp}
use Rattle.wit_model.specs.declared.calls.Call.TheVariants.{Unlock}
use Rattle.wit_model.specs.declared.calls.Reply.{Reply}
use Rattle.wit_model.specs.declared.calls.Entry.{Entry}
use Rattle.wit_model.specs.Rules.Locks.{lock_at}
use Rattle.wit_model.specs.Rules.State.{Start, State, state_of, seat_at, is_seat, is_live}
use Rattle.wit_model.specs.Rules.Verdict.{is_exclusive, verdict}
use Rattle.wit_model.specs.Rules.Types.{is_shareable}
use Rattle.wit_model.specs.Rules.Step.{is_pending, is_too_deep, with_room}
use Rattle.wit_model.specs.Rules.Step.{recorded_reply, answer_of, story_after, IsLegal}
use Rattle.wit_model.specs.Rules.Numbers.{is_number}
use Rattle.wit_model.specs.HistoryLaws.{tells_among, all_tell_among}
use Rattle.wit_model.proofs.Histories.Accepted.{check_accepted, try_accepted}

-- the answer to a check, where the file is known or not
check_with : State → ℕ → Request → Bool → Result Reply Fault
check_with s t q known =
    cond (not (is_seat s t)) (Err UnknownSeat)
    (cond (not (is_live s q.lock.0)) (Err UnknownLock)
    (cond (not known) (Err UnknownFile)
    (cond (not (is_exclusive q.mode)
    && not (is_shareable (lock_at s.known.locks q.lock.0).made.class)) (Err ModeNotAllowed)
    (cond (is_pending s t) (Err Pending)
    (cond (is_too_deep s t q.lock.0) (Err RecursionTooDeep)
    (with_room s 3 (verdict s.profile s.known s.watch (seat_at s t) q)))))))

file-more : (f n m : ℕ) → (nat_lt 0 f && nat_le f n) ≡ true → n ≤ m
    → (nat_lt 0 f && nat_le f m) ≡ true
file-more f n m is le =
    let parts = and_parts (nat_lt 0 f) (nat_le f n) is in
    let within = leb-true f n parts.1 in
    and_from (nat_lt 0 f) (nat_le f m) parts.0 (le-leb f m (omega arith))

check-other : (start : Start) (files others : List (List ℕ)) (h : List Entry) (t : ℕ)
    (q : Request) (r : Reply)
    → is_number (length others) q.site.file.0 ≡ true
    → answer_of (story_after start files h) t (Check q) ≡ Ok r
    → answer_of (story_after start others h) t (Check q) ≡ Ok r
unfolding check_with
check-other start files others h t q r there ok =
    let known = (check_accepted (state_of (story_after start files h)) t q r ok).file in
    let e : check_with (state_of (story_after start others h)) t q
    (is_number (length others) q.site.file.0)
    ≡ check_with (state_of (story_after start files h)) t q (is_number (length files) q.site.file.0)
    = ap (λ b. check_with (state_of (story_after start files h)) t q b) (there ∙ sym known) in
    e ∙ ok

-- the answer to a try, where the file is known or not
try_with : State → ℕ → ℕ → Mode → Bool → Result Reply Fault
try_with s t l m known =
    cond (not (is_seat s t)) (Err UnknownSeat)
    (cond (not (is_live s l)) (Err UnknownLock)
    (cond (not known) (Err UnknownFile)
    (cond (not (is_exclusive m) && not (is_shareable (lock_at s.known.locks l).made.class))
    (Err ModeNotAllowed)
    (cond (is_pending s t) (Err Pending)
    (cond (is_too_deep s t l) (Err RecursionTooDeep)
    (with_room s 2 (Ok (recorded_reply s t l))))))))

try-other : (start : Start) (files others : List (List ℕ)) (h : List Entry) (t : ℕ) (l : LockNo)
    (m : Mode) (site : Site) (r : Reply)
    → is_number (length others) site.file.0 ≡ true
    → answer_of (story_after start files h) t (NoteTry l m site) ≡ Ok r
    → answer_of (story_after start others h) t (NoteTry l m site) ≡ Ok r
unfolding try_with
try-other start files others h t l m site r there ok =
    let known = (try_accepted (state_of (story_after start files h)) t l.0 m site r ok).file in
    let e : try_with (state_of (story_after start others h)) t l.0 m
    (is_number (length others) site.file.0)
    ≡ try_with (state_of (story_after start files h)) t l.0 m (is_number (length files) site.file.0)
    = ap (λ b. try_with (state_of (story_after start files h)) t l.0 m b) (there ∙ sym known) in
    e ∙ ok

answer-other : (start : Start) (files others : List (List ℕ)) (h : List Entry) (t : ℕ)
    (c : Call) (r : Reply)
    → tells_among (length others) c ≡ true
    → answer_of (story_after start files h) t c ≡ Ok r
    → answer_of (story_after start others h) t c ≡ Ok r
answer-other start files others h t (Init lock) r there ok = ok
answer-other start files others h t (Check q) r there ok =
    check-other start files others h t q r there ok
answer-other start files others h t (Note l) r there ok = ok
answer-other start files others h t (NoteTry l m site) r there ok =
    try-other start files others h t l m site r there ok
answer-other start files others h t (GiveUp l) r there ok = ok
answer-other start files others h t (Unlock l m) r there ok = ok
answer-other start files others h t c r there ok = ok

-- a history is legal over any files of which it tells none that isn't there
pub legal-other : (start : Start) (files others : List (List ℕ)) (h : List Entry)
    → IsLegal start files h → all_tell_among (length others) h ≡ true → IsLegal start others h
legal-other start files others [] legal there = tt
legal-other start files others (x ∷ h) legal there =
    let parts =
    and_parts (tells_among (length others) x.call) (all_tell_among (length others) h) there in (
      answer-other start files others h x.seat.0 x.call x.reply parts.0 legal.0,
      legal.1,
      legal-other start files others h legal.2 parts.1,
    )

told-now : (start : Start) (files : List (List ℕ)) (h : List Entry) (t : ℕ) (c : Call) (r : Reply)
    → answer_of (story_after start files h) t c ≡ Ok r → tells_among (length files) c ≡ true
told-now start files h t (Check q) r ok =
    (check_accepted (state_of (story_after start files h)) t q r ok).file
told-now start files h t (NoteTry l m site) r ok =
    (try_accepted (state_of (story_after start files h)) t l.0 m site r ok).file
told-now start files h t c r ok = refl

-- a legal history tells of files that are there
pub legal-tells : (start : Start) (files : List (List ℕ)) (h : List Entry)
    → IsLegal start files h → all_tell_among (length files) h ≡ true
legal-tells start files [] legal = refl
legal-tells start files (x ∷ h) legal =
    and_from (tells_among (length files) x.call) (all_tell_among (length files) h)
    (told-now start files h x.seat.0 x.call x.reply legal.0) (legal-tells start files h legal.2)

tells-more : (n m : ℕ) (c : Call) → n ≤ m → tells_among n c ≡ true → tells_among m c ≡ true
tells-more n m (Check q) le is = file-more q.site.file.0 n m is le
tells-more n m (NoteTry l mode site) le is = file-more site.file.0 n m is le
tells-more n m c le is = refl

all_tell-more : (n m : ℕ) (h : List Entry) → n ≤ m → all_tell_among n h ≡ true
    → all_tell_among m h ≡ true
all_tell-more n m [] le all = refl
all_tell-more n m (x ∷ h) le all =
    let parts = and_parts (tells_among n x.call) (all_tell_among n h) all in
    and_from (tells_among m x.call) (all_tell_among m h) (tells-more n m x.call le parts.0)
    (all_tell-more n m h le parts.1)

-- one more file
pub legal-named : (start : Start) (files : List (List ℕ)) (name : List ℕ) (h : List Entry)
    → IsLegal start files h → IsLegal start (files ++ name ∷ []) h
legal-named start files name h legal =
    legal-other start files (files ++ name ∷ []) h legal
    (all_tell-more (length files) (length (files ++ name ∷ [])) h
    (omega (arith, length-append files (name ∷ [])))
    (legal-tells start files h legal))

-- what was answered is answered with one more file
pub answer-named : (start : Start) (files : List (List ℕ)) (name : List ℕ) (h : List Entry) (t : ℕ)
    (c : Call) (r : Reply)
    → answer_of (story_after start files h) t c ≡ Ok r
    → answer_of (story_after start (files ++ name ∷ []) h) t c ≡ Ok r
answer-named start files name h t c r ok =
    answer-other start files (files ++ name ∷ []) h t c r
    (tells-more (length files) (length (files ++ name ∷ [])) c
    (omega (arith, length-append files (name ∷ [])))
    (told-now start files h t c r ok)) ok
