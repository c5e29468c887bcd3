-- What a call leaves of its seat, and what the rules answer a seat by its own entries and files.
use Rattle.std.proofs.Common.{◌≡◌, ℕ, Bool, true, false, cond, List, [], ◌∷◌, ◌++◌, None, Some}
use Rattle.std.proofs.Common.{Result, Ok, Err, IsOk, refl, ap, sym, ◌∙◌, subst, inl, ⊎_elim, eqb}
use Rattle.std.proofs.lemmas.Bool.{eq-eqb}
use Rattle.wit_model.specs.declared.faults.Fault.{Fault}
use Rattle.wit_model.specs.declared.faults.Fault.TheVariants.{UnknownFile, OutOfMemory}
use Rattle.wit_model.specs.declared.locks.FileNo.{FileNo}
use Rattle.wit_model.specs.declared.locks.LockNo.{LockNo}
use Rattle.wit_model.specs.declared.locks.Mode.{Mode}
use Rattle.wit_model.specs.declared.locks.Site.{Site}
use Rattle.wit_model.specs.declared.calls.Call.{Call}
use Rattle.wit_model.specs.declared.calls.Call.TheVariants.{Check, Note, NoteTry, GiveUp}
use Rattle.wit_model.specs.declared.calls.Entry.{Entry}
use Rattle.wit_model.specs.declared.calls.Reply.{Reply}
use Rattle.wit_model.specs.declared.calls.Reply.TheVariants.{Done}
use Rattle.wit_model.specs.declared.calls.Request.{Request}
use Rattle.wit_model.specs.Rules.History.{own_entries, pending, pending_after}
use Rattle.wit_model.specs.Rules.Numbers.{is_given, with_number}
use Rattle.wit_model.specs.Rules.Questions.{is_for}
use Rattle.wit_model.specs.Rules.State.{Start, Story, state_of}
use Rattle.wit_model.specs.Rules.Step.{Answers, AnswersOrFails, IsLegal, answer_of, is_logged}
use Rattle.wit_model.specs.Rules.Step.{logged, before_answering, recorded_reply}
use Rattle.wit_model.proofs.Histories.Accepted.{asked-lock}
use Rattle.wit_model.proofs.Histories.Asked.{note_pending, give_up_pending}
use Rattle.wit_model.proofs.Histories.KnownFiles.{check_known, try_known}
use Rattle.wit_model.proofs.Numbered.{with_number-none}
use Rattle.wit_seats.specs.declared.views.SeatKnowledge.{SeatKnowledge}
use Rattle.wit_seats.specs.Seats.{AreFiles, Told}
use Rattle.wit_shared.specs.Own.{AsksFor, HasFile, Leaves, entries_left, entry}

-- ---- what a call leaves

-- an answer is one of those that may be
may_fail : (s : Story) (t : ℕ) (call : Call) (result : Result Reply Fault) (new : Story)
    → Answers s t call result new → AnswersOrFails s t call result new
may_fail s t call (Ok reply) new did = did
may_fail s t call (Err fault) new did = (inl did.0, did.1)

own_if : (b : Bool) (t : ℕ) (call : Call) (reply : Reply) (s : Story) (own : List Entry)
    → own_entries t s.history ≡ own
    → own_entries t (cond b (logged s t call reply) s).history
    ≡ cond b (entry t call reply ∷ []) [] ++ own
own_if true t call reply s own is =
    ap (λ b. cond b (entry t call reply ∷ own_entries t s.history) (own_entries t s.history))
    (eq-eqb t t refl)
    ∙ ap (λ es. entry t call reply ∷ es) is
own_if false t call reply s own is = is

own_left : (s : Story) (t : ℕ) (call : Call) (result : Result Reply Fault) (new : Story)
    (own : List Entry) → AnswersOrFails s t call result new
    → own_entries t s.history ≡ own → own_entries t new.history ≡ entries_left t call result ++ own
own_left s t call (Ok reply) new own did is =
    ap (λ (n : Story). own_entries t n.history) did.1
    ∙ own_if (is_logged reply) t call reply s own is
own_left s t call (Err fault) new own did is =
    ap (λ (n : Story). own_entries t n.history) did.1 ∙ is

module _ (rules : Story → ℕ → Call → Result Reply Fault → Story → Type 0)
    (are : (s : Story) (t : ℕ) (call : Call) (result : Result Reply Fault) (new : Story)
    → rules s t call result new → AnswersOrFails s t call result new) where
  leaves_by : (start : Start) (call : Call) (result : Result Reply Fault) (v w : SeatKnowledge)
      → Told start [] (λ s new. rules s v.seat call result new) v w
      → Leaves rules start call result v w
  leaves_by start call result v w told = record {
    told = told;
    own = ap (λ (k : SeatKnowledge). k.own) told.entered.now
        ∙ own_left told.before v.seat call result told.after v.own
        (are told.before v.seat call result told.after told.did) told.entered.own;
    seat = ap (λ (k : SeatKnowledge). k.seat) told.entered.now;
    given = ap (λ (k : SeatKnowledge). k.given) told.entered.now;
  }

pub leaves : (start : Start) (call : Call) (result : Result Reply Fault) (v w : SeatKnowledge)
    → Told start [] (λ s new. Answers s v.seat call result new) v w
    → Leaves Answers start call result v w
leaves start call result v w told = leaves_by Answers may_fail start call result v w told

pub leaves_or_fails : (start : Start) (call : Call) (result : Result Reply Fault) (v w : SeatKnowledge)
    → Told start [] (λ s new. AnswersOrFails s v.seat call result new) v w
    → Leaves AnswersOrFails start call result v w
leaves_or_fails start call result v w told =
    leaves_by AnswersOrFails (λ s t call result new did. did) start call result v w told

-- ---- a seat that asks

-- what a seat asks for is told by its own entries
pub pending_own : (t : ℕ) (h : List Entry) → pending t (own_entries t h) ≡ pending t h
pending_own t [] = refl
pending_own t (e ∷ h) = go (eqb e.seat.0 t) refl (pending_own t h)
  where
    go : (b : Bool) → eqb e.seat.0 t ≡ b → pending t (own_entries t h) ≡ pending t h
        → pending t (cond b (e ∷ own_entries t h) (own_entries t h))
        ≡ cond b (pending_after e.call (pending t h)) (pending t h)
    go true is same =
        ap (λ b. cond b (pending_after e.call (pending t (own_entries t h)))
        (pending t (own_entries t h))) is
        ∙ ap (pending_after e.call) same
    go false is same = same

-- a seat asks for the lock that it checked last
pub asks_now : (w : SeatKnowledge) (q : Request) (reply : Reply) (before : List Entry)
    → w.own ≡ entry w.seat (Check q) reply ∷ before → AsksFor w q.lock
asks_now w q reply before is =
    ap (λ own. is_for q.lock.0 (pending w.seat own)) is
    ∙ ap (λ b. is_for q.lock.0 (cond b (Some q) (pending w.seat before)))
    (eq-eqb w.seat w.seat refl)
    ∙ eq-eqb q.lock.0 q.lock.0 refl

module _ (s : Story) (t : ℕ) (lock : LockNo) (own : List Entry)
    (legal : IsLegal s.start s.files s.history) (is : own_entries t s.history ≡ own)
    (asks : is_for lock.0 (pending t own) ≡ true) where
  asked : (q : Request) × (pending t s.history ≡ Some q) × (q.lock.0 ≡ lock.0)
  asked =
      let a = asked-lock lock.0 (pending t own) asks in
      (a.0, sym (pending_own t s.history) ∙ ap (pending t) is ∙ a.1, a.2)

  noted : IsOk (answer_of s t (Note lock))
  noted =
      subst (λ l. IsOk (before_answering (state_of s) t l (Ok (recorded_reply (state_of s) t l))))
      asked.2
      (subst IsOk (sym (note_pending s.start s.files s.history t asked.0 legal asked.1)) refl)

  given_up : IsOk (answer_of s t (GiveUp lock))
  given_up =
      subst (λ l. IsOk (before_answering (state_of s) t l (Ok Done))) asked.2
      (subst IsOk (sym (give_up_pending s.start s.files s.history t asked.0 legal asked.1))
      refl)

-- what isn't refused is answered
answered : (start : Start) (call : Call) (result : Result Reply Fault) (v w : SeatKnowledge)
    → Told start [] (λ s new. Answers s v.seat call result new) v w
    → ((s : Story) → IsLegal s.start s.files s.history → own_entries v.seat s.history ≡ v.own
    → IsOk (answer_of s v.seat call)) → IsOk result
answered start call (Ok reply) v w told ok = refl
answered start call (Err fault) v w told ok =
    let began : told.after.start ≡ start = ap (λ (s : Story). s.start) told.did.1 ∙ told.began in
    let legal : IsLegal told.after.start told.after.files told.after.history =
    subst (λ b. IsLegal b told.after.files told.after.history) (sym began) told.entered.legal in
    let was : IsLegal told.before.start told.before.files told.before.history =
    subst (λ (s : Story). IsLegal s.start s.files s.history) told.did.1 legal in
    let is : IsOk (answer_of told.before v.seat call) = ok told.before was told.entered.own in
    subst IsOk told.did.0 is

pub note_asked : (start : Start) (lock : LockNo) (result : Result Reply Fault) (v w : SeatKnowledge)
    → Told start [] (λ s new. Answers s v.seat (Note lock) result new) v w
    → AsksFor v lock → IsOk result
note_asked start lock result v w told asks =
    answered start (Note lock) result v w told
    (λ s legal is. noted s v.seat lock v.own legal is asks)

pub give_up_asked : (start : Start) (lock : LockNo) (result : Result Reply Fault) (v w : SeatKnowledge)
    → Told start [] (λ s new. Answers s v.seat (GiveUp lock) result new) v w
    → AsksFor v lock → IsOk result
give_up_asked start lock result v w told asks =
    answered start (GiveUp lock) result v w told
    (λ s legal is. given_up s v.seat lock v.own legal is asks)

-- ---- files

numbered : (files : List (List ℕ)) (n : ℕ) (name : List ℕ) → with_number files n ≡ Some name
    → is_given files n ≡ true
numbered files n name is = go (is_given files n) refl
  where
    go : (b : Bool) → is_given files n ≡ b → is_given files n ≡ true
    go true known = known
    go false known =
        absurd (let none : None ≡ Some name = sym (with_number-none files n known) ∙ is in cc)

pub file_named : (files : List (List ℕ)) (given : List (FileNo × List ℕ)) (f : FileNo)
    → AreFiles files given → HasFile given f → is_given files f.0 ≡ true
file_named files [] f are has = absurd has
file_named files (g ∷ given) f are has =
    ⊎_elim (λ e. subst (λ (k : FileNo). is_given files k.0 ≡ true) e
    (numbered files g.0.0 g.1 are.0)) (file_named files given f are.1) has

-- an answer of the rules, or want of memory
refused_so : (s : Story) (t : ℕ) (call : Call) (result : Result Reply Fault) (new : Story)
    → AnswersOrFails s t call result new → result ≡ Err UnknownFile
    → answer_of s t call ≡ Err UnknownFile
refused_so s t call (Ok reply) new did is = cc
refused_so s t call (Err fault) new did is =
    ⊎_elim (λ e. e ∙ is) (λ want. let same : ◌≡◌ {A = Result Reply Fault} (Err OutOfMemory)
    (Err UnknownFile) = ap Err (sym want.0) ∙ is in cc) did.0

pub check_finds : (start : Start) (q : Request) (result : Result Reply Fault) (v w : SeatKnowledge)
    → Told start [] (λ s new. AnswersOrFails s v.seat (Check q) result new) v w
    → HasFile v.given q.site.file → result ≡ Err UnknownFile → ⊥
check_finds start q result v w told has is =
    check_known (state_of told.before) v.seat q
    (file_named told.before.files v.given q.site.file told.entered.files has)
    (refused_so told.before v.seat (Check q) result told.after told.did is)

pub try_finds : (start : Start) (lock : LockNo) (mode : Mode) (site : Site)
    (result : Result Reply Fault) (v w : SeatKnowledge)
    → Told start [] (λ s new. AnswersOrFails s v.seat (NoteTry lock mode site) result new) v w
    → HasFile v.given site.file → result ≡ Err UnknownFile → ⊥
try_finds start lock mode site result v w told has is =
    try_known (state_of told.before) v.seat lock.0 mode site
    (file_named told.before.files v.given site.file told.entered.files has)
    (refused_so told.before v.seat (NoteTry lock mode site) result told.after told.did is)
