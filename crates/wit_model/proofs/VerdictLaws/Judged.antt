-- The checks of a legal history, as their verdicts read.
use Rattle.std.proofs.Common.{◌≡◌, ℕ, Bool, true, false, cond, is_some, List, ◌∷◌, Ok, refl, ap}
use Rattle.std.proofs.Common.{sym, ◌∙◌, subst}
use Rattle.std.proofs.lemmas.Bool.{true≢false}
use Rattle.wit_model.specs.declared.calls.Request.{Request}
use Rattle.wit_model.specs.declared.calls.Call.{Call}
use Rattle.wit_model.specs.declared.calls.Call.TheVariants.{Init, Check, Note, NoteTry, GiveUp}
use Rattle.wit_model.specs.declared.calls.Call.TheVariants.{Unlock}
use Rattle.wit_model.specs.declared.calls.Reply.{Reply}
use Rattle.wit_model.specs.declared.calls.Reply.TheVariants.{Recorded, Exhausted, Unrecorded}
use Rattle.wit_model.specs.declared.calls.Reply.TheVariants.{Silent, Reversal, Duplicate}
use Rattle.wit_model.specs.declared.calls.Entry.{Entry}
use Rattle.wit_model.specs.Rules.Locks.{locks_of, is_spin_lock}
use Rattle.wit_model.specs.Rules.History.{is_off, chain, watch_of}
use Rattle.wit_model.specs.Rules.State.{Start, State, known_of, state_of, seat_at}
use Rattle.wit_model.specs.Rules.Verdict.{basis_of, typed_request}
use Rattle.wit_model.specs.Rules.Step.{held_by, is_exhausted, recorded_reply, step, answer_of}
use Rattle.wit_model.specs.Rules.Step.{story_after, is_logged, IsLegal}
use Rattle.wit_model.proofs.Histories.Accepted.{CheckAccepted, check_accepted}
use Rattle.wit_model.proofs.Histories.AcceptedLocks.{init_accepted}
use Rattle.wit_model.proofs.Histories.Accepted.{note_accepted, try_accepted, give_up_accepted}
use Rattle.wit_model.proofs.Histories.Accepted.{unlock_accepted}
use Rattle.wit_model.proofs.Histories.AcceptedTurns.{is_plain_reply, plain_accepted}
use Rattle.wit_model.proofs.Orders.Ruled.{Says, ruled}
use Rattle.wit_model.proofs.Orders.Learnt.{chain-judged}
use Rattle.wit_model.proofs.VerdictLaws.Classes.{type-kind}

-- a check of a legal history was accepted
pub checked : (start : Start) (files : List (List ℕ)) (e : Entry) (h : List Entry) (q : Request)
    → IsLegal start files (e ∷ h) → e.call ≡ Check q
    → CheckAccepted (state_of (story_after start files h)) e.seat.0 q e.reply
checked start files e h q legal asks =
    check_accepted (state_of (story_after start files h)) e.seat.0 q e.reply
    (ap (λ c. answer_of (story_after start files h) e.seat.0 c) (sym asks) ∙ legal.0)

-- the chain by which it was judged is that of the lock's kind
pub chain-of_kind : (start : Start) (files : List (List ℕ)) (e : Entry) (h : List Entry)
    (q : Request) → IsLegal start files (e ∷ h) → e.call ≡ Check q
    → Says start.profile (basis_of (known_of start h)) (watch_of h)
    (typed_request (known_of start h) q)
    (chain (is_spin_lock (locks_of h) q.lock.0) e.seat.0 h) e.reply
chain-of_kind start files e h q legal asks =
    let s = state_of (story_after start files h) in
    let g = basis_of (known_of start h) in
    let a = checked start files e h q legal asks in
    subst (λ c. Says start.profile g (watch_of h) (typed_request (known_of start h) q) c e.reply)
    (chain-judged start files h e.seat.0 q a.seat
    ∙ ap (λ k. chain k e.seat.0 h) (type-kind start files h q.lock.0 legal.2 a.lock))
    (ruled start.profile g s.watch (seat_at s e.seat.0).sleep (seat_at s e.seat.0).spin
    (typed_request (known_of start h) q) e.reply a.verdict)

-- a reply that tells of a violation
abbrev pub is_told : Reply → Bool
is_told (Reversal x) = true
is_told (Duplicate d) = true
is_told (Silent a b) = true
is_told _ = false

untold : (r s : Reply) → r ≡ s → is_told s ≡ false → is_told r ≡ true → ⊥
untold r s same quiet is = true≢false (sym is ∙ (ap is_told same ∙ quiet))

recorded-untold : (s : State) (t l : ℕ) → is_told (recorded_reply s t l) ≡ false
recorded-untold s t l = go (is_off s.watch) (is_some (held_by s t l)) (is_exhausted s t l)
  where
    go : (off held none : Bool) → is_told
        (cond off Unrecorded (cond held Recorded (cond none Exhausted Recorded))) ≡ false
    go true held none = refl
    go false true none = refl
    go false false true = refl
    go false false false = refl

plain-untold : (r : Reply) → is_plain_reply r ≡ true → is_told r ≡ false
plain-untold (Reversal x) plain = absurd (true≢false (sym plain))
plain-untold (Duplicate d) plain = absurd (true≢false (sym plain))
plain-untold (Silent a b) plain = absurd (true≢false (sym plain))
plain-untold r plain = refl

told-check : (s : State) (t : ℕ) (c : Call) (r : Reply) → step s t c ≡ Ok r → is_logged r ≡ true
    → is_told r ≡ true → (q : Request) × (c ≡ Check q)
told-check s t (Check q) r ok kept is = (q, refl)
told-check s t (Init lock) r ok kept is =
    absurd (untold r _ (init_accepted s t lock r ok).reply refl is)
told-check s t (Note l) r ok kept is =
    absurd (untold r _ (note_accepted s t l.0 r ok).reply (recorded-untold s t l.0) is)
told-check s t (NoteTry l m site) r ok kept is =
    absurd (untold r _ (try_accepted s t l.0 m site r ok).reply (recorded-untold s t l.0) is)
told-check s t (GiveUp l) r ok kept is =
    absurd (untold r _ (give_up_accepted s t l.0 r ok).reply refl is)
told-check s t (Unlock l m) r ok kept is =
    absurd (untold r _ (unlock_accepted s t l.0 m r ok kept).reply refl is)
told-check s t c r ok kept is =
    absurd (true≢false (sym is ∙ plain-untold r (plain_accepted s t c r refl ok kept).reply))

-- only a check is told of a violation
pub told-asked : (start : Start) (files : List (List ℕ)) (e : Entry) (h : List Entry)
    → IsLegal start files (e ∷ h) → is_told e.reply ≡ true
    → (q : Request) × (e.call ≡ Check q)
told-asked start files e h legal is =
    told-check (state_of (story_after start files h)) e.seat.0 e.call e.reply legal.0 legal.1 is
