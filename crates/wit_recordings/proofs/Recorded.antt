-- In a world in which no acquisition goes unrecorded a thread has recorded all shares that it has,
-- but for one while it is in the midst of a sequence.
use Rattle.std.proofs.Common.{◌≡◌, ℕ, ◌<◌, Bool, true, false, not, cond, eqb, is_some, List, []}
use Rattle.std.proofs.Common.{◌∷◌, Ok, refl, ap, sym, ◌∙◌, subst, inl, inr, arith}
use Rattle.std.specs.List.{list_all}
use Rattle.std.proofs.lemmas.Bool.{eq-eqb, and_parts, not-true, true≢false, lt-ltb}
use Rattle.std.proofs.lemmas.Bool.Decides.{eqb_tells}
use Rattle.wit_model.specs.declared.profiles.Profile.TheVariants.{AllHeld}
use Rattle.wit_model.specs.declared.locks.LockNo.{LockNo}
use Rattle.wit_model.specs.declared.locks.Mode.{Mode}
use Rattle.wit_model.specs.declared.locks.Site.{Site}
use Rattle.wit_model.specs.declared.calls.Call.{Call}
use Rattle.wit_model.specs.declared.calls.Call.TheVariants.{Init, Check, Note, NoteTry, Unlock}
use Rattle.wit_model.specs.declared.calls.Call.TheVariants.{SetWatch}
use Rattle.wit_model.specs.declared.calls.Reply.{Reply}
use Rattle.wit_model.specs.declared.calls.Reply.TheVariants.{Recorded, Exhausted, Unrecorded}
use Rattle.wit_model.specs.declared.calls.Reply.TheVariants.{Unlocked, Ignored}
use Rattle.wit_model.specs.declared.calls.Entry.{Entry}
use Rattle.wit_model.specs.Rules.History.{act, num, is_held, is_off}
use Rattle.wit_model.specs.Rules.State.{Start, State, state_of}
use Rattle.wit_model.specs.Rules.Step.{is_exhausted, held_by, recorded_reply, answer_of}
use Rattle.wit_model.specs.Rules.Step.{story_after}
use Rattle.wit_model.specs.World.Deeds.{Deed, Logged, PassedOver, Take, TryTake, Free, RawUp}
use Rattle.wit_model.specs.World.Deeds.{RawDown, thread_of, own, log_of, shares}
use Rattle.wit_model.specs.World.Stages.{Over, Asked, Taken, Tried, Raised, stage_logged, stage}
use Rattle.wit_model.specs.World.Stages.{is_over, call_follows}
use Rattle.wit_model.specs.World.Steps.{IsWorld}
use Rattle.wit_recordings.specs.Duty.{is_unrecorded, AllAskRecorded}
use Rattle.wit_model.proofs.Chains.Acts.{num_after, num-step}
use Rattle.wit_model.proofs.Histories.Accepted.{note_accepted, try_accepted, unlock_accepted}
use Rattle.wit_model.proofs.Histories.Legal.{sane_legal}
use Rattle.wit_model.proofs.World.Own.{own-mine, own-other, shares-other, num-own, act-mine}
use Rattle.wit_model.proofs.World.Dues.{Covers, settled, nothing-due, due-taking, due-lowering}
use Rattle.wit_model.proofs.World.Covering.{legal_world, entry-covers, passed-covers, got-covers}
use Rattle.wit_model.proofs.World.Covering.{free-covers}

-- no acquisition in it is answered that it isn't recorded
abbrev RecordsAll : List Entry → Type 0
RecordsAll h = list_all (λ (e : Entry). not (is_unrecorded e.reply)) h ≡ true

records-before : (d : Deed) (w : List Deed) → RecordsAll (log_of (d ∷ w)) → RecordsAll (log_of w)
records-before (Logged e) w all =
    (and_parts (not (is_unrecorded e.reply))
    (list_all (λ (x : Entry). not (is_unrecorded x.reply)) (log_of w)) all).1
records-before (Take u m mode) w all = all
records-before (TryTake u m mode) w all = all
records-before (PassedOver u c) w all = all
records-before (Free u m) w all = all
records-before (RawUp u m) w all = all
records-before (RawDown u m) w all = all

recorded-by : (off held none : Bool) (r : Reply) → is_unrecorded r ≡ false
    → r ≡ cond off Unrecorded (cond held Recorded (cond none Exhausted Recorded)) → r ≡ Recorded
recorded-by true held none r kept is = absurd (true≢false (sym (ap is_unrecorded is) ∙ kept))
recorded-by false true none r kept is = is
recorded-by false false true r kept is = absurd (true≢false (sym (ap is_unrecorded is) ∙ kept))
recorded-by false false false r kept is = is

acquired-logged : (off held none : Bool)
    → Ignored ≡ cond off Unrecorded (cond held Recorded (cond none Exhausted Recorded)) → ⊥
acquired-logged true held none is = (cc)
acquired-logged false true none is = (cc)
acquired-logged false false true is = (cc)
acquired-logged false false false is = (cc)

-- what is recorded of an acquisition is always a reply that is logged
not-passed : (st : State) (u m : ℕ) → Ignored ≡ recorded_reply st u m → ⊥
not-passed st u m is =
    acquired-logged (is_off st.watch) (is_some (held_by st u m)) (is_exhausted st u m) is

module _ (start : Start) (files : List (List ℕ)) where
  CoversAll : ℕ → ℕ → List Deed → Type 0
  CoversAll t l w = Covers l (num t l (log_of w)) (shares t l w) (stage t (own t w))

  -- ---- a logged call

  module _ (e : Entry) (w : List Deed) (world : IsWorld start files (Logged e ∷ w)) where
    before : State
    before = state_of (story_after start files (log_of w))

    answered : (c : Call) → e.call ≡ c
        → answer_of (story_after start files (log_of w)) e.seat.0 c ≡ Ok e.reply
    answered c is =
        ap (λ x. answer_of (story_after start files (log_of w)) e.seat.0 x) (sym is) ∙ world.0.1.0

    reply-recorded : (m : ℕ) → is_unrecorded e.reply ≡ false
        → e.reply ≡ recorded_reply before e.seat.0 m → e.reply ≡ Recorded
    reply-recorded m kept is =
        recorded-by (is_off before.watch) (is_some (held_by before e.seat.0 m))
        (is_exhausted before e.seat.0 m) e.reply kept is

    note-recorded : is_unrecorded e.reply ≡ false → (m : LockNo) → e.call ≡ Note m
        → e.reply ≡ Recorded
    unfolding before
    note-recorded kept m is =
        reply-recorded m.0 kept
        (note_accepted before e.seat.0 m.0 e.reply (answered (Note m) is)).reply

    try-recorded : is_unrecorded e.reply ≡ false → (m : LockNo) (mode : Mode) (site : Site)
        → e.call ≡ NoteTry m mode site → e.reply ≡ Recorded
    unfolding before
    try-recorded kept m mode site is =
        reply-recorded m.0 kept
        (try_accepted before e.seat.0 m.0 mode site e.reply
        (answered (NoteTry m mode site) is)).reply

    unlock-recorded : (m : LockNo) (mode : Mode) → e.call ≡ Unlock m mode → e.reply ≡ Unlocked
    unfolding before
    unlock-recorded m mode is =
        (unlock_accepted before e.seat.0 m.0 mode e.reply (answered (Unlock m mode) is)
        world.0.1.1).reply

  call-covers : (t l : ℕ) (w : List Deed) → Covers l (num t l (log_of w)) (shares t l w)
      (stage t (own t w))
      → (c : Call) (r : Reply) → ((m : LockNo) → c ≡ Note m → r ≡ Recorded)
      → ((m : LockNo) (mode : Mode) (site : Site) → c ≡ NoteTry m mode site → r ≡ Recorded)
      → ((m : LockNo) (mode : Mode) → c ≡ Unlock m mode → r ≡ Unlocked)
      → call_follows c (λ m. is_held t m (log_of w)) (stage t (own t w)) ≡ true
      → Covers l (num_after (act c r) l (num t l (log_of w))) (shares t l w)
      (stage_logged t c (own t w))
  call-covers t l w was (Init lock) r notes tries unlocks may =
      settled l (num t l (log_of w)) (shares t l w) Over (was.at_end may) refl
  call-covers t l w was (Check q) r notes tries unlocks may =
      settled l (num t l (log_of w)) (shares t l w) (Asked q) (was.at_end may) refl
  call-covers t l w was (SetWatch level) r notes tries unlocks may =
      settled l (num t l (log_of w)) (shares t l w) Over (was.at_end may) refl
  call-covers t l w was c r notes tries unlocks may =
      entry-covers (record start { profile = AllHeld }) files t l w was c r notes tries unlocks refl
      may

  -- ---- a call that is passed over, which is never an acquisition

  module _ (u : ℕ) (c : Call) (w : List Deed)
      (world : IsWorld start files (PassedOver u c ∷ w)) where
    passed_state : State
    passed_state = state_of (story_after start files (log_of w))

    answer-is : (x : Call) → c ≡ x → answer_of (story_after start files (log_of w)) u x ≡ Ok Ignored
    answer-is x is =
        ap (λ y. answer_of (story_after start files (log_of w)) u y) (sym is) ∙ world.0.1

    note-not_passed : (m : LockNo) → c ≡ Note m → ⊥
    unfolding passed_state
    note-not_passed m is =
        not-passed passed_state u m.0
        (note_accepted passed_state u m.0 Ignored (answer-is (Note m) is)).reply

    try-not_passed : (m : LockNo) (mode : Mode) (site : Site) → c ≡ NoteTry m mode site → ⊥
    unfolding passed_state
    try-not_passed m mode site is =
        not-passed passed_state u m.0
        (try_accepted passed_state u m.0 mode site Ignored
        (answer-is (NoteTry m mode site) is)).reply

  -- ---- each deed

  mine : (d : Deed) (w : List Deed) → IsWorld start files (d ∷ w) → RecordsAll (log_of (d ∷ w))
      → (l : ℕ) → CoversAll (thread_of d) l w
      → Covers l (num (thread_of d) l (log_of (d ∷ w))) (shares (thread_of d) l (d ∷ w))
      (stage (thread_of d) (d ∷ own (thread_of d) w))
  unfolding CoversAll
  mine (Logged e) w world all l was =
      let sane =
      sane_legal start files (e ∷ log_of w) (legal_world start files (Logged e ∷ w) world) in
      let after =
      num-step e.seat.0 l e (log_of w) (act e.call e.reply)
      (act-mine e.seat.0 e (eq-eqb e.seat.0 e.seat.0 refl)) sane.1 in
      let kept =
      not-true (is_unrecorded e.reply) (and_parts (not (is_unrecorded e.reply))
      (list_all (λ (x : Entry). not (is_unrecorded x.reply)) (log_of w)) all).0 in
      subst (λ k. Covers l k (shares e.seat.0 l w) (stage_logged e.seat.0 e.call (own e.seat.0 w)))
      (sym after)
      (call-covers e.seat.0 l w was e.call e.reply (note-recorded e w world kept)
      (try-recorded e w world kept) (unlock-recorded e w world) world.0.0)
  mine (PassedOver u c) w world all l was =
      passed-covers start files u l w was c (note-not_passed u c w world)
      (try-not_passed u c w world) world.0.0
  mine (Take u m mode) w world all l was =
      got-covers start files u l w was m (Taken m) refl refl
      (nothing-due l (num u l (log_of w)) (shares u l w) (stage u (own u w))
      (due-taking l u m (λ k. is_held u k (log_of w)) mode (stage u (own u w)) world.0.0) was)
  mine (TryTake u m mode) w world all l was =
      got-covers start files u l w was m (Tried m mode) refl refl (was.at_end world.0.0)
  mine (Free u m) w world all l was = free-covers start files u l w was m world.0.0
  mine (RawUp u m) w world all l was =
      settled l (num u l (log_of w)) (shares u l w) (Raised m) (was.at_end world.0.0) refl
  mine (RawDown u m) w world all l was =
      settled l (num u l (log_of w)) (shares u l w) Over
      (nothing-due l (num u l (log_of w)) (shares u l w) (stage u (own u w))
      (due-lowering l u m (λ k. is_held u k (log_of w)) (stage u (own u w)) world.0.0) was) refl

  num-other : (t l : ℕ) (d : Deed) (w : List Deed) → eqb (thread_of d) t ≡ false
      → num t l (log_of (d ∷ w)) ≡ num t l (log_of w)
  num-other t l d w is =
      sym (num-own t l (d ∷ w)) ∙ (ap (λ o. num t l (log_of o)) (own-other t d w is)
      ∙ num-own t l w)

  covers-all : (w : List Deed) → IsWorld start files w → RecordsAll (log_of w) → (t l : ℕ)
      → CoversAll t l w
  unfolding CoversAll
  covers-all [] world all t l = settled l (num t l []) 0 Over (omega arith) refl
  covers-all (d ∷ w) world all t l =
      let before = covers-all w world.1 (records-before d w all) in
      elim (eqb_tells (thread_of d) t) [
        | inl is ↦
            subst (λ k. Covers l (num k l (log_of (d ∷ w))) (shares k l (d ∷ w))
            (stage k (own k (d ∷ w)))) is.1
            (subst (λ o. Covers l (num (thread_of d) l (log_of (d ∷ w)))
            (shares (thread_of d) l (d ∷ w)) (stage (thread_of d) o))
            (sym (own-mine (thread_of d) d w (eq-eqb (thread_of d) (thread_of d) refl)))
            (mine d w world all l (before (thread_of d) l)))
        | inr is ↦
            subst (λ k. Covers l k (shares t l (d ∷ w)) (stage t (own t (d ∷ w))))
            (sym (num-other t l d w is.0))
            (subst (λ k. Covers l (num t l (log_of w)) k (stage t (own t (d ∷ w))))
            (sym (shares-other t l d w is.0))
            (subst (λ o. Covers l (num t l (log_of w)) (shares t l w) (stage t o))
            (sym (own-other t d w is.0)) (before t l)))
      ]

  -- ---- who asks is at the end of a sequence

  has-recorded : (t l : ℕ) (w : List Deed) → CoversAll t l w → is_over (stage t (own t w)) ≡ true
      → 0 < shares t l w → is_held t l (log_of w) ≡ true
  unfolding CoversAll
  has-recorded t l w was over some =
      let all = was.at_end over in lt-ltb 0 (num t l (log_of w)) (omega (arith, all, some))

  pub asks-recorded : (w : List Deed) → IsWorld start files w → RecordsAll (log_of w)
      → AllAskRecorded w
  asks-recorded [] world all = tt
  asks-recorded (Logged e ∷ w) world all =
      let rest = records-before (Logged e) w all in (
        (λ q l asks unheld some.
            has-recorded e.seat.0 l w (covers-all w world.1 rest e.seat.0 l)
            (ap (λ c. call_follows c (λ m. is_held e.seat.0 m (log_of w))
            (stage e.seat.0 (own e.seat.0 w))) (sym asks) ∙ world.0.0) some),
        asks-recorded w world.1 rest,
      )
  asks-recorded (Take u m mode ∷ w) world all = (tt, asks-recorded w world.1 all)
  asks-recorded (TryTake u m mode ∷ w) world all = (tt, asks-recorded w world.1 all)
  asks-recorded (PassedOver u c ∷ w) world all = (tt, asks-recorded w world.1 all)
  asks-recorded (Free u m ∷ w) world all = (tt, asks-recorded w world.1 all)
  asks-recorded (RawUp u m ∷ w) world all = (tt, asks-recorded w world.1 all)
  asks-recorded (RawDown u m ∷ w) world all = (tt, asks-recorded w world.1 all)
