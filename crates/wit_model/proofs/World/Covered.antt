-- In a clean world a thread has recorded all shares that it has, but for one while it is in the
-- midst of a sequence.
use Rattle.std.proofs.Common.{◌≡◌, ℕ, ◌≤◌, Bool, true, false, cond, eqb, is_some, List, []}
use Rattle.std.proofs.Common.{◌∷◌, Ok, refl, ap, sym, ◌∙◌, subst, inl, inr, arith}
use Rattle.std.proofs.lemmas.Bool.{eq-eqb}
use Rattle.std.proofs.lemmas.Bool.Decides.{eqb_tells}
use Rattle.wit_model.specs.declared.locks.LockNo.{LockNo}
use Rattle.wit_model.specs.declared.locks.Mode.{Mode}
use Rattle.wit_model.specs.declared.locks.Site.{Site}
use Rattle.wit_model.specs.declared.calls.Call.{Call}
use Rattle.wit_model.specs.declared.calls.Call.TheVariants.{Note, NoteTry, Unlock}
use Rattle.wit_model.specs.declared.calls.Reply.TheVariants.{Recorded, Exhausted, Unrecorded}
use Rattle.wit_model.specs.declared.calls.Reply.TheVariants.{Unlocked, Ignored}
use Rattle.wit_model.specs.declared.calls.Entry.{Entry}
use Rattle.wit_model.specs.Rules.History.{act, num, is_held, is_off, watch_of}
use Rattle.wit_model.specs.Rules.State.{Start, State, state_of}
use Rattle.wit_model.specs.Rules.Step.{is_exhausted, held_by, recorded_reply, answer_of}
use Rattle.wit_model.specs.Rules.Step.{story_after}
use Rattle.wit_model.specs.Rules.Clean.{is_clean}
use Rattle.wit_model.specs.World.Deeds.{Deed, Logged, PassedOver, Take, TryTake, Free, RawUp}
use Rattle.wit_model.specs.World.Deeds.{RawDown, thread_of, own, log_of, shares}
use Rattle.wit_model.specs.World.Stages.{Over, Taken, Tried, Raised, stage_logged, stage, is_over}
use Rattle.wit_model.specs.World.Steps.{IsWorld}
use Rattle.wit_model.proofs.Chains.Acts.{num-step}
use Rattle.wit_model.proofs.Histories.Accepted.{note_accepted, try_accepted, unlock_accepted}
use Rattle.wit_model.proofs.Histories.Legal.{sane_legal}
use Rattle.wit_model.proofs.VerdictLaws.Quiet.{clean-parts, watch-clean}
use Rattle.wit_model.proofs.World.Own.{own-mine, own-other, shares-other, num-own, act-mine}
use Rattle.wit_model.proofs.World.Dues.{Covers, settled, nothing-due, due-taking, due-lowering}
use Rattle.wit_model.proofs.World.Covering.{legal_world, clean-before, recorded-by}
use Rattle.wit_model.proofs.World.Covering.{entry-covers, passed-covers, got-covers, free-covers}

module _ (start : Start) (files : List (List ℕ)) where
  CoversAll : ℕ → ℕ → List Deed → Type 0
  CoversAll t l w = Covers l (num t l (log_of w)) (shares t l w) (stage t (own t w))

  -- in a clean world a note is recorded
  notes-recorded : (e : Entry) (w : List Deed) → IsWorld start files (Logged e ∷ w)
      → is_clean start.profile (log_of (Logged e ∷ w)) ≡ true
      → (m : LockNo) → e.call ≡ Note m → e.reply ≡ Recorded
  notes-recorded e w world clean m is =
      let st = state_of (story_after start files (log_of w)) in
      let ok : answer_of (story_after start files (log_of w)) e.seat.0 (Note m) ≡ Ok e.reply =
      ap (λ c. answer_of (story_after start files (log_of w)) e.seat.0 c) (sym is)
      ∙ world.0.1.0 in
      let parts = clean-parts start.profile e (log_of w) clean in
      recorded-by (is_off (watch_of (log_of w))) (is_some (held_by st e.seat.0 m.0))
      (is_exhausted st e.seat.0 m.0) e.reply
      (ap is_off (watch-clean start.profile (log_of w) parts.1.1)) parts.1.0
      (note_accepted st e.seat.0 m.0 e.reply ok).reply

  -- and so is what was tried
  tries-recorded : (e : Entry) (w : List Deed) → IsWorld start files (Logged e ∷ w)
      → is_clean start.profile (log_of (Logged e ∷ w)) ≡ true
      → (m : LockNo) (mode : Mode) (site : Site) → e.call ≡ NoteTry m mode site → e.reply ≡ Recorded
  tries-recorded e w world clean m mode site is =
      let st = state_of (story_after start files (log_of w)) in
      let ok : answer_of (story_after start files (log_of w)) e.seat.0 (NoteTry m mode site)
      ≡ Ok e.reply
      = ap (λ c. answer_of (story_after start files (log_of w)) e.seat.0 c) (sym is)
      ∙ world.0.1.0 in
      let parts = clean-parts start.profile e (log_of w) clean in
      recorded-by (is_off (watch_of (log_of w))) (is_some (held_by st e.seat.0 m.0))
      (is_exhausted st e.seat.0 m.0) e.reply
      (ap is_off (watch-clean start.profile (log_of w) parts.1.1)) parts.1.0
      (try_accepted st e.seat.0 m.0 mode site e.reply ok).reply

  unlocks-recorded : (e : Entry) (w : List Deed) → IsWorld start files (Logged e ∷ w)
      → (m : LockNo) (mode : Mode) → e.call ≡ Unlock m mode → e.reply ≡ Unlocked
  unlocks-recorded e w world m mode is =
      let st = state_of (story_after start files (log_of w)) in
      let ok : answer_of (story_after start files (log_of w)) e.seat.0 (Unlock m mode)
      ≡ Ok e.reply =
      ap (λ c. answer_of (story_after start files (log_of w)) e.seat.0 c) (sym is)
      ∙ world.0.1.0 in
      (unlock_accepted st e.seat.0 m.0 mode e.reply ok world.0.1.1).reply

  acquired-logged : (off held none : Bool)
      → Ignored ≡ cond off Unrecorded (cond held Recorded (cond none Exhausted Recorded)) → ⊥
  acquired-logged true held none is = (cc)
  acquired-logged false true none is = (cc)
  acquired-logged false false true is = (cc)
  acquired-logged false false false is = (cc)

  -- what is recorded of an acquisition is always a reply that is logged
  not-passed : (st : State) (u m : ℕ) → Ignored ≡ recorded_reply st u m → ⊥
  not-passed st u m is =
      acquired-logged (is_off st.watch) (is_some (held_by st u m)) (is_exhausted st u m) is

  module _ (u : ℕ) (c : Call) (w : List Deed)
      (world : IsWorld start files (PassedOver u c ∷ w)) where
    passed_state : State
    passed_state = state_of (story_after start files (log_of w))

    answer-is : (x : Call) → c ≡ x → answer_of (story_after start files (log_of w)) u x ≡ Ok Ignored
    answer-is x is =
        ap (λ y. answer_of (story_after start files (log_of w)) u y) (sym is) ∙ world.0.1

    note-not_passed : (m : LockNo) → c ≡ Note m → ⊥
    unfolding passed_state
    note-not_passed m is =
        not-passed passed_state u m.0
        (note_accepted passed_state u m.0 Ignored (answer-is (Note m) is)).reply

    try-not_passed : (m : LockNo) (mode : Mode) (site : Site) → c ≡ NoteTry m mode site → ⊥
    unfolding passed_state
    try-not_passed m mode site is =
        not-passed passed_state u m.0
        (try_accepted passed_state u m.0 mode site Ignored
        (answer-is (NoteTry m mode site) is)).reply

  -- a deed of the thread itself
  mine : (d : Deed) (w : List Deed) → IsWorld start files (d ∷ w)
      → is_clean start.profile (log_of (d ∷ w)) ≡ true → (l : ℕ) → CoversAll (thread_of d) l w
      → Covers l (num (thread_of d) l (log_of (d ∷ w))) (shares (thread_of d) l (d ∷ w))
      (stage (thread_of d) (d ∷ own (thread_of d) w))
  unfolding CoversAll
  mine (Logged e) w world clean l was =
      let sane =
      sane_legal start files (e ∷ log_of w) (legal_world start files (Logged e ∷ w) world) in
      let after =
      num-step e.seat.0 l e (log_of w) (act e.call e.reply)
      (act-mine e.seat.0 e (eq-eqb e.seat.0 e.seat.0 refl)) sane.1 in
      subst (λ k. Covers l k (shares e.seat.0 l w) (stage_logged e.seat.0 e.call (own e.seat.0 w)))
      (sym after)
      (entry-covers start files e.seat.0 l w was e.call e.reply (notes-recorded e w world clean)
      (tries-recorded e w world clean) (unlocks-recorded e w world)
      (clean-parts start.profile e (log_of w) clean).0 world.0.0)
  mine (PassedOver u c) w world clean l was =
      passed-covers start files u l w was c (note-not_passed u c w world)
      (try-not_passed u c w world) world.0.0
  mine (Take u m mode) w world clean l was =
      got-covers start files u l w was m (Taken m) refl refl
      (nothing-due l (num u l (log_of w)) (shares u l w) (stage u (own u w))
      (due-taking l u m (λ k. is_held u k (log_of w)) mode (stage u (own u w)) world.0.0) was)
  mine (TryTake u m mode) w world clean l was =
      got-covers start files u l w was m (Tried m mode) refl refl (was.at_end world.0.0)
  mine (Free u m) w world clean l was = free-covers start files u l w was m world.0.0
  mine (RawUp u m) w world clean l was =
      settled l (num u l (log_of w)) (shares u l w) (Raised m) (was.at_end world.0.0) refl
  mine (RawDown u m) w world clean l was =
      settled l (num u l (log_of w)) (shares u l w) Over
      (nothing-due l (num u l (log_of w)) (shares u l w) (stage u (own u w))
      (due-lowering l u m (λ k. is_held u k (log_of w)) (stage u (own u w)) world.0.0) was) refl

  num-other : (t l : ℕ) (d : Deed) (w : List Deed) → eqb (thread_of d) t ≡ false
      → num t l (log_of (d ∷ w)) ≡ num t l (log_of w)
  num-other t l d w is =
      sym (num-own t l (d ∷ w)) ∙ (ap (λ o. num t l (log_of o)) (own-other t d w is)
      ∙ num-own t l w)

  covers-all : (w : List Deed) → IsWorld start files w → is_clean start.profile (log_of w) ≡ true
      → (t l : ℕ) → CoversAll t l w
  unfolding CoversAll
  covers-all [] world clean t l = settled l (num t l []) 0 Over (omega arith) refl
  covers-all (d ∷ w) world clean t l =
      let before = covers-all w world.1 (clean-before start.profile d w clean) in
      elim (eqb_tells (thread_of d) t) [
        | inl is ↦
            subst (λ k. Covers l (num k l (log_of (d ∷ w))) (shares k l (d ∷ w))
            (stage k (own k (d ∷ w)))) is.1
            (subst (λ o. Covers l (num (thread_of d) l (log_of (d ∷ w)))
            (shares (thread_of d) l (d ∷ w)) (stage (thread_of d) o))
            (sym (own-mine (thread_of d) d w (eq-eqb (thread_of d) (thread_of d) refl)))
            (mine d w world clean l (before (thread_of d) l)))
        | inr is ↦
            subst (λ k. Covers l k (shares t l (d ∷ w)) (stage t (own t (d ∷ w))))
            (sym (num-other t l d w is.0))
            (subst (λ k. Covers l (num t l (log_of w)) k (stage t (own t (d ∷ w))))
            (sym (shares-other t l d w is.0))
            (subst (λ o. Covers l (num t l (log_of w)) (shares t l w) (stage t o))
            (sym (own-other t d w is.0)) (before t l)))
      ]

  -- between its sequences a thread has no share that isn't recorded
  pub covered : (w : List Deed) → IsWorld start files w → is_clean start.profile (log_of w) ≡ true
      → (t l : ℕ) → is_over (stage t (own t w)) ≡ true → shares t l w ≤ num t l (log_of w)
  unfolding CoversAll
  covered w world clean t l over = (covers-all w world clean t l).at_end over
