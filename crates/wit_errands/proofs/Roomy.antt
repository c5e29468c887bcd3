-- In a settled run there is room for each call wherever its thread makes it: the threads together
-- never have more than the most that each ever has.
use Rattle.std.proofs.Common.{◌≡◌, ℕ, ◌+◌, ◌<◌, ◌≤◌, Bool, true, false, cond, eqb}
use Rattle.std.proofs.Common.{List, ◌∷◌, length, find, is_some, Option, None, Some}
use Rattle.std.proofs.Common.{refl, ap, ap₂, sym, ◌∙◌, subst, arith}
use Rattle.std.proofs.lemmas.Bool.{le-leb, eq-eqb, ne_eqb, false≢true, true≢false}
use Rattle.wit_model.specs.declared.locks.Watch.TheVariants.{On}
use Rattle.wit_model.specs.declared.calls.Request.{Request}
use Rattle.wit_model.specs.declared.calls.Call.{Call}
use Rattle.wit_model.specs.declared.calls.Call.TheVariants.{Init, Check, Note, NoteTry, GiveUp}
use Rattle.wit_model.specs.declared.calls.Call.TheVariants.{Unlock, SetWatch, Destroy, Upgrade}
use Rattle.wit_model.specs.declared.calls.Call.TheVariants.{Downgrade, NoRelease, ReleaseOk}
use Rattle.wit_model.specs.declared.calls.Call.TheVariants.{DefineOrder}
use Rattle.wit_model.specs.declared.calls.Reply.{Reply}
use Rattle.wit_model.specs.declared.calls.Reply.TheVariants.{Recorded, Exhausted, Unrecorded}
use Rattle.wit_model.specs.declared.calls.Entry.{Entry}
use Rattle.wit_model.specs.Laws.{is_exhaustion}
use Rattle.wit_model.specs.Rules.History.{Records, act, pending, is_off}
use Rattle.wit_model.specs.Rules.History.{watch_of, own_entries}
use Rattle.wit_model.specs.Rules.Groups.{opens}
use Rattle.wit_model.specs.Rules.State.{Start, State, state_of, seat_of}
use Rattle.wit_model.specs.Rules.State.{is_seat, has_room, free, chunks_of, owed_by}
use Rattle.wit_model.specs.Rules.Verdict.{is_of}
use Rattle.wit_model.specs.Rules.Step.{held_by, groups_for, is_exhausted}
use Rattle.wit_model.specs.Rules.Step.{story_after, IsLegal}
use Rattle.wit_model.proofs.Chains.Sane.{IsSane}
use Rattle.wit_model.proofs.Chains.Free.{chunks_opened, chunks-recorded}
use Rattle.wit_model.proofs.Chains.Owed.{owed_to, owed-step, owed-even, owed-check, owed-try}
use Rattle.wit_model.proofs.Chains.Seats.{seat-own, sum-step, entry}
use Rattle.wit_model.proofs.Histories.Accepted.{check_accepted, try_accepted}
use Rattle.wit_model.proofs.Histories.AcceptedTurns.{is_plain}
use Rattle.wit_model.proofs.Histories.Legal.{seat-within, seat_accepted, pending-state}
use Rattle.wit_model.proofs.Histories.Legal.{chain_for-state, groups_for-state, sane_legal}
use Rattle.wit_model.proofs.Histories.Legal.{plain-even, plain-keeps}
use Rattle.wit_errands.specs.Settled.{chunks_at, entries_at, is_calm_call}
use Rattle.wit_errands.proofs.Answers.{room_of}
use Rattle.wit_errands.proofs.Sums.{total, total-room, total-both, total-map}
use Rattle.wit_errands.proofs.Sums.{entries-total}

only-recorded : (off held none : Bool) (r : Reply) → off ≡ false → is_exhaustion r ≡ false
    → r ≡ cond off Unrecorded (cond held Recorded (cond none Exhausted Recorded)) → r ≡ Recorded
only-recorded true held none r on plain is = absurd (true≢false on)
only-recorded false true none r on plain is = is
only-recorded false false true r on plain is =
    absurd (true≢false (sym (ap is_exhaustion is) ∙ plain))
only-recorded false false false r on plain is = is

-- ---- an entry of t

module _ (start : Start) (files : List (List ℕ)) (h : List Entry) (t : ℕ) (c : Call) (r : Reply)
    (legal : IsLegal start files (entry t c r ∷ h)) where
  abbrev now : State
  now = state_of (story_after start files h)

  sane : IsSane (entry t c r ∷ h)
  sane = sane_legal start files (entry t c r ∷ h) legal

  known : is_seat now t ≡ true
  known = seat_accepted now t c r legal.0

  within : (0 < t) × (t ≤ start.sizes.seats)
  within = seat-within start files h t known

  own-longer : length (own_entries t (entry t c r ∷ h)) ≡ length (own_entries t h) + 1
  own-longer = rw (eq-eqb t t refl) (omega arith)

  -- what is owed to its seat grows by as much as what is owed to all: so its entries grow by as
  -- many as it needs room for
  grown : (k : ℕ) → owed_to start.sizes.seats (entry t c r ∷ h) ≡ owed_to start.sizes.seats h + k
      → entries_at t (entry t c r ∷ h) ≡ entries_at t h + (k + 1)
  grown k more =
      let a = owed-step start.sizes.seats (entry t c r) h sane within.0 within.1 in
      let b = ap owed_by (seat-own (entry t c r) h sane) in
      omega (arith, a, b, more, own-longer)

  grown-plain : is_plain c ≡ true → entries_at t (entry t c r ∷ h) ≡ entries_at t h + 1
  grown-plain is =
      let same = owed-even start.sizes.seats t c r h sane within.0 within.1 (plain-even c r is)
      (plain-keeps c (pending t h) is) in
      let more = grown 0 (omega (arith, same)) in omega (arith, more)

  -- an acquisition that opens a group takes a chunk
  pub chunk-taken : (l : ℕ) → act c r ≡ Records l → is_some (held_by now t l) ≡ false
      → opens (groups_for now t l) ≡ true → chunks_at t (entry t c r ∷ h) ≡ chunks_at t h + 1
  chunk-taken l acts new opening =
      let a = sum-step chunks_of start.sizes.seats (entry t c r) h sane within.0 within.1 in
      let b = ap chunks_of (seat-own (entry t c r) h sane) in
      let d =
      chunks-recorded start.sizes.seats (entry t c r) h sane within.0 within.1 l acts in
      let f =
      ap₂ (λ k gs. chunks_opened (find (is_of l) k) gs)
      (chain_for-state start files h t l known) (groups_for-state start files h t l known) in
      let one : chunks_opened (held_by now t l) (groups_for now t l) ≡ 1 =
      ap₂ (λ x y. cond x 0 (cond y 1 0)) new opening in
      omega (arith, a, b, d, f, one)

idle-none : (o : Option Request) → is_some o ≡ false → o ≡ None
idle-none None is = refl
idle-none (Some q) is = absurd (true≢false is)

module _ (start : Start) (files : List (List ℕ)) (h : List Entry) (t : ℕ)
    (watched : watch_of h ≡ On) where
  -- a call has the room that it needs where what its thread has before it and after it has room
  pub needed : (c : Call) (r : Reply) → IsLegal start files (entry t c r ∷ h)
      → is_calm_call c ≡ true → is_exhaustion r ≡ false → (top : ℕ) → entries_at t h ≤ top
      → entries_at t (entry t c r ∷ h) ≤ top → entries_at t h + room_of c ≤ top
  needed (Init lock) r legal calm plain top before after = absurd (false≢true calm)
  needed (Destroy l) r legal calm plain top before after = absurd (false≢true calm)
  needed (DefineOrder a b) r legal calm plain top before after = absurd (false≢true calm)
  needed (Note l) r legal calm plain top before after = omega (arith, before)
  needed (GiveUp l) r legal calm plain top before after = omega (arith, before)
  needed (Unlock l m) r legal calm plain top before after = omega (arith, before)
  needed (Check q) r legal calm plain top before after =
      let s = state_of (story_after start files h) in
      let a = check_accepted s t q r legal.0 in
      let none =
      idle-none (pending t h)
      (sym (ap is_some (pending-state start files h t a.seat)) ∙ a.idle) in
      let in_range = within start files h t (Check q) r legal in
      let more =
      grown start files h t (Check q) r legal 2
      (owed-check start.sizes.seats t q r h (sane start files h t (Check q) r legal) in_range.0
      in_range.1 none) in
      omega (arith, more, after)
  needed (NoteTry l m site) r legal calm plain top before after =
      let s = state_of (story_after start files h) in
      let a = try_accepted s t l.0 m site r legal.0 in
      let is =
      only-recorded (is_off s.watch) (is_some (held_by s t l.0)) (is_exhausted s t l.0) r
      (ap (λ w. is_off w) watched) plain a.reply in
      let in_range = within start files h t (NoteTry l m site) r legal in
      let owes =
      subst (λ x. IsSane (entry t (NoteTry l m site) x ∷ h)
      → owed_to start.sizes.seats (entry t (NoteTry l m site) x ∷ h)
      ≡ owed_to start.sizes.seats h + 1) (sym is)
      (λ fit. owed-try start.sizes.seats t l m site h fit in_range.0 in_range.1)
      (sane start files h t (NoteTry l m site) r legal) in
      let more = grown start files h t (NoteTry l m site) r legal 1 owes in
      omega (arith, more, after)
  needed (SetWatch w) r legal calm plain top before after =
      omega (arith, grown-plain start files h t (SetWatch w) r legal refl, after)
  needed (Upgrade l) r legal calm plain top before after =
      omega (arith, grown-plain start files h t (Upgrade l) r legal refl, after)
  needed (Downgrade l) r legal calm plain top before after =
      omega (arith, grown-plain start files h t (Downgrade l) r legal refl, after)
  needed (NoRelease l) r legal calm plain top before after =
      omega (arith, grown-plain start files h t (NoRelease l) r legal refl, after)
  needed (ReleaseOk l) r legal calm plain top before after =
      omega (arith, grown-plain start files h t (ReleaseOk l) r legal refl, after)

-- ---- all threads

module _ (start : Start) (files : List (List ℕ)) (h : List Entry) (tops : ℕ → ℕ) (t : ℕ)
    (some : 0 < t) (within : t ≤ start.sizes.seats) where
  abbrev then : State
  then = state_of (story_after start files h)

  pub has-room : IsLegal start files h → ((i : ℕ) → entries_at i h ≤ tops i) → (k : ℕ)
      → entries_at t h + k ≤ tops t → total tops 1 start.sizes.seats ≤ start.sizes.log
      → has_room then k ≡ true
  has-room legal all k room few =
      let n = start.sizes.seats in
      let a = total-room (λ i. entries_at i h) tops all t k room 1 n some (omega (arith, within)) in
      let b = total-both (λ i. length (own_entries i h)) (λ i. owed_by (seat_of h i)) 1 n in
      let d = entries-total start files h legal in
      let f = total-map owed_by (seat_of h) 1 n in
      le-leb (length h + owed_to n h + k) start.sizes.log (omega (arith, a, b, d, f, few))

  pub has-chunk : ((i : ℕ) → chunks_at i h ≤ tops i) → chunks_at t h + 1 ≤ tops t
      → total tops 1 start.sizes.seats ≤ start.sizes.chunks → eqb (free then) 0 ≡ false
  has-chunk all room few =
      let n = start.sizes.seats in
      let a = total-room (λ i. chunks_at i h) tops all t 1 room 1 n some (omega (arith, within)) in
      let f = total-map chunks_of (seat_of h) 1 n in
      ne_eqb (free then) 0 (λ (none : free then ≡ 0). let no : ⊥ = omega (arith, a, f, few) in no)
