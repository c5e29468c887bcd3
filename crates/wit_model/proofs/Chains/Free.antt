-- The chunks that the seats have after an entry, and that they are never more than there are.
use Rattle.std.proofs.Common.{◌≡◌, ℕ, zero, suc, ◌+◌, ◌<◌, ◌≤◌, Bool, true, false, not, ◌&&◌, cond}
use Rattle.std.proofs.Common.{eqb, nat_lt, List, [], ◌∷◌, ◌++◌, length, map, filter, find, sum_by}
use Rattle.std.proofs.Common.{Option, None, Some, is_some, Ok, refl, ap, ap₂, sym, ◌∙◌, subst}
use Rattle.std.proofs.Common.{arith}
use Rattle.std.specs.List.{range_with_len}
use Rattle.std.proofs.lemmas.Bool.{eqb-false}
use Rattle.std.proofs.lemmas.List.{length-map}
use Rattle.std.proofs.lemmas.List.Sums.{sum_by-cons}
use Rattle.wit_model.specs.declared.locks.LockNo.{LockNo}
use Rattle.wit_model.specs.declared.locks.Mode.{Mode}
use Rattle.wit_model.specs.declared.locks.Instance.{Instance}
use Rattle.wit_model.specs.declared.calls.NewLock.{NewLock}
use Rattle.wit_model.specs.declared.calls.Call.{Call}
use Rattle.wit_model.specs.declared.calls.Call.TheVariants.{Note, NoteTry, Unlock, Downgrade}
use Rattle.wit_model.specs.declared.calls.Call.TheVariants.{NoRelease, ReleaseOk, Upgrade}
use Rattle.wit_model.specs.declared.calls.Reply.{Reply}
use Rattle.wit_model.specs.declared.calls.Reply.TheVariants.{Recorded, Unlocked}
use Rattle.wit_model.specs.declared.calls.Entry.{Entry}
use Rattle.wit_model.specs.Rules.Locks.{locks_of, is_spin_lock}
use Rattle.wit_model.specs.Rules.History.{Act, Nothing, Records, Releases, act, chain}
use Rattle.wit_model.specs.Rules.Groups.{group_has_room, joined, opens, is_filled, tidied, left}
use Rattle.wit_model.specs.Rules.SeatGroups.{seat_groups}
use Rattle.wit_model.specs.Rules.Verdict.{is_of}
use Rattle.wit_model.specs.Rules.State.{Start, Story, State, Seat, state_of, seat_of, seats_of}
use Rattle.wit_model.specs.Rules.State.{is_seat, chunks_of, free}
use Rattle.wit_model.specs.Rules.Step.{held_by, groups_for, recorded_reply, step, answer_of}
use Rattle.wit_model.specs.Rules.Step.{story_after, IsLegal}
use Rattle.wit_model.proofs.Chains.Sane.{IsSane}
use Rattle.wit_model.proofs.Chains.Effects.{is_not}
use Rattle.wit_model.proofs.Chains.Regrouping.{filter-shorter, seat_groups-nil}
use Rattle.wit_model.proofs.Chains.GroupSteps.{groups_entered, withdrawn, groups_after}
use Rattle.wit_model.proofs.Chains.Seats.{sum-step}
use Rattle.wit_model.proofs.Histories.Accepted.{recorded_room, note_accepted, try_accepted}
use Rattle.wit_model.proofs.Histories.Legal.{seat-within, one_chain, one_groups, chain_for-state}
use Rattle.wit_model.proofs.Histories.Legal.{groups_for-state, sane_legal, seat_accepted}
use Rattle.wit_model.proofs.Histories.Legal.{plain-unrecorded}

module _ {X : Type 0} where
  pub length-joined : (x : X) (gs : List (List X))
      → length (joined x gs) ≡ length gs + cond (opens gs) 1 0
  length-joined x [] = refl
  length-joined x (g ∷ []) = by (group_has_room g)
    where
      by : (b : Bool) → length (cond b ((g ++ x ∷ []) ∷ []) (g ∷ (x ∷ []) ∷ []))
          ≡ 1 + cond (not b) 1 0
      by true = refl
      by false = refl
  length-joined x (g ∷ g' ∷ gs) = omega (arith, length-joined x (g' ∷ gs))

  length-tidied : (gs : List (List X)) → length (tidied gs) ≤ length gs
  length-tidied [] = omega arith
  length-tidied (g ∷ []) = omega arith
  length-tidied (g ∷ g' ∷ gs) = filter-shorter is_filled (g ∷ g' ∷ gs)

  pub length-left : (stays : X → Bool) (gs : List (List X)) → length (left stays gs) ≤ length gs
  length-left stays gs =
      omega (arith, length-tidied (map (filter stays) gs), length-map gs (filter stays))

-- the chunks that an acquisition takes, by what is found of the lock and the groups of its kind
abbrev pub chunks_opened : Option Instance → List (List ℕ) → ℕ
chunks_opened o gs = cond (is_some o) 0 (cond (opens gs) 1 0)

length-entered : (l : ℕ) (gs : List (List ℕ)) (o : Option Instance)
    → length (groups_entered l gs o) ≡ length gs + chunks_opened o gs
length-entered l gs None = length-joined l gs
length-entered l gs (Some i) = omega arith

length-withdrawn : (l : ℕ) (gs : List (List ℕ)) (o : Option Instance)
    → length (withdrawn l gs o) ≤ length gs
length-withdrawn l gs None = omega arith
length-withdrawn l gs (Some i) = go (nat_lt 0 i.count)
  where
    go : (b : Bool) → length (cond b gs (left (is_not l) gs)) ≤ length gs
    go true = omega arith
    go false = length-left (is_not l) gs

-- of the two parts of a seat, that of the lock's kind changes
both_entered : (b : Bool) (l : ℕ) (c d : List Instance) (gs hs : List (List ℕ))
    → length (cond (not b) (groups_entered l gs (find (is_of l) c)) gs)
    + length (cond b (groups_entered l hs (find (is_of l) d)) hs)
    ≡ length gs + length hs + chunks_opened (find (is_of l) (cond b d c)) (cond b hs gs)
both_entered true l c d gs hs = omega (arith, length-entered l hs (find (is_of l) d))
both_entered false l c d gs hs = omega (arith, length-entered l gs (find (is_of l) c))

both_withdrawn : (b : Bool) (l : ℕ) (c d : List Instance) (gs hs : List (List ℕ))
    → length (cond (not b) (withdrawn l gs (find (is_of l) c)) gs)
    + length (cond b (withdrawn l hs (find (is_of l) d)) hs) ≤ length gs + length hs
both_withdrawn true l c d gs hs = omega (arith, length-withdrawn l hs (find (is_of l) d))
both_withdrawn false l c d gs hs = omega (arith, length-withdrawn l gs (find (is_of l) c))

-- the chunks of the first n seats
abbrev pub chunks_to : ℕ → List Entry → ℕ
chunks_to n h = sum_by chunks_of (seats_of n h)

-- the chunks of a seat after an act
abbrev chunks_after : List NewLock → Act → Seat → ℕ
chunks_after ls a s =
    length (groups_after false ls a s.sleep s.sleep_groups)
    + length (groups_after true ls a s.spin s.spin_groups)

module _ (n : ℕ) (x : Entry) (h : List Entry) (sane : IsSane (x ∷ h)) (some : 0 < x.seat.0)
    (within : x.seat.0 ≤ n) where
  chunks-step : (a : Act) → act x.call x.reply ≡ a
      → chunks_to n (x ∷ h) + chunks_of (seat_of h x.seat.0)
      ≡ chunks_to n h + chunks_after (locks_of h) a (seat_of h x.seat.0)
  chunks-step a acts =
      sum-step chunks_of n x h sane some within
      ∙ ap (λ b. chunks_to n h + chunks_after (locks_of h) b (seat_of h x.seat.0)) acts

  -- an acquisition takes a chunk where its lock is new and opens a group
  pub chunks-recorded : (l : ℕ) → act x.call x.reply ≡ Records l
      → chunks_to n (x ∷ h) ≡ chunks_to n h
      + chunks_opened (find (is_of l) (chain (is_spin_lock (locks_of h) l) x.seat.0 h))
      (seat_groups (is_spin_lock (locks_of h) l) x.seat.0 h)
  chunks-recorded l acts =
      let e = chunks-step (Records l) acts in
      let f =
      both_entered (is_spin_lock (locks_of h) l) l (chain false x.seat.0 h)
      (chain true x.seat.0 h) (seat_groups false x.seat.0 h)
      (seat_groups true x.seat.0 h) in
      let g =
      ap₂ (λ c gs. chunks_opened (find (is_of l) c) gs)
      (one_chain (is_spin_lock (locks_of h) l) x.seat.0 h)
      (one_groups (is_spin_lock (locks_of h) l) x.seat.0 h) in
      omega (arith, e, f, g)

  -- a release takes none
  pub chunks-released : (l : ℕ) → act x.call x.reply ≡ Releases l
      → chunks_to n (x ∷ h) ≤ chunks_to n h
  chunks-released l acts =
      let e = chunks-step (Releases l) acts in
      let f =
      both_withdrawn (is_spin_lock (locks_of h) l) l (chain false x.seat.0 h)
      (chain true x.seat.0 h) (seat_groups false x.seat.0 h)
      (seat_groups true x.seat.0 h) in
      omega (arith, e, f)

nothing_records : (l : ℕ) → ◌≡◌ {A = Act} Nothing (Records l) → ⊥
nothing_records l e = (cc)

unlock_records : (k : LockNo) (m : Mode) (r : Reply) (l : ℕ) → act (Unlock k m) r ≡ Records l → ⊥
unlock_records k m Unlocked l e = (cc)
unlock_records k m r l e = nothing_records l e

-- an acquisition that is recorded was accepted as such
records-recorded : (s : State) (t : ℕ) (c : Call) (r : Reply) (l : ℕ) → step s t c ≡ Ok r
    → act c r ≡ Records l → recorded_reply s t l ≡ Recorded
records-recorded s t (Note k) Recorded l ok acts =
    subst (λ j. recorded_reply s t j ≡ Recorded) (let same : k.0 ≡ l = cc in same)
    (sym (note_accepted s t k.0 Recorded ok).reply)
records-recorded s t (NoteTry k m site) Recorded l ok acts =
    subst (λ j. recorded_reply s t j ≡ Recorded) (let same : k.0 ≡ l = cc in same)
    (sym (try_accepted s t k.0 m site Recorded ok).reply)
records-recorded s t (Unlock k m) r l ok acts = absurd (unlock_records k m r l acts)
records-recorded s t (Upgrade k) r l ok acts = absurd (plain-unrecorded (Upgrade k) r l refl acts)
records-recorded s t (Downgrade k) r l ok acts =
    absurd (plain-unrecorded (Downgrade k) r l refl acts)
records-recorded s t (NoRelease k) r l ok acts =
    absurd (plain-unrecorded (NoRelease k) r l refl acts)
records-recorded s t (ReleaseOk k) r l ok acts =
    absurd (plain-unrecorded (ReleaseOk k) r l refl acts)
records-recorded s t c r l ok acts = absurd (nothing_records l acts)

room_by : (held opens none : Bool) (chunks most : ℕ) → (held ≡ false → (opens && none) ≡ false)
    → (none ≡ false → chunks + 1 ≤ most) → chunks ≤ most
    → chunks + cond held 0 (cond opens 1 0) ≤ most
room_by true opens none chunks most found left le = omega (arith, le)
room_by false true none chunks most found left le = left (found refl)
room_by false false none chunks most found left le = omega (arith, le)

HasChunks : Start → List Entry → Type 0
HasChunks start h = chunks_to start.sizes.seats h ≤ start.sizes.chunks

module _ (start : Start) (files : List (List ℕ)) (h : List Entry) (x : Entry)
    (sane : IsSane (x ∷ h))
    (ok : answer_of (story_after start files h) x.seat.0 x.call ≡ Ok x.reply)
    (few : HasChunks start h) where
  known : is_seat (state_of (story_after start files h)) x.seat.0 ≡ true
  known = seat_accepted (state_of (story_after start files h)) x.seat.0 x.call x.reply ok

  new_few : (l : ℕ) → act x.call x.reply ≡ Records l → HasChunks start (x ∷ h)
  unfolding HasChunks
  new_few l acts =
      let s = state_of (story_after start files h) in
      let within = seat-within start files h x.seat.0 known in
      let e = chunks-recorded start.sizes.seats x h sane within.0 within.1 l acts in
      let f =
      ap₂ (λ c gs. chunks_opened (find (is_of l) c) gs)
      (chain_for-state start files h x.seat.0 l known)
      (groups_for-state start files h x.seat.0 l known) in
      let room =
      room_by (is_some (held_by s x.seat.0 l)) (opens (groups_for s x.seat.0 l))
      (eqb (free s) 0) (chunks_to start.sizes.seats h) start.sizes.chunks
      (recorded_room s x.seat.0 l (records-recorded s x.seat.0 x.call x.reply l ok acts))
      (λ more. let some = eqb-false (free s) 0 more in omega (arith, some, few)) few in
      omega (arith, e, f, room)

  chunks_by : (a : Act) → act x.call x.reply ≡ a → HasChunks start (x ∷ h)
  unfolding HasChunks
  chunks_by (Records l) acts = new_few l acts
  chunks_by (Releases l) acts =
      let within = seat-within start files h x.seat.0 known in
      omega (arith, few, chunks-released start.sizes.seats x h sane within.0 within.1 l acts)
  chunks_by a acts = let within = seat-within start files h x.seat.0 known in
      omega (arith, few, chunks-step start.sizes.seats x h sane within.0 within.1 a acts)

no_groups : (t : ℕ) → chunks_of (seat_of [] t) ≡ 0
no_groups t =
    ap₂ (λ gs hs. length gs + length hs) (seat_groups-nil false t) (seat_groups-nil true t)

no_chunks : (a n : ℕ) → sum_by chunks_of (map (seat_of []) (range_with_len a n)) ≡ 0
no_chunks a zero = refl
no_chunks a (suc n) =
    let e = sum_by-cons chunks_of (seat_of [] a) (map (seat_of []) (range_with_len (a + 1) n)) in
    omega (arith, e, no_groups a, no_chunks (a + 1) n)

-- the seats never have more chunks than there are
pub chunks_legal : (start : Start) (files : List (List ℕ)) (h : List Entry) → IsLegal start files h
    → chunks_to start.sizes.seats h ≤ start.sizes.chunks
unfolding HasChunks
chunks_legal start files [] legal = omega (arith, no_chunks 1 start.sizes.seats)
chunks_legal start files (x ∷ h) legal =
    chunks_by start files h x (sane_legal start files (x ∷ h) legal) legal.0
    (chunks_legal start files h legal.2) (act x.call x.reply) refl

-- the free chunks and those of all seats are all chunks
pub chunks_whole : (s : Story) → IsLegal s.start s.files s.history
    → free (state_of s) + sum_by chunks_of (state_of s).seats ≡ s.start.sizes.chunks
chunks_whole s legal = let few = chunks_legal s.start s.files s.history legal in omega (arith, few)
