-- The next deed of a thread of a settled run can be done again beside a world of the same deeds: it is
-- answered as it was, as its thread sees it.
use Rattle.std.proofs.Common.{◌≡◌, ℕ, ◌+◌, ◌<◌, ◌≤◌, Bool, true, false, eqb, List, []}
use Rattle.std.proofs.Common.{◌∷◌, ◌++◌, is_some, Ok, refl, ap, ap₂, sym, ◌∙◌}
use Rattle.std.proofs.Common.{subst, arith, append_assoc}
use Rattle.std.specs.List.{list_all}
use Rattle.std.proofs.lemmas.Bool.{and_left, false≢true}
use Rattle.std.proofs.lemmas.Bool.{and_right}
use Rattle.std.proofs.lemmas.List.FromFn.{length-map-range_with_len}
use Rattle.wit_model.specs.declared.locks.Watch.TheVariants.{On}
use Rattle.wit_model.specs.declared.calls.Call.{Call}
use Rattle.wit_model.specs.declared.calls.Reply.TheVariants.{Ignored}
use Rattle.wit_model.specs.declared.calls.Entry.{Entry}
use Rattle.wit_model.specs.Rules.Numbers.{is_number}
use Rattle.wit_model.specs.Rules.Groups.{opens}
use Rattle.wit_model.specs.Rules.History.{Records, Nothing, act, watch_of, is_off}
use Rattle.wit_model.specs.Rules.History.{Act}
use Rattle.wit_model.specs.Rules.State.{Start, State, state_of, seat_of, is_seat}
use Rattle.wit_model.specs.Rules.State.{has_room, free}
use Rattle.wit_model.specs.Rules.State.{chunks_of, owed_by, types_of, typed_locks, groups_in, Seat}
use Rattle.wit_model.specs.Rules.Verdict.{is_exclusive}
use Rattle.wit_model.specs.Rules.Step.{held_by, groups_for, is_exhausted, story_after, IsLegal}
use Rattle.wit_model.specs.World.Deeds.{Deed, Logged, PassedOver, Take, TryTake, Free, RawUp}
use Rattle.wit_model.specs.World.Deeds.{RawDown, thread_of, own, log_of}
use Rattle.wit_model.specs.World.Steps.{CanDo, IsWorld}
use Rattle.wit_model.specs.World.Reordering.{kept}
use Rattle.wit_model.proofs.Histories.Legal.{seat-within, seat_at-state, sane_legal, seat_accepted}
use Rattle.wit_model.proofs.World.Calling.{passed-ignored}
use Rattle.wit_model.proofs.World.Covering.{legal_world}
use Rattle.wit_errands.specs.Settled.{IsSettled, is_calm, most, chunks_at, entries_at}
use Rattle.wit_errands.specs.Settled.{is_free}
use Rattle.wit_errands.proofs.Answers.{AreAlike, room_of, answered}
use Rattle.wit_errands.proofs.Calm.{calm-parts, calm-more, calm-tail, types-calm, locks-calm}
use Rattle.wit_errands.proofs.Calm.{destroyed-calm, watch-calm}
use Rattle.wit_errands.proofs.Calm.{CalmParts}
use Rattle.wit_errands.proofs.Looks.{Alike, alike-whole, follow-alike, shares-alike}
use Rattle.wit_errands.proofs.Looks.{mode-alike, entries-alike, log-append}
use Rattle.wit_errands.proofs.Moments.{IsAt}
use Rattle.wit_errands.proofs.Passed.{passed-calm}
use Rattle.wit_errands.proofs.Roomy.{needed, chunk-taken, has-room, has-chunk}
use Rattle.wit_errands.proofs.Seats.{seat-alike}
use Rattle.wit_errands.proofs.Sums.{most-at}
use Rattle.wit_model.specs.declared.calls.Call.TheVariants.{Note, NoteTry, Unlock, Upgrade, Downgrade, NoRelease, ReleaseOk}
use Rattle.wit_model.specs.Rules.Locks.{lock_at, destroyed_of}
use Rattle.wit_model.specs.declared.locks.Lock.{Lock}
use Rattle.wit_model.specs.Rules.Types.{is_spin}

-- ---- a call that is passed over records nothing

nothing-records : (l : ℕ) → ◌≡◌ {A = Act} Nothing (Records l) → ⊥
nothing-records l e = (cc)

passed-unrecorded : (c : Call) (l : ℕ) → act c Ignored ≡ Records l → ⊥
passed-unrecorded (Note k) l is = nothing-records l is
passed-unrecorded (NoteTry k m site) l is = nothing-records l is
passed-unrecorded (Unlock k m) l is = nothing-records l is
passed-unrecorded (Upgrade k) l is = nothing-records l is
passed-unrecorded (Downgrade k) l is = nothing-records l is
passed-unrecorded (NoRelease k) l is = nothing-records l is
passed-unrecorded (ReleaseOk k) l is = nothing-records l is
passed-unrecorded c l is = nothing-records l is

pub earlier : (start : Start) (files : List (List ℕ)) (later w : List Deed)
    → IsWorld start files (later ++ w) → IsWorld start files w
earlier start files [] w world = world
earlier start files (d ∷ later) w world = earlier start files later w world.1

module _ (start : Start) (files : List (List ℕ)) (first deeds : List Deed)
    (settled : IsSettled start files first deeds) where
  abbrev run : List Entry
  run = log_of (deeds ++ first)

  abbrev state : List Deed → State
  state w = state_of (story_after start files (log_of (w ++ first)))

  -- ---- the moments of the run

  module _ (later now : List Deed) (whole : deeds ≡ later ++ now) where
    split : deeds ++ first ≡ later ++ (now ++ first)
    split = ap (λ x. x ++ first) whole ∙ append_assoc later now first

    pub world-at : IsWorld start files (now ++ first)
    world-at =
        earlier start files later (now ++ first)
        (subst (λ x. IsWorld start files x) split settled.world)

    log-at : run ≡ log_of later ++ log_of (now ++ first)
    log-at = ap (λ x. log_of x) split ∙ log-append later (now ++ first)

    calm-at : list_all is_calm (log_of now) ≡ true
    calm-at =
        calm-tail (log_of later) (log_of now)
        (subst (λ x. list_all is_calm x ≡ true)
        (ap (λ x. log_of x) whole ∙ log-append later now) settled.calm)

    below : (f : List Entry → ℕ) → f (log_of (now ++ first)) ≤ most f run
    below f =
        let same = ap (λ x. most f x) log-at in
        omega (arith, same, most-at f (log_of later) (log_of (now ++ first)))

  watched-after : (w : List Deed) → list_all is_calm (log_of w) ≡ true
      → watch_of (log_of (w ++ first)) ≡ On
  watched-after w calm =
      ap (λ x. watch_of x) (log-append w first)
      ∙ watch-calm (log_of first) (log_of w) calm settled.watched

  -- ---- beside a world of the same deeds

  module _ (v : List Deed) (world : IsWorld start files (v ++ first))
      (calm : list_all is_calm (log_of v) ≡ true)
      (moments : (i : ℕ) → IsAt i (own i v) deeds) where
    abbrev then : List Entry
    then = log_of (v ++ first)

    legal : IsLegal start files then
    legal = legal_world start files (v ++ first) world

    module _ (i : ℕ) (later now : List Deed) (whole : deeds ≡ later ++ now)
        (same : Alike i v now) where
      seat-same : seat_of then i ≡ seat_of (log_of (now ++ first)) i
      seat-same =
          seat-alike i first v now (sane_legal start files then legal)
          (sane_legal start files (log_of (now ++ first))
          (legal_world start files (now ++ first) (world-at later now whole))) calm
          (calm-at later now whole) same

      chunks-same : chunks_at i then ≡ chunks_at i (log_of (now ++ first))
      chunks-same = ap (λ s. chunks_of s) seat-same

      entries-same : entries_at i then ≡ entries_at i (log_of (now ++ first))
      entries-same =
          ap₂ (λ a s. a + owed_by s)
          (entries-alike i (v ++ first) (now ++ first) (alike-whole i v now first same)) seat-same

      states-alike : is_seat (state now) i ≡ true → AreAlike (state now) (state v) i
      states-alike known =
          let n = start.sizes.seats in
          let seats =
          ap (λ k. is_number k i) (length-map-range_with_len (seat_of then) 1 n
          ∙ sym (length-map-range_with_len (seat_of (log_of (now ++ first))) 1 n)) in
          let past = log_of first in
          let calm' = calm-at later now whole in
          record {
            known = seats;
            seat =
                seat_at-state start files then i (seats ∙ known)
                ∙ (seat-same ∙ sym (seat_at-state start files (log_of (now ++ first)) i known));
            types =
                ap (λ h. types_of start h) (log-append v first)
                ∙ (types-calm past start (log_of v) calm
                ∙ sym (ap (λ h. types_of start h) (log-append now first)
                ∙ types-calm past start (log_of now) calm'));
            locks =
                ap (λ h. typed_locks start h) (log-append v first)
                ∙ (locks-calm past start (log_of v) calm
                ∙ sym (ap (λ h. typed_locks start h) (log-append now first)
                ∙ locks-calm past start (log_of now) calm'));
            blessed = refl;
            destroyed =
                ap (λ h. destroyed_of h) (log-append v first)
                ∙ (destroyed-calm past (log_of v) calm
                ∙ sym (ap (λ h. destroyed_of h) (log-append now first)
                ∙ destroyed-calm past (log_of now) calm'));
            files = refl;
            profile = refl;
            watch = watched-after v calm ∙ sym (watched-after now calm');
          }

    chunks-below : (i : ℕ) → chunks_at i then ≤ most (chunks_at i) run
    chunks-below i =
        let m = moments i in
        omega (
          arith,
          chunks-same i m.later m.now m.whole (sym m.same),
          below m.later m.now m.whole (chunks_at i),
        )

    entries-below : (i : ℕ) → entries_at i then ≤ most (entries_at i) run
    entries-below i =
        let m = moments i in
        omega (
          arith,
          entries-same i m.later m.now m.whole (sym m.same),
          below m.later m.now m.whole (entries_at i),
        )

    -- ---- a call again

    -- what a deed looks like that can be done now
    pub record Redone (x : Deed) : Type 0 where
      pub deed : Deed
      pub looks : kept deed ≡ kept x
      pub can : CanDo start files deed (v ++ first)
      pub calm' : list_all is_calm (log_of (deed ∷ v)) ≡ true

    module _ (e : Entry) (later now : List Deed) (whole : deeds ≡ later ++ Logged e ∷ now)
        (same : Alike e.seat.0 v now) where
      before : deeds ≡ (later ++ Logged e ∷ []) ++ now
      before = whole ∙ sym (append_assoc later (Logged e ∷ []) now)

      done : IsWorld start files (Logged e ∷ (now ++ first))
      done = world-at later (Logged e ∷ now) whole

      legal-then : IsLegal start files (e ∷ log_of (now ++ first))
      legal-then = legal_world start files (Logged e ∷ (now ++ first)) done

      known : is_seat (state now) e.seat.0 ≡ true
      known = seat_accepted (state now) e.seat.0 e.call e.reply legal-then.0

      within : (0 < e.seat.0) × (e.seat.0 ≤ start.sizes.seats)
      within = seat-within start files (log_of (now ++ first)) e.seat.0 known

      alike : AreAlike (state now) (state v) e.seat.0
      alike = states-alike e.seat.0 (later ++ Logged e ∷ []) now before same known

      call-calm : CalmParts e (log_of now)
      call-calm = calm-parts e (log_of now) (calm-at later (Logged e ∷ now) whole)

      room : has_room (state v) (room_of e.call) ≡ true
      room =
          let t = e.seat.0 in
          let h = log_of (now ++ first) in
          let top = most (entries_at t) run in
          let need =
          needed start files h t
          (watched-after now (calm-at (later ++ Logged e ∷ []) now before)) e.call e.reply
          legal-then call-calm.call call-calm.plain top
          (below (later ++ Logged e ∷ []) now before (entries_at t))
          (below later (Logged e ∷ now) whole (entries_at t)) in
          let even = entries-same t (later ++ Logged e ∷ []) now before same in
          has-room start files then (λ i. most (entries_at i) run) t within.0 within.1 legal
          entries-below (room_of e.call) (omega (arith, need, even)) settled.log

      groups-same : (l : ℕ) → groups_for (state v) e.seat.0 l ≡ groups_for (state now) e.seat.0 l
      groups-same l =
          ap₂ (λ (ls : List Lock) (x : Seat). groups_in (is_spin (lock_at ls l).made.class) x)
          alike.locks alike.seat

      chunk : (l : ℕ) → act e.call e.reply ≡ Records l
          → is_some (held_by (state now) e.seat.0 l) ≡ false
          → is_exhausted (state v) e.seat.0 l ≡ false
      chunk l acts new = go (opens (groups_for (state now) e.seat.0 l)) refl
        where
          go : (b : Bool) → opens (groups_for (state now) e.seat.0 l) ≡ b
              → is_exhausted (state v) e.seat.0 l ≡ false
          go false is =
              and_left (opens (groups_for (state v) e.seat.0 l)) (eqb (free (state v)) 0)
              (ap (λ gs. opens gs) (groups-same l) ∙ is)
          go true is =
              let t = e.seat.0 in
              let taken =
              chunk-taken start files (log_of (now ++ first)) t e.call e.reply legal-then l acts new
              is in
              let even = chunks-same t (later ++ Logged e ∷ []) now before same in
              let most_then = below later (Logged e ∷ now) whole (chunks_at t) in
              and_right (opens (groups_for (state v) e.seat.0 l)) (eqb (free (state v)) 0)
              (has-chunk start files then (λ i. most (chunks_at i) run) t within.0 within.1
              chunks-below (omega (arith, taken, even, most_then)) settled.chunks)

      redo-call : Redone (Logged e)
      redo-call =
          let again =
          answered (state now) (state v) e.seat.0 alike e.call e.reply call-calm.call
          call-calm.plain legal-then.0 (λ logged. room) chunk in
          record {
            deed = Logged (record { seat = e.seat; call = e.call; reply = again.reply });
            looks =
                ap (λ r. Logged (record { seat = e.seat; call = e.call; reply = r })) again.same;
            can = (
              follow-alike (Logged e) (v ++ first) (now ++ first)
                  (alike-whole e.seat.0 v now first same) ∙ done.0.0,
              (again.answer, again.logged ∙ legal-then.1),
            );
            calm' =
                calm-more (record { seat = e.seat; call = e.call; reply = again.reply })
                (log_of v) call-calm.call again.plain calm;
          }

    redo-passed : (u : ℕ) (c : Call) (later now : List Deed)
        → deeds ≡ later ++ PassedOver u c ∷ now → Alike u v now → Redone (PassedOver u c)
    redo-passed u c later now whole same =
        let before = whole ∙ sym (append_assoc later (PassedOver u c ∷ []) now) in
        let done = world-at later (PassedOver u c ∷ now) whole in
        let on =
        ap (λ w. is_off w) (watched-after now (calm-at (later ++ PassedOver u c ∷ []) now before)) in
        let known = seat_accepted (state now) u c Ignored done.0.1 in
        let alike = states-alike u (later ++ PassedOver u c ∷ []) now before same known in
        let again =
        answered (state now) (state v) u alike c Ignored (passed-calm (state now) u c on done.0.1)
        refl done.0.1 (λ logged. absurd (false≢true logged))
        (λ l acts new. absurd (passed-unrecorded c l acts)) in
        record {
          deed = PassedOver u c;
          looks = refl;
          can = (
            follow-alike (PassedOver u c) (v ++ first) (now ++ first)
                (alike-whole u v now first same) ∙ done.0.0,
            again.answer ∙ ap Ok (passed-ignored again.reply again.logged),
          );
          calm' = calm;
        }

    -- ---- any deed again

    pub redo : (x : Deed) (later now : List Deed) → deeds ≡ later ++ x ∷ now
        → Alike (thread_of x) v now → is_free start.sizes.seats x (v ++ first) ≡ true → Redone x
    redo (Logged e) later now whole same free = redo-call e later now whole same
    redo (PassedOver u c) later now whole same free = redo-passed u c later now whole same
    redo (Take u l mode) later now whole same free =
        let done = world-at later (Take u l mode ∷ now) whole in
        let all = alike-whole u v now first same in
        record {
          deed = Take u l mode;
          looks = refl;
          can = (
            follow-alike (Take u l mode) (v ++ first) (now ++ first) all ∙ done.0.0,
            (done.0.1.0, free),
          );
          calm' = calm;
        }
    redo (TryTake u l mode) later now whole same free =
        let done = world-at later (TryTake u l mode ∷ now) whole in
        let all = alike-whole u v now first same in
        record {
          deed = TryTake u l mode;
          looks = refl;
          can = (
            follow-alike (TryTake u l mode) (v ++ first) (now ++ first) all ∙ done.0.0,
            (done.0.1.0, free),
          );
          calm' = calm;
        }
    redo (Free u l) later now whole same free =
        let done = world-at later (Free u l ∷ now) whole in
        let all = alike-whole u v now first same in
        record {
          deed = Free u l;
          looks = refl;
          can = (
            follow-alike (Free u l) (v ++ first) (now ++ first) all ∙ done.0.0,
            subst (λ n. 0 < n) (sym (shares-alike u l (v ++ first) (now ++ first) all)) done.0.1,
          );
          calm' = calm;
        }
    redo (RawUp u l) later now whole same free =
        let done = world-at later (RawUp u l ∷ now) whole in
        let all = alike-whole u v now first same in
        record {
          deed = RawUp u l;
          looks = refl;
          can = (
            follow-alike (RawUp u l) (v ++ first) (now ++ first) all ∙ done.0.0,
            (
              free,
              ap is_exclusive (mode-alike u l (v ++ first) (now ++ first) all) ∙ done.0.1.1,
            ),
          );
          calm' = calm;
        }
    redo (RawDown u l) later now whole same free =
        let done = world-at later (RawDown u l ∷ now) whole in
        let all = alike-whole u v now first same in
        record {
          deed = RawDown u l;
          looks = refl;
          can = (
            follow-alike (RawDown u l) (v ++ first) (now ++ first) all ∙ done.0.0,
            (
              subst (λ n. 0 < n) (sym (shares-alike u l (v ++ first) (now ++ first) all))
                  done.0.1.0,
              ap is_exclusive (mode-alike u l (v ++ first) (now ++ first) all) ∙ done.0.1.1,
            ),
          );
          calm' = calm;
        }
