-- A lock that is made.
use Rattle.std.proofs.Common.{◌≡◌, ℕ, ◌+◌, ◌<◌, ◌&&◌, true, false, List, [], ◌∷◌, ◌++◌, Option}
use Rattle.std.proofs.Common.{None, Some, Ok, IsOk, length, unwrap_or, refl, sym, ap, ◌∙◌, subst}
use Rattle.std.proofs.Common.{arith, length-append}
use Rattle.std.proofs.lemmas.Bool.{and_parts, leb-false}
use Rattle.wit_model.specs.declared.locks.LockNo.{LockNo}
use Rattle.wit_model.specs.declared.calls.NewLock.{NewLock}
use Rattle.wit_model.specs.declared.calls.Call.TheVariants.{Init}
use Rattle.wit_model.specs.declared.calls.Reply.TheVariants.{Made}
use Rattle.wit_model.specs.Rules.Names.{is_name}
use Rattle.wit_model.specs.Rules.Types.{type_name_of}
use Rattle.wit_model.specs.Rules.Locks.{destroyed_of, is_destroyed, made_among}
use Rattle.wit_model.specs.Rules.State.{Story, State, Known, types_of, typed_locks, state_of}
use Rattle.wit_model.specs.Rules.Step.{answer_of, is_good_name}
use Rattle.wit_model.proofs.Chains.Owed.{owed-init}
use Rattle.wit_model.proofs.Histories.AcceptedLocks.{init_accepted}
use Rattle.wit_table.specs.Known.{enroll_answer}
use Rattle.wit_core.specs.declared.verifier.Verifier.TheInside.{Inside}
use Rattle.wit_core.specs.Journal.{Journal}
use Rattle.wit_core.specs.Kept.{start_in, history_in, story_in, known_in}
use Rattle.wit_known.specs.Known.{with_lock, IsAdmitted}
use Rattle.wit_core.proofs.Keeping.{Leaves}
use Rattle.wit_core.proofs.Seen.{IsSeenAs}
use Rattle.wit_core.proofs.Steps.{seats-same}
use Rattle.wit_known.proofs.LiveFlags.{flags-made}
use Rattle.wit_model.proofs.Histories.Live.{next-undestroyed}
use Rattle.wit_core.proofs.Entries.Accepting.{accepted, known-now, left-by, owed_now, room_left}
use Rattle.wit_core.proofs.Entries.Accepting.{sane_next, seats-now, watch-now, within}

-- the type name of a lock with good names is a name
type-named : (lock : NewLock) → (is_name lock.name && is_good_name lock.type_name) ≡ true
    → is_name (type_name_of lock) ≡ true
type-named lock good =
    go lock.type_name (and_parts (is_name lock.name) (is_good_name lock.type_name) good)
  where
    go : (o : Option (List ℕ)) → (is_name lock.name ≡ true) × (is_good_name o ≡ true)
        → is_name (unwrap_or o lock.name) ≡ true
    go None parts = parts.0
    go (Some name) parts = parts.1

module _ {v : Inside} {s : Story} (this : IsSeenAs v s) where
  -- the next lock to be made isn't destroyed
  next-fresh : is_destroyed (destroyed_of (history_in v)) (length v.known.known.locks + 1) ≡ false
  next-fresh =
      ap (λ (x : Known). is_destroyed (destroyed_of (history_in v)) (length x.locks + 1))
      (known-now this)
      ∙ next-undestroyed (start_in v) v.known.files (history_in v) this.tied.legal

  pub init_room : (t : ℕ) (lock : NewLock) (number : LockNo) (log : Journal)
      → answer_of s t (Init lock) ≡ Ok (Made number) → log ≡ record v.log { spare = log.spare }
      → length log.history + log.owed + 0 < log.limit
  init_room t lock number log ok same =
      room_left this 0 log (init_accepted (state_of (story_in v)) t lock (Made number)
      (accepted this t (Init lock) (Made number) ok)).room same

  -- there are fewer locks than there may be
  pub init_few : (t : ℕ) (lock : NewLock) (number : LockNo)
      → answer_of s t (Init lock) ≡ Ok (Made number) → length v.known.known.locks < v.limits.locks
  init_few t lock number ok =
      let at =
      init_accepted (state_of (story_in v)) t lock (Made number)
      (accepted this t (Init lock) (Made number) ok) in
      let few =
      leb-false v.limits.locks (length (typed_locks (start_in v) (history_in v))) at.locks in
      let same = ap (λ (x : Known). length x.locks) (known-now this) in
      omega (arith, few, same)

  -- what an init needs: a type that is known or can be enrolled
  pub admitted : (t : ℕ) (lock : NewLock) (number : LockNo)
      → answer_of s t (Init lock) ≡ Ok (Made number) → IsAdmitted v.known lock
  admitted t lock number ok =
      let at =
      init_accepted (state_of (story_in v)) t lock (Made number)
      (accepted this t (Init lock) (Made number) ok) in
      let types : v.known.known.types ≡ types_of (start_in v) (history_in v) =
      ap (λ (x : State). x.known.types) this.tied.state in
      subst (λ n. IsOk (enroll_answer (type_name_of lock) lock.class n v.known.known.types))
      (sym this.tied.types)
      (subst (λ ts. IsOk (enroll_answer (type_name_of lock) lock.class v.limits.types ts))
      (sym types)
      (rw (type-named lock at.names, at.class, at.types) refl))

  pub leaves_init : (t : ℕ) (lock : NewLock) (number : LockNo)
      → answer_of s t (Init lock) ≡ Ok (Made number)
      → Leaves v t (Init lock) (Made number) (with_lock (known_in v) lock)
      (v.known.live ++ true ∷ []) v.seats v.watch (v.log.owed + 0)
  leaves_init t lock number ok =
      let sane = sane_next this t (Init lock) (Made number) ok in
      let in_row = within this t (Init lock) (Made number) ok in
      let same =
      owed-init v.limits.seats t lock (Made number) (history_in v) sane in_row.0 in_row.1 in
      left-by this t (Init lock) (Made number) _ _ _ _ _
      (ap (λ (x : Known). with_lock x lock) (known-now this))
      (ap (λ bs. bs ++ true ∷ []) this.tied.live
      ∙ sym (flags-made (length v.known.known.locks)
      (v.known.known.locks ++ made_among v.known.known.types (Init lock))
      (destroyed_of (history_in v))
      (length-append v.known.known.locks (made_among v.known.known.types (Init lock))) next-fresh))
      (seats-same (start_in v) v.known.files (history_in v) v.seats
      (seats-now this) t in_row.0 in_row.1 (Init lock) (Made number) sane refl refl)
      (watch-now this) (omega (arith, same, owed_now this)) refl
