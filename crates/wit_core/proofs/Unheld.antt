-- A request that passes may tell that its seat doesn't hold the lock.
use Rattle.std.proofs.Common.{◌≡◌, ◌≢◌, ℕ, Bool, true, false, not, ◌&&◌, cond, List, [], ◌∷◌}
use Rattle.std.proofs.Common.{Option}
use Rattle.std.proofs.Common.{None, Some, IfSome, Ok, Err, is_none, find, refl, sym, ap, ◌∙◌, subst}
use Rattle.std.specs.List.{last_or}
use Rattle.std.specs.Option.{option_map}
use Rattle.std.proofs.lemmas.Bool.{and_parts, not-true}
use Rattle.wit_model.specs.declared.profiles.Profile.{Profile}
use Rattle.wit_model.specs.declared.faults.Fault.TheVariants.{SharedOfExclusive, ExclusiveOfShared}
use Rattle.wit_model.specs.declared.faults.Fault.TheVariants.{Recursed, SleepUnderSpin}
use Rattle.wit_model.specs.declared.locks.Instance.{Instance}
use Rattle.wit_model.specs.declared.locks.Watch.{Watch}
use Rattle.wit_model.specs.declared.calls.Call.TheVariants.{Check}
use Rattle.wit_model.specs.declared.calls.Reply.TheVariants.{Pass}
use Rattle.wit_model.specs.declared.calls.Request.{Request}
use Rattle.wit_model.specs.declared.calls.TypedRequest.{TypedRequest}
use Rattle.wit_model.specs.Rules.History.{is_on}
use Rattle.wit_model.specs.Rules.Locks.{has_flag, lock_at}
use Rattle.wit_model.specs.Rules.Numbers.{is_given}
use Rattle.wit_model.specs.Rules.State.{Story, State, state_of, seat_at, chain_in}
use Rattle.wit_model.specs.Rules.Step.{answer_of}
use Rattle.wit_model.specs.Rules.Types.{is_spin, class_of}
use Rattle.wit_model.specs.Rules.Verdict.{Basis, Rule, is_of, is_exclusive, again, when, decided}
use Rattle.wit_model.specs.Rules.Verdict.{sleeps_under_spin, holds_nothing, holds_it, compared}
use Rattle.wit_model.specs.Rules.Verdict.{doubles, follows, breaks_order, teaches, chain_asked}
use Rattle.wit_model.specs.Rules.Verdict.{basis_of, typed_request}
use Rattle.wit_model.proofs.Histories.Accepted.{check_accepted}
use Rattle.wit_model.proofs.Orders.TypedLocks.{spin_at}
use Rattle.wit_model.proofs.VerdictLaws.Classes.{type-kind}
use Rattle.wit_core.specs.declared.verifier.Verifier.TheInside.{Inside}
use Rattle.wit_core.specs.Kept.{start_in, history_in}
use Rattle.wit_waiting.specs.Seats.{seat_in, locks_in}
use Rattle.wit_core.specs.Verdict.{tells_new}
use Rattle.wit_core.proofs.Now.{locks-told}
use Rattle.wit_core.proofs.Seen.{IsSeenAs}

-- no lock that is held passes where it is asked for exclusively and isn't recursable
refuses : (q : TypedRequest) (i : Instance) → is_exclusive q.mode ≡ true
    → has_flag q.flags.0 0x01 ≡ false → again q i ≢ Ok Pass
refuses q i = go (is_exclusive i.mode) (is_exclusive q.mode) (has_flag q.ops.0 0x04)
    (has_flag q.flags.0 0x01)
  where
    go : (held asked fresh recursable : Bool) → asked ≡ true → recursable ≡ false
        → cond (held && not asked) (Err SharedOfExclusive)
        (cond (not held && asked) (Err ExclusiveOfShared) (cond fresh (Err Recursed)
        (cond (held && not recursable) (Err Recursed) (Ok Pass)))) ≢ Ok Pass
    go true true true false one two told = (cc)
    go true true false false one two told = (cc)
    go false true fresh recursable one two told = (cc)
    go held false fresh recursable one two told = (cc)
    go true true fresh true one two told = (cc)

unheld : (q : TypedRequest) (rules : List Rule) → is_exclusive q.mode ≡ true
    → has_flag q.flags.0 0x01 ≡ false → (o : Option Instance)
    → decided (option_map (again q) o ∷ rules) ≡ Ok Pass → o ≡ None
unheld q rules exclusive plain None told = refl
unheld q rules exclusive plain (Some i) told = absurd (refuses q i exclusive plain told)

-- a chain that has a lock has a last one
last-there : (i : Instance) (c : List Instance) → is_none (last_or (Some i) c) ≡ false
last-there i [] = refl
last-there i (j ∷ c) = last-there j c

module _ (profile : Profile) (g : Basis) (watch : Watch) (spin : List Instance) (q : TypedRequest)
    (exclusive : is_exclusive q.mode ≡ true) (plain : has_flag q.flags.0 0x01 ≡ false)
    (later : List Instance → List Rule) where
  among : (c : List Instance) (none : Bool) → is_none (last_or None c) ≡ none
      → decided (when none (Ok Pass) ∷ holds_it c q ∷ later c) ≡ Ok Pass
      → find (is_of q.lock.0) c ≡ None
  among [] none is told = refl
  among (i ∷ c) true is told = absurd (let never = last-there i c in cc)
  among (i ∷ c) false is told =
      unheld q (later (i ∷ c)) exclusive plain (find (is_of q.lock.0) (i ∷ c)) told

  awake : (c : List Instance) (sleeps : Bool)
      → decided (when sleeps (Err SleepUnderSpin) ∷ holds_nothing (last_or None c)
      ∷ holds_it c q ∷ later c) ≡ Ok Pass → find (is_of q.lock.0) c ≡ None
  awake c true told = (cc)
  awake c false told = among c (is_none (last_or None c)) refl told

  watched : (c : List Instance) (on : Bool) → on ≡ true
      → decided (when (not on) (Ok Pass) ∷ sleeps_under_spin g spin q
      ∷ holds_nothing (last_or None c) ∷ holds_it c q ∷ later c) ≡ Ok Pass
      → find (is_of q.lock.0) c ≡ None
  watched c true is told = awake c _ told
  watched c false is told = (cc)

module _ {v : Inside} {s : Story} (this : IsSeenAs v s) (t : ℕ) (q : Request)
    (ok : answer_of s t (Check q) ≡ Ok Pass) (new : tells_new (state_of s) q ≡ true) where
  abbrev at : State
  at = state_of s

  abbrev g : Basis
  g = basis_of at.known

  abbrev asked : TypedRequest
  asked = typed_request at.known q

  parts : ((is_on at.watch ≡ true) × (is_exclusive q.mode ≡ true))
      × (has_flag asked.flags.0 0x01 ≡ false)
  parts =
      let a = and_parts (is_on at.watch && is_exclusive q.mode)
      (not (has_flag asked.flags.0 0x01)) new in (
        and_parts (is_on at.watch) (is_exclusive q.mode) a.0,
        not-true (has_flag asked.flags.0 0x01) a.1,
      )

  among-asked : find (is_of q.lock.0)
      (chain_asked g (seat_at at t).sleep (seat_at at t).spin asked) ≡ None
  among-asked =
      watched at.profile g at.watch (seat_at at t).spin asked parts.0.1 parts.1
      (λ c. doubles g (compared at.profile c) asked ∷ follows g (compared at.profile c) asked
      ∷ breaks_order g c asked ∷ teaches at.profile g (compared at.profile c) asked ∷ [])
      (chain_asked g (seat_at at t).sleep (seat_at at t).spin asked) (is_on at.watch) parts.0.0
      (check_accepted at t q Pass ok).verdict

  -- the kind of a lock is its type's
  kinds : is_spin (class_of asked.type_no.0 at.known.types)
      ≡ is_spin (lock_at at.known.locks q.lock.0).made.class
  kinds =
      subst (λ (x : Story). is_spin (class_of (lock_at (state_of x).known.locks q.lock.0).type_no.0
      (state_of x).known.types) ≡ is_spin (lock_at (state_of x).known.locks q.lock.0).made.class)
      this.seen
      (type-kind (start_in v) v.known.files (history_in v) q.lock.0 this.tied.legal
      (subst (λ (x : Story). is_given (state_of x).known.locks q.lock.0 ≡ true) (sym this.seen)
      (check_accepted at t q Pass ok).lock)
      ∙ sym (spin_at (start_in v) (history_in v) q.lock.0))

  of-kind : (spin : Bool) → cond spin (seat_at at t).spin (seat_at at t).sleep
      ≡ chain_in spin (seat_at at t)
  of-kind true = refl
  of-kind false = refl

  unheld-now : (spin : Bool) → spin ≡ is_spin (lock_at at.known.locks q.lock.0).made.class
      → find (is_of q.lock.0) (locks_in spin (seat_in v.seats t)) ≡ None
  unheld-now spin kind =
      ap (find (is_of q.lock.0)) (locks-told this t spin ∙ sym (of-kind spin)
      ∙ ap (λ b. cond b (seat_at at t).spin (seat_at at t).sleep) (kind ∙ sym kinds))
      ∙ among-asked

-- where the verifier tells so
pub new-in : {v : Inside} {s : Story} → IsSeenAs v s → (t : ℕ) (q : Request)
    → answer_of s t (Check q) ≡ Ok Pass → (o : Option Bool)
    → IfSome o (λ spin. (tells_new (state_of s) q ≡ true)
    × (spin ≡ is_spin (lock_at (state_of s).known.locks q.lock.0).made.class))
    → IfSome o (λ spin. find (is_of q.lock.0) (locks_in spin (seat_in v.seats t)) ≡ None)
new-in this t q ok None h = tt
new-in this t q ok (Some spin) h = unheld-now this t q ok h.0 spin h.1
