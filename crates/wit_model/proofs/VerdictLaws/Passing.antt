-- A request that passed where all rules were to be met has a direct order behind the last held
-- lock, and by it passes from then on.
use Rattle.std.proofs.Common.{◌≡◌, ℕ, Bool, true, false, ◌&&◌, ◌||◌, eqb, List, [], ◌∷◌, ◌++◌}
use Rattle.std.proofs.Common.{Option, None, Some, find, refl, ap, ap₂, sym, ◌∙◌, subst, ⊎_elim}
use Rattle.std.specs.List.{last_or}
use Rattle.std.proofs.lemmas.Bool.{true≢false, or_left, or_right, and_from, eq-eqb, eqb-true}
use Rattle.std.proofs.lemmas.List.Folds.{list_any-append}
use Rattle.wit_model.specs.declared.profiles.Profile.TheVariants.{Plain}
use Rattle.wit_model.specs.declared.locks.Class.{Class}
use Rattle.wit_model.specs.declared.locks.Class.TheVariants.{Sx}
use Rattle.wit_model.specs.declared.locks.TypeNo.{TypeNo}
use Rattle.wit_model.specs.declared.locks.Instance.{Instance}
use Rattle.wit_model.specs.declared.calls.TypedRequest.{TypedRequest}
use Rattle.wit_model.specs.declared.calls.NewLock.{NewLock}
use Rattle.wit_model.specs.declared.calls.Call.TheVariants.{Check}
use Rattle.wit_model.specs.declared.calls.Reply.{Reply}
use Rattle.wit_model.specs.declared.calls.Reply.TheVariants.{Pass, Adopted}
use Rattle.wit_model.specs.declared.calls.Entry.{Entry}
use Rattle.wit_model.specs.Rules.Numbers.{is_given}
use Rattle.wit_model.specs.Rules.Types.{is_same_class, is_giant_type}
use Rattle.wit_model.specs.Rules.Locks.{locks_of, lock_of, lock_at, has_flag, is_spin_lock}
use Rattle.wit_model.specs.Rules.Locks.{is_of_kind}
use Rattle.wit_model.specs.Rules.Orders.{is_adoption_of, is_direct, IsSound, adopted}
use Rattle.wit_model.specs.Rules.History.{is_on, held_of, chain, instance, watch_of}
use Rattle.wit_model.specs.Rules.State.{Start, known_of, typed_locks, orders_of}
use Rattle.wit_model.specs.Rules.Start.{start_fault}
use Rattle.wit_model.specs.Rules.Verdict.{Basis, type_held, has_type_of, is_sleepable, is_giant}
use Rattle.wit_model.specs.Rules.Verdict.{violates, basis_of, typed_request}
use Rattle.wit_model.specs.Rules.Step.{IsLegal}
use Rattle.wit_model.specs.VerdictLaws.{AsksBehind, HasPassed, is_giant_lock, is_sleepable_lock}
use Rattle.wit_model.proofs.Chains.Found.{if_some, found}
use Rattle.wit_model.proofs.Chains.Held.{made_sane}
use Rattle.wit_model.proofs.Histories.Legal.{sane_legal}
use Rattle.wit_model.proofs.Orders.Paths.{direct-before}
use Rattle.wit_model.proofs.Orders.Ruled.{Says, Passed, Learnt, LearntAll, Doubled, Broken}
use Rattle.wit_model.proofs.Orders.Ruled.{Unwatched, Empty, Recursion, Known, KnownAll, Untaught}
use Rattle.wit_model.proofs.Orders.Ruled.{UntaughtAll}
use Rattle.wit_model.proofs.Orders.Sound.{sound_legal}
use Rattle.wit_model.proofs.Orders.Learnt.{type-held, last-held}
use Rattle.wit_model.proofs.Orders.Started.{sound_started}
use Rattle.wit_model.proofs.Orders.TypedLocks.{known-made, lock_at-made}
use Rattle.wit_model.proofs.VerdictLaws.Classes.{type-class, type-name}
use Rattle.wit_model.proofs.VerdictLaws.Judged.{checked, chain-of_kind}
use Rattle.wit_model.proofs.VerdictLaws.Learning.{not-all, last-map, last-orderly, same-last}
use Rattle.wit_model.proofs.VerdictLaws.Learning.{learnt-unless, reported-no_pass, doubled-no_pass}

module _ (start : Start) (files : List (List ℕ)) (h : List Entry) (l : ℕ)
    (legal : IsLegal start files h) (given : is_given (typed_locks start h) l ≡ true) where
  pub giant-lock : is_giant (basis_of (known_of start h)) (lock_at (typed_locks start h) l).type_no
      ≡ is_giant_lock (lock_of (locks_of h) l)
  giant-lock =
      ap₂ (λ (name : List ℕ) (class : Class). is_giant_type class name) (type-name start h l given)
      (type-class start files h l legal given)

  sleepable-lock : is_sleepable (basis_of (known_of start h))
      (lock_at (typed_locks start h) l).type_no ≡ is_sleepable_lock (lock_of (locks_of h) l)
  sleepable-lock = ap (λ class. is_same_class class Sx) (type-class start files h l legal given)

-- ---- what the last held lock is to a check

module _ (start : Start) (files : List (List ℕ)) (e : Entry) (h : List Entry) (a b : ℕ)
    (legal : IsLegal start files (e ∷ h)) (behind : AsksBehind start h e a b) where
  abbrev g : Basis
  g = basis_of (known_of start h)

  abbrev q : TypedRequest
  q = typed_request (known_of start h) behind.request

  abbrev kind : Bool
  kind = is_spin_lock (locks_of h) behind.request.lock.0

  abbrev last : Instance
  last = instance e.seat.0 h behind.last

  is-last : last_or None (chain kind e.seat.0 h) ≡ Some last
  is-last = last-map (instance e.seat.0 h) (held_of kind e.seat.0 h) behind.last behind.is_last

  last-given : is_given (typed_locks start h) behind.last ≡ true
  last-given =
      known-made start h behind.last
      (made_sane e.seat.0 behind.last h (sane_legal start files h legal.2)
      (last-held kind e.seat.0 h last is-last))

  type-last : (type_held g last).0 ≡ a
  type-last = ap (λ (n : TypeNo). n.0) (type-held (known_of start h) last) ∙ behind.parent

  pub type-of_last : (i : Instance) → last_or None (chain kind e.seat.0 h) ≡ Some i
      → type_held g i ≡ (lock_at (typed_locks start h) behind.last).type_no
  type-of_last i is =
      ap (λ (j : Instance). type_held g j) (same-last (chain kind e.seat.0 h) i last is is-last)
      ∙ type-held (known_of start h) last

  direct-last : (i : Instance) → last_or None (chain kind e.seat.0 h) ≡ Some i
      → is_direct g.orders (type_held g i).0 q.type_no.0 ≡ is_direct (orders_of start h) a b
  direct-last i is =
      ap₂ (λ x y. is_direct (orders_of start h) x y)
      (ap (λ (j : Instance). (type_held g j).0)
      (same-last (chain kind e.seat.0 h) i last is is-last) ∙ type-last) behind.child

  same-type : (i : Instance) → last_or None (chain kind e.seat.0 h) ≡ Some i
      → has_type_of g q i ≡ true → a ≡ b
  same-type i is same =
      sym (ap (λ (j : Instance). (type_held g j).0)
      (same-last (chain kind e.seat.0 h) i last is is-last) ∙ type-last)
      ∙ (eqb-true (type_held g i).0 q.type_no.0 same ∙ behind.child)

  says : start.profile ≡ Plain → (r : Reply) → e.reply ≡ r
      → Says Plain g (watch_of h) q (chain kind e.seat.0 h) r
  says plain r is =
      subst (λ s. Says Plain g (watch_of h) q (chain kind e.seat.0 h) s) is
      (subst (λ p. Says p g (watch_of h) q (chain kind e.seat.0 h) e.reply) plain
      (chain-of_kind start files e h behind.request legal behind.asks))

  -- a direct order is never violated
  pub direct-passes : start.profile ≡ Plain → IsSound (orders_of start h)
      → is_direct (orders_of start h) a b ≡ true → e.reply ≡ Pass
  direct-passes plain sound direct = go (says plain e.reply refl)
    where
      go : Says Plain g (watch_of h) q (chain kind e.seat.0 h) e.reply → e.reply ≡ Pass
      go (Passed passes why) = passes
      go (LearntAll all l) = absurd (not-all all)
      go (Learnt one l) =
          absurd (true≢false (sym direct
          ∙ (sym (direct-last l.last l.is_new.behind.is_last) ∙ l.is_new.new)))
      go (Doubled d) =
          absurd (sound a (direct-before (orders_of start h) a a
          (subst (λ n. is_direct (orders_of start h) a n ≡ true)
          (sym (same-type d.held (d.behind refl).is_last d.same)) direct)))
      go (Broken v) =
          let u =
          v.unknown refl in absurd (true≢false
          (sym direct ∙ (sym (direct-last u.last u.is_new.behind.is_last) ∙ u.is_new.new)))

-- ---- what passed has a direct order

module _ (start : Start) (files : List (List ℕ)) (e : Entry) (h : List Entry) (a b : ℕ)
    (plain : start.profile ≡ Plain) (legal : IsLegal start files (e ∷ h))
    (has : HasPassed start h e a b) where
  abbrev basis : Basis
  basis = g start files e h a b legal has.behind

  abbrev asked : TypedRequest
  asked = q start files e h a b legal has.behind

  abbrev held_before : List Instance
  held_before = chain (kind start files e h a b legal has.behind) e.seat.0 h

  unheld : find (λ (i : Instance). eqb i.lock.0 has.behind.request.lock.0) held_before ≡ None
  unheld =
      found (kind start files e h a b legal has.behind) e.seat.0 has.behind.request.lock.0 h
      (sane_legal start files h legal.2)
      ∙ ap (λ held. if_some (held && is_of_kind (kind start files e h a b legal has.behind)
      (locks_of h) has.behind.request.lock.0) (instance e.seat.0 h has.behind.request.lock.0))
      has.unheld

  bound-types : (i : Instance) → last_or None held_before ≡ Some i
      → ((is_giant basis (type_held basis i) && is_sleepable basis asked.type_no)
      || (is_sleepable basis (type_held basis i) && is_giant basis asked.type_no)) ≡ false
  bound-types i is =
      let was = last-given start files e h a b legal has.behind in
      let asks = (checked start files e h has.behind.request legal has.behind.asks).lock in
      ap₂ (λ x y. x || y)
      (ap₂ (λ x y. x && y)
      (ap (λ n. is_giant basis n) (type-of_last start files e h a b legal has.behind i is)
      ∙ giant-lock start files h has.behind.last legal.2 was)
      (sleepable-lock start files h has.behind.request.lock.0 legal.2 asks))
      (ap₂ (λ x y. x && y)
      (ap (λ n. is_sleepable basis n) (type-of_last start files e h a b legal has.behind i is)
      ∙ sleepable-lock start files h has.behind.last legal.2 was)
      (giant-lock start files h has.behind.request.lock.0 legal.2 asks))
      ∙ has.bound

  passed-direct : Says Plain basis (watch_of h) asked held_before Pass
      → is_direct (orders_of start h) a b ≡ true
  passed-direct (Passed passes (Unwatched off)) = absurd (true≢false (sym (ap is_on has.on) ∙ off))
  passed-direct (Passed passes (Empty none)) =
      let e' : ◌≡◌ {A = Option Instance} None (Some (last start files e h a b legal has.behind)) =
      sym none ∙ is-last start files e h a b legal has.behind in (cc)
  passed-direct (Passed passes (Recursion r)) =
      let e' : ◌≡◌ {A = Option Instance} None (Some r.held) = sym unheld ∙ r.is_held in (cc)
  passed-direct (Passed passes (Known one f)) =
      sym (direct-last start files e h a b legal has.behind f.last f.behind.is_last) ∙ f.direct
  passed-direct (Passed passes (Untaught one u)) =
      absurd (true≢false
      (sym (learnt-unless basis asked u.last has.teaches
      (bound-types u.last u.is_new.behind.is_last)
      (last-orderly (violates basis asked) held_before u.last u.is_new.behind.is_last u.orderly))
      ∙ u.barred))
  passed-direct (Passed passes (KnownAll all some)) = absurd (not-all all)
  passed-direct (Passed passes (UntaughtAll all u)) = absurd (not-all all)
  passed-direct (LearntAll all l) = absurd (not-all all)
  passed-direct (Learnt one l) = let e' = l.reply in (cc)
  passed-direct (Doubled d) =
      absurd (doubled-no_pass basis asked d.held
      (ap (λ (n : NewLock). has_flag n.flags.0 0x02 || has_flag has.behind.request.ops.0 0x02)
      (lock_at-made start h has.behind.request.lock.0)
      ∙ has.single (same-type start files e h a b legal has.behind d.held
      (d.behind refl).is_last d.same))
      d.reply)
  passed-direct (Broken v) = absurd (reported-no_pass basis asked held_before v.held v.reply)

  orders-after : (r : Reply) → e.reply ≡ r → orders_of start (e ∷ h)
      ≡ adopted (Check has.behind.request) r ++ orders_of start h
  orders-after r is = ap₂ (λ c s. adopted c s ++ orders_of start h) has.behind.asks is

  pub passed-is_direct : is_direct (orders_of start (e ∷ h)) a b ≡ true
  passed-is_direct =
      ⊎_elim
      (λ passes. ap (λ os. is_direct os a b) (orders-after Pass passes)
      ∙ passed-direct (says start files e h a b legal has.behind plain Pass passes))
      (λ adopts. ap (λ os. is_direct os a b)
      (orders-after (Adopted (record { 0 = a }) (record { 0 = b })) adopts)
      ∙ or_left (eqb a a && eqb b b) (is_direct (orders_of start h) a b)
      (and_from (eqb a a) (eqb b b) (eq-eqb a a refl) (eq-eqb b b refl)))
      has.passed

-- ---- and keeps it

pub legal-before : (start : Start) (files : List (List ℕ)) (later h : List Entry)
    → IsLegal start files (later ++ h) → IsLegal start files h
legal-before start files [] h legal = legal
legal-before start files (x ∷ later) h legal = legal-before start files later h legal.2

pub direct-stays : (start : Start) (later h : List Entry) (a b : ℕ)
    → is_direct (orders_of start h) a b ≡ true → is_direct (orders_of start (later ++ h)) a b ≡ true
direct-stays start [] h a b is = is
direct-stays start (x ∷ later) h a b is =
    list_any-append (is_adoption_of a b) (adopted x.call x.reply) (orders_of start (later ++ h))
    ∙ or_right (is_direct (adopted x.call x.reply) a b)
    (is_direct (orders_of start (later ++ h)) a b) (direct-stays start later h a b is)

pub passed-on : (start : Start) (files : List (List ℕ)) (next : Entry) (later : List Entry)
    (e : Entry) (h : List Entry) (a b : ℕ)
    → start.profile ≡ Plain → start_fault start ≡ None → IsLegal start files (next ∷ later ++ e ∷ h)
    → HasPassed start h e a b → AsksBehind start (later ++ e ∷ h) next a b → next.reply ≡ Pass
passed-on start files next later e h a b plain accepted legal has behind =
    direct-passes start files next (later ++ e ∷ h) a b legal behind plain
    (sound_legal start files (later ++ e ∷ h) (sound_started start accepted) legal.2)
    (direct-stays start later (e ∷ h) a b
    (passed-is_direct start files e h a b plain
    (legal-before start files later (e ∷ h) legal.2) has))
