-- In a clean history each seat's locks of a kind rise: of two held ones the older one's type is
-- before the newer one's. And what a seat asks for is behind all that it holds.
use Rattle.std.proofs.Common.{◌≡◌, ℕ, Bool, true, false, cond, eqb, List, [], ◌∷◌, Option, None}
use Rattle.std.proofs.Common.{Some, refl, ap, ap₂, sym, ◌∙◌, subst, inl, inr}
use Rattle.std.specs.List.{list_all, last_or}
use Rattle.std.proofs.lemmas.Bool.{eq-eqb}
use Rattle.std.proofs.lemmas.Bool.Decides.{eqb_tells}
use Rattle.wit_model.specs.declared.profiles.Profile.TheVariants.{Plain}
use Rattle.wit_model.specs.declared.calls.Request.{Request}
use Rattle.wit_model.specs.declared.calls.Call.TheVariants.{Check}
use Rattle.wit_model.specs.declared.calls.Entry.{Entry}
use Rattle.wit_model.specs.Rules.Numbers.{is_given, IsGiven}
use Rattle.wit_model.specs.Rules.Locks.{locks_of, is_spin_lock}
use Rattle.wit_model.specs.Rules.Orders.{is_before}
use Rattle.wit_model.specs.Rules.History.{Act, Nothing, Records, act, act_by, is_held, held_of}
use Rattle.wit_model.specs.Rules.History.{pending, pending_after}
use Rattle.wit_model.specs.Rules.State.{Start, orders_of}
use Rattle.wit_model.specs.Rules.Step.{IsLegal}
use Rattle.wit_model.specs.Rules.Ahead.{type_of_lock}
use Rattle.wit_model.specs.Rules.Clean.{is_clean}
use Rattle.wit_model.proofs.Chains.Sane.{IsSane}
use Rattle.wit_model.proofs.Chains.Effects.{effect}
use Rattle.wit_model.proofs.Chains.Held.{kind-stays}
use Rattle.wit_model.proofs.Histories.Asked.{asked-made}
use Rattle.wit_model.proofs.Histories.Legal.{sane_legal}
use Rattle.wit_model.proofs.Orders.Paths.{direct-before, test_from_before, is_before-trans}
use Rattle.wit_model.proofs.Orders.TypedLocks.{made-known}
use Rattle.wit_model.proofs.VerdictLaws.Judged.{checked}
use Rattle.wit_model.proofs.VerdictLaws.Passing.{passed-is_direct}
use Rattle.wit_model.proofs.VerdictLaws.Quiet.{clean-parts, clean-passed}
use Rattle.wit_model.proofs.VerdictLaws.Rises.{is_rising, before_last, last_all, none_last}
use Rattle.wit_model.proofs.VerdictLaws.Ahead.{lock_leads, type-stays, given-from, made-all}
use Rattle.wit_model.proofs.VerdictLaws.Ahead.{rises-stays, before-stays, held-quiet, held_of-quiet}
use Rattle.wit_model.proofs.VerdictLaws.Ahead.{IsNext, rises_by, kind-from, asked-before}
use Rattle.wit_model.proofs.VerdictLaws.Ahead.{asks-now}

record IsRising (start : Start) (h : List Entry) : Type 0 where
  rising : (k : Bool) (t : ℕ) → is_rising (lock_leads start h) (held_of k t h) ≡ true
  waiting : (t : ℕ) (q : Request) → pending t h ≡ Some q → is_held t q.lock.0 h ≡ false
      → list_all (λ l. lock_leads start h l q.lock.0)
      (held_of (is_spin_lock (locks_of h) q.lock.0) t h) ≡ true

act-if : (t : ℕ) (e : Entry) → act e.call e.reply ≡ Nothing → act_by t e ≡ Nothing
act-if t e none = go (eqb e.seat.0 t)
  where
    go : (b : Bool) → cond b (act e.call e.reply) Nothing ≡ Nothing
    go true = none
    go false = refl

check-quiet : (t : ℕ) (e : Entry) (q : Request) → e.call ≡ Check q → act_by t e ≡ Nothing
check-quiet t e q asks = act-if t e (ap (λ c. act c e.reply) asks)

module _ (start : Start) (files : List (List ℕ)) (plain : start.profile ≡ Plain)
    (unblessed : start.blessed ≡ []) (e : Entry) (h : List Entry)
    (legal : IsLegal start files (e ∷ h)) (clean : is_clean start.profile (e ∷ h) ≡ true)
    (was : IsRising start h) where
  sane : IsSane (e ∷ h)
  sane = sane_legal start files (e ∷ h) legal

  checked-given : (q : Request) → e.call ≡ Check q → IsGiven (locks_of h) q.lock.0
  checked-given q asks = made-known start h q.lock.0 (checked start files e h q legal asks).lock

  -- at a check of a lock that isn't held, all locks of its kind that are held are before it
  before_by : (q : Request) → e.call ≡ Check q → is_held e.seat.0 q.lock.0 h ≡ false
      → (o : Option ℕ)
      → last_or None (held_of (is_spin_lock (locks_of h) q.lock.0) e.seat.0 h) ≡ o
      → list_all (λ l. lock_leads start (e ∷ h) l q.lock.0)
      (held_of (is_spin_lock (locks_of h) q.lock.0) e.seat.0 h) ≡ true
  before_by q asks unheld None is =
      ap (λ ls. list_all (λ l. lock_leads start (e ∷ h) l q.lock.0) ls)
      (none_last (held_of (is_spin_lock (locks_of h) q.lock.0) e.seat.0 h) is)
  before_by q asks unheld (Some last) is =
      let kind = is_spin_lock (locks_of h) q.lock.0 in
      let a = type_of_lock start h last in
      let b = type_of_lock start h q.lock.0 in
      let made =
      given-from h last (last_all (is_given (locks_of h)) (held_of kind e.seat.0 h) last
      (made-all kind e.seat.0 h sane.1) is) in
      let direct =
      passed-is_direct start files e h a b plain legal
      (clean-passed start files unblessed e h q last legal clean asks is plain unheld) in
      let on : lock_leads start (e ∷ h) last q.lock.0 ≡ true
      = ap₂ (λ x y. is_before (orders_of start (e ∷ h)) x y) (type-stays start e h last made)
      (type-stays start e h q.lock.0 (checked-given q asks))
      ∙ test_from_before (orders_of start (e ∷ h)) a b
      (direct-before (orders_of start (e ∷ h)) a b direct) in
      before_last (lock_leads start (e ∷ h))
      (λ x y z. is_before-trans (orders_of start (e ∷ h)) (type_of_lock start (e ∷ h) x)
      (type_of_lock start (e ∷ h) y) (type_of_lock start (e ∷ h) z))
      last q.lock.0 on (held_of kind e.seat.0 h)
      (rises-stays start kind e.seat.0 e h sane.1 (was.rising kind e.seat.0)) is

  before-asked : (q : Request) → e.call ≡ Check q → is_held e.seat.0 q.lock.0 h ≡ false
      → list_all (λ l. lock_leads start (e ∷ h) l q.lock.0)
      (held_of (is_spin_lock (locks_of h) q.lock.0) e.seat.0 h) ≡ true
  before-asked q asks unheld =
      before_by q asks unheld (last_or None
      (held_of (is_spin_lock (locks_of h) q.lock.0) e.seat.0 h)) refl

  -- what is newly held was asked for
  next-own : (k : Bool) → IsNext start k e.seat.0 e h
  unfolding IsNext
  next-own k m acts free kind =
      let own : act_by e.seat.0 e ≡ act e.call e.reply = rw (eq-eqb e.seat.0 e.seat.0 refl) refl in
      let asks =
      asked-before start files h e.seat.0 e.call e.reply m legal.0 plain
      (clean-parts start.profile e h clean).0 (sym own ∙ acts) in
      let mine : is_spin_lock (locks_of h) asks.0.lock.0 ≡ k =
      ap (is_spin_lock (locks_of h)) asks.2 ∙ kind-from k (locks_of h) m kind in
      subst (λ n. list_all (λ l. lock_leads start h l n) (held_of k e.seat.0 h) ≡ true) asks.2
      (subst (λ b. list_all (λ l. lock_leads start h l asks.0.lock.0) (held_of b e.seat.0 h) ≡ true)
      mine
      (was.waiting e.seat.0 asks.0 asks.1 (ap (λ n. is_held e.seat.0 n h) asks.2 ∙ free)))

  next-all : (k : Bool) (t : ℕ) → IsNext start k t e h
  unfolding IsNext
  next-all k t =
      elim (eqb_tells e.seat.0 t) [
        | inl is ↦ subst (λ s. IsNext start k s e h) is.1 (next-own k)
        | inr is ↦ λ m acts free kind. let none : act_by t e ≡ Nothing =
            rw is.0 refl in let e' : ◌≡◌ {A = Act} Nothing (Records m) = sym none ∙ acts in (cc)
      ]

  rising-more : (k : Bool) (t : ℕ)
      → is_rising (lock_leads start (e ∷ h)) (held_of k t (e ∷ h)) ≡ true
  rising-more k t = rises_by start k t e h sane (effect t e h sane) (was.rising k t) (next-all k t)

  -- where an entry does nothing to what a seat holds, what is behind all held locks stays so
  waiting-stays : (t : ℕ) (m : ℕ) → IsGiven (locks_of h) m → act_by t e ≡ Nothing
      → list_all (λ l. lock_leads start (e ∷ h) l m) (held_of (is_spin_lock (locks_of h) m) t h)
      ≡ true
      → list_all (λ l. lock_leads start (e ∷ h) l m)
      (held_of (is_spin_lock (locks_of (e ∷ h)) m) t (e ∷ h)) ≡ true
  waiting-stays t m given none all =
      subst (λ b. list_all (λ l. lock_leads start (e ∷ h) l m) (held_of b t (e ∷ h)) ≡ true)
      (sym (kind-stays true m e h given))
      (subst (λ ls. list_all (λ l. lock_leads start (e ∷ h) l m) ls ≡ true)
      (sym (held_of-quiet (is_spin_lock (locks_of h) m) t e h sane.1 none)) all)

  waiting-own : (q : Request) → pending_after e.call (pending e.seat.0 h) ≡ Some q
      → is_held e.seat.0 q.lock.0 (e ∷ h) ≡ false
      → list_all (λ l. lock_leads start (e ∷ h) l q.lock.0)
      (held_of (is_spin_lock (locks_of (e ∷ h)) q.lock.0) e.seat.0 (e ∷ h)) ≡ true
  waiting-own q is unheld =
      let asks = asks-now start files h e.seat.0 e.call e.reply q legal.0 legal.1 is in
      let none = check-quiet e.seat.0 e q asks in
      waiting-stays e.seat.0 q.lock.0 (checked-given q asks) none
      (before-asked q asks (sym (held-quiet e.seat.0 q.lock.0 e h sane.1 none) ∙ unheld))

  waiting-more : (t : ℕ) (q : Request) → pending t (e ∷ h) ≡ Some q
      → is_held t q.lock.0 (e ∷ h) ≡ false
      → list_all (λ l. lock_leads start (e ∷ h) l q.lock.0)
      (held_of (is_spin_lock (locks_of (e ∷ h)) q.lock.0) t (e ∷ h)) ≡ true
  waiting-more t q is unheld =
      elim (eqb_tells e.seat.0 t) [
        | inl at ↦
            let own : pending e.seat.0 (e ∷ h) ≡ pending_after e.call (pending e.seat.0 h) =
            rw (eq-eqb e.seat.0 e.seat.0 refl) refl in
            subst (λ s. list_all (λ l. lock_leads start (e ∷ h) l q.lock.0)
            (held_of (is_spin_lock (locks_of (e ∷ h)) q.lock.0) s (e ∷ h)) ≡ true) at.1
            (waiting-own q (sym own ∙ (ap (λ s. pending s (e ∷ h)) at.1 ∙ is))
            (ap (λ s. is_held s q.lock.0 (e ∷ h)) at.1 ∙ unheld))
        | inr at ↦
            let keep : pending t (e ∷ h) ≡ pending t h = rw at.0 refl in
            let none : act_by t e ≡ Nothing = rw at.0 refl in
            let before = sym keep ∙ is in
            let given = made-known start h q.lock.0 (asked-made start files h t q legal.2 before) in
            waiting-stays t q.lock.0 given none
            (before-stays start (is_spin_lock (locks_of h) q.lock.0) t e h q.lock.0 sane.1 given
            (was.waiting t q before (sym (held-quiet t q.lock.0 e h sane.1 none) ∙ unheld)))
      ]

  rising-next : IsRising start (e ∷ h)
  rising-next = record { rising = rising-more; waiting = waiting-more }

-- nothing is held, and nothing asked for, at the start
rising-none : (start : Start) → IsRising start []
rising-none start = record { rising = λ k t. refl; waiting = λ t q is unheld. refl }

rising_clean : (start : Start) (files : List (List ℕ)) → start.profile ≡ Plain → start.blessed ≡ []
    → (h : List Entry) → IsLegal start files h → is_clean start.profile h ≡ true → IsRising start h
rising_clean start files plain unblessed [] legal clean = rising-none start
rising_clean start files plain unblessed (e ∷ h) legal clean =
    rising-next start files plain unblessed e h legal clean
    (rising_clean start files plain unblessed h legal.2
    (clean-parts start.profile e h clean).1.1)

-- after a clean history's check of a lock that isn't held, all locks of its kind that its seat
-- holds are before it
pub before-checked : (start : Start) (files : List (List ℕ)) → start.profile ≡ Plain
    → start.blessed ≡ [] → (e : Entry) (h : List Entry) (q : Request)
    → IsLegal start files (e ∷ h) → is_clean start.profile (e ∷ h) ≡ true → e.call ≡ Check q
    → is_held e.seat.0 q.lock.0 h ≡ false
    → list_all (λ l. lock_leads start (e ∷ h) l q.lock.0)
    (held_of (is_spin_lock (locks_of h) q.lock.0) e.seat.0 h) ≡ true
before-checked start files plain unblessed e h q legal clean asks unheld =
    before-asked start files plain unblessed e h legal clean
    (rising_clean start files plain unblessed h legal.2
    (clean-parts start.profile e h clean).1.1) q asks unheld
