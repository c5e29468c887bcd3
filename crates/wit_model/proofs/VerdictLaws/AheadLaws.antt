-- Which lock is to be taken before which: by what checks, what stays so, and that it comes round to
-- no lock.
use Rattle.std.proofs.Common.{◌≡◌, ℕ, ◌<◌, Bool, true, false, not, ◌&&◌, eqb, is_some, List, []}
use Rattle.std.proofs.Common.{◌∷◌, length-append, find, None, Some, Ok, Err, refl, ap, ap₂, sym}
use Rattle.std.proofs.Common.{◌∙◌, arith}
use Rattle.std.specs.List.{list_all, list_any, last_or}
use Rattle.std.proofs.lemmas.Bool.{true≢false, false≢true, true_from_ne_false, eqb-true}
use Rattle.std.proofs.lemmas.Map.Views.{any-filter_same}
use Rattle.wit_model.specs.declared.profiles.Profile.TheVariants.{Plain, AllHeld}
use Rattle.wit_model.specs.declared.profiles.Profile.{Profile}
use Rattle.wit_model.specs.declared.faults.Fault.TheVariants.{SleepUnderSpin}
use Rattle.wit_model.specs.declared.locks.Watch.{Watch}
use Rattle.wit_model.specs.declared.locks.Instance.{Instance}
use Rattle.wit_model.specs.declared.calls.TypedRequest.{TypedRequest}
use Rattle.wit_model.specs.declared.calls.Request.{Request}
use Rattle.wit_model.specs.declared.calls.Call.TheVariants.{Check}
use Rattle.wit_model.specs.declared.calls.Reply.{Reply}
use Rattle.wit_model.specs.declared.calls.Reply.TheVariants.{Pass}
use Rattle.wit_model.specs.declared.calls.Entry.{Entry}
use Rattle.wit_model.specs.Rules.Numbers.{IsGiven}
use Rattle.wit_model.specs.Rules.Types.{is_spin, class_of}
use Rattle.wit_model.specs.Rules.Locks.{made, locks_of, is_spin_lock, is_of_kind}
use Rattle.wit_model.specs.Rules.History.{num, is_held, is_on, held, held_of, chain, instance}
use Rattle.wit_model.specs.Rules.History.{watch_of}
use Rattle.wit_model.specs.Rules.State.{Start, Seat, known_of, state_of, seat_at, orders_of}
use Rattle.wit_model.specs.Rules.Start.{start_fault}
use Rattle.wit_model.specs.Rules.Verdict.{Basis, is_of, decided, holds_nothing, holds_it}
use Rattle.wit_model.specs.Rules.Verdict.{compared, doubles, follows, breaks_order, teaches, when}
use Rattle.wit_model.specs.Rules.Verdict.{chain_asked, ruling, basis_of, typed_request}
use Rattle.wit_model.specs.Rules.Step.{story_after, IsLegal}
use Rattle.wit_model.specs.Rules.Ahead.{type_of_lock, IsAhead}
use Rattle.wit_model.specs.Rules.Clean.{is_clean}
use Rattle.wit_model.proofs.Chains.Found.{if_some, found}
use Rattle.wit_model.proofs.Chains.Held.{in-held, made_sane, kind-stays}
use Rattle.wit_model.proofs.Chains.HeldLocks.{held-from, held-not}
use Rattle.wit_model.proofs.Histories.Legal.{seat_at-state, sane_legal}
use Rattle.wit_model.proofs.Orders.Paths.{before_trans, before_from_test, test_from_before}
use Rattle.wit_model.proofs.Orders.Sound.{sound_legal}
use Rattle.wit_model.proofs.Orders.Started.{sound_started}
use Rattle.wit_model.proofs.Orders.TypedLocks.{made-known}
use Rattle.wit_model.proofs.VerdictLaws.AllAhead.{before-checked_all}
use Rattle.wit_model.proofs.VerdictLaws.Classes.{type-kind}
use Rattle.wit_model.proofs.VerdictLaws.Judged.{checked}
use Rattle.wit_model.proofs.VerdictLaws.Quiet.{clean-parts, watch-clean}
use Rattle.wit_model.proofs.VerdictLaws.Rises.{in_all}
use Rattle.wit_model.proofs.VerdictLaws.Rising.{before-checked}
use Rattle.wit_model.proofs.VerdictLaws.Ahead.{lock_leads, leads-stays}

-- ---- no sleep lock passes under a spin lock

sleep-passes : (profile : Profile) (g : Basis) (w : Watch) (sleep spin : List Instance)
    (q : TypedRequest) (r : Reply) → is_on w ≡ true → is_spin (class_of q.type_no.0 g.types) ≡ false
    → ruling profile g w sleep spin q ≡ Ok r → is_some (last_or None spin) ≡ false
sleep-passes profile g w sleep spin q r on kind ok =
    go (is_on w) (is_spin (class_of q.type_no.0 g.types))
    (is_some (last_or None spin)) refl on kind ok
  where
    c : List Instance
    c = chain_asked g sleep spin q

    go : (watched spins some : Bool) → is_some (last_or None spin) ≡ some → watched ≡ true
        → spins ≡ false
        → decided (when (not watched) (Ok Pass) ∷ when (not spins && some) (Err SleepUnderSpin)
        ∷ holds_nothing (last_or None c) ∷ holds_it c q ∷ doubles g (compared profile c) q
        ∷ follows g (compared profile c) q ∷ breaks_order g c q
        ∷ teaches profile g (compared profile c) q ∷ []) ≡ Ok r
        → is_some (last_or None spin) ≡ false
    go true false true is one two told = (cc)
    go true false false is one two told = is
    go true true some is one two told = absurd (true≢false two)
    go false spins some is one two told = absurd (false≢true one)

-- a chain that has an element has a last one
last-some : (p : Instance → Bool) (c : List Instance) (i : Instance) → find p c ≡ Some i
    → is_some (last_or None c) ≡ true
last-some p [] i is = (cc)
last-some p (j ∷ c) i is = some j c
  where
    some : (d : Instance) (c' : List Instance) → is_some (last_or (Some d) c') ≡ true
    some d [] = refl
    some d (k ∷ c') = some k c'

given-more : (e : Entry) (h : List Entry) (l : ℕ) → IsGiven (locks_of h) l
    → IsGiven (locks_of (e ∷ h)) l
given-more e h l given = (given.0, omega (arith, given.1, length-append (locks_of h) (made e.call)))

spin-stays : (e : Entry) (h : List Entry) (l : ℕ) → IsGiven (locks_of h) l
    → is_spin_lock (locks_of (e ∷ h)) l ≡ is_spin_lock (locks_of h) l
spin-stays e h l given = kind-stays true l e h given

own-kind : (b : Bool) (h : List Entry) (l : ℕ) → is_spin_lock (locks_of h) l ≡ b
    → is_of_kind b (locks_of h) l ≡ true
own-kind true h l is = is
own-kind false h l is = ap not is

-- a held lock is among those of its kind
among-kind : (k : Bool) (t l : ℕ) (h : List Entry) (start : Start) (files : List (List ℕ))
    → IsLegal start files h → is_held t l h ≡ true → is_spin_lock (locks_of h) l ≡ k
    → list_any (λ m. eqb m l) (held_of k t h) ≡ true
among-kind k t l h start files legal is kind =
    any-filter_same (λ m. eqb m l) (is_of_kind k (locks_of h)) true
    (λ m here. ap (λ n. is_of_kind k (locks_of h) n) (eqb-true m l here) ∙ own-kind k h l kind)
    (held t h)
    ∙ (in-held t l h (sane_legal start files h legal) ∙ is)

-- what a clean history's check of a lock that isn't held says of each lock that is
module _ (start : Start) (files : List (List ℕ)) (unblessed : start.blessed ≡ []) (e : Entry)
    (h : List Entry) (q : Request) (l : ℕ) (legal : IsLegal start files (e ∷ h))
    (clean : is_clean start.profile (e ∷ h) ≡ true)
    (asks : e.call ≡ Check q) (unheld : num e.seat.0 q.lock.0 h ≡ 0)
    (holds : 0 < num e.seat.0 l h) where
  is_held-l : is_held e.seat.0 l h ≡ true
  is_held-l = held-from e.seat.0 l h holds

  given-l : IsGiven (locks_of h) l
  given-l = made_sane e.seat.0 l h (sane_legal start files h legal.2) is_held-l

  given-q : IsGiven (locks_of h) q.lock.0
  given-q = made-known start h q.lock.0 (checked start files e h q legal asks).lock

  spin-first : is_spin_lock (locks_of h) l ≡ true → is_spin_lock (locks_of h) q.lock.0 ≡ true
  spin-first spins = true_from_ne_false (is_spin_lock (locks_of h) q.lock.0) (λ sleeps.
      let a = checked start files e h q legal asks in
      let s = state_of (story_after start files h) in
      let there : find (is_of l) (chain true e.seat.0 h) ≡ if_some true (instance e.seat.0 h l)
      = found true e.seat.0 l h (sane_legal start files h legal.2)
      ∙ ap₂ (λ x y. if_some (x && y) (instance e.seat.0 h l)) is_held-l spins in
      let none : is_some (last_or None (seat_at s e.seat.0).spin) ≡ false
      = sleep-passes start.profile (basis_of (known_of start h)) (watch_of h)
      (seat_at s e.seat.0).sleep (seat_at s e.seat.0).spin
      (typed_request (known_of start h) q) e.reply
      (ap is_on (watch-clean start.profile h (clean-parts start.profile e h clean).1.1))
      (type-kind start files h q.lock.0 legal.2 a.lock ∙ sleeps) a.verdict in
      true≢false (sym (last-some (is_of l) (chain true e.seat.0 h) (instance e.seat.0 h l) there)
      ∙ (ap (λ (seat : Seat). is_some (last_or None seat.spin))
      (sym (seat_at-state start files h e.seat.0 a.seat)) ∙ none)))

  -- whichever held locks it is compared with
  all-before : (profile : Profile) → start.profile ≡ profile
      → list_all (λ m. lock_leads start (e ∷ h) m q.lock.0)
      (held_of (is_spin_lock (locks_of h) q.lock.0) e.seat.0 h) ≡ true
  all-before Plain plain =
      before-checked start files plain unblessed e h q legal clean asks
      (held-not e.seat.0 q.lock.0 h unheld)
  all-before AllHeld all =
      before-checked_all start files all unblessed e h q legal clean asks
      (held-not e.seat.0 q.lock.0 h unheld)

  same-kind : is_spin_lock (locks_of h) l ≡ is_spin_lock (locks_of h) q.lock.0
      → lock_leads start (e ∷ h) l q.lock.0 ≡ true
  same-kind same =
      in_all (λ m. lock_leads start (e ∷ h) m q.lock.0) l
      (held_of (is_spin_lock (locks_of h) q.lock.0) e.seat.0 h)
      (all-before start.profile refl)
      (among-kind (is_spin_lock (locks_of h) q.lock.0) e.seat.0 l h start files legal.2
      is_held-l same)

  pub ahead-at_check : IsAhead start (e ∷ h) l q.lock.0
  ahead-at_check = record {
    first = given-more e h l given-l;
    second = given-more e h q.lock.0 given-q;
    kinds =
        λ spins. spin-stays e h q.lock.0 given-q
        ∙ spin-first (sym (spin-stays e h l given-l) ∙ spins);
    types =
        λ same. before_from_test (orders_of start (e ∷ h)) (type_of_lock start (e ∷ h) l)
        (type_of_lock start (e ∷ h) q.lock.0)
        (same-kind (sym (spin-stays e h l given-l) ∙ (same ∙ spin-stays e h q.lock.0 given-q)));
  }

-- it stays so
pub ahead-stays : (start : Start) (e : Entry) (h : List Entry) (a b : ℕ) → IsAhead start h a b
    → IsAhead start (e ∷ h) a b
ahead-stays start e h a b is = record {
  first = given-more e h a is.first;
  second = given-more e h b is.second;
  kinds = λ spins. spin-stays e h b is.second ∙ is.kinds (sym (spin-stays e h a is.first) ∙ spins);
  types =
      λ same. before_from_test (orders_of start (e ∷ h)) (type_of_lock start (e ∷ h) a)
      (type_of_lock start (e ∷ h) b)
      (leads-stays start e h a b is.first is.second
      (test_from_before (orders_of start h) (type_of_lock start h a) (type_of_lock start h b)
      (is.types (sym (spin-stays e h a is.first) ∙ (same ∙ spin-stays e h b is.second)))));
}

-- the kinds of three locks, each ahead of the next
middle : (x y z : Bool) → (x ≡ true → y ≡ true) → (y ≡ true → z ≡ true) → x ≡ z → (x ≡ y) × (y ≡ z)
middle true true true one two same = (refl, refl)
middle true true false one two same = absurd (true≢false same)
middle true false z one two same = absurd (false≢true (one refl))
middle false true true one two same = absurd (false≢true same)
middle false true false one two same = absurd (false≢true (two refl))
middle false false true one two same = absurd (false≢true same)
middle false false false one two same = (refl, refl)

pub ahead-trans : (start : Start) (h : List Entry) (a b c : ℕ) → IsAhead start h a b
    → IsAhead start h b c → IsAhead start h a c
ahead-trans start h a b c one two = record {
  first = one.first;
  second = two.second;
  kinds = λ spins. two.kinds (one.kinds spins);
  types = λ same.
      let both =
      middle (is_spin_lock (locks_of h) a) (is_spin_lock (locks_of h) b)
      (is_spin_lock (locks_of h) c) one.kinds two.kinds same in
      before_trans (orders_of start h) (type_of_lock start h a) (type_of_lock start h b)
      (type_of_lock start h c) (one.types both.0) (two.types both.1);
}

-- no lock is ahead of itself
pub ahead-sound : (start : Start) (files : List (List ℕ)) (h : List Entry) (a : ℕ)
    → start_fault start ≡ None → IsLegal start files h → IsAhead start h a a → ⊥
ahead-sound start files h a accepted legal is =
    sound_legal start files h (sound_started start accepted) legal (type_of_lock start h a)
    (is.types refl)
