-- A request behind the last held lock by a direct order is judged to pass.
use Rattle.std.proofs.Common.{◌≡◌, ℕ, Bool, true, false, not, ◌&&◌, is_some, List, [], ◌∷◌, map}
use Rattle.std.proofs.Common.{take, reverse}
use Rattle.std.proofs.Common.{find, Option, None, Some, Ok, Err, refl, ap, sym, ◌∙◌, subst}
use Rattle.std.specs.List.{last_or}
use Rattle.std.specs.Option.{option_map}
use Rattle.std.proofs.lemmas.Bool.{false_from_ne_true, eqb-true}
use Rattle.wit_model.specs.declared.profiles.Profile.TheVariants.{Plain}
use Rattle.wit_model.specs.declared.faults.Fault.TheVariants.{SleepUnderSpin}
use Rattle.wit_model.specs.declared.locks.TypeNo.{TypeNo}
use Rattle.wit_model.specs.declared.locks.Watch.{Watch}
use Rattle.wit_model.specs.declared.locks.Instance.{Instance}
use Rattle.wit_model.specs.declared.calls.TypedRequest.{TypedRequest}
use Rattle.wit_model.specs.declared.calls.Request.{Request}
use Rattle.wit_model.specs.declared.calls.Reply.TheVariants.{Pass}
use Rattle.wit_model.specs.declared.calls.Entry.{Entry}
use Rattle.wit_model.specs.Rules.Numbers.{IsGiven}
use Rattle.wit_model.specs.Rules.Types.{is_spin, class_of}
use Rattle.wit_model.specs.Rules.Locks.{locks_of, lock_at, is_spin_lock, is_of_kind}
use Rattle.wit_model.specs.Rules.Orders.{is_direct}
use Rattle.wit_model.specs.Rules.History.{is_on, is_held, held_of, chain, instance, watch_of}
use Rattle.wit_model.specs.Rules.State.{Start, seat_of, known_of, types_of, typed_locks, orders_of}
use Rattle.wit_model.specs.Rules.Start.{start_fault}
use Rattle.wit_model.specs.Rules.Verdict.{Basis, is_of, type_held, has_type_of, again, decided}
use Rattle.wit_model.specs.Rules.Verdict.{when, holds_nothing, doubles, follows, breaks_order}
use Rattle.wit_model.specs.Rules.Verdict.{teaches, chain_asked, ruling, basis_of, typed_request}
use Rattle.wit_model.specs.Rules.Verdict.{verdict}
use Rattle.wit_model.specs.Rules.Step.{IsLegal}
use Rattle.wit_model.specs.Rules.Ahead.{type_of_lock}
use Rattle.wit_model.specs.VerdictLaws.{last_of_kind}
use Rattle.wit_model.proofs.Chains.Found.{if_some, found}
use Rattle.wit_model.proofs.Histories.Legal.{one_chain, sane_legal}
use Rattle.wit_model.proofs.Orders.Ends.{newest-one}
use Rattle.wit_model.proofs.Orders.Paths.{direct-before}
use Rattle.wit_model.proofs.Orders.Sound.{sound_legal}
use Rattle.wit_model.proofs.Orders.Learnt.{type-held}
use Rattle.wit_model.proofs.Orders.Started.{sound_started}
use Rattle.wit_model.proofs.Orders.TypedLocks.{known-made}
use Rattle.wit_model.proofs.VerdictLaws.Classes.{type-kind}
use Rattle.wit_model.proofs.VerdictLaws.Learning.{last-map}

ruling-passes : (g : Basis) (w : Watch) (sleep spin : List Instance) (q : TypedRequest)
    (last : Instance) → (not (is_spin (class_of q.type_no.0 g.types))
    && is_some (last_or None spin)) ≡ false
    → last_or None (chain_asked g sleep spin q) ≡ Some last
    → find (is_of q.lock.0) (chain_asked g sleep spin q) ≡ None
    → has_type_of g q last ≡ false → is_direct g.orders (type_held g last).0 q.type_no.0 ≡ true
    → ruling Plain g w sleep spin q ≡ Ok Pass
ruling-passes g w sleep spin q last awake is_last free apart direct =
    go (is_on w) (not (is_spin (class_of q.type_no.0 g.types)) && is_some (last_or None spin))
    (last_or None (chain_asked g sleep spin q))
    (find (is_of q.lock.0) (chain_asked g sleep spin q))
    (take 1 (reverse (chain_asked g sleep spin q)))
    awake is_last free (newest-one (chain_asked g sleep spin q) last is_last)
  where
    go : (on sleeps : Bool) (o f : Option Instance) (held : List Instance) → sleeps ≡ false
        → o ≡ Some last → f ≡ None → held ≡ last ∷ []
        → decided (when (not on) (Ok Pass) ∷ when sleeps (Err SleepUnderSpin) ∷ holds_nothing o
        ∷ option_map (again q) f ∷ doubles g held q ∷ follows g held q
        ∷ breaks_order g (chain_asked g sleep spin q) q ∷ teaches Plain g held q ∷ []) ≡ Ok Pass
    go false sleeps o f held one two three four = refl
    go true sleeps o f held one two three four = rw (one, two, three, four, apart, direct) refl

module _ (start : Start) (files : List (List ℕ)) (h : List Entry) (t : ℕ) (q : Request) (last : ℕ)
    (accepted : start_fault start ≡ None) (legal : IsLegal start files h)
    (given : IsGiven (locks_of h) q.lock.0) (is_last : last_of_kind t q.lock.0 h ≡ Some last)
    (direct : is_direct (orders_of start h) (type_of_lock start h last)
    (type_of_lock start h q.lock.0) ≡ true)
    (free : is_held t q.lock.0 h ≡ false) (awake : is_spin_lock (locks_of h) q.lock.0 ≡ false
    → held_of true t h ≡ []) where
  abbrev g : Basis
  g = basis_of (known_of start h)

  abbrev kind : Bool
  kind = is_spin_lock (locks_of h) q.lock.0

  kind-of_type : is_spin (class_of (lock_at (typed_locks start h) q.lock.0).type_no.0
      (types_of start h)) ≡ kind
  kind-of_type = type-kind start files h q.lock.0 legal (known-made start h q.lock.0 given)

  judged-by : chain_asked g (chain false t h) (chain true t h) (typed_request (known_of start h) q)
      ≡ chain kind t h
  judged-by =
      one_chain (is_spin (class_of (lock_at (typed_locks start h) q.lock.0).type_no.0
      (types_of start h))) t h ∙ ap (λ k. chain k t h) kind-of_type

  not-sleeping : (b : Bool) → kind ≡ b → (not b && is_some (last_or None (chain true t h))) ≡ false
  not-sleeping true is = refl
  not-sleeping false is = ap (λ ls. is_some (last_or None (map (instance t h) ls))) (awake is)

  apart : has_type_of g (typed_request (known_of start h) q) (instance t h last) ≡ false
  apart = false_from_ne_true _ (λ same.
      let one : type_of_lock start h last ≡ type_of_lock start h q.lock.0
      = ap (λ (n : TypeNo). n.0) (sym (type-held (known_of start h) (instance t h last)))
      ∙ eqb-true (type_held g (instance t h last)).0 (type_of_lock start h q.lock.0) same in
      sound_legal start files h (sound_started start accepted) legal (type_of_lock start h last)
      (direct-before (orders_of start h) (type_of_lock start h last) (type_of_lock start h last)
      (subst (λ n. is_direct (orders_of start h) (type_of_lock start h last) n ≡ true)
      (sym one) direct)))

  pub direct-judged : verdict Plain (known_of start h) (watch_of h) (seat_of h t) q ≡ Ok Pass
  direct-judged =
      ruling-passes g (watch_of h) (chain false t h) (chain true t h)
      (typed_request (known_of start h) q) (instance t h last)
      (ap (λ b. not b && is_some (last_or None (chain true t h))) kind-of_type
      ∙ not-sleeping kind refl)
      (ap (λ c. last_or None c) judged-by ∙ last-map (instance t h) (held_of kind t h) last is_last)
      (ap (λ c. find (is_of q.lock.0) c) judged-by
      ∙ (found kind t q.lock.0 h (sane_legal start files h legal) ∙ ap
      (λ b. if_some (b && is_of_kind kind (locks_of h) q.lock.0) (instance t h q.lock.0)) free))
      apart
      (ap (λ (n : TypeNo). is_direct (orders_of start h) n.0 (type_of_lock start h q.lock.0))
      (type-held (known_of start h) (instance t h last)) ∙ direct)
