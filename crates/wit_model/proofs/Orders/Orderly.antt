-- What a verdict tells is of known types.
use Rattle.std.proofs.Common.{◌≡◌, ℕ, true, false, nat_lt, nat_le, List, length, Some, refl, sym}
use Rattle.std.proofs.Common.{subst, arith}
use Rattle.std.specs.List.{list_all}
use Rattle.std.proofs.lemmas.Bool.{and_parts, and_from, ltb-true, leb-true, lt-ltb, le-leb}
use Rattle.wit_model.specs.declared.locks.TypeNo.{TypeNo}
use Rattle.wit_model.specs.declared.locks.Instance.{Instance}
use Rattle.wit_model.specs.declared.calls.Adoption.{Adoption}
use Rattle.wit_model.specs.declared.calls.Conflict.{Conflict}
use Rattle.wit_model.specs.declared.calls.Doubling.{Doubling}
use Rattle.wit_model.specs.declared.calls.Request.{Request}
use Rattle.wit_model.specs.declared.calls.Reply.{Reply}
use Rattle.wit_model.specs.declared.calls.Reply.TheVariants.{Adopted, Silent, Duplicate, Reversal}
use Rattle.wit_model.specs.declared.calls.Entry.{Entry}
use Rattle.wit_model.specs.Rules.Types.{class_of, is_spin, type_name_of}
use Rattle.wit_model.specs.Rules.Locks.{locks_of, lock_at}
use Rattle.wit_model.specs.Rules.Orders.{is_before}
use Rattle.wit_model.specs.Rules.History.{is_held}
use Rattle.wit_model.specs.Rules.State.{Start, seat_at, known_of, state_of, types_of, typed_locks}
use Rattle.wit_model.specs.Rules.State.{orders_of}
use Rattle.wit_model.specs.Rules.Step.{story_after, IsLegal}
use Rattle.wit_model.specs.Rules.Numbers.{is_number, is_given, IsGiven, IsNumber}
use Rattle.wit_model.proofs.Chains.Held.{made_sane}
use Rattle.wit_model.proofs.Orders.TypedLocks.{length-typed, made-known}
use Rattle.wit_model.proofs.Orders.Types.{number-known, typed_made}
use Rattle.wit_model.proofs.Histories.Accepted.{live-given, CheckAccepted}
use Rattle.wit_model.proofs.Histories.AcceptedTurns.{DefineAccepted}
use Rattle.wit_model.proofs.Histories.Legal.{sane_legal}
use Rattle.wit_model.proofs.Orders.Defined.{define_adopted}
use Rattle.wit_model.proofs.Orders.Learnt.{chain-held, chain-judged}
use Rattle.wit_model.proofs.Orders.Sound.{taught, IsTaughtAll}
use Rattle.wit_model.proofs.Orders.ToldPairs.{pair_of, pair_told}

pub made-type : (start : Start) (h : List Entry) (l : ℕ) → IsGiven (locks_of h) l
    → IsNumber (length (types_of start h)) (lock_at (typed_locks start h) l).type_no.0
made-type start h l is =
    let t = typed_made start h l is.0 (omega (arith, is.1, length-typed start h)) in
    let n =
    number-known (type_name_of (lock_at (typed_locks start h) l).made)
    (types_of start h) t.known in
    (omega (arith, n.0, t.number), omega (arith, n.1, t.number))

-- a lock that was made is of a known type
pub lock-type : (start : Start) (h : List Entry) (l : ℕ) → is_given (typed_locks start h) l ≡ true
    → IsNumber (length (types_of start h)) (lock_at (typed_locks start h) l).type_no.0
lock-type start h l is = made-type start h l (made-known start h l is)

-- an order that a check teaches: its types are known and differ, and the child isn't before the
-- parent
pub record IsOrderly (n : ℕ) (orders : List Adoption) (a b : ℕ) : Type 0 where
  pub parent : IsNumber n a
  pub child : IsNumber n b
  pub apart : a ≡ b → ⊥
  pub orderly : is_before orders b a ≡ false

pub adopted-orderly : (start : Start) (files : List (List ℕ)) (h : List Entry) (t : ℕ) (q : Request)
    (a b : TypeNo) → IsLegal start files h
    → CheckAccepted (state_of (story_after start files h)) t q (Adopted a b)
    → IsOrderly (length (types_of start h)) (orders_of start h) a.0 b.0
adopted-orderly start files h t q a b legal accepted =
    let l = taught start files h t q a b legal accepted in
    record {
      parent =
          subst (λ (x : TypeNo). IsNumber (length (types_of start h)) x.0) l.parent
          (made-type start h l.last l.was);
      child =
          subst (λ (x : TypeNo). IsNumber (length (types_of start h)) x.0) l.child
          (made-type start h q.lock.0 l.asks);
      apart = l.apart;
      orderly = l.orderly;
    }

-- so is one that a call defines
pub defined-orderly : (start : Start) (files : List (List ℕ)) (h : List Entry) (t a b : ℕ)
    (p c : TypeNo)
    → DefineAccepted (state_of (story_after start files h)) t a b (Adopted p c)
    → IsOrderly (length (types_of start h)) (orders_of start h) p.0 c.0
defined-orderly start files h t a b p c accepted =
    let s = state_of (story_after start files h) in
    let d =
    define_adopted s.known.types s.known.orders (lock_at s.known.locks a).type_no
    (lock_at s.known.locks b).type_no p c accepted.answer in
    record {
      parent =
          subst (λ (x : TypeNo). IsNumber (length (types_of start h)) x.0) d.parent
          (lock-type start h a (live-given s a accepted.first));
      child =
          subst (λ (x : TypeNo). IsNumber (length (types_of start h)) x.0) d.child
          (lock-type start h b (live-given s b accepted.second));
      apart = d.apart;
      orderly = d.orderly;
    }

number-test : (n x : ℕ) → IsNumber n x → is_number n x ≡ true
number-test n x is = and_from (nat_lt 0 x) (nat_le x n) (lt-ltb 0 x is.0) (le-leb x n is.1)

pub number-from : (n x : ℕ) → is_number n x ≡ true → IsNumber n x
number-from n x is = let parts =
    and_parts (nat_lt 0 x) (nat_le x n) is in (ltb-true 0 x parts.0, leb-true x n parts.1)

-- orders that a check teaches behind all held locks are behind known types
pub parents-known : (start : Start) (files : List (List ℕ)) (h : List Entry) (t : ℕ) (q : Request)
    (ps : List (TypeNo × TypeNo)) → IsLegal start files h
    → (l : IsTaughtAll start h t q ps)
    → list_all (λ (p : TypeNo). is_number (length (types_of start h)) p.0) l.parents ≡ true
parents-known start files h t q ps legal l =
    l.held (λ p. is_number (length (types_of start h)) p.0)
    (λ m is. number-test (length (types_of start h)) (lock_at (typed_locks start h) m).type_no.0
    (made-type start h m (made_sane t m h (sane_legal start files h legal) is)))

told-known : (start : Start) (files : List (List ℕ)) (h : List Entry) (t : ℕ) (q : Request)
    (r : Reply) (p : TypeNo × TypeNo) → IsLegal start files h
    → CheckAccepted (state_of (story_after start files h)) t q r
    → pair_of (known_of start h) r ≡ Some p
    → IsNumber (length (types_of start h)) p.0.0 × IsNumber (length (types_of start h)) p.1.0
told-known start files h t q r p legal accepted is =
    let s = state_of (story_after start files h) in
    let l =
    pair_told start.profile (known_of start h) s.watch
    (seat_at s t) q r p accepted.verdict is in
    let kind =
    is_spin (class_of (lock_at (typed_locks start h) q.lock.0).type_no.0 (types_of start h)) in
    let held : is_held t l.held.lock.0 h ≡ true =
    l.of_chain (λ (i : Instance). is_held t i.lock.0 h)
    (subst (λ c. list_all (λ (i : Instance). is_held t i.lock.0 h) c ≡ true)
    (sym (chain-judged start files h t q accepted.seat)) (chain-held kind t h)) in
    subst (λ (p' : TypeNo × TypeNo). IsNumber (length (types_of start h)) p'.0.0
    × IsNumber (length (types_of start h)) p'.1.0) l.pair (
      made-type start h l.held.lock.0
          (made_sane t l.held.lock.0 h (sane_legal start files h legal) held),
      lock-type start h q.lock.0 accepted.lock,
    )

-- the pair that a silent check, a duplicate or a reversal tells is of known types
pub silent-known : (start : Start) (files : List (List ℕ)) (h : List Entry) (t : ℕ) (q : Request)
    (a b : TypeNo) → IsLegal start files h
    → CheckAccepted (state_of (story_after start files h)) t q (Silent a b)
    → IsNumber (length (types_of start h)) a.0 × IsNumber (length (types_of start h)) b.0
silent-known start files h t q a b legal accepted =
    told-known start files h t q (Silent a b) (a, b) legal accepted refl

pub duplicate-known : (start : Start) (files : List (List ℕ)) (h : List Entry) (t : ℕ) (q : Request)
    (d : Doubling) → IsLegal start files h
    → CheckAccepted (state_of (story_after start files h)) t q (Duplicate d)
    → IsNumber (length (types_of start h)) (lock_at (typed_locks start h) d.asked.lock.0).type_no.0
duplicate-known start files h t q d legal accepted =
    (told-known start files h t q (Duplicate d) (
      (lock_at (typed_locks start h) d.asked.lock.0).type_no,
      (lock_at (typed_locks start h) d.asked.lock.0).type_no,
    ) legal accepted refl).1

pub reversal-known : (start : Start) (files : List (List ℕ)) (h : List Entry) (t : ℕ) (q : Request)
    (x : Conflict) → IsLegal start files h
    → CheckAccepted (state_of (story_after start files h)) t q (Reversal x)
    → IsNumber (length (types_of start h)) (lock_at (typed_locks start h) x.held.lock.0).type_no.0
    × IsNumber (length (types_of start h))
    (lock_at (typed_locks start h) x.asked.lock.0).type_no.0
reversal-known start files h t q x legal accepted =
    told-known start files h t q (Reversal x) (
      (lock_at (typed_locks start h) x.held.lock.0).type_no,
      (lock_at (typed_locks start h) x.asked.lock.0).type_no,
    ) legal accepted refl
