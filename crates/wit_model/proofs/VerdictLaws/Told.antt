-- What a reversal and a duplicate tell.
use Rattle.std.proofs.Common.{◌≡◌, ℕ, Bool, true, false, not, ◌&&◌, ◌||◌, cond, List, ◌∷◌, Option}
use Rattle.std.proofs.Common.{None, Some, Result, Ok, is_some, unwrap_or, find, reverse, refl, ap}
use Rattle.std.proofs.Common.{sym, ◌∙◌, subst}
use Rattle.std.proofs.lemmas.Bool.{false≢true, eqb-true}
use Rattle.wit_model.specs.declared.profiles.Profile.{Profile}
use Rattle.wit_model.specs.declared.faults.Fault.{Fault}
use Rattle.wit_model.specs.declared.locks.TypeNo.{TypeNo}
use Rattle.wit_model.specs.declared.locks.Watch.{Watch}
use Rattle.wit_model.specs.declared.locks.Instance.{Instance}
use Rattle.wit_model.specs.declared.calls.TypedRequest.{TypedRequest}
use Rattle.wit_model.specs.declared.calls.Heading.{Heading}
use Rattle.wit_model.specs.declared.calls.Heading.TheVariants as heading
use Rattle.wit_model.specs.declared.calls.Conflict.{Conflict}
use Rattle.wit_model.specs.declared.calls.Doubling.{Doubling}
use Rattle.wit_model.specs.declared.calls.Request.{Request}
use Rattle.wit_model.specs.declared.calls.Call.TheVariants.{Check}
use Rattle.wit_model.specs.declared.calls.Reply.{Reply}
use Rattle.wit_model.specs.declared.calls.Reply.TheVariants.{Pass, Silent, Reversal, Duplicate}
use Rattle.wit_model.specs.declared.calls.Entry.{Entry}
use Rattle.wit_model.specs.Rules.Locks.{locks_of, has_flag, is_spin_lock}
use Rattle.wit_model.specs.Rules.Orders.{Before, is_before, is_found}
use Rattle.wit_model.specs.Rules.History.{is_held, chain, watch_of}
use Rattle.wit_model.specs.Rules.State.{Start, known_of, orders_of, found_of}
use Rattle.wit_model.specs.Rules.Verdict.{Basis, type_held, has_type_of, is_sleepable, is_giant}
use Rattle.wit_model.specs.Rules.Verdict.{place_of, place_asked, doubled, breach, violates}
use Rattle.wit_model.specs.Rules.Verdict.{is_blessed, conflict, reported, basis_of, typed_request}
use Rattle.wit_model.specs.Rules.Step.{IsLegal}
use Rattle.wit_model.specs.Rules.Ahead.{type_of_lock}
use Rattle.wit_model.proofs.Histories.Accepted.{same_reply}
use Rattle.wit_model.proofs.Orders.Paths.{before_from_test}
use Rattle.wit_model.proofs.Orders.Ruled.{Says, Passed, Learnt, LearntAll, Doubled, Broken}
use Rattle.wit_model.proofs.Orders.Learnt.{type-held, chain-held}
use Rattle.wit_model.proofs.Orders.Ends.{found-last, found-passes}
use Rattle.wit_model.proofs.VerdictLaws.Judged.{chain-of_kind, told-asked}

-- ---- what the ruling says of a reversal

-- a reversal is of a violating lock of the chain, and of a pair of types that wasn't found before
record IsReversal (g : Basis) (q : TypedRequest) (c : List Instance) (x : Conflict) : Type 0 where
  held : Instance
  violation : find (violates g q) (reverse c) ≡ Some held
  fresh : is_found g.found (type_held g held).0 q.type_no.0 ≡ false
  is : conflict g q c held ≡ x

same-conflict : (a b : Conflict) → ◌≡◌ {A = Result Reply Fault} (Ok (Reversal a)) (Ok (Reversal b))
    → a ≡ b
same-conflict a b ok = let e : ◌≡◌ {A = Reply} (Reversal a) (Reversal b) = same_reply ok in cc

reversal-broken : (g : Basis) (q : TypedRequest) (c : List Instance) (x : Conflict) (i : Instance)
    → find (violates g q) (reverse c) ≡ Some i
    → reported g q c i ≡ Ok (Reversal x) → IsReversal g q c x
reversal-broken g q c x i violation told =
    go (is_found g.found (type_held g i).0 q.type_no.0)
    (is_blessed g (type_held g i) q.type_no) refl told
  where
    go : (f b : Bool) → is_found g.found (type_held g i).0 q.type_no.0 ≡ f
        → cond {A = Result Reply Fault} (f || b) (Ok (Silent (type_held g i) q.type_no))
        (Ok (Reversal (conflict g q c i))) ≡ Ok (Reversal x) → IsReversal g q c x
    go true b is same = (cc)
    go false true is same = (cc)
    go false false is same =
        record {
          held = i;
          violation = violation;
          fresh = is;
          is = same-conflict (conflict g q c i) x same;
        }

doubled-no_reversal : (g : Basis) (q : TypedRequest) (i : Instance) (x : Conflict)
    → doubled g q i ≡ Ok (Reversal x) → ⊥
doubled-no_reversal g q i x ok =
    go (has_flag q.flags.0 0x02 || has_flag q.ops.0 0x02)
    (is_found g.found q.type_no.0 q.type_no.0) ok
  where
    go : (allowed f : Bool) → cond {A = Result Reply Fault} allowed (Ok Pass)
        (cond f (Ok (Silent q.type_no q.type_no))
        (Ok (Duplicate (record { last = place_of i; asked = place_asked q }))))
        ≡ Ok (Reversal x) → ⊥
    go true f same = (cc)
    go false true same = (cc)
    go false false same = (cc)

says-reversal : (profile : Profile) (g : Basis) (w : Watch) (q : TypedRequest) (c : List Instance)
    (x : Conflict) → Says profile g w q c (Reversal x) → IsReversal g q c x
says-reversal profile g w q c x (Passed passes why) = (cc)
says-reversal profile g w q c x (LearntAll all l) = let e = l.reply in (cc)
says-reversal profile g w q c x (Learnt plain l) = let e = l.reply in (cc)
says-reversal profile g w q c x (Doubled d) = absurd (doubled-no_reversal g q d.held x d.reply)
says-reversal profile g w q c x (Broken b) = reversal-broken g q c x b.held b.violation b.reply

-- ---- and of a duplicate

record IsDuplicate (g : Basis) (q : TypedRequest) (c : List Instance) (d : Doubling) : Type 0 where
  last : Instance
  same : has_type_of g q last ≡ true
  fresh : is_found g.found q.type_no.0 q.type_no.0 ≡ false
  is : record { last = place_of last; asked = place_asked q } ≡ d

same-doubling : (a b : Doubling)
    → ◌≡◌ {A = Result Reply Fault} (Ok (Duplicate a)) (Ok (Duplicate b)) → a ≡ b
same-doubling a b ok = let e : ◌≡◌ {A = Reply} (Duplicate a) (Duplicate b) = same_reply ok in cc

duplicate-doubled : (g : Basis) (q : TypedRequest) (c : List Instance) (d : Doubling) (i : Instance)
    → has_type_of g q i ≡ true → doubled g q i ≡ Ok (Duplicate d) → IsDuplicate g q c d
duplicate-doubled g q c d i same ok =
    go (has_flag q.flags.0 0x02 || has_flag q.ops.0 0x02)
    (is_found g.found q.type_no.0 q.type_no.0) refl ok
  where
    go : (allowed f : Bool) → is_found g.found q.type_no.0 q.type_no.0 ≡ f
        → cond {A = Result Reply Fault} allowed (Ok Pass)
        (cond f (Ok (Silent q.type_no q.type_no))
        (Ok (Duplicate (record { last = place_of i; asked = place_asked q }))))
        ≡ Ok (Duplicate d)
        → IsDuplicate g q c d
    go true f is told = (cc)
    go false true is told = (cc)
    go false false is told =
        record {
          last = i;
          same = same;
          fresh = is;
          is = same-doubling (record { last = place_of i; asked = place_asked q }) d told;
        }

reported-no_duplicate : (g : Basis) (q : TypedRequest) (c : List Instance) (i : Instance)
    (d : Doubling) → reported g q c i ≡ Ok (Duplicate d) → ⊥
reported-no_duplicate g q c i d ok =
    go (is_found g.found (type_held g i).0 q.type_no.0 || is_blessed g (type_held g i) q.type_no) ok
  where
    go : (f : Bool) → cond {A = Result Reply Fault} f (Ok (Silent (type_held g i) q.type_no))
        (Ok (Reversal (conflict g q c i))) ≡ Ok (Duplicate d) → ⊥
    go true same = (cc)
    go false same = (cc)

says-duplicate : (profile : Profile) (g : Basis) (w : Watch) (q : TypedRequest) (c : List Instance)
    (d : Doubling) → Says profile g w q c (Duplicate d) → IsDuplicate g q c d
says-duplicate profile g w q c d (Passed passes why) = (cc)
says-duplicate profile g w q c d (LearntAll all l) = let e = l.reply in (cc)
says-duplicate profile g w q c d (Learnt plain l) = let e = l.reply in (cc)
says-duplicate profile g w q c d (Doubled b) = duplicate-doubled g q c d b.held b.same b.reply
says-duplicate profile g w q c d (Broken b) = absurd (reported-no_duplicate g q c b.held d b.reply)

-- ---- a plain heading is that of an order which is violated

plain-breach : (a b c d e : Bool) → let o : Option Heading =
    cond a None (cond b None (cond c (Some heading.Sleepable)
    (cond d (Some heading.Giant) (cond e (Some heading.Order) None)))) in
    is_some o ≡ true → unwrap_or o heading.Order ≡ heading.Order → e ≡ true
plain-breach true b c d e some plain = absurd (false≢true some)
plain-breach false true c d e some plain = absurd (false≢true some)
plain-breach false false true d e some plain = (cc)
plain-breach false false false true e some plain = (cc)
plain-breach false false false false true some plain = refl
plain-breach false false false false false some plain = absurd (false≢true some)

breach-plain : (g : Basis) (asked held : TypeNo) → is_some (breach g asked held) ≡ true
    → unwrap_or (breach g asked held) heading.Order ≡ heading.Order
    → is_before g.orders asked.0 held.0 ≡ true
breach-plain g asked held some plain =
    plain-breach (is_giant g asked && is_sleepable g held) (is_sleepable g asked && is_giant g held)
    (is_sleepable g asked && not (is_sleepable g held))
    (is_giant g asked && not (is_sleepable g held)) (is_before g.orders asked.0 held.0) some plain

-- ---- the laws

module _ (start : Start) (files : List (List ℕ)) (e : Entry) (h : List Entry)
    (legal : IsLegal start files (e ∷ h)) where
  judged : (q : Request) → e.call ≡ Check q → (r : Reply) → e.reply ≡ r
      → Says start.profile (basis_of (known_of start h)) (watch_of h)
      (typed_request (known_of start h) q)
      (chain (is_spin_lock (locks_of h) q.lock.0) e.seat.0 h) r
  judged q asks r is =
      subst (λ r'. Says start.profile (basis_of (known_of start h)) (watch_of h)
      (typed_request (known_of start h) q)
      (chain (is_spin_lock (locks_of h) q.lock.0) e.seat.0 h) r') is
      (chain-of_kind start files e h q legal asks)

  asked-reversal : (x : Conflict) → e.reply ≡ Reversal x → (q : Request) × (e.call ≡ Check q)
  asked-reversal x is = told-asked start files e h legal (rw is refl)

  asked-duplicate : (d : Doubling) → e.reply ≡ Duplicate d → (q : Request) × (e.call ≡ Check q)
  asked-duplicate d is = told-asked start files e h legal (rw is refl)

  as-reversal : (q : Request) → e.call ≡ Check q → (x : Conflict) → e.reply ≡ Reversal x
      → IsReversal (basis_of (known_of start h)) (typed_request (known_of start h) q)
      (chain (is_spin_lock (locks_of h) q.lock.0) e.seat.0 h) x
  as-reversal q asks x is =
      says-reversal start.profile (basis_of (known_of start h)) (watch_of h)
      (typed_request (known_of start h) q)
      (chain (is_spin_lock (locks_of h) q.lock.0) e.seat.0 h) x
      (judged q asks (Reversal x) is)

  as-duplicate : (q : Request) → e.call ≡ Check q → (d : Doubling) → e.reply ≡ Duplicate d
      → IsDuplicate (basis_of (known_of start h)) (typed_request (known_of start h) q)
      (chain (is_spin_lock (locks_of h) q.lock.0) e.seat.0 h) d
  as-duplicate q asks d is =
      says-duplicate start.profile (basis_of (known_of start h)) (watch_of h)
      (typed_request (known_of start h) q)
      (chain (is_spin_lock (locks_of h) q.lock.0) e.seat.0 h) d
      (judged q asks (Duplicate d) is)

  pub reversal-held : (x : Conflict) → e.reply ≡ Reversal x
      → (is_held e.seat.0 x.held.lock.0 h ≡ true) × (q : Request) × (e.call ≡ Check q)
      × (x.asked.lock ≡ q.lock)
  reversal-held x is =
      let a = asked-reversal x is in
      let b = as-reversal a.0 a.1 x is in
      let kind = is_spin_lock (locks_of h) a.0.lock.0 in (
        subst (λ (y : Conflict). is_held e.seat.0 y.held.lock.0 h ≡ true) b.is
            (found-last (λ (i : Instance). is_held e.seat.0 i.lock.0 h)
            (violates (basis_of (known_of start h)) (typed_request (known_of start h) a.0))
            (chain kind e.seat.0 h) b.held
            (chain-held kind e.seat.0 h) b.violation),
        a.0,
        a.1,
        ap (λ (y : Conflict). y.asked.lock) (sym b.is),
      )

  pub reversal-order : (x : Conflict) → e.reply ≡ Reversal x → x.heading ≡ heading.Order
      → Before (orders_of start h) (type_of_lock start h x.asked.lock.0)
      (type_of_lock start h x.held.lock.0)
  reversal-order x is plain =
      let a = asked-reversal x is in
      let b = as-reversal a.0 a.1 x is in
      let g = basis_of (known_of start h) in
      let q = typed_request (known_of start h) a.0 in
      let before =
      breach-plain g q.type_no (type_held g b.held)
      (found-passes (violates g q) _ b.held b.violation)
      (ap (λ (y : Conflict). y.heading) b.is ∙ plain) in
      subst (λ (y : Conflict). Before (orders_of start h) (type_of_lock start h y.asked.lock.0)
      (type_of_lock start h y.held.lock.0)) b.is
      (before_from_test (orders_of start h) (type_of_lock start h a.0.lock.0)
      (type_of_lock start h b.held.lock.0)
      (ap (λ (n : TypeNo). is_before (orders_of start h) (type_of_lock start h a.0.lock.0) n.0)
      (sym (type-held (known_of start h) b.held)) ∙ before))

  pub duplicate-one : (d : Doubling) → e.reply ≡ Duplicate d
      → type_of_lock start h d.last.lock.0 ≡ type_of_lock start h d.asked.lock.0
  duplicate-one d is =
      let a = asked-duplicate d is in
      let b = as-duplicate a.0 a.1 d is in
      subst (λ (y : Doubling). type_of_lock start h y.last.lock.0
      ≡ type_of_lock start h y.asked.lock.0) b.is
      (ap (λ (n : TypeNo). n.0) (sym (type-held (known_of start h) b.last)) ∙ eqb-true _ _ b.same)

  -- the pair that a report names wasn't found before
  pub reversal-fresh : (x : Conflict) → e.reply ≡ Reversal x
      → is_found (found_of start h) (type_of_lock start h x.held.lock.0)
      (type_of_lock start h x.asked.lock.0) ≡ false
  reversal-fresh x is =
      let a = asked-reversal x is in
      let b = as-reversal a.0 a.1 x is in
      subst (λ (y : Conflict). is_found (found_of start h) (type_of_lock start h y.held.lock.0)
      (type_of_lock start h y.asked.lock.0) ≡ false) b.is
      (ap (λ (n : TypeNo). is_found (found_of start h) n.0 (type_of_lock start h a.0.lock.0))
      (sym (type-held (known_of start h) b.held)) ∙ b.fresh)

  pub duplicate-fresh : (d : Doubling) → e.reply ≡ Duplicate d
      → is_found (found_of start h) (type_of_lock start h d.asked.lock.0)
      (type_of_lock start h d.asked.lock.0) ≡ false
  duplicate-fresh d is =
      let a = asked-duplicate d is in
      let b = as-duplicate a.0 a.1 d is in
      subst (λ (y : Doubling). is_found (found_of start h) (type_of_lock start h y.asked.lock.0)
      (type_of_lock start h y.asked.lock.0) ≡ false) b.is b.fresh

-- ---- the reported pairs were all found
