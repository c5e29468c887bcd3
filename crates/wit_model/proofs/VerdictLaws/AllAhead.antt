-- Where all held locks are compared with: after a clean history's check of a lock that isn't held,
-- each lock of its kind that its seat holds is before it.
use Rattle.std.proofs.Common.{◌≡◌, ℕ, Bool, true, false, not, ◌&&◌, ◌||◌, cond, eqb, List, [], ◌∷◌}
use Rattle.std.proofs.Common.{◌++◌, map, reverse, find, Option, None, Some, Result, Ok, refl, ap}
use Rattle.std.proofs.Common.{ap₂, sym, ◌∙◌, subst, ⊎_elim}
use Rattle.std.specs.List.{list_all}
use Rattle.std.proofs.lemmas.Bool.{and_parts, and_from, and_left, and_right, or_left, or_cases}
use Rattle.std.proofs.lemmas.Bool.{or_from, true≢false, false≢true, not-true}
use Rattle.std.proofs.lemmas.List.{reverse-reverse}
use Rattle.wit_model.specs.declared.profiles.Profile.TheVariants.{Plain, AllHeld}
use Rattle.wit_model.specs.declared.faults.Fault.{Fault}
use Rattle.wit_model.specs.declared.locks.Instance.{Instance}
use Rattle.wit_model.specs.declared.locks.TypeNo.{TypeNo}
use Rattle.wit_model.specs.declared.calls.TypedRequest.{TypedRequest}
use Rattle.wit_model.specs.declared.calls.NewLock.{NewLock}
use Rattle.wit_model.specs.declared.calls.Request.{Request}
use Rattle.wit_model.specs.declared.calls.Call.TheVariants.{Check}
use Rattle.wit_model.specs.declared.calls.Reply.{Reply}
use Rattle.wit_model.specs.declared.calls.Reply.TheVariants.{Pass, AdoptedAll, Silent, Reversal}
use Rattle.wit_model.specs.declared.calls.Reply.TheVariants.{Duplicate}
use Rattle.wit_model.specs.declared.calls.Entry.{Entry}
use Rattle.wit_model.specs.Rules.Numbers.{is_given}
use Rattle.wit_model.specs.Rules.Locks.{locks_of, lock_at, has_flag, is_spin_lock, is_of_kind}
use Rattle.wit_model.specs.Rules.Orders.{is_before, is_found, adopted}
use Rattle.wit_model.specs.Rules.History.{is_on, is_report, is_held, held_of, chain, instance}
use Rattle.wit_model.specs.Rules.History.{watch_of}
use Rattle.wit_model.specs.Rules.State.{Start, known_of, typed_locks, orders_of}
use Rattle.wit_model.specs.Rules.Verdict.{Basis, type_held, is_sleepable, is_giant, place_of}
use Rattle.wit_model.specs.Rules.Verdict.{place_asked, doubled, violates, is_blessed, conflict}
use Rattle.wit_model.specs.Rules.Verdict.{reported, is_learnt, is_direct_behind, is_among}
use Rattle.wit_model.specs.Rules.Verdict.{new_parents, orders_behind, basis_of, typed_request}
use Rattle.wit_model.specs.Rules.Step.{IsLegal}
use Rattle.wit_model.specs.Rules.Clean.{is_clean_call, is_clean}
use Rattle.wit_model.proofs.Chains.Found.{if_some, found}
use Rattle.wit_model.proofs.Chains.Held.{made_sane}
use Rattle.wit_model.proofs.Histories.Accepted.{same_reply}
use Rattle.wit_model.proofs.Histories.Legal.{sane_legal}
use Rattle.wit_model.proofs.Orders.AllHeld.{on-adopted, before-on, learnt-before, settled-all}
use Rattle.wit_model.proofs.Orders.Ends.{all-reverse, none-passes, no-last}
use Rattle.wit_model.proofs.Orders.Paths.{direct-before, test_from_before}
use Rattle.wit_model.proofs.Orders.Ruled.{Says, Passed, Learnt, LearntAll, Doubled, Broken}
use Rattle.wit_model.proofs.Orders.Ruled.{Unwatched, Empty, Recursion, Known, KnownAll, Untaught}
use Rattle.wit_model.proofs.Orders.Ruled.{UntaughtAll}
use Rattle.wit_model.proofs.Orders.Learnt.{type-held, chain-held}
use Rattle.wit_model.proofs.Orders.TypedLocks.{known-made, made-known, lock_at-made}
use Rattle.wit_model.proofs.VerdictLaws.Judged.{checked, chain-of_kind}
use Rattle.wit_model.proofs.VerdictLaws.Passing.{giant-lock}
use Rattle.wit_model.proofs.VerdictLaws.Learning.{learnt-unless}
use Rattle.wit_model.proofs.VerdictLaws.Quiet.{clean-parts, watch-clean, plain-parts, unheard}
use Rattle.wit_model.proofs.VerdictLaws.Quiet.{found-clean}
use Rattle.wit_model.proofs.VerdictLaws.Ahead.{lock_leads, type-stays, given-from, made-all}

-- what follows of each element from two facts of all
both-all : {X : Type 0} (p r s : X → Bool) → ((x : X) → p x ≡ true → r x ≡ true → s x ≡ true)
    → (xs : List X) → list_all p xs ≡ true → list_all r xs ≡ true → list_all s xs ≡ true
both-all p r s so [] one two = refl
both-all p r s so (x ∷ xs) one two =
    let a = and_parts (p x) (list_all p xs) one in
    let b = and_parts (r x) (list_all r xs) two in
    and_from (s x) (list_all s xs) (so x a.0 b.0) (both-all p r s so xs a.1 b.1)

all-from : {X : Type 0} (p s : X → Bool) → ((x : X) → p x ≡ true → s x ≡ true) → (xs : List X)
    → list_all p xs ≡ true → list_all s xs ≡ true
all-from p s so xs one = both-all p p s (λ x is same. so x is) xs one one

module _ (start : Start) (files : List (List ℕ)) (all : start.profile ≡ AllHeld)
    (unblessed : start.blessed ≡ []) (e : Entry) (h : List Entry) (q : Request)
    (legal : IsLegal start files (e ∷ h)) (clean : is_clean start.profile (e ∷ h) ≡ true)
    (asks : e.call ≡ Check q) (unheld : is_held e.seat.0 q.lock.0 h ≡ false) where
  abbrev g : Basis
  g = basis_of (known_of start h)

  abbrev asked : TypedRequest
  asked = typed_request (known_of start h) q

  abbrev kind : Bool
  kind = is_spin_lock (locks_of h) q.lock.0

  abbrev c : List Instance
  c = chain kind e.seat.0 h

  -- whether a held lock's type is before the requested one's, after the check
  abbrev comes_first : Instance → Bool
  comes_first i = is_before (orders_of start (e ∷ h)) (type_held g i).0 asked.type_no.0

  orders-now : (r : Reply) → e.reply ≡ r → adopted (Check q) r ++ orders_of start h
      ≡ orders_of start (e ∷ h)
  orders-now r is = sym (ap₂ (λ x s. adopted x s ++ orders_of start h) asks is)

  direct-first : (i : Instance) → is_direct_behind g asked i ≡ true
      → is_before (orders_of start h) (type_held g i).0 asked.type_no.0 ≡ true
  direct-first i is =
      test_from_before (orders_of start h) (type_held g i).0 asked.type_no.0
      (direct-before (orders_of start h) (type_held g i).0 asked.type_no.0 is)

  -- where it passed, and all orders are known
  known-first : e.reply ≡ Pass → (xs : List Instance)
      → list_all (is_direct_behind g asked) xs ≡ true → list_all comes_first xs ≡ true
  known-first passes xs known =
      all-from (is_direct_behind g asked) comes_first
      (λ i is. subst (λ os. is_before os (type_held g i).0 asked.type_no.0 ≡ true)
      (orders-now Pass passes) (direct-first i is)) xs known

  free-chain : find (λ (i : Instance). eqb i.lock.0 q.lock.0) c ≡ None
  free-chain =
      found kind e.seat.0 q.lock.0 h (sane_legal start files h legal.2)
      ∙ ap (λ held. if_some (held && is_of_kind kind (locks_of h) q.lock.0)
      (instance e.seat.0 h q.lock.0)) unheld

  flags : (has_flag q.ops.0 0x01 ≡ true) × (not (has_flag q.ops.0 0x02) ≡ true)
  flags =
      and_parts (has_flag q.ops.0 0x01) (not (has_flag q.ops.0 0x02))
      (ap (is_clean_call start.profile) (sym asks) ∙ (clean-parts start.profile e h clean).0)

  clean-h : is_clean start.profile h ≡ true
  clean-h = (clean-parts start.profile e h clean).1.1

  no-giant : (l : ℕ) → is_given (typed_locks start h) l ≡ true
      → is_giant g (lock_at (typed_locks start h) l).type_no ≡ false
  no-giant l given =
      giant-lock start files h l legal.2 given ∙ (plain-parts start.profile h l clean-h).1

  -- a held lock that violates nothing has an order that may be learnt
  may-learn : (i : Instance) → is_held e.seat.0 i.lock.0 h ≡ true → not (violates g asked i) ≡ true
      → is_learnt g asked i ≡ true
  may-learn i held fine =
      let given =
      known-made start h i.lock.0 (made_sane e.seat.0 i.lock.0 h
      (sane_legal start files h legal.2) held) in
      let first = ap (is_giant g) (type-held (known_of start h) i) ∙ no-giant i.lock.0 given in
      let second = no-giant q.lock.0 (checked start files e h q legal asks).lock in
      learnt-unless g asked i flags.0
      (or_from (is_giant g (type_held g i) && is_sleepable g asked.type_no)
      (is_sleepable g (type_held g i) && is_giant g asked.type_no)
      (and_left (is_giant g (type_held g i)) (is_sleepable g asked.type_no) first)
      (and_right (is_sleepable g (type_held g i)) (is_giant g asked.type_no) second))
      (not-true (violates g asked i) fine)

  -- so each order is known, or learnt now
  settled : find (violates g asked) (reverse c) ≡ None
      → list_all (λ i. is_direct_behind g asked i
      || is_among (type_held g i).0 (new_parents g asked [] (reverse c))) (reverse c) ≡ true
  settled orderly =
      settled-all asked g (reverse c)
      (both-all (λ (i : Instance). is_held e.seat.0 i.lock.0 h) (λ i. not (violates g asked i))
      (λ i. is_learnt g asked i || is_direct_behind g asked i)
      (λ i held fine. or_left (is_learnt g asked i) (is_direct_behind g asked i)
      (may-learn i held fine)) (reverse c)
      (all-reverse (λ (i : Instance). is_held e.seat.0 i.lock.0 h) c (chain-held kind e.seat.0 h))
      (none-passes (violates g asked) (reverse c) orderly))

  back : list_all comes_first (reverse c) ≡ true → list_all comes_first c ≡ true
  back is =
      subst (λ xs. list_all comes_first xs ≡ true) (reverse-reverse c)
      (all-reverse comes_first (reverse c) is)

  learnt-first : (ps : List TypeNo) → e.reply ≡ AdoptedAll (orders_behind asked ps)
      → (xs : List Instance)
      → list_all (λ i. is_direct_behind g asked i || is_among (type_held g i).0 ps) xs ≡ true
      → list_all comes_first xs ≡ true
  learnt-first ps is xs some =
      all-from (λ i. is_direct_behind g asked i || is_among (type_held g i).0 ps) comes_first
      (λ i one. subst (λ os. is_before os (type_held g i).0 asked.type_no.0 ≡ true)
      (sym (on-adopted asked ps (orders_of start h))
      ∙ orders-now (AdoptedAll (orders_behind asked ps)) is)
      (⊎_elim
      (λ known. before-on asked ps (orders_of start h) (type_held g i).0 asked.type_no.0
      (direct-first i known))
      (λ new. learnt-before asked ps (orders_of start h) (type_held g i).0 new)
      (or_cases (is_direct_behind g asked i) (is_among (type_held g i).0 ps) one))) xs some

  quiet : is_report e.reply ≡ false
  quiet = (clean-parts start.profile e h clean).1.0

  not-silent : (a b : TypeNo) → e.reply ≡ Silent a b → ⊥
  not-silent a b is =
      unheard start files unblessed e h legal
      (found-clean start files unblessed h legal.2 clean-h) a b is

  -- two locks of one type are reported
  not-doubled : (i : Instance) → doubled g asked i ≡ Ok e.reply → ⊥
  not-doubled i told =
      go (has_flag asked.flags.0 0x02 || has_flag q.ops.0 0x02)
      (is_found g.found asked.type_no.0 asked.type_no.0)
      (or_from (has_flag asked.flags.0 0x02) (has_flag q.ops.0 0x02)
      (ap (λ (n : NewLock). has_flag n.flags.0 0x02) (lock_at-made start h q.lock.0)
      ∙ (plain-parts start.profile h q.lock.0 clean-h).0)
      (not-true (has_flag q.ops.0 0x02) flags.1)) told
    where
      go : (allowed f : Bool) → allowed ≡ false
          → cond {A = Result Reply Fault} allowed (Ok Pass)
          (cond f (Ok (Silent asked.type_no asked.type_no))
          (Ok (Duplicate (record { last = place_of i; asked = place_asked asked }))))
          ≡ Ok e.reply → ⊥
      go true f none same = true≢false none
      go false true none same = not-silent _ _ (sym (same_reply same))
      go false false none same = true≢false (ap is_report (same_reply same) ∙ quiet)

  -- so is a violation
  not-broken : (i : Instance) → reported g asked c i ≡ Ok e.reply → ⊥
  not-broken i told =
      go (is_found g.found (type_held g i).0 asked.type_no.0
      || is_blessed g (type_held g i) asked.type_no) told
    where
      go : (f : Bool) → cond {A = Result Reply Fault} f (Ok (Silent (type_held g i) asked.type_no))
          (Ok (Reversal (conflict g asked c i))) ≡ Ok e.reply → ⊥
      go true same = not-silent _ _ (sym (same_reply same))
      go false same = true≢false (ap is_report (same_reply same) ∙ quiet)

  not-plain : AllHeld ≡ Plain → ⊥
  not-plain same = (cc)

  all-first : Says AllHeld g (watch_of h) asked c e.reply → list_all comes_first c ≡ true
  all-first (Passed passes (Unwatched off)) =
      absurd (true≢false (sym (ap is_on (watch-clean start.profile h clean-h)) ∙ off))
  all-first (Passed passes (Empty none)) = no-last comes_first c none
  all-first (Passed passes (Recursion r)) = let e' : ◌≡◌ {A = Option Instance} None (Some r.held) =
      sym free-chain ∙ r.is_held in (cc)
  all-first (Passed passes (Known one f)) = absurd (not-plain one)
  all-first (Passed passes (KnownAll two known)) = back (known-first passes (reverse c) known)
  all-first (Passed passes (Untaught one u)) = absurd (not-plain one)
  all-first (Passed passes (UntaughtAll two u)) =
      back (known-first passes (reverse c)
      (all-from (λ i. is_direct_behind g asked i || is_among (type_held g i).0 [])
      (is_direct_behind g asked)
      (λ i one. ⊎_elim (λ known. known) (λ none. absurd (false≢true none))
      (or_cases (is_direct_behind g asked i) false one)) (reverse c)
      (subst (λ ps. list_all (λ i. is_direct_behind g asked i || is_among (type_held g i).0 ps)
      (reverse c) ≡ true) u.barred (settled u.orderly))))
  all-first (Learnt one l) = absurd (not-plain one)
  all-first (LearntAll two l) =
      back (learnt-first (new_parents g asked [] (reverse c)) l.reply (reverse c)
      (settled l.orderly))
  all-first (Doubled d) = absurd (not-doubled d.held d.reply)
  all-first (Broken v) = absurd (not-broken v.held v.reply)

  -- by the locks themselves
  locks-lead : (ls : List ℕ) → list_all (is_given (locks_of h)) ls ≡ true
      → list_all comes_first (map (instance e.seat.0 h) ls) ≡ true
      → list_all (λ l. lock_leads start (e ∷ h) l q.lock.0) ls ≡ true
  locks-lead [] given on = refl
  locks-lead (l ∷ ls) given on =
      let a = and_parts (is_given (locks_of h) l) (list_all (is_given (locks_of h)) ls) given in
      let b =
      and_parts (comes_first (instance e.seat.0 h l))
      (list_all comes_first (map (instance e.seat.0 h) ls)) on in
      and_from (lock_leads start (e ∷ h) l q.lock.0)
      (list_all (λ m. lock_leads start (e ∷ h) m q.lock.0) ls)
      (ap₂ (λ x y. is_before (orders_of start (e ∷ h)) x y)
      (type-stays start e h l (given-from h l a.0) ∙ ap (λ (n : TypeNo). n.0)
      (sym (type-held (known_of start h) (instance e.seat.0 h l))))
      (type-stays start e h q.lock.0
      (made-known start h q.lock.0 (checked start files e h q legal asks).lock))
      ∙ b.0)
      (locks-lead ls a.1 b.1)

  pub before-checked_all : list_all (λ l. lock_leads start (e ∷ h) l q.lock.0)
      (held_of kind e.seat.0 h) ≡ true
  before-checked_all =
      locks-lead (held_of kind e.seat.0 h)
      (made-all kind e.seat.0 h (sane_legal start files h legal.2))
      (all-first (subst (λ p. Says p g (watch_of h) asked c e.reply) all
      (chain-of_kind start files e h q legal asks)))
