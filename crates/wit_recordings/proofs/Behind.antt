-- Each order that a check teaches is a pair of the history; so is what it reports.
use Rattle.std.proofs.Common.{◌≡◌, ℕ, ◌⊎◌, Bool, true, false, not, ◌&&◌, ◌||◌, cond, eqb}
use Rattle.std.proofs.Common.{is_some, is_none, List, [], ◌∷◌, map, find, reverse}
use Rattle.std.proofs.Common.{Option, None, Some, Ok, Err, refl, ap, sym, ◌∙◌, subst, inl, inr, ⊎_elim}
use Rattle.std.specs.List.{list_all, list_any, last_or}
use Rattle.std.specs.Option.{option_map}
use Rattle.std.proofs.lemmas.Bool.{and_parts, false≢true}
use Rattle.std.proofs.lemmas.Bool.{eqb-true}
use Rattle.std.proofs.lemmas.List.Folds.{list_any-append}
use Rattle.std.proofs.lemmas.List.{reverse-append}
use Rattle.wit_model.specs.declared.profiles.Profile.{Profile}
use Rattle.wit_model.specs.declared.faults.Fault.TheVariants.{SleepUnderSpin}
use Rattle.wit_model.specs.declared.locks.TypeNo.{TypeNo}
use Rattle.wit_model.specs.declared.locks.Instance.{Instance}
use Rattle.wit_model.specs.declared.locks.Site.{Site}
use Rattle.wit_model.specs.declared.locks.Watch.{Watch}
use Rattle.wit_model.specs.declared.calls.Request.{Request}
use Rattle.wit_model.specs.declared.calls.TypedRequest.{TypedRequest}
use Rattle.wit_model.specs.declared.calls.Call.{Call}
use Rattle.wit_model.specs.declared.calls.Call.TheVariants.{Check, DefineOrder}
use Rattle.wit_model.specs.declared.calls.Reply.{Reply}
use Rattle.wit_model.specs.declared.calls.Reply.TheVariants.{Pass, Adopted, AdoptedAll}
use Rattle.wit_model.specs.declared.calls.Entry.{Entry}
use Rattle.wit_model.specs.Rules.Types.{is_spin, class_of}
use Rattle.wit_model.specs.Rules.Locks.{locks_of, is_spin_lock, has_flag}
use Rattle.wit_model.specs.Rules.History.{is_on, is_held, chain}
use Rattle.wit_model.specs.Rules.Orders.{is_adoption_of, is_direct, adopted}
use Rattle.wit_model.specs.Rules.Orders.{taught_at}
use Rattle.wit_model.specs.declared.calls.Adoption.{Adoption}
use Rattle.wit_model.specs.Rules.State.{Start, known_of, state_of, seat_at}
use Rattle.wit_model.specs.Rules.Verdict.{Basis, type_held}
use Rattle.wit_model.specs.Rules.Verdict.{basis_of, typed_request, ruling, is_of, chain_asked, again}
use Rattle.wit_model.specs.Rules.Verdict.{is_exclusive, when, decided, compared, doubles, follows}
use Rattle.wit_model.specs.Rules.Verdict.{breaks_order, teaches, new_parents, orders_behind, is_new}
use Rattle.wit_model.specs.Rules.Step.{IsLegal, story_after}
use Rattle.wit_model.specs.Rules.Ahead.{type_of_lock}
use Rattle.wit_recordings.specs.Recordings.{leaves_order_to_checks}
use Rattle.wit_model.proofs.Histories.Accepted.{passed, same_reply}
use Rattle.wit_model.proofs.Orders.Ends.{all-reverse}
use Rattle.wit_model.proofs.Orders.Learnt.{learnt, learnt-all, last-held, chain-held, type-held}
use Rattle.wit_model.proofs.Orders.Learnt.{chain-judged}
use Rattle.wit_model.proofs.VerdictLaws.Classes.{type-kind}
use Rattle.wit_model.proofs.VerdictLaws.Judged.{checked}
use Rattle.wit_recordings.proofs.Circles.{ToldNo}
use Rattle.wit_recordings.proofs.Circles.{free-unheld, told-check}

pub or_split : (a b : Bool) → (a || b) ≡ true → (a ≡ true) ⊎ (b ≡ true)
or_split true b is = inl refl
or_split false b is = inr is

or_swap : (a b : Bool) → (a || (b || false)) ≡ (b || a)
or_swap true true = refl
or_swap true false = refl
or_swap false true = refl
or_swap false false = refl

any-reverse : (p : Adoption → Bool) (os : List Adoption)
    → list_any p (reverse os) ≡ list_any p os
any-reverse p [] = refl
any-reverse p (o ∷ os) =
    ap (λ d. list_any p d) (reverse-append (o ∷ []) os)
    ∙ (list_any-append p (reverse os) (o ∷ [])
    ∙ (ap (λ b. b || (p o || false)) (any-reverse p os) ∙ or_swap (list_any p os) (p o)))

-- ---- only a check of a lock that isn't held is answered more than `Pass`

again_passes : (q : TypedRequest) (i : Instance) (r : Reply) → again q i ≡ Ok r → r ≡ Pass
again_passes q i r ok =
    let one = passed (is_exclusive i.mode && not (is_exclusive q.mode)) _ _ r ok in
    let two = passed (not (is_exclusive i.mode) && is_exclusive q.mode) _ _ r one.1 in
    let three = passed (has_flag q.ops.0 0x04) _ _ r two.1 in
    let four =
    passed (is_exclusive i.mode && not (has_flag q.flags.0 0x01)) _ (Ok Pass) r three.1 in
    sym (same_reply four.1)

module _ (profile : Profile) (g : Basis) (w : Watch) (sleep spin : List Instance) (q : TypedRequest)
    (r : Reply) (ok : ruling profile g w sleep spin q ≡ Ok r) where
  abbrev judged_by : List Instance
  judged_by = chain_asked g sleep spin q

  held-passes : (i : Instance) → find (is_of q.lock.0) judged_by ≡ Some i → r ≡ Pass
  held-passes i there =
      go (is_on w) (not (is_spin (class_of q.type_no.0 g.types)) && is_some (last_or None spin))
      (is_none (last_or None judged_by))
      (subst (λ o. decided (when (not (is_on w)) (Ok Pass)
      ∷ when (not (is_spin (class_of q.type_no.0 g.types)) && is_some (last_or None spin))
      (Err SleepUnderSpin)
      ∷ when (is_none (last_or None judged_by)) (Ok Pass)
      ∷ option_map (again q) o
      ∷ doubles g (compared profile judged_by) q
      ∷ follows g (compared profile judged_by) q
      ∷ breaks_order g judged_by q
      ∷ teaches profile g (compared profile judged_by) q
      ∷ []) ≡ Ok r) there ok)
    where
      go : (watched sleeps none : Bool) → decided (when (not watched) (Ok Pass)
          ∷ when sleeps (Err SleepUnderSpin) ∷ when none (Ok Pass) ∷ option_map (again q) (Some i)
          ∷ doubles g (compared profile judged_by) q
          ∷ follows g (compared profile judged_by) q
          ∷ breaks_order g judged_by q
          ∷ teaches profile g (compared profile judged_by) q
          ∷ []) ≡ Ok r
          → r ≡ Pass
      go false sleeps none told = sym (same_reply told)
      go true true none told = (cc)
      go true false true told = sym (same_reply told)
      go true false false told = again_passes q i r told

  not_passed-free : (r ≡ Pass → ⊥) → find (is_of q.lock.0) judged_by ≡ None
  not_passed-free not_passed = go (find (is_of q.lock.0) judged_by) refl
    where
      go : (o : Option Instance) → find (is_of q.lock.0) judged_by ≡ o → o ≡ None
      go None is = refl
      go (Some i) is = absurd (not_passed (held-passes i is))

-- ---- an order is learnt behind the type of a held lock

record IsParent (g : Basis) (q : TypedRequest) (has : Instance → Bool) (p c : ℕ) : Type 0 where
  held : Instance
  is_held : has held ≡ true
  parent : (type_held g held).0 ≡ p
  child : q.type_no.0 ≡ c

parent-held : (g : Basis) (q : TypedRequest) (site : Site) (has : Instance → Bool) (p c : ℕ)
    (before : List TypeNo) (held : List Instance) → list_all has held ≡ true
    → is_direct (map (taught_at site) (orders_behind q (new_parents g q before held))) p c ≡ true
    → IsParent g q has p c
parent-held g q site has p c before [] all is = absurd (false≢true is)
parent-held g q site has p c before (i ∷ held) all is =
    let parts = and_parts (has i) (list_all has held) all in
    go (is_new g q before i) is (λ more one. parent-held g q site has p c more held parts.1 one)
  where
    go : (b : Bool)
        → is_direct (map (taught_at site) (orders_behind q
        (cond b (type_held g i ∷ new_parents g q (type_held g i ∷ before) held)
        (new_parents g q before held)))) p c
        ≡ true
        → ((more : List TypeNo) → is_direct (map (taught_at site)
        (orders_behind q (new_parents g q more held))) p c
        ≡ true → IsParent g q has p c)
        → IsParent g q has p c
    go true one rest =
        ⊎_elim
        (λ here. let both = and_parts (eqb (type_held g i).0 p) (eqb q.type_no.0 c) here in
        record {
          held = i;
          is_held = (and_parts (has i) (list_all has held) all).0;
          parent = eqb-true (type_held g i).0 p both.0;
          child = eqb-true q.type_no.0 c both.1;
        })
        (λ later. rest (type_held g i ∷ before) later)
        (or_split (eqb (type_held g i).0 p && eqb q.type_no.0 c) _ one)
    go false one rest = rest before one

-- ---- a learnt order is a pair of the history

module _ (start : Start) (files : List (List ℕ)) where
  module _ (e : Entry) (h : List Entry) (q : Request) (legal : IsLegal start files (e ∷ h))
      (asks : e.call ≡ Check q) where
    abbrev own_chain : List Instance
    own_chain = chain (is_spin_lock (locks_of h) q.lock.0) e.seat.0 h

    own-judged : chain_asked (basis_of (known_of start h))
        (seat_at (state_of (story_after start files h)) e.seat.0).sleep
        (seat_at (state_of (story_after start files h)) e.seat.0).spin
        (typed_request (known_of start h) q)
        ≡ own_chain
    own-judged =
        let accepted = checked start files e h q legal asks in
        chain-judged start files h e.seat.0 q accepted.seat
        ∙ ap (λ k. chain k e.seat.0 h) (type-kind start files h q.lock.0 legal.2 accepted.lock)

    unheld-by : (e.reply ≡ Pass → ⊥) → is_held e.seat.0 q.lock.0 h ≡ false
    unheld-by not_passed =
        let s = state_of (story_after start files h) in
        free-unheld start files e h q legal asks
        (subst (λ c. find (is_of q.lock.0) c ≡ None) own-judged
        (not_passed-free start.profile (basis_of (known_of start h)) s.watch
        (seat_at s e.seat.0).sleep (seat_at s e.seat.0).spin (typed_request (known_of start h) q)
        e.reply (checked start files e h q legal asks).verdict not_passed))

    -- so a held lock's type and the requested one's are a pair of the history
    pub behind-told : (i : Instance) → is_held e.seat.0 i.lock.0 h ≡ true → (e.reply ≡ Pass → ⊥)
        → ToldNo start (e ∷ h) (type_held (basis_of (known_of start h)) i).0
        (type_of_lock start h q.lock.0)
    behind-told i holds not_passed =
        subst (λ (n : TypeNo). ToldNo start (e ∷ h) n.0 (type_of_lock start h q.lock.0))
        (sym (type-held (known_of start h) i))
        (told-check start files e h q legal asks i.lock.0 holds (unheld-by not_passed))

    learnt-told : (a b : TypeNo) → e.reply ≡ Adopted a b → ToldNo start (e ∷ h) a.0 b.0
    learnt-told a b is =
        let s = state_of (story_after start files h) in
        let g = basis_of (known_of start h) in
        let l =
        learnt start.profile g s.watch (seat_at s e.seat.0).sleep (seat_at s e.seat.0).spin
        (typed_request (known_of start h) q) a b
        ((checked start files e h q legal asks).verdict ∙ ap Ok is) in
        let holds =
        last-held (is_spin_lock (locks_of h) q.lock.0) e.seat.0 h l.last
        (subst (λ c. last_or None c ≡ Some l.last) own-judged l.is_new.behind.is_last) in
        subst (λ (n : TypeNo). ToldNo start (e ∷ h) n.0 b.0) l.parent
        (subst (λ (n : TypeNo). ToldNo start (e ∷ h) (type_held g l.last).0 n.0) l.child
        (behind-told l.last holds
        (λ passes. let none : ◌≡◌ {A = Reply} (Adopted a b) Pass = sym is ∙ passes in cc)))

    learnt_all-told : (ps : List (TypeNo × TypeNo)) → e.reply ≡ AdoptedAll ps → (p c : ℕ)
        → is_direct (map (taught_at q.site) ps) p c ≡ true → ToldNo start (e ∷ h) p c
    learnt_all-told ps is p c one =
        let s = state_of (story_after start files h) in
        let g = basis_of (known_of start h) in
        let asked = typed_request (known_of start h) q in
        let l =
        learnt-all start.profile g s.watch (seat_at s e.seat.0).sleep (seat_at s e.seat.0).spin
        asked ps ((checked start files e h q legal asks).verdict ∙ ap Ok is) in
        let judged =
        chain_asked g (seat_at s e.seat.0).sleep (seat_at s e.seat.0).spin asked in
        let held : list_all (λ (i : Instance). is_held e.seat.0 i.lock.0 h) judged ≡ true
        = subst (λ d. list_all (λ (i : Instance). is_held e.seat.0 i.lock.0 h) d ≡ true)
        (sym own-judged) (chain-held (is_spin_lock (locks_of h) q.lock.0) e.seat.0 h) in
        let parent =
        parent-held g asked q.site (λ (i : Instance). is_held e.seat.0 i.lock.0 h) p c []
        (reverse judged)
        (all-reverse (λ (i : Instance). is_held e.seat.0 i.lock.0 h) judged held)
        (subst (λ xs. is_direct (map (taught_at q.site) xs) p c ≡ true) l.pairs one) in
        subst (λ n. ToldNo start (e ∷ h) n c) parent.parent
        (subst (λ n. ToldNo start (e ∷ h) (type_held g parent.held).0 n) parent.child
        (behind-told parent.held parent.is_held
        (λ passes. let none : ◌≡◌ {A = Reply} (AdoptedAll ps) Pass = sym is ∙ passes in cc)))

  pub adopted-told : (e : Entry) (h : List Entry) (p c : ℕ) → IsLegal start files (e ∷ h)
      → leaves_order_to_checks e.call ≡ true → is_direct (adopted e.call e.reply) p c ≡ true
      → ToldNo start (e ∷ h) p c
  adopted-told e h p c legal unordered direct = go e.call e.reply refl refl unordered direct
    where
      go : (call : Call) (r : Reply) → e.call ≡ call → e.reply ≡ r → leaves_order_to_checks call ≡ true
          → is_direct (adopted call r) p c ≡ true → ToldNo start (e ∷ h) p c
      go (Check q) (Adopted a b) asks is free one =
          let here =
          ⊎_elim {C = (eqb a.0 p && eqb b.0 c) ≡ true} (λ x. x)
          (λ x. absurd (false≢true x))
          (or_split (eqb a.0 p && eqb b.0 c) false one) in
          let parts = and_parts (eqb a.0 p) (eqb b.0 c) here in
          subst (λ n. ToldNo start (e ∷ h) n c) (eqb-true a.0 p parts.0)
          (subst (λ n. ToldNo start (e ∷ h) a.0 n) (eqb-true b.0 c parts.1)
          (learnt-told e h q legal asks a b is))
      go (Check q) (AdoptedAll ps) asks is free one =
          learnt_all-told e h q legal asks ps is p c
          (sym (any-reverse (is_adoption_of p c) (map (taught_at q.site) ps)) ∙ one)
      go (DefineOrder a b) r asks is free one = absurd (false≢true free)
      go call r asks is free one = absurd (false≢true one)
