-- No request is reported where the pairs of a history lead no type round to itself.
use Rattle.std.proofs.Common.{◌≡◌, ℕ, ◌-◌, ◌<◌, ◌≤◌, Bool, true, false, not, ◌&&◌, cond}
use Rattle.std.proofs.Common.{nat_lt, is_some, List, [], ◌∷◌, length, get_or, map, reverse}
use Rattle.std.proofs.Common.{Option, None, Some, refl, ap, sym, ◌∙◌, subst, inr, ⊎_elim}
use Rattle.std.specs.List.{list_all}
use Rattle.std.proofs.lemmas.Bool.{and_parts, and_from, true≢false, false≢true, not-true}
use Rattle.std.proofs.lemmas.Bool.{eqb-true, cases_lt, ltb-true, true_from_ne_false}
use Rattle.std.proofs.lemmas.List.Folds.{list_any-append, list_all-append, list_all_at}
use Rattle.std.proofs.lemmas.List.{get_or_past}
use Rattle.wit_model.specs.declared.profiles.Profile.{Profile}
use Rattle.wit_model.specs.declared.locks.Class.{Class}
use Rattle.wit_model.specs.declared.locks.Class.TheVariants.{Sx}
use Rattle.wit_model.specs.declared.locks.TypeNo.{TypeNo}
use Rattle.wit_model.specs.declared.locks.Instance.{Instance}
use Rattle.wit_model.specs.declared.calls.Heading.{Heading}
use Rattle.wit_model.specs.declared.calls.Heading.TheVariants as heading
use Rattle.wit_model.specs.declared.calls.NewLock.{NewLock}
use Rattle.wit_model.specs.declared.calls.Request.{Request}
use Rattle.wit_model.specs.declared.calls.TypedRequest.{TypedRequest}
use Rattle.wit_model.specs.declared.calls.Call.{Call}
use Rattle.wit_model.specs.declared.calls.Call.TheVariants.{Init, Check}
use Rattle.wit_model.specs.declared.calls.Reply.{Reply}
use Rattle.wit_model.specs.declared.calls.Reply.TheVariants.{Reversal}
use Rattle.wit_model.specs.declared.calls.Reply.TheVariants.{Duplicate, Exhausted}
use Rattle.wit_model.specs.declared.calls.Entry.{Entry}
use Rattle.wit_model.specs.Rules.Numbers.{is_given}
use Rattle.wit_model.specs.Rules.Types.{is_same_class}
use Rattle.wit_model.specs.Rules.Locks.{made, locks_of, lock_of, no_lock, lock_at, is_spin_lock, has_flag}
use Rattle.wit_model.specs.Rules.History.{is_held, chain, watch_of, is_report}
use Rattle.wit_model.specs.Rules.Orders.{is_adoption_of, is_direct, is_before, IsPath, Before, adopted}
use Rattle.wit_model.specs.Rules.Orders.{listed_orders}
use Rattle.wit_model.specs.declared.calls.Adoption.{Adoption}
use Rattle.wit_model.specs.Rules.State.{Start, known_of, typed_locks}
use Rattle.wit_model.specs.Rules.State.{orders_of}
use Rattle.wit_model.specs.Rules.Verdict.{Basis, type_held, is_sleepable, is_giant, breach, violates}
use Rattle.wit_model.specs.Rules.Verdict.{basis_of, typed_request}
use Rattle.wit_model.specs.Rules.Step.{IsLegal}
use Rattle.wit_model.specs.Rules.Clean.{is_clean_call, is_clean_entry, is_clean}
use Rattle.wit_model.specs.VerdictLaws.{is_giant_lock, is_sleepable_lock}
use Rattle.wit_recordings.specs.Recordings.{PairsLead, LeadsRoundToNone, leaves_order_to_checks, is_exhausted}
use Rattle.wit_recordings.specs.Recordings.{may_be_clean_entry, may_be_clean, TellsOf}
use Rattle.wit_model.proofs.Numbered.{with_number-or}
use Rattle.wit_model.proofs.Orders.Ends.{found-last, found-passes}
use Rattle.wit_model.proofs.Orders.Learnt.{chain-held}
use Rattle.wit_model.proofs.Orders.Paths.{before_from_test}
use Rattle.wit_model.proofs.Orders.Ruled.{Says, Passed, Learnt, LearntAll, Doubled, Broken}
use Rattle.wit_model.proofs.VerdictLaws.Classes.{type-class}
use Rattle.wit_model.proofs.VerdictLaws.Judged.{checked, chain-of_kind, is_told, told-asked}
use Rattle.wit_model.proofs.VerdictLaws.Passing.{giant-lock}
use Rattle.wit_recordings.proofs.Circles.{known_no, ToldNo, told-stays, told-known}
use Rattle.wit_recordings.proofs.Behind.{or_split, behind-told, adopted-told}

module _ (start : Start) (files : List (List ℕ)) where
  plain-parts : (e : Entry) (h : List Entry) → may_be_clean start.profile (e ∷ h) ≡ true
      → (is_clean_call start.profile e.call ≡ true) × ((leaves_order_to_checks e.call ≡ true)
      × ((is_exhausted e.reply ≡ false) × (may_be_clean start.profile h ≡ true)))
  plain-parts e h is =
      let parts = and_parts (may_be_clean_entry start.profile e) (may_be_clean start.profile h) is in
      let one =
      and_parts (is_clean_call start.profile e.call)
      (leaves_order_to_checks e.call && not (is_exhausted e.reply)) parts.0 in
      let two = and_parts (leaves_order_to_checks e.call) (not (is_exhausted e.reply)) one.1 in
      (one.0, (two.0, (not-true (is_exhausted e.reply) two.1, parts.1)))

  module _ (listless : start.lists ≡ []) where
    orders-told : (h : List Entry) → IsLegal start files h → may_be_clean start.profile h ≡ true → (p c : ℕ)
        → is_direct (orders_of start h) p c ≡ true → ToldNo start h p c
    orders-told [] legal free p c is =
        absurd (false≢true (ap (λ ls. is_direct (listed_orders ls [] []) p c) (sym listless) ∙ is))
    orders-told (e ∷ h) legal free p c is =
        let parts = plain-parts e h free in
        ⊎_elim
        (λ new. adopted-told start files e h p c legal parts.1.0 new)
        (λ old. told-stays start e h p c (orders-told h legal.2 parts.1.1.1 p c old))
        (or_split (is_direct (adopted e.call e.reply) p c) (is_direct (orders_of start h) p c)
        (sym (list_any-append (is_adoption_of p c) (adopted e.call e.reply) (orders_of start h))
        ∙ is))

    -- so pairs lead along a path of orders
    path-told : (h : List Entry) → IsLegal start files h → (os : List Adoption)
        → ((p c : ℕ) → is_direct os p c ≡ true → ToldNo start h p c)
        → (p : ℕ) (way : List ℕ) (c : ℕ) → IsPath os p way c
        → PairsLead h (known_no start h p) (map (known_no start h) way) (known_no start h c)
    path-told h legal os all p [] c is = told-known start files h p c legal (all p c is)
    path-told h legal os all p (v ∷ way) c is = (
      told-known start files h p v legal (all p v is.0),
      path-told h legal os all v way c is.1,
    )

-- ---- there is neither Giant nor a sleepable lock

abbrev is_open : NewLock → Bool
is_open lock = not (is_sleepable_lock lock) && not (is_giant_lock lock)

open_by : (profile : Profile) (c : Call) → is_clean_call profile c ≡ true → leaves_order_to_checks c ≡ true
    → list_all is_open (made c) ≡ true
open_by profile (Init lock) clean free =
    and_from (is_open lock) true
    (and_from (not (is_sleepable_lock lock)) (not (is_giant_lock lock)) free
    (and_parts (not (has_flag lock.flags.0 0x02)) (not (is_giant_lock lock)) clean).1) refl
open_by profile _ clean free = refl

module _ (start : Start) (files : List (List ℕ)) where
  open-made : (h : List Entry) → may_be_clean start.profile h ≡ true → list_all is_open (locks_of h) ≡ true
  open-made [] free = refl
  open-made (e ∷ h) free =
      let parts = plain-parts start files e h free in
      list_all-append is_open (locks_of h) (made e.call)
      ∙ and_from (list_all is_open (locks_of h)) (list_all is_open (made e.call))
      (open-made h parts.1.1.1) (open_by start.profile e.call parts.0 parts.1.0)

  all_get : (ls : List NewLock) (i : ℕ) → list_all is_open ls ≡ true
      → is_open (get_or ls i no_lock) ≡ true
  all_get ls i all =
      ⊎_elim
      (λ (lt : i < length ls). true_from_ne_false (is_open (get_or ls i no_lock))
      (λ not_so. true≢false (sym all ∙ list_all_at is_open ls i no_lock lt not_so)))
      (λ (past : length ls ≤ i). ap is_open (get_or_past ls i no_lock past) ∙ refl)
      (cases_lt i (length ls))

  open-lock : (h : List Entry) (l : ℕ) → may_be_clean start.profile h ≡ true
      → is_open (lock_of (locks_of h) l) ≡ true
  open-lock h l free = go (nat_lt 0 l) refl
    where
      go : (b : Bool) → nat_lt 0 l ≡ b → is_open (lock_of (locks_of h) l) ≡ true
      go true some =
          ap is_open (with_number-or (locks_of h) l no_lock (ltb-true 0 l some))
          ∙ all_get (locks_of h) (l - 1) (open-made h free)
      go false none = rw none refl

  open-type : (h : List Entry) (l : ℕ) → IsLegal start files h → may_be_clean start.profile h ≡ true
      → is_given (typed_locks start h) l ≡ true
      → (is_sleepable (basis_of (known_of start h)) (lock_at (typed_locks start h) l).type_no
      ≡ false)
      × (is_giant (basis_of (known_of start h)) (lock_at (typed_locks start h) l).type_no ≡ false)
  open-type h l legal free given =
      let both =
      and_parts (not (is_sleepable_lock (lock_of (locks_of h) l)))
      (not (is_giant_lock (lock_of (locks_of h) l))) (open-lock h l free) in (
        ap (λ class. is_same_class class Sx) (type-class start files h l legal given)
            ∙ not-true (is_sleepable_lock (lock_of (locks_of h) l)) both.0,
        giant-lock start files h l legal given
            ∙ not-true (is_giant_lock (lock_of (locks_of h) l)) both.1,
      )

-- so what is broken is an order
order-breach : (a b c d e : Bool) → is_some (cond {A = Option Heading} a None (cond b None
    (cond c (Some heading.Sleepable) (cond d (Some heading.Giant)
    (cond e (Some heading.Order) None)))))
    ≡ true → c ≡ false → d ≡ false → e ≡ true
order-breach true b c d e some one two = absurd (false≢true some)
order-breach false true c d e some one two = absurd (false≢true some)
order-breach false false true d e some one two = absurd (true≢false one)
order-breach false false false true e some one two = absurd (true≢false two)
order-breach false false false false true some one two = refl
order-breach false false false false false some one two = absurd (false≢true some)

breach-before : (g : Basis) (asked held : TypeNo) → is_some (breach g asked held) ≡ true
    → is_sleepable g asked ≡ false → is_giant g asked ≡ false
    → is_before g.orders asked.0 held.0 ≡ true
breach-before g asked held some awake small =
    order-breach (is_giant g asked && is_sleepable g held) (is_sleepable g asked && is_giant g held)
    (is_sleepable g asked && not (is_sleepable g held))
    (is_giant g asked && not (is_sleepable g held)) (is_before g.orders asked.0 held.0) some
    (ap (λ b. b && not (is_sleepable g held)) awake)
    (ap (λ b. b && not (is_sleepable g held)) small)

-- ---- the answers to one request

module _ (start : Start) (files : List (List ℕ))
    (listless : start.lists ≡ []) (e : Entry) (h : List Entry)
    (legal : IsLegal start files (e ∷ h)) (free : may_be_clean start.profile h ≡ true)
    (none : LeadsRoundToNone (e ∷ h)) where
  no-double : (p : ℕ) → ToldNo start (e ∷ h) p p → ⊥
  no-double p is =
      none (known_no start (e ∷ h) p) [] (told-known start files (e ∷ h) p p legal is)

  no-return : (p c : ℕ) → ToldNo start (e ∷ h) p c → Before (orders_of start h) c p → ⊥
  no-return p c is before =
      none (known_no start (e ∷ h) p)
      (known_no start (e ∷ h) c ∷ map (known_no start (e ∷ h)) before.0) (
        told-known start files (e ∷ h) p c legal is,
        path-told start files listless (e ∷ h) legal (orders_of start h)
            (λ x y one. told-stays start e h x y
            (orders-told start files listless h legal.2 free x y one))
            c before.0 p before.1,
      )

  module _ (q : Request) (asks : e.call ≡ Check q) where
    abbrev g : Basis
    g = basis_of (known_of start h)

    abbrev asked : TypedRequest
    asked = typed_request (known_of start h) q

    abbrev c : List Instance
    c = chain (is_spin_lock (locks_of h) q.lock.0) e.seat.0 h

    behind : is_told e.reply ≡ true → (i : Instance)
        → ((has : Instance → Bool) → list_all has c ≡ true → has i ≡ true)
        → ToldNo start (e ∷ h) (type_held g i).0 asked.type_no.0
    behind told i of =
        behind-told start files e h q legal asks i
        (of (λ (j : Instance). is_held e.seat.0 j.lock.0 h)
        (chain-held (is_spin_lock (locks_of h) q.lock.0) e.seat.0 h))
        (λ passes. true≢false (sym told ∙ ap is_told passes))

    unreported : Says start.profile g (watch_of h) asked c e.reply → is_told e.reply ≡ true → ⊥
    unreported (Passed passes why) told = true≢false (sym told ∙ ap is_told passes)
    unreported (LearntAll all l) told = true≢false (sym told ∙ ap is_told l.reply)
    unreported (Learnt one l) told = true≢false (sym told ∙ ap is_told l.reply)
    unreported (Doubled d) told =
        no-double asked.type_no.0
        (subst (λ n. ToldNo start (e ∷ h) n asked.type_no.0)
        (eqb-true (type_held g d.held).0 asked.type_no.0 d.same) (behind told d.held d.of_chain))
    unreported (Broken v) told =
        let awake =
        open-type start files h q.lock.0 legal.2 free
        (checked start files e h q legal asks).lock in
        no-return (type_held g v.held).0 asked.type_no.0
        (behind told v.held
        (λ has all. found-last has (violates g asked) c v.held all v.violation))
        (before_from_test (orders_of start h) asked.type_no.0 (type_held g v.held).0
        (breach-before g asked.type_no (type_held g v.held)
        (found-passes (violates g asked) (reverse c) v.held v.violation) awake.0 awake.1))

  not-told : is_told e.reply ≡ true → ⊥
  not-told told =
      let asks = told-asked start files e h legal told in
      unreported asks.0 asks.1
      (chain-of_kind start files e h asks.0 legal asks.1) told

  quiet : is_exhausted e.reply ≡ false → is_report e.reply ≡ false
  quiet enough = go e.reply refl enough
    where
      go : (r : Reply) → e.reply ≡ r → is_exhausted r ≡ false → is_report r ≡ false
      go (Reversal x) is enough = absurd (not-told (ap is_told is))
      go (Duplicate d) is enough = absurd (not-told (ap is_told is))
      go Exhausted is enough = absurd (true≢false enough)
      go r is enough = refl

-- ---- and to all

earlier-circle : (e : Entry) (h : List Entry) (a : Class × List ℕ) (way : List (Class × List ℕ))
    (b : Class × List ℕ) → PairsLead h a way b → PairsLead (e ∷ h) a way b
earlier-circle e h a [] b is = inr is
earlier-circle e h a (v ∷ way) b is = (inr is.0, earlier-circle e h v way b is.1)

pub circle_free-clean : (start : Start) (files : List (List ℕ)) (h : List Entry)
    → start.lists ≡ [] → IsLegal start files h
    → may_be_clean start.profile h ≡ true → LeadsRoundToNone h → is_clean start.profile h ≡ true
circle_free-clean start files [] listless legal free none = refl
circle_free-clean start files (e ∷ h) listless legal free none =
    let parts = plain-parts start files e h free in
    and_from (is_clean_entry start.profile e) (is_clean start.profile h)
    (and_from (is_clean_call start.profile e.call) (not (is_report e.reply)) parts.0
    (ap not (quiet start files listless e h legal parts.1.1.1 none parts.1.1.0)))
    (circle_free-clean start files h listless legal.2 parts.1.1.1
    (λ a way is. none a way (earlier-circle e h a way a is)))

-- ---- fewer pairs

more-way : (h g : List Entry) → ((a b : Class × List ℕ) → TellsOf h a b → TellsOf g a b)
    → (a : Class × List ℕ) (way : List (Class × List ℕ)) (b : Class × List ℕ)
    → PairsLead h a way b → PairsLead g a way b
more-way h g all a [] b is = all a b is
more-way h g all a (v ∷ way) b is = (all a v is.0, more-way h g all v way b is.1)

pub more-clean : (start : Start) (files : List (List ℕ)) (h g : List Entry)
    → start.lists ≡ [] → IsLegal start files h
    → may_be_clean start.profile h ≡ true → LeadsRoundToNone g
    → ((a b : Class × List ℕ) → TellsOf h a b → TellsOf g a b) → is_clean start.profile h ≡ true
more-clean start files h g listless legal free none all =
    circle_free-clean start files h listless legal free
    (λ a way is. none a way (more-way h g all a way a is))
