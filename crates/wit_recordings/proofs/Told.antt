-- A circle of threads of which a clean history tells would be a circle of its pairs.
use Rattle.std.proofs.Common.{◌≡◌, ℕ, ◌-◌, ◌+◌, ◌<◌, Bool, true, false, cond, eqb, nat_lt}
use Rattle.std.proofs.Common.{List, [], ◌∷◌, count_by}
use Rattle.std.proofs.Common.{None, refl, ap, ap₂, sym, ◌∙◌, subst, inl, inr, arith}
use Rattle.std.proofs.lemmas.Bool.{eq-eqb}
use Rattle.std.proofs.lemmas.Bool.Decides.{eqb_tells}
use Rattle.std.proofs.lemmas.List.Sums.{sum_by-cons}
use Rattle.wit_model.specs.declared.locks.Class.{Class}
use Rattle.wit_model.specs.declared.calls.NewLock.{NewLock}
use Rattle.wit_model.specs.declared.calls.Request.{Request}
use Rattle.wit_model.specs.declared.calls.Call.TheVariants.{Check}
use Rattle.wit_model.specs.declared.calls.Entry.{Entry}
use Rattle.wit_model.specs.Rules.Numbers.{IsGiven}
use Rattle.wit_model.specs.Rules.Types.{is_spin, type_number, type_name_of}
use Rattle.wit_model.specs.Rules.Locks.{made, locks_of, lock_of, no_lock, is_spin_lock}
use Rattle.wit_model.specs.Rules.History.{Nothing, act, act_by, is_record, is_release, records}
use Rattle.wit_model.specs.Rules.History.{releases, num, is_held}
use Rattle.wit_model.specs.Rules.Orders.{Before}
use Rattle.wit_model.specs.Rules.State.{Start, types_of, orders_of}
use Rattle.wit_model.specs.Rules.Start.{start_fault}
use Rattle.wit_model.specs.Rules.Step.{IsLegal}
use Rattle.wit_model.specs.Rules.Ahead.{type_of_lock, IsAhead}
use Rattle.wit_model.specs.Rules.Clean.{is_clean}
use Rattle.wit_model.specs.World.Deeds.{Deed, Logged, PassedOver, Take, TryTake, Free, RawUp}
use Rattle.wit_model.specs.World.Deeds.{RawDown, thread_of, own, log_of, shares}
use Rattle.wit_model.specs.World.Stages.{Stage, Asked, stage}
use Rattle.wit_model.specs.World.Waiting.{IsWaiting, IsDeadlock}
use Rattle.wit_recordings.specs.Recordings.{named_type, AsksWhileHolding, TellsOf, AsksWithin, AllAskWithin, TellsOfDeeds}
use Rattle.wit_model.proofs.Numbered.{with_number-stays}
use Rattle.wit_model.proofs.Chains.Held.{made_sane}
use Rattle.wit_model.proofs.Chains.HeldLocks.{num-of_held, num-of_free}
use Rattle.wit_model.proofs.Histories.Legal.{sane_legal}
use Rattle.wit_model.proofs.VerdictLaws.Judged.{checked}
use Rattle.wit_model.proofs.Orders.TypedLocks.{length-typed, lock_at-made, made-known}
use Rattle.wit_model.proofs.Orders.Types.{typed_made}
use Rattle.wit_model.proofs.VerdictLaws.AheadLaws.{ahead-at_check, ahead-stays, ahead-trans}
use Rattle.wit_model.proofs.VerdictLaws.AheadLaws.{ahead-sound}
use Rattle.wit_model.proofs.VerdictLaws.Quiet.{clean-parts}
use Rattle.wit_model.proofs.World.Own.{own-mine, own-other, shares-other, num-own, asked-deed}
use Rattle.wit_model.proofs.World.Own.{act-mine}
use Rattle.wit_model.proofs.World.Rounds.{round}

-- ---- types by class and name

pub known-stays : (e : Entry) (h : List Entry) (l : ℕ) → IsGiven (locks_of h) l
    → named_type (lock_of (locks_of (e ∷ h)) l) ≡ named_type (lock_of (locks_of h) l)
known-stays e h l given =
    ap named_type (with_number-stays (locks_of h) (made e.call) l no_lock given.0
    (omega (arith, given.0, given.1)))

type-named : (start : Start) (h : List Entry) (l : ℕ) → IsGiven (locks_of h) l
    → type_of_lock start h l ≡ type_number (type_name_of (lock_of (locks_of h) l)) (types_of start h)
type-named start h l given =
    (typed_made start h l given.0 (omega (arith, given.1, length-typed start h))).number
    ∙ ap (λ (k : NewLock). type_number (type_name_of k) (types_of start h)) (lock_at-made start h l)

same-type : (start : Start) (h : List Entry) (l m : ℕ) → IsGiven (locks_of h) l
    → IsGiven (locks_of h) m
    → named_type (lock_of (locks_of h) l) ≡ named_type (lock_of (locks_of h) m)
    → type_of_lock start h l ≡ type_of_lock start h m
same-type start h l m one two same =
    type-named start h l one
    ∙ (ap (λ (k : Class × List ℕ). type_number k.1 (types_of start h)) same
    ∙ sym (type-named start h m two))

same-kind : (h : List Entry) (l m : ℕ)
    → named_type (lock_of (locks_of h) l) ≡ named_type (lock_of (locks_of h) m)
    → is_spin_lock (locks_of h) l ≡ is_spin_lock (locks_of h) m
same-kind h l m same = ap (λ (k : Class × List ℕ). is_spin k.0) same

-- a lock of this type is ahead of that one
swapped : (start : Start) (h : List Entry) (l m c : ℕ) → IsGiven (locks_of h) l
    → named_type (lock_of (locks_of h) l) ≡ named_type (lock_of (locks_of h) m)
    → IsAhead start h m c → IsAhead start h l c
swapped start h l m c given same is = record {
  first = given;
  second = is.second;
  kinds = λ spins. is.kinds (sym (same-kind h l m same) ∙ spins);
  types = λ kind.
      subst (λ t. Before (orders_of start h) t (type_of_lock start h c))
      (sym (same-type start h l m given is.first same))
      (is.types (sym (same-kind h l m same) ∙ kind));
}

-- ---- a type leads to another where some lock of it is ahead of one of the other

pub record Leads (start : Start) (h : List Entry) (a b : Class × List ℕ) : Type 0 where
  pub from : ℕ
  pub to : ℕ
  pub ahead : IsAhead start h from to
  pub first : named_type (lock_of (locks_of h) from) ≡ a
  pub second : named_type (lock_of (locks_of h) to) ≡ b

pub leads-stays : (start : Start) (e : Entry) (h : List Entry) (a b : Class × List ℕ)
    → Leads start h a b → Leads start (e ∷ h) a b
leads-stays start e h a b is = record {
  from = is.from;
  to = is.to;
  ahead = ahead-stays start e h is.from is.to is.ahead;
  first = known-stays e h is.from is.ahead.first ∙ is.first;
  second = known-stays e h is.to is.ahead.second ∙ is.second;
}

pub leads-trans : (start : Start) (h : List Entry) (a b c : Class × List ℕ) → Leads start h a b
    → Leads start h b c → Leads start h a c
leads-trans start h a b c one two = record {
  from = one.from;
  to = two.to;
  ahead =
      ahead-trans start h one.from one.to two.to one.ahead
      (swapped start h one.to two.from two.to one.ahead.second (one.second ∙ sym two.first)
      two.ahead);
  first = one.first;
  second = two.second;
}

pub leads-sound : (start : Start) (files : List (List ℕ)) (h : List Entry) (a : Class × List ℕ)
    → start_fault start ≡ None → IsLegal start files h → Leads start h a a → ⊥
leads-sound start files h a accepted legal is =
    ahead-sound start files h is.to accepted legal
    (swapped start h is.to is.from is.to is.ahead.second (is.second ∙ sym is.first) is.ahead)

-- ---- a clean history's pairs lead

module _ (start : Start) (files : List (List ℕ)) (unblessed : start.blessed ≡ []) where
  told-now : (e : Entry) (h : List Entry) (a b : Class × List ℕ) → IsLegal start files (e ∷ h)
      → is_clean start.profile (e ∷ h) ≡ true → AsksWhileHolding h e a b → Leads start (e ∷ h) a b
  told-now e h a b legal clean is =
      let ahead =
      ahead-at_check start files unblessed e h is.request is.other legal clean is.asks
      (num-of_free e.seat.0 is.request.lock.0 h is.unheld)
      (num-of_held e.seat.0 is.other h is.holds) in
      let held =
      made_sane e.seat.0 is.other h (sane_legal start files h legal.2) is.holds in
      let asked =
      made-known start h is.request.lock.0
      (checked start files e h is.request legal is.asks).lock in
      record {
        from = is.other;
        to = is.request.lock.0;
        ahead = ahead;
        first = known-stays e h is.other held ∙ is.first;
        second = known-stays e h is.request.lock.0 asked ∙ is.second;
      }

  pub told-leads : (h : List Entry) (a b : Class × List ℕ) → IsLegal start files h
      → is_clean start.profile h ≡ true → TellsOf h a b → Leads start h a b
  told-leads [] a b legal clean is = absurd is
  told-leads (e ∷ h) a b legal clean (inl now) = told-now e h a b legal clean now
  told-leads (e ∷ h) a b legal clean (inr before) =
      leads-stays start e h a b
      (told-leads h a b legal.2 (clean-parts start.profile e h clean).1.1 before)

-- ---- the pair of a waiting thread

count-cons : (p : Entry → Bool) (e : Entry) (h : List Entry)
    → count_by p (e ∷ h) ≡ cond (p e) 1 0 + count_by p h
count-cons p e h = sum_by-cons (λ (x : Entry). cond (p x) 1 0) e h

count-none : (p : Entry → Bool) (e : Entry) (h : List Entry) → p e ≡ false
    → count_by p (e ∷ h) ≡ count_by p h
count-none p e h none =
    let more = count-cons p e h ∙ ap (λ b. cond b 1 0 + count_by p h) none in omega (arith, more)

num-idle : (t l : ℕ) (e : Entry) (h : List Entry) → act_by t e ≡ Nothing
    → num t l (e ∷ h) ≡ num t l h
unfolding num
num-idle t l e h none =
    ap₂ (λ a b. a - b)
    (count-none (records t l) e h (ap (λ a. is_record l a) none))
    (count-none (releases t l) e h (ap (λ a. is_release l a) none))

held-idle : (t l : ℕ) (e : Entry) (h : List Entry) → act_by t e ≡ Nothing
    → is_held t l (e ∷ h) ≡ is_held t l h
held-idle t l e h none = ap (λ n. nat_lt 0 n) (num-idle t l e h none)

held-other : (t l : ℕ) (d : Deed) (v : List Deed) → eqb (thread_of d) t ≡ false
    → is_held t l (log_of (d ∷ v)) ≡ is_held t l (log_of v)
held-other t l d v other =
    ap (λ n. nat_lt 0 n) (sym (num-own t l (d ∷ v))
    ∙ (ap (λ o. num t l (log_of o)) (own-other t d v other) ∙ num-own t l v))

module _ (Pairs : Class × List ℕ → Class × List ℕ → Type 0) (named : ℕ → Class × List ℕ) where
  asked-now : (d : Deed) (v : List Deed) (q : Request) (l : ℕ) (e : Entry) → d ≡ Logged e
      → e.call ≡ Check q → AsksWithin Pairs named d v
      → is_held (thread_of d) q.lock.0 (log_of (d ∷ v)) ≡ false
      → 0 < shares (thread_of d) l (d ∷ v) → Pairs (named l) (named q.lock.0)
  asked-now (Logged f) v q l e is asks told unheld some =
      let same : f ≡ e = cc in
      let call : f.call ≡ Check q = ap (λ (x : Entry). x.call) same ∙ asks in
      let idle =
      act-mine f.seat.0 f (eq-eqb f.seat.0 f.seat.0 refl) ∙ ap (λ c. act c f.reply) call in
      told q l call (sym (held-idle f.seat.0 q.lock.0 f (log_of v) idle) ∙ unheld) some
  asked-now (Take u m mode) v q l e is asks told unheld some = (cc)
  asked-now (TryTake u m mode) v q l e is asks told unheld some = (cc)
  asked-now (PassedOver u c) v q l e is asks told unheld some = (cc)
  asked-now (Free u m) v q l e is asks told unheld some = (cc)
  asked-now (RawUp u m) v q l e is asks told unheld some = (cc)
  asked-now (RawDown u m) v q l e is asks told unheld some = (cc)

  head-of : (d e : Deed) (v w : List Deed) → ◌≡◌ {A = List Deed} (d ∷ v) (e ∷ w) → d ≡ e
  head-of d e v w is = (cc)

  asked-told : (t : ℕ) (q : Request) (l : ℕ) (v : List Deed) → stage t (own t v) ≡ Asked q
      → is_held t q.lock.0 (log_of v) ≡ false → 0 < shares t l v → AllAskWithin Pairs named v
      → Pairs (named l) (named q.lock.0)
  asked-told t q l [] asks unheld some told = (cc)
  asked-told t q l (d ∷ v) asks unheld some told =
      elim (eqb_tells (thread_of d) t) [
        | inl mine ↦
            let made = asked-deed t (own t (d ∷ v)) q asks in
            let head =
            head-of d (Logged made.0) (own t v) made.1 (sym (own-mine t d v mine.0) ∙ made.2) in
            asked-now d v q l made.0 head made.3 told.0
            (subst (λ k. is_held k q.lock.0 (log_of (d ∷ v)) ≡ false) (sym mine.1) unheld)
            (subst (λ k. 0 < shares k l (d ∷ v)) (sym mine.1) some)
        | inr other ↦
            asked-told t q l v
            (ap (λ o. stage t o) (sym (own-other t d v other.0)) ∙ asks)
            (sym (held-other t q.lock.0 d v other.0) ∙ unheld)
            (subst (λ n. 0 < n) (shares-other t l d v other.0) some) told.1
      ]

-- ---- a circle of threads gives one of types

abbrev lock_asked : Stage → ℕ
lock_asked (Asked q) = q.lock.0
lock_asked _ = 0

-- where each pair leads, a circle of threads that keep to the pairs leads some type to itself
module _ (Pairs Leading : Class × List ℕ → Class × List ℕ → Type 0) (named : ℕ → Class × List ℕ)
    (v : List Deed) (lead : (a b : Class × List ℕ) → Pairs a b → Leading a b)
    (join : (a b c : Class × List ℕ) → Leading a b → Leading b c → Leading a c)
    (told : AllAskWithin Pairs named v) where
  abbrev wanted : ℕ → Class × List ℕ
  wanted t = named (lock_asked (stage t (own t v)))

  link : (t u x : ℕ) → IsWaiting v t u → IsWaiting v u x → Leading (wanted t) (wanted u)
  link t u x one two =
      let leads =
      lead (named one.request.lock.0) (named two.request.lock.0)
      (asked-told Pairs named u two.request one.request.lock.0 v two.asks two.unheld one.taken told)
      in
      subst (λ a. Leading (named a) (wanted u)) (sym (ap lock_asked one.asks))
      (subst (λ b. Leading (named one.request.lock.0) (named b)) (sym (ap lock_asked two.asks))
      leads)

  pub circle-leads : (threads : List ℕ) → IsDeadlock v threads → (a : Class × List ℕ) × Leading a a
  circle-leads threads circle =
      let back =
      round (IsWaiting v) (λ t u. Leading (wanted t) (wanted u)) link
      (λ t u x. join (wanted t) (wanted u) (wanted x)) threads circle in
      (wanted back.0, back.1)

pub no_told_circle : (start : Start) (files : List (List ℕ)) (h : List Entry)
    (named : ℕ → Class × List ℕ) (v : List Deed) → start_fault start ≡ None → start.blessed ≡ []
    → IsLegal start files h → is_clean start.profile h ≡ true → TellsOfDeeds h named v
    → (threads : List ℕ) → IsDeadlock v threads → ⊥
no_told_circle start files h named v accepted unblessed legal clean told threads circle =
    let back =
    circle-leads (TellsOf h) (Leads start h) named v
    (λ a b. told-leads start files unblessed h a b legal clean) (leads-trans start h) told threads
    circle in
    leads-sound start files h back.0 accepted legal back.1

-- ---- more pairs tell more

deed-more : (h g : List Entry) (named : ℕ → Class × List ℕ)
    → ((a b : Class × List ℕ) → TellsOf h a b → TellsOf g a b) → (d : Deed) (v : List Deed)
    → AsksWithin (TellsOf h) named d v → AsksWithin (TellsOf g) named d v
deed-more h g named all (Logged e) v told = λ q l asks unheld some.
    all (named l) (named q.lock.0) (told q l asks unheld some)
deed-more h g named all (Take u m mode) v told = tt
deed-more h g named all (TryTake u m mode) v told = tt
deed-more h g named all (PassedOver u c) v told = tt
deed-more h g named all (Free u m) v told = tt
deed-more h g named all (RawUp u m) v told = tt
deed-more h g named all (RawDown u m) v told = tt

pub told-more : (h g : List Entry) (named : ℕ → Class × List ℕ) (v : List Deed)
    → ((a b : Class × List ℕ) → TellsOf h a b → TellsOf g a b) → TellsOfDeeds h named v → TellsOfDeeds g named v
told-more h g named [] all told = tt
told-more h g named (d ∷ v) all told =
    (deed-more h g named all d v told.0, told-more h g named v all told.1)
