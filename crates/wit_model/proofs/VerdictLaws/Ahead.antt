-- What a seat newly holds, or asks for, where its locks of a kind rise.
use Rattle.std.proofs.Common.{◌≡◌, ℕ, Bool, true, false, ◌&&◌, ◌||◌, cond, eqb, is_some, List, []}
use Rattle.std.proofs.Common.{◌∷◌, ◌++◌, length, filter, Option, Some, Ok, refl, ap, ap₂, sym, ◌∙◌}
use Rattle.std.proofs.Common.{subst, arith, append-nil, nat_lt}
use Rattle.std.specs.List.{list_all}
use Rattle.std.proofs.lemmas.Bool.{and_parts, and_from, or_left, true≢false, false≢true, not-true}
use Rattle.std.proofs.lemmas.Bool.{lt-ltb, le-leb, ltb-true, leb-true}
use Rattle.std.proofs.lemmas.List.Elements.{filter-append}
use Rattle.wit_model.specs.declared.profiles.Profile.TheVariants.{Plain}
use Rattle.wit_model.specs.declared.calls.Adoption.{Adoption}
use Rattle.wit_model.specs.declared.calls.NewLock.{NewLock}
use Rattle.wit_model.specs.declared.calls.Request.{Request}
use Rattle.wit_model.specs.declared.calls.Call.{Call}
use Rattle.wit_model.specs.declared.calls.Call.TheVariants.{Init, Check, Note, NoteTry, GiveUp}
use Rattle.wit_model.specs.declared.calls.Call.TheVariants.{Unlock, Downgrade, NoRelease, ReleaseOk}
use Rattle.wit_model.specs.declared.calls.Call.TheVariants.{Upgrade}
use Rattle.wit_model.specs.declared.calls.Reply.{Reply}
use Rattle.wit_model.specs.declared.calls.Reply.TheVariants.{Recorded, Unlocked}
use Rattle.wit_model.specs.declared.calls.Entry.{Entry}
use Rattle.wit_model.specs.Rules.Numbers.{is_given, IsGiven}
use Rattle.wit_model.specs.Rules.Locks.{locks_of, is_spin_lock, is_of_kind}
use Rattle.wit_model.specs.Rules.Orders.{is_before, adopted}
use Rattle.wit_model.specs.Rules.History.{Act, Nothing, Records, Releases, act, act_by, is_held}
use Rattle.wit_model.specs.Rules.History.{held, held_of, pending, pending_after}
use Rattle.wit_model.specs.Rules.State.{Start, state_of, seat_at, is_seat, orders_of}
use Rattle.wit_model.specs.Rules.Step.{is_pending, answer_of, story_after, is_logged}
use Rattle.wit_model.specs.Rules.Ahead.{type_of_lock}
use Rattle.wit_model.specs.Rules.Clean.{is_clean_call}
use Rattle.wit_model.proofs.Lists.{filter-swap, list_all-filter, list_all-both}
use Rattle.wit_model.proofs.Chains.Sane.{IsSane, IsFit, fit_by}
use Rattle.wit_model.proofs.Chains.Acts.{num-step}
use Rattle.wit_model.proofs.Chains.Effects.{is_not, Effect, Same, New, Gone, held-same}
use Rattle.wit_model.proofs.Chains.Held.{held-all, held_of-all, made_sane, kind-stays, kinds-stay}
use Rattle.wit_model.proofs.Histories.Accepted.{asked-lock, same-request}
use Rattle.wit_model.proofs.Histories.AcceptedLocks.{init_accepted}
use Rattle.wit_model.proofs.Histories.Accepted.{note_accepted, try_accepted, unlock_accepted}
use Rattle.wit_model.proofs.Histories.AcceptedTurns.{plain_accepted}
use Rattle.wit_model.proofs.Histories.Legal.{pending-state, plain-unrecorded}
use Rattle.wit_model.proofs.Orders.TypedLocks.{length-typed}
use Rattle.wit_model.proofs.Orders.Types.{lock-stays}
use Rattle.wit_model.proofs.VerdictLaws.Rises.{is_rising, rises_push, rises_filter, rises_also}
use Rattle.wit_model.proofs.VerdictLaws.Rises.{before_also}

-- the first lock's type is before the second one's
abbrev pub lock_leads : Start → List Entry → ℕ → ℕ → Bool
lock_leads start h l m =
    is_before (orders_of start h) (type_of_lock start h l) (type_of_lock start h m)

-- ---- which stays so

before-added : (new os : List Adoption) (a b : ℕ) → is_before os a b ≡ true
    → is_before (new ++ os) a b ≡ true
before-added [] os a b is = is
before-added (o ∷ new) os a b is =
    or_left (is_before (new ++ os) a b) ((eqb o.parent.0 a || is_before (new ++ os) a o.parent.0)
    && (eqb o.child.0 b || is_before (new ++ os) o.child.0 b))
    (before-added new os a b is)

pub type-stays : (start : Start) (e : Entry) (h : List Entry) (l : ℕ) → IsGiven (locks_of h) l
    → type_of_lock start (e ∷ h) l ≡ type_of_lock start h l
type-stays start e h l given =
    ap (λ k. k.type_no.0) (lock-stays start e h l given.0
    (omega (arith, given.1, length-typed start h)))

pub leads-stays : (start : Start) (e : Entry) (h : List Entry) (l m : ℕ) → IsGiven (locks_of h) l
    → IsGiven (locks_of h) m → lock_leads start h l m ≡ true → lock_leads start (e ∷ h) l m ≡ true
leads-stays start e h l m first second is =
    ap₂ (λ a b. is_before (orders_of start (e ∷ h)) a b) (type-stays start e h l first)
    (type-stays start e h m second)
    ∙ before-added (adopted e.call e.reply) (orders_of start h) (type_of_lock start h l)
    (type_of_lock start h m) is

given-test : (h : List Entry) (l : ℕ) → IsGiven (locks_of h) l → is_given (locks_of h) l ≡ true
given-test h l given = and_from _ _ (lt-ltb 0 l given.0) (le-leb l (length (locks_of h)) given.1)

pub given-from : (h : List Entry) (l : ℕ) → is_given (locks_of h) l ≡ true → IsGiven (locks_of h) l
given-from h l is = let parts =
    and_parts _ _ is in (ltb-true 0 l parts.0, leb-true l (length (locks_of h)) parts.1)

leads-more : (start : Start) (e : Entry) (h : List Entry) (l m : ℕ) → is_given (locks_of h) l ≡ true
    → is_given (locks_of h) m ≡ true → lock_leads start h l m ≡ true
    → lock_leads start (e ∷ h) l m ≡ true
leads-more start e h l m first second is =
    leads-stays start e h l m (given-from h l first) (given-from h m second) is

pub made-all : (k : Bool) (t : ℕ) (h : List Entry) → IsSane h
    → list_all (is_given (locks_of h)) (held_of k t h) ≡ true
made-all k t h sane =
    list_all-both (λ l. is_held t l h && is_of_kind k (locks_of h) l) (is_given (locks_of h))
    (λ l is. given-test h l (made_sane t l h sane
    (and_parts (is_held t l h) (is_of_kind k (locks_of h) l) is).0)) (held_of k t h)
    (held_of-all k t h)

pub rises-stays : (start : Start) (k : Bool) (t : ℕ) (e : Entry) (h : List Entry) → IsSane h
    → is_rising (lock_leads start h) (held_of k t h) ≡ true
    → is_rising (lock_leads start (e ∷ h)) (held_of k t h) ≡ true
rises-stays start k t e h sane up =
    rises_also (lock_leads start h) (lock_leads start (e ∷ h)) (is_given (locks_of h))
    (leads-more start e h) (held_of k t h) (made-all k t h sane) up

pub before-stays : (start : Start) (k : Bool) (t : ℕ) (e : Entry) (h : List Entry) (m : ℕ)
    → IsSane h
    → IsGiven (locks_of h) m
    → list_all (λ l. lock_leads start h l m) (held_of k t h) ≡ true
    → list_all (λ l. lock_leads start (e ∷ h) l m) (held_of k t h) ≡ true
before-stays start k t e h m sane given all =
    before_also (lock_leads start h) (lock_leads start (e ∷ h)) (is_given (locks_of h))
    (leads-more start e h) m (given-test h m given) (held_of k t h) (made-all k t h sane) all

-- ---- the locks that are held after an entry

held_of-same : (k : Bool) (t : ℕ) (e : Entry) (h : List Entry) → IsSane h
    → ((l : ℕ) → is_held t l (e ∷ h) ≡ is_held t l h) → held_of k t (e ∷ h) ≡ held_of k t h
held_of-same k t e h sane same =
    ap (λ ls. filter (is_of_kind k (locks_of (e ∷ h))) ls) (held-same t e h same)
    ∙ kinds-stay k t e h sane (held t h) (held-all t h)

pub held-quiet : (t l : ℕ) (e : Entry) (h : List Entry) → IsSane h → act_by t e ≡ Nothing
    → is_held t l (e ∷ h) ≡ is_held t l h
held-quiet t l e h sane none = ap (λ n. nat_lt 0 n) (num-step t l e h Nothing none sane)

pub held_of-quiet : (k : Bool) (t : ℕ) (e : Entry) (h : List Entry) → IsSane h
    → act_by t e ≡ Nothing → held_of k t (e ∷ h) ≡ held_of k t h
held_of-quiet k t e h sane none = held_of-same k t e h sane (λ l. held-quiet t l e h sane none)

held_of-gone : (k : Bool) (t m : ℕ) (e : Entry) (h : List Entry) → IsSane h
    → held t (e ∷ h) ≡ filter (is_not m) (held t h)
    → held_of k t (e ∷ h) ≡ filter (is_not m) (held_of k t h)
held_of-gone k t m e h sane is =
    ap (λ ls. filter (is_of_kind k (locks_of (e ∷ h))) ls) is
    ∙ kinds-stay k t e h sane (filter (is_not m) (held t h))
    (list_all-filter (λ l. is_held t l h) (is_not m) (held t h) (held-all t h))
    ∙ filter-swap (is_of_kind k (locks_of h)) (is_not m) (held t h)

held_of-new : (k : Bool) (t m : ℕ) (e : Entry) (h : List Entry) → IsSane h → IsGiven (locks_of h) m
    → held t (e ∷ h) ≡ held t h ++ m ∷ []
    → held_of k t (e ∷ h) ≡ held_of k t h ++ cond (is_of_kind k (locks_of h) m) (m ∷ []) []
held_of-new k t m e h sane given is =
    ap (λ ls. filter (is_of_kind k (locks_of (e ∷ h))) ls) is
    ∙ filter-append (is_of_kind k (locks_of (e ∷ h))) (held t h) (m ∷ [])
    ∙ ap₂ (λ a b. a ++ b) (kinds-stay k t e h sane (held t h) (held-all t h))
    (ap (λ b. cond b (m ∷ []) []) (kind-stays k m e h given))

-- what a seat newly holds is behind all that it held
unfoldable pub IsNext : Start → Bool → ℕ → Entry → List Entry → Type 0
IsNext start k t e h = (m : ℕ) → act_by t e ≡ Records m → is_held t m h ≡ false
    → is_of_kind k (locks_of h) m ≡ true
    → list_all (λ l. lock_leads start h l m) (held_of k t h) ≡ true

pub rises_by : (start : Start) (k : Bool) (t : ℕ) (e : Entry) (h : List Entry) → IsSane (e ∷ h)
    → Effect t e h → is_rising (lock_leads start h) (held_of k t h) ≡ true
    → IsNext start k t e h → is_rising (lock_leads start (e ∷ h)) (held_of k t (e ∷ h)) ≡ true
unfolding IsNext
rises_by start k t e h sane (Same same) up next =
    subst (λ ls. is_rising (lock_leads start (e ∷ h)) ls ≡ true)
    (sym (held_of-same k t e h sane.1 same)) (rises-stays start k t e h sane.1 up)
rises_by start k t e h sane (Gone m acts was now is) up next =
    subst (λ ls. is_rising (lock_leads start (e ∷ h)) ls ≡ true)
    (sym (held_of-gone k t m e h sane.1 is))
    (rises_filter (lock_leads start (e ∷ h)) (is_not m) (held_of k t h)
    (rises-stays start k t e h sane.1 up))
rises_by start k t e h sane (New m acts was now is) up next =
    subst (λ ls. is_rising (lock_leads start (e ∷ h)) ls ≡ true)
    (sym (held_of-new k t m e h sane.1 given is)) (go (is_of_kind k (locks_of h) m) refl)
  where
    given : IsGiven (locks_of h) m
    given = subst (λ a. IsFit a t h) acts (fit_by t e h sane)

    go : (b : Bool) → is_of_kind k (locks_of h) m ≡ b
        → is_rising (lock_leads start (e ∷ h)) (held_of k t h ++ cond b (m ∷ []) []) ≡ true
    go true kind =
        rises_push (lock_leads start (e ∷ h)) (held_of k t h) m
        (rises-stays start k t e h sane.1 up)
        (before-stays start k t e h m sane.1 given (next m acts was kind))
    go false kind =
        subst (λ ls. is_rising (lock_leads start (e ∷ h)) ls ≡ true)
        (sym (append-nil (held_of k t h))) (rises-stays start k t e h sane.1 up)

-- ---- what is pending

pub kind-from : (k : Bool) (ls : List NewLock) (l : ℕ) → is_of_kind k ls l ≡ true
    → is_spin_lock ls l ≡ k
kind-from true ls l is = is
kind-from false ls l is = not-true (is_spin_lock ls l) is

module _ (start : Start) (files : List (List ℕ)) (h : List Entry) (t : ℕ) where
  -- what a clean call newly records, where nothing is tried, was asked for
  pub asked-before : (c : Call) (r : Reply) (m : ℕ)
      → answer_of (story_after start files h) t c ≡ Ok r
      → start.profile ≡ Plain → is_clean_call start.profile c ≡ true → act c r ≡ Records m
      → (q : Request) × (pending t h ≡ Some q) × (q.lock.0 ≡ m)
  asked-before (NoteTry l mode site) r m ok plain clean acts =
      absurd (false≢true (ap (λ p. is_clean_call p (NoteTry l mode site)) (sym plain) ∙ clean))
  asked-before (Note l) Recorded m ok plain clean acts =
      let a = note_accepted (state_of (story_after start files h)) t l.0 Recorded ok in
      let asks =
      asked-lock l.0 (seat_at (state_of (story_after start files h)) t).pending a.asked in (
        asks.0,
        sym (pending-state start files h t a.seat) ∙ asks.1,
        asks.2
            ∙ (let e : l.0 ≡ m = cc in e),
      )
  asked-before (Unlock l mode) Unlocked m ok plain clean acts =
      let e : ◌≡◌ {A = Act} (Releases l.0) (Records m) = acts in (cc)
  asked-before (Upgrade l) r m ok plain clean acts =
      absurd (plain-unrecorded (Upgrade l) r m refl acts)
  asked-before (Downgrade l) r m ok plain clean acts =
      absurd (plain-unrecorded (Downgrade l) r m refl acts)
  asked-before (NoRelease l) r m ok plain clean acts =
      absurd (plain-unrecorded (NoRelease l) r m refl acts)
  asked-before (ReleaseOk l) r m ok plain clean acts =
      absurd (plain-unrecorded (ReleaseOk l) r m refl acts)
  asked-before c r m ok plain clean acts = let e : ◌≡◌ {A = Act} Nothing (Records m) = acts in (cc)

  not-idle : (q : Request) → is_seat (state_of (story_after start files h)) t ≡ true
      → is_pending (state_of (story_after start files h)) t ≡ false → pending t h ≡ Some q → ⊥
  not-idle q seat idle is =
      true≢false (sym (ap (λ (o : Option Request). is_some o)
      (pending-state start files h t seat ∙ is)) ∙ idle)

  -- what a seat's own call leaves pending is what it asks for
  pub asks-now : (c : Call) (r : Reply) (q : Request) → answer_of (story_after start files h) t c
      ≡ Ok r → is_logged r ≡ true → pending_after c (pending t h) ≡ Some q → c ≡ Check q
  asks-now (Check p) r q ok kept is = ap Check (same-request p q is)
  asks-now (Note l) r q ok kept is = (cc)
  asks-now (GiveUp l) r q ok kept is = (cc)
  asks-now (Init lock) r q ok kept is = let a =
      init_accepted (state_of (story_after start files h)) t lock r ok in
      absurd (not-idle q a.seat a.idle is)
  asks-now (NoteTry l m site) r q ok kept is = let a =
      try_accepted (state_of (story_after start files h)) t l.0 m site r ok in
      absurd (not-idle q a.seat a.idle is)
  asks-now (Unlock l m) r q ok kept is = let a =
      unlock_accepted (state_of (story_after start files h)) t l.0 m r ok kept in
      absurd (not-idle q a.seat a.idle is)
  asks-now c r q ok kept is = let a =
      plain_accepted (state_of (story_after start files h)) t c r refl ok kept in
      absurd (not-idle q a.seat a.idle is)

-- ---- the two facts, kept together
