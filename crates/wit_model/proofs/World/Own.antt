-- A thread's own deeds are all that its shares, its record and its stage depend on; and of a
-- check's reply none of them does.
use Rattle.std.proofs.Common.{◌≡◌, ℕ, ◌+◌, ◌-◌, Bool, true, false, cond, eqb, List, [], ◌∷◌, map}
use Rattle.std.proofs.Common.{count_by, Option, Some, None, refl, ap, ap₂, sym, ◌∙◌, inl, inr}
use Rattle.std.proofs.Common.{arith}
use Rattle.std.proofs.lemmas.Bool.{cases_Bool}
use Rattle.std.proofs.lemmas.List.Sums.{sum_by-cons}
use Rattle.wit_model.specs.declared.calls.Request.{Request}
use Rattle.wit_model.specs.declared.calls.Call.{Call}
use Rattle.wit_model.specs.declared.calls.Call.TheVariants.{Check, DefineOrder, Downgrade, Unlock}
use Rattle.wit_model.specs.declared.calls.Reply.{Reply}
use Rattle.wit_model.specs.declared.calls.Entry.{Entry}
use Rattle.wit_model.specs.Rules.History.{Nothing, act, act_by, is_record, is_release, records}
use Rattle.wit_model.specs.Rules.History.{releases, num}
use Rattle.wit_model.specs.World.Deeds.{Deed, Logged, PassedOver, Take, TryTake, Free, RawUp}
use Rattle.wit_model.specs.World.Deeds.{RawDown, thread_of, own, log_of, shares_after, shares}
use Rattle.wit_model.specs.World.Stages.{Asked, stage_logged, stage_passed, stage}
use Rattle.wit_model.specs.World.Reordering.{kept_reply, kept}

-- ---- own deeds

pub own-mine : (t : ℕ) (d : Deed) (w : List Deed) → eqb (thread_of d) t ≡ true
    → own t (d ∷ w) ≡ d ∷ own t w
own-mine t d w is = rw is refl

pub own-other : (t : ℕ) (d : Deed) (w : List Deed) → eqb (thread_of d) t ≡ false
    → own t (d ∷ w) ≡ own t w
own-other t d w is = rw is refl

-- ---- shares

pub shares-other : (t l : ℕ) (d : Deed) (w : List Deed) → eqb (thread_of d) t ≡ false
    → shares t l (d ∷ w) ≡ shares t l w
shares-other t l (Take u m mode) w is = rw is refl
shares-other t l (TryTake u m mode) w is = rw is refl
shares-other t l (PassedOver u c) w is = refl
shares-other t l (Free u m) w is = rw is refl
shares-other t l (Logged e) w is = refl
shares-other t l (RawUp u m) w is = refl
shares-other t l (RawDown u m) w is = refl

pub shares-own : (t l : ℕ) (w : List Deed) → shares t l (own t w) ≡ shares t l w
shares-own t l [] = refl
shares-own t l (d ∷ w) =
    elim (cases_Bool (eqb (thread_of d) t)) [
      | inl is ↦ ap (λ o. shares t l o) (own-mine t d w is)
          ∙ ap (λ n. shares_after t l d n) (shares-own t l w)
      | inr is ↦ ap (λ o. shares t l o) (own-other t d w is)
          ∙ (shares-own t l w ∙ sym (shares-other t l d w is))
    ]

share-kept : (t l : ℕ) (d : Deed) (n : ℕ) → shares_after t l (kept d) n ≡ shares_after t l d n
share-kept t l (Logged e) n = refl
share-kept t l (Take u m mode) n = refl
share-kept t l (TryTake u m mode) n = refl
share-kept t l (PassedOver u c) n = refl
share-kept t l (Free u m) n = refl
share-kept t l (RawUp u m) n = refl
share-kept t l (RawDown u m) n = refl

pub shares-kept : (t l : ℕ) (o : List Deed) → shares t l (map kept o) ≡ shares t l o
shares-kept t l [] = refl
shares-kept t l (d ∷ o) =
    share-kept t l d (shares t l (map kept o)) ∙ ap (λ n. shares_after t l d n) (shares-kept t l o)

-- ---- the record

count-cons : (p : Entry → Bool) (e : Entry) (h : List Entry)
    → count_by p (e ∷ h) ≡ cond (p e) 1 0 + count_by p h
count-cons p e h = sum_by-cons (λ (x : Entry). cond (p x) 1 0) e h

-- counts of entries of t alone
module _ (t : ℕ) (p : Entry → Bool) (mine : (e : Entry) → eqb e.seat.0 t ≡ false
    → p e ≡ false) where
  count-other : (d : Deed) (w : List Deed) → eqb (thread_of d) t ≡ false
      → count_by p (log_of (d ∷ w)) ≡ count_by p (log_of w)
  count-other (Logged e) w is =
      let more =
      count-cons p e (log_of w) ∙ ap (λ b. cond b 1 0 + count_by p (log_of w)) (mine e is) in
      omega arith
  count-other (Take u m mode) w is = refl
  count-other (TryTake u m mode) w is = refl
  count-other (PassedOver u c) w is = refl
  count-other (Free u m) w is = refl
  count-other (RawUp u m) w is = refl
  count-other (RawDown u m) w is = refl

  count-more : (d : Deed) (a b : List Deed) → count_by p (log_of a) ≡ count_by p (log_of b)
      → count_by p (log_of (d ∷ a)) ≡ count_by p (log_of (d ∷ b))
  count-more (Logged e) a b same =
      count-cons p e (log_of a) ∙ (ap (λ n. cond (p e) 1 0 + n) same
      ∙ sym (count-cons p e (log_of b)))
  count-more (Take u m mode) a b same = same
  count-more (TryTake u m mode) a b same = same
  count-more (PassedOver u c) a b same = same
  count-more (Free u m) a b same = same
  count-more (RawUp u m) a b same = same
  count-more (RawDown u m) a b same = same

  count-own : (w : List Deed) → count_by p (log_of (own t w)) ≡ count_by p (log_of w)
  count-own [] = refl
  count-own (d ∷ w) =
      elim (cases_Bool (eqb (thread_of d) t)) [
        | inl is ↦ ap (λ o. count_by p (log_of o)) (own-mine t d w is)
            ∙ count-more d (own t w) w (count-own w)
        | inr is ↦ ap (λ o. count_by p (log_of o)) (own-other t d w is)
            ∙ (count-own w ∙ sym (count-other d w is))
      ]

pub act-other : (t : ℕ) (e : Entry) → eqb e.seat.0 t ≡ false → act_by t e ≡ Nothing
act-other t e is = rw is refl

pub act-mine : (t : ℕ) (e : Entry) → eqb e.seat.0 t ≡ true → act_by t e ≡ act e.call e.reply
act-mine t e is = rw is refl

pub num-own : (t l : ℕ) (w : List Deed) → num t l (log_of (own t w)) ≡ num t l (log_of w)
unfolding num
num-own t l w =
    ap₂ (λ a b. a - b) (count-own t (records t l)
    (λ e is. ap (λ a. is_record l a) (act-other t e is)) w)
    (count-own t (releases t l) (λ e is. ap (λ a. is_release l a) (act-other t e is)) w)

-- what its thread sees of an entry
abbrev kept_entry : Entry → Entry
kept_entry e = record { seat = e.seat; call = e.call; reply = kept_reply e.call e.reply }

act-kept : (c : Call) (r : Reply) → act c (kept_reply c r) ≡ act c r
act-kept (Check q) r = refl
act-kept (DefineOrder a b) r = refl
act-kept c r = refl

act_by-kept : (t : ℕ) (e : Entry) → act_by t (kept_entry e) ≡ act_by t e
act_by-kept t e = ap (λ a. cond (eqb e.seat.0 t) a Nothing) (act-kept e.call e.reply)

module _ (p : Entry → Bool) (same : (e : Entry) → p (kept_entry e) ≡ p e) where
  count-kept : (o : List Deed) → count_by p (log_of (map kept o)) ≡ count_by p (log_of o)
  count-kept [] = refl
  count-kept (Logged e ∷ o) =
      count-cons p (kept_entry e) (log_of (map kept o))
      ∙ (ap₂ (λ b n. cond b 1 0 + n) (same e) (count-kept o) ∙ sym (count-cons p e (log_of o)))
  count-kept (Take u m mode ∷ o) = count-kept o
  count-kept (TryTake u m mode ∷ o) = count-kept o
  count-kept (PassedOver u c ∷ o) = count-kept o
  count-kept (Free u m ∷ o) = count-kept o
  count-kept (RawUp u m ∷ o) = count-kept o
  count-kept (RawDown u m ∷ o) = count-kept o

pub num-kept : (t l : ℕ) (o : List Deed) → num t l (log_of (map kept o)) ≡ num t l (log_of o)
unfolding num
num-kept t l o =
    ap₂ (λ a b. a - b) (count-kept (records t l) (λ e. ap (λ a. is_record l a) (act_by-kept t e)) o)
    (count-kept (releases t l) (λ e. ap (λ a. is_release l a) (act_by-kept t e)) o)

-- ---- the stage

called : (t : ℕ) (c : Call) (before : List Deed) (q : Request)
    → stage_logged t c before ≡ Asked q → c ≡ Check q
called t (Check p) before q is = ap Check (let same : p ≡ q = cc in same)
called t (Unlock l mode) before q is = (cc)
called t c before q is = (cc)

-- and no call that is passed over leaves its thread asking
passed_asks : (c : Call) (q : Request) → stage_passed c ≡ Asked q → ⊥
passed_asks (Unlock l mode) q is = (cc)
passed_asks (Downgrade l) q is = (cc)
passed_asks c q is = (cc)

-- who asks has just made a check
pub asked-deed : (t : ℕ) (o : List Deed) (q : Request) → stage t o ≡ Asked q
    → (e : Entry) × (before : List Deed) × (o ≡ Logged e ∷ before) × (e.call ≡ Check q)
asked-deed t [] q is = (cc)
asked-deed t (Logged e ∷ o) q is = (e, o, refl, called t e.call o q is)
asked-deed t (PassedOver u c ∷ o) q is = absurd (passed_asks c q is)
asked-deed t (Take u m mode ∷ o) q is = (cc)
asked-deed t (TryTake u m mode ∷ o) q is = (cc)
asked-deed t (Free u m ∷ o) q is = (cc)
asked-deed t (RawUp u m ∷ o) q is = (cc)
asked-deed t (RawDown u m ∷ o) q is = (cc)

call_of : Deed → Option Call
call_of (Logged e) = Some e.call
call_of d = None

-- what looks like a check is one
pub kept-check : (d : Deed) (e : Entry) (q : Request) → kept d ≡ kept (Logged e) → e.call ≡ Check q
    → (x : Entry) × (d ≡ Logged x) × (x.call ≡ Check q)
unfolding call_of
kept-check (Logged x) e q same is = (
  x,
  refl,
  (let calls : ◌≡◌ {A = Option Call} (Some x.call) (Some e.call) = ap call_of same in
      let call : x.call ≡ e.call = cc in call) ∙ is,
)
kept-check (Take u m mode) e q same is = (cc)
kept-check (TryTake u m mode) e q same is = (cc)
kept-check (PassedOver u c) e q same is = (cc)
kept-check (Free u m) e q same is = (cc)
kept-check (RawUp u m) e q same is = (cc)
kept-check (RawDown u m) e q same is = (cc)
