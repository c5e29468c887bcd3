-- What is learnt of a request that met all rules.
use Rattle.std.proofs.Common.{◌≡◌, ℕ, Bool, true, false, not, ◌&&◌, ◌||◌, cond, List, [], ◌∷◌, map}
use Rattle.std.proofs.Common.{Option, None, Some, Result, Ok, is_some, find, reverse, refl, ap, sym}
use Rattle.std.proofs.Common.{◌∙◌}
use Rattle.std.specs.List.{last_or}
use Rattle.std.proofs.lemmas.Bool.{true≢false, and_parts, and_from}
use Rattle.std.proofs.lemmas.List.{reverse-append}
use Rattle.wit_model.specs.declared.profiles.Profile.TheVariants.{Plain, AllHeld}
use Rattle.wit_model.specs.declared.faults.Fault.{Fault}
use Rattle.wit_model.specs.declared.locks.Instance.{Instance}
use Rattle.wit_model.specs.declared.calls.TypedRequest.{TypedRequest}
use Rattle.wit_model.specs.declared.calls.Heading.{Heading}
use Rattle.wit_model.specs.declared.calls.Heading.TheVariants as heading
use Rattle.wit_model.specs.declared.calls.Reply.{Reply}
use Rattle.wit_model.specs.declared.calls.Reply.TheVariants.{Pass, Silent, Reversal, Duplicate}
use Rattle.wit_model.specs.Rules.Locks.{has_flag}
use Rattle.wit_model.specs.Rules.Orders.{is_before, is_found}
use Rattle.wit_model.specs.Rules.Verdict.{Basis, type_held, is_sleepable, is_giant, place_of}
use Rattle.wit_model.specs.Rules.Verdict.{place_asked, doubled, violates, is_blessed, conflict}
use Rattle.wit_model.specs.Rules.Verdict.{reported, is_learnt}
use Rattle.wit_model.proofs.Orders.Ends.{last_whole}

pub not-all : Plain ≡ AllHeld → ⊥
not-all same = (cc)

-- ---- the last lock of a chain

last-map_from : (f : ℕ → Instance) (d : ℕ) (ls : List ℕ) (l : ℕ) → last_or (Some d) ls ≡ Some l
    → last_or (Some (f d)) (map f ls) ≡ Some (f l)
last-map_from f d [] l is = ap (λ n. Some (f n)) (let e : d ≡ l = cc in e)
last-map_from f d (m ∷ ls) l is = last-map_from f m ls l is

pub last-map : (f : ℕ → Instance) (ls : List ℕ) (l : ℕ) → last_or None ls ≡ Some l
    → last_or None (map f ls) ≡ Some (f l)
last-map f [] l is = (cc)
last-map f (m ∷ ls) l is = last-map_from f m ls l is

-- where none violates, the last one doesn't
pub last-orderly : (p : Instance → Bool) (c : List Instance) (i : Instance)
    → last_or None c ≡ Some i
    → find p (reverse c) ≡ None → p i ≡ false
last-orderly p c i is none =
    let s = last_whole c i is in
    go (p i) refl (sym (ap (λ d. find p d) (ap reverse s.1 ∙ reverse-append s.0 (i ∷ []))) ∙ none)
  where
    go : (b : Bool) → p i ≡ b → cond b (Some i) (find p (reverse (last_whole c i is).0))
        ≡ None → p i ≡ false
    go true here same = (cc)
    go false here same = here

pub same-last : (c : List Instance) (i j : Instance) → last_or None c ≡ Some i
    → last_or None c ≡ Some j → i ≡ j
same-last c i j a b = let e : ◌≡◌ {A = Option Instance} (Some i) (Some j) = sym a ∙ b in cc

-- ---- an order that isn't violated may be learnt, save by Giant and a sleepable lock

may-learn : (giant asked_sleeps sleeps asked_giant turned : Bool)
    → ((giant && asked_sleeps) || (sleeps && asked_giant)) ≡ false
    → (let breaks : Option Heading = cond (asked_giant && sleeps) None
    (cond (asked_sleeps && giant) None
    (cond (asked_sleeps && not sleeps) (Some heading.Sleepable)
    (cond (asked_giant && not sleeps) (Some heading.Giant)
    (cond turned (Some heading.Order) None)))) in is_some breaks ≡ false)
    → (not (giant && asked_sleeps) && not turned) ≡ true
may-learn true true s a t apart none = absurd (true≢false apart)
may-learn true false true true t apart none = absurd (true≢false apart)
may-learn true false true false true apart none = absurd (true≢false none)
may-learn true false true false false apart none = refl
may-learn true false false true t apart none = absurd (true≢false none)
may-learn true false false false true apart none = absurd (true≢false none)
may-learn true false false false false apart none = refl
may-learn false true true true t apart none = absurd (true≢false apart)
may-learn false true true false true apart none = absurd (true≢false none)
may-learn false true true false false apart none = refl
may-learn false true false a t apart none = absurd (sleep a t none)
  where
    sleep : (a t : Bool) → (let breaks : Option Heading = cond (a && false) None
        (Some heading.Sleepable) in is_some breaks ≡ false) → ⊥
    sleep true t none = true≢false none
    sleep false t none = true≢false none
may-learn false false true true t apart none = absurd (true≢false apart)
may-learn false false true false true apart none = absurd (true≢false none)
may-learn false false true false false apart none = refl
may-learn false false false true t apart none = absurd (true≢false none)
may-learn false false false false true apart none = absurd (true≢false none)
may-learn false false false false false apart none = refl

pub learnt-unless : (g : Basis) (q : TypedRequest) (i : Instance) → has_flag q.ops.0 0x01 ≡ true
    → ((is_giant g (type_held g i) && is_sleepable g q.type_no)
    || (is_sleepable g (type_held g i) && is_giant g q.type_no)) ≡ false
    → violates g q i ≡ false → is_learnt g q i ≡ true
learnt-unless g q i new apart none =
    let both =
    and_parts _ _ (may-learn (is_giant g (type_held g i)) (is_sleepable g q.type_no)
    (is_sleepable g (type_held g i)) (is_giant g q.type_no)
    (is_before g.orders q.type_no.0 (type_held g i).0) apart none) in
    and_from (has_flag q.ops.0 0x01 && not (is_giant g (type_held g i) && is_sleepable g q.type_no))
    (not (is_before g.orders q.type_no.0 (type_held g i).0))
    (and_from (has_flag q.ops.0 0x01) (not (is_giant g (type_held g i) && is_sleepable g q.type_no))
    new both.0) both.1

-- ---- a violation doesn't pass, nor does a second lock of a type where none is allowed

pub reported-no_pass : (g : Basis) (q : TypedRequest) (c : List Instance) (i : Instance)
    → reported g q c i ≡ Ok Pass → ⊥
reported-no_pass g q c i ok =
    go (is_found g.found (type_held g i).0 q.type_no.0 || is_blessed g (type_held g i) q.type_no) ok
  where
    go : (f : Bool) → cond {A = Result Reply Fault} f (Ok (Silent (type_held g i) q.type_no))
        (Ok (Reversal (conflict g q c i))) ≡ Ok Pass → ⊥
    go true same = (cc)
    go false same = (cc)

pub doubled-no_pass : (g : Basis) (q : TypedRequest) (i : Instance)
    → (has_flag q.flags.0 0x02 || has_flag q.ops.0 0x02) ≡ false → doubled g q i ≡ Ok Pass → ⊥
doubled-no_pass g q i single ok =
    go (has_flag q.flags.0 0x02 || has_flag q.ops.0 0x02)
    (is_found g.found q.type_no.0 q.type_no.0) single ok
  where
    go : (allowed f : Bool) → allowed ≡ false
        → cond {A = Result Reply Fault} allowed (Ok Pass)
        (cond f (Ok (Silent q.type_no q.type_no))
        (Ok (Duplicate (record { last = place_of i; asked = place_asked q })))) ≡ Ok Pass
        → ⊥
    go true f none same = absurd (true≢false none)
    go false true none same = (cc)
    go false false none same = (cc)

-- ---- Giant and sleepable locks, by their types
