-- An order is learnt only where it turns none round.
use Rattle.std.proofs.Common.{◌≡◌, ℕ, Bool, true, false, not, ◌&&◌, ◌||◌, cond, List, [], ◌∷◌}
use Rattle.std.proofs.Common.{reverse, find, map, Some, None, Result, Ok, refl, ap, sym, ◌∙◌, subst}
use Rattle.std.specs.List.{list_all, last_or}
use Rattle.std.proofs.lemmas.Bool.{and_parts, eq-eqb, true≢false, not-true}
use Rattle.wit_model.specs.declared.profiles.Profile.TheVariants.{Plain}
use Rattle.wit_model.specs.declared.profiles.Profile.{Profile}
use Rattle.wit_model.specs.declared.faults.Fault.{Fault}
use Rattle.wit_model.specs.declared.locks.TypeNo.{TypeNo}
use Rattle.wit_model.specs.declared.locks.Watch.{Watch}
use Rattle.wit_model.specs.declared.locks.Instance.{Instance}
use Rattle.wit_model.specs.declared.calls.TypedRequest.{TypedRequest}
use Rattle.wit_model.specs.declared.calls.Request.{Request}
use Rattle.wit_model.specs.declared.calls.Reply.{Reply}
use Rattle.wit_model.specs.declared.calls.Reply.TheVariants.{Pass, Adopted, AdoptedAll, Silent}
use Rattle.wit_model.specs.declared.calls.Reply.TheVariants.{Duplicate, Reversal}
use Rattle.wit_model.specs.declared.calls.Entry.{Entry}
use Rattle.wit_model.specs.Rules.Types.{is_spin, class_of}
use Rattle.wit_model.specs.Rules.Locks.{Lock, locks_of, has_flag, lock_at, unknown_lock, is_of_kind}
use Rattle.wit_model.specs.Rules.Orders.{is_before, is_found}
use Rattle.wit_model.specs.Rules.History.{is_held, held_of, chain, instance}
use Rattle.wit_model.specs.Rules.State.{Start, Known, Seat, seat_at, is_seat, known_of, state_of}
use Rattle.wit_model.specs.Rules.State.{types_of, typed_locks}
use Rattle.wit_model.specs.Rules.Verdict.{Basis, type_held, is_sleepable, is_giant, place_of}
use Rattle.wit_model.specs.Rules.Verdict.{place_asked, doubled, violates, is_blessed, conflict}
use Rattle.wit_model.specs.Rules.Verdict.{reported, is_learnt, new_parents, orders_behind}
use Rattle.wit_model.specs.Rules.Verdict.{chain_asked, ruling, basis_of, typed_request}
use Rattle.wit_model.specs.Rules.Step.{story_after}
use Rattle.wit_model.proofs.Numbered.{with_number-or-map}
use Rattle.wit_model.proofs.Orders.Ends.{all-last}
use Rattle.wit_model.proofs.Orders.Ruled.{IsNewBehind, AreApart, Says, Passed, Learnt, LearntAll}
use Rattle.wit_model.proofs.Orders.Ruled.{Doubled, Broken, ruled}
use Rattle.wit_model.proofs.Chains.Held.{held_of-all}
use Rattle.wit_model.proofs.Histories.Legal.{seat_at-state, one_chain}

-- what a learnt order says of the chain
pub record IsLearnt (g : Basis) (q : TypedRequest) (c : List Instance)
    (p child' : TypeNo) : Type 0 where
  pub last : Instance
  pub is_new : IsNewBehind g q c last
  pub orderly : find (violates g q) (reverse c) ≡ None
  pub allowed : is_learnt g q last ≡ true
  pub parent : type_held g last ≡ p
  pub child : q.type_no ≡ child'

reported_teaches_nothing : (g : Basis) (q : TypedRequest) (c : List Instance) (i : Instance)
    (a b : TypeNo) → reported g q c i ≡ Ok (Adopted a b) → ⊥
reported_teaches_nothing g q c i a b ok =
    go (is_found g.found (type_held g i).0 q.type_no.0 || is_blessed g (type_held g i) q.type_no) ok
  where
    go : (f : Bool) → cond {A = Result Reply Fault} f (Ok (Silent (type_held g i) q.type_no))
        (Ok (Reversal (conflict g q c i))) ≡ Ok (Adopted a b) → ⊥
    go true same = (cc)
    go false same = (cc)

doubled_teaches_nothing : (g : Basis) (q : TypedRequest) (i : Instance) (a b : TypeNo)
    → doubled g q i ≡ Ok (Adopted a b) → ⊥
doubled_teaches_nothing g q i a b ok =
    go (has_flag q.flags.0 0x02 || has_flag q.ops.0 0x02)
    (is_found g.found q.type_no.0 q.type_no.0) ok
  where
    go : (allowed f : Bool) → cond {A = Result Reply Fault} allowed (Ok Pass)
        (cond f (Ok (Silent q.type_no q.type_no))
        (Ok (Duplicate (record { last = place_of i; asked = place_asked q }))))
        ≡ Ok (Adopted a b) → ⊥
    go true f same = (cc)
    go false true same = (cc)
    go false false same = (cc)

pub learnt : (profile : Profile) (g : Basis) (watch : Watch) (sleep spin : List Instance)
    (q : TypedRequest) (a b : TypeNo) → ruling profile g watch sleep spin q ≡ Ok (Adopted a b)
    → IsLearnt g q (chain_asked g sleep spin q) a b
learnt profile g watch sleep spin q a b ok =
    go (ruled profile g watch sleep spin q (Adopted a b) ok)
  where
    go : Says profile g watch q (chain_asked g sleep spin q) (Adopted a b)
        → IsLearnt g q (chain_asked g sleep spin q) a b
    go (Passed passes why) = (cc)
    go (Doubled d) = absurd (doubled_teaches_nothing g q d.held a b d.reply)
    go (Broken broken) =
        absurd (reported_teaches_nothing g q (chain_asked g sleep spin q) broken.held a
        b broken.reply)
    go (LearntAll all l) = (let same = l.reply in cc)
    go (Learnt plain l) = record {
      last = l.last;
      is_new = l.is_new;
      orderly = l.orderly;
      allowed = l.allowed;
      parent = (let e : a ≡ type_held g l.last = (let same = l.reply in cc) in sym e);
      child = (let e : b ≡ q.type_no = (let same = l.reply in cc) in sym e);
    }

-- the orders that are learnt from all held locks
pub record IsLearntAll (g : Basis) (q : TypedRequest) (c : List Instance)
    (ps : List (TypeNo × TypeNo)) : Type 0 where
  pub apart : AreApart g q c
  pub orderly : find (violates g q) (reverse c) ≡ None
  pub pairs : ps ≡ orders_behind q (new_parents g q [] (reverse c))

reported_teaches_none : (g : Basis) (q : TypedRequest) (c : List Instance) (i : Instance)
    (ps : List (TypeNo × TypeNo)) → reported g q c i ≡ Ok (AdoptedAll ps) → ⊥
reported_teaches_none g q c i ps ok =
    go (is_found g.found (type_held g i).0 q.type_no.0 || is_blessed g (type_held g i) q.type_no) ok
  where
    go : (f : Bool) → cond {A = Result Reply Fault} f (Ok (Silent (type_held g i) q.type_no))
        (Ok (Reversal (conflict g q c i))) ≡ Ok (AdoptedAll ps) → ⊥
    go true same = (cc)
    go false same = (cc)

doubled_teaches_none : (g : Basis) (q : TypedRequest) (i : Instance) (ps : List (TypeNo × TypeNo))
    → doubled g q i ≡ Ok (AdoptedAll ps) → ⊥
doubled_teaches_none g q i ps ok =
    go (has_flag q.flags.0 0x02 || has_flag q.ops.0 0x02)
    (is_found g.found q.type_no.0 q.type_no.0) ok
  where
    go : (allowed f : Bool) → cond {A = Result Reply Fault} allowed (Ok Pass)
        (cond f (Ok (Silent q.type_no q.type_no))
        (Ok (Duplicate (record { last = place_of i; asked = place_asked q }))))
        ≡ Ok (AdoptedAll ps) → ⊥
    go true f same = (cc)
    go false true same = (cc)
    go false false same = (cc)

pub learnt-all : (profile : Profile) (g : Basis) (watch : Watch) (sleep spin : List Instance)
    (q : TypedRequest) (ps : List (TypeNo × TypeNo))
    → ruling profile g watch sleep spin q ≡ Ok (AdoptedAll ps)
    → IsLearntAll g q (chain_asked g sleep spin q) ps
learnt-all profile g watch sleep spin q ps ok =
    go (ruled profile g watch sleep spin q (AdoptedAll ps) ok)
  where
    go : Says profile g watch q (chain_asked g sleep spin q) (AdoptedAll ps)
        → IsLearntAll g q (chain_asked g sleep spin q) ps
    go (Passed passes why) = (cc)
    go (Doubled d) = absurd (doubled_teaches_none g q d.held ps d.reply)
    go (Broken broken) =
        absurd (reported_teaches_none g q (chain_asked g sleep spin q) broken.held ps broken.reply)
    go (Learnt plain l) = (let same = l.reply in cc)
    go (LearntAll all l) = record {
      apart = l.apart;
      orderly = l.orderly;
      pairs = (let same = l.reply in cc);
    }

-- where the last held lock alone is compared with, no reply tells several
pub never-all : (g : Basis) (watch : Watch) (sleep spin : List Instance) (q : TypedRequest)
    (ps : List (TypeNo × TypeNo))
    → ruling Plain g watch sleep spin q ≡ Ok (AdoptedAll ps) → ⊥
never-all g watch sleep spin q ps ok = go (ruled Plain g watch sleep spin q (AdoptedAll ps) ok)
  where
    go : Says Plain g watch q (chain_asked g sleep spin q) (AdoptedAll ps) → ⊥
    go (Passed passes why) = (cc)
    go (Doubled d) = doubled_teaches_none g q d.held ps d.reply
    go (Broken broken) =
        reported_teaches_none g q (chain_asked g sleep spin q) broken.held ps broken.reply
    go (Learnt plain l) = (let same = l.reply in cc)
    go (LearntAll all l) = (cc)

through : (t : ℕ) (h : List Entry) (k : Bool) (ls : List ℕ)
    → list_all (λ l. is_held t l h && is_of_kind k (locks_of h) l) ls ≡ true
    → list_all (λ (i : Instance). is_held t i.lock.0 h) (map (instance t h) ls) ≡ true
through t h k [] all = refl
through t h k (l ∷ ls) all =
    let parts =
    and_parts (is_held t l h && is_of_kind k (locks_of h) l)
    (list_all (λ m. is_held t m h && is_of_kind k (locks_of h) m) ls) all in
    let here = and_parts (is_held t l h) (is_of_kind k (locks_of h) l) parts.0 in
    rw (here.0, through t h k ls parts.1) refl

-- the locks of a chain are held
pub chain-held : (k : Bool) (t : ℕ) (h : List Entry)
    → list_all (λ (i : Instance). is_held t i.lock.0 h) (chain k t h) ≡ true
chain-held k t h = through t h k (held_of k t h) (held_of-all k t h)

-- the last lock of a seat's chain is held
pub last-held : (k : Bool) (t : ℕ) (h : List Entry) (x : Instance)
    → last_or None (chain k t h) ≡ Some x → is_held t x.lock.0 h ≡ true
last-held k t h x is =
    all-last (λ (i : Instance). is_held t i.lock.0 h) (chain k t h) x (chain-held k t h) is

-- a learnt order isn't turned round, and its types differ
pub learnt-orderly : (g : Basis) (q : TypedRequest) (c : List Instance) (a b : TypeNo)
    → IsLearnt g q c a b → is_before g.orders b.0 a.0 ≡ false
learnt-orderly g q c a b l =
    let parts =
    and_parts (has_flag q.ops.0 0x01
    && not (is_giant g (type_held g l.last) && is_sleepable g q.type_no))
    (not (is_before g.orders q.type_no.0 (type_held g l.last).0)) l.allowed in
    subst (λ (x : TypeNo). is_before g.orders b.0 x.0 ≡ false) l.parent
    (subst (λ (x : TypeNo). is_before g.orders x.0 (type_held g l.last).0 ≡ false) l.child
    (not-true (is_before g.orders q.type_no.0 (type_held g l.last).0) parts.1))

pub learnt-apart : (g : Basis) (q : TypedRequest) (c : List Instance) (a b : TypeNo)
    → IsLearnt g q c a b → a.0 ≡ b.0 → ⊥
learnt-apart g q c a b l same =
    true≢false
    (sym (eq-eqb (type_held g l.last).0 q.type_no.0
    (ap (λ (n : TypeNo). n.0) l.parent ∙ same ∙ sym (ap (λ (n : TypeNo). n.0) l.child)))
    ∙ l.is_new.apart)

-- the type of a held lock, by what a verifier knows
pub type-held : (k : Known) (i : Instance) → type_held (basis_of k) i
    ≡ (lock_at k.locks i.lock.0).type_no
type-held k i = with_number-or-map (λ (l : Lock). l.type_no) k.locks i.lock.0 unknown_lock

-- the chain that a seat's request is judged by
pub chain-judged : (start : Start) (files : List (List ℕ)) (h : List Entry) (t : ℕ) (q : Request)
    → is_seat (state_of (story_after start files h)) t ≡ true
    → chain_asked (basis_of (known_of start h))
    (seat_at (state_of (story_after start files h)) t).sleep
    (seat_at (state_of (story_after start files h)) t).spin
    (typed_request (known_of start h) q)
    ≡ chain (is_spin (class_of (lock_at (typed_locks start h) q.lock.0).type_no.0
    (types_of start h))) t h
chain-judged start files h t q is =
    ap (λ (s : Seat). chain_asked (basis_of (known_of start h)) s.sleep s.spin
    (typed_request (known_of start h) q)) (seat_at-state start files h t is)
    ∙ one_chain (is_spin (class_of (lock_at (typed_locks start h) q.lock.0).type_no.0
    (types_of start h))) t h
