-- Which held lock a pair of types comes from that a verdict tells as a violation.
use Rattle.std.proofs.Common.{◌≡◌, Bool, true, false, ◌||◌, cond, List, [], reverse, Option, Some}
use Rattle.std.proofs.Common.{None, Result, Ok, refl, ap, sym, ◌∙◌}
use Rattle.std.specs.List.{list_all}
use Rattle.std.proofs.lemmas.Bool.{eqb-true}
use Rattle.wit_model.specs.declared.profiles.Profile.{Profile}
use Rattle.wit_model.specs.declared.faults.Fault.{Fault}
use Rattle.wit_model.specs.declared.locks.TypeNo.{TypeNo}
use Rattle.wit_model.specs.declared.locks.Watch.{Watch}
use Rattle.wit_model.specs.declared.locks.Instance.{Instance}
use Rattle.wit_model.specs.declared.calls.Request.{Request}
use Rattle.wit_model.specs.declared.calls.Reply.{Reply}
use Rattle.wit_model.specs.declared.calls.Reply.TheVariants.{Pass, Adopted, AdoptedAll, Silent}
use Rattle.wit_model.specs.declared.calls.Reply.TheVariants.{Duplicate, Reversal}
use Rattle.wit_model.specs.Rules.Locks.{has_flag, lock_at}
use Rattle.wit_model.specs.Rules.Orders.{is_found}
use Rattle.wit_model.specs.Rules.State.{Known, Seat}
use Rattle.wit_model.specs.Rules.Verdict.{type_held, has_type_of, place_of, place_asked, doubled}
use Rattle.wit_model.specs.Rules.Verdict.{violates, is_blessed, conflict, reported, new_parents}
use Rattle.wit_model.specs.Rules.Verdict.{orders_behind, chain_asked, basis_of, typed_request}
use Rattle.wit_model.specs.Rules.Verdict.{verdict}
use Rattle.wit_model.proofs.Histories.Accepted.{same_reply}
use Rattle.wit_model.proofs.Orders.Ends.{found-last}
use Rattle.wit_model.proofs.Orders.Ruled.{Says, Passed, Learnt, LearntAll, Doubled, Broken, ruled}
use Rattle.wit_model.proofs.Orders.Learnt.{type-held}

-- the pair of types that a reply tells of a violation
abbrev pub pair_of : Known → Reply → Option (TypeNo × TypeNo)
pair_of k (Silent a b) = Some (a, b)
pair_of k (Reversal x) =
    Some ((lock_at k.locks x.held.lock.0).type_no, (lock_at k.locks x.asked.lock.0).type_no)
pair_of k (Duplicate d) =
    Some ((lock_at k.locks d.asked.lock.0).type_no, (lock_at k.locks d.asked.lock.0).type_no)
pair_of k _ = None

-- the held lock that a told pair comes from
pub record IsTold (k : Known) (q : Request) (c : List Instance) (p : TypeNo × TypeNo) : Type 0 where
  pub held : Instance
  pub of_chain : (has : Instance → Bool) → list_all has c ≡ true → has held ≡ true
  pub pair : ((lock_at k.locks held.lock.0).type_no, (lock_at k.locks q.lock.0).type_no) ≡ p

tells_this : (k : Known) (r s : Reply) (o p : TypeNo × TypeNo) → pair_of k r ≡ Some o
    → ◌≡◌ {A = Result Reply Fault} (Ok r) (Ok s) → pair_of k s ≡ Some p → o ≡ p
tells_this k r s o p one ok is =
    let e : ◌≡◌ {A = Option (TypeNo × TypeNo)} (Some o) (Some p) =
    sym one ∙ (ap (λ r'. pair_of k r') (same_reply ok) ∙ is) in cc

-- a pair of types as the ruling names it, and as the locks have it
pair-held : (k : Known) (q : Request) (i : Instance)
    → ◌≡◌ {A = TypeNo × TypeNo} (type_held (basis_of k) i, (lock_at k.locks q.lock.0).type_no)
    ((lock_at k.locks i.lock.0).type_no, (lock_at k.locks q.lock.0).type_no)
pair-held k q i = ap (λ (n : TypeNo). (n, (lock_at k.locks q.lock.0).type_no)) (type-held k i)

reported_told : (k : Known) (q : Request) (c : List Instance) (i : Instance) (r : Reply) (p : TypeNo
    × TypeNo) → reported (basis_of k) (typed_request k q) c i ≡ Ok r → pair_of k r ≡ Some p
    → ((lock_at k.locks i.lock.0).type_no, (lock_at k.locks q.lock.0).type_no) ≡ p
reported_told k q c i r p ok is =
    go (is_found k.found (type_held (basis_of k) i).0 (lock_at k.locks q.lock.0).type_no.0
    || is_blessed (basis_of k) (type_held (basis_of k) i) (lock_at k.locks q.lock.0).type_no) ok
  where
    go : (f : Bool)
        → cond {A = Result Reply Fault} f
        (Ok (Silent (type_held (basis_of k) i) (lock_at k.locks q.lock.0).type_no))
        (Ok (Reversal (conflict (basis_of k) (typed_request k q) c i))) ≡ Ok r
        → ((lock_at k.locks i.lock.0).type_no, (lock_at k.locks q.lock.0).type_no) ≡ p
    go true same =
        sym (pair-held k q i)
        ∙ tells_this k (Silent (type_held (basis_of k) i) (lock_at k.locks q.lock.0).type_no) r
        (type_held (basis_of k) i, (lock_at k.locks q.lock.0).type_no) p refl same is
    go false same =
        tells_this k (Reversal (conflict (basis_of k) (typed_request k q) c i)) r
        ((lock_at k.locks i.lock.0).type_no, (lock_at k.locks q.lock.0).type_no) p refl same is

doubled_told : (k : Known) (q : Request) (i : Instance) (r : Reply) (p : TypeNo × TypeNo)
    → has_type_of (basis_of k) (typed_request k q) i ≡ true
    → doubled (basis_of k) (typed_request k q) i ≡ Ok r → pair_of k r ≡ Some p
    → ((lock_at k.locks i.lock.0).type_no, (lock_at k.locks q.lock.0).type_no) ≡ p
doubled_told k q i r p same ok is =
    ap (λ (n : TypeNo). (n, asked)) twice
    ∙ go (has_flag (lock_at k.locks q.lock.0).made.flags.0 0x02 || has_flag q.ops.0 0x02)
    (is_found k.found asked.0 asked.0) ok
  where
    asked : TypeNo
    asked = (lock_at k.locks q.lock.0).type_no

    twice : (lock_at k.locks i.lock.0).type_no ≡ asked
    twice =
        sym (type-held k i) ∙ ap (λ n. record { 0 = n })
        (eqb-true (type_held (basis_of k) i).0 asked.0 same)

    go : (allowed f : Bool)
        → cond {A = Result Reply Fault} allowed (Ok Pass)
        (cond f (Ok (Silent asked asked))
        (Ok (Duplicate (record {
          last = place_of i;
          asked = place_asked (typed_request k q);
        })))) ≡ Ok r
        → (asked, asked) ≡ p
    go true f told = let e : ◌≡◌ {A = Option (TypeNo × TypeNo)} None (Some p) =
        ap (λ r'. pair_of k r') (same_reply told) ∙ is in cc
    go false true told = tells_this k (Silent asked asked) r (asked, asked) p refl told is
    go false false told =
        tells_this k (Duplicate (record {
          last = place_of i;
          asked = place_asked (typed_request k q);
        })) r (asked, asked) p refl told is

pub pair_told : (profile : Profile) (k : Known) (watch : Watch) (seat : Seat) (q : Request)
    (r : Reply) (p : TypeNo × TypeNo) → verdict profile k watch seat q ≡ Ok r → pair_of k r ≡ Some p
    → IsTold k q (chain_asked (basis_of k) seat.sleep seat.spin (typed_request k q)) p
pair_told profile k watch seat q r p ok is =
    go (ruled profile (basis_of k) watch seat.sleep seat.spin (typed_request k q) r ok)
  where
    c : List Instance
    c = chain_asked (basis_of k) seat.sleep seat.spin (typed_request k q)

    none : (s : Reply) → r ≡ s → pair_of k s ≡ None → ⊥
    none s same untold = let e : ◌≡◌ {A = Option (TypeNo × TypeNo)} None (Some p) =
        sym untold ∙ (ap (λ r'. pair_of k r') (sym same) ∙ is) in cc

    go : Says profile (basis_of k) watch (typed_request k q) c r → IsTold k q c p
    go (Passed passes why) = absurd (none Pass passes refl)
    go (LearntAll all l) =
        absurd (none (AdoptedAll (orders_behind (typed_request k q)
        (new_parents (basis_of k) (typed_request k q) [] (reverse c)))) l.reply refl)
    go (Learnt plain l) =
        absurd (none (Adopted (type_held (basis_of k) l.last) (lock_at k.locks q.lock.0).type_no)
        l.reply refl)
    go (Doubled d) = record {
      held = d.held;
      of_chain = d.of_chain;
      pair = doubled_told k q d.held r p d.same d.reply is;
    }
    go (Broken broken) = record {
      held = broken.held;
      of_chain =
          λ has all. found-last has (violates (basis_of k) (typed_request k q)) c broken.held all
          broken.violation;
      pair = reported_told k q c broken.held r p broken.reply is;
    }
