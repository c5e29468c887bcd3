-- What an order that is defined by a call says of its types.
use Rattle.std.proofs.Common.{◌≡◌, Bool, true, false, cond, eqb, List, Result, Ok, Err, refl, ap}
use Rattle.std.proofs.Common.{sym, ◌∙◌, ap₂}
use Rattle.std.proofs.lemmas.Bool.{eqb-false}
use Rattle.wit_model.specs.declared.faults.Fault.{Fault}
use Rattle.wit_model.specs.declared.faults.Fault.TheVariants.{KindMismatch, SameType, WrongOrder}
use Rattle.wit_model.specs.declared.locks.TypeNo.{TypeNo}
use Rattle.wit_model.specs.declared.calls.Adoption.{Adoption}
use Rattle.wit_model.specs.declared.calls.Reply.{Reply}
use Rattle.wit_model.specs.declared.calls.Reply.TheVariants as reply
use Rattle.wit_model.specs.Rules.Types.{LockType}
use Rattle.wit_model.specs.Rules.Orders.{is_direct, is_before}
use Rattle.wit_model.specs.Rules.Defining.{are_of_two_kinds, defining}

-- the two types are those of the call, are of one kind and differ, the second isn't before the
-- first, and the order is new
pub record IsDefined (types : List LockType) (orders : List Adoption)
    (a b p c : TypeNo) : Type 0 where
  pub parent : a ≡ p
  pub child : b ≡ c
  pub kinds : are_of_two_kinds types p c ≡ false
  pub apart : p.0 ≡ c.0 → ⊥
  pub orderly : is_before orders c.0 p.0 ≡ false
  pub new : is_direct orders p.0 c.0 ≡ false

-- the answer by its tests
defined_by : (two same before direct : Bool) (a b p c : TypeNo)
    → cond {A = Result Reply Fault} two (Err KindMismatch)
    (cond same (Err SameType) (cond before (Err WrongOrder)
    (cond direct (Ok reply.Known) (Ok (reply.Adopted a b)))))
    ≡ Ok (reply.Adopted p c)
    → (two ≡ false) × (same ≡ false) × (before ≡ false) × (direct ≡ false) × (a ≡ p) × (b ≡ c)
defined_by true same before direct a b p c ok = (cc)
defined_by false true before direct a b p c ok = (cc)
defined_by false false true direct a b p c ok = (cc)
defined_by false false false true a b p c ok = (cc)
defined_by false false false false a b p c ok =
    (refl, refl, refl, refl, (let e : a ≡ p = cc in e), (let e : b ≡ c = cc in e))

pub define_adopted : (types : List LockType) (orders : List Adoption) (a b p c : TypeNo)
    → defining types orders a b ≡ Ok (reply.Adopted p c)
    → IsDefined types orders a b p c
define_adopted types orders a b p c ok =
    let d =
    defined_by (are_of_two_kinds types a b) (eqb a.0 b.0) (is_before orders b.0 a.0)
    (is_direct orders a.0 b.0) a b p c ok in
    let first = d.4 in
    let second = d.5 in
    record {
      parent = first;
      child = second;
      kinds = sym (ap₂ (λ x y. are_of_two_kinds types x y) first second) ∙ d.0;
      apart =
          λ same. eqb-false a.0 b.0 d.1
          (ap (λ (n : TypeNo). n.0) first ∙ same ∙ sym (ap (λ (n : TypeNo). n.0) second));
      orderly = sym (ap₂ (λ (x y : TypeNo). is_before orders y.0 x.0) first second) ∙ d.2;
      new = sym (ap₂ (λ (x y : TypeNo). is_direct orders x.0 y.0) first second) ∙ d.3;
    }
