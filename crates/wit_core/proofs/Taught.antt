-- What an accepted check's reply teaches can be learnt.
use Rattle.std.proofs.Common.{◌≡◌, ℕ, Bool, true, false, cond, eqb, ◌||◌, List, [], ◌∷◌, Ok, Err}
use Rattle.std.proofs.Common.{length, refl, sym, ap, ◌∙◌, subst}
use Rattle.std.specs.List.{AllByRecursion, list_all}
use Rattle.std.proofs.lemmas.Bool.{and_parts, true≢false, false≢true}
use Rattle.wit_model.specs.declared.locks.Lock.{Lock}
use Rattle.wit_model.specs.declared.calls.Adoption.{Adoption}
use Rattle.wit_model.specs.declared.calls.TypedRequest.{TypedRequest}
use Rattle.wit_model.specs.declared.calls.Request.{Request}
use Rattle.wit_model.specs.declared.calls.Call.TheVariants.{Check, DefineOrder}
use Rattle.wit_model.specs.declared.calls.Reply.{Reply}
use Rattle.wit_model.specs.declared.calls.Reply.TheVariants.{Adopted, AdoptedAll, Silent, Duplicate}
use Rattle.wit_model.specs.declared.calls.Reply.TheVariants.{Reversal}
use Rattle.wit_model.specs.Rules.Locks.{lock_at}
use Rattle.wit_model.specs.Rules.Numbers.{is_number, IsNumber}
use Rattle.wit_model.specs.Rules.Orders.{is_before, is_direct, taught_at, is_pair_of, is_found}
use Rattle.wit_model.specs.Rules.Orders.{found_once}
use Rattle.wit_model.specs.Rules.Defining.{are_of_two_kinds}
use Rattle.wit_model.specs.declared.faults.Fault.TheVariants.{KindMismatch, SameType, WrongOrder}
use Rattle.wit_model.specs.declared.locks.TypeNo.{TypeNo}
use Rattle.wit_model.specs.declared.calls.Reply.TheVariants as reply
use Rattle.wit_model.specs.Rules.State.{Known, state_of, known_of, types_of, typed_locks, orders_of}
use Rattle.wit_model.specs.Rules.State.{found_of, found_after}
use Rattle.wit_model.specs.Rules.Verdict.{typed_request, orders_behind}
use Rattle.wit_model.specs.Rules.Step.{answer_of, is_logged}
use Rattle.wit_model.proofs.Histories.Accepted.{same_reply, check_accepted}
use Rattle.wit_model.proofs.Histories.AcceptedTurns.{define_accepted}
use Rattle.wit_model.proofs.Orders.AllHeld.{AreFree}
use Rattle.wit_model.proofs.Orders.Orderly.{adopted-orderly, defined-orderly, silent-known}
use Rattle.wit_model.proofs.Orders.Orderly.{duplicate-known, reversal-known, lock-type, number-from}
use Rattle.wit_model.proofs.Orders.Orderly.{parents-known}
use Rattle.wit_model.proofs.Orders.Sound.{taught-all}
use Rattle.wit_matrix.specs.Relation.{HasSameFound}
use Rattle.wit_core.specs.declared.verifier.Verifier.TheInside.{Inside}
use Rattle.wit_known.specs.Following.{CanFollow, CanAllFollow}
use Rattle.wit_known.specs.Known.{IsApt}
use Rattle.wit_known.specs.Defining.{IsDefined}
use Rattle.wit_model.specs.declared.locks.LockNo.{LockNo}
use Rattle.wit_core.specs.Kept.{IsTied, start_in, history_in, story_in}
use Rattle.wit_core.proofs.Apt.{known-is, number}

-- the answers of a definition behind its first faults
defined-by : (kinds same back direct : Bool) (p c : TypeNo) (r : Reply)
    → cond kinds (Err KindMismatch)
    (cond same (Err SameType) (cond back (Err WrongOrder)
    (cond direct (Ok reply.Known) (Ok (Adopted p c))))) ≡ Ok r
    → IsDefined r
defined-by true same back direct p c r is = absurd (cc)
defined-by false true back direct p c r is = absurd (cc)
defined-by false false true direct p c r is = absurd (cc)
defined-by false false false true p c r is = subst IsDefined (same_reply is) tt
defined-by false false false false p c r is = subst IsDefined (same_reply is) tt

-- orders that can be learnt one after the other behind these types can all be adopted
all-can-follow : (q : TypedRequest) (n : ℕ) (base : List Adoption) → IsNumber n q.type_no.0
    → (ps : List TypeNo) (os : List Adoption)
    → ((x : ℕ) → is_before os q.type_no.0 x ≡ false → is_before base q.type_no.0 x ≡ false)
    → AreFree q os ps → AllByRecursion (λ (p : TypeNo). IsNumber n p.0) ps
    → AllByRecursion (λ (p : TypeNo × TypeNo). (p.1 ≡ q.type_no) × CanFollow n base p.0.0 p.1.0)
    (orders_behind q ps)
all-can-follow q n base child [] os grown free all = tt
all-can-follow q n base child (p ∷ ps) os grown free all = (
  (
    refl,
    record {
      parent = all.0;
      child = child;
      apart = free.0.apart;
      orderly = grown p.0 free.0.orderly;
    },
  ),
  all-can-follow q n base child ps (taught_at q.site (p, q.type_no) ∷ os)
      (λ x none. grown x (first (is_before os q.type_no.0 x) _ none)) free.1 all.1,
)
  where
    first : (a b : Bool) → (a || b) ≡ false → a ≡ false
    first true b none = none
    first false b none = refl

-- ---- pairs that are found

found-once : (a b : TypeNo) (fs gs : List (TypeNo × TypeNo)) → HasSameFound fs gs
    → HasSameFound (found_once a b fs) (found_once a b gs)
found-once a b fs gs same i j =
    go (is_found fs a.0 b.0) (is_found gs a.0 b.0) (same a.0 b.0)
  where
    go : (x y : Bool) → x ≡ y → is_found (cond x fs ((a, b) ∷ fs)) i j
        ≡ is_found (cond y gs ((a, b) ∷ gs)) i j
    go true true e = same i j
    go false false e = ap (λ t. is_pair_of i j (a, b) || t) (same i j)
    go true false e = absurd (true≢false e)
    go false true e = absurd (false≢true e)

-- a reply adds the same pairs to the same
same-found : (locks : List Lock) (r : Reply) (fs gs : List (TypeNo × TypeNo)) → HasSameFound fs gs
    → HasSameFound (found_after locks r fs) (found_after locks r gs)
same-found locks (Silent a b) fs gs same = found-once a b fs gs same
same-found locks (Reversal c) fs gs same =
    found-once (lock_at locks c.held.lock.0).type_no (lock_at locks c.asked.lock.0).type_no fs gs
    same
same-found locks (Duplicate d) fs gs same =
    found-once (lock_at locks d.asked.lock.0).type_no (lock_at locks d.asked.lock.0).type_no fs gs
    same
same-found locks r fs gs same = same

module _ (v : Inside) (k : IsTied v) where
  -- the pairs once a reply is learnt are the rules'
  pub found-told : (r : Reply) (fs : List (TypeNo × TypeNo))
      → HasSameFound fs (found_after v.known.known.locks r v.known.known.found)
      → HasSameFound fs
      (found_after v.known.known.locks r (found_of (start_in v) (history_in v)))
  found-told r fs finds i j =
      finds i j ∙ same-found v.known.known.locks r v.known.known.found
      (found_of (start_in v) (history_in v)) k.found i j

  all-numbers : (ps : List TypeNo)
      → list_all (λ (p : TypeNo). is_number (length (types_of (start_in v) (history_in v))) p.0) ps
      ≡ true
      → AllByRecursion (λ (p : TypeNo). IsNumber v.known.most_types p.0) ps
  all-numbers [] all = tt
  all-numbers (p ∷ ps) all =
      let parts = and_parts (is_number (length (types_of (start_in v) (history_in v))) p.0)
      (list_all (λ (x : TypeNo). is_number (length (types_of (start_in v) (history_in v))) x.0) ps)
      all in (
        number v k p.0 (number-from (length (types_of (start_in v) (history_in v))) p.0 parts.0),
        all-numbers ps parts.1,
      )

  locks-are : v.known.known.locks ≡ typed_locks (start_in v) (history_in v)
  locks-are = ap (λ (y : Known). y.locks) (known-is v k)

  numbered : (l : ℕ) → IsNumber (length (types_of (start_in v) (history_in v)))
      (lock_at (typed_locks (start_in v) (history_in v)) l).type_no.0
      → IsNumber v.known.most_types (lock_at v.known.known.locks l).type_no.0
  numbered l is =
      subst (λ (ls : List Lock). IsNumber v.known.most_types (lock_at ls l).type_no.0)
      (sym locks-are) (number v k _ is)

  -- an accepted definition that is logged gets one of two replies
  pub defined-reply : (t : ℕ) (a b : LockNo) (reply : Reply)
      → answer_of (story_in v) t (DefineOrder a b) ≡ Ok reply → is_logged reply ≡ true
      → IsDefined reply
  defined-reply t a b reply ok logged =
      let k = (state_of (story_in v)).known in
      let p = (lock_at k.locks a.0).type_no in
      let c = (lock_at k.locks b.0).type_no in
      defined-by (are_of_two_kinds k.types p c) (eqb p.0 c.0) (is_before k.orders c.0 p.0)
      (is_direct k.orders p.0 c.0) p c reply
      (define_accepted (state_of (story_in v)) t a.0 b.0 reply ok logged).answer

  -- an order that it tells can be adopted
  pub definable : (t : ℕ) (a b : LockNo) (told : Reply)
      → answer_of (story_in v) t (DefineOrder a b) ≡ Ok told → is_logged told ≡ true
      → IsApt v.known.most_types v.known.known told
  definable t a b told ok logged = go told ok (defined-reply t a b told ok logged)
    where
      go : (r : Reply) → answer_of (story_in v) t (DefineOrder a b) ≡ Ok r → IsDefined r
          → IsApt v.known.most_types v.known.known r
      go (Adopted p c) is one =
          let o =
          defined-orderly (start_in v) v.known.files (history_in v) t a.0 b.0 p c
          (define_accepted (state_of (story_in v)) t a.0 b.0 _ is refl) in
          record {
            parent = number v k p.0 o.parent;
            child = number v k c.0 o.child;
            apart = o.apart;
            orderly = ap (λ (x : Known). is_before x.orders c.0 p.0) (known-is v k) ∙ o.orderly;
          }
      go reply.Known is one = tt
      go _ is one = absurd one

  pub apt : (t : ℕ) (q : Request) (reply : Reply) → answer_of (story_in v) t (Check q) ≡ Ok reply
      → IsApt v.known.most_types v.known.known reply
  apt t q (Adopted p c) ok =
      let o =
      adopted-orderly (start_in v) v.known.files (history_in v) t q p c k.legal
      (check_accepted (state_of (story_in v)) t q _ ok) in
      record {
        parent = number v k p.0 o.parent;
        child = number v k c.0 o.child;
        apart = o.apart;
        orderly = ap (λ (x : Known). is_before x.orders c.0 p.0) (known-is v k) ∙ o.orderly;
      }
  apt t q (AdoptedAll pairs) ok =
      let accepted = check_accepted (state_of (story_in v)) t q _ ok in
      let l = taught-all (start_in v) v.known.files (history_in v) t q pairs accepted in
      let asked = typed_request (known_of (start_in v) (history_in v)) q in
      subst (λ os. CanAllFollow v.known.most_types os pairs)
      (sym (ap (λ (x : Known). x.orders) (known-is v k)))
      (subst (CanAllFollow v.known.most_types (orders_of (start_in v) (history_in v)))
      (sym l.pairs) (
        asked.type_no,
        all-can-follow asked v.known.most_types (orders_of (start_in v) (history_in v))
            (number v k asked.type_no.0 (lock-type (start_in v)
            (history_in v) q.lock.0 accepted.lock)) l.parents
            (orders_of (start_in v) (history_in v)) (λ x none. none) l.free
            (all-numbers l.parents (parents-known (start_in v) v.known.files
            (history_in v) t q pairs k.legal l)),
      ))
  apt t q (Silent a b) ok =
      let o =
      silent-known (start_in v) v.known.files (history_in v) t q a b k.legal
      (check_accepted (state_of (story_in v)) t q _ ok) in
      (number v k a.0 o.0, number v k b.0 o.1)
  apt t q (Duplicate d) ok =
      numbered d.asked.lock.0 (duplicate-known (start_in v) v.known.files
      (history_in v) t q d k.legal (check_accepted (state_of (story_in v)) t q _ ok))
  apt t q (Reversal x) ok =
      let o =
      reversal-known (start_in v) v.known.files (history_in v) t q x k.legal
      (check_accepted (state_of (story_in v)) t q _ ok) in
      (numbered x.held.lock.0 o.0, numbered x.asked.lock.0 o.1)
  apt t q _ ok = tt
