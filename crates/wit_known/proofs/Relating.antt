-- Orders by their matrix.
use Rattle.std.proofs.Common.{◌≡◌, ◌<◌, ℕ, zero, suc, Bool, true, false, cond, eqb, ◌&&◌, List, []}
use Rattle.std.proofs.Common.{◌∷◌, ◌++◌, length, reverse, find, slice_get, Option, None, Some}
use Rattle.std.proofs.Common.{Result, Ok, Err, IfSome, IfOk, IfErr, refl, ap, sym, ◌∙◌, subst}
use Rattle.std.proofs.Common.{⊎_elim, arith, length-append}
use Rattle.std.specs.Global.{Vec}
use Rattle.std.specs.Map.{lookup}
use Rattle.std.proofs.lemmas.List.{reverse-append}
use Rattle.std.proofs.lemmas.Bool.{and_from, and_parts, or_cases, eqb-true, le-leb, lt-ltb}
use Rattle.std.proofs.lemmas.Bool.{true≢false}
use Rattle.wit_model.specs.declared.calls.Adoption.{Adoption}
use Rattle.wit_model.specs.declared.faults.Fault.{Fault}
use Rattle.wit_model.specs.declared.faults.Fault.TheVariants.{OutOfMemory}
use Rattle.wit_model.specs.declared.locks.TypeNo.{TypeNo}
use Rattle.wit_model.specs.Rules.Orders.{is_direct, is_before, is_adoption_of, IsPath, IsSound}
use Rattle.wit_model.specs.Rules.Numbers.{IsNumber, is_number}
use Rattle.wit_model.specs.Trace.Paths.{path, path_numbers}
use Rattle.wit_model.proofs.Orders.Paths.{before_from_test}
use Rattle.wit_matrix.specs.Relation.{OrdersAmong, HasSameOrders, Adopts, LeadsBy}
use Rattle.wit_matrix.proofs.Settled.{same_before, same_sound}
use Rattle.wit_matrix.proofs.Callers.{adopted_by, same_path}
use Rattle.wit_known.specs.declared.orders.Orders.TheInside.{Inside}
use Rattle.wit_known.specs.Following.{CanFollow}
use Rattle.wit_known.specs.Ordering.{Ordering}
use Rattle.wit_known.specs.Related.{ordering_in, is_pair, order_at, HavePlaces, IsRelated}

path-ends : (n : ℕ) (os : List Adoption) → OrdersAmong n os → (a : ℕ) (way : List ℕ) (b : ℕ)
    → IsPath os a way b → IsNumber n a × IsNumber n b
path-ends n os among a [] b p = among a b p
path-ends n os among a (v ∷ way) b p = ((among a v p.0).0, (path-ends n os among v way b p.1).1)

-- types of which one is before the other are among these
pub before-among : (n : ℕ) (os : List Adoption) → OrdersAmong n os → (a b : ℕ)
    → is_before os a b ≡ true → IsNumber n a × IsNumber n b
before-among n os among a b is = let p =
    before_from_test os a b is in path-ends n os among a p.0 b p.1

covered : (n t : ℕ) → IsNumber n t → is_number n t ≡ true
covered n t is = and_from _ _ (lt-ltb 0 t is.0) (le-leb t n is.1)

-- a type beyond the others is before none, and none before it
pub before-none : (n : ℕ) (os : List Adoption) (a b : ℕ) (r : Bool) → OrdersAmong n os
    → r ≡ (is_number n a && is_number n b) → r ≡ false → false ≡ is_before os a b
before-none n os a b r among is none = go (is_before os a b) refl
  where
    go : (t : Bool) → is_before os a b ≡ t → false ≡ t
    go false e = refl
    go true e =
        let both = before-among n os among a b e in
        absurd (true≢false (sym (and_from (is_number n a) (is_number n b) (covered n a both.0)
        (covered n b both.1)) ∙ (sym is ∙ none)))

-- a path is one of any orders with the same direct ones
same_way : (os ps : List Adoption) → HasSameOrders os ps → (a : ℕ) (way : List ℕ) (b : ℕ)
    → IsPath os a way b → IsPath ps a way b
same_way os ps same a [] b p = sym (same a b) ∙ p
same_way os ps same a (v ∷ way) b p = (sym (same a v) ∙ p.0, same_way os ps same v way b p.1)

-- want of memory stands only in place of a path
pub wanting-told : {X : Type 0} (answer : Result X Fault) (P T : Type 0)
    → IfErr answer (λ e. (e ≡ OutOfMemory) × P) → T
    → IfErr answer (λ e. (e ≡ OutOfMemory) × T)
wanting-told (Ok x) P T told is = tt
wanting-told (Err fault) P T told is = (told.0, is)

-- orders stay among some types with one more that is between two of them
among-adopted : (n : ℕ) (os : List Adoption) (order : Adoption) → OrdersAmong n os
    → IsNumber n order.parent.0 → IsNumber n order.child.0 → OrdersAmong n (order ∷ os)
among-adopted n os order among parent child a b is =
    ⊎_elim
    (λ here.
    let same = and_parts (eqb order.parent.0 a) (eqb order.child.0 b) here in (
      subst (IsNumber n) (eqb-true order.parent.0 a same.0) parent,
      subst (IsNumber n) (eqb-true order.child.0 b same.1) child,
    ))
    (among a b)
    (or_cases (is_adoption_of a b order) (is_direct os a b) is)

at-end : (os : List Adoption) (order : Adoption)
    → slice_get (os ++ order ∷ []) (length os) ≡ Some order
at-end [] order = refl
at-end (o ∷ os) order = at-end os order

at-before : (os : List Adoption) (order : Adoption) (place : ℕ) → place < length os
    → slice_get (os ++ order ∷ []) place ≡ slice_get os place
at-before [] order place lt = absurd (omega (arith, lt))
at-before (o ∷ os) order zero lt = refl
at-before (o ∷ os) order (suc place) lt = at-before os order place (omega (arith, lt))

-- the places with that of one more order
module _ (old new : List ((TypeNo × TypeNo) × ℕ)) (os : List Adoption) (order : Adoption)
    (have : HavePlaces old os)
    (entered : (p : TypeNo × TypeNo) → lookup (is_pair p) new
    ≡ cond (is_pair (order.parent, order.child) p) (Some (length os)) (lookup (is_pair p) old))
  where
    within-adopted : (is : Bool) (older : Option ℕ) → IfSome older (λ place. place < length os)
        → IfSome (cond is (Some (length os)) older) (λ place. place < length (os ++ order ∷ []))
    within-adopted true older within = omega (arith, length-append os (order ∷ []))
    within-adopted false None within = tt
    within-adopted false (Some place) within = omega (arith, within, length-append os (order ∷ []))

    order-adopted : (is : Bool) (older : Option ℕ) → IfSome older (λ place. place < length os)
        → order_at (os ++ order ∷ []) (cond is (Some (length os)) older)
        ≡ cond is (Some order) (order_at os older)
    order-adopted true older within = at-end os order
    order-adopted false None within = refl
    order-adopted false (Some place) within = at-before os order place within

    places-adopted : HavePlaces new (os ++ order ∷ [])
    places-adopted = record {
      within =
          λ p. subst (λ o. IfSome o (λ place. place < length (os ++ order ∷ []))) (sym (entered p))
          (within-adopted (is_pair (order.parent, order.child) p) (lookup (is_pair p) old)
          (have.within p));
      tells = λ a b.
          ap (order_at (os ++ order ∷ [])) (entered (a, b))
          ∙ order-adopted (is_adoption_of a.0 b.0 order) (lookup (is_pair (a, b)) old)
          (have.within (a, b))
          ∙ ap (cond (is_adoption_of a.0 b.0 order) (Some order)) (have.tells a b)
          ∙ sym (ap (find (is_adoption_of a.0 b.0)) (reverse-append os (order ∷ [])));
    }

-- what is kept once one more order is adopted
pub related-adopted : (old new : Inside) (order : Adoption) → IsRelated old
    → CanFollow old.matrix.size (reverse old.adopted.items) order.parent.0 order.child.0
    → new.adopted.items ≡ old.adopted.items ++ order ∷ []
    → Adopts old.matrix order.parent.0 order.child.0 new.matrix
    → ((p : TypeNo × TypeNo) → lookup (is_pair p) new.places.entries
    ≡ cond (is_pair (order.parent, order.child) p) (Some (length old.adopted.items))
    (lookup (is_pair p) old.places.entries)) → IsRelated new
related-adopted old new order k follows pushed adopts entered =
    let newest : reverse new.adopted.items ≡ order ∷ reverse old.adopted.items =
    ap reverse pushed ∙ reverse-append old.adopted.items (order ∷ []) in
    record {
      orders =
          rw newest (adopted_by old.matrix.orders (reverse old.adopted.items) new.matrix.orders
          order k.orders adopts.orders);
      orders_among =
          rw (newest, adopts.size) (among-adopted old.matrix.size
          (reverse old.adopted.items) order k.orders_among follows.parent follows.child);
      places =
          rw pushed (places-adopted old.places.entries new.places.entries old.adopted.items order
          k.places entered);
    }

module _ (o : Inside) (k : IsRelated o) (now : Ordering) (seen : ordering_in o ≡ now) where
  pub before-by : (a b : ℕ) → is_before o.matrix.orders a b ≡ is_before now.orders a b
  before-by a b =
      same_before o.matrix.orders (reverse o.adopted.items) k.orders a b
      ∙ ap (λ (r : Ordering). is_before r.orders a b) seen

  pub before-beyond : (a b : ℕ) (r : Bool) → r ≡ (is_number now.size a && is_number now.size b)
      → r ≡ false → r ≡ is_before now.orders a b
  before-beyond a b r is none =
      none ∙ before-none now.size now.orders a b r
      (subst (λ (x : Ordering). OrdersAmong x.size x.orders) seen k.orders_among) is none

  pub among-them : (a b : ℕ) (r : Bool) → r ≡ is_before now.orders a b → r ≡ true
      → IsNumber o.matrix.size a × IsNumber o.matrix.size b
  among-them a b r is yes' =
      before-among o.matrix.size (reverse o.adopted.items) k.orders_among a b
      (ap (λ (x : Ordering). is_before x.orders a b) seen ∙ (sym is ∙ yes'))

  -- the matrix's path is that of the orders among any types that they are between
  pub path-by : (a b : ℕ) (r : Bool) → r ≡ is_before now.orders a b → r ≡ true
      → IsSound o.matrix.orders → (types : ℕ) → OrdersAmong types now.orders
      → path o.matrix.orders o.matrix.size a b ≡ path now.orders types a b
  path-by a b r is yes' sound types among =
      let same : HasSameOrders o.matrix.orders now.orders =
      subst (λ (x : Ordering). HasSameOrders o.matrix.orders x.orders) seen k.orders in
      same_path o.matrix.orders now.orders o.matrix.size types a b same
      (λ x y direct. k.orders_among x y (sym (k.orders x y) ∙ direct)) among sound
      (same_sound o.matrix.orders now.orders same sound)
      (among-them a b r is yes').0 (before-among types now.orders among a b (sym is ∙ yes')).0

  pub path-told : (a b : ℕ) (r : Bool) → r ≡ is_before now.orders a b → r ≡ true
      → IsSound o.matrix.orders → (answer : Result (Option (Vec TypeNo)) Fault)
      → IfOk answer (λ p. path_numbers p ≡ path o.matrix.orders o.matrix.size a b)
      → IfOk answer (λ p. (types : ℕ) → OrdersAmong types now.orders
      → path_numbers p ≡ path now.orders types a b)
  path-told a b r is yes' sound (Ok p) told =
      λ types among. told ∙ path-by a b r is yes' sound types among
  path-told a b r is yes' sound (Err fault) told = tt

  pub leads-told : (a b : ℕ) (answer : Result (Option (Vec TypeNo)) Fault)
      → IfOk answer (λ p. IfSome (path_numbers p) (LeadsBy o.matrix.orders a b))
      → IfOk answer (λ p. IfSome (path_numbers p) (LeadsBy now.orders a b))
  leads-told a b (Ok None) told = tt
  leads-told a b (Ok (Some p)) told =
      let same : HasSameOrders o.matrix.orders now.orders =
      subst (λ (x : Ordering). HasSameOrders o.matrix.orders x.orders) seen k.orders in
      (told.0, (told.1.0, same_way o.matrix.orders now.orders same a told.0 b told.1.1))
  leads-told a b (Err fault) told = tt
