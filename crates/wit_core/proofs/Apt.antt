-- What is known is between types that there are.
use Rattle.std.proofs.Common.{◌≡◌, ℕ, Bool, true, List, Option, Result, Ok, Err, IfSome, IfOk}
use Rattle.std.proofs.Common.{IfErr, length, nat_lt, nat_le, sym, ap, ◌∙◌, subst, arith}
use Rattle.std.specs.Global.{Vec}
use Rattle.std.proofs.lemmas.Bool.{and_parts, ltb-true, leb-true}
use Rattle.wit_model.specs.declared.faults.Fault.{Fault}
use Rattle.wit_model.specs.declared.faults.Fault.TheVariants.{OutOfMemory}
use Rattle.wit_model.specs.declared.locks.TypeNo.{TypeNo}
use Rattle.wit_model.specs.declared.locks.LockType.{LockType}
use Rattle.wit_model.specs.declared.calls.Adoption.{Adoption}
use Rattle.wit_model.specs.Rules.Numbers.{is_given, IsNumber}
use Rattle.wit_model.specs.Rules.Orders.{is_direct, is_before, Before}
use Rattle.wit_model.proofs.Orders.Paths.{before_from_test}
use Rattle.wit_model.specs.Trace.Paths.{path, path_numbers}
use Rattle.wit_model.specs.Rules.State.{State, Known, known_of, types_of, orders_of}
use Rattle.wit_model.proofs.Orders.Among.{orders-among}
use Rattle.wit_matrix.specs.Relation.{OrdersAmong, LeadsBy}
use Rattle.wit_core.specs.declared.verifier.Verifier.TheInside.{Inside}
use Rattle.wit_core.specs.Kept.{IsTied, start_in, history_in, known_in}
use Rattle.wit_core.proofs.Keeping.{types_few}

module _ (v : Inside) (k : IsTied v) where
  pub known-is : known_in v ≡ known_of (start_in v) (history_in v)
  known-is = ap (λ (s : State). s.known) k.state

  -- a known type's number is one of the matrix's
  pub number : (t : ℕ) → IsNumber (length (types_of (start_in v) (history_in v))) t
      → IsNumber v.known.most_types t
  number t is =
      let few = types_few v k in
      let same = ap (λ (x : Known). length x.types) known-is in
      let size = k.types in
      (is.0, omega (arith, is.1, few, same, size))

  pub given-number : (types : List LockType) (size t : ℕ) (r : Bool) → types ≡ v.known.known.types
      → size ≡ v.known.most_types
      → r ≡ is_given types t → r ≡ true → IsNumber size t
  given-number types size t r same size_is is yes' =
      let parts = and_parts (nat_lt 0 t) (nat_le t (length types)) (sym is ∙ yes') in
      let some = ltb-true 0 t parts.0 in
      let within = leb-true t (length types) parts.1 in
      let count = ap (λ (ts : List LockType). length ts) same in
      let few = types_few v k in
      let most = k.types in
      (omega (arith, some), omega (arith, within, count, few, most, size_is))

  among : OrdersAmong (length (types_of (start_in v) (history_in v))) v.known.known.orders
  among = λ a b direct.
      orders-among (start_in v) v.known.files (history_in v) k.legal a b
      (ap (λ (x : Known). is_direct x.orders a b) (sym known-is) ∙ direct)

  -- the path is that of the history's orders, it leads there, and want of memory stands only in
  -- place of a path
  pub path-kept : (os : List Adoption) (a b : ℕ) (r : Result (Option (Vec TypeNo)) Fault)
      → os ≡ v.known.known.orders
      → IfOk r (λ p. (types : ℕ) → OrdersAmong types os → path_numbers p ≡ path os types a b)
      → IfOk r (λ p. path_numbers p ≡ path (orders_of (start_in v) (history_in v))
      (length (types_of (start_in v) (history_in v))) a b)
  path-kept os a b (Ok p) is told =
      told (length (types_of (start_in v) (history_in v)))
      (subst (OrdersAmong (length (types_of (start_in v) (history_in v)))) (sym is) among)
      ∙ (ap (λ ps. path ps (length (types_of (start_in v) (history_in v))) a b)
      (is ∙ ap (λ (x : Known). x.orders) known-is))
  path-kept os a b (Err fault) is told = tt

  pub leads-kept : (os : List Adoption) (a b : ℕ) (r : Result (Option (Vec TypeNo)) Fault)
      → os ≡ v.known.known.orders
      → IfOk r (λ p. IfSome (path_numbers p) (LeadsBy os a b))
      → IfOk r (λ p. IfSome (path_numbers p)
      (LeadsBy (orders_of (start_in v) (history_in v)) a b))
  leads-kept os a b r is told =
      subst (λ ps. IfOk r (λ p. IfSome (path_numbers p) (LeadsBy ps a b)))
      (is ∙ ap (λ (x : Known). x.orders) known-is) told

  pub wanting-kept : (os : List Adoption) (a b : ℕ) (r : Result (Option (Vec TypeNo)) Fault)
      → os ≡ v.known.known.orders
      → IfErr r (λ e. (e ≡ OutOfMemory) × (is_before os a b ≡ true))
      → IfErr r (λ e. (e ≡ OutOfMemory) × Before (orders_of (start_in v) (history_in v)) a b)
  wanting-kept os a b (Ok p) is told = tt
  wanting-kept os a b (Err fault) is told = (
    told.0,
    before_from_test (orders_of (start_in v) (history_in v)) a b
        (sym (ap (λ ps. is_before ps a b) (is ∙ ap (λ (x : Known). x.orders) known-is)) ∙ told.1),
  )
