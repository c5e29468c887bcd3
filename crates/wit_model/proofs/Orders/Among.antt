-- Orders are between known types.
use Rattle.std.proofs.Common.{◌≡◌, ℕ, ◌≤◌, Bool, true, false, cond, eqb, List, [], ◌∷◌, ◌++◌}
use Rattle.std.proofs.Common.{length, Ok, refl, sym, subst, arith, length-append, ⊎_elim}
use Rattle.std.specs.List.{list_all}
use Rattle.std.proofs.lemmas.Bool.{and_parts, or_cases, eqb-true, false≢true}
use Rattle.wit_model.specs.declared.locks.Class.{Class}
use Rattle.wit_model.specs.declared.locks.TypeNo.{TypeNo}
use Rattle.wit_model.specs.declared.locks.Origin.TheVariants.{Listed, Defined, At}
use Rattle.wit_model.specs.declared.calls.Adoption.{Adoption}
use Rattle.wit_model.specs.declared.calls.TypedRequest.{TypedRequest}
use Rattle.wit_model.specs.declared.calls.Call.{Call}
use Rattle.wit_model.specs.declared.calls.Call.TheVariants.{Init, Check, DefineOrder}
use Rattle.wit_model.specs.declared.calls.Reply.{Reply}
use Rattle.wit_model.specs.declared.calls.Reply.TheVariants.{Adopted, AdoptedAll}
use Rattle.wit_model.specs.declared.calls.Entry.{Entry}
use Rattle.wit_model.specs.Rules.Types.{LockType, is_enrolled, type_number, enrolled, enrolled_all}
use Rattle.wit_model.specs.Rules.Types.{listed_types, type_name_of, types_after}
use Rattle.wit_model.specs.Rules.Orders.{is_adoption_of, is_direct, taught_at, adopted_once}
use Rattle.wit_model.specs.Rules.Orders.{listed_pairs, listed_orders}
use Rattle.wit_model.specs.Rules.State.{Start, known_of, state_of, types_of, orders_of}
use Rattle.wit_model.specs.Rules.Verdict.{typed_request}
use Rattle.wit_model.specs.Rules.Step.{answer_of, story_after, IsLegal}
use Rattle.wit_model.specs.Rules.Numbers.{is_number, IsNumber}
use Rattle.wit_model.proofs.Chains.Seats.{entry}
use Rattle.wit_model.proofs.Orders.Types.{number-known}
use Rattle.wit_model.proofs.Histories.Accepted.{check_accepted}
use Rattle.wit_model.proofs.Histories.AcceptedTurns.{define_accepted}
use Rattle.wit_model.proofs.Orders.Started.{all-enrolled}
use Rattle.wit_model.proofs.Orders.AllHeld.{learnt_on}
use Rattle.wit_model.proofs.Orders.Sound.{taught-all, after-all}
use Rattle.wit_model.proofs.Orders.Orderly.{made-type, adopted-orderly, defined-orderly}
use Rattle.wit_model.proofs.Orders.Orderly.{number-from, parents-known}

-- orders between n types
AreAmong : ℕ → List Adoption → Type 0
AreAmong n orders = (a b : ℕ) → is_direct orders a b ≡ true → IsNumber n a × IsNumber n b

among_push : (n : ℕ) (o : Adoption) (orders : List Adoption) → AreAmong n orders
    → IsNumber n o.parent.0 → IsNumber n o.child.0 → AreAmong n (o ∷ orders)
unfolding AreAmong
among_push n o orders all parent child = λ a b is.
    ⊎_elim
    (λ new. let same = and_parts (eqb o.parent.0 a) (eqb o.child.0 b) new in (
      subst (λ c. IsNumber n c) (eqb-true o.parent.0 a same.0) parent,
      subst (λ c. IsNumber n c) (eqb-true o.child.0 b same.1) child,
    ))
    (λ old. all a b old)
    (or_cases (is_adoption_of a b o) (is_direct orders a b) is)

among_on : (n : ℕ) (q : TypedRequest) (ps : List TypeNo) (orders : List Adoption)
    → AreAmong n orders → list_all (λ (p : TypeNo). is_number n p.0) ps ≡ true
    → IsNumber n q.type_no.0
    → AreAmong n (learnt_on q ps orders)
among_on n q [] orders all known child = all
among_on n q (p ∷ ps) orders all known child =
    let parts = and_parts (is_number n p.0) (list_all (λ (x : TypeNo). is_number n x.0) ps) known in
    among_on n q ps (taught_at q.site (p, q.type_no) ∷ orders)
    (among_push n (taught_at q.site (p, q.type_no)) orders all
    (number-from n p.0 parts.0) child) parts.1 child

among_more : (n m : ℕ) (orders : List Adoption) → n ≤ m → AreAmong n orders → AreAmong m orders
unfolding AreAmong
among_more n m orders le all = λ a b is.
    let both =
    all a b is in (
      (both.0.0, omega (arith, le, both.0.1)),
      (both.1.0, omega (arith, le, both.1.1)),
    )

-- types never become fewer
more-enrolled : (name : List ℕ) (class : Class) (types : List LockType)
    → length types ≤ length (enrolled name class types)
more-enrolled name class types = go (is_enrolled name types)
  where
    go : (b : Bool) → length types
        ≤ length (cond b types (types ++ record { name = name; class = class } ∷ []))
    go true = omega arith
    go false = omega (arith, length-append types (record { name = name; class = class } ∷ []))

more-listed : (list : List (Class × List ℕ)) (types : List LockType)
    → length types ≤ length (enrolled_all list types)
more-listed [] types = omega arith
more-listed (e ∷ list) types =
    omega (arith, more-enrolled e.1 e.0 types, more-listed list (enrolled e.1 e.0 types))

more-types : (c : Call) (types : List LockType) → length types ≤ length (types_after c types)
more-types (Init lock) types = more-enrolled (type_name_of lock) lock.class types
more-types _ types = omega arith

among_once : (n a b : ℕ) (orders : List Adoption) → AreAmong n orders → IsNumber n a → IsNumber n b
    → AreAmong n (adopted_once a b Listed orders)
among_once n a b orders all parent child = go (is_direct orders a b)
  where
    go : (f : Bool) → AreAmong n
        (cond f orders (record {
          parent = record { 0 = a };
          child = record { 0 = b };
          origin = Listed;
        } ∷ orders))
    go true = all
    go false =
        among_push n (record {
          parent = record { 0 = a };
          child = record { 0 = b };
          origin = Listed;
        }) orders all parent child

-- the orders of a list are between its types
among_list : (types : List LockType) (list : List (Class × List ℕ)) (orders : List Adoption)
    → list_all (λ (e : Class × List ℕ). is_enrolled e.1 types) list ≡ true
    → AreAmong (length types) orders → AreAmong (length types) (listed_pairs types list orders)
among_list types [] orders known all = all
among_list types (a ∷ []) orders known all = all
among_list types (a ∷ b ∷ list) orders known all =
    let here =
    and_parts (is_enrolled a.1 types)
    (list_all (λ (e : Class × List ℕ). is_enrolled e.1 types) (b ∷ list)) known in
    let next =
    and_parts (is_enrolled b.1 types)
    (list_all (λ (e : Class × List ℕ). is_enrolled e.1 types) list) here.1 in
    among_list types (b ∷ list) (adopted_once (type_number a.1 types)
    (type_number b.1 types) Listed orders) here.1
    (among_once (length types) (type_number a.1 types) (type_number b.1 types) orders all
    (number-known a.1 types here.0) (number-known b.1 types next.0))

among_lists : (lists : List (List (Class × List ℕ))) (types : List LockType)
    (orders : List Adoption) → AreAmong (length types) orders
    → AreAmong (length (listed_types lists types)) (listed_orders lists types orders)
among_lists [] types orders all = all
among_lists (list ∷ lists) types orders all =
    among_lists lists (enrolled_all list types) (listed_pairs (enrolled_all list types) list orders)
    (among_list (enrolled_all list types) list orders (all-enrolled list types)
    (among_more (length types) (length (enrolled_all list types)) orders
    (more-listed list types) all))

among_none : AreAmong 0 []
unfolding AreAmong
among_none = λ a b is. absurd (false≢true is)

among_by : (start : Start) (files : List (List ℕ)) (h : List Entry) (t : ℕ) (c : Call) (r : Reply)
    → IsLegal start files h
    → answer_of (story_after start files h) t c ≡ Ok r
    → AreAmong (length (types_of start h)) (orders_of start h)
    → AreAmong (length (types_of start (entry t c r ∷ h))) (orders_of start (entry t c r ∷ h))
among_by start files h t (Check q) (Adopted a b) legal ok all =
    let o =
    adopted-orderly start files h t q a b legal
    (check_accepted (state_of (story_after start files h)) t q (Adopted a b) ok) in
    among_push (length (types_of start h)) (record { parent = a; child = b; origin = At q.site })
    (orders_of start h) all o.parent o.child
among_by start files h t (Check q) (AdoptedAll ps) legal ok all =
    let accepted = check_accepted (state_of (story_after start files h)) t q (AdoptedAll ps) ok in
    let l = taught-all start files h t q ps accepted in
    subst (AreAmong (length (types_of start h))) (sym (after-all start h t q ps l))
    (among_on (length (types_of start h)) (typed_request (known_of start h) q) l.parents
    (orders_of start h) all
    (parents-known start files h t q ps legal l) (made-type start h q.lock.0 l.asks))
among_by start files h t (DefineOrder x y) (Adopted a b) legal ok all =
    let o =
    defined-orderly start files h t x.0 y.0 a b
    (define_accepted (state_of (story_after start files h)) t x.0 y.0 (Adopted a b) ok refl)
    in
    among_push (length (types_of start h)) (record { parent = a; child = b; origin = Defined })
    (orders_of start h) all o.parent o.child
among_by start files h t c r legal ok all =
    among_more (length (types_of start h)) (length (types_after c (types_of start h)))
    (orders_of start h) (more-types c (types_of start h)) all

among_legal : (start : Start) (files : List (List ℕ)) (h : List Entry) → IsLegal start files h
    → AreAmong (length (types_of start h)) (orders_of start h)
among_legal start files [] legal = among_lists start.lists [] [] among_none
among_legal start files (x ∷ h) legal =
    among_by start files h x.seat.0 x.call x.reply legal.2 legal.0
    (among_legal start files h legal.2)

-- adopted orders are between known types
pub orders-among : (start : Start) (files : List (List ℕ)) (h : List Entry) → IsLegal start files h
    → (a b : ℕ) → is_direct (orders_of start h) a b ≡ true → IsNumber (length (types_of start h)) a
    × IsNumber (length (types_of start h)) b
unfolding AreAmong
orders-among start files h legal = among_legal start files h legal
