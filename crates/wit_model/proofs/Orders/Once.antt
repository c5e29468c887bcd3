-- An order is adopted only where it is new: so none stands twice.
use Rattle.std.proofs.Common.{◌≡◌, ℕ, Bool, true, false, cond, List, [], ◌∷◌, Ok, refl, ap₂, sym}
use Rattle.std.proofs.Common.{◌∙◌, subst}
use Rattle.wit_model.specs.declared.locks.Class.{Class}
use Rattle.wit_model.specs.declared.locks.TypeNo.{TypeNo}
use Rattle.wit_model.specs.declared.locks.Origin.TheVariants.{Listed}
use Rattle.wit_model.specs.declared.calls.Adoption.{Adoption}
use Rattle.wit_model.specs.declared.calls.Call.{Call}
use Rattle.wit_model.specs.declared.calls.Call.TheVariants.{Check, DefineOrder}
use Rattle.wit_model.specs.declared.calls.Reply.{Reply}
use Rattle.wit_model.specs.declared.calls.Reply.TheVariants.{Adopted, AdoptedAll}
use Rattle.wit_model.specs.declared.calls.Entry.{Entry}
use Rattle.wit_model.specs.Rules.Types.{LockType, type_number, enrolled_all}
use Rattle.wit_model.specs.Rules.Locks.{lock_at}
use Rattle.wit_model.specs.Rules.Orders.{is_direct, AreDistinct, adopted_once, listed_pairs}
use Rattle.wit_model.specs.Rules.Orders.{listed_orders}
use Rattle.wit_model.specs.Rules.State.{Start, seat_at, known_of, state_of, orders_of}
use Rattle.wit_model.specs.Rules.Verdict.{basis_of, typed_request}
use Rattle.wit_model.specs.Rules.Step.{answer_of, story_after, IsLegal}
use Rattle.wit_model.proofs.Chains.Seats.{entry}
use Rattle.wit_model.proofs.Histories.Accepted.{check_accepted}
use Rattle.wit_model.proofs.Histories.AcceptedTurns.{define_accepted}
use Rattle.wit_model.proofs.Orders.AllHeld.{distinct-on}
use Rattle.wit_model.proofs.Orders.Sound.{taught-all, after-all}
use Rattle.wit_model.proofs.Orders.Learnt.{learnt}
use Rattle.wit_model.proofs.Orders.Defined.{define_adopted}

distinct_once : (a b : ℕ) (orders : List Adoption) → AreDistinct orders
    → AreDistinct (adopted_once a b Listed orders)
distinct_once a b orders all = go (is_direct orders a b) refl
  where
    go : (f : Bool) → is_direct orders a b ≡ f
        → AreDistinct (cond f orders
        (record {
          parent = record { 0 = a };
          child = record { 0 = b };
          origin = Listed;
        } ∷ orders))
    go true is = all
    go false is = (is, all)

distinct_list : (types : List LockType) (list : List (Class × List ℕ)) (orders : List Adoption)
    → AreDistinct orders → AreDistinct (listed_pairs types list orders)
distinct_list types [] orders all = all
distinct_list types (a ∷ []) orders all = all
distinct_list types (a ∷ b ∷ list) orders all =
    distinct_list types (b ∷ list)
    (adopted_once (type_number a.1 types) (type_number b.1 types) Listed orders)
    (distinct_once (type_number a.1 types) (type_number b.1 types) orders all)

distinct_lists : (lists : List (List (Class × List ℕ))) (types : List LockType)
    (orders : List Adoption) → AreDistinct orders → AreDistinct (listed_orders lists types orders)
distinct_lists [] types orders all = all
distinct_lists (list ∷ lists) types orders all =
    distinct_lists lists (enrolled_all list types)
    (listed_pairs (enrolled_all list types) list orders)
    (distinct_list (enrolled_all list types) list orders all)

distinct_by : (start : Start) (files : List (List ℕ)) (h : List Entry) (t : ℕ) (c : Call)
    (r : Reply) → answer_of (story_after start files h) t c ≡ Ok r
    → AreDistinct (orders_of start h) → AreDistinct (orders_of start (entry t c r ∷ h))
distinct_by start files h t (Check q) (Adopted a b) ok all =
    let s = state_of (story_after start files h) in
    let l =
    learnt start.profile (basis_of (known_of start h)) s.watch (seat_at s t).sleep
    (seat_at s t).spin (typed_request (known_of start h) q) a b
    (check_accepted s t q (Adopted a b) ok).verdict in (
      ap₂ (λ (x y : TypeNo). is_direct (orders_of start h) x.0 y.0) (sym l.parent) (sym l.child)
          ∙ l.is_new.new,
      all,
    )
distinct_by start files h t (Check q) (AdoptedAll ps) ok all =
    let l =
    taught-all start files h t q ps
    (check_accepted (state_of (story_after start files h)) t q (AdoptedAll ps) ok) in
    subst AreDistinct (sym (after-all start h t q ps l))
    (distinct-on (typed_request (known_of start h) q) l.parents (orders_of start h) l.free all)
distinct_by start files h t (DefineOrder x y) (Adopted p c) ok all =
    let s = state_of (story_after start files h) in
    let d = define_accepted s t x.0 y.0 (Adopted p c) ok refl in (
      (define_adopted s.known.types s.known.orders (lock_at s.known.locks x.0).type_no
          (lock_at s.known.locks y.0).type_no p c d.answer).new,
      all,
    )
distinct_by start files h t c r ok all = all

-- no order is adopted twice
pub distinct_legal : (start : Start) (files : List (List ℕ)) (h : List Entry)
    → IsLegal start files h → AreDistinct (orders_of start h)
distinct_legal start files [] legal = distinct_lists start.lists [] [] tt
distinct_legal start files (x ∷ h) legal =
    distinct_by start files h x.seat.0 x.call x.reply legal.0 (distinct_legal start files h legal.2)
