-- Static lists, entered list by list.
use Rattle.std.proofs.Common.{◌≡◌, ℕ, ◌+◌, ◌<◌, ◌≤◌, Bool, true, false, cond, List, [], ◌∷◌, ◌++◌}
use Rattle.std.proofs.Common.{length, drop, get_or, Option, Some, None, String, refl, ap, sym, ap₂}
use Rattle.std.proofs.Common.{◌∙◌, subst, arith, inl, inr, ◌⊎◌, ⊎_elim}
use Rattle.std.specs.Option.{option_or}
use Rattle.std.specs.Global.{Vec, Global}
use Rattle.std.proofs.lemmas.Bool.{cases_lt}
use Rattle.std.proofs.lemmas.List.{drop_more, length-map}
use Rattle.wit_model.specs.declared.profiles.Profile.{Profile}
use Rattle.wit_model.specs.declared.faults.Fault.{Fault}
use Rattle.wit_model.specs.declared.faults.Fault.TheVariants.{BadName, OutOfMemory}
use Rattle.wit_model.specs.declared.locks.Class.{Class}
use Rattle.wit_model.specs.declared.locks.LockType.{LockType}
use Rattle.wit_model.specs.declared.calls.Adoption.{Adoption}
use Rattle.wit_model.specs.Rules.Types.{enrolled_all}
use Rattle.wit_model.specs.Rules.Orders.{listed_pairs}
use Rattle.wit_model.specs.Rules.State.{Start}
use Rattle.wit_model.specs.Rules.Start.{numbered, list_fault, lists_fault, has_bad_pair}
use Rattle.wit_model.specs.Rules.Start.{blessed_fault, start_fault, IsAcceptedTo, IsRefused}
use Rattle.wit_model.specs.Rules.Sizes.{Sizes}
use Rattle.wit_known.specs.Known.{Facts, nothing_known}
use Rattle.wit_known.specs.Fresh.{start_of}
use Rattle.wit_known.specs.Listed.{listed, all_listed, pairs_of, list_entered, lists_entered}
use Rattle.wit_known.specs.Listed.{AreRefused}

-- a fault of a list, and of none
faulty : (most n : ℕ) (list : List (Class × List ℕ)) (lists : List (List (Class × List ℕ)))
    (types : List LockType) (orders : List Adoption) (fault : Fault)
    → list_fault most types orders list ≡ Some fault
    → lists_fault most n (list ∷ lists) types orders ≡ Some (n, fault)
faulty most n list lists types orders fault is =
    ap (λ o. option_or (numbered n o)
    (lists_fault most (n + 1) lists (enrolled_all list types)
    (listed_pairs (enrolled_all list types) list orders))) is

passed : (most n : ℕ) (list : List (Class × List ℕ)) (lists : List (List (Class × List ℕ)))
    (types : List LockType) (orders : List Adoption)
    → list_fault most types orders list ≡ None
    → lists_fault most n (list ∷ lists) types orders
    ≡ lists_fault most (n + 1) lists (enrolled_all list types)
    (listed_pairs (enrolled_all list types) list orders)
passed most n list lists types orders is =
    ap (λ o. option_or (numbered n o)
    (lists_fault most (n + 1) lists (enrolled_all list types)
    (listed_pairs (enrolled_all list types) list orders))) is

-- the fault of later lists leaves the acceptance of the earlier ones
later : (most n m : ℕ) (lists : List (List (Class × List ℕ))) (types : List LockType)
    (orders : List Adoption) → 0 < m → m < n
    → IsAcceptedTo m (lists_fault most n lists types orders)
later most n m [] types orders some lt = tt
later most n m (list ∷ lists) types orders some lt =
    go (list_fault most types orders list) refl
    (later most (n + 1) m lists (enrolled_all list types)
    (listed_pairs (enrolled_all list types) list orders) some (omega (arith, lt)))
  where
    go : (o : Option Fault) → list_fault most types orders list ≡ o
        → IsAcceptedTo m (lists_fault most (n + 1) lists (enrolled_all list types)
        (listed_pairs (enrolled_all list types) list orders))
        → IsAcceptedTo m (lists_fault most n (list ∷ lists) types orders)
    go None is rest = subst (IsAcceptedTo m) (sym (passed most n list lists types orders is)) rest
    go (Some fault) is rest =
        subst (IsAcceptedTo m) (sym (faulty most n list lists types orders fault is)) (inl lt)

module _ (lists : List (Vec (Class × String Global))) (most i : ℕ) (a : Vec (Class × String Global))
    (items : List (Class × String Global)) (types : List LockType) (orders : List Adoption)
    (lt : i < length lists) (is_a : a ≡ get_or lists i a) (is : items ≡ a.items) where
  here : all_listed (drop i lists) ≡ listed items ∷ all_listed (drop (i + 1) lists)
  here =
      ap all_listed (drop_more lists i a lt ∙ ap (λ x. x ∷ drop (i + 1) lists) (sym is_a))
      ∙ ap (λ (xs : List (Class × String Global)). listed xs ∷ all_listed (drop (i + 1) lists))
      (sym is)

  -- where the next list is accepted
  pub entered-fault : (next_types : List LockType) (next_orders : List Adoption)
      (whole : Option (ℕ × Fault))
      → lists_fault most (i + 1) (all_listed (drop i lists)) types orders ≡ whole
      → list_fault most types orders (listed items) ≡ None
      → next_types ≡ enrolled_all (listed items) types
      → next_orders ≡ listed_pairs (enrolled_all (listed items) types) (listed items) orders
      → lists_fault most (i + 1 + 1) (all_listed (drop (i + 1) lists)) next_types next_orders
      ≡ whole
  entered-fault next_types next_orders whole was none types_are orders_are =
      ap₂ (λ ts os. lists_fault most (i + 1 + 1) (all_listed (drop (i + 1) lists)) ts os)
      types_are orders_are
      ∙ (sym (passed most (i + 1) (listed items) (all_listed (drop (i + 1) lists))
      types orders none)
      ∙ (ap (λ ls. lists_fault most (i + 1) ls types orders) (sym here) ∙ was))

  -- where it isn't
  pub refused-list : (whole : Option (ℕ × Fault)) (number : ℕ) (fault : Fault) → number ≡ i + 1
      → lists_fault most (i + 1) (all_listed (drop i lists)) types orders ≡ whole
      → (list_fault most types orders (listed items) ≡ Some fault)
      ⊎ ((fault ≡ OutOfMemory) × (list_fault most types orders (listed items) ≡ None))
      → AreRefused whole (all_listed lists) number fault
  refused-list whole number fault e was why =
      subst (λ n. AreRefused whole (all_listed lists) n fault) (sym e)
      (⊎_elim
      (λ some. inl (sym was ∙ (ap (λ ls. lists_fault most (i + 1) ls types orders) here
      ∙ faulty most (i + 1) (listed items) (all_listed (drop (i + 1) lists)) types
      orders fault some)))
      (λ out. inr (
        out.0,
        (
          omega arith,
          (
            omega (
              arith,
              lt,
              length-map lists
                  (λ (list : Vec (Class × String Global)). listed list.items),
            ),
            subst (IsAcceptedTo (i + 1)) (entered-fault _ _ whole was out.1 refl refl)
                (later most (i + 1 + 1) (i + 1) (all_listed (drop (i + 1) lists)) _ _ (omega arith)
                (omega arith)),
          ),
        ),
      ))
      why)

  pub known-step : (old next whole : Facts)
      → next ≡ record old { known = list_entered old.known (listed items); spare = next.spare }
      → record old { known = lists_entered old.known (all_listed (drop i lists)); spare = 0 }
      ≡ whole
      → record next {
        known = lists_entered next.known (all_listed (drop (i + 1) lists));
        spare = 0;
      } ≡ whole
  known-step old next whole next_is was =
      ap (λ (x : Facts). record x {
        known = lists_entered x.known (all_listed (drop (i + 1) lists));
        spare = 0;
      }) next_is
      ∙ (ap (λ ls. record old { known = lists_entered old.known ls; spare = 0 }) (sym here) ∙ was)

-- a refusal of the lists refuses the start
pub start-refused : (start : Start) (number : ℕ) (fault : Fault)
    → AreRefused (lists_fault start.sizes.types 1 start.lists [] []) start.lists number fault
    → IsRefused start number fault
start-refused start number fault refused =
    ⊎_elim
    (λ is. inl (ap (λ o. option_or o (blessed_fault start.blessed)) is))
    (λ out. inr (
      out.0,
      (
        out.1.1.0,
        go (lists_fault start.sizes.types 1 start.lists [] []) out.1.1.1,
      ),
    ))
    refused
  where
    blessed : (b : Bool) → IsAcceptedTo number (cond b (Some (0, BadName)) None)
    blessed true = inr refl
    blessed false = tt

    go : (o : Option (ℕ × Fault)) → IsAcceptedTo number o
        → IsAcceptedTo number (option_or o (blessed_fault start.blessed))
    go None accepted = blessed _
    go (Some e) accepted = accepted

-- an accepted start, and one whose blessed pairs aren't, or that can't be made
pub start-accepted : (start : Start) → lists_fault start.sizes.types 1 start.lists [] [] ≡ None
    → has_bad_pair start.blessed ≡ false → start_fault start ≡ None
start-accepted start lists good =
    ap (λ o. option_or o (blessed_fault start.blessed)) lists
    ∙ ap (λ b. cond {A = Option (ℕ × Fault)} b (Some (0, BadName)) None) good

pub start-misnamed : (start : Start) → lists_fault start.sizes.types 1 start.lists [] [] ≡ None
    → has_bad_pair start.blessed ≡ true → IsRefused start 0 BadName
start-misnamed start lists bad =
    inl (ap (λ o. option_or o (blessed_fault start.blessed)) lists
    ∙ ap (λ b. cond {A = Option (ℕ × Fault)} b (Some (0, BadName)) None) bad)

pub start-unmade : (start : Start) (fault : Fault) → fault ≡ OutOfMemory → IsRefused start 0 fault
start-unmade start fault out = inr (out, (omega arith, any (start_fault start)))
  where
    any : (o : Option (ℕ × Fault)) → IsAcceptedTo 0 o
    any None = tt
    any (Some e) =
        ⊎_elim (λ (lt : 0 < e.0). inl lt) (λ (le : e.0 ≤ 0). inr (omega arith)) (cases_lt 0 e.0)

-- what is known before anything has happened
pub record IsBegun (sizes : Sizes) (lists : List (List (Class × List ℕ)))
    (blessed : List (List ℕ × List ℕ)) (k : Facts) : Type 0 where
  pub known : k.known ≡ lists_entered (record nothing_known { blessed = blessed }) lists
  pub live : k.live ≡ []
  pub files : k.files ≡ []
  pub types : k.most_types ≡ sizes.types

-- what `new` finds once the lists are entered, and where they are refused
module _ (profile : Profile) (sizes : Sizes) (most : ℕ)
    (lists passed_lists : List (Vec (Class × String Global)))
    (blessed passed_pairs : List (String Global × String Global)) (old : Facts)
    (most_is : most ≡ sizes.types) (lists_are : passed_lists ≡ lists)
    (pairs_are : passed_pairs ≡ blessed)
    (old_is : old ≡ record {
      known = nothing_known;
      live = [];
      files = [];
      most_types = most;
      spare = old.spare;
    }) where
  same-answer : lists_fault most 1 (all_listed passed_lists) old.known.types old.known.orders
      ≡ lists_fault sizes.types 1 (all_listed lists) [] []
  same-answer =
      ap (λ m. lists_fault m 1 (all_listed passed_lists) old.known.types old.known.orders) most_is
      ∙ (ap (λ ls. lists_fault sizes.types 1 (all_listed ls) old.known.types old.known.orders)
      lists_are
      ∙ ap (λ (k : Facts). lists_fault sizes.types 1 (all_listed lists) k.known.types
      k.known.orders) old_is)

  lists-accepted : lists_fault most 1 (all_listed passed_lists) old.known.types old.known.orders
      ≡ None → lists_fault sizes.types 1 (all_listed lists) [] [] ≡ None
  lists-accepted none = sym same-answer ∙ none

  pub lists-refused : (number : ℕ) (fault : Fault)
      → AreRefused (lists_fault most 1 (all_listed passed_lists) old.known.types old.known.orders)
      (all_listed passed_lists) number fault
      → IsRefused (start_of profile sizes lists blessed) number fault
  lists-refused number fault refused =
      start-refused (start_of profile sizes lists blessed) number fault
      (subst (λ ls. AreRefused (lists_fault sizes.types 1 (all_listed lists) [] [])
      (all_listed ls) number fault) lists_are
      (subst (λ o. AreRefused o (all_listed passed_lists) number fault) same-answer refused))

  -- the blessed pairs are refused
  pub pairs-refused : (fault : Fault)
      → lists_fault most 1 (all_listed passed_lists) old.known.types old.known.orders ≡ None
      → ((fault ≡ BadName) × (has_bad_pair (pairs_of passed_pairs) ≡ true)) ⊎ (fault ≡ OutOfMemory)
      → IsRefused (start_of profile sizes lists blessed) 0 fault
  pairs-refused fault none why =
      ⊎_elim
      (λ bad. subst (IsRefused (start_of profile sizes lists blessed) 0) (sym bad.0)
      (start-misnamed (start_of profile sizes lists blessed) (lists-accepted none)
      (ap (λ ps. has_bad_pair (pairs_of ps)) (sym pairs_are) ∙ bad.1)))
      (λ out. start-unmade (start_of profile sizes lists blessed) fault out)
      why

  -- all are accepted
  pub all-accepted : lists_fault most 1 (all_listed passed_lists) old.known.types old.known.orders
      ≡ None → has_bad_pair (pairs_of passed_pairs) ≡ false
      → start_fault (start_of profile sizes lists blessed) ≡ None
  all-accepted none good =
      start-accepted (start_of profile sizes lists blessed) (lists-accepted none)
      (ap (λ ps. has_bad_pair (pairs_of ps)) (sym pairs_are) ∙ good)

  pub is-begun : (entered new : Facts)
      → entered ≡ record old {
        known = lists_entered old.known (all_listed passed_lists);
        spare = entered.spare;
      }
      → new ≡ record entered {
        known = record entered.known {
          blessed = entered.known.blessed
              ++ pairs_of passed_pairs;
        };
      }
      → IsBegun sizes (all_listed lists) (pairs_of blessed) new
  is-begun entered new entered_is new_is =
      let here : entered
      ≡ record {
        known = lists_entered nothing_known (all_listed lists);
        live = [];
        files = [];
        most_types = most;
        spare = entered.spare;
      } =
      entered_is ∙ (ap (λ ls. record old {
        known = lists_entered old.known (all_listed ls);
        spare = entered.spare;
      }) lists_are
      ∙ ap (λ (k : Facts). record k {
        known = lists_entered k.known (all_listed lists);
        spare = entered.spare;
      }) old_is) in
      subst (IsBegun sizes (all_listed lists) (pairs_of blessed)) (sym new_is) (record {
        known =
            ap (λ (k : Facts). record k.known {
              blessed = k.known.blessed
                  ++ pairs_of passed_pairs;
            }) here
            ∙ ap (λ ps. lists_entered (record nothing_known { blessed = pairs_of ps })
            (all_listed lists)) pairs_are;
        live = ap (λ (k : Facts). k.live) here;
        files = ap (λ (k : Facts). k.files) here;
        types = ap (λ (k : Facts). k.most_types) here ∙ most_is;
      })
