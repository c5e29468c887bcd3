-- A ruling reads of the orders which are direct and which types are before which, and of the found
-- pairs which are found.
use Rattle.std.proofs.Common.{◌≡◌, ℕ, Bool, not, ◌&&◌, ◌||◌, cond, List, [], ◌∷◌, Option, None}
use Rattle.std.proofs.Common.{Some, is_some, Result, Ok, find, reverse, unwrap_or, refl, ap, ap₂}
use Rattle.std.proofs.Common.{◌∙◌}
use Rattle.std.specs.List.{list_all, last_or, before_first}
use Rattle.std.specs.Option.{option_map}
use Rattle.wit_model.specs.declared.profiles.Profile.{Profile}
use Rattle.wit_model.specs.declared.faults.Fault.{Fault}
use Rattle.wit_model.specs.declared.locks.TypeNo.{TypeNo}
use Rattle.wit_model.specs.declared.locks.Watch.{Watch}
use Rattle.wit_model.specs.declared.locks.Instance.{Instance}
use Rattle.wit_model.specs.declared.calls.Adoption.{Adoption}
use Rattle.wit_model.specs.declared.calls.TypedRequest.{TypedRequest}
use Rattle.wit_model.specs.declared.calls.Conflict.{Conflict}
use Rattle.wit_model.specs.declared.calls.Heading.{Heading}
use Rattle.wit_model.specs.declared.calls.Heading.TheVariants as heading
use Rattle.wit_model.specs.declared.calls.Reply.{Reply}
use Rattle.wit_model.specs.declared.calls.Reply.TheVariants.{Pass, Silent, Duplicate}
use Rattle.wit_model.specs.declared.calls.Reply.TheVariants.{Reversal}
use Rattle.wit_model.specs.Rules.Locks.{has_flag}
use Rattle.wit_model.specs.Rules.Orders.{is_direct, is_before, is_found}
use Rattle.wit_model.specs.Rules.Verdict.{Basis, Rule, is_of, type_held, has_type_of, is_sleepable}
use Rattle.wit_model.specs.Rules.Verdict.{is_giant, is_blessed, place_of, place_asked, doubled}
use Rattle.wit_model.specs.Rules.Verdict.{breach, violates, conflict, reported, is_learnt}
use Rattle.wit_model.specs.Rules.Verdict.{is_direct_behind, is_among, is_new, new_parents}
use Rattle.wit_model.specs.Rules.Verdict.{told_orders, doubles, follows, breaks_order, teaches}
use Rattle.wit_model.specs.Rules.Verdict.{compared, when, decided}
use Rattle.wit_model.specs.Rules.Verdict.{isnt_watched, sleeps_under_spin, holds_nothing, holds_it}
use Rattle.wit_model.specs.Rules.Verdict.{chain_asked, ruling}

find-same : {X : Type 0} (p r : X → Bool) → ((x : X) → p x ≡ r x) → (xs : List X)
    → find p xs ≡ find r xs
find-same p r same [] = refl
find-same p r same (x ∷ xs) = ap₂ (λ b o. cond b (Some x) o) (same x) (find-same p r same xs)

module _ (g : Basis) (orders : List Adoption) (found : List (TypeNo × TypeNo)) (direct : (a b : ℕ)
    → is_direct g.orders a b ≡ is_direct orders a b)
    (before : (a b : ℕ) → is_before g.orders a b ≡ is_before orders a b) (pairs : (a b : ℕ)
    → is_found g.found a b ≡ is_found found a b) where
  abbrev other : Basis
  other = record g { orders = orders; found = found }

  breach-same : (a h : TypeNo) → breach g a h ≡ breach other a h
  breach-same a h =
      ap (λ b. cond (is_giant g a && is_sleepable g h) None
      (cond (is_sleepable g a && is_giant g h) None
      (cond (is_sleepable g a && not (is_sleepable g h)) (Some heading.Sleepable)
      (cond (is_giant g a && not (is_sleepable g h)) (Some heading.Giant)
      (cond b (Some heading.Order) None))))) (before a.0 h.0)

  conflict-same : (q : TypedRequest) (c : List Instance) (i : Instance)
      → conflict g q c i ≡ conflict other q c i
  conflict-same q c i =
      ap (λ (o : Option Heading). record {
        heading = unwrap_or o heading.Order;
        held = place_of i;
        older =
            option_map place_of (find (has_type_of g q)
            (reverse (before_first (is_of i.lock.0) c)));
        asked = place_asked q;
      }) (breach-same q.type_no (type_held g i))

  reported-same : (q : TypedRequest) (c : List Instance) (i : Instance)
      → reported g q c i ≡ reported other q c i
  reported-same q c i =
      ap₂ (λ (b : Bool) (x : Conflict). cond {A = Result Reply Fault}
      (b || is_blessed g (type_held g i) q.type_no) (Ok (Silent (type_held g i) q.type_no))
      (Ok (Reversal x)))
      (pairs (type_held g i).0 q.type_no.0) (conflict-same q c i)

  map-same : (q : TypedRequest) (c : List Instance) (o : Option Instance)
      → option_map (reported g q c) o ≡ option_map (reported other q c) o
  map-same q c None = refl
  map-same q c (Some i) = ap Some (reported-same q c i)

  breaks-same : (c : List Instance) (q : TypedRequest) → breaks_order g c q ≡ breaks_order other c q
  breaks-same c q =
      ap (option_map (reported g q c))
      (find-same (violates g q) (violates other q)
      (λ i. ap is_some (breach-same q.type_no (type_held g i))) (reverse c))
      ∙ map-same q c (find (violates other q) (reverse c))

  doubled-same : (q : TypedRequest) (i : Instance) → doubled g q i ≡ doubled other q i
  doubled-same q i =
      ap (λ b. cond {A = Result Reply Fault} (has_flag q.flags.0 0x02
      || has_flag q.ops.0 0x02) (Ok Pass)
      (cond b (Ok (Silent q.type_no q.type_no))
      (Ok (Duplicate (record { last = place_of i; asked = place_asked q })))))
      (pairs q.type_no.0 q.type_no.0)

  doubled-map : (q : TypedRequest) (o : Option Instance)
      → option_map (doubled g q) o ≡ option_map (doubled other q) o
  doubled-map q None = refl
  doubled-map q (Some i) = ap Some (doubled-same q i)

  all-known : (q : TypedRequest) (c : List Instance)
      → list_all (is_direct_behind g q) c ≡ list_all (is_direct_behind other q) c
  all-known q [] = refl
  all-known q (i ∷ c) = ap₂ (λ a b. a && b) (direct (type_held g i).0 q.type_no.0) (all-known q c)

  learnt-same : (q : TypedRequest) (i : Instance) → is_learnt g q i ≡ is_learnt other q i
  learnt-same q i =
      ap (λ b. has_flag q.ops.0 0x01 && not (is_giant g (type_held g i) && is_sleepable g q.type_no)
      && not b) (before q.type_no.0 (type_held g i).0)

  new-same : (q : TypedRequest) (ps : List TypeNo) (i : Instance)
      → is_new g q ps i ≡ is_new other q ps i
  new-same q ps i =
      ap₂ (λ a b. a && not b && not (is_among (type_held g i).0 ps)) (learnt-same q i)
      (direct (type_held g i).0 q.type_no.0)

  pub parents-same : (q : TypedRequest) (ps : List TypeNo) (c : List Instance)
      → new_parents g q ps c ≡ new_parents other q ps c
  parents-same q ps [] = refl
  parents-same q ps (i ∷ c) =
      ap (λ b. cond b (type_held g i ∷ new_parents g q (type_held g i ∷ ps) c)
      (new_parents g q ps c)) (new-same q ps i)
      ∙ ap₂ (λ a b. cond (is_new other q ps i) (type_held g i ∷ a) b)
      (parents-same q (type_held g i ∷ ps) c) (parents-same q ps c)

  module _ (profile : Profile) (watch : Watch) (spin c held : List Instance)
      (q : TypedRequest) where
    with-rules : Rule → Rule → Rule → Rule → Result Reply Fault
    with-rules a b d e =
        decided (isnt_watched watch ∷ sleeps_under_spin g spin q ∷ holds_nothing (last_or None c)
        ∷ holds_it c q ∷ a ∷ b ∷ d ∷ e ∷ [])

    rules-same : with-rules (doubles g held q) (follows g held q) (breaks_order g c q)
        (teaches profile g held q)
        ≡ with-rules (doubles other held q) (follows other held q) (breaks_order other c q)
        (teaches profile other held q)
    rules-same =
        ap₂ (λ a b. with-rules a b (breaks_order g c q) (teaches profile g held q))
        (doubled-map q (find (has_type_of g q) held))
        (ap (λ b. when b (Ok Pass)) (all-known q held))
        ∙ ap₂ (λ d e. with-rules (doubles other held q) (follows other held q) d e)
        (breaks-same c q) (ap (told_orders profile q) (parents-same q [] held))

  -- the ruling over other lists of the same orders and pairs
  pub same-ruling : (profile : Profile) (watch : Watch) (sleep spin : List Instance)
      (q : TypedRequest)
      → ruling profile g watch sleep spin q ≡ ruling profile other watch sleep spin q
  unfolding with-rules
  same-ruling profile watch sleep spin q =
      rules-same profile watch spin (chain_asked g sleep spin q)
      (compared profile (chain_asked g sleep spin q)) q
