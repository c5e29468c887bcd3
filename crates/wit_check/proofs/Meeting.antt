-- What one look through a chain finds where a request is compared with all of it.
use Rattle.std.proofs.Common.{◌≡◌, ℕ, ◌+◌, ◌<◌, Bool, true, false, ◌&&◌, ◌||◌, not, cond, eqb, List}
use Rattle.std.proofs.Common.{[], ◌∷◌, ◌++◌, Option, None, Some, is_some, length, drop, get_or}
use Rattle.std.proofs.Common.{find, reverse, Result, Ok, refl, ap, ap₂, sym, ◌∙◌}
use Rattle.std.specs.List.{list_all, list_any}
use Rattle.std.proofs.lemmas.List.{reverse-append, append-nil}
use Rattle.std.proofs.lemmas.List.Folds.{list_all-append}
use Rattle.wit_model.specs.declared.profiles.Profile.TheVariants.{AllHeld}
use Rattle.wit_model.specs.declared.faults.Fault.{Fault}
use Rattle.wit_model.specs.declared.locks.Instance.{Instance}
use Rattle.wit_model.specs.declared.locks.TypeNo.{TypeNo}
use Rattle.wit_model.specs.declared.calls.TypedRequest.{TypedRequest}
use Rattle.wit_model.specs.declared.calls.Reply.{Reply}
use Rattle.wit_model.specs.declared.calls.Reply.TheVariants.{Pass, AdoptedAll}
use Rattle.wit_model.specs.Rules.Groups.{flat}
use Rattle.wit_model.specs.Rules.Verdict.{Basis, is_of, type_held, has_type_of, is_learnt}
use Rattle.wit_model.specs.Rules.Verdict.{is_direct_behind, is_among, is_new, new_parents}
use Rattle.wit_model.specs.Rules.Verdict.{orders_behind, told_orders, decided}
use Rattle.wit_check.specs.declared.all_held.Met.{Met}
use Rattle.wit_check.specs.Meets.{met_in, nothing_met, with_met, with_all_met, with_parent}
use Rattle.wit_check.specs.Meets.{with_parents}
use Rattle.wit_check.proofs.Chunks.{chunk-looked, newest-older}

both : (a b : Bool) → cond a b false ≡ (b && (a && true))
both true true = refl
both true false = refl
both false true = refl
both false false = refl

all-older : {X : Type 0} (p : X → Bool) (x : X) (xs : List X)
    → cond (p x) (list_all p (reverse xs)) false ≡ list_all p (reverse (x ∷ xs))
all-older p x xs =
    both (p x) (list_all p (reverse xs))
    ∙ sym (ap (list_all p) (reverse-append (x ∷ []) xs) ∙ list_all-append p (reverse xs) (x ∷ []))

-- an order that may be learnt and is none yet
either : (known taught may : Bool) → cond known taught (taught || may)
    ≡ (taught || ((may && not known) && true))
either true true may = refl
either true false true = refl
either true false false = refl
either false true may = refl
either false false true = refl
either false false false = refl

is-some : {X : Type 0} (o : Option X) (b : Bool) (x : X)
    → (is_some o || b) ≡ is_some (cond (is_some o) o (cond b (Some x) None))
is-some None true x = refl
is-some None false x = refl
is-some (Some y) b x = refl

module _ (g : Basis) (q : TypedRequest) where
  meet-append : (c e : List Instance) (m : Met)
      → with_all_met g q (c ++ e) m ≡ with_all_met g q c (with_all_met g q e m)
  meet-append [] e m = refl
  meet-append (i ∷ c) e m = ap (with_met g q i) (meet-append c e m)

  -- one chunk more
  pub meet-chunk : (gs : List (List Instance)) (m : Met) (i n : ℕ) → i < length gs → n ≡ i + 1
      → with_all_met g q (get_or gs i []) (with_all_met g q (flat (drop n gs)) m)
      ≡ with_all_met g q (flat (drop i gs)) m
  meet-chunk gs m i n lt next =
      chunk-looked (λ c s. with_all_met g q c s) meet-append gs m i n lt next

  abbrev met_of : Option Instance → Option Instance → Bool → Bool → Met
  met_of h t k n = record { held = h; twin = t; known = k; teaches = n }

  -- all four
  pub all-met : (c : List Instance) → with_all_met g q c nothing_met ≡ met_in g q c
  all-met [] = refl
  all-met (i ∷ c) =
      ap (with_met g q i) (all-met c)
      ∙ ap₂ (λ t k. met_of (find (is_of q.lock.0) (i ∷ c)) t k
      (cond (is_direct_behind g q i) taught (taught || is_learnt g q i)))
      (newest-older (has_type_of g q) i c)
      (all-older (is_direct_behind g q) i c)
      ∙ ap (met_of (find (is_of q.lock.0) (i ∷ c)) (find (has_type_of g q) (reverse (i ∷ c)))
      (list_all (is_direct_behind g q) (reverse (i ∷ c))))
      (either (is_direct_behind g q i) taught (is_learnt g q i)
      ∙ is-some (find (is_new g q []) (reverse c)) (is_new g q [] i) i
      ∙ ap is_some (newest-older (is_new g q []) i c))
    where
      taught : Bool
      taught = is_some (find (is_new g q []) (reverse c))

  -- ---- whether an order is learnt

  -- none is, where none may be learnt and is new by itself
  pub teaches-none : (c : List Instance) → is_some (find (is_new g q []) c) ≡ false
      → ◌≡◌ {A = Result Reply Fault} (Ok Pass)
      (decided (told_orders AllHeld q (new_parents g q [] c) ∷ []))
  teaches-none [] none = refl
  teaches-none (i ∷ c) none = go (is_new g q [] i) none (λ rest. teaches-none c rest)
    where
      go : (b : Bool) → is_some (cond b (Some i) (find (is_new g q []) c)) ≡ false
          → (is_some (find (is_new g q []) c) ≡ false
          → ◌≡◌ {A = Result Reply Fault} (Ok Pass)
          (decided (told_orders AllHeld q (new_parents g q [] c) ∷ [])))
          → ◌≡◌ {A = Result Reply Fault} (Ok Pass)
          (decided (told_orders AllHeld q (cond b
          (type_held g i ∷ new_parents g q (type_held g i ∷ []) c) (new_parents g q [] c))
          ∷ []))
      go true none rest = (cc)
      go false none rest = rest none

  -- else all that are learnt are told
  pub teaches-some : (c : List Instance) → is_some (find (is_new g q []) c) ≡ true
      → ◌≡◌ {A = Result Reply Fault} (Ok (AdoptedAll (orders_behind q (new_parents g q [] c))))
      (decided (told_orders AllHeld q (new_parents g q [] c) ∷ []))
  teaches-some [] some = (cc)
  teaches-some (i ∷ c) some = go (is_new g q [] i) some (λ rest. teaches-some c rest)
    where
      go : (b : Bool) → is_some (cond b (Some i) (find (is_new g q []) c)) ≡ true
          → (is_some (find (is_new g q []) c) ≡ true
          → ◌≡◌ {A = Result Reply Fault} (Ok (AdoptedAll (orders_behind q (new_parents g q [] c))))
          (decided (told_orders AllHeld q (new_parents g q [] c) ∷ [])))
          → ◌≡◌ {A = Result Reply Fault}
          (Ok (AdoptedAll (orders_behind q
          (cond b (type_held g i ∷ new_parents g q (type_held g i ∷ []) c)
          (new_parents g q [] c)))))
          (decided (told_orders AllHeld q (cond b
          (type_held g i ∷ new_parents g q (type_held g i ∷ []) c) (new_parents g q [] c))
          ∷ []))
      go true some rest = refl
      go false some rest = rest some

  -- ---- the orders that are learnt

  parents-append : (c e : List Instance) (ps : List TypeNo)
      → with_parents g q (c ++ e) ps ≡ with_parents g q c (with_parents g q e ps)
  parents-append [] e ps = refl
  parents-append (i ∷ c) e ps = ap (with_parent g q i) (parents-append c e ps)

  -- those of one chunk more
  pub parents-chunk : (gs : List (List Instance)) (ps : List TypeNo) (i n : ℕ)
      → i < length gs → n ≡ i + 1
      → with_parents g q (get_or gs i []) (with_parents g q (flat (drop n gs)) ps)
      ≡ with_parents g q (flat (drop i gs)) ps
  parents-chunk gs ps i n lt next =
      chunk-looked (λ c s. with_parents g q c s) parents-append gs ps i n lt next

  new-by : (ps before : List TypeNo) (i : Instance) → is_among (type_held g i).0 ps
      ≡ is_among (type_held g i).0 before → is_new g q ps i ≡ is_new g q before i
  new-by ps before i same = ap (λ b. is_learnt g q i && not (is_direct_behind g q i) && not b) same

  moves : (a b c : Bool) → ((a || b) || c) ≡ (b || (a || c))
  moves true true c = refl
  moves true false c = refl
  moves false true c = refl
  moves false false c = refl

  none-else : (b : Bool) → (b || false) ≡ b
  none-else true = refl
  none-else false = refl

  -- one lock more, the oldest
  parents-older : (c : List Instance) (i : Instance) (before ps : List TypeNo)
      → ((x : ℕ) → is_among x ps ≡ (is_among x (new_parents g q before c) || is_among x before))
      → new_parents g q before (c ++ i ∷ []) ≡ new_parents g q before c
      ++ cond (is_new g q ps i) (type_held g i ∷ []) []
  parents-older [] i before ps same =
      ap (λ b. cond b (type_held g i ∷ []) []) (sym (new-by ps before i (same (type_held g i).0)))
  parents-older (j ∷ c) i before ps same =
      go (is_new g q before j) same (λ is. parents-older c i (type_held g j ∷ before) ps is)
      (λ is. parents-older c i before ps is)
    where
      go : (b : Bool)
          → ((x : ℕ) → is_among x ps ≡ (is_among x
          (cond b (type_held g j ∷ new_parents g q (type_held g j ∷ before) c)
          (new_parents g q before c)) || is_among x before))
          → (((x : ℕ) → is_among x ps ≡ (is_among x (new_parents g q (type_held g j ∷ before) c)
          || is_among x (type_held g j ∷ before)))
          → new_parents g q (type_held g j ∷ before) (c ++ i ∷ [])
          ≡ new_parents g q (type_held g j ∷ before) c
          ++ cond (is_new g q ps i) (type_held g i ∷ []) [])
          → (((x : ℕ) → is_among x ps ≡ (is_among x (new_parents g q before c)
          || is_among x before))
          → new_parents g q before (c ++ i ∷ []) ≡ new_parents g q before c
          ++ cond (is_new g q ps i) (type_held g i ∷ []) [])
          → cond b (type_held g j ∷ new_parents g q (type_held g j ∷ before) (c ++ i ∷ []))
          (new_parents g q before (c ++ i ∷ []))
          ≡ cond b (type_held g j ∷ new_parents g q (type_held g j ∷ before) c)
          (new_parents g q before c) ++ cond (is_new g q ps i) (type_held g i ∷ []) []
      go true same with_it without =
          ap (λ ts. type_held g j ∷ ts)
          (with_it (λ x. same x ∙ moves (eqb (type_held g j).0 x)
          (is_among x (new_parents g q (type_held g j ∷ before) c)) (is_among x before)))
      go false same with_it without = without same

  -- they are those that the rules learn
  pub all-parents : (c : List Instance) → with_parents g q c [] ≡ new_parents g q [] (reverse c)
  all-parents [] = refl
  all-parents (i ∷ c) =
      ap (with_parent g q i) (all-parents c)
      ∙ joined (is_new g q (new_parents g q [] (reverse c)) i) (new_parents g q [] (reverse c))
      ∙ sym
      (ap (new_parents g q []) (reverse-append (i ∷ []) c)
      ∙ parents-older (reverse c) i [] (new_parents g q [] (reverse c))
      (λ x. sym (none-else (is_among x (new_parents g q [] (reverse c))))))
    where
      joined : (b : Bool) (ps : List TypeNo) → cond b (ps ++ type_held g i ∷ []) ps
          ≡ ps ++ cond b (type_held g i ∷ []) []
      joined true ps = refl
      joined false ps = sym (append-nil ps)

-- whether an order is behind this type
pub among-orders : (q : TypedRequest) (x : ℕ) (ps : List TypeNo)
    → list_any (λ (o : TypeNo × TypeNo). eqb o.0.0 x) (orders_behind q ps) ≡ is_among x ps
among-orders q x [] = refl
among-orders q x (p ∷ ps) = ap (λ b. eqb p.0 x || b) (among-orders q x ps)
