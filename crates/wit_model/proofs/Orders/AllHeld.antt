-- The orders that a request learns behind all held locks: each can be learnt when its turn comes,
-- and then each held type is before the requested one.
use Rattle.std.proofs.Common.{◌≡◌, ℕ, Bool, true, false, not, ◌&&◌, ◌||◌, cond, eqb, List, [], ◌∷◌}
use Rattle.std.proofs.Common.{◌++◌, map, reverse, refl, ap, sym, ◌∙◌, append_assoc}
use Rattle.std.specs.List.{list_all}
use Rattle.std.proofs.lemmas.Bool.{and_parts, and_from, and_left, or_left, or_right, or_from}
use Rattle.std.proofs.lemmas.Bool.{ne_eqb, eq-eqb, not-true, true≢false}
use Rattle.std.proofs.lemmas.List.{reverse-append}
use Rattle.wit_model.specs.declared.locks.TypeNo.{TypeNo}
use Rattle.wit_model.specs.declared.locks.Instance.{Instance}
use Rattle.wit_model.specs.declared.calls.Adoption.{Adoption}
use Rattle.wit_model.specs.declared.calls.TypedRequest.{TypedRequest}
use Rattle.wit_model.specs.Rules.Locks.{has_flag}
use Rattle.wit_model.specs.Rules.Orders.{is_direct, is_before, AreDistinct, IsSound, taught_at}
use Rattle.wit_model.specs.Rules.Verdict.{Basis, type_held, has_type_of, is_sleepable, is_giant}
use Rattle.wit_model.specs.Rules.Verdict.{is_learnt, is_direct_behind, is_among, is_new}
use Rattle.wit_model.specs.Rules.Verdict.{new_parents, orders_behind}
use Rattle.wit_model.proofs.Orders.Paths.{sound_adopt}

module _ (q : TypedRequest) where
  abbrev order : TypeNo → Adoption
  order p = taught_at q.site (p, q.type_no)

  abbrev child : ℕ
  child = q.type_no.0

  -- the orders once those behind these types are learnt, one after the other
  abbrev pub learnt_on : List TypeNo → List Adoption → List Adoption
  learnt_on [] os = os
  learnt_on (p ∷ ps) os = learnt_on ps (order p ∷ os)

  pub on-adopted : (ps : List TypeNo) (os : List Adoption)
      → reverse (map (taught_at q.site) (orders_behind q ps)) ++ os ≡ learnt_on ps os
  on-adopted [] os = refl
  on-adopted (p ∷ ps) os =
      ap (λ l. l ++ os) (reverse-append (order p ∷ [])
      (map (taught_at q.site) (orders_behind q ps)))
      ∙ append_assoc (reverse (map (taught_at q.site) (orders_behind q ps))) (order p ∷ []) os
      ∙ on-adopted ps (order p ∷ os)

  -- the order behind a type is new, and turns none round
  pub record IsFree (os : List Adoption) (p : TypeNo) : Type 0 where
    pub apart : p.0 ≡ child → ⊥
    pub orderly : is_before os child p.0 ≡ false
    pub unknown : is_direct os p.0 child ≡ false

  -- so is each when its turn comes
  abbrev pub AreFree : List Adoption → List TypeNo → Type 0
  AreFree os [] = Unit {0}
  AreFree os (p ∷ ps) = IsFree os p × AreFree (order p ∷ os) ps

  pub sound-on : (ps : List TypeNo) (os : List Adoption) → AreFree os ps → IsSound os
      → IsSound (learnt_on ps os)
  sound-on [] os free sound = sound
  sound-on (p ∷ ps) os free sound =
      sound-on ps (order p ∷ os) free.1 (sound_adopt (order p) os sound free.0.orderly free.0.apart)

  pub distinct-on : (ps : List TypeNo) (os : List Adoption) → AreFree os ps → AreDistinct os
      → AreDistinct (learnt_on ps os)
  distinct-on [] os free all = all
  distinct-on (p ∷ ps) os free all = distinct-on ps (order p ∷ os) free.1 (free.0.unknown, all)

  -- what was before stays so
  pub before-on : (ps : List TypeNo) (os : List Adoption) (a b : ℕ) → is_before os a b ≡ true
      → is_before (learnt_on ps os) a b ≡ true
  before-on [] os a b is = is
  before-on (p ∷ ps) os a b is =
      before-on ps (order p ∷ os) a b
      (or_left (is_before os a b) ((eqb p.0 a || is_before os a p.0)
      && (eqb child b || is_before os child b)) is)

  -- and each of the types comes to be before the requested one
  pub learnt-before : (ps : List TypeNo) (os : List Adoption) (x : ℕ) → is_among x ps ≡ true
      → is_before (learnt_on ps os) x child ≡ true
  learnt-before [] os x is = (cc)
  learnt-before (p ∷ ps) os x is = go (eqb p.0 x) refl is (learnt-before ps (order p ∷ os) x)
    where
      go : (f : Bool) → eqb p.0 x ≡ f → (f || is_among x ps) ≡ true
          → (is_among x ps ≡ true → is_before (learnt_on ps (order p ∷ os)) x child ≡ true)
          → is_before (learnt_on ps (order p ∷ os)) x child ≡ true
      go true here some later =
          before-on ps (order p ∷ os) x child
          (or_right (is_before os x child) ((eqb p.0 x || is_before os x p.0)
          && (eqb child child || is_before os child child))
          (and_from (eqb p.0 x || is_before os x p.0) (eqb child child || is_before os child child)
          (or_left (eqb p.0 x) (is_before os x p.0) here)
          (or_left (eqb child child) (is_before os child child) (eq-eqb child child refl))))
      go false here some later = later some

  module _ (g : Basis) where
    abbrev ty : Instance → ℕ
    ty i = (type_held g i).0

    -- what the orders are once those behind these types are learnt
    record HaveGrown (before : List TypeNo) (os : List Adoption) : Type 0 where
      orderly : (x : ℕ) → is_before g.orders child x ≡ false → is_before os child x ≡ false
      direct : (x : ℕ) → is_direct os x child ≡ (is_direct g.orders x child || is_among x before)

    swap : (e d a : Bool) → ((e && true) || (d || a)) ≡ (d || (e || a))
    swap true true a = refl
    swap true false a = refl
    swap false d a = refl

    grows : (before : List TypeNo) (os : List Adoption) (p : TypeNo) → HaveGrown before os
        → IsFree os p → HaveGrown (p ∷ before) (order p ∷ os)
    grows before os p have free = record {
      orderly = λ x none.
          or_from (is_before os child x) ((eqb p.0 child || is_before os child p.0)
          && (eqb child x || is_before os child x)) (have.orderly x none)
          (and_left (eqb p.0 child || is_before os child p.0) (eqb child x || is_before os child x)
          (or_from (eqb p.0 child) (is_before os child p.0)
          (ne_eqb p.0 child free.apart) free.orderly));
      direct = λ x.
          ap (λ b. (eqb p.0 x && b) || is_direct os x child) (eq-eqb child child refl)
          ∙ (ap (λ d. (eqb p.0 x && true) || d) (have.direct x)
          ∙ swap (eqb p.0 x) (is_direct g.orders x child) (is_among x before));
    }

    is-free : (before : List TypeNo) (os : List Adoption) (i : Instance) → HaveGrown before os
        → not (has_type_of g q i) ≡ true → is_new g q before i ≡ true
        → IsFree os (type_held g i)
    is-free before os i have apart new =
        let some =
        and_parts (is_learnt g q i && not (is_direct_behind g q i))
        (not (is_among (ty i) before)) new in
        let both = and_parts (is_learnt g q i) (not (is_direct_behind g q i)) some.0 in
        let allowed =
        and_parts (has_flag q.ops.0 0x01
        && not (is_giant g (type_held g i) && is_sleepable g q.type_no))
        (not (is_before g.orders child (ty i))) both.0 in
        record {
          apart =
              λ same. true≢false (sym (eq-eqb (ty i) child same)
              ∙ not-true (has_type_of g q i) apart);
          orderly = have.orderly (ty i) (not-true (is_before g.orders child (ty i)) allowed.1);
          unknown = have.direct (ty i)
              ∙ or_from (is_direct g.orders (ty i) child) (is_among (ty i) before)
              (not-true (is_direct_behind g q i) both.1)
              (not-true (is_among (ty i) before) some.1);
        }

    free-all : (c : List Instance) (before : List TypeNo) (os : List Adoption) → HaveGrown before os
        → list_all (λ i. not (has_type_of g q i)) c ≡ true
        → AreFree os (new_parents g q before c)
    free-all [] before os have apart = tt
    free-all (i ∷ c) before os have apart =
        go (is_new g q before i) refl
        (and_parts (not (has_type_of g q i)) (list_all (λ j. not (has_type_of g q j)) c) apart)
        (λ ps others grown rest. free-all c ps others grown rest)
      where
        go : (f : Bool) → is_new g q before i ≡ f → (not (has_type_of g q i) ≡ true)
            × (list_all (λ j. not (has_type_of g q j)) c ≡ true)
            → ((ps : List TypeNo) (others : List Adoption) → HaveGrown ps others
            → list_all (λ j. not (has_type_of g q j)) c ≡ true
            → AreFree others (new_parents g q ps c))
            → AreFree os (cond f (type_held g i ∷ new_parents g q (type_held g i ∷ before) c)
            (new_parents g q before c))
        go true new parts next =
            let free = is-free before os i have parts.0 new in (
              free,
              next (type_held g i ∷ before) (order (type_held g i) ∷ os)
                  (grows before os (type_held g i) have free) parts.1,
            )
        go false none parts next = next before os have parts.1

    none-before : (d : Bool) → d ≡ (d || false)
    none-before true = refl
    none-before false = refl

    -- the orders behind held locks of other types can be learnt
    pub parents-free : (c : List Instance) → list_all (λ i. not (has_type_of g q i)) c ≡ true
        → AreFree g.orders (new_parents g q [] c)
    parents-free c apart =
        free-all c [] g.orders (record {
          orderly = λ x none. none;
          direct = λ x. none-before (is_direct g.orders x child);
        }) apart

    -- the types behind which they are learnt have what all held ones have
    pub parents-have : (has : TypeNo → Bool) (c : List Instance) (before : List TypeNo)
        → list_all (λ i. has (type_held g i)) c ≡ true
        → list_all has (new_parents g q before c) ≡ true
    parents-have has [] before all = refl
    parents-have has (i ∷ c) before all =
        go (is_new g q before i) (and_parts (has (type_held g i))
        (list_all (λ j. has (type_held g j)) c) all)
        (λ ps rest. parents-have has c ps rest)
      where
        go : (f : Bool) → (has (type_held g i) ≡ true)
            × (list_all (λ j. has (type_held g j)) c ≡ true)
            → ((ps : List TypeNo) → list_all (λ j. has (type_held g j)) c ≡ true
            → list_all has (new_parents g q ps c) ≡ true)
            → list_all has (cond f (type_held g i ∷ new_parents g q (type_held g i ∷ before) c)
            (new_parents g q before c)) ≡ true
        go true parts next =
            and_from (has (type_held g i))
            (list_all has (new_parents g q (type_held g i ∷ before) c)) parts.0
            (next (type_held g i ∷ before) parts.1)
        go false parts next = next before parts.1

    -- ---- where each order is known or may be learnt, it is known, or learnt before, or learnt now

    abbrev is_settled : List TypeNo → List TypeNo → Instance → Bool
    is_settled before now i =
        is_direct_behind g q i || (is_among (ty i) before || is_among (ty i) now)

    moves : (k s n e : Bool) → (k || ((e || s) || n)) ≡ true → (k || (s || (e || n))) ≡ true
    moves true s n e is = refl
    moves false true n e is = refl
    moves false false n true is = refl
    moves false false n false is = is

    all-move : (p : TypeNo) (before now : List TypeNo) (c : List Instance)
        → list_all (is_settled (p ∷ before) now) c ≡ true
        → list_all (is_settled before (p ∷ now)) c ≡ true
    all-move p before now [] all = refl
    all-move p before now (i ∷ c) all =
        let parts =
        and_parts (is_settled (p ∷ before) now i)
        (list_all (is_settled (p ∷ before) now) c) all in
        and_from (is_settled before (p ∷ now) i) (list_all (is_settled before (p ∷ now)) c)
        (moves (is_direct_behind g q i) (is_among (ty i) before) (is_among (ty i) now)
        (eqb p.0 (ty i)) parts.0) (all-move p before now c parts.1)

    not-new : (l k s : Bool) → ((l && not k) && not s) ≡ false → (l || k) ≡ true → (rest : Bool)
        → (k || (s || rest)) ≡ true
    not-new l true s none some rest = refl
    not-new l false true none some rest = refl
    not-new true false false none some rest = absurd (true≢false none)
    not-new false false false none some rest = absurd (true≢false (sym some))

    all-settled : (c : List Instance) (before : List TypeNo)
        → list_all (λ i. is_learnt g q i || is_direct_behind g q i) c ≡ true
        → list_all (is_settled before (new_parents g q before c)) c ≡ true
    all-settled [] before all = refl
    all-settled (i ∷ c) before all =
        let parts =
        and_parts (is_learnt g q i || is_direct_behind g q i)
        (list_all (λ j. is_learnt g q j || is_direct_behind g q j) c) all in
        go (is_new g q before i) refl parts.0 (all-settled c (type_held g i ∷ before) parts.1)
        (all-settled c before parts.1)
      where
        go : (f : Bool) → is_new g q before i ≡ f
            → (is_learnt g q i || is_direct_behind g q i) ≡ true
            → list_all (is_settled (type_held g i ∷ before)
            (new_parents g q (type_held g i ∷ before) c)) c ≡ true
            → list_all (is_settled before (new_parents g q before c)) c ≡ true
            → list_all (is_settled before
            (cond f (type_held g i ∷ new_parents g q (type_held g i ∷ before) c)
            (new_parents g q before c))) (i ∷ c) ≡ true
        go true new may with_it without =
            let now = new_parents g q (type_held g i ∷ before) c in
            and_from (is_settled before (type_held g i ∷ now) i)
            (list_all (is_settled before (type_held g i ∷ now)) c)
            (or_right (is_direct_behind g q i)
            (is_among (ty i) before || (eqb (ty i) (ty i) || is_among (ty i) now))
            (or_right (is_among (ty i) before) (eqb (ty i) (ty i) || is_among (ty i) now)
            (or_left (eqb (ty i) (ty i)) (is_among (ty i) now) (eq-eqb (ty i) (ty i) refl))))
            (all-move (type_held g i) before now c with_it)
        go false none may with_it without =
            let now = new_parents g q before c in
            and_from (is_settled before now i) (list_all (is_settled before now) c)
            (not-new (is_learnt g q i) (is_direct_behind g q i) (is_among (ty i) before) none may
            (is_among (ty i) now)) without

    pub settled-all : (c : List Instance)
        → list_all (λ i. is_learnt g q i || is_direct_behind g q i) c ≡ true
        → list_all (λ i. is_direct_behind g q i || is_among (ty i) (new_parents g q [] c)) c ≡ true
    settled-all c all = all-settled c [] all
