-- Moments of a world: what a thread had at one, where it did nothing since but to ask.
use Rattle.std.proofs.Common.{◌≡◌, ℕ, ◌+◌, ◌<◌, ◌⊎◌, Bool, true, false, cond, eqb, List, []}
use Rattle.std.proofs.Common.{◌∷◌, ◌++◌, length, refl, ap, sym, ◌∙◌, subst, inl, inr, arith}
use Rattle.std.proofs.Common.{length-append}
use Rattle.std.specs.List.{list_any}
use Rattle.std.proofs.lemmas.Bool.{cases_Bool, and_right, or_parts}
use Rattle.std.proofs.lemmas.List.Elements.{filter-append}
use Rattle.wit_model.specs.declared.calls.Entry.{Entry}
use Rattle.wit_model.specs.Rules.State.{Start}
use Rattle.wit_model.specs.World.Deeds.{Deed, Logged, PassedOver, Take, TryTake, Free, RawUp}
use Rattle.wit_model.specs.World.Deeds.{RawDown, thread_of, own, are_these, shares, raw_mode}
use Rattle.wit_model.specs.World.Steps.{IsWorld}
use Rattle.wit_model.proofs.World.Own.{own-mine, own-other, shares-own}
use Rattle.wit_alarms.specs.Keeping.{frees}
use Rattle.wit_alarms.proofs.Events.{mode-own}

pub world-before : (start : Start) (files : List (List ℕ)) (later w : List Deed)
    → IsWorld start files (later ++ w) → IsWorld start files w
world-before start files [] w world = world
world-before start files (d ∷ later) w world = world-before start files later w world.1

-- ---- two moments of one world

-- of two ends of one list the one is an end of the other
pub ends : {X : Type 0} (a s b r : List X) → a ++ s ≡ b ++ r
    → ((x : List X) × (s ≡ x ++ r)) ⊎ ((y : List X) × (r ≡ y ++ s))
ends [] s b r same = inl (b, same)
ends (h ∷ a) s [] r same = inr (h ∷ a, sym same)
ends {X} (h ∷ a) s (k ∷ b) r same =
    let tails : ◌≡◌ {A = List X} (a ++ s) (b ++ r) = cc in ends a s b r tails

nil-append : {X : Type 0} (a : List X) (x : X) (b : List X) → ◌≡◌ {A = List X} [] (a ++ x ∷ b) → ⊥
nil-append [] x b is = (cc)
nil-append (y ∷ a) x b is = (cc)

-- ---- where a thread did this

pub record Did (t : ℕ) (v since : List Deed) (d : Deed) (o : List Deed) : Type 0 where
  pub later : List Deed
  pub before : List Deed
  pub whole : v ≡ later ++ d ∷ before
  pub own_before : own t before ≡ o
  pub own_later : own t later ≡ since
  pub mine : eqb (thread_of d) t ≡ true

head-of : (d e : Deed) (v w : List Deed) → ◌≡◌ {A = List Deed} (d ∷ v) (e ∷ w) → d ≡ e
head-of d e v w is = (cc)

tail-of : (d e : Deed) (v w : List Deed) → ◌≡◌ {A = List Deed} (d ∷ v) (e ∷ w) → v ≡ w
tail-of d e v w is = (cc)

pub did : (t : ℕ) (v since : List Deed) (d : Deed) (o : List Deed) → own t v ≡ since ++ d ∷ o
    → Did t v since d o
did t [] since d o is = absurd (nil-append since d o is)
did t (x ∷ v) since d o is =
    elim (cases_Bool (eqb (thread_of x) t)) [
      | inl mine ↦ here mine since (sym (own-mine t x v mine) ∙ is)
          (λ more rest. did t v more d o rest)
      | inr other ↦
          let before = did t v since d o (sym (own-other t x v other) ∙ is) in
          record {
            later = x ∷ before.later;
            before = before.before;
            whole = ap (λ w. x ∷ w) before.whole;
            own_before = before.own_before;
            own_later = own-other t x before.later other ∙ before.own_later;
            mine = before.mine;
          }
    ]
  where
    here : eqb (thread_of x) t ≡ true → (more : List Deed) → x ∷ own t v ≡ more ++ d ∷ o
        → ((rest : List Deed) → own t v ≡ rest ++ d ∷ o → Did t v rest d o)
        → Did t (x ∷ v) more d o
    here mine [] same further = record {
      later = [];
      before = v;
      whole = ap (λ y. y ∷ v) (head-of x d (own t v) o same);
      own_before = tail-of x d (own t v) o same;
      own_later = refl;
      mine = subst (λ y. eqb (thread_of y) t ≡ true) (head-of x d (own t v) o same) mine;
    }
    here mine (y ∷ more) same further =
        let before = further more (tail-of x y (own t v) (more ++ d ∷ o) same) in
        record {
          later = x ∷ before.later;
          before = before.before;
          whole = ap (λ w. x ∷ w) before.whole;
          own_before = before.own_before;
          own_later =
              own-mine t x before.later mine
              ∙ (ap (λ w. x ∷ w) before.own_later
              ∙ ap (λ z. z ∷ more) (head-of x y (own t v) (more ++ d ∷ o) same));
          mine = before.mine;
        }

pub own-append : (t : ℕ) (v w : List Deed) → own t (v ++ w) ≡ own t v ++ own t w
own-append t v w = filter-append (λ d. eqb (thread_of d) t) v w

-- ---- a thread that did nothing since but to ask

one-more : (a b : List Deed) (c : Deed) (r : List Deed) → a ++ (b ++ r) ≡ c ∷ r
    → (b ≡ []) ⊎ (b ≡ c ∷ [])
one-more a [] c r is = inl refl
one-more [] (x ∷ b) c r is =
    let first = head-of x c (b ++ r) r is in
    let rest = none-left b r (tail-of x c (b ++ r) r is) in
    inr (ap (λ y. y ∷ b) first ∙ ap (λ y. c ∷ y) rest)
  where
    none-left : (b r : List Deed) → b ++ r ≡ r → b ≡ []
    none-left [] r is = refl
    none-left (y ∷ b) r is =
        let longer = ap length is ∙ refl in
        let sum = length-append (y ∷ b) r in
        absurd (omega (arith, longer, sum))
one-more (y ∷ a) (x ∷ b) c r is =
    let longer = ap length (tail-of y c (a ++ (x ∷ b ++ r)) r is) in
    let sum = length-append a (x ∷ b ++ r) in
    let more = length-append (x ∷ b) r in
    absurd (omega (arith, longer, sum, more))

-- what it had at the moment w, by which it had done all but to ask, it has at v
pub record Still (t : ℕ) (v w : List Deed) : Type 0 where
  pub same_shares : (l : ℕ) → shares t l w ≡ shares t l v
  pub same_mode : (l : ℕ) → raw_mode t l w ≡ raw_mode t l v

pub still : (t : ℕ) (e : Entry) (o later v w b : List Deed) → v ≡ later ++ w
    → own t v ≡ Logged e ∷ o → own t w ≡ b ++ o → Still t v w
still t e o later v w b whole now then =
    elim (one-more (own t later) b (Logged e) o
    (ap (λ x. own t later ++ x) (sym then)
    ∙ (sym (own-append t later w) ∙ (ap (λ x. own t x) (sym whole) ∙ now)))) [
      | inl none ↦ same (then ∙ ap (λ x. x ++ o) none)
          (λ l. refl) (λ l. refl)
      | inr one ↦ same (then ∙ ap (λ x. x ++ o) one)
          (λ l. refl) (λ l. refl)
    ]
  where
    same : {x : List Deed} → own t w ≡ x → ((l : ℕ) → shares t l x ≡ shares t l o)
        → ((l : ℕ) → raw_mode t l x ≡ raw_mode t l o) → Still t v w
    same is some mode = record {
      same_shares = λ l.
          sym (shares-own t l w) ∙ (ap (λ y. shares t l y) is ∙ (some l
          ∙ (sym (ap (λ y. shares t l y) now) ∙ shares-own t l v)));
      same_mode = λ l.
          sym (mode-own t l w) ∙ (ap (λ y. raw_mode t l y) is ∙ (mode l
          ∙ (sym (ap (λ y. raw_mode t l y) now) ∙ mode-own t l v)));
    }

-- ---- a share that isn't given back

not-these : (t l u m : ℕ) → eqb m l ≡ false → are_these t l u m ≡ false
not-these t l u m is = and_right (eqb u t) (eqb m l) is

more-share : (b : Bool) (n : ℕ) → 0 < n → 0 < cond b (n + 1) n
more-share true n some = omega arith
more-share false n some = some

pub share-kept : (t l : ℕ) (since w : List Deed) → list_any (frees l) since ≡ false
    → 0 < shares t l w → 0 < shares t l (since ++ w)
share-kept t l [] w none some = some
share-kept t l (Take u m mode ∷ since) w none some =
    more-share (are_these t l u m) (shares t l (since ++ w)) (share-kept t l since w none some)
share-kept t l (TryTake u m mode ∷ since) w none some =
    more-share (are_these t l u m) (shares t l (since ++ w)) (share-kept t l since w none some)
share-kept t l (Free u m ∷ since) w none some =
    let parts = or_parts (eqb m l) (list_any (frees l) since) none in
    rw (not-these t l u m parts.0) (share-kept t l since w parts.1 some)
share-kept t l (Logged e ∷ since) w none some = share-kept t l since w none some
share-kept t l (PassedOver u c ∷ since) w none some = share-kept t l since w none some
share-kept t l (RawUp u m ∷ since) w none some = share-kept t l since w none some
share-kept t l (RawDown u m ∷ since) w none some = share-kept t l since w none some

-- what isn't among all isn't among the later ones
pub any-rest : (p : Deed → Bool) (a b : List Deed) → list_any p (a ++ b) ≡ false
    → list_any p b ≡ false
any-rest p [] b none = none
any-rest p (x ∷ a) b none =
    any-rest p a b (or_parts (p x) (list_any p (a ++ b)) none).1

pub same-front : (a b r : List Deed) → a ++ r ≡ b ++ r → a ≡ b
same-front [] [] r is = refl
same-front [] (y ∷ b) r is =
    let longer = ap length is in let sum = length-append (y ∷ b) r in
    absurd (omega (arith, longer, sum))
same-front (x ∷ a) [] r is =
    let longer = ap length is in let sum = length-append (x ∷ a) r in
    absurd (omega (arith, longer, sum))
same-front (x ∷ a) (y ∷ b) r is =
    ap (λ z. z ∷ a) (head-of x y (a ++ r) (b ++ r) is)
    ∙ ap (λ z. y ∷ z) (same-front a b r (tail-of x y (a ++ r) (b ++ r) is))
