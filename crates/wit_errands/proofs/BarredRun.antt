-- The barred run: each thread needs on its way what the other one has at its request. So of the two
-- tries the later one fails.
use Rattle.std.proofs.Common.{◌≡◌, ℕ, ◌≤◌, true, false, ◌&&◌, ◌||◌, not, eqb, List}
use Rattle.std.proofs.Common.{[], ◌∷◌, ◌++◌, map, length, reverse, refl, ap, ap₂, sym, ◌∙◌, subst, inl}
use Rattle.std.proofs.Common.{inr, arith, append_assoc, length-append}
use Rattle.std.proofs.Common.{◌⊎◌}
use Rattle.std.specs.List.{list_any}
use Rattle.std.proofs.lemmas.Bool.{cases_Bool, and_parts, or_cases, eqb-true}
use Rattle.std.proofs.lemmas.Bool.{not-true, true≢false, and_left, and_right}
use Rattle.std.proofs.lemmas.Bool.Decides.{eqb_tells}
use Rattle.std.proofs.lemmas.List.{map-append}
use Rattle.wit_model.specs.declared.locks.Mode.TheVariants.{Exclusive}
use Rattle.wit_model.specs.declared.calls.Call.TheVariants.{Check, Note}
use Rattle.wit_model.specs.declared.calls.Reply.TheVariants.{Pass, Adopted, Recorded}
use Rattle.wit_model.specs.Rules.History.{num, place, mode, mark, site}
use Rattle.wit_model.specs.Rules.SeatGroups.{seat_groups}
use Rattle.wit_model.specs.World.Deeds.{Deed, Take}
use Rattle.wit_model.specs.World.Deeds.{own}
use Rattle.wit_model.specs.World.Stages.{stage}
use Rattle.wit_model.specs.World.Steps.{IsWorld}
use Rattle.wit_model.specs.World.Waiting.{IsWaiting, IsDeadlock}
use Rattle.wit_model.specs.World.Reordering.{kept, IsReordering}
use Rattle.wit_model.specs.World.Examples.{small, files, by, request, locks, unlocks}
use Rattle.wit_model.specs.World.Examples as examples
use Rattle.wit_model.proofs.World.Own.{shares-own}
use Rattle.wit_model.proofs.World.Runs.{is_world}
use Rattle.wit_errands.specs.Settled.{gets}
use Rattle.wit_errands.specs.Errands.{Errand}
use Rattle.wit_errands.specs.Examples.{two_made, then_barred, barred, tries, BarredReverses}
use Rattle.wit_errands.specs.Examples.{BarredHasNone}
use Rattle.wit_errands.proofs.EachMoment.{is_asking, all_so, so-at, others-none, ends-empty, over}
use Rattle.wit_errands.proofs.Tries.{got, did, stands, asks_so, stands-alike, asks-alike, did-step}
use Rattle.wit_errands.proofs.Tries.{try-fails}
use Rattle.wit_errands.proofs.Looks.{own-append, stage-alike}
use Rattle.wit_errands.proofs.Moments.{moment}
use Rattle.wit_errands.proofs.Queues.{first-waits, last-waited_for}
use Rattle.wit_errands.proofs.Silent.{silent-none}

first_errand : Errand 1 two_made then_barred
unfolding num
first_errand = record {
  before = [];
  way = reverse (locks 1 1 1 Pass ++ tries 1 2 2 ++ unlocks 1 2);
  entry =
      record {
        seat = record { 0 = 1 };
        call = Check (request 2 3);
        reply = Adopted (record { 0 = 1 }) (record { 0 = 2 });
      };
  request = request 2 3;
  after =
      reverse (Take 1 2 Exclusive ∷ by 1 (Note (record { 0 = 2 })) Recorded ∷ unlocks 1 2
      ++ unlocks 1 1);
  whole = refl;
  asks = refl;
  nothing = λ l. refl;
  unheld = refl;
}

second_errand : Errand 2 two_made then_barred
unfolding num
second_errand = record {
  before = [];
  way = reverse (locks 2 2 4 Pass ++ tries 2 1 5 ++ unlocks 2 1);
  entry =
      record {
        seat = record { 0 = 2 };
        call = Check (request 1 6);
        reply = examples.reverses 2 4 1 6;
      };
  request = request 1 6;
  after = [];
  whole = refl;
  asks = refl;
  nothing = λ l. refl;
  unheld = refl;
}

pub barred-reverses : BarredReverses
unfolding num place mode mark site seat_groups first_errand second_errand
barred-reverses = (
  is_world small files barred refl refl,
  refl,
  (first_errand, second_errand, refl, refl, refl, refl),
)

-- ---- at each moment

first-stands : all_so (stands 1 2 1 10) barred ≡ true
unfolding stands did got num
first-stands = refl

second-stands : all_so (stands 2 1 2 8) barred ≡ true
unfolding stands did got num
second-stands = refl

first-asks : all_so (asks_so 1 2 10) barred ≡ true
unfolding asks_so did got num
first-asks = refl

second-asks : all_so (asks_so 2 1 8) barred ≡ true
unfolding asks_so did got num
second-asks = refl

-- ---- a reordering

module _ (v : List Deed) (reordered : IsReordering small v barred) where
  abbrev from_run : (t : ℕ) (y later : List Deed) → v ≡ later ++ y
      → (earlier : List Deed) × (map kept (own t barred) ≡ earlier ++ map kept (own t y))
  from_run t y later whole =
      let b = reordered.same t in (
        b.0 ++ map kept (own t later),
        b.1 ∙ (ap (λ o. b.0 ++ map kept o) (ap (λ w. own t w) whole ∙ own-append t later y)
            ∙ (ap (λ o. b.0 ++ o) (map-append kept (own t later) (own t y))
            ∙ sym (append_assoc b.0 (map kept (own t later)) (map kept (own t y))))),
      )

  stands-then : (t l k most : ℕ) → all_so (stands t l k most) barred ≡ true
      → (y later : List Deed) → v ≡ later ++ y → stands t l k most y ≡ true
  stands-then t l k most all y later whole =
      let b = from_run t y later whole in
      let m = moment t (own t y) barred b.0 b.1 in
      sym (stands-alike t l k most m.now y m.same)
      ∙ so-at (stands t l k most) m.later m.now (ap (λ w. all_so (stands t l k most) w)
      (sym m.whole) ∙ all)

  short : (t most : ℕ) (y later : List Deed) → v ≡ later ++ y → length (own t v) ≤ most
      → length (own t y) ≤ most
  short t most y later whole few =
      let one = ap (λ w. length (own t w)) whole in
      let two = ap (λ o. length o) (own-append t later y) in
      let three = length-append (own t later) (own t y) in omega (arith, one, two, three, few)

  module _ (few : length (own 1 v) ≤ 10) (few' : length (own 2 v) ≤ 8) where
    never-both : (y later : List Deed) → v ≡ later ++ y → IsWorld small reordered.files y
        → (did 1 2 y && did 2 1 y) ≡ false
    unfolding did got
    never-both [] later whole world = refl
    never-both (d ∷ y) later whole world =
        let before = later ++ d ∷ [] in
        let whole' : v ≡ before ++ y = whole ∙ sym (append_assoc later (d ∷ []) y) in
        let rest = never-both y before whole' world.1 in
        elim (cases_Bool (got 1 2 d)) [
          | inl one ↦ and_right (did 1 2 (d ∷ y)) (did 2 1 (d ∷ y))
              (try-fails reordered.files 1 2 2 1 8 refl (λ (e : 1 ≡ 2). omega arith) d y world one
              (stands-then 2 1 2 8 second-stands y before whole') (short 2 8 y before whole' few'))
          | inr not_one ↦
              elim (cases_Bool (got 2 1 d)) [
                | inl two ↦ and_left (did 1 2 (d ∷ y)) (did 2 1 (d ∷ y))
                    (try-fails reordered.files 2 1 1 2 10 refl (λ (e : 2 ≡ 1). omega arith) d y
                    world two (stands-then 1 2 1 10 first-stands y before whole')
                    (short 1 10 y before whole' few))
                | inr not_two ↦ ap₂ (λ a b. a && b)
                    (did-step 1 2 d y ∙ ap (λ b. b || did 1 2 y) not_one)
                    (did-step 2 1 d y ∙ ap (λ b. b || did 2 1 y) not_two) ∙ rest
              ]
        ]

  -- ---- who waits and is waited for has tried

  has-tried : (t l most : ℕ) → all_so (asks_so t l most) barred ≡ true → (p u : ℕ)
      → IsWaiting v p t → IsWaiting v t u → (length (own t v) ≡ most) × (did t l v ≡ true)
  unfolding asks_so
  has-tried t l most all p u before x =
      let b = from_run t v [] refl in
      let m = moment t (own t v) barred b.0 b.1 in
      let here =
      sym (asks-alike t l most m.now v m.same)
      ∙ so-at (asks_so t l most) m.later m.now (ap (λ w. all_so (asks_so t l most) w)
      (sym m.whole) ∙ all) in
      elim (or_cases (eqb (length (own t v)) most && did t l v) (not (list_any gets (own t v)))
      (sym (ap (λ s. not (is_asking s) || ((eqb (length (own t v)) most && did t l v)
      || not (list_any gets (own t v)))) x.asks) ∙ here)) [
        | inl done ↦
            let parts = and_parts (eqb (length (own t v)) most) (did t l v) done in
            (eqb-true (length (own t v)) most parts.0, parts.1)
        | inr silent ↦
            let k = before.request.lock.0 in
            absurd (let none = sym (shares-own t k v)
            ∙ silent-none t k (own t v) (not-true (list_any gets (own t v)) silent) in
            let had = before.taken in let no : ⊥ = omega (arith, none, had) in no)
      ]

  -- nobody else asks
  one-of_two : (t u : ℕ) → IsWaiting v t u → (1 ≡ t) ⊎ (2 ≡ t)
  one-of_two t u x =
      elim (eqb_tells 1 t) [
        | inl one ↦ inl one.1
        | inr first ↦
            elim (eqb_tells 2 t) [
              | inl two ↦ inr two.1
              | inr second ↦
                  let b = from_run t v [] refl in
                  let m = moment t (own t v) barred b.0 b.1 in
                  let none = others-none t barred refl first.1 second.1 in
                  let now_none =
                  ends-empty (own t m.later) (own t m.now)
                  (sym (own-append t m.later m.now) ∙ (ap (λ w. own t w) (sym m.whole) ∙ none)) in
                  absurd (over x.request (sym (ap (λ o. stage t o) now_none)
                  ∙ (stage-alike t m.now v m.same ∙ x.asks)))
            ]
      ]

  both-tried : (t u : ℕ) → 1 ≡ t → 2 ≡ u → (p y : ℕ) → IsWaiting v p t → IsWaiting v t y
      → (q x : ℕ) → IsWaiting v q u → IsWaiting v u x → ⊥
  both-tried t u one two p y before first q x before' second =
      let a =
      subst (λ k. IsWaiting v p k → IsWaiting v k y → (length (own 1 v) ≡ 10) × (did 1 2 v ≡ true))
      one (λ i j. has-tried 1 2 10 first-asks p y i j) before first in
      let b =
      subst (λ k. IsWaiting v q k → IsWaiting v k x → (length (own 2 v) ≡ 8) × (did 2 1 v ≡ true))
      two (λ i j. has-tried 2 1 8 second-asks q x i j) before' second in
      let long = a.0 in
      let long' = b.0 in
      let never =
      never-both (omega (arith, long)) (omega (arith, long')) v [] refl reordered.world in
      true≢false (sym (ap₂ (λ c d. c && d) a.1 b.1) ∙ never)

  two-wait : (p t u x : ℕ) → IsWaiting v p t → IsWaiting v t u → IsWaiting v u x → ⊥
  two-wait p t u x before first second =
      elim (one-of_two t u first) [
        | inl one ↦
            elim (one-of_two u x second) [
              | inl same ↦ first.another (sym same ∙ one)
              | inr two ↦ both-tried t u one two p u before first t x first second
            ]
        | inr two ↦
            elim (one-of_two u x second) [
              | inl one ↦ both-tried u t one two t x first second p u before first
              | inr same ↦ first.another (sym same ∙ two)
            ]
      ]

  never-hangs : (threads : List ℕ) → IsDeadlock v threads → ⊥
  never-hangs [] circle = circle
  never-hangs (t ∷ []) circle = circle.another refl
  never-hangs (t ∷ u ∷ ts) circle =
      let next = first-waits (IsWaiting v) u ts t circle.1 in
      let last = last-waited_for (IsWaiting v) u ts t circle.1 in
      two-wait last.0 t u next.0 last.1 circle.0 next.1

pub has-none : BarredHasNone
has-none v threads reordered circle = never-hangs v reordered threads circle
