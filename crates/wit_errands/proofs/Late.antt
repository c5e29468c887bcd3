-- The late deeds of some threads: without those of others, and without so many of the first ones of
-- each. Where a thread had nothing after these, the locks admit the late deeds alone.
use Rattle.std.proofs.Common.{◌≡◌, ℕ, ◌<◌, Bool, true, false, eqb}
use Rattle.std.proofs.Common.{List, [], ◌∷◌, ◌++◌, length, refl, ap, ap₂, sym, ◌∙◌, subst}
use Rattle.std.proofs.Common.{inl, inr, arith, length-append}
use Rattle.std.proofs.Common.{◌≤◌, ◌&&◌, cond, nat_le}
use Rattle.std.proofs.lemmas.Bool.{cases_Bool, and_parts, and_from, and_left, and_right}
use Rattle.std.proofs.lemmas.Bool.{eqb-true}
use Rattle.std.proofs.lemmas.Bool.{le-leb, leb-true, leb-false, false_from_ne_true}
use Rattle.wit_model.specs.Rules.State.{Start}
use Rattle.wit_model.specs.World.Deeds.{Deed}
use Rattle.wit_model.specs.World.Deeds.{thread_of, own, shares}
use Rattle.wit_model.specs.World.Steps.{IsWorld}
use Rattle.wit_model.proofs.World.Own.{own-mine, own-other, shares-own}
use Rattle.wit_errands.specs.Settled.{is_free, are_free}
use Rattle.wit_errands.specs.Errands.{is_in_way}
use Rattle.wit_errands.proofs.Having.{HasSame, has-own, has-over, has-then, has-back}
use Rattle.wit_errands.proofs.Bars.{step-free, in_way-same, none-in_way, not-in_way}
use Rattle.wit_errands.proofs.Moments.{none-longer}

module _ (some : ℕ → Bool) (past : ℕ → ℕ) where
  is_late : Deed → List Deed → Bool
  is_late d v =
      some (thread_of d) && nat_le (past (thread_of d)) (length (own (thread_of d) v))

  pub late : List Deed → List Deed
  late [] = []
  late (d ∷ v) = cond (is_late d v) (d ∷ late v) (late v)

  late-in : (d : Deed) (v : List Deed) → is_late d v ≡ true → late (d ∷ v) ≡ d ∷ late v
  unfolding late
  late-in d v is = rw is refl

  late-out : (d : Deed) (v : List Deed) → is_late d v ≡ false → late (d ∷ v) ≡ late v
  unfolding late
  late-out d v is = rw is refl

  -- a deed of another thread
  late-other : (t : ℕ) (d : Deed) (v : List Deed) → eqb (thread_of d) t ≡ false
      → own t (late (d ∷ v)) ≡ own t (late v)
  late-other t d v there =
      elim (cases_Bool (is_late d v)) [
        | inl is ↦ ap (λ x. own t x) (late-in d v is) ∙ own-other t d (late v) there
        | inr none ↦ ap (λ x. own t x) (late-out d v none)
      ]

  pub own-outside : (t : ℕ) (v : List Deed) → some t ≡ false → own t (late v) ≡ []
  unfolding late is_late
  own-outside t [] is = refl
  own-outside t (d ∷ v) is =
      elim (cases_Bool (eqb (thread_of d) t)) [
        | inl here ↦ ap (λ x. own t x)
            (late-out d v (and_left (some (thread_of d))
            (nat_le (past (thread_of d)) (length (own (thread_of d) v)))
            (ap some (eqb-true (thread_of d) t here) ∙ is))) ∙ own-outside t v is
        | inr there ↦ late-other t d v there ∙ own-outside t v is
      ]

  late-now : (d : Deed) (v : List Deed) → some (thread_of d) ≡ true
      → past (thread_of d) ≤ length (own (thread_of d) v) → is_late d v ≡ true
  unfolding is_late
  late-now d v is long =
      and_from (some (thread_of d))
      (nat_le (past (thread_of d)) (length (own (thread_of d) v))) is
      (le-leb (past (thread_of d)) (length (own (thread_of d) v)) long)

  late-not : (d : Deed) (v : List Deed) → length (own (thread_of d) v) < past (thread_of d)
      → is_late d v ≡ false
  unfolding is_late
  late-not d v short =
      and_right (some (thread_of d))
      (nat_le (past (thread_of d)) (length (own (thread_of d) v)))
      (false_from_ne_true (nat_le (past (thread_of d)) (length (own (thread_of d) v)))
      (λ is. let le = leb-true (past (thread_of d)) (length (own (thread_of d) v)) is in
      let no : ⊥ = omega (arith, le, short) in no))

  -- the first ones of a thread are left out
  none-yet : (t : ℕ) (v : List Deed) → length (own t v) ≤ past t → own t (late v) ≡ []
  unfolding late
  none-yet t [] short = refl
  none-yet t (d ∷ v) short =
      elim (cases_Bool (eqb (thread_of d) t)) [
        | inl here ↦
            let same = eqb-true (thread_of d) t here in
            let long = ap (λ o. length o) (own-mine t d v here) in
            let less : length (own t v) < past t = omega (arith, long, short) in
            let not_yet =
            late-not d v (subst (λ k. length (own k v) < past k) (sym same) less) in
            ap (λ x. own t x) (late-out d v not_yet) ∙ none-yet t v (omega (arith, less))
        | inr there ↦
            let same = ap (λ o. length o) (own-other t d v there) in
            late-other t d v there ∙ none-yet t v (omega (arith, same, short))
      ]

  -- and the others aren't
  pub own-late : (t : ℕ) (v x y : List Deed) → some t ≡ true → own t v ≡ x ++ y → length y ≡ past t
      → own t (late v) ≡ x
  own-late t v [] y is whole long =
      let same = ap (λ o. length o) whole in none-yet t v (omega (arith, same, long))
  own-late t [] (a ∷ x) y is whole long = absurd (none-longer [] a (x ++ y) whole)
  own-late t (d ∷ v) (a ∷ x) y is whole long =
      elim (cases_Bool (eqb (thread_of d) t)) [
        | inl here ↦
            let both : d ∷ own t v ≡ a ∷ (x ++ y) = sym (own-mine t d v here) ∙ whole in
            let head : d ≡ a = cc in
            let tail : own t v ≡ x ++ y = cc in
            let same = eqb-true (thread_of d) t here in
            let lengths = ap (λ o. length o) tail in
            let enough : past t ≤ length (own t v) = omega (arith, lengths, length-append x y, long)
            in
            let now =
            late-now d v (ap some same ∙ is)
            (subst (λ k. past k ≤ length (own k v)) (sym same) enough) in
            ap (λ o. own t o) (late-in d v now)
            ∙ (own-mine t d (late v) here
            ∙ ap₂ (λ b o. b ∷ o) head (own-late t v x y is tail long))
        | inr there ↦ late-other t d v there
            ∙ own-late t v (a ∷ x) y is (sym (own-other t d v there) ∙ whole) long
      ]

  -- ---- what the locks admit

  -- after so many deeds of its own t had nothing
  pub record IsBegun (t : ℕ) (v : List Deed) : Type 0 where
    pub newer : List Deed
    pub older : List Deed
    pub whole : own t v ≡ newer ++ older
    pub long : length older ≡ past t
    pub nothing : (l : ℕ) → shares t l older ≡ 0

  -- wherever it has done so many
  abbrev pub AllBegun : List Deed → Type 0
  AllBegun v = (t : ℕ) → some t ≡ true → past t ≤ length (own t v) → IsBegun t v

  has-late : (t : ℕ) (v : List Deed) → some t ≡ true → IsBegun t v → HasSame t (late v) v
  has-late t v is b =
      has-then t (late v) b.newer v
      (has-own t (late v) b.newer (own-late t v b.newer b.older is b.whole b.long))
      (has-back t v b.newer
      (has-then t v (b.newer ++ b.older) b.newer (has-own t v (b.newer ++ b.older) b.whole)
      (has-over t b.newer b.older b.nothing)))

  module _ (start : Start) (files : List (List ℕ)) where
    away : (i : ℕ) (v : List Deed) → own i (late v) ≡ [] → (d : Deed)
        → is_in_way i (late v) d ≡ false
    away i v none =
        none-in_way i (late v) (λ l. sym (shares-own i l (late v)) ∙ ap (λ o. shares i l o) none)

    others-away : (d : Deed) (v : List Deed) → IsWorld start files (d ∷ v) → AllBegun v → (i : ℕ)
        → (i ≡ thread_of d → ⊥) → is_in_way i (late v) d ≡ false
    others-away d v world begun i other =
        elim (cases_Bool (some i)) [
          | inl one ↦
              elim (cases_Bool (nat_le (past i) (length (own i v)))) [
                | inl long ↦ in_way-same i (late v) v
                    (has-late i v one (begun i one (leb-true (past i) (length (own i v)) long))) d
                    ∙ not-in_way start files d v world i other
                | inr short ↦ away i v (none-yet i v
                    (let less = leb-false (past i) (length (own i v)) short in omega arith)) d
              ]
          | inr none ↦ away i v (own-outside i v none) d
        ]

    pub late-free : (v : List Deed) → IsWorld start files v
        → ((later now : List Deed) → v ≡ later ++ now → AllBegun now)
        → are_free start.sizes.seats (late v) ≡ true
    unfolding late is_late
    late-free [] world begun = refl
    late-free (d ∷ v) world begun =
        let before =
        late-free v world.1 (λ later now whole. begun (d ∷ later) now (ap (λ x. d ∷ x) whole)) in
        elim (cases_Bool (is_late d v)) [
          | inl is ↦
              let t = thread_of d in
              let parts = and_parts (some t) (nat_le (past t) (length (own t v))) is in
              let now = begun (d ∷ []) v refl in
              let here = now t parts.0 (leb-true (past t) (length (own t v)) parts.1) in
              ap (λ x. are_free start.sizes.seats x) (late-in d v is)
              ∙ and_from (is_free start.sizes.seats d (late v))
              (are_free start.sizes.seats (late v))
              (step-free start files v (late v) d world.0 (has-late t v parts.0 here)
              (others-away d v world now)) before
          | inr none ↦ ap (λ x. are_free start.sizes.seats x) (late-out d v none) ∙ before
        ]
