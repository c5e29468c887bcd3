-- The path by which an order is told, step by step.
use Rattle.std.proofs.Common.{◌≡◌, ℕ, suc, zero, ◌+◌, ◌-◌, ◌<◌, ◌≤◌, Bool, true, false, cond, eqb}
use Rattle.std.proofs.Common.{List, [], ◌∷◌, ◌++◌, find, Some, None, refl, ap, sym, ◌∙◌, subst, inl}
use Rattle.std.proofs.Common.{inr, arith, append_assoc}
use Rattle.std.specs.List.{range_with_len}
use Rattle.std.proofs.lemmas.Bool.{cases_lt, cases_order}
use Rattle.wit_model.specs.declared.locks.TypeNo.{TypeNo}
use Rattle.wit_model.specs.declared.calls.Adoption.{Adoption}
use Rattle.wit_model.specs.Rules.Numbers.{IsNumber}
use Rattle.wit_model.specs.Rules.Orders.{is_direct}
use Rattle.wit_model.specs.Trace.Paths.{leads, next_type, way, type_numbers}
use Rattle.wit_matrix.specs.Relation.{Relation}
use Rattle.wit_matrix.specs.Squares.{HasNone, relation_in}
use Rattle.wit_matrix.proofs.Settled.{direct_holds}

-- the first number that passes
pub find_first : (test : ℕ → Bool) (s n k : ℕ) → s ≤ k → k < s + n
    → ((t : ℕ) → s ≤ t → t < k → test t ≡ false) → test k ≡ true
    → Some k ≡ find test (range_with_len s n)
find_first test s zero k le lt before is = absurd (omega arith)
find_first test s (suc n) k le lt before is =
    elim (cases_order s k) [
      | inl e ↦ subst (λ j. Some k ≡ cond (test j) (Some j) (find test (range_with_len (j + 1) n)))
          (sym e) (rw is refl)
      | inr (inl less) ↦
          let no : test s ≡ false = before s (omega arith) less in
          rw no (find_first test (s + 1) n k (omega arith) (omega arith)
          (λ t st tk. before t (omega arith) tk) is)
      | inr (inr more) ↦ absurd (omega arith)
    ]

pub find_none : (test : ℕ → Bool) (s n : ℕ) → ((t : ℕ) → s ≤ t → t < s + n → test t ≡ false)
    → None ≡ find test (range_with_len s n)
find_none test s zero none = refl
find_none test s (suc n) none =
    let no : test s ≡ false = none s (omega arith) (omega arith) in
    rw no (find_none test (s + 1) n (λ t st tn. none t (omega arith) (omega arith)))

-- a type that isn't a direct child leads nowhere
not_led : (os : List Adoption) (a b t : ℕ) → is_direct os a t ≡ false → leads os a b t ≡ false
not_led os a b t isnt = rw isnt refl

-- neither does one that the search skipped, nor one that it tried before that
pub skipped : (n : ℕ) (direct found : List ℕ) (m : Relation) → relation_in n direct found ≡ m
    → (a b from next : ℕ) → IsNumber m.size a
    → ((t : ℕ) → 1 ≤ t → t < from → leads m.orders a b t ≡ false) → HasNone n direct a from next
    → (t : ℕ) → 1 ≤ t → t ≤ m.size → t < next → leads m.orders a b t ≡ false
skipped n direct found m is a b from next at before none t lo hi lt = elim (cases_lt t from) [
  | inl less ↦ before t lo less
  | inr more ↦
      let size : n ≡ m.size = ap (λ (r : Relation). r.size) is in
      let row : IsNumber n a = subst (λ k. IsNumber k a) (sym size) at in
      let says =
      direct_holds n direct a t row (lo, omega (arith, size, hi))
      ∙ ap (λ (r : Relation). is_direct r.orders a t) is in
      not_led m.orders a b t (sym says ∙ none t more lt)
]

-- so far these types were gone by, and from here the way goes on for what is left
pub record IsOnWay (os : List Adoption) (n a b steps : ℕ) (gone : List TypeNo)
    (at : ℕ) : Type 0 where
  pub told : type_numbers gone ++ way os n (n - steps) at b ≡ way os n n a b

type_numbers-push : (gone : List TypeNo) (t : TypeNo)
    → type_numbers (gone ++ t ∷ []) ≡ type_numbers gone ++ t.0 ∷ []
type_numbers-push [] t = refl
type_numbers-push (g ∷ gone) t = ap (λ ns. g.0 ∷ ns) (type_numbers-push gone t)

way_step : (os : List Adoption) (n a b steps : ℕ) (gone more : List TypeNo) (t : TypeNo)
    (rest : List ℕ) → IsOnWay os n a b steps gone t.0 → steps < n → more ≡ gone ++ t ∷ []
    → way os n (suc (n - (steps + 1))) t.0 b ≡ t.0 ∷ rest
    → type_numbers more ++ rest ≡ way os n n a b
way_step os n a b steps gone more t rest on lt is goes =
    let left : n - steps ≡ suc (n - (steps + 1)) = omega arith in
    ap (λ g. type_numbers g ++ rest) is
    ∙ (ap (λ g. g ++ rest) (type_numbers-push gone t)
    ∙ (append_assoc (type_numbers gone) (t.0 ∷ []) rest
    ∙ (ap (λ w. type_numbers gone ++ w) (sym goes)
    ∙ (ap (λ m. type_numbers gone ++ way os n m t.0 b) (sym left) ∙ on.told))))

append-nil : (xs : List ℕ) → xs ++ [] ≡ xs
append-nil [] = refl
append-nil (x ∷ xs) = ap (λ ys. x ∷ ys) (append-nil xs)

pub way_ends : (os : List Adoption) (n a b steps : ℕ) (gone more : List TypeNo) (t : TypeNo)
    → IsOnWay os n a b steps gone t.0 → steps < n → more ≡ gone ++ t ∷ []
    → eqb t.0 b ≡ true → type_numbers more ≡ way os n n a b
way_ends os n a b steps gone more t on lt is end =
    sym (append-nil (type_numbers more))
    ∙ way_step os n a b steps gone more t [] on lt is (rw end refl)

pub way_lost : (os : List Adoption) (n a b steps : ℕ) (gone more : List TypeNo) (t : TypeNo)
    → IsOnWay os n a b steps gone t.0 → steps < n → more ≡ gone ++ t ∷ []
    → eqb t.0 b ≡ false → next_type os n t.0 b ≡ None → type_numbers more ≡ way os n n a b
way_lost os n a b steps gone more t on lt is goes none =
    sym (append-nil (type_numbers more)) ∙ way_step os n a b steps gone more t [] on lt is
    (rw (goes, none) refl)

pub way_on : (os : List Adoption) (n a b steps : ℕ) (gone more : List TypeNo) (t : TypeNo)
    (next : ℕ) → IsOnWay os n a b steps gone t.0 → steps < n → more ≡ gone ++ t ∷ []
    → eqb t.0 b ≡ false → next_type os n t.0 b ≡ Some next → IsOnWay os n a b (steps + 1) more next
way_on os n a b steps gone more t next on lt is goes some = record {
  told =
      way_step os n a b steps gone more t (way os n (n - (steps + 1)) next b) on lt is
      (rw (goes, some) refl);
}
