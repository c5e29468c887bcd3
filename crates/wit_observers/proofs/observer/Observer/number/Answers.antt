use Rattle.std.proofs.Common.{◌≡◌, ℕ, List, length, Option, None, Some, IfSome, MatchOption, sym}
use Rattle.std.proofs.Common.{subst}
use mathlib.Core.List.{IsPrefix}
use base.Growing.{prefix_trans}
use Rattle.wit_model.specs.declared.calls.Adoption.{Adoption}
use Rattle.wit_model.specs.Rules.Numbers.{is_number}
use Rattle.wit_model.specs.Rules.Orders.{is_direct}
use Rattle.wit_observers.specs.Shown.{Tells}
use Rattle.wit_observers.proofs.Looking.{answers}
use Rattle.wit_observers.proofs.observer.Observer.number.Goals.{then-self, else-self}
use Rattle.wit_observers.proofs.observer.Observer.number.Goals as goal

seen_of : (o : Option (List Adoption × ℕ)) (seen : List Adoption) (number a b : ℕ)
    (told all : List Adoption)
    → MatchOption o (all ≡ told) (λ s. Tells told s.0 s.1 a b all) → o ≡ Some (seen, number)
    → Tells told seen number a b all
seen_of o seen number a b told all said is =
    subst (λ (o : Option (List Adoption × ℕ)). MatchOption o (all ≡ told)
    (λ s. Tells told s.0 s.1 a b all)) is said

of_place : {P : Type 0} (o : Option P) (p : P) (holds : P → Type 0) → Some p ≡ o
    → IfSome o holds → holds p
of_place o p holds is all = subst (λ o. IfSome o holds) (sym is) all

answer_of : (o : Option ℕ) (number a b : ℕ) (front : List Adoption) → o ≡ Some number
    → is_number (length front) number ≡ is_direct front a b
    → IfSome o (λ n. is_number (length front) n ≡ is_direct front a b)
answer_of o number a b front is said =
    subst (λ (o : Option ℕ). IfSome o (λ n. is_number (length front) n ≡ is_direct front a b))
    (sym is) said

no_answer : (o : Option ℕ) (holds : ℕ → Type 0) → o ≡ None → IfSome o holds
no_answer o holds is = subst (λ (o : Option ℕ). IfSome o holds) (sym is) tt

pub returns-clause-number : goal.returns-clause-number
returns-clause-number g c = elim (c.if-self.branch) [
  | then-self w ↦
      let a = c.args.parent.0 in
      let b = c.args.child.0 in
      let told = c.in_ok-place.place.place.me.0.client in
      let all = c.look-place.result.0.place.me.0.client in
      let now = c.rise-self-inside.new.front in
      let tells =
      seen_of c.look-place.result.1 c.in_ok-seen.seen c.in_ok-seen.number a b told all
      c.look-place.ensures c.in_ok-seen.was in
      let inv = c.self.invariant in
      let begins = c.rise-self-inside.ensures.told all tells.begins
      (λ is. prefix_trans c.self.inside.front told all
      (of_place c.self.inside.place c.in_ok-place.place
      (λ p. IsPrefix c.self.inside.front p.place.me.0.client) c.in_ok-place.ensures.value
      (inv.1 is)) tells.more) w.if-self.true in
      answer_of c.if-self.result c.in_ok-seen.number a b now w.result-is
      (answers told c.in_ok-seen.seen c.in_ok-seen.number a b all now tells begins)
  | else-self w ↦ no_answer c.if-self.result _ w.result-is
]
