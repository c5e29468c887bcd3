-- The worlds of two threads of which the one reorders the other, and reaches a deadlock.
use Rattle.std.proofs.Common.{◌≡◌, ℕ, [], map, take, refl, ap, sym, ◌∙◌, subst, inl, inr, arith}
use Rattle.std.proofs.lemmas.Bool.Decides.{eqb_tells}
use Rattle.wit_model.specs.declared.calls.Request.{Request}
use Rattle.wit_model.specs.Rules.Beginnings.{IsBeginning}
use Rattle.wit_model.specs.Rules.History.{num}
use Rattle.wit_model.specs.World.Deeds.{own, shares}
use Rattle.wit_model.specs.World.Stages.{Over, Asked, stage}
use Rattle.wit_model.specs.World.Waiting.{IsWaiting}
use Rattle.wit_model.specs.World.Reordering.{kept}
use Rattle.wit_model.specs.World.Examples.{request, in_turn, crossed, defined, defined_before}

-- each thread's deeds in the one are a beginning of those in the other
pub begins : (t : ℕ) → IsBeginning (map kept (own t crossed)) (map kept (own t in_turn))
unfolding num
begins t =
    elim (eqb_tells 1 t) [
      | inl one ↦ subst (λ n. IsBeginning (map kept (own n crossed)) (map kept (own n in_turn)))
          one.1 (take 6 (map kept (own 1 in_turn)), refl)
      | inr first ↦
          elim (eqb_tells 2 t) [
            | inl two ↦ subst (λ n. IsBeginning (map kept (own n crossed))
                (map kept (own n in_turn))) two.1 ([], refl)
            | inr second ↦ ([], rw (first.0, second.0) refl)
          ]
    ]

-- and so are they where both define an order
pub defined-begins : (t : ℕ)
    → IsBeginning (map kept (own t defined_before)) (map kept (own t defined))
unfolding num
defined-begins t =
    elim (eqb_tells 1 t) [
      | inl one ↦
          subst (λ n. IsBeginning (map kept (own n defined_before)) (map kept (own n defined)))
          one.1 ([], refl)
      | inr first ↦
          elim (eqb_tells 2 t) [
            | inl two ↦
                subst (λ n. IsBeginning (map kept (own n defined_before))
                (map kept (own n defined))) two.1 ([], refl)
            | inr second ↦ ([], rw (first.0, second.0) refl)
          ]
    ]

-- in turn nobody has the first lock in the end
free : (u : ℕ) → shares u 1 in_turn ≡ 0
free u =
    elim (eqb_tells 1 u) [
      | inl one ↦ subst (λ n. shares n 1 in_turn ≡ 0) one.1 refl
      | inr first ↦
          elim (eqb_tells 2 u) [
            | inl two ↦ subst (λ n. shares n 1 in_turn ≡ 0) two.1 refl
            | inr second ↦ rw (first.0, second.0) refl
          ]
    ]

over : (q : Request) → Over ≡ Asked q → ⊥
over q is = (cc)

wants : (q p : Request) → Asked q ≡ Asked p → q.lock.0 ≡ p.lock.0
wants q p is = ap (λ (r : Request). r.lock.0) (let same : q ≡ p = cc in same)

-- and only the second thread asks for a lock: that one
asked : (t : ℕ) (q : Request) → stage t (own t in_turn) ≡ Asked q → 1 ≡ q.lock.0
unfolding num
asked t q is =
    elim (eqb_tells 1 t) [
      | inl one ↦ absurd (over q (subst (λ n. stage n (own n in_turn) ≡ Asked q) (sym one.1) is))
      | inr first ↦
          elim (eqb_tells 2 t) [
            | inl two ↦ wants (request 1 4) q
                (subst (λ n. stage n (own n in_turn) ≡ Asked q) (sym two.1) is)
            | inr second ↦ absurd (over q (let none : stage t (own t in_turn)
                ≡ Over = rw (first.0, second.0) refl in sym none ∙ is))
          ]
    ]

pub none_waits : (t u : ℕ) → IsWaiting in_turn t u → ⊥
none_waits t u waits =
    let none : shares u waits.request.lock.0 in_turn ≡ 0 =
    subst (λ l. shares u l in_turn ≡ 0) (asked t waits.request waits.asks) (free u) in
    let some = waits.taken in
    omega arith

pub one_waits : IsWaiting crossed 1 2
unfolding num
one_waits =
    record {
      request = request 2 2;
      asks = refl;
      unheld = refl;
      another = λ e. omega arith;
      taken = omega arith;
      barred = refl;
    }

pub two_waits : IsWaiting crossed 2 1
unfolding num
two_waits =
    record {
      request = request 1 4;
      asks = refl;
      unheld = refl;
      another = λ e. omega arith;
      taken = omega arith;
      barred = refl;
    }
