-- What a verifier's questions tell of its log.
use Rattle.std.proofs.Common.{◌≡◌, ℕ, ◌+◌, ◌-◌, Bool, true, false, Option, None, Some, refl, ap}
use Rattle.std.proofs.Common.{sym, ◌∙◌, arith}
use Rattle.std.specs.Option.{option_map}
use Rattle.std.proofs.lemmas.Bool.{ltb-true, ltb-false}
use Rattle.wit_model.specs.declared.calls.Request.{Request}
use Rattle.wit_model.specs.declared.locks.Instance.{Instance}
use Rattle.wit_model.specs.declared.locks.LockNo.{LockNo}
use Rattle.wit_model.specs.declared.locks.Mode.{Mode}
use Rattle.wit_model.specs.declared.locks.Mode.TheVariants.{Exclusive}
use Rattle.wit_model.specs.Rules.History.{num, is_held, instance, pending}
use Rattle.wit_model.specs.Rules.State.{Story, state_of, is_seat, seat_at}
use Rattle.wit_model.specs.Rules.Step.{held_by, IsLegal}
use Rattle.wit_model.specs.World.Moving.{stage_asked}
use Rattle.wit_model.specs.World.Scenes.{mode_asked}
use Rattle.wit_model.proofs.Chains.Found.{if_some}
use Rattle.wit_model.proofs.Histories.Legal.{held_by-state, pending-state, sane_legal}

module _ (s : Story) (t : ℕ) (seat : is_seat (state_of s) t ≡ true) where
  module _ (l : ℕ) (legal : IsLegal s.start s.files s.history) where
    recorded-is : option_map (λ (i : Instance). i.count) (held_by (state_of s) t l)
        ≡ option_map (λ (i : Instance). i.count)
        (if_some (is_held t l s.history) (instance t s.history l))
    recorded-is =
        ap (λ o. option_map (λ (i : Instance). i.count) o)
        (held_by-state s.start s.files s.history t l seat
        (sane_legal s.start s.files s.history legal))

    -- recursions count from the second acquisition on
    pub num-some : (n : ℕ) → option_map (λ (i : Instance). i.count) (held_by (state_of s) t l)
        ≡ Some n
        → n + 1 ≡ num t l s.history
    num-some n is = go (is_held t l s.history) refl (sym recorded-is ∙ is)
      where
        go : (b : Bool) → is_held t l s.history ≡ b
            → option_map (λ (x : Instance). x.count) (if_some b (instance t s.history l)) ≡ Some n
            → n + 1 ≡ num t l s.history
        go true held is =
            let some = ltb-true 0 (num t l s.history) held in
            let count : num t l s.history - 1 ≡ n = cc in
            omega (arith, some, count)
        go false held is = (cc)

    pub num-none : option_map (λ (i : Instance). i.count) (held_by (state_of s) t l) ≡ None
        → 0 ≡ num t l s.history
    num-none is = go (is_held t l s.history) refl (sym recorded-is ∙ is)
      where
        go : (b : Bool) → is_held t l s.history ≡ b
            → option_map (λ (x : Instance). x.count) (if_some b (instance t s.history l)) ≡ None
            → 0 ≡ num t l s.history
        go true held is = (cc)
        go false held is = let none = ltb-false 0 (num t l s.history) held in omega (arith, none)

  -- the mode of what was asked for
  pub asked-is : (o : Option (LockNo × Mode))
      → o ≡ option_map (λ (q : Request). (q.lock, q.mode)) (seat_at (state_of s) t).pending
      → o ≡ option_map (λ (q : Request). (q.lock, q.mode)) (pending t s.history)
  asked-is o is =
      is ∙ ap (λ p. option_map (λ (q : Request). (q.lock, q.mode)) p)
      (pending-state s.start s.files s.history t seat)

pub mode-some : (p : Option Request) (l : LockNo) (mode : Mode)
    → ◌≡◌ {A = Option (LockNo × Mode)} (Some (l, mode))
    (option_map (λ (q : Request). (q.lock, q.mode)) p)
    → mode ≡ mode_asked (stage_asked p)
mode-some None l mode is = (cc)
mode-some (Some q) l mode is = let same : ◌≡◌ {A = LockNo × Mode} (l, mode) (q.lock, q.mode) =
    cc in ap (λ (x : LockNo × Mode). x.1) same

pub mode-none : (p : Option Request)
    → ◌≡◌ {A = Option (LockNo × Mode)} None (option_map (λ (q : Request). (q.lock, q.mode)) p)
    → Exclusive ≡ mode_asked (stage_asked p)
mode-none None is = refl
mode-none (Some q) is = (cc)
