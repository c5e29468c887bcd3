-- The groups of a seat's held locks after an entry: the step that a program takes.
use Rattle.std.proofs.Common.{◌≡◌, ℕ, ◌+◌, ◌-◌, Bool, true, false, not, ◌&&◌, cond, nat_lt, List}
use Rattle.std.proofs.Common.{◌∷◌, find, Option, Some, None, refl, ap, ap₂, sym, ◌∙◌, subst, arith}
use Rattle.std.proofs.lemmas.Bool.{eq-eqb}
use Rattle.wit_model.specs.declared.locks.Instance.{Instance}
use Rattle.wit_model.specs.declared.calls.NewLock.{NewLock}
use Rattle.wit_model.specs.declared.calls.Entry.{Entry}
use Rattle.wit_model.specs.Rules.Locks.{locks_of, is_of_kind}
use Rattle.wit_model.specs.Rules.History.{Act, Records, Releases, act_by, num, is_held, rises}
use Rattle.wit_model.specs.Rules.History.{instance, chain}
use Rattle.wit_model.specs.Rules.Groups.{joined, left}
use Rattle.wit_model.specs.Rules.SeatGroups.{falls, regrouped, seat_groups}
use Rattle.wit_model.specs.Rules.Verdict.{is_of}
use Rattle.wit_model.proofs.Chains.Sane.{IsFit, IsSane, fit_by}
use Rattle.wit_model.proofs.Chains.Acts.{num-step}
use Rattle.wit_model.proofs.Chains.HeldLocks.{held-from, rises-held, rises-new}
use Rattle.wit_model.proofs.Chains.Effects.{is_not}
use Rattle.wit_model.proofs.Chains.Found.{if_some, found}
use Rattle.wit_model.proofs.Chains.Regrouping.{seat_groups-cons}

-- the groups after a lock of their kind was acquired, by what is found of the lock in the chain
abbrev pub groups_entered : ℕ → List (List ℕ) → Option Instance → List (List ℕ)
groups_entered l gs None = joined l gs
groups_entered l gs (Some i) = gs

-- the groups after a lock of their kind was released
abbrev pub withdrawn : ℕ → List (List ℕ) → Option Instance → List (List ℕ)
withdrawn l gs None = gs
withdrawn l gs (Some i) = cond (nat_lt 0 i.count) gs (left (is_not l) gs)

-- the groups of one kind after an act, beside the chain before it
abbrev pub groups_after : Bool → List NewLock → Act → List Instance → List (List ℕ) → List (List ℕ)
groups_after k ls (Records l) c gs =
    cond (is_of_kind k ls l) (groups_entered l gs (find (is_of l) c)) gs
groups_after k ls (Releases l) c gs =
    cond (is_of_kind k ls l) (withdrawn l gs (find (is_of l) c)) gs
groups_after k ls _ c gs = gs

turned_round : (b : Bool) (gs hs : List (List ℕ)) → cond (not b) gs hs ≡ cond b hs gs
turned_round true gs hs = refl
turned_round false gs hs = refl

module _ (k : Bool) (t l : ℕ) (x : Entry) (h : List Entry) (sane : IsSane (x ∷ h)) where
  found_as : (b : Bool) → is_of_kind k (locks_of h) l ≡ true → is_held t l h ≡ b
      → find (is_of l) (chain k t h) ≡ if_some b (instance t h l)
  found_as b kind is =
      found k t l h sane.1 ∙ ap₂ (λ a c. if_some (a && c) (instance t h l)) is kind ∙ alike b
    where
      alike : (a : Bool) → if_some (a && true) (instance t h l) ≡ if_some a (instance t h l)
      alike true = refl
      alike false = refl

  -- a lock joins them where it wasn't held
  groups-recorded : (gs : List (List ℕ)) → act_by t x ≡ Records l
      → cond (is_of_kind k (locks_of h) l && rises t l x h) (joined l gs) gs
      ≡ cond (is_of_kind k (locks_of h) l)
      (groups_entered l gs (find (is_of l) (chain k t h))) gs
  groups-recorded gs acts = go (is_of_kind k (locks_of h) l) refl
    where
      now : is_held t l (x ∷ h) ≡ true
      now =
          let more : num t l (x ∷ h) ≡ num t l h + 1 =
          num-step t l x h (Records l) acts sane.1 ∙ rw (eq-eqb l l refl) refl in
          held-from t l (x ∷ h) (omega (arith, more))

      by : is_of_kind k (locks_of h) l ≡ true → (b : Bool) → is_held t l h ≡ b
          → cond (rises t l x h) (joined l gs) gs
          ≡ groups_entered l gs (find (is_of l) (chain k t h))
      by kind true was =
          ap (λ b. cond b (joined l gs) gs) (rises-held t l x h was)
          ∙ sym (ap (groups_entered l gs) (found_as true kind was))
      by kind false was =
          ap (λ b. cond b (joined l gs) gs) (rises-new t l x h was now)
          ∙ sym (ap (groups_entered l gs) (found_as false kind was))

      go : (b : Bool) → is_of_kind k (locks_of h) l ≡ b → cond (b && rises t l x h) (joined l gs) gs
          ≡ cond b (groups_entered l gs (find (is_of l) (chain k t h))) gs
      go true kind = by kind (is_held t l h) refl
      go false kind = refl

  -- a lock leaves them where it isn't held any more
  groups-released : (gs : List (List ℕ)) → act_by t x ≡ Releases l
      → cond (is_of_kind k (locks_of h) l && falls t l x h) (left (is_not l) gs) gs
      ≡ cond (is_of_kind k (locks_of h) l) (withdrawn l gs (find (is_of l) (chain k t h))) gs
  groups-released gs acts = go (is_of_kind k (locks_of h) l) refl
    where
      was : is_held t l h ≡ true
      was = held-from t l h (subst (λ a. IsFit a t h) acts (fit_by t x h sane))

      now : is_held t l (x ∷ h) ≡ nat_lt 0 (num t l h - 1)
      now =
          ap (λ n. nat_lt 0 n) (num-step t l x h (Releases l) acts sane.1
          ∙ rw (eq-eqb l l refl) refl)

      by : is_of_kind k (locks_of h) l ≡ true → cond (falls t l x h) (left (is_not l) gs) gs
          ≡ withdrawn l gs (find (is_of l) (chain k t h))
      by kind =
          ap₂ (λ a b. cond (a && not b) (left (is_not l) gs) gs) was now
          ∙ turned_round (nat_lt 0 (num t l h - 1)) (left (is_not l) gs) gs
          ∙ sym (ap (withdrawn l gs) (found_as true kind was))

      go : (b : Bool) → is_of_kind k (locks_of h) l ≡ b
          → cond (b && falls t l x h) (left (is_not l) gs) gs
          ≡ cond b (withdrawn l gs (find (is_of l) (chain k t h))) gs
      go true kind = by kind
      go false kind = refl

-- a seat's groups after an entry
pub groups-step : (k : Bool) (t : ℕ) (x : Entry) (h : List Entry) → IsSane (x ∷ h)
    → seat_groups k t (x ∷ h) ≡ groups_after k (locks_of h) (act_by t x) (chain k t h)
    (seat_groups k t h)
groups-step k t x h sane = seat_groups-cons k t x h ∙ go (act_by t x) refl
  where
    go : (a : Act) → act_by t x ≡ a → regrouped k t a x h (seat_groups k t h)
        ≡ groups_after k (locks_of h) a (chain k t h) (seat_groups k t h)
    go (Records l) acts = groups-recorded k t l x h sane (seat_groups k t h) acts
    go (Releases l) acts = groups-released k t l x h sane (seat_groups k t h) acts
    go _ acts = refl
