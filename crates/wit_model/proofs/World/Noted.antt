-- How a thread has a lock, where it tells of a try or turns it.
use Rattle.std.proofs.Common.{◌≡◌, ℕ, ◌+◌, ◌<◌, Bool, true, false, eqb, List, [], ◌∷◌, refl}
use Rattle.std.proofs.Common.{ap, ap₂, sym, ◌∙◌, subst, inl, inr, arith}
use Rattle.std.proofs.lemmas.Bool.{and_parts, cases_Bool, eqb-true}
use Rattle.wit_model.specs.declared.locks.Mode.{Mode}
use Rattle.wit_model.specs.declared.locks.Mode.TheVariants.{Shared, Exclusive}
use Rattle.wit_model.specs.declared.locks.Site.{Site}
use Rattle.wit_model.specs.declared.calls.Call.{Call}
use Rattle.wit_model.specs.declared.calls.Call.TheVariants.{Check, NoteTry, Downgrade, Unlock}
use Rattle.wit_model.specs.declared.calls.Reply.{Reply}
use Rattle.wit_model.specs.Rules.History.{is_held}
use Rattle.wit_model.specs.Rules.State.{Start}
use Rattle.wit_model.specs.Rules.Verdict.{is_exclusive}
use Rattle.wit_model.specs.World.Deeds.{Deed, Logged, PassedOver, Take, TryTake, Free, RawUp}
use Rattle.wit_model.specs.World.Deeds.{RawDown, thread_of, own, log_of, mode_after}
use Rattle.wit_model.specs.World.Deeds.{shares, raw_mode}
use Rattle.wit_model.specs.World.Stages.{Stage, Over, Asked, Taken, Tried, Forgot, Raised, Lowered}
use Rattle.wit_model.specs.World.Stages.{stage_logged, stage_passed, stage, is_same_mode}
use Rattle.wit_model.specs.World.Stages.{call_follows}
use Rattle.wit_model.specs.World.Steps.{IsWorld}
use Rattle.wit_model.specs.World.Examples.{by}
use Rattle.wit_model.proofs.World.Apart.{these-here}
use Rattle.wit_model.proofs.World.Own.{own-mine, own-other, shares-own}

-- ---- the mode of a thread's shares depends on its own deeds alone

mode-other : (t l : ℕ) (d : Deed) (w : List Deed) → eqb (thread_of d) t ≡ false
    → raw_mode t l (d ∷ w) ≡ raw_mode t l w
mode-other t l (Take u m mode) w is = rw is refl
mode-other t l (TryTake u m mode) w is = rw is refl
mode-other t l (PassedOver u c) w is = refl
mode-other t l (Free u m) w is = refl
mode-other t l (Logged e) w is = refl
mode-other t l (RawUp u m) w is = rw is refl
mode-other t l (RawDown u m) w is = rw is refl

mode-own : (t l : ℕ) (w : List Deed) → raw_mode t l (own t w) ≡ raw_mode t l w
mode-own t l [] = refl
mode-own t l (d ∷ w) =
    elim (cases_Bool (eqb (thread_of d) t)) [
      | inl is ↦ ap (λ o. raw_mode t l o) (own-mine t d w is)
          ∙ ap (λ m. mode_after t l d m) (mode-own t l w)
      | inr is ↦ ap (λ o. raw_mode t l o) (own-other t d w is)
          ∙ (mode-own t l w ∙ sym (mode-other t l d w is))
    ]

-- ---- who tells of a try has just got the lock

own-first : (t : ℕ) (w : List Deed) (d : Deed) (o : List Deed) → own t w ≡ d ∷ o
    → eqb (thread_of d) t ≡ true
own-first t [] d o is = (cc)
own-first t (x ∷ w) d o is =
    elim (cases_Bool (eqb (thread_of x) t)) [
      | inl mine ↦ let both : x ∷ own t w ≡ d ∷ o = sym (own-mine t x w mine) ∙ is in
          let same : x ≡ d = cc in subst (λ y. eqb (thread_of y) t ≡ true) same mine
      | inr other ↦ own-first t w d o (sym (own-other t x w other) ∙ is)
    ]

called : (t : ℕ) (c : Call) (before : List Deed) (m : ℕ) (tried : Mode)
    → stage_logged t c before ≡ Tried m tried → ⊥
called t (Check q) before m tried is = (cc)
called t (Unlock l mode) before m tried is = (cc)
called t (Downgrade l) before m tried is = (cc)
called t c before m tried is = (cc)

passed : (c : Call) (m : ℕ) (tried : Mode) → stage_passed c ≡ Tried m tried → ⊥
passed (Unlock l mode) m tried is = (cc)
passed (Downgrade l) m tried is = (cc)
passed c m tried is = (cc)

tried-deed : (t : ℕ) (o : List Deed) (m : ℕ) (mode : Mode) → stage t o ≡ Tried m mode
    → (u : ℕ) × (before : List Deed) × (o ≡ TryTake u m mode ∷ before)
tried-deed t [] m mode is = (cc)
tried-deed t (Logged e ∷ o) m mode is = absurd (called t e.call o m mode is)
tried-deed t (PassedOver u c ∷ o) m mode is = absurd (passed c m mode is)
tried-deed t (Take u l x ∷ o) m mode is = (cc)
tried-deed t (TryTake u l x ∷ o) m mode is =
    let lock : l ≡ m = cc in
    let same : x ≡ mode = cc in (u, o, ap₂ (λ n y. TryTake u n y ∷ o) lock same)
tried-deed t (Free u l ∷ o) m mode is = (cc)
tried-deed t (RawUp u l ∷ o) m mode is = (cc)
tried-deed t (RawDown u l ∷ o) m mode is = (cc)

same : (a b : Mode) → is_same_mode a b ≡ true → a ≡ b
same Shared Shared is = refl
same Exclusive Exclusive is = refl
same Shared Exclusive is = (cc)
same Exclusive Shared is = (cc)

-- a try's note follows a try in its mode
after-try : (l : ℕ) (mode : Mode) (site : Site) (held : ℕ → Bool) (at : Stage)
    → call_follows (NoteTry (record { 0 = l }) mode site) held at ≡ true → at ≡ Tried l mode
after-try l mode site held (Tried m tried) is =
    let both = and_parts (eqb m l) (is_same_mode tried mode) is in
    ap₂ Tried (eqb-true m l both.0) (same tried mode both.1)
after-try l mode site held Over is = (cc)
after-try l mode site held (Asked q) is = (cc)
after-try l mode site held (Taken m) is = (cc)
after-try l mode site held (Forgot m may_keep) is = (cc)
after-try l mode site held (Raised m) is = (cc)
after-try l mode site held (Lowered m passed) is = (cc)

pub try_noted : (start : Start) (files : List (List ℕ)) (w : List Deed) (t l : ℕ) (mode : Mode)
    (site : Site) (reply : Reply)
    → IsWorld start files (by t (NoteTry (record { 0 = l }) mode site) reply ∷ w)
    → (0 < shares t l w) × (raw_mode t l w ≡ mode)
try_noted start files w t l mode site reply world =
    let got =
    tried-deed t (own t w) l mode (after-try l mode site (λ k. is_held t k (log_of w))
    (stage t (own t w)) world.0.0) in
    let mine = own-first t w (TryTake got.0 l mode) got.1 got.2 in
    let these = these-here t l got.0 l refl ∙ mine in
    let count : shares t l w ≡ shares t l got.1 + 1 =
    sym (shares-own t l w) ∙ (ap (λ o. shares t l o) got.2 ∙ rw these refl) in
    let had : raw_mode t l w ≡ mode =
    sym (mode-own t l w) ∙ (ap (λ o. raw_mode t l o) got.2 ∙ rw these refl) in
    (omega (arith, count), had)

-- ---- who turns a lock exclusive has it shared

is-shared : (m : Mode) → is_exclusive m ≡ false → m ≡ Shared
is-shared Shared is = refl
is-shared Exclusive is = (cc)

pub only_shared_raised : (start : Start) (files : List (List ℕ)) (w : List Deed) (t l : ℕ)
    → IsWorld start files (RawUp t l ∷ w) → (shares t l w ≡ 1) × (raw_mode t l w ≡ Shared)
only_shared_raised start files w t l world =
    let one = (and_parts (eqb (shares t l w) 1) _ world.0.1.0).0 in
    (eqb-true (shares t l w) 1 one, is-shared (raw_mode t l w) world.0.1.1)
