-- The shares of a lock that a thread is still to record, or to free; and what each deed does to the
-- two numbers.
use Rattle.std.proofs.Common.{◌≡◌, ℕ, ◌+◌, ◌-◌, ◌≤◌, Bool, true, false, cond, eqb, nat_lt, refl, ap}
use Rattle.std.proofs.Common.{sym, ◌∙◌, inl, inr, arith}
use Rattle.std.proofs.lemmas.Bool.{and_parts, eqb-true, ltb-true, false≢true}
use Rattle.std.proofs.lemmas.Bool.Decides.{eqb_tells}
use Rattle.wit_model.specs.declared.locks.LockNo.{LockNo}
use Rattle.wit_model.specs.declared.locks.Mode.{Mode}
use Rattle.wit_model.specs.declared.locks.Site.{Site}
use Rattle.wit_model.specs.declared.calls.Call.TheVariants.{Note, NoteTry, GiveUp, Upgrade}
use Rattle.wit_model.specs.World.Deeds.{Take, Free, RawDown}
use Rattle.wit_model.specs.World.Stages.{Stage, Over, Asked, Taken, Tried, Forgot, Raised, Lowered}
use Rattle.wit_model.specs.World.Stages.{is_over, call_follows, deed_follows, is_same_mode}

abbrev pub due : ℕ → Stage → ℕ
due l (Taken m) = cond (eqb m l) 1 0
due l (Tried m mode) = cond (eqb m l) 1 0
due l (Forgot m has_fewer) = cond (eqb m l) 1 0
due l _ = 0

-- of n recorded acquisitions and s shares
pub record Covers (l n s : ℕ) (g : Stage) : Type 0 where
  pub all : s ≤ n + due l g
  pub at_end : is_over g ≡ true → s ≤ n

-- who isn't to record or free anything has recorded all
pub settled : (l n s : ℕ) (g : Stage) → s ≤ n → due l g ≡ 0 → Covers l n s g
settled l n s g le none = record { all = omega (arith, le, none); at_end = λ over. le }

pub nothing-due : (l n s : ℕ) (g : Stage) → due l g ≡ 0 → Covers l n s g → s ≤ n
nothing-due l n s g none c = let all = c.all in omega arith

module _ (l t m : ℕ) (held : ℕ → Bool) where
  pub due-taking : (mode : Mode) (g : Stage) → deed_follows (Take t m mode) held g
      ≡ true → due l g ≡ 0
  due-taking mode (Asked q) is = refl
  due-taking mode _ is = absurd (false≢true is)

  pub due-freeing : (g : Stage) → deed_follows (Free t m) held g ≡ true
      → due l g ≡ cond (eqb m l) 1 0
  due-freeing (Tried k mode) is = ap (λ j. cond (eqb j l) 1 0) (eqb-true k m is)
  due-freeing (Forgot k has_fewer) is = ap (λ j. cond (eqb j l) 1 0) (eqb-true k m is)
  due-freeing _ is = absurd (false≢true is)

  pub due-lowering : (g : Stage) → deed_follows (RawDown t m) held g ≡ true → due l g ≡ 0
  due-lowering (Raised k) is = refl
  due-lowering (Lowered k passed) is = refl
  due-lowering _ is = absurd (false≢true is)

module _ (l : ℕ) (m : LockNo) (held : ℕ → Bool) where
  pub due-noting : (g : Stage) → call_follows (Note m) held g ≡ true
      → due l g ≤ cond (eqb m.0 l) 1 0
  due-noting (Taken k) is =
      let same : due l (Taken k) ≡ cond (eqb m.0 l) 1 0 =
      ap (λ j. cond (eqb j l) 1 0) (eqb-true k m.0 is) in
      omega arith
  due-noting (Asked q) is = omega arith
  due-noting Over is = absurd (false≢true is)
  due-noting (Tried k mode) is = absurd (false≢true is)
  due-noting (Forgot k has_fewer) is = absurd (false≢true is)
  due-noting (Raised k) is = absurd (false≢true is)
  due-noting (Lowered k passed) is = absurd (false≢true is)

  pub due-trying : (mode : Mode) (site : Site) (g : Stage)
      → call_follows (NoteTry m mode site) held g ≡ true → due l g ≤ cond (eqb m.0 l) 1 0
  due-trying mode site (Tried k tried) is =
      let same : due l (Tried k tried) ≡ cond (eqb m.0 l) 1 0
      = ap (λ j. cond (eqb j l) 1 0)
      (eqb-true k m.0 (and_parts (eqb k m.0) (is_same_mode tried mode) is).0) in
      omega arith
  due-trying mode site _ is = absurd (false≢true is)

  pub due-upgrading : (g : Stage) → call_follows (Upgrade m) held g ≡ true → due l g ≡ 0
  due-upgrading (Raised k) is = refl
  due-upgrading _ is = absurd (false≢true is)

  pub due-giving_up : (g : Stage) → call_follows (GiveUp m) held g ≡ true → due l g ≡ 0
  due-giving_up (Asked q) is = refl
  due-giving_up _ is = absurd (false≢true is)

-- ---- what each deed does to the two numbers

pub noted : (b : Bool) (n s d : ℕ) → s ≤ n + d → d ≤ cond b 1 0 → s ≤ cond b (n + 1) n
noted true n s d le few = omega arith
noted false n s d le few = omega arith

pub freed : (b : Bool) (n s d : ℕ) → s ≤ n + d → d ≡ cond b 1 0 → cond b (s - 1) s ≤ n
freed true n s d le few = omega arith
freed false n s d le few = omega arith

pub got : (b : Bool) (n s : ℕ) → s ≤ n → cond b (s + 1) s ≤ n + cond b 1 0
got true n s le = omega arith
got false n s le = omega arith

pub let_go : (b : Bool) (n s : ℕ) → s ≤ n → s ≤ cond b (n - 1) n + cond b 1 0
let_go true n s le = omega arith
let_go false n s le = omega arith

pub fewer : (l m n s : ℕ) (has_fewer : Bool) → (m ≡ l → has_fewer ≡ nat_lt s n) → s ≤ n
    → has_fewer ≡ true → s ≤ cond (eqb m l) (n - 1) n
fewer l m n s has_fewer is le less =
    elim (eqb_tells m l) [
      | inl here ↦ let lt = ltb-true s n (sym (is here.1) ∙ less) in rw here.0 (omega arith)
      | inr there ↦ rw there.0 le
    ]
