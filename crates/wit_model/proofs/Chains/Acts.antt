-- How many acquisitions an entry leaves.
use Rattle.std.proofs.Common.{◌≡◌, ℕ, ◌+◌, ◌-◌, ◌<◌, ◌≤◌, Bool, true, false, cond, eqb, List, []}
use Rattle.std.proofs.Common.{◌∷◌, count_by, refl, ap, ◌∙◌, subst, inl, inr, arith}
use Rattle.std.proofs.lemmas.Bool.{false≢true}
use Rattle.std.proofs.lemmas.Bool.Decides.{eqb_tells}
use Rattle.std.proofs.lemmas.List.Sums.{sum_by-cons}
use Rattle.wit_model.specs.declared.locks.LockNo.{LockNo}
use Rattle.wit_model.specs.declared.calls.Call.TheVariants.{Upgrade, Downgrade, NoRelease}
use Rattle.wit_model.specs.declared.calls.Call.TheVariants.{ReleaseOk}
use Rattle.wit_model.specs.declared.calls.Reply.{Reply}
use Rattle.wit_model.specs.declared.calls.Reply.TheVariants.{Done}
use Rattle.wit_model.specs.declared.calls.Entry.{Entry}
use Rattle.wit_model.specs.Rules.History.{Act, Nothing, Records, Releases, Turns, Marks, act}
use Rattle.wit_model.specs.Rules.History.{act_by, is_record, is_release, records, releases, num}
use Rattle.wit_model.proofs.Chains.Sane.{IsFit, IsSane, fit_by}

recorded-cons : (t l : ℕ) (x : Entry) (h : List Entry) (a : Act) → act_by t x ≡ a
    → count_by (records t l) (x ∷ h) ≡ cond (is_record l a) 1 0 + count_by (records t l) h
recorded-cons t l x h a is =
    sum_by-cons (λ (e : Entry). cond (records t l e) 1 0) x h
    ∙ ap (λ b. cond (is_record l b) 1 0 + count_by (records t l) h) is

released-cons : (t l : ℕ) (x : Entry) (h : List Entry) (a : Act) → act_by t x ≡ a
    → count_by (releases t l) (x ∷ h) ≡ cond (is_release l a) 1 0 + count_by (releases t l) h
released-cons t l x h a is =
    sum_by-cons (λ (e : Entry). cond (releases t l e) 1 0) x h
    ∙ ap (λ b. cond (is_release l b) 1 0 + count_by (releases t l) h) is

-- the acquisitions of l after an act, of n before it
abbrev pub num_after : Act → ℕ → ℕ → ℕ
num_after (Records m) l n = cond (eqb m l) (n + 1) n
num_after (Releases m) l n = cond (eqb m l) (n - 1) n
num_after _ l n = n

abbrev IsCovered : ℕ → ℕ → List Entry → Type 0
IsCovered t l h = count_by (releases t l) h ≤ count_by (records t l) h

le_more : (t l : ℕ) (x : Entry) (h : List Entry) (a : Act) → act_by t x ≡ a → IsFit a t h
    → IsCovered t l h → IsCovered t l (x ∷ h)
unfolding num
le_more t l x h Nothing is fit le =
    omega (arith, recorded-cons t l x h Nothing is, released-cons t l x h Nothing is)
le_more t l x h (Records m) is fit le =
    omega (arith, recorded-cons t l x h (Records m) is, released-cons t l x h (Records m) is)
le_more t l x h (Releases m) is fit le =
    elim (eqb_tells m l) [
      | inl e ↦
          let r = recorded-cons t l x h (Releases m) is in
          let s : count_by (releases t l) (x ∷ h) ≡ 1 + count_by (releases t l) h
          = released-cons t l x h (Releases m) is
          ∙ ap (λ b. cond b 1 0 + count_by (releases t l) h) e.0 in
          let here : 0 < num t l h = subst (λ k. 0 < num t k h) e.1 fit in
          omega arith
      | inr e ↦
          let r = recorded-cons t l x h (Releases m) is in
          let s : count_by (releases t l) (x ∷ h) ≡ 0 + count_by (releases t l) h
          = released-cons t l x h (Releases m) is
          ∙ ap (λ b. cond b 1 0 + count_by (releases t l) h) e.0 in
          omega arith
    ]
le_more t l x h (Turns m mode) is fit le =
    omega (arith, recorded-cons t l x h (Turns m mode) is, released-cons t l x h (Turns m mode) is)
le_more t l x h (Marks m mark) is fit le =
    omega (arith, recorded-cons t l x h (Marks m mark) is, released-cons t l x h (Marks m mark) is)

-- never more releases than acquisitions
pub le_sane : (t l : ℕ) (h : List Entry) → IsSane h
    → count_by (releases t l) h ≤ count_by (records t l) h
le_sane t l [] sane = omega arith
le_sane t l (x ∷ h) sane =
    le_more t l x h (act_by t x) refl (fit_by t x h sane) (le_sane t l h sane.1)

num-quiet : (t l : ℕ) (x : Entry) (h : List Entry) (a : Act) → act_by t x ≡ a
    → is_record l a ≡ false → is_release l a ≡ false → num t l (x ∷ h) ≡ num t l h
unfolding num
num-quiet t l x h a is no_record no_release =
    let r : count_by (records t l) (x ∷ h) ≡ 0 + count_by (records t l) h
    = recorded-cons t l x h a is ∙ ap (λ b. cond b 1 0 + count_by (records t l) h) no_record in
    let s : count_by (releases t l) (x ∷ h) ≡ 0 + count_by (releases t l) h
    = released-cons t l x h a is ∙ ap (λ b. cond b 1 0 + count_by (releases t l) h) no_release in
    omega arith

num-record : (t l : ℕ) (x : Entry) (h : List Entry) (m : ℕ) → act_by t x ≡ Records m
    → eqb m l ≡ true → IsSane h → num t l (x ∷ h) ≡ num t l h + 1
unfolding num
num-record t l x h m is here sane =
    let r : count_by (records t l) (x ∷ h) ≡ 1 + count_by (records t l) h
    = recorded-cons t l x h (Records m) is ∙ ap (λ b. cond b 1 0 + count_by (records t l) h) here in
    let s = released-cons t l x h (Records m) is in
    let le = le_sane t l h sane in
    omega arith

num-release : (t l : ℕ) (x : Entry) (h : List Entry) (m : ℕ) → act_by t x ≡ Releases m
    → eqb m l ≡ true → num t l (x ∷ h) ≡ num t l h - 1
unfolding num
num-release t l x h m is here =
    let r = recorded-cons t l x h (Releases m) is in
    let s : count_by (releases t l) (x ∷ h) ≡ 1 + count_by (releases t l) h
    = released-cons t l x h (Releases m) is
    ∙ ap (λ b. cond b 1 0 + count_by (releases t l) h) here in
    omega arith

-- what an entry leaves of the acquisitions
pub num-step : (t l : ℕ) (x : Entry) (h : List Entry) (a : Act) → act_by t x ≡ a → IsSane h
    → num t l (x ∷ h) ≡ num_after a l (num t l h)
num-step t l x h Nothing is sane = num-quiet t l x h Nothing is refl refl
num-step t l x h (Turns m mode) is sane = num-quiet t l x h (Turns m mode) is refl refl
num-step t l x h (Marks m mark) is sane = num-quiet t l x h (Marks m mark) is refl refl
num-step t l x h (Records m) is sane =
    elim (eqb_tells m l) [
      | inl e ↦ rw e.0 (num-record t l x h m is e.0 sane)
      | inr e ↦ rw e.0
          (num-quiet t l x h (Records m) is e.0 refl)
    ]
num-step t l x h (Releases m) is sane =
    elim (eqb_tells m l) [
      | inl e ↦ rw e.0 (num-release t l x h m is e.0)
      | inr e ↦ rw e.0
          (num-quiet t l x h (Releases m) is refl e.0)
    ]

pub num-nil : (t l : ℕ) → num t l [] ≡ 0
unfolding num
num-nil t l = refl

-- an act that leaves all acquisitions
abbrev pub is_even : Act → Bool
is_even (Records l) = false
is_even (Releases l) = false
is_even _ = true

pub num_after-even : (a : Act) (l n : ℕ) → is_even a ≡ true → num_after a l n ≡ n
num_after-even Nothing l n even = refl
num_after-even (Turns m new) l n even = refl
num_after-even (Marks m new) l n even = refl
num_after-even a l n even = absurd (false≢true even)

pub fit-even : (a : Act) (t : ℕ) (h : List Entry) → is_even a ≡ true → IsFit a t h
fit-even Nothing t h even = tt
fit-even (Turns m new) t h even = tt
fit-even (Marks m new) t h even = tt
fit-even a t h even = absurd (false≢true even)

-- calls that turn or mark a lock leave them, whatever they are answered
pub upgrade-even : (l : LockNo) (r : Reply) → is_even (act (Upgrade l) r) ≡ true
upgrade-even l Done = refl
upgrade-even l r = refl

pub downgrade-even : (l : LockNo) (r : Reply) → is_even (act (Downgrade l) r) ≡ true
downgrade-even l Done = refl
downgrade-even l r = refl

pub norelease-even : (l : LockNo) (r : Reply) → is_even (act (NoRelease l) r) ≡ true
norelease-even l Done = refl
norelease-even l r = refl

pub releaseok-even : (l : LockNo) (r : Reply) → is_even (act (ReleaseOk l) r) ≡ true
releaseok-even l Done = refl
releaseok-even l r = refl
