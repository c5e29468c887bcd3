-- Of a lock that a thread holds by the record it has a share, in the mode that is recorded: what
-- each deed leaves of that.
use Rattle.std.proofs.Common.{◌≡◌, ℕ, ◌<◌, Bool, true, false, cond, eqb, nat_lt, List, ◌∷◌, refl}
use Rattle.std.proofs.Common.{ap, sym, ◌∙◌, subst, arith}
use Rattle.std.proofs.lemmas.Bool.{eq-eqb, false≢true, true≢false}
use Rattle.wit_model.specs.declared.locks.LockNo.{LockNo}
use Rattle.wit_model.specs.declared.locks.Mode.{Mode}
use Rattle.wit_model.specs.declared.calls.Call.{Call}
use Rattle.wit_model.specs.declared.calls.Call.TheVariants.{NoRelease, ReleaseOk}
use Rattle.wit_model.specs.declared.calls.Reply.{Reply}
use Rattle.wit_model.specs.declared.calls.Reply.TheVariants.{Done}
use Rattle.wit_model.specs.declared.calls.Entry.{Entry}
use Rattle.wit_model.specs.Rules.History.{Act, Nothing, Records, Releases, Turns, Marks, act}
use Rattle.wit_model.specs.Rules.History.{act_by, num, pending, asked_mode, turned_by, mode}
use Rattle.wit_model.specs.Rules.Step.{is_logged}
use Rattle.wit_model.specs.World.Deeds.{Deed, Logged, PassedOver, Take, TryTake, Free, RawUp}
use Rattle.wit_model.specs.World.Deeds.{RawDown, thread_of, log_of, are_these, shares, raw_mode}
use Rattle.wit_model.specs.World.Shown.{deed_called}
use Rattle.wit_model.proofs.Chains.Sane.{IsSane}
use Rattle.wit_model.proofs.Chains.Acts.{num_after, num-step}
use Rattle.wit_model.proofs.Chains.HeldLocks.{held-not, held-from, rises-not, rises-held, rises-new}
use Rattle.wit_model.proofs.Chains.HeldLocks.{mode-stays, mode-new, subject}

-- t has a share of l if it holds it by the record, in that mode
abbrev pub IsBacked : ℕ → ℕ → List Deed → Type 0
IsBacked t l w =
    0 < num t l (log_of w) → (0 < shares t l w) × (raw_mode t l w ≡ mode t l (log_of w))

-- ---- steps of a lock

abbrev pub deed_lock : Deed → ℕ
deed_lock (Take t l m) = l
deed_lock (TryTake t l m) = l
deed_lock (Free t l) = l
deed_lock (RawUp t l) = l
deed_lock (RawDown t l) = l
deed_lock _ = 0

abbrev pub is_raw : Deed → Bool
is_raw (Logged e) = false
is_raw (PassedOver t call) = false
is_raw _ = true

-- a step isn't logged
pub raw-log : (d : Deed) (w : List Deed) → is_raw d ≡ true → log_of (d ∷ w) ≡ log_of w
raw-log (Logged e) w raw = absurd (false≢true raw)
raw-log (PassedOver t call) w raw = refl
raw-log (Take t l m) w raw = refl
raw-log (TryTake t l m) w raw = refl
raw-log (Free t l) w raw = refl
raw-log (RawUp t l) w raw = refl
raw-log (RawDown t l) w raw = refl

-- it leaves other threads and other locks
pub raw-elsewhere : (u k : ℕ) (d : Deed) (w : List Deed) → is_raw d ≡ true
    → are_these u k (thread_of d) (deed_lock d) ≡ false
    → IsBacked u k w → IsBacked u k (d ∷ w)
raw-elsewhere u k (Logged e) w raw other was = absurd (false≢true raw)
raw-elsewhere u k (PassedOver t call) w raw other was = was
raw-elsewhere u k (Take t l m) w raw other was = rw other was
raw-elsewhere u k (TryTake t l m) w raw other was = rw other was
raw-elsewhere u k (Free t l) w raw other was = rw other was
raw-elsewhere u k (RawUp t l) w raw other was = rw other was
raw-elsewhere u k (RawDown t l) w raw other was = rw other was

pub these-mine : (t l : ℕ) → are_these t l t l ≡ true
these-mine t l = rw (eq-eqb t t refl, eq-eqb l l refl) refl

-- ---- calls

-- an act that neither turns this lock nor records or releases it
abbrev pub IsApart : Act → ℕ → Type 0
IsApart a l = ((n : ℕ) → num_after a l n ≡ n) × ((m : Mode) → turned_by l a m ≡ m)

pub apart-nothing : (l : ℕ) → IsApart Nothing l
apart-nothing l = (λ n. refl, λ m. refl)

pub apart-other : (a : Act) (l : ℕ) → eqb (subject a) l ≡ false → IsApart a l
apart-other Nothing l other = apart-nothing l
apart-other (Records m) l other = (λ n. rw other refl, λ m. refl)
apart-other (Releases m) l other = (λ n. rw other refl, λ m. refl)
apart-other (Turns m mode) l other = (λ n. refl, λ m. rw other refl)
apart-other (Marks m mark) l other = (λ n. refl, λ m. refl)

pub apart-norelease : (m : LockNo) (r : Reply) (l : ℕ) → IsApart (act (NoRelease m) r) l
apart-norelease m Done l = (λ n. refl, λ m. refl)
apart-norelease m r l = apart-nothing l

pub apart-releaseok : (m : LockNo) (r : Reply) (l : ℕ) → IsApart (act (ReleaseOk m) r) l
apart-releaseok m Done l = (λ n. refl, λ m. refl)
apart-releaseok m r l = apart-nothing l

-- an entry that leaves a lock's record
entry-apart : (t l : ℕ) (e : Entry) (w : List Deed) → IsSane (log_of w) → IsApart (act_by t e) l
    → IsBacked t l w → IsBacked t l (Logged e ∷ w)
entry-apart t l e w sane apart was = λ some.
    let same = num-step t l e (log_of w) (act_by t e) refl sane ∙ apart.0 (num t l (log_of w)) in
    let kept =
    mode-stays t l e (log_of w) (rises-not t l e (log_of w) (sym (ap (λ n. nat_lt 0 n) same)))
    ∙ apart.1 (mode t l (log_of w)) in
    let before = was (subst (λ n. 0 < n) same some) in
    (before.0, before.1 ∙ sym kept)

-- an entry by which a held lock keeps its mode
entry-held : (t l : ℕ) (e : Entry) (w : List Deed) → 0 < num t l (log_of w)
    → turned_by l (act_by t e) (mode t l (log_of w)) ≡ raw_mode t l w
    → 0 < shares t l w → IsBacked t l (Logged e ∷ w)
entry-held t l e w held turns share = λ some. (
  share,
  sym (mode-stays t l e (log_of w)
      (rises-held t l e (log_of w) (held-from t l (log_of w) held)) ∙ turns),
)

-- an entry by which a lock that isn't held comes to be
entry-new : (t l : ℕ) (e : Entry) (w : List Deed) → num t l (log_of w) ≡ 0
    → raw_mode t l w ≡ asked_mode e.call (pending t (log_of w))
    → 0 < shares t l w → IsBacked t l (Logged e ∷ w)
entry-new t l e w none modes share = λ some. (
  share,
  modes ∙ sym (mode-new t l e (log_of w)
      (rises-new t l e (log_of w) (held-not t l (log_of w) none)
      (held-from t l (e ∷ log_of w) some))),
)

module _ (t : ℕ) (call : Call) (r : Reply) where
  abbrev entry : Entry
  entry = record { seat = record { 0 = t }; call = call; reply = r }

  abbrev called : Bool → Deed
  called b = cond b (Logged entry) (PassedOver t call)

  pub call-apart : (u l : ℕ) (w : List Deed) → IsSane (log_of w)
      → (is_logged r ≡ true → IsApart (act_by u entry) l) → IsBacked u l w
      → IsBacked u l (deed_called t call r ∷ w)
  call-apart u l w sane apart was = go (is_logged r) refl
    where
      go : (b : Bool) → is_logged r ≡ b → IsBacked u l (called b ∷ w)
      go true is = entry-apart u l entry w sane (apart is) was
      go false is = was

  act-mine : act_by t entry ≡ act call r
  act-mine = rw (eq-eqb t t refl) refl

  pub call-held : (l : ℕ) (w : List Deed) → 0 < num t l (log_of w)
      → (is_logged r ≡ true → turned_by l (act call r) (mode t l (log_of w)) ≡ raw_mode t l w)
      → (is_logged r ≡ false → raw_mode t l w ≡ mode t l (log_of w)) → 0 < shares t l w
      → IsBacked t l (deed_called t call r ∷ w)
  call-held l w held turns passed share = go (is_logged r) refl
    where
      go : (b : Bool) → is_logged r ≡ b → IsBacked t l (called b ∷ w)
      go true is =
          entry-held t l entry w held (ap (λ a. turned_by l a (mode t l (log_of w))) act-mine
          ∙ turns is) share
      go false is = λ some. (share, passed is)

  pub call-new : (l : ℕ) (w : List Deed) → num t l (log_of w) ≡ 0
      → raw_mode t l w ≡ asked_mode call (pending t (log_of w))
      → 0 < shares t l w → IsBacked t l (deed_called t call r ∷ w)
  call-new l w none modes share = go (is_logged r)
    where
      go : (b : Bool) → IsBacked t l (called b ∷ w)
      go true = entry-new t l entry w none modes share
      go false = λ some. absurd (omega (arith, none, some))

  -- a call that is passed over, of a lock that isn't held
  pub call-none : (l : ℕ) (w : List Deed) → is_logged r ≡ false → num t l (log_of w) ≡ 0
      → IsBacked t l (deed_called t call r ∷ w)
  call-none l w passed none = go (is_logged r) passed
    where
      go : (b : Bool) → b ≡ false → IsBacked t l (called b ∷ w)
      go true is = absurd (true≢false is)
      go false is = λ some. absurd (omega (arith, none, some))
