-- Where a thread's own deeds look the same in two worlds, it has the same shares in the same modes,
-- holds the same by the record, and stands at the same stage: so the same may follow.
use Rattle.std.proofs.Common.{◌≡◌, ℕ, ◌<◌, ◌+◌, ◌-◌, Bool, true, false, cond, eqb, nat_lt, List}
use Rattle.std.proofs.Common.{[], ◌∷◌, ◌++◌, map, length, refl, ap, ap₂, sym, ◌∙◌, inl, inr, arith}
use Rattle.std.proofs.lemmas.Bool.{cases_Bool}
use Rattle.std.proofs.lemmas.List.{map-append}
use Rattle.std.proofs.lemmas.List.Elements.{filter-append}
use Rattle.wit_model.specs.declared.locks.Mode.{Mode}
use Rattle.wit_model.specs.declared.locks.Mode.TheVariants.{Shared, Exclusive}
use Rattle.wit_model.specs.declared.calls.Call.{Call}
use Rattle.wit_model.specs.declared.calls.Call.TheVariants.{Unlock}
use Rattle.wit_model.specs.Rules.History.{num, is_held, own_entries}
use Rattle.wit_model.specs.World.Deeds.{Deed, Logged, PassedOver, Take, TryTake, Free, RawUp}
use Rattle.wit_model.specs.World.Deeds.{RawDown, thread_of, own, log_of, shares, mode_after}
use Rattle.wit_model.specs.World.Deeds.{raw_mode, are_these}
use Rattle.wit_model.specs.World.Stages.{Forgot, stage_logged, stage}
use Rattle.wit_model.specs.World.Stages.{deed_follows, may_follow}
use Rattle.wit_model.specs.World.Reordering.{kept}
use Rattle.wit_model.proofs.World.Own.{own-mine, own-other, shares-own, shares-kept, num-own}
use Rattle.wit_model.proofs.World.Own.{num-kept}
use Rattle.wit_model.proofs.World.Moments.{own-logged}

-- t's own deeds look the same in the one and the other
abbrev pub Alike : ℕ → List Deed → List Deed → Type 0
Alike t v w = map kept (own t v) ≡ map kept (own t w)

pub own-append : (t : ℕ) (v first : List Deed) → own t (v ++ first) ≡ own t v ++ own t first
own-append t v first = filter-append (λ d. eqb (thread_of d) t) v first

pub looks-append : (t : ℕ) (v first : List Deed)
    → map kept (own t (v ++ first)) ≡ map kept (own t v) ++ map kept (own t first)
looks-append t v first =
    ap (λ o. map kept o) (own-append t v first) ∙ map-append kept (own t v) (own t first)

pub alike-whole : (t : ℕ) (v w first : List Deed) → Alike t v w → Alike t (v ++ first) (w ++ first)
alike-whole t v w first same =
    looks-append t v first ∙ (ap (λ o. o ++ map kept (own t first)) same
    ∙ sym (looks-append t w first))

-- what depends on a thread's own deeds, as they look, is the same
by-looks : {X : Type 0} (t : ℕ) (f : List Deed → X) → ((w : List Deed) → f (own t w) ≡ f w)
    → ((o : List Deed) → f (map kept o) ≡ f o) → (v w : List Deed) → Alike t v w → f v ≡ f w
by-looks t f mine looks v w same =
    sym (mine v) ∙ (sym (looks (own t v)) ∙ (ap f same ∙ (looks (own t w) ∙ mine w)))

pub shares-alike : (t l : ℕ) (v w : List Deed) → Alike t v w → shares t l v ≡ shares t l w
shares-alike t l v w same =
    by-looks t (λ x. shares t l x) (shares-own t l) (shares-kept t l) v w same

pub num-alike : (t l : ℕ) (v w : List Deed) → Alike t v w
    → num t l (log_of v) ≡ num t l (log_of w)
num-alike t l v w same =
    by-looks t (λ x. num t l (log_of x)) (num-own t l) (num-kept t l) v w same

pub held-alike : (t l : ℕ) (v w : List Deed) → Alike t v w
    → is_held t l (log_of v) ≡ is_held t l (log_of w)
held-alike t l v w same = ap (λ n. nat_lt 0 n) (num-alike t l v w same)

-- ---- modes

mode-other : (t l : ℕ) (d : Deed) (w : List Deed) → eqb (thread_of d) t ≡ false
    → raw_mode t l (d ∷ w) ≡ raw_mode t l w
mode-other t l (Take u m mode) w is = rw is refl
mode-other t l (TryTake u m mode) w is = rw is refl
mode-other t l (PassedOver u c) w is = refl
mode-other t l (Free u m) w is = refl
mode-other t l (Logged e) w is = refl
mode-other t l (RawUp u m) w is = rw is refl
mode-other t l (RawDown u m) w is = rw is refl

pub mode-own : (t l : ℕ) (w : List Deed) → raw_mode t l (own t w) ≡ raw_mode t l w
mode-own t l [] = refl
mode-own t l (d ∷ w) =
    elim (cases_Bool (eqb (thread_of d) t)) [
      | inl is ↦ ap (λ o. raw_mode t l o) (own-mine t d w is)
          ∙ ap (λ m. mode_after t l d m) (mode-own t l w)
      | inr is ↦ ap (λ o. raw_mode t l o) (own-other t d w is)
          ∙ (mode-own t l w ∙ sym (mode-other t l d w is))
    ]

kept-mode : (t l : ℕ) (d : Deed) (old : Mode) → mode_after t l (kept d) old ≡ mode_after t l d old
kept-mode t l (Logged e) old = refl
kept-mode t l (PassedOver u c) old = refl
kept-mode t l (Take u m mode) old = refl
kept-mode t l (TryTake u m mode) old = refl
kept-mode t l (Free u m) old = refl
kept-mode t l (RawUp u m) old = refl
kept-mode t l (RawDown u m) old = refl

pub mode-kept : (t l : ℕ) (o : List Deed) → raw_mode t l (map kept o) ≡ raw_mode t l o
mode-kept t l [] = refl
mode-kept t l (d ∷ o) =
    kept-mode t l d (raw_mode t l (map kept o)) ∙ ap (λ m. mode_after t l d m) (mode-kept t l o)

pub mode-alike : (t l : ℕ) (v w : List Deed) → Alike t v w → raw_mode t l v ≡ raw_mode t l w
mode-alike t l v w same = by-looks t (λ x. raw_mode t l x) (mode-own t l) (mode-kept t l) v w same

-- ---- stages

called-kept : (t : ℕ) (c : Call) (o : List Deed)
    → stage_logged t c (map kept o) ≡ stage_logged t c o
called-kept t (Unlock l mode) o =
    ap₂ (λ a b. Forgot l.0 (nat_lt a b)) (shares-kept t l.0 o) (num-kept t l.0 o)
called-kept t c o = refl

stage-kept : (t : ℕ) (o : List Deed) → stage t (map kept o) ≡ stage t o
stage-kept t [] = refl
stage-kept t (Logged e ∷ o) = called-kept t e.call o
stage-kept t (PassedOver u c ∷ o) = refl
stage-kept t (Take u m mode ∷ o) = refl
stage-kept t (TryTake u m mode ∷ o) = refl
stage-kept t (Free u m ∷ o) = refl
stage-kept t (RawUp u m ∷ o) = refl
stage-kept t (RawDown u m ∷ o) = refl

pub stage-alike : (t : ℕ) (v w : List Deed) → Alike t v w
    → stage t (own t v) ≡ stage t (own t w)
stage-alike t v w same =
    sym (stage-kept t (own t v)) ∙ (ap (λ o. stage t o) same ∙ stage-kept t (own t w))

-- ---- what may follow

pub follow-alike : (d : Deed) (v w : List Deed) → Alike (thread_of d) v w
    → may_follow d v ≡ may_follow d w
follow-alike d v w same =
    let held : ◌≡◌ {A = ℕ → Bool} (λ l. is_held (thread_of d) l (log_of v))
    (λ l. is_held (thread_of d) l (log_of w)) =
    (λ i. λ l. held-alike (thread_of d) l v w same i) in
    ap₂ (λ f s. deed_follows d f s) held (stage-alike (thread_of d) v w same)

-- ---- the log

pub log-append : (v first : List Deed) → log_of (v ++ first) ≡ log_of v ++ log_of first
log-append [] first = refl
log-append (Logged e ∷ v) first = ap (λ h. e ∷ h) (log-append v first)
log-append (PassedOver u c ∷ v) first = log-append v first
log-append (Take u m mode ∷ v) first = log-append v first
log-append (TryTake u m mode ∷ v) first = log-append v first
log-append (Free u m ∷ v) first = log-append v first
log-append (RawUp u m ∷ v) first = log-append v first
log-append (RawDown u m ∷ v) first = log-append v first

entries-kept : (o : List Deed) → length (log_of (map kept o)) ≡ length (log_of o)
entries-kept [] = refl
entries-kept (Logged e ∷ o) = omega (arith, entries-kept o)
entries-kept (PassedOver u c ∷ o) = entries-kept o
entries-kept (Take u m mode ∷ o) = entries-kept o
entries-kept (TryTake u m mode ∷ o) = entries-kept o
entries-kept (Free u m ∷ o) = entries-kept o
entries-kept (RawUp u m ∷ o) = entries-kept o
entries-kept (RawDown u m ∷ o) = entries-kept o

-- it has made as many entries
pub entries-alike : (t : ℕ) (v w : List Deed) → Alike t v w
    → length (own_entries t (log_of v)) ≡ length (own_entries t (log_of w))
entries-alike t v w same =
    ap (λ h. length h) (sym (own-logged t v))
    ∙ (sym (entries-kept (own t v)) ∙ (ap (λ o. length (log_of o)) same
    ∙ (entries-kept (own t w) ∙ ap (λ h. length h) (own-logged t w))))

-- ---- over a first part after which t has nothing

pub shares-over : (t l : ℕ) (v first : List Deed) → shares t l first ≡ 0
    → shares t l (v ++ first) ≡ shares t l v
shares-over t l [] first none = none
shares-over t l (Take u m mode ∷ v) first none =
    ap (λ n. cond (are_these t l u m) (n + 1) n) (shares-over t l v first none)
shares-over t l (TryTake u m mode ∷ v) first none =
    ap (λ n. cond (are_these t l u m) (n + 1) n) (shares-over t l v first none)
shares-over t l (Free u m ∷ v) first none =
    ap (λ n. cond (are_these t l u m) (n - 1) n) (shares-over t l v first none)
shares-over t l (Logged e ∷ v) first none = shares-over t l v first none
shares-over t l (PassedOver u c ∷ v) first none = shares-over t l v first none
shares-over t l (RawUp u m ∷ v) first none = shares-over t l v first none
shares-over t l (RawDown u m ∷ v) first none = shares-over t l v first none

had-before : (b : Bool) (n : ℕ) → 0 < cond b (n - 1) n → 0 < n
had-before true n some = omega arith
had-before false n some = some

got-mode : (b : Bool) (mode x y : Mode) (n : ℕ) → (0 < n → x ≡ y) → 0 < cond b (n + 1) n
    → cond b mode x ≡ cond b mode y
got-mode true mode x y n same some = refl
got-mode false mode x y n same some = same some

-- what it has it has in the mode in which it got it since
pub mode-over : (t l : ℕ) (v first : List Deed) → 0 < shares t l v
    → raw_mode t l (v ++ first) ≡ raw_mode t l v
mode-over t l [] first some = absurd (omega arith)
mode-over t l (Take u m mode ∷ v) first some =
    got-mode (are_these t l u m) mode (raw_mode t l (v ++ first)) (raw_mode t l v) (shares t l v)
    (mode-over t l v first) some
mode-over t l (TryTake u m mode ∷ v) first some =
    got-mode (are_these t l u m) mode (raw_mode t l (v ++ first)) (raw_mode t l v) (shares t l v)
    (mode-over t l v first) some
mode-over t l (Free u m ∷ v) first some =
    mode-over t l v first (had-before (are_these t l u m) (shares t l v) some)
mode-over t l (Logged e ∷ v) first some = mode-over t l v first some
mode-over t l (PassedOver u c ∷ v) first some = mode-over t l v first some
mode-over t l (RawUp u m ∷ v) first some =
    ap (λ x. cond (are_these t l u m) Exclusive x) (mode-over t l v first some)
mode-over t l (RawDown u m ∷ v) first some =
    ap (λ x. cond (are_these t l u m) Shared x) (mode-over t l v first some)
