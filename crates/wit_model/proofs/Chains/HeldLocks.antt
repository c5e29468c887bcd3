-- What an entry leaves of the place, mode, mark and site of a lock.
use Rattle.std.proofs.Common.{◌≡◌, ℕ, ◌+◌, ◌-◌, ◌<◌, Bool, true, false, not, ◌&&◌, cond, eqb}
use Rattle.std.proofs.Common.{nat_lt, List, [], ◌∷◌, length, refl, ap, sym, ◌∙◌, arith}
use Rattle.std.proofs.lemmas.Bool.{ltb-true, ltb-false, lt-ltb, le-ltb, eq-eqb, false≢true}
use Rattle.wit_model.specs.declared.locks.Mode.{Mode}
use Rattle.wit_model.specs.declared.locks.Site.{Site}
use Rattle.wit_model.specs.declared.locks.Instance.{Instance}
use Rattle.wit_model.specs.declared.calls.Entry.{Entry}
use Rattle.wit_model.specs.Rules.History.{Act, Nothing, Records, Releases, Turns, Marks, act_by}
use Rattle.wit_model.specs.Rules.History.{is_record, num, is_held, rises, place, mode, mark, site}
use Rattle.wit_model.specs.Rules.History.{pending, asked_mode, asked_site, turned_by, marked_by}
use Rattle.wit_model.specs.Rules.History.{instance}
use Rattle.wit_model.proofs.Chains.Sane.{IsSane}
use Rattle.wit_model.proofs.Chains.Acts.{num_after, num-step, num-nil}

pub held-from : (t l : ℕ) (h : List Entry) → 0 < num t l h → is_held t l h ≡ true
held-from t l h some = lt-ltb 0 (num t l h) some

pub held-not : (t l : ℕ) (h : List Entry) → num t l h ≡ 0 → is_held t l h ≡ false
held-not t l h none = le-ltb 0 (num t l h) (omega arith)

pub num-of_held : (t l : ℕ) (h : List Entry) → is_held t l h ≡ true → 0 < num t l h
num-of_held t l h is = ltb-true 0 (num t l h) is

pub num-of_free : (t l : ℕ) (h : List Entry) → is_held t l h ≡ false → num t l h ≡ 0
num-of_free t l h is = let few = ltb-false 0 (num t l h) is in omega arith

pub rises-not : (t l : ℕ) (x : Entry) (h : List Entry) → is_held t l h ≡ is_held t l (x ∷ h)
    → rises t l x h ≡ false
rises-not t l x h same = rw (← same) (alone (is_held t l h))
  where
    alone : (b : Bool) → (not b && b) ≡ false
    alone true = refl
    alone false = refl

pub rises-held : (t l : ℕ) (x : Entry) (h : List Entry) → is_held t l h ≡ true
    → rises t l x h ≡ false
rises-held t l x h is = rw is refl

pub rises-new : (t l : ℕ) (x : Entry) (h : List Entry) → is_held t l h ≡ false
    → is_held t l (x ∷ h) ≡ true → rises t l x h ≡ true
rises-new t l x h was is = rw (was, is) refl

pub place-stays : (t l : ℕ) (x : Entry) (h : List Entry) → rises t l x h ≡ false
    → place t l (x ∷ h) ≡ place t l h
unfolding place
place-stays t l x h is = rw is refl

pub place-new : (t l : ℕ) (x : Entry) (h : List Entry) → rises t l x h ≡ true
    → place t l (x ∷ h) ≡ length h
unfolding place
place-new t l x h is = rw is refl

pub mode-stays : (t l : ℕ) (x : Entry) (h : List Entry) → rises t l x h ≡ false
    → mode t l (x ∷ h) ≡ turned_by l (act_by t x) (mode t l h)
unfolding mode
mode-stays t l x h is = rw is refl

pub mode-new : (t l : ℕ) (x : Entry) (h : List Entry) → rises t l x h ≡ true
    → mode t l (x ∷ h) ≡ asked_mode x.call (pending t h)
unfolding mode
mode-new t l x h is = rw is refl

pub mark-stays : (t l : ℕ) (x : Entry) (h : List Entry) → rises t l x h ≡ false
    → mark t l (x ∷ h) ≡ marked_by l (act_by t x) (mark t l h)
unfolding mark
mark-stays t l x h is = rw is refl

pub mark-new : (t l : ℕ) (x : Entry) (h : List Entry) → rises t l x h ≡ true
    → mark t l (x ∷ h) ≡ false
unfolding mark
mark-new t l x h is = rw is refl

pub site-step : (t l : ℕ) (x : Entry) (h : List Entry) → site t l (x ∷ h)
    ≡ cond (is_record l (act_by t x)) (asked_site x.call (pending t h)) (site t l h)
unfolding site
site-step t l x h = refl

-- a held lock, after an act upon it
abbrev pub changed : Act → Site → Instance → Instance
changed (Records m) s i = record i { count = i.count + 1; site = s }
changed (Releases m) s i = record i { count = i.count - 1 }
changed (Turns m new) s i = record i { mode = new }
changed (Marks m new) s i = record i { norelease = new }
changed Nothing s i = i

-- the lock that an act is about; 0 where it is about none
abbrev pub subject : Act → ℕ
subject (Records m) = m
subject (Releases m) = m
subject (Turns m new) = m
subject (Marks m new) = m
subject Nothing = 0

-- a lock that is new in a chain
abbrev pub taken : ℕ → Mode → Site → Instance
taken l m s = record { lock = record { 0 = l }; mode = m; norelease = false; count = 0; site = s }

make : ℕ → Mode → Bool → ℕ → Site → Instance
make l m b n s = record { lock = record { 0 = l }; mode = m; norelease = b; count = n; site = s }

instance_is : (t : ℕ) (h : List Entry) (l : ℕ) (m : Mode) (b : Bool) (n : ℕ) (s : Site)
    → mode t l h ≡ m → mark t l h ≡ b → num t l h - 1 ≡ n → site t l h ≡ s
    → instance t h l ≡ make l m b n s
unfolding make
instance_is t h l m b n s em eb en es = rw (em, eb, en, es) refl

same-when_apart : (a : Act) (l n : ℕ) (m : Mode) (b : Bool) (s s' : Site)
    → eqb (subject a) l ≡ false
    → (num_after a l n ≡ n) × (turned_by l a m ≡ m) × (marked_by l a b ≡ b)
    × (cond (is_record l a) s' s ≡ s)
same-when_apart Nothing l n m b s s' apart = (refl, refl, refl, refl)
same-when_apart (Records k) l n m b s s' apart = (rw apart refl, refl, refl, rw apart refl)
same-when_apart (Releases k) l n m b s s' apart = (rw apart refl, refl, refl, refl)
same-when_apart (Turns k new) l n m b s s' apart = (refl, rw apart refl, refl, refl)
same-when_apart (Marks k new) l n m b s s' apart = (refl, refl, rw apart refl, refl)

-- an act leaves the other locks
pub num-apart : (t l : ℕ) (x : Entry) (h : List Entry) → eqb (subject (act_by t x)) l ≡ false
    → IsSane h → num t l (x ∷ h) ≡ num t l h
num-apart t l x h apart sane =
    num-step t l x h (act_by t x) refl sane
    ∙ (same-when_apart (act_by t x) l (num t l h) (mode t l h) (mark t l h) (site t l h)
    (site t l h) apart).0

pub held-apart : (t l : ℕ) (x : Entry) (h : List Entry) → eqb (subject (act_by t x)) l ≡ false
    → IsSane h → is_held t l (x ∷ h) ≡ is_held t l h
held-apart t l x h apart sane = ap (λ n. nat_lt 0 n) (num-apart t l x h apart sane)

pub instance-apart : (t l : ℕ) (x : Entry) (h : List Entry) → eqb (subject (act_by t x)) l ≡ false
    → IsSane h → instance t (x ∷ h) l ≡ instance t h l
unfolding make
instance-apart t l x h apart sane =
    let no_rise = rises-not t l x h (sym (held-apart t l x h apart sane)) in
    let same =
    same-when_apart (act_by t x) l (num t l h) (mode t l h) (mark t l h) (site t l h)
    (asked_site x.call (pending t h)) apart in
    instance_is t (x ∷ h) l (mode t l h) (mark t l h) (num t l h - 1) (site t l h)
    (mode-stays t l x h no_rise ∙ same.1) (mark-stays t l x h no_rise ∙ same.2)
    (ap (λ n. n - 1) (num-apart t l x h apart sane)) (site-step t l x h ∙ same.3)

same-when_here : (a : Act) (t l n : ℕ) (m : Mode) (b : Bool) (s s' : Site)
    → eqb (subject a) l ≡ true → 0 < l → 0 < n
    → make l (turned_by l a m) (marked_by l a b) (num_after a l n - 1) (cond (is_record l a) s' s)
    ≡ changed a s' (make l m b (n - 1) s)
unfolding make
same-when_here Nothing t l n m b s s' here some up = refl
same-when_here (Records k) t l n m b s s' here some up =
    rw here (ap (λ j. make l m b j s') (let e : n + 1 - 1 ≡ n - 1 + 1 = omega arith in e))
same-when_here (Releases k) t l n m b s s' here some up = rw here refl
same-when_here (Turns k new) t l n m b s s' here some up = rw here refl
same-when_here (Marks k new) t l n m b s s' here some up = rw here refl

-- a lock that was held before, after an act upon it
pub instance-here : (t l : ℕ) (x : Entry) (h : List Entry) → eqb (subject (act_by t x)) l ≡ true
    → 0 < l → is_held t l h ≡ true → IsSane h
    → instance t (x ∷ h) l ≡ changed (act_by t x) (asked_site x.call (pending t h)) (instance t h l)
unfolding make
instance-here t l x h here some was sane =
    let no_rise = rises-held t l x h was in
    instance_is t (x ∷ h) l (turned_by l (act_by t x) (mode t l h))
    (marked_by l (act_by t x) (mark t l h)) (num_after (act_by t x) l (num t l h) - 1)
    (cond (is_record l (act_by t x)) (asked_site x.call (pending t h)) (site t l h))
    (mode-stays t l x h no_rise) (mark-stays t l x h no_rise)
    (ap (λ n. n - 1) (num-step t l x h (act_by t x) refl sane)) (site-step t l x h)
    ∙ same-when_here (act_by t x) t l (num t l h) (mode t l h) (mark t l h) (site t l h)
    (asked_site x.call (pending t h)) here some (num-of_held t l h was)

-- a lock that is new
pub instance-new : (t m : ℕ) (x : Entry) (h : List Entry) → act_by t x ≡ Records m
    → is_held t m h ≡ false → IsSane h
    → instance t (x ∷ h) m ≡ taken m (asked_mode x.call (pending t h))
    (asked_site x.call (pending t h))
unfolding make
instance-new t m x h is was sane =
    let one : num t m (x ∷ h) ≡ 0 + 1
    = num-step t m x h (Records m) is sane
    ∙ (rw (eq-eqb m m refl) (ap (λ n. n + 1) (num-of_free t m h was))) in
    let rise = rises-new t m x h was (held-from t m (x ∷ h) (omega arith)) in
    instance_is t (x ∷ h) m (asked_mode x.call (pending t h)) false 0
    (asked_site x.call (pending t h))
    (mode-new t m x h rise) (mark-new t m x h rise) (omega arith)
    (site-step t m x h ∙ rw (is, eq-eqb m m refl) refl)

place-below_by : (t l : ℕ) (x : Entry) (h : List Entry) → is_held t l (x ∷ h) ≡ true
    → (is_held t l h ≡ true → place t l h < length h) → place t l (x ∷ h) < length (x ∷ h)
place-below_by t l x h is before = go (is_held t l h) refl
  where
    go : (b : Bool) → is_held t l h ≡ b → place t l (x ∷ h) < length (x ∷ h)
    go true was = let e = place-stays t l x h (rises-held t l x h was) in let lt =
        before was in omega arith
    go false was = let e = place-new t l x h (rises-new t l x h was is) in omega arith

-- the place of a held lock is one of its history's
pub place-below : (t l : ℕ) (h : List Entry) → is_held t l h ≡ true → place t l h < length h
place-below t l [] is = absurd (false≢true (sym (held-not t l [] (num-nil t l)) ∙ is))
place-below t l (x ∷ h) is = place-below_by t l x h is (place-below t l h)
