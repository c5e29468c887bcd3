-- Which locks a seat holds after an entry: as before, one more, or one fewer.
use Rattle.std.proofs.Common.{◌≡◌, ℕ, ◌+◌, ◌<◌, ◌≤◌, Bool, true, false, not, ◌&&◌, cond, eqb}
use Rattle.std.proofs.Common.{nat_lt, List, [], ◌∷◌, ◌++◌, length, filter, refl, ap, ap₂, sym, ◌∙◌}
use Rattle.std.proofs.Common.{subst, inl, inr, arith, append-nil}
use Rattle.std.proofs.lemmas.Bool.{eq-eqb, ne_eqb}
use Rattle.std.proofs.lemmas.Bool.Decides.{eqb_tells}
use Rattle.std.proofs.lemmas.List.Elements.{filter-append}
use Rattle.wit_model.specs.declared.calls.Entry.{Entry}
use Rattle.wit_model.specs.Rules.History.{Act, Nothing, Records, Releases, Turns, Marks, act_by}
use Rattle.wit_model.specs.Rules.History.{num, is_held, place, recorded_at, held_among, held}
use Rattle.wit_model.proofs.Chains.Sane.{IsFit, IsSane, fit_by}
use Rattle.wit_model.proofs.Chains.Acts.{num-step}
use Rattle.wit_model.proofs.Chains.HeldLocks.{subject, held-from, held-apart, place-stays}
use Rattle.wit_model.proofs.Chains.HeldLocks.{place-new, place-below, rises-new}

abbrev pub is_not : ℕ → ℕ → Bool
is_not m l = not (eqb l m)

-- a place at or past the end of the history is no lock's
held_at-late : (t : ℕ) (h : List Entry) (a : Act) (i : ℕ) → length h ≤ i → recorded_at t h a i ≡ []
held_at-late t h Nothing i late = refl
held_at-late t h (Records l) i late = go (is_held t l h) refl
  where
    go : (b : Bool) → is_held t l h ≡ b → recorded_at t h (Records l) i ≡ []
    go true is = let lt =
        place-below t l h is in rw (
          is,
          ne_eqb (place t l h) i
              (λ (e : place t l h ≡ i). let no : ⊥ = omega arith in no),
        ) refl
    go false is = rw is refl
held_at-late t h (Releases l) i late = refl
held_at-late t h (Turns l new) i late = refl
held_at-late t h (Marks l new) i late = refl

abbrev StaysHeld : ℕ → Entry → List Entry → Type 0
StaysHeld t x h = (l : ℕ) → is_held t l (x ∷ h) ≡ is_held t l h

same-place : (t l : ℕ) (x : Entry) (h : List Entry) → is_held t l (x ∷ h) ≡ is_held t l h
    → place t l (x ∷ h) ≡ place t l h
same-place t l x h same = place-stays t l x h (rw same (alone (is_held t l h)))
  where
    alone : (b : Bool) → (not b && b) ≡ false
    alone true = refl
    alone false = refl

held_at-same : (t : ℕ) (x : Entry) (h : List Entry) (a : Act) (i : ℕ)
    → is_held t (subject a) (x ∷ h) ≡ is_held t (subject a) h
    → recorded_at t (x ∷ h) a i ≡ recorded_at t h a i
held_at-same t x h Nothing i same = refl
held_at-same t x h (Records l) i same = rw (same-place t l x h same, same) refl
held_at-same t x h (Releases l) i same = refl
held_at-same t x h (Turns l new) i same = refl
held_at-same t x h (Marks l new) i same = refl

among-same : (t : ℕ) (x : Entry) (h : List Entry) → StaysHeld t x h → (past : List Entry)
    → held_among t (x ∷ h) past ≡ held_among t h past
among-same t x h same [] = refl
among-same t x h same (e ∷ past) =
    ap₂ (λ a b. a ++ b) (among-same t x h same past)
    (held_at-same t x h (act_by t e) (length past) (same (subject (act_by t e))))

-- the locks held stay
pub held-same : (t : ℕ) (x : Entry) (h : List Entry)
    → ((l : ℕ) → is_held t l (x ∷ h) ≡ is_held t l h) → held t (x ∷ h) ≡ held t h
held-same t x h same =
    ap₂ (λ a b. a ++ b) (among-same t x h same h)
    (held_at-same t x h (act_by t x) (length h) (same (subject (act_by t x)))
    ∙ held_at-late t h (act_by t x) (length h) (omega arith))
    ∙ append-nil (held t h)

-- one lock is new: the last one
abbrev OthersStay : ℕ → ℕ → Entry → List Entry → Type 0
OthersStay t m x h = (l : ℕ) → eqb m l ≡ false → is_held t l (x ∷ h) ≡ is_held t l h

held_at-new : (t m : ℕ) (x : Entry) (h : List Entry) → OthersStay t m x h → is_held t m h ≡ false
    → is_held t m (x ∷ h) ≡ true
    → (a : Act) (i : ℕ) → i < length h → recorded_at t (x ∷ h) a i ≡ recorded_at t h a i
held_at-new t m x h others was is Nothing i lt = refl
held_at-new t m x h others was is (Records l) i lt =
    elim (eqb_tells m l) [
      | inl e ↦ subst (λ k. recorded_at t (x ∷ h) (Records k) i
          ≡ recorded_at t h (Records k) i) e.1 same
      | inr e ↦ held_at-same t x h (Records l) i (others l e.0)
    ]
  where
    late : place t m (x ∷ h) ≡ length h
    late = place-new t m x h (rises-new t m x h was is)

    same : recorded_at t (x ∷ h) (Records m) i ≡ recorded_at t h (Records m) i
    same =
        rw (
          was,
          is,
          late,
          ne_eqb (length h) i
              (λ (e : length h ≡ i). let no : ⊥ = omega arith in no),
        ) refl
held_at-new t m x h others was is (Releases l) i lt = refl
held_at-new t m x h others was is (Turns l new) i lt = refl
held_at-new t m x h others was is (Marks l new) i lt = refl

among-new : (t m : ℕ) (x : Entry) (h : List Entry) → OthersStay t m x h → is_held t m h ≡ false
    → is_held t m (x ∷ h) ≡ true
    → (past : List Entry) → length past ≤ length h → held_among t (x ∷ h) past ≡ held_among t h past
among-new t m x h others was is [] le = refl
among-new t m x h others was is (e ∷ past) le =
    ap₂ (λ a b. a ++ b) (among-new t m x h others was is past (omega arith))
    (held_at-new t m x h others was is (act_by t e) (length past) (omega arith))

held-new : (t m : ℕ) (x : Entry) (h : List Entry) → act_by t x ≡ Records m → OthersStay t m x h
    → is_held t m h ≡ false → is_held t m (x ∷ h) ≡ true
    → held t (x ∷ h) ≡ held t h ++ m ∷ []
held-new t m x h acts others was is =
    ap₂ (λ a b. a ++ b) (among-new t m x h others was is h (omega arith))
    (ap (λ a. recorded_at t (x ∷ h) a (length h)) acts
    ∙ rw (is, place-new t m x h (rises-new t m x h was is), eq-eqb (length h) (length h) refl) refl)

-- one lock is gone
held_at-gone : (t m : ℕ) (x : Entry) (h : List Entry) → OthersStay t m x h
    → is_held t m (x ∷ h) ≡ false
    → (a : Act) (i : ℕ) → recorded_at t (x ∷ h) a i ≡ filter (is_not m) (recorded_at t h a i)
held_at-gone t m x h others is Nothing i = refl
held_at-gone t m x h others is (Records l) i =
    elim (eqb_tells m l) [
      | inl e ↦ subst (λ k. recorded_at t (x ∷ h) (Records k) i
          ≡ filter (is_not m) (recorded_at t h (Records k) i)) e.1 none
      | inr e ↦ held_at-same t x h (Records l) i (others l e.0)
          ∙ sym (kept (is_held t l h && eqb (place t l h) i) l (λ (f : l ≡ m). e.1 (sym f)))
    ]
  where
    dropped : (b : Bool) → [] ≡ filter (is_not m) (cond b (m ∷ []) [])
    dropped true = rw (eq-eqb m m refl) refl
    dropped false = refl

    none : recorded_at t (x ∷ h) (Records m) i ≡ filter (is_not m) (recorded_at t h (Records m) i)
    none = rw is (dropped (is_held t m h && eqb (place t m h) i))

    kept : (b : Bool) (k : ℕ) → (k ≡ m → ⊥) → filter (is_not m) (cond b (k ∷ []) [])
        ≡ cond b (k ∷ []) []
    kept true k apart = rw (ne_eqb k m apart) refl
    kept false k apart = refl
held_at-gone t m x h others is (Releases l) i = refl
held_at-gone t m x h others is (Turns l new) i = refl
held_at-gone t m x h others is (Marks l new) i = refl

among-gone : (t m : ℕ) (x : Entry) (h : List Entry) → OthersStay t m x h
    → is_held t m (x ∷ h) ≡ false
    → (past : List Entry) → held_among t (x ∷ h) past ≡ filter (is_not m) (held_among t h past)
among-gone t m x h others is [] = refl
among-gone t m x h others is (e ∷ past) =
    ap₂ (λ a b. a ++ b) (among-gone t m x h others is past)
    (held_at-gone t m x h others is (act_by t e) (length past))
    ∙ sym (filter-append (is_not m) (held_among t h past)
    (recorded_at t h (act_by t e) (length past)))

held-gone : (t m : ℕ) (x : Entry) (h : List Entry) → act_by t x ≡ Releases m → OthersStay t m x h
    → is_held t m (x ∷ h) ≡ false
    → held t (x ∷ h) ≡ filter (is_not m) (held t h)
held-gone t m x h acts others is =
    ap₂ (λ a b. a ++ b) (among-gone t m x h others is h)
    (ap (λ a. recorded_at t (x ∷ h) a (length h)) acts)
    ∙ append-nil (filter (is_not m) (held t h))

-- what an entry does to the locks that a seat holds
pub data Effect (t : ℕ) (x : Entry) (h : List Entry) : Type 0 where
  -- the same ones are held
  Same : ((l : ℕ) → is_held t l (x ∷ h) ≡ is_held t l h) → Effect t x h
  -- one more
  New : (m : ℕ) → act_by t x ≡ Records m → is_held t m h ≡ false → is_held t m (x ∷ h) ≡ true
      → held t (x ∷ h) ≡ held t h ++ m ∷ [] → Effect t x h
  -- one fewer
  Gone : (m : ℕ) → act_by t x ≡ Releases m → is_held t m h ≡ true → is_held t m (x ∷ h) ≡ false
      → held t (x ∷ h) ≡ filter (is_not m) (held t h) → Effect t x h

others : (t : ℕ) (x : Entry) (h : List Entry) (a : Act) → act_by t x ≡ a → IsSane h
    → OthersStay t (subject a) x h
others t x h a is sane l apart = held-apart t l x h (ap (λ b. eqb (subject b) l) is ∙ apart) sane

stays : (t : ℕ) (x : Entry) (h : List Entry) (a : Act) → act_by t x ≡ a → IsSane h
    → is_held t (subject a) (x ∷ h) ≡ is_held t (subject a) h → Effect t x h
stays t x h a is sane same = Same (λ l.
    elim (eqb_tells (subject a) l) [
      | inl e ↦ subst (λ k. is_held t k (x ∷ h) ≡ is_held t k h) e.1 same
      | inr e ↦ others t x h a is sane l e.0
    ])

effect_by : (t : ℕ) (x : Entry) (h : List Entry) (a : Act) → act_by t x ≡ a → IsFit a t h → IsSane h
    → Effect t x h
effect_by t x h Nothing is fit sane =
    stays t x h Nothing is sane (ap (λ n. nat_lt 0 n) (num-step t 0 x h Nothing is sane))
effect_by t x h (Turns m new) is fit sane =
    stays t x h (Turns m new) is sane
    (ap (λ n. nat_lt 0 n) (num-step t m x h (Turns m new) is sane))
effect_by t x h (Marks m new) is fit sane =
    stays t x h (Marks m new) is sane
    (ap (λ n. nat_lt 0 n) (num-step t m x h (Marks m new) is sane))
effect_by t x h (Records m) is fit sane = go (is_held t m h) refl
  where
    more : num t m (x ∷ h) ≡ num t m h + 1
    more = num-step t m x h (Records m) is sane ∙ rw (eq-eqb m m refl) refl

    now : is_held t m (x ∷ h) ≡ true
    now = held-from t m (x ∷ h) (omega (arith, more))

    go : (b : Bool) → is_held t m h ≡ b → Effect t x h
    go true was = stays t x h (Records m) is sane (now ∙ sym was)
    go false was = New m is was now (held-new t m x h is (others t x h (Records m) is sane) was now)
effect_by t x h (Releases m) is fit sane = go (is_held t m (x ∷ h)) refl
  where
    was : is_held t m h ≡ true
    was = held-from t m h fit

    go : (b : Bool) → is_held t m (x ∷ h) ≡ b → Effect t x h
    go true now = stays t x h (Releases m) is sane (now ∙ sym was)
    go false now = Gone m is was now (held-gone t m x h is (others t x h (Releases m) is sane) now)

pub effect : (t : ℕ) (x : Entry) (h : List Entry) → IsSane (x ∷ h) → Effect t x h
effect t x h sane = effect_by t x h (act_by t x) refl (fit_by t x h sane) sane.1
