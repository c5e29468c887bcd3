-- The locks that a seat holds, in the order of their places.
use Rattle.std.proofs.Common.{◌≡◌, ℕ, ◌+◌, Bool, true, false, not, ◌&&◌, ◌||◌, cond, eqb, List, []}
use Rattle.std.proofs.Common.{◌∷◌, ◌++◌, length, filter, refl, ap, ap₂, sym, ◌∙◌, subst, inl, inr}
use Rattle.std.proofs.Common.{arith, length-append}
use Rattle.std.specs.List.{list_any, list_all}
use Rattle.std.proofs.lemmas.Bool.{eq-eqb, ne_eqb, eqb-true, true≢false, and_from, or_right}
use Rattle.std.proofs.lemmas.Bool.Decides.{eqb_tells}
use Rattle.std.proofs.lemmas.List.Folds.{list_any-append, list_all-append}
use Rattle.std.proofs.lemmas.Map.Views.{any-filter_same}
use Rattle.wit_model.specs.declared.calls.NewLock.{NewLock}
use Rattle.wit_model.specs.declared.calls.Entry.{Entry}
use Rattle.wit_model.specs.Rules.Locks.{made, locks_of, no_lock, is_spin_lock, is_of_kind}
use Rattle.wit_model.specs.Rules.Types.{is_spin}
use Rattle.wit_model.specs.Rules.History.{Act, Nothing, Records, Releases, Turns, Marks, act_by}
use Rattle.wit_model.specs.Rules.History.{is_held, place, recorded_at, held_among, held, held_of}
use Rattle.wit_model.specs.Rules.Numbers.{IsGiven}
use Rattle.wit_model.proofs.Chains.Sane.{IsFit, IsSane, fit_by}
use Rattle.wit_model.proofs.Chains.Acts.{num-nil}
use Rattle.wit_model.proofs.Chains.HeldLocks.{subject, held-not, held-apart}
use Rattle.wit_model.proofs.Chains.Effects.{is_not, Effect, Same, New, Gone, effect, held-same}
use Rattle.wit_model.proofs.Numbered.{with_number-stays}
use Rattle.wit_model.proofs.Lists.{times, times-nil, times-cons, times-append, times-filter}
use Rattle.wit_model.proofs.Lists.{filter-where, list_all-filtered}

held_at-all : (t : ℕ) (h : List Entry) (a : Act) (i : ℕ)
    → list_all (λ l. is_held t l h) (recorded_at t h a i) ≡ true
held_at-all t h Nothing i = refl
held_at-all t h (Records l) i = go (is_held t l h) refl
  where
    pick : (b : Bool) → is_held t l h ≡ true
        → list_all (λ m. is_held t m h) (cond b (l ∷ []) []) ≡ true
    pick true is = rw is refl
    pick false is = refl

    go : (b : Bool) → is_held t l h ≡ b
        → list_all (λ m. is_held t m h) (recorded_at t h (Records l) i) ≡ true
    go true is =
        subst (λ c. list_all (λ m. is_held t m h) (cond (c && eqb (place t l h) i) (l ∷ []) [])
        ≡ true) (sym is) (pick (eqb (place t l h) i) is)
    go false is =
        subst (λ c. list_all (λ m. is_held t m h) (cond (c && eqb (place t l h) i) (l ∷ []) [])
        ≡ true) (sym is) refl
held_at-all t h (Releases l) i = refl
held_at-all t h (Turns l new) i = refl
held_at-all t h (Marks l new) i = refl

among-all : (t : ℕ) (h past : List Entry)
    → list_all (λ l. is_held t l h) (held_among t h past) ≡ true
among-all t h [] = refl
among-all t h (e ∷ past) =
    list_all-append (λ l. is_held t l h) (held_among t h past)
    (recorded_at t h (act_by t e) (length past))
    ∙ and_from (list_all (λ l. is_held t l h) (held_among t h past))
    (list_all (λ l. is_held t l h) (recorded_at t h (act_by t e) (length past)))
    (among-all t h past) (held_at-all t h (act_by t e) (length past))

-- they are held
pub held-all : (t : ℕ) (h : List Entry) → list_all (λ l. is_held t l h) (held t h) ≡ true
held-all t h = among-all t h h

in_new : (t l m : ℕ) (x : Entry) (h : List Entry) → IsSane (x ∷ h) → act_by t x ≡ Records m
    → is_held t m (x ∷ h) ≡ true
    → (is_held t l h || (eqb m l || false)) ≡ is_held t l (x ∷ h)
in_new t l m x h sane acts now =
    elim (eqb_tells m l) [
      | inl e ↦ rw e.0 (or_right (is_held t l h) true refl
          ∙ sym (subst (λ k. is_held t k (x ∷ h) ≡ true) e.1 now))
      | inr e ↦ rw e.0 (plain (is_held t l h)
          ∙ sym (held-apart t l x h (ap (λ a. eqb (subject a) l) acts ∙ e.0) sane.1))
    ]
  where
    plain : (b : Bool) → (b || (false || false)) ≡ b
    plain true = refl
    plain false = refl

in_gone : (t l m : ℕ) (x : Entry) (h : List Entry) → IsSane (x ∷ h) → act_by t x ≡ Releases m
    → is_held t m (x ∷ h) ≡ false
    → (not (eqb l m) && is_held t l h) ≡ is_held t l (x ∷ h)
in_gone t l m x h sane acts now =
    elim (eqb_tells m l) [
      | inl e ↦ rw (eq-eqb l m (sym e.1)) (sym (subst (λ k. is_held t k (x ∷ h) ≡ false) e.1 now))
      | inr e ↦ rw (ne_eqb l m (λ (f : l ≡ m). e.1 (sym f)))
          (sym (held-apart t l x h (ap (λ a. eqb (subject a) l) acts ∙ e.0) sane.1))
    ]

in_step : (t l : ℕ) (x : Entry) (h : List Entry) → IsSane (x ∷ h) → Effect t x h
    → list_any (λ m. eqb m l) (held t h) ≡ is_held t l h
    → list_any (λ m. eqb m l) (held t (x ∷ h)) ≡ is_held t l (x ∷ h)
in_step t l x h sane (Same same) ih =
    ap (λ ms. list_any (λ m. eqb m l) ms) (held-same t x h same) ∙ ih ∙ sym (same l)
in_step t l x h sane (New m acts was now is) ih =
    ap (λ ms. list_any (λ m. eqb m l) ms) is ∙ list_any-append (λ m. eqb m l) (held t h) (m ∷ [])
    ∙ ap (λ b. b || (eqb m l || false)) ih
    ∙ in_new t l m x h sane acts now
in_step t l x h sane (Gone m acts was now is) ih =
    ap (λ ms. list_any (λ m. eqb m l) ms) is
    ∙ any-filter_same (λ k. eqb k l) (is_not m) (not (eqb l m))
    (λ k here. ap (λ j. not (eqb j m)) (eqb-true k l here)) (held t h)
    ∙ ap (λ b. not (eqb l m) && b) ih ∙ in_gone t l m x h sane acts now

-- a lock is among them where it is held
pub in-held : (t l : ℕ) (h : List Entry) → IsSane h
    → list_any (λ m. eqb m l) (held t h) ≡ is_held t l h
in-held t l [] sane = sym (held-not t l [] (num-nil t l))
in-held t l (x ∷ h) sane = in_step t l x h sane (effect t x h sane) (in-held t l h sane.1)

abbrev pub one_if : Bool → ℕ
one_if b = cond b 1 0

once_step : (t l : ℕ) (x : Entry) (h : List Entry) → IsSane (x ∷ h) → Effect t x h
    → times l (held t h) ≡ one_if (is_held t l h)
    → times l (held t (x ∷ h)) ≡ one_if (is_held t l (x ∷ h))
once_step t l x h sane (Same same) ih =
    ap (λ ms. times l ms) (held-same t x h same) ∙ ih ∙ sym (ap one_if (same l))
once_step t l x h sane (New m acts was now is) ih =
    elim (eqb_tells m l) [
      | inl e ↦
          let none : times l (held t h) ≡ 0 =
          ih ∙ ap one_if (subst (λ k. is_held t k h ≡ false) e.1 was) in
          let one : times l (m ∷ []) ≡ 1 + 0 =
          times-cons l m [] ∙ ap₂ (λ b n. one_if b + n) e.0 (times-nil l) in
          ap (λ ms. times l ms) is ∙ times-append l (held t h) (m ∷ [])
          ∙ (let s : times l (held t h) + times l (m ∷ []) ≡ 1 = omega arith in s)
          ∙ sym (ap one_if (subst (λ k. is_held t k (x ∷ h) ≡ true) e.1 now))
      | inr e ↦
          let one : times l (m ∷ []) ≡ 0 + 0 =
          times-cons l m [] ∙ ap₂ (λ b n. one_if b + n) e.0 (times-nil l) in
          ap (λ ms. times l ms) is ∙ times-append l (held t h) (m ∷ [])
          ∙ (let s : times l (held t h) + times l (m ∷ [])
          ≡ times l (held t h) = omega arith in s)
          ∙ ih ∙ sym (ap one_if (held-apart t l x h
          (ap (λ a. eqb (subject a) l) acts ∙ e.0) sane.1))
    ]
once_step t l x h sane (Gone m acts was now is) ih =
    ap (λ ms. times l ms) is ∙ times-filter l m (held t h) ∙ ap (λ n. cond (eqb l m) 0 n) ih
    ∙ both (eqb l m) (is_held t l h)
    ∙ ap one_if (in_gone t l m x h sane acts now)
  where
    both : (b c : Bool) → cond b 0 (one_if c) ≡ one_if (not b && c)
    both true c = refl
    both false c = refl

-- each stands there once
pub once : (t l : ℕ) (h : List Entry) → IsSane h → times l (held t h) ≡ one_if (is_held t l h)
once t l [] sane = times-nil l ∙ sym (ap one_if (held-not t l [] (num-nil t l)))
once t l (x ∷ h) sane = once_step t l x h sane (effect t x h sane) (once t l h sane.1)

made_more : (l : ℕ) (x : Entry) (h : List Entry) → IsGiven (locks_of h) l
    → IsGiven (locks_of (x ∷ h)) l
made_more l x h is = (is.0, omega (arith, is.1, length-append (locks_of h) (made x.call)))

made_step : (t l : ℕ) (x : Entry) (h : List Entry) → IsSane (x ∷ h) → Effect t x h
    → (is_held t l h ≡ true → IsGiven (locks_of h) l) → is_held t l (x ∷ h) ≡ true
    → IsGiven (locks_of (x ∷ h)) l
made_step t l x h sane (Same same) ih is = made_more l x h (ih (sym (same l) ∙ is))
made_step t l x h sane (New m acts was now held') ih is =
    elim (eqb_tells m l) [
      | inl e ↦ made_more l x h (subst (λ k. IsGiven (locks_of h) k) e.1
          (subst (λ a. IsFit a t h) acts (fit_by t x h sane)))
      | inr e ↦ made_more l x h (ih
          (sym (held-apart t l x h (ap (λ a. eqb (subject a) l) acts ∙ e.0) sane.1) ∙ is))
    ]
made_step t l x h sane (Gone m acts was now held') ih is =
    elim (eqb_tells m l) [
      | inl e ↦ absurd (true≢false
          (sym (subst (λ k. is_held t k (x ∷ h) ≡ true) (sym e.1) is) ∙ now))
      | inr e ↦ made_more l x h (ih
          (sym (held-apart t l x h (ap (λ a. eqb (subject a) l) acts ∙ e.0) sane.1) ∙ is))
    ]

-- a held lock was made
pub made_sane : (t l : ℕ) (h : List Entry) → IsSane h → is_held t l h ≡ true
    → IsGiven (locks_of h) l
made_sane t l [] sane is = absurd (true≢false (sym is ∙ held-not t l [] (num-nil t l)))
made_sane t l (x ∷ h) sane is =
    made_step t l x h sane (effect t x h sane) (made_sane t l h sane.1) is

kind_by : (k : Bool) (ls more : List NewLock) (l : ℕ) → is_spin_lock (ls ++ more) l
    ≡ is_spin_lock ls l → is_of_kind k (ls ++ more) l ≡ is_of_kind k ls l
kind_by true ls more l e = e
kind_by false ls more l e = ap not e

-- a lock's kind stays
pub kind-stays : (k : Bool) (l : ℕ) (x : Entry) (h : List Entry) → IsGiven (locks_of h) l
    → is_of_kind k (locks_of (x ∷ h)) l ≡ is_of_kind k (locks_of h) l
kind-stays k l x h is =
    kind_by k (locks_of h) (made x.call) l
    (ap (λ (n : NewLock). is_spin n.class)
    (with_number-stays (locks_of h) (made x.call) l no_lock is.0 (omega (arith, is.0, is.1))))

-- a filter by kind sees no new lock
pub kinds-stay : (k : Bool) (t : ℕ) (x : Entry) (h : List Entry) → IsSane h → (ls : List ℕ)
    → list_all (λ l. is_held t l h) ls ≡ true
    → filter (is_of_kind k (locks_of (x ∷ h))) ls ≡ filter (is_of_kind k (locks_of h)) ls
kinds-stay k t x h sane ls all =
    filter-where (is_of_kind k (locks_of (x ∷ h))) (is_of_kind k (locks_of h)) (λ l. is_held t l h)
    (λ l is. kind-stays k l x h (made_sane t l h sane is)) ls all

pub held_of-all : (k : Bool) (t : ℕ) (h : List Entry)
    → list_all (λ l. is_held t l h && is_of_kind k (locks_of h) l) (held_of k t h) ≡ true
held_of-all k t h =
    list_all-filtered (λ l. is_held t l h) (is_of_kind k (locks_of h)) (held t h) (held-all t h)
