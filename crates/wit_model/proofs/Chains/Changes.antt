-- What an entry leaves of a chain: the same locks are held, or one more, or one fewer.
use Rattle.std.proofs.Common.{◌≡◌, ℕ, Bool, true, false, not, ◌&&◌, cond, eqb, List, [], ◌∷◌, ◌++◌}
use Rattle.std.proofs.Common.{map, filter, refl, ap, ap₂, sym, ◌∙◌, subst, inl, inr}
use Rattle.std.specs.List.{list_all}
use Rattle.std.proofs.lemmas.Bool.{eq-eqb, ne_eqb, true≢false, and_parts, not-true}
use Rattle.std.proofs.lemmas.Bool.Decides.{eqb_tells}
use Rattle.std.proofs.lemmas.List.{map-append}
use Rattle.std.proofs.lemmas.List.Elements.{filter-append}
use Rattle.wit_model.specs.declared.locks.Instance.{Instance}
use Rattle.wit_model.specs.declared.calls.Entry.{Entry}
use Rattle.wit_model.specs.Rules.Locks.{locks_of, is_of_kind}
use Rattle.wit_model.specs.Rules.History.{Records, Releases, act_by, is_held, held, held_of, chain}
use Rattle.wit_model.specs.Rules.History.{instance, pending, asked_mode, asked_site}
use Rattle.wit_model.specs.Rules.Verdict.{is_of}
use Rattle.wit_model.proofs.Chains.Sane.{IsFit, IsSane, fit_by}
use Rattle.wit_model.proofs.Chains.HeldLocks.{subject, changed, taken, instance-apart}
use Rattle.wit_model.proofs.Chains.HeldLocks.{instance-here, instance-new}
use Rattle.wit_model.proofs.Chains.Effects.{is_not, held-same}
use Rattle.wit_model.proofs.Chains.Held.{held-all, made_sane, kind-stays, kinds-stay, held_of-all}
use Rattle.wit_model.proofs.Lists.{map-where, map-map, map-filter, filter-swap, list_all-filter}
use Rattle.wit_model.proofs.Lists.{list_all-filtered, list_all-both}

-- a change of one lock's instance
abbrev pub at : ℕ → (Instance → Instance) → Instance → Instance
at l f i = cond (is_of l i) (f i) i

-- the others
abbrev pub is_other : ℕ → Instance → Bool
is_other l i = not (is_of l i)

eqb-turn : (a b : ℕ) → eqb a b ≡ eqb b a
eqb-turn a b =
    elim (eqb_tells b a) [
      | inl e ↦ sym (e.0 ∙ sym (eq-eqb a b (sym e.1)))
      | inr e ↦ sym
          (e.0 ∙ sym (ne_eqb a b (λ (f : a ≡ b). e.1 (sym f))))
    ]

-- the instance of a held lock after an entry
held_instance : (t l : ℕ) (x : Entry) (h : List Entry) → IsSane h → is_held t l h ≡ true
    → instance t (x ∷ h) l ≡ at (subject (act_by t x))
    (changed (act_by t x) (asked_site x.call (pending t h))) (instance t h l)
held_instance t l x h sane is = go (eqb l (subject (act_by t x))) refl
  where
    go : (b : Bool) → eqb l (subject (act_by t x)) ≡ b
        → instance t (x ∷ h) l ≡ cond (eqb l (subject (act_by t x)))
        (changed (act_by t x) (asked_site x.call (pending t h)) (instance t h l))
        (instance t h l)
    go true e =
        rw e (instance-here t l x h (eqb-turn (subject (act_by t x)) l ∙ e)
        (made_sane t l h sane is).0 is sane)
    go false e = rw e (instance-apart t l x h (eqb-turn (subject (act_by t x)) l ∙ e) sane)

pub chain-same : (k : Bool) (t : ℕ) (x : Entry) (h : List Entry) → IsSane h
    → ((l : ℕ) → is_held t l (x ∷ h) ≡ is_held t l h)
    → chain k t (x ∷ h) ≡ map (at (subject (act_by t x))
    (changed (act_by t x) (asked_site x.call (pending t h)))) (chain k t h)
chain-same k t x h sane same =
    ap (λ ls. map (instance t (x ∷ h)) (filter (is_of_kind k (locks_of (x ∷ h))) ls))
    (held-same t x h same)
    ∙ ap (λ ls. map (instance t (x ∷ h)) ls) (kinds-stay k t x h sane (held t h) (held-all t h))
    ∙ map-where (instance t (x ∷ h))
    (λ l. at (subject (act_by t x)) (changed (act_by t x) (asked_site x.call (pending t h)))
    (instance t h l))
    (λ l. is_held t l h && is_of_kind k (locks_of h) l)
    (λ l is. held_instance t l x h sane
    (and_parts (is_held t l h) (is_of_kind k (locks_of h) l) is).0) (held_of k t h)
    (held_of-all k t h)
    ∙ sym (map-map (at (subject (act_by t x))
    (changed (act_by t x) (asked_site x.call (pending t h)))) (instance t h) (held_of k t h))

apart-from : (t l m : ℕ) (h : List Entry) → is_held t m h ≡ false → is_held t l h ≡ true
    → eqb m l ≡ false
apart-from t l m h free is =
    ne_eqb m l (λ (e : m ≡ l). true≢false (sym is ∙ sym (ap (λ j. is_held t j h) e) ∙ free))

one-more : (k : Bool) (t m : ℕ) (x : Entry) (h : List Entry) → act_by t x ≡ Records m
    → is_held t m h ≡ false → IsSane (x ∷ h)
    → map (instance t (x ∷ h)) (filter (is_of_kind k (locks_of (x ∷ h))) (m ∷ []))
    ≡ cond (is_of_kind k (locks_of h) m)
    (taken m (asked_mode x.call (pending t h)) (asked_site x.call (pending t h)) ∷ []) []
one-more k t m x h acts was sane = rw same (pick (is_of_kind k (locks_of h) m))
  where
    same : is_of_kind k (locks_of (x ∷ h)) m ≡ is_of_kind k (locks_of h) m
    same = kind-stays k m x h (subst (λ a. IsFit a t h) acts (fit_by t x h sane))

    pick : (b : Bool) → map (instance t (x ∷ h)) (cond b (m ∷ []) [])
        ≡ cond b (taken m (asked_mode x.call (pending t h)) (asked_site x.call (pending t h)) ∷ [])
        []
    pick true = ap (λ i. i ∷ []) (instance-new t m x h acts was sane.1)
    pick false = refl

pub chain-new : (k : Bool) (t m : ℕ) (x : Entry) (h : List Entry) → IsSane (x ∷ h)
    → act_by t x ≡ Records m → is_held t m h ≡ false
    → held t (x ∷ h) ≡ held t h ++ m ∷ []
    → chain k t (x ∷ h) ≡ chain k t h ++ cond (is_of_kind k (locks_of h) m)
    (taken m (asked_mode x.call (pending t h)) (asked_site x.call (pending t h)) ∷ []) []
chain-new k t m x h sane acts was is =
    ap (λ ls. map (instance t (x ∷ h)) (filter (is_of_kind k (locks_of (x ∷ h))) ls)) is
    ∙ ap (λ ls. map (instance t (x ∷ h)) ls)
    (filter-append (is_of_kind k (locks_of (x ∷ h))) (held t h) (m ∷ []))
    ∙ map-append (instance t (x ∷ h)) (filter (is_of_kind k (locks_of (x ∷ h))) (held t h))
    (filter (is_of_kind k (locks_of (x ∷ h))) (m ∷ []))
    ∙ ap₂ (λ a b. a ++ b)
    (ap (λ ls. map (instance t (x ∷ h)) ls) (kinds-stay k t x h sane.1 (held t h) (held-all t h))
    ∙ map-where (instance t (x ∷ h)) (instance t h)
    (λ l. is_held t l h && is_of_kind k (locks_of h) l)
    (λ l here. instance-apart t l x h
    (ap (λ a. eqb (subject a) l) acts ∙ apart-from t l m h was
    (and_parts (is_held t l h) (is_of_kind k (locks_of h) l) here).0) sane.1)
    (held_of k t h) (held_of-all k t h))
    (one-more k t m x h acts was sane)

pub chain-gone : (k : Bool) (t m : ℕ) (x : Entry) (h : List Entry) → IsSane (x ∷ h)
    → act_by t x ≡ Releases m
    → held t (x ∷ h) ≡ filter (is_not m) (held t h)
    → chain k t (x ∷ h) ≡ filter (is_other m) (chain k t h)
chain-gone k t m x h sane acts is =
    ap (λ ls. map (instance t (x ∷ h)) (filter (is_of_kind k (locks_of (x ∷ h))) ls)) is
    ∙ ap (λ ls. map (instance t (x ∷ h)) ls)
    (kinds-stay k t x h sane.1 (filter (is_not m) (held t h))
    (list_all-filter (λ l. is_held t l h) (is_not m) (held t h) (held-all t h))
    ∙ filter-swap (is_of_kind k (locks_of h)) (is_not m) (held t h))
    ∙ map-where (instance t (x ∷ h)) (instance t h)
    (λ l. (is_held t l h && is_of_kind k (locks_of h) l) && is_not m l)
    (λ l here. instance-apart t l x h
    (ap (λ a. eqb (subject a) l) acts ∙ eqb-turn m l ∙ not-true (eqb l m)
    (and_parts (is_held t l h && is_of_kind k (locks_of h) l) (is_not m l) here).1) sane.1)
    (filter (is_not m) (held_of k t h))
    (list_all-filtered (λ l. is_held t l h && is_of_kind k (locks_of h) l) (is_not m)
    (held_of k t h) (held_of-all k t h))
    ∙ map-filter (instance t h) (is_other m) (held_of k t h)

-- a chain has no lock of the other kind
pub chain-kind : (k : Bool) (t m : ℕ) (h : List Entry) → is_of_kind k (locks_of h) m ≡ false
    → list_all (is_other m) (chain k t h) ≡ true
chain-kind k t m h other = through (held_of k t h)
    (list_all-both (λ l. is_held t l h && is_of_kind k (locks_of h) l) (is_not m)
    (λ l is. apart l (and_parts (is_held t l h) (is_of_kind k (locks_of h) l) is).1) (held_of k t h)
    (held_of-all k t h))
  where
    apart : (l : ℕ) → is_of_kind k (locks_of h) l ≡ true → is_not m l ≡ true
    apart l is =
        ap not (ne_eqb l m (λ (e : l ≡ m). true≢false
        (sym is ∙ ap (λ j. is_of_kind k (locks_of h) j) e ∙ other)))

    through : (ls : List ℕ) → list_all (is_not m) ls ≡ true
        → list_all (is_other m) (map (instance t h) ls) ≡ true
    through [] all = refl
    through (l ∷ ls) all = let parts =
        and_parts (is_not m l) (list_all (is_not m) ls) all in rw (parts.0, through ls parts.1) refl

-- in a chain without the lock its change and its removal do nothing
pub map-absent : (m : ℕ) (f : Instance → Instance) (c : List Instance)
    → list_all (is_other m) c ≡ true → map (at m f) c ≡ c
map-absent m f [] all = refl
map-absent m f (i ∷ c) all =
    let parts = and_parts (is_other m i) (list_all (is_other m) c) all in
    ap₂ (λ j d. j ∷ d) (let no : is_of m i ≡ false = not-true (is_of m i) parts.0 in rw no refl)
    (map-absent m f c parts.1)

pub filter-absent : (m : ℕ) (c : List Instance) → list_all (is_other m) c ≡ true
    → filter (is_other m) c ≡ c
filter-absent m [] all = refl
filter-absent m (i ∷ c) all =
    let parts = and_parts (is_other m i) (list_all (is_other m) c) all in
    rw parts.0 (ap (λ d. i ∷ d) (filter-absent m c parts.1))
