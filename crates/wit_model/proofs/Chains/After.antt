-- A chain after an entry, by what the entry does: the step that a program takes.
use Rattle.std.proofs.Common.{◌≡◌, ℕ, ◌+◌, ◌-◌, Bool, true, false, cond, nat_lt, List, [], ◌∷◌}
use Rattle.std.proofs.Common.{◌++◌, map, filter, find, Option, Some, None, refl, ap, ap₂, sym, ◌∙◌}
use Rattle.std.proofs.Common.{subst, arith, append-nil}
use Rattle.std.specs.List.{list_all}
use Rattle.std.proofs.lemmas.Bool.{lt-ltb, le-ltb, eq-eqb}
use Rattle.wit_model.specs.declared.locks.Instance.{Instance}
use Rattle.wit_model.specs.declared.locks.Mode.{Mode}
use Rattle.wit_model.specs.declared.locks.Site.{Site}
use Rattle.wit_model.specs.declared.calls.NewLock.{NewLock}
use Rattle.wit_model.specs.declared.calls.Entry.{Entry}
use Rattle.wit_model.specs.Rules.Locks.{locks_of, is_of_kind}
use Rattle.wit_model.specs.Rules.History.{Act, Nothing, Records, Releases, Turns, Marks, act_by}
use Rattle.wit_model.specs.Rules.History.{num, is_held, chain, instance, pending, asked_mode}
use Rattle.wit_model.specs.Rules.History.{asked_site}
use Rattle.wit_model.specs.Rules.Verdict.{is_of}
use Rattle.wit_model.proofs.Chains.Sane.{IsFit, IsSane, fit_by}
use Rattle.wit_model.proofs.Chains.Acts.{num-step}
use Rattle.wit_model.proofs.Chains.HeldLocks.{subject, changed, taken, held-from, num-of_held}
use Rattle.wit_model.proofs.Chains.HeldLocks.{num-of_free}
use Rattle.wit_model.proofs.Chains.Effects.{Effect, Same, New, Gone, effect}
use Rattle.wit_model.proofs.Chains.Changes.{at, is_other, chain-same, chain-new, chain-gone}
use Rattle.wit_model.proofs.Chains.Changes.{chain-kind, map-absent, filter-absent}
use Rattle.wit_model.proofs.Chains.Found.{found}

-- acquired once more, at this site
abbrev pub recursed : Site → Instance → Instance
recursed s i = record i { count = i.count + 1; site = s }

-- released once
abbrev pub fewer : Instance → Instance
fewer i = record i { count = i.count - 1 }

-- a chain after a lock of its kind was acquired, by what is found of the lock
abbrev pub noted : ℕ → Mode → Site → List Instance → Option Instance → List Instance
noted l m s c None = c ++ taken l m s ∷ []
noted l m s c (Some i) = map (at l (recursed s)) c

-- a chain after a lock of its kind was released
abbrev pub unlocked : ℕ → List Instance → Option Instance → List Instance
unlocked l c None = c
unlocked l c (Some i) = cond (nat_lt 0 i.count) (map (at l fewer) c) (filter (is_other l) c)

abbrev pub chain_after : Act → Mode → Site → List Instance → List Instance
chain_after Nothing m s c = c
chain_after (Records l) m s c = noted l m s c (find (is_of l) c)
chain_after (Releases l) m s c = unlocked l c (find (is_of l) c)
chain_after (Turns l new) m s c = map (at l (changed (Turns l new) s)) c
chain_after (Marks l new) m s c = map (at l (changed (Marks l new) s)) c

map-id : (l : ℕ) (c : List Instance) → map (at l (λ i. i)) c ≡ c
map-id l [] = refl
map-id l (i ∷ c) = ap₂ (λ j d. j ∷ d) (alike (is_of l i)) (map-id l c)
  where
    alike : (b : Bool) → cond b i i ≡ i
    alike true = refl
    alike false = refl

found_here : (k : Bool) (t l : ℕ) (h : List Entry) → IsSane h → is_held t l h ≡ true
    → is_of_kind k (locks_of h) l ≡ true
    → find (is_of l) (chain k t h) ≡ Some (instance t h l)
found_here k t l h sane is kind = found k t l h sane ∙ rw (is, kind) refl

found_none : (k : Bool) (t l : ℕ) (h : List Entry) → IsSane h → is_held t l h ≡ false
    → find (is_of l) (chain k t h) ≡ None
found_none k t l h sane is = found k t l h sane ∙ rw is refl

-- where the same locks are held
same_after : (k : Bool) (t : ℕ) (x : Entry) (h : List Entry) (a : Act) (m : Mode) (s : Site)
    → act_by t x ≡ a → IsSane h → IsFit a t h
    → is_held t (subject a) (x ∷ h) ≡ is_held t (subject a) h
    → is_of_kind k (locks_of h) (subject a) ≡ true
    → map (at (subject a) (changed a s)) (chain k t h) ≡ chain_after a m s (chain k t h)
same_after k t x h Nothing m s acts sane fit same kind = map-id 0 (chain k t h)
same_after k t x h (Records l) m s acts sane fit same kind =
    let more : num t l (x ∷ h) ≡ num t l h + 1 =
    num-step t l x h (Records l) acts sane ∙ rw (eq-eqb l l refl) refl in
    let was : is_held t l h ≡ true = sym same ∙ held-from t l (x ∷ h) (omega (arith, more)) in
    rw (found_here k t l h sane was kind) refl
same_after k t x h (Releases l) m s acts sane fit same kind =
    let less : num t l (x ∷ h) ≡ num t l h - 1 =
    num-step t l x h (Releases l) acts sane ∙ rw (eq-eqb l l refl) refl in
    let now = num-of_held t l (x ∷ h) (same ∙ held-from t l h fit) in
    let more : nat_lt 0 (num t l h - 1) ≡ true = lt-ltb 0 (num t l h - 1) (omega arith) in
    rw (found_here k t l h sane (held-from t l h fit) kind, more) refl
same_after k t x h (Turns l new) m s acts sane fit same kind = refl
same_after k t x h (Marks l new) m s acts sane fit same kind = refl

after_by : (k : Bool) (t : ℕ) (x : Entry) (h : List Entry) → IsSane (x ∷ h) → Effect t x h
    → is_of_kind k (locks_of h) (subject (act_by t x)) ≡ true
    → chain k t (x ∷ h) ≡ chain_after (act_by t x) (asked_mode x.call (pending t h))
    (asked_site x.call (pending t h)) (chain k t h)
after_by k t x h sane (Same same) kind =
    chain-same k t x h sane.1 same
    ∙ same_after k t x h (act_by t x) (asked_mode x.call (pending t h))
    (asked_site x.call (pending t h)) refl sane.1 (fit_by t x h sane)
    (same (subject (act_by t x))) kind
after_by k t x h sane (New l acts was now is) kind =
    let mine : is_of_kind k (locks_of h) l ≡ true =
    sym (ap (λ a. is_of_kind k (locks_of h) (subject a)) acts) ∙ kind in
    chain-new k t l x h sane acts was is
    ∙ ap (λ b. chain k t h ++ cond b
    (taken l (asked_mode x.call (pending t h)) (asked_site x.call (pending t h)) ∷ []) []) mine
    ∙ sym (ap (λ a. chain_after a (asked_mode x.call (pending t h))
    (asked_site x.call (pending t h)) (chain k t h)) acts
    ∙ ap (λ o. noted l (asked_mode x.call (pending t h)) (asked_site x.call (pending t h))
    (chain k t h) o) (found_none k t l h sane.1 was))
after_by k t x h sane (Gone l acts was now is) kind =
    let mine : is_of_kind k (locks_of h) l ≡ true =
    sym (ap (λ a. is_of_kind k (locks_of h) (subject a)) acts) ∙ kind in
    let less : num t l (x ∷ h) ≡ num t l h - 1 =
    num-step t l x h (Releases l) acts sane.1 ∙ rw (eq-eqb l l refl) refl in
    let none = num-of_free t l (x ∷ h) now in
    let last : nat_lt 0 (num t l h - 1) ≡ false = le-ltb 0 (num t l h - 1) (omega arith) in
    chain-gone k t l x h sane acts is
    ∙ sym (ap (λ a. chain_after a (asked_mode x.call (pending t h))
    (asked_site x.call (pending t h)) (chain k t h)) acts
    ∙ ap (λ o. unlocked l (chain k t h) o) (found_here k t l h sane.1 was mine)
    ∙ ap (λ b. cond b (map (at l fewer) (chain k t h)) (filter (is_other l) (chain k t h))) last)

-- the chain of the kind of the act's lock
pub after-mine : (k : Bool) (t : ℕ) (x : Entry) (h : List Entry) → IsSane (x ∷ h)
    → is_of_kind k (locks_of h) (subject (act_by t x)) ≡ true
    → chain k t (x ∷ h) ≡ chain_after (act_by t x) (asked_mode x.call (pending t h))
    (asked_site x.call (pending t h)) (chain k t h)
after-mine k t x h sane kind = after_by k t x h sane (effect t x h sane) kind

other_by : (k : Bool) (t : ℕ) (x : Entry) (h : List Entry) → IsSane (x ∷ h) → Effect t x h
    → list_all (is_other (subject (act_by t x))) (chain k t h) ≡ true
    → is_of_kind k (locks_of h) (subject (act_by t x)) ≡ false → chain k t (x ∷ h) ≡ chain k t h
other_by k t x h sane (Same same) none kind =
    chain-same k t x h sane.1 same ∙ map-absent (subject (act_by t x))
    (changed (act_by t x) (asked_site x.call (pending t h))) (chain k t h) none
other_by k t x h sane (New l acts was now is) none kind =
    let mine : is_of_kind k (locks_of h) l ≡ false =
    sym (ap (λ a. is_of_kind k (locks_of h) (subject a)) acts) ∙ kind in
    chain-new k t l x h sane acts was is
    ∙ ap (λ b. chain k t h ++ cond b
    (taken l (asked_mode x.call (pending t h)) (asked_site x.call (pending t h)) ∷ []) []) mine
    ∙ append-nil (chain k t h)
other_by k t x h sane (Gone l acts was now is) none kind =
    chain-gone k t l x h sane acts is ∙ filter-absent l (chain k t h)
    (subst (λ a. list_all (is_other (subject a)) (chain k t h) ≡ true) acts none)

-- the chain of the other kind
pub after-other : (k : Bool) (t : ℕ) (x : Entry) (h : List Entry) → IsSane (x ∷ h)
    → is_of_kind k (locks_of h) (subject (act_by t x)) ≡ false → chain k t (x ∷ h) ≡ chain k t h
after-other k t x h sane kind =
    other_by k t x h sane (effect t x h sane) (chain-kind k t (subject (act_by t x)) h kind) kind

-- the part of a seat that is of one kind, after an act
abbrev pub part_after : Bool → List NewLock → Act → Mode → Site → List Instance → List Instance
part_after k ls Nothing m s c = c
part_after k ls a m s c = cond (is_of_kind k ls (subject a)) (chain_after a m s c) c

part_is : (k : Bool) (ls : List NewLock) (a : Act) (m : Mode) (s : Site) (c : List Instance)
    → part_after k ls a m s c ≡ cond (is_of_kind k ls (subject a)) (chain_after a m s c) c
part_is k ls Nothing m s c = alike (is_of_kind k ls 0)
  where
    alike : (b : Bool) → c ≡ cond b c c
    alike true = refl
    alike false = refl
part_is k ls (Records l) m s c = refl
part_is k ls (Releases l) m s c = refl
part_is k ls (Turns l new) m s c = refl
part_is k ls (Marks l new) m s c = refl

-- a chain after an entry
pub chain-step : (k : Bool) (t : ℕ) (x : Entry) (h : List Entry) → IsSane (x ∷ h)
    → chain k t (x ∷ h) ≡ part_after k (locks_of h) (act_by t x) (asked_mode x.call (pending t h))
    (asked_site x.call (pending t h)) (chain k t h)
chain-step k t x h sane =
    go (is_of_kind k (locks_of h) (subject (act_by t x))) refl
    ∙ sym (part_is k (locks_of h) (act_by t x) (asked_mode x.call (pending t h))
    (asked_site x.call (pending t h)) (chain k t h))
  where
    go : (b : Bool) → is_of_kind k (locks_of h) (subject (act_by t x)) ≡ b
        → chain k t (x ∷ h) ≡ cond (is_of_kind k (locks_of h) (subject (act_by t x)))
        (chain_after (act_by t x) (asked_mode x.call (pending t h))
        (asked_site x.call (pending t h)) (chain k t h)) (chain k t h)
    go true e =
        subst (λ b. chain k t (x ∷ h)
        ≡ cond b (chain_after (act_by t x) (asked_mode x.call (pending t h))
        (asked_site x.call (pending t h)) (chain k t h)) (chain k t h))
        (sym e) (after-mine k t x h sane e)
    go false e =
        subst (λ b. chain k t (x ∷ h)
        ≡ cond b (chain_after (act_by t x) (asked_mode x.call (pending t h))
        (asked_site x.call (pending t h)) (chain k t h)) (chain k t h))
        (sym e) (after-other k t x h sane e)
