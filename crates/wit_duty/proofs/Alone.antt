-- A request under one lock alone.
use Rattle.std.proofs.Common.{◌≡◌, ℕ, ◌+◌, Bool, true, false, ◌||◌, cond, eqb, List, [], ◌∷◌, ◌++◌, map}
use Rattle.std.proofs.Common.{refl, ap, sym, ◌∙◌, subst, inl, inr, arith}
use Rattle.std.specs.List.{list_any, list_all}
use Rattle.std.proofs.lemmas.Bool.{and_parts, eq-eqb, eqb-true, false≢true}
use Rattle.wit_model.specs.declared.calls.Entry.{Entry}
use Rattle.wit_model.specs.Rules.Beginnings.{IsBeginning}
use Rattle.wit_model.specs.Rules.History.{is_held, held}
use Rattle.wit_model.specs.Rules.Locks.{locks_of, lock_of}
use Rattle.wit_model.proofs.Chains.Held.{held-all, in-held, once, one_if}
use Rattle.wit_model.proofs.Chains.Sane.{IsSane}
use Rattle.wit_model.proofs.Lists.{times, times-cons}
use Rattle.wit_recordings.specs.Recordings.{NamedType, named_type, AsksBehindChain, HasRequest}
use Rattle.wit_recordings.specs.Recordings.{AsksWhileHolding, TellsOf}

-- ---- what was written so stays, and tells of its pair

later-has : (later g : List Entry) (chain : List NamedType) (b : NamedType)
    → HasRequest g chain b → HasRequest (later ++ g) chain b
later-has [] g chain b has = has
later-has (e ∷ later) g chain b has = inr (later-has later g chain b has)

pub request-stays : (g more : List Entry) (chain : List NamedType) (b : NamedType)
    → IsBeginning g more → HasRequest g chain b → HasRequest more chain b
request-stays g more chain b begins has =
    subst (λ x. HasRequest x chain b) (sym begins.1) (later-has begins.0 g chain b has)

-- the one place of a list that is mapped to one place
record IsOne (has : ℕ → Bool) (type : ℕ → NamedType) (a : NamedType) : Type 0 where
  number : ℕ
  passes : has number ≡ true
  same : type number ≡ a

same-head : (a b : NamedType) (cs : List NamedType) → ◌≡◌ {A = List NamedType} (a ∷ cs) (b ∷ [])
    → a ≡ b
same-head a b cs is = (cc)

one-of : (has : ℕ → Bool) (type : ℕ → NamedType) (a : NamedType) (ls : List ℕ)
    → map type ls ≡ a ∷ [] → list_all has ls ≡ true → IsOne has type a
one-of has type a [] is all = (cc)
one-of has type a (l ∷ ls) is all = record {
  number = l;
  passes = (and_parts (has l) (list_all has ls) all).0;
  same = same-head (type l) a (map type ls) is;
}

under-one : (g : List Entry) (e : Entry) (a b : NamedType) → AsksBehindChain g e (a ∷ []) b
    → AsksWhileHolding g e a b
under-one g e a b is =
    let one = one-of (λ l. is_held e.seat.0 l g) (λ l. named_type (lock_of (locks_of g) l)) a
    (held e.seat.0 g) is.first (held-all e.seat.0 g) in
    record {
      request = is.request;
      asks = is.asks;
      unheld = is.unheld;
      other = one.number;
      holds = one.passes;
      first = one.same;
      second = is.second;
    }

pub request-tells : (g : List Entry) (a b : NamedType) → HasRequest g (a ∷ []) b → TellsOf g a b
request-tells [] a b has = absurd has
request-tells (e ∷ g) a b (inl now) = inl (under-one g e a b now)
request-tells (e ∷ g) a b (inr before) = inr (request-tells g a b before)

-- ---- what is held alone

some-more : (l : ℕ) (ls : List ℕ) → 1 + times l (l ∷ ls) ≡ 1 → ⊥
some-more l ls is =
    let one : times l (l ∷ ls) ≡ 1 + times l ls =
    times-cons l l ls ∙ ap (λ b. cond b 1 0 + times l ls) (eq-eqb l l refl) in
    omega arith

only-one : (l : ℕ) (ls : List ℕ) → ((m : ℕ) → list_any (λ k. eqb k m) ls ≡ eqb l m)
    → times l ls ≡ 1 → ls ≡ l ∷ []
only-one l [] is one = absurd (false≢true (is l ∙ eq-eqb l l refl))
only-one l (k ∷ []) is one =
    let here : l ≡ k = eqb-true l k
    (sym (is k) ∙ ap (λ b. b || false) (eq-eqb k k refl)) in
    ap (λ x. x ∷ []) (sym here)
only-one l (k ∷ n ∷ ls) is one =
    let first : l ≡ k = eqb-true l k
    (sym (is k) ∙ ap (λ b. b || (eqb n k || list_any (λ x. eqb x k) ls)) (eq-eqb k k refl)) in
    let second : l ≡ n = eqb-true l n
    (sym (is n) ∙ (ap (λ b. eqb k n || (b || list_any (λ x. eqb x n) ls)) (eq-eqb n n refl)
    ∙ or-true (eqb k n))) in
    absurd (some-more l ls
    (sym (times-cons l l (l ∷ ls) ∙ ap (λ b. cond b 1 0 + times l (l ∷ ls)) (eq-eqb l l refl))
    ∙ (ap (λ x. times l (l ∷ x ∷ ls)) second ∙ (ap (λ x. times l (x ∷ n ∷ ls)) first ∙ one))))
  where
    or-true : (b : Bool) → (b || true) ≡ true
    or-true true = refl
    or-true false = refl

-- a seat that holds just this lock has it alone in its chain
pub held-one : (t l : ℕ) (g : List Entry) → IsSane g → ((m : ℕ) → is_held t m g ≡ eqb l m)
    → held t g ≡ l ∷ []
held-one t l g sane just =
    only-one l (held t g) (λ m. in-held t m g sane ∙ just m)
    (once t l g sane ∙ ap one_if (just l ∙ eq-eqb l l refl))
