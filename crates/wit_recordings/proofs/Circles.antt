-- The pairs of a clean history lead no type round to itself.
use Rattle.std.proofs.Common.{◌≡◌, ℕ, Bool, true, false, not, ◌&&◌, List, []}
use Rattle.std.proofs.Common.{◌∷◌, find, None, refl, ap, ap₂, sym}
use Rattle.std.proofs.Common.{◌∙◌, subst, inl, inr, arith, length-append}
use Rattle.std.proofs.lemmas.Bool.{false≢true}
use Rattle.wit_model.specs.declared.locks.Class.{Class}
use Rattle.wit_model.specs.declared.locks.Instance.{Instance}
use Rattle.wit_model.specs.declared.calls.Request.{Request}
use Rattle.wit_model.specs.declared.calls.Call.TheVariants.{Check}
use Rattle.wit_model.specs.declared.calls.Entry.{Entry}
use Rattle.wit_model.specs.Rules.Numbers.{IsGiven}
use Rattle.wit_model.specs.Rules.Types.{class_of, name_of}
use Rattle.wit_model.specs.Rules.Locks.{made, locks_of, lock_of, is_spin_lock, is_of_kind}
use Rattle.wit_model.specs.Rules.History.{is_held, chain, instance}
use Rattle.wit_model.specs.Rules.State.{Start, types_of}
use Rattle.wit_model.specs.Rules.Start.{start_fault}
use Rattle.wit_model.specs.Rules.Verdict.{is_of}
use Rattle.wit_model.specs.Rules.Step.{IsLegal}
use Rattle.wit_model.specs.Rules.Ahead.{type_of_lock}
use Rattle.wit_model.specs.Rules.Clean.{is_clean}
use Rattle.wit_recordings.specs.Recordings.{named_type, TellsOf, PairsLead}
use Rattle.wit_model.proofs.Chains.Found.{if_some, found}
use Rattle.wit_model.proofs.Chains.Held.{made_sane}
use Rattle.wit_model.proofs.Histories.Legal.{sane_legal}
use Rattle.wit_model.proofs.Orders.TypedLocks.{made-known, known-made}
use Rattle.wit_model.proofs.VerdictLaws.Ahead.{type-stays}
use Rattle.wit_model.proofs.VerdictLaws.Classes.{type-class, type-name}
use Rattle.wit_model.proofs.VerdictLaws.Judged.{checked}
use Rattle.wit_recordings.proofs.Told.{known-stays, Leads, leads-trans, leads-sound}
use Rattle.wit_recordings.proofs.Told.{told-leads}

-- ---- no circle in a clean history

module _ (start : Start) (files : List (List ℕ)) (h : List Entry) (unblessed : start.blessed ≡ [])
    (legal : IsLegal start files h) (clean : is_clean start.profile h ≡ true) where
  way-leads : (a : Class × List ℕ) (way : List (Class × List ℕ)) (b : Class × List ℕ)
      → PairsLead h a way b → Leads start h a b
  way-leads a [] b is = told-leads start files unblessed h a b legal clean is
  way-leads a (v ∷ way) b is =
      leads-trans start h a v b (told-leads start files unblessed h a v legal clean is.0)
      (way-leads v way b is.1)

  pub clean-no_circle : start_fault start ≡ None → (a : Class × List ℕ)
      → (way : List (Class × List ℕ)) → PairsLead h a way a → ⊥
  clean-no_circle accepted a way is =
      leads-sound start files h a accepted legal (way-leads a way a is)

-- ---- pairs between types by their numbers

-- the class and the name of the type with this number
abbrev pub known_no : Start → List Entry → ℕ → Class × List ℕ
known_no start h n = (class_of n (types_of start h), name_of n (types_of start h))

known-by_no : (start : Start) (files : List (List ℕ)) (h : List Entry) (l : ℕ)
    → IsLegal start files h → IsGiven (locks_of h) l
    → named_type (lock_of (locks_of h) l) ≡ known_no start h (type_of_lock start h l)
known-by_no start files h l legal given =
    let known = known-made start h l given in
    ap₂ (λ (class : Class) (name : List ℕ). (class, name))
    (sym (type-class start files h l legal known)) (sym (type-name start h l known))

pub record ToldNo (start : Start) (h : List Entry) (p c : ℕ) : Type 0 where
  pub from : ℕ
  pub to : ℕ
  pub first : IsGiven (locks_of h) from
  pub second : IsGiven (locks_of h) to
  pub parent : type_of_lock start h from ≡ p
  pub child : type_of_lock start h to ≡ c
  pub told : TellsOf h (named_type (lock_of (locks_of h) from)) (named_type (lock_of (locks_of h) to))

pub given-more : (e : Entry) (h : List Entry) (l : ℕ) → IsGiven (locks_of h) l
    → IsGiven (locks_of (e ∷ h)) l
given-more e h l given =
    (given.0, omega (arith, given.1, length-append (locks_of h) (made e.call)))

pub told-stays : (start : Start) (e : Entry) (h : List Entry) (p c : ℕ) → ToldNo start h p c
    → ToldNo start (e ∷ h) p c
told-stays start e h p c is = record {
  from = is.from;
  to = is.to;
  first = given-more e h is.from is.first;
  second = given-more e h is.to is.second;
  parent = type-stays start e h is.from is.first ∙ is.parent;
  child = type-stays start e h is.to is.second ∙ is.child;
  told =
      inr (subst (λ a. TellsOf h a (named_type (lock_of (locks_of (e ∷ h)) is.to)))
      (sym (known-stays e h is.from is.first))
      (subst (λ b. TellsOf h (named_type (lock_of (locks_of h) is.from)) b)
      (sym (known-stays e h is.to is.second)) is.told));
}

-- an order that is told of by numbers is told of by classes and names
pub told-known : (start : Start) (files : List (List ℕ)) (h : List Entry) (p c : ℕ)
    → IsLegal start files h → ToldNo start h p c → TellsOf h (known_no start h p) (known_no start h c)
told-known start files h p c legal is =
    subst (λ n. TellsOf h (known_no start h n) (known_no start h c)) is.parent
    (subst (λ n. TellsOf h (known_no start h (type_of_lock start h is.from)) (known_no start h n))
    is.child
    (subst (λ a. TellsOf h a (known_no start h (type_of_lock start h is.to)))
    (known-by_no start files h is.from legal is.first)
    (subst (λ b. TellsOf h (named_type (lock_of (locks_of h) is.from)) b)
    (known-by_no start files h is.to legal is.second) is.told)))

-- ---- the pair of a held lock of the same kind

own-kind : (h : List Entry) (l : ℕ) → is_of_kind (is_spin_lock (locks_of h) l) (locks_of h) l ≡ true
own-kind h l = go (is_spin_lock (locks_of h) l) refl
  where
    go : (b : Bool) → is_spin_lock (locks_of h) l ≡ b → is_of_kind b (locks_of h) l ≡ true
    go true is = is
    go false is = ap not is

none-held : (b c : Bool) (i : Instance) → c ≡ true → if_some (b && c) i ≡ None → b ≡ false
none-held false c i one is = refl
none-held true true i one is = (cc)
none-held true false i one is = absurd (false≢true one)

module _ (start : Start) (files : List (List ℕ)) (e : Entry) (h : List Entry) (q : Request)
    (legal : IsLegal start files (e ∷ h)) (asks : e.call ≡ Check q) where
  abbrev pub chain_own : List Instance
  chain_own = chain (is_spin_lock (locks_of h) q.lock.0) e.seat.0 h

  pub free-unheld : find (is_of q.lock.0) chain_own ≡ None → is_held e.seat.0 q.lock.0 h ≡ false
  free-unheld free =
      none-held (is_held e.seat.0 q.lock.0 h)
      (is_of_kind (is_spin_lock (locks_of h) q.lock.0) (locks_of h) q.lock.0)
      (instance e.seat.0 h q.lock.0) (own-kind h q.lock.0)
      (sym (found (is_spin_lock (locks_of h) q.lock.0) e.seat.0 q.lock.0 h
      (sane_legal start files h legal.2)) ∙ free)

  pub told-check : (l : ℕ) → is_held e.seat.0 l h ≡ true
      → is_held e.seat.0 q.lock.0 h ≡ false
      → ToldNo start (e ∷ h) (type_of_lock start h l) (type_of_lock start h q.lock.0)
  told-check l holds unheld =
      let was = made_sane e.seat.0 l h (sane_legal start files h legal.2) holds in
      let asked = made-known start h q.lock.0 (checked start files e h q legal asks).lock in
      record {
        from = l;
        to = q.lock.0;
        first = given-more e h l was;
        second = given-more e h q.lock.0 asked;
        parent = type-stays start e h l was;
        child = type-stays start e h q.lock.0 asked;
        told = inl (record {
          request = q;
          asks = asks;
          unheld = unheld;
          other = l;
          holds = holds;
          first = sym (known-stays e h l was);
          second = sym (known-stays e h q.lock.0 asked);
        });
      }
