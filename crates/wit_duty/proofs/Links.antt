-- What is known of the links of a chain.
use Rattle.std.proofs.Common.{◌≡◌, ℕ, Bool, true, false, not, ◌&&◌, ◌||◌, eqb, List, [], ◌∷◌, refl, ap}
use Rattle.std.proofs.Common.{◌∙◌, subst, ⊎_elim}
use Rattle.std.specs.List.{list_all}
use Rattle.std.proofs.lemmas.Bool.{and_parts, false≢true, eqb-true, eq-eqb}
use Rattle.wit_condensed.specs.declared.chain.Link.{Link}
use Rattle.wit_condensed.specs.Chains.{has_lock, has_type, is_alone}
use Rattle.wit_model.specs.declared.calls.Entry.{Entry}
use Rattle.wit_model.specs.Rules.Locks.{locks_of, lock_of}
use Rattle.wit_recordings.specs.Recordings.{NamedType, named_type}
use Rattle.wit_recordings.proofs.Behind.{or_split}
use Rattle.wit_duty.specs.Streams.{IsOfType, AreTyped, has_written}
use Rattle.wit_duty.proofs.Writing.{has_new}

-- a link is written, or it isn't yet
pub written-or-new : (links : List Link) (m : ℕ) → (has_written links m || has_new links m)
    ≡ has_lock links m
written-or-new [] m = refl
written-or-new (link ∷ links) m =
    go link.written (eqb link.lock m) (has_written links m) (has_new links m)
    ∙ ap (λ b. eqb link.lock m || b) (written-or-new links m)
  where
    go : (w e x y : Bool) → (((w && e) || x) || ((not w && e) || y)) ≡ (e || (x || y))
    go true true x y = refl
    go true false x y = refl
    go false true true y = refl
    go false true false y = refl
    go false false x y = refl

pub not-written : (links : List Link) (m : ℕ) → has_lock links m ≡ false
    → has_written links m ≡ false
not-written links m none = left (has_written links m) (has_new links m) (written-or-new links m ∙ none)
  where
    left : (a b : Bool) → (a || b) ≡ false → a ≡ false
    left true b is = is
    left false b is = refl

pub alone-has : (links : List Link) (a : ℕ) → is_alone links a ≡ true → has_type links a ≡ true
alone-has [] a is = absurd (false≢true is)
alone-has (link ∷ []) a is = ap (λ b. b || false) is
alone-has (link ∷ other ∷ links) a is = absurd (false≢true is)

-- the types stay as long as no lock is made
pub typed-same : (named : ℕ → NamedType) (g more : List Entry) (links : List Link)
    → locks_of more ≡ locks_of g → AreTyped named g links → AreTyped named more links
typed-same named g more [] same is = tt
typed-same named g more (link ∷ links) same is = (
  ap (λ ls. named_type (lock_of ls link.lock)) same ∙ is.0,
  typed-same named g more links same is.1,
)

-- a link of a type
pub record LinkOf (named : ℕ → NamedType) (g : List Entry) (links : List Link) (a : ℕ) : Type 0 where
  pub lock : ℕ
  pub has : has_lock links lock ≡ true
  pub typed : IsOfType named g lock a

or-right : (a b : Bool) → b ≡ true → (a || b) ≡ true
or-right true b is = refl
or-right false b is = is

pub link-of : (named : ℕ → NamedType) (g : List Entry) (links : List Link) (a : ℕ)
    → AreTyped named g links → has_type links a ≡ true → LinkOf named g links a
link-of named g [] a typed is = absurd (false≢true is)
link-of named g (link ∷ links) a typed is =
    ⊎_elim
    (λ here. record {
      lock = link.lock;
      has = ap (λ b. b || has_lock links link.lock) (eq-eqb link.lock link.lock refl);
      typed = subst (IsOfType named g link.lock) (eqb-true link.type_no a here) typed.0;
    })
    (λ later.
    let found = link-of named g links a typed.1 later in
    record {
      lock = found.lock;
      has = or-right (eqb link.lock found.lock) (has_lock links found.lock) found.has;
      typed = found.typed;
    })
    (or_split (eqb link.type_no a) (has_type links a) is)

-- what holds of the types of all links holds of each
pub all-types : (test : ℕ → Bool) (links : List Link) (a : ℕ)
    → list_all (λ (link : Link). test link.type_no) links ≡ true → has_type links a ≡ true
    → test a ≡ true
all-types test [] a all is = absurd (false≢true is)
all-types test (link ∷ links) a all is =
    let parts = and_parts (test link.type_no)
    (list_all (λ (x : Link). test x.type_no) links) all in
    ⊎_elim (λ here. subst (λ b. test b ≡ true) (eqb-true link.type_no a here) parts.0)
    (λ later. all-types test links a parts.1 later)
    (or_split (eqb link.type_no a) (has_type links a) is)
