-- Whether a request is let pass is decided by what its seat holds, by the types and by what is
-- watched: which orders are known only changes how it is answered.
use Rattle.std.proofs.Common.{◌≡◌, ℕ, Bool, true, false, not, ◌&&◌, ◌||◌, cond, List, [], ◌∷◌, map}
use Rattle.std.proofs.Common.{is_none, Option, None, Some, Result, Ok, Err, find, refl, sym}
use Rattle.std.proofs.Common.{subst}
use Rattle.std.specs.List.{last_or}
use Rattle.std.specs.Option.{option_map}
use Rattle.wit_model.specs.declared.profiles.Profile.{Profile}
use Rattle.wit_model.specs.declared.profiles.Profile.TheVariants.{Plain, AllHeld}
use Rattle.wit_model.specs.declared.faults.Fault.{Fault}
use Rattle.wit_model.specs.declared.faults.Fault.TheVariants.{SharedOfExclusive, ExclusiveOfShared}
use Rattle.wit_model.specs.declared.faults.Fault.TheVariants.{Recursed, SleepUnderSpin}
use Rattle.wit_model.specs.declared.locks.TypeNo.{TypeNo}
use Rattle.wit_model.specs.declared.locks.Watch.{Watch}
use Rattle.wit_model.specs.declared.locks.Instance.{Instance}
use Rattle.wit_model.specs.declared.calls.Adoption.{Adoption}
use Rattle.wit_model.specs.declared.calls.Request.{Request}
use Rattle.wit_model.specs.declared.calls.TypedRequest.{TypedRequest}
use Rattle.wit_model.specs.declared.calls.Reply.{Reply}
use Rattle.wit_model.specs.declared.calls.Reply.TheVariants.{Pass, Silent, Duplicate, Reversal}
use Rattle.wit_model.specs.Laws.{is_exhaustion}
use Rattle.wit_model.specs.declared.locks.LockType.{LockType}
use Rattle.wit_model.specs.declared.locks.Lock.{Lock}
use Rattle.wit_model.specs.Rules.Locks.{has_flag, lock_at}
use Rattle.wit_model.specs.Rules.Orders.{is_found}
use Rattle.wit_model.specs.Rules.History.{is_on}
use Rattle.wit_model.specs.Rules.State.{Known, Seat}
use Rattle.wit_model.specs.Rules.Verdict.{Basis, Rule, when, decided, isnt_watched}
use Rattle.wit_model.specs.Rules.Verdict.{sleeps_under_spin, holds_nothing, again, holds_it, doubled}
use Rattle.wit_model.specs.Rules.Verdict.{compared, doubles, has_type_of, follows}
use Rattle.wit_model.specs.Rules.Verdict.{is_exclusive, is_of, type_held, is_blessed, conflict}
use Rattle.wit_model.specs.Rules.Verdict.{reported, breaks_order, new_parents, told_orders}
use Rattle.wit_model.specs.Rules.Verdict.{teaches, rules, chain_asked, ruling, basis_of}
use Rattle.wit_model.specs.Rules.Verdict.{typed_request, place_of, place_asked, verdict}
use Rattle.wit_model.specs.Rules.Step.{is_logged}

-- a reply that a check may have: it is logged, and no exhaustion
abbrev pub IsTold : Reply → Type 0
IsTold r = (is_logged r ≡ true) × (is_exhaustion r ≡ false)

-- let pass with such a reply
abbrev pub IsLet : Result Reply Fault → Type 0
IsLet (Ok r) = IsTold r
IsLet (Err f) = ⊥

-- if it is let pass at all
abbrev IsFair : Result Reply Fault → Type 0
IsFair (Ok r) = IsTold r
IsFair (Err f) = Unit {0}

abbrev IsMild : Rule → Type 0
IsMild None = Unit {0}
IsMild (Some answer) = IsLet answer

abbrev IsFairRule : Rule → Type 0
IsFairRule None = Unit {0}
IsFairRule (Some answer) = IsFair answer

-- ---- lists of rules

let-next : (a : Rule) (others : List Rule) → IsMild a → IsLet (decided others)
    → IsLet (decided (a ∷ others))
let-next None others mild rest = rest
let-next (Some x) others mild rest = mild

fair-next : (a : Rule) (others : List Rule) → IsFairRule a → IsFair (decided others)
    → IsFair (decided (a ∷ others))
fair-next None others fair rest = rest
fair-next (Some x) others fair rest = fair

onward : (a : Rule) (others news : List Rule) → (IsLet (decided others) → IsLet (decided news))
    → IsLet (decided (a ∷ others)) → IsLet (decided (a ∷ news))
onward None others news rest is = rest is
onward (Some x) others news rest is = is

-- ---- the later rules refuse nothing

mild-map : (f : Instance → Result Reply Fault) → ((i : Instance) → IsLet (f i))
    → (o : Option Instance) → IsMild (option_map f o)
mild-map f all None = tt
mild-map f all (Some i) = all i

doubled-let : (g : Basis) (q : TypedRequest) (i : Instance) → IsLet (doubled g q i)
doubled-let g q i =
    go (has_flag q.flags.0 0x02 || has_flag q.ops.0 0x02) (is_found g.found q.type_no.0 q.type_no.0)
  where
    go : (a b : Bool)
        → IsLet (cond {A = Result Reply Fault} a (Ok Pass)
        (cond b (Ok (Silent q.type_no q.type_no))
        (Ok (Duplicate (record { last = place_of i; asked = place_asked q })))))
    go true b = (refl, refl)
    go false true = (refl, refl)
    go false false = (refl, refl)

reported-let : (g : Basis) (q : TypedRequest) (c : List Instance) (i : Instance)
    → IsLet (reported g q c i)
reported-let g q c i =
    go (is_found g.found (type_held g i).0 q.type_no.0 || is_blessed g (type_held g i) q.type_no)
  where
    go : (a : Bool)
        → IsLet (cond {A = Result Reply Fault} a (Ok (Silent (type_held g i) q.type_no))
        (Ok (Reversal (conflict g q c i))))
    go true = (refl, refl)
    go false = (refl, refl)

when-mild : (b : Bool) → IsMild (when b (Ok Pass))
when-mild true = (refl, refl)
when-mild false = tt

told-mild : (profile : Profile) (q : TypedRequest) (parents : List TypeNo)
    → IsMild (told_orders profile q parents)
told-mild profile q [] = tt
told-mild Plain q (p ∷ parents) = (refl, refl)
told-mild AllHeld q (p ∷ parents) = (refl, refl)

abbrev later_rules : Profile → Basis → List Instance → TypedRequest → List Rule
later_rules profile g chain q =
    doubles g (compared profile chain) q
    ∷ follows g (compared profile chain) q
    ∷ breaks_order g chain q
    ∷ teaches profile g (compared profile chain) q
    ∷ []

later-let : (profile : Profile) (g : Basis) (chain : List Instance) (q : TypedRequest)
    → IsLet (decided (later_rules profile g chain q))
later-let profile g chain q =
    let-next (doubles g (compared profile chain) q)
    (follows g (compared profile chain) q ∷ breaks_order g chain q
    ∷ teaches profile g (compared profile chain) q ∷ [])
    (mild-map (doubled g q) (doubled-let g q) (find (has_type_of g q) (compared profile chain)))
    (let-next (follows g (compared profile chain) q)
    (breaks_order g chain q ∷ teaches profile g (compared profile chain) q ∷ [])
    (when-mild _)
    (let-next (breaks_order g chain q) (teaches profile g (compared profile chain) q ∷ [])
    (mild-map (reported g q chain) (reported-let g q chain) _)
    (let-next (teaches profile g (compared profile chain) q) []
    (told-mild profile q (new_parents g q [] (compared profile chain))) (refl, refl))))

-- ---- and the earlier ones know no orders

fair-when : (b : Bool) → IsFairRule (when b (Ok Pass))
fair-when true = (refl, refl)
fair-when false = tt

fair-refused : (b : Bool) → IsFairRule (when b (Err SleepUnderSpin))
fair-refused true = tt
fair-refused false = tt

fair-again : (q : TypedRequest) (i : Instance) → IsFair (again q i)
fair-again q i =
    go (is_exclusive i.mode && not (is_exclusive q.mode))
    (not (is_exclusive i.mode) && is_exclusive q.mode) (has_flag q.ops.0 0x04)
    (is_exclusive i.mode && not (has_flag q.flags.0 0x01))
  where
    go : (a b c d : Bool)
        → IsFair (cond {A = Result Reply Fault} a (Err SharedOfExclusive)
        (cond b (Err ExclusiveOfShared) (cond c (Err Recursed) (cond d (Err Recursed) (Ok Pass)))))
    go true b c d = tt
    go false true c d = tt
    go false false true d = tt
    go false false false true = tt
    go false false false false = (refl, refl)

fair-map : (f : Instance → Result Reply Fault) → ((i : Instance) → IsFair (f i))
    → (o : Option Instance) → IsFairRule (option_map f o)
fair-map f all None = tt
fair-map f all (Some i) = all i

fair-let : (a : Result Reply Fault) → IsLet a → IsFair a
fair-let (Ok r) is = is
fair-let (Err f) is = tt

module _ (profile : Profile) (g : Basis) (watch : Watch) (spin chain : List Instance)
    (q : TypedRequest) where
  fair-rules : IsFair (decided (rules profile g watch spin chain q))
  fair-rules =
      fair-next (isnt_watched watch)
      (sleeps_under_spin g spin q ∷ holds_nothing (last_or None chain) ∷ holds_it chain q
      ∷ later_rules profile g chain q)
      (fair-when (not (is_on watch)))
      (fair-next (sleeps_under_spin g spin q)
      (holds_nothing (last_or None chain) ∷ holds_it chain q ∷ later_rules profile g chain q)
      (fair-refused _)
      (fair-next (holds_nothing (last_or None chain))
      (holds_it chain q ∷ later_rules profile g chain q)
      (fair-when (is_none (last_or None chain)))
      (fair-next (holds_it chain q) (later_rules profile g chain q)
      (fair-map (again q) (fair-again q) (find (is_of q.lock.0) chain))
      (fair-let (decided (later_rules profile g chain q)) (later-let profile g chain q)))))

told-by : (a : Result Reply Fault) (r : Reply) → IsFair a → a ≡ Ok r → IsTold r
told-by (Ok x) r fair is = subst (λ y. IsTold y) (let same : x ≡ r = cc in same) fair
told-by (Err f) r fair is = (cc)

-- what a verdict answers
pub verdict-told : (profile : Profile) (k : Known) (watch : Watch) (seat : Seat) (q : Request)
    (r : Reply) → verdict profile k watch seat q ≡ Ok r → IsTold r
verdict-told profile k watch seat q r is =
    told-by (verdict profile k watch seat q) r
    (fair-rules profile (basis_of k) watch seat.spin
    (chain_asked (basis_of k) seat.sleep seat.spin (typed_request k q)) (typed_request k q)) is

abbrev basis : List LockType → List TypeNo → List (List ℕ × List ℕ) → List Adoption
    → List (TypeNo × TypeNo) → Basis
basis types lock_types blessed orders found = record {
  types = types;
  lock_types = lock_types;
  orders = orders;
  found = found;
  blessed = blessed;
}

-- with other orders, and other pairs found
module _ (profile : Profile) (types : List LockType) (lock_types : List TypeNo)
    (blessed : List (List ℕ × List ℕ)) (orders orders' : List Adoption)
    (found found' : List (TypeNo × TypeNo)) (watch : Watch) (spin chain : List Instance)
    (q : TypedRequest) where
  abbrev old : Basis
  old = basis types lock_types blessed orders found

  abbrev new : Basis
  new = basis types lock_types blessed orders' found'

  rules-let : IsLet (decided (rules profile old watch spin chain q))
      → IsLet (decided (rules profile new watch spin chain q))
  rules-let is =
      onward (isnt_watched watch)
      (sleeps_under_spin old spin q ∷ holds_nothing (last_or None chain) ∷ holds_it chain q
      ∷ later_rules profile old chain q)
      (sleeps_under_spin old spin q ∷ holds_nothing (last_or None chain) ∷ holds_it chain q
      ∷ later_rules profile new chain q)
      (onward (sleeps_under_spin old spin q)
      (holds_nothing (last_or None chain) ∷ holds_it chain q ∷ later_rules profile old chain q)
      (holds_nothing (last_or None chain) ∷ holds_it chain q ∷ later_rules profile new chain q)
      (onward (holds_nothing (last_or None chain))
      (holds_it chain q ∷ later_rules profile old chain q)
      (holds_it chain q ∷ later_rules profile new chain q)
      (onward (holds_it chain q) (later_rules profile old chain q) (later_rules profile new chain q)
      (λ x. later-let profile new chain q)))) is

-- a verifier that knows other orders, and found other pairs, lets the same requests pass
module _ (profile : Profile) (k k' : Known) (watch : Watch) (seat : Seat) (q : Request) where
  abbrev typed : List Lock → TypedRequest
  typed locks = record {
    lock = q.lock;
    type_no = (lock_at locks q.lock.0).type_no;
    flags = (lock_at locks q.lock.0).made.flags;
    mode = q.mode;
    ops = q.ops;
    site = q.site;
  }

  abbrev numbers : List Lock → List TypeNo
  numbers locks = map (λ (l : Lock). l.type_no) locks

  abbrev LetBy : List LockType → List Lock → List (List ℕ × List ℕ) → Type 0
  LetBy types locks blessed =
      IsLet (ruling profile (basis types (numbers locks) blessed k'.orders k'.found) watch
      seat.sleep seat.spin (typed locks))

  pub verdict-let : k'.types ≡ k.types → k'.locks ≡ k.locks → k'.blessed ≡ k.blessed
      → IsLet (verdict profile k watch seat q) → IsLet (verdict profile k' watch seat q)
  verdict-let types locks blessed is =
      subst (λ x. LetBy x k'.locks k'.blessed) (sym types)
      (subst (λ x. LetBy k.types x k'.blessed) (sym locks)
      (subst (λ x. LetBy k.types k.locks x) (sym blessed)
      (rules-let profile k.types (numbers k.locks) k.blessed k.orders k'.orders k.found k'.found
      watch seat.spin (chain_asked (basis_of k) seat.sleep seat.spin (typed k.locks))
      (typed k.locks) is)))
