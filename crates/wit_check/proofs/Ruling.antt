-- The rules from the fourth on, each where the ones before it don't apply.
use Rattle.std.proofs.Common.{◌≡◌, ℕ, ap, ◌∙◌, Bool, true, false, not, ◌&&◌, List, [], ◌∷◌, None}
use Rattle.std.proofs.Common.{Some, is_some, Result, Ok, Err, cond, find, reverse, refl}
use Rattle.std.specs.List.{last_or, list_all}
use Rattle.wit_model.specs.declared.profiles.Profile.{Profile}
use Rattle.wit_model.specs.declared.profiles.Profile.TheVariants.{Plain, AllHeld}
use Rattle.wit_model.specs.declared.faults.Fault.{Fault}
use Rattle.wit_model.specs.declared.faults.Fault.TheVariants.{SleepUnderSpin}
use Rattle.wit_model.specs.declared.locks.Watch.{Watch}
use Rattle.wit_model.specs.declared.locks.TypeNo.{TypeNo}
use Rattle.wit_model.specs.declared.locks.Instance.{Instance}
use Rattle.wit_model.specs.declared.calls.TypedRequest.{TypedRequest}
use Rattle.wit_model.specs.declared.calls.Reply.{Reply}
use Rattle.wit_model.specs.declared.calls.Reply.TheVariants.{Pass, Adopted}
use Rattle.wit_model.specs.Rules.Types.{is_spin, class_of}
use Rattle.wit_model.specs.Rules.Orders.{is_direct}
use Rattle.wit_model.specs.Rules.History.{is_on}
use Rattle.wit_model.specs.Rules.Verdict.{Basis, is_of, type_held, has_type_of, again, doubled}
use Rattle.wit_model.specs.Rules.Verdict.{violates, reported, is_direct_behind, is_learnt, when}
use Rattle.wit_model.specs.Rules.Verdict.{decided, told_orders, teaches, chain_asked, ruling}
use Rattle.wit_model.specs.Rules.Chunks.{Chunks, chain_of, list_of}
use Rattle.wit_model.proofs.Orders.Ends.{newest-one}
use Rattle.wit_check.specs.Behind.{over}
use Rattle.wit_check.specs.Held.{sleep_chain, spin_chain}

-- an order that may be learnt is told
told-learnt : (q : TypedRequest) (p : TypeNo) (b : Bool)
    → decided (when b (Ok (Adopted p q.type_no)) ∷ [])
    ≡ decided (told_orders Plain q (cond (b && true && true) (p ∷ []) []) ∷ [])
told-learnt q p true = refl
told-learnt q p false = refl

module _ (g : Basis) (c : List Instance) (last : Instance) (q : TypedRequest) where
  pub again-decides : (i : Instance) → find (is_of q.lock.0) c ≡ Some i
      → again q i ≡ decided (over Plain g c q)
  again-decides i is = rw is refl

  module _ (is_last : last_or None c ≡ Some last) (free : find (is_of q.lock.0) c ≡ None) where
    pub double-decides : has_type_of g q last ≡ true
        → doubled g q last ≡ decided (over Plain g c q)
    double-decides same = rw (free, newest-one c last is_last, same) refl

    module _ (apart : has_type_of g q last ≡ false) where
      pub direct-decides : is_direct g.orders (type_held g last).0 q.type_no.0 ≡ true
          → ◌≡◌ {A = Result Reply Fault} (Ok Pass) (decided (over Plain g c q))
      direct-decides direct = rw (free, newest-one c last is_last, apart, direct) refl

      module _ (new : is_direct g.orders (type_held g last).0 q.type_no.0 ≡ false) where
        pub violation-decides : (i : Instance) → find (violates g q) (reverse c) ≡ Some i
            → reported g q c i ≡ decided (over Plain g c q)
        violation-decides i is = rw (free, newest-one c last is_last, apart, new, is) refl

        pub learning-decides : find (violates g q) (reverse c) ≡ None
            → decided (when (is_learnt g q last) (Ok (Adopted (type_held g last) q.type_no)) ∷ [])
            ≡ decided (over Plain g c q)
        learning-decides none =
            told-learnt q (type_held g last) (is_learnt g q last)
            ∙ rw (free, newest-one c last is_last, apart, new, none) refl

-- the last one where it is compared with all of the chain
pub teaching-decides : (g : Basis) (c : List Instance) (q : TypedRequest)
    → find (is_of q.lock.0) c ≡ None → find (has_type_of g q) (reverse c) ≡ None
    → list_all (is_direct_behind g q) (reverse c) ≡ false → find (violates g q) (reverse c) ≡ None
    → decided (teaches AllHeld g (reverse c) q ∷ []) ≡ decided (over AllHeld g c q)
teaching-decides g c q free apart new none = rw (free, apart, new, none) refl

-- the chain that a request is judged by
module _ (g : Basis) (sleep spin : List Instance) (q : TypedRequest) where
  pub spin-asked : is_spin (class_of q.type_no.0 g.types) ≡ true → spin ≡ chain_asked g sleep spin q
  spin-asked is = rw is refl

  pub sleep-asked : is_spin (class_of q.type_no.0 g.types) ≡ false
      → sleep ≡ chain_asked g sleep spin q
  sleep-asked is = rw is refl

-- no spin lock is in the way: none is held, or one is asked for
pub none-held : (kind held : Bool) → held ≡ false → (not kind && held) ≡ false
none-held true held none = refl
none-held false held none = none

pub of-spin : (kind held : Bool) → kind ≡ true → (not kind && held) ≡ false
of-spin kind held is = rw is refl

module _ (profile : Profile) (g : Basis) (watch : Watch) (sleep spin : List Instance)
    (q : TypedRequest) (on : is_on watch ≡ true) where
  pub spin-decides : is_spin (class_of q.type_no.0 g.types) ≡ false
      → is_some (last_or None spin) ≡ true
      → ◌≡◌ {A = Result Reply Fault} (Err SleepUnderSpin) (ruling profile g watch sleep spin q)
  spin-decides sleeps some = rw (on, sleeps, some) refl

  module _ (calm : (not (is_spin (class_of q.type_no.0 g.types)) && is_some (last_or None spin))
      ≡ false) where
    pub nothing-decides : last_or None (chain_asked g sleep spin q) ≡ None
        → ◌≡◌ {A = Result Reply Fault} (Ok Pass) (ruling profile g watch sleep spin q)
    nothing-decides none = rw (on, calm, none) refl

    pub chain-decides : (last : Instance) → last_or None (chain_asked g sleep spin q) ≡ Some last
        → decided (over profile g (chain_asked g sleep spin q) q)
        ≡ ruling profile g watch sleep spin q
    chain-decides last is = rw (on, calm, is) refl

-- the list of the requested lock's kind is the chain that a request is judged by
pub asked-of : (g : Basis) (c : Chunks) (seat : ℕ) (q : TypedRequest) (spin : Bool) (list : ℕ)
    → is_spin (class_of q.type_no.0 g.types) ≡ spin
    → list ≡ list_of spin seat → chain_of c list
    ≡ chain_asked g (sleep_chain c seat) (spin_chain c seat) q
asked-of g c seat q true list is at =
    ap (chain_of c) at ∙ spin-asked g (sleep_chain c seat) (spin_chain c seat) q is
asked-of g c seat q false list is at =
    ap (chain_of c) at ∙ sleep-asked g (sleep_chain c seat) (spin_chain c seat) q is
