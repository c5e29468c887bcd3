-- What an accepted verdict says: the request passes, an order is learnt, a type is held twice, or a
-- held lock violates an order.
use Rattle.std.proofs.Common.{◌≡◌, Bool, true, false, not, ◌&&◌, cond, List, [], ◌∷◌, Option, None}
use Rattle.std.proofs.Common.{Some, Ok, Err, is_some, find, reverse, refl, ap, sym, ◌∙◌}
use Rattle.std.specs.List.{list_all, last_or}
use Rattle.std.specs.Option.{option_map}
use Rattle.wit_model.specs.declared.profiles.Profile.{Profile}
use Rattle.wit_model.specs.declared.profiles.Profile.TheVariants.{Plain, AllHeld}
use Rattle.wit_model.specs.declared.faults.Fault.TheVariants.{SleepUnderSpin}
use Rattle.wit_model.specs.declared.locks.TypeNo.{TypeNo}
use Rattle.wit_model.specs.declared.locks.Watch.{Watch}
use Rattle.wit_model.specs.declared.locks.Instance.{Instance}
use Rattle.wit_model.specs.declared.calls.TypedRequest.{TypedRequest}
use Rattle.wit_model.specs.declared.calls.Reply.{Reply}
use Rattle.wit_model.specs.declared.calls.Reply.TheVariants.{Pass, Adopted, AdoptedAll}
use Rattle.wit_model.specs.Rules.Locks.{has_flag}
use Rattle.wit_model.specs.Rules.Orders.{is_direct}
use Rattle.wit_model.specs.Rules.History.{is_on}
use Rattle.wit_model.specs.Rules.Types.{is_spin, class_of}
use Rattle.wit_model.specs.Rules.Verdict.{Basis, Rule, is_exclusive, is_of, type_held, has_type_of}
use Rattle.wit_model.specs.Rules.Verdict.{again, doubled, violates, reported, is_learnt, when}
use Rattle.wit_model.specs.Rules.Verdict.{decided, compared, doubles, follows, breaks_order}
use Rattle.wit_model.specs.Rules.Verdict.{teaches, is_direct_behind, new_parents, orders_behind}
use Rattle.wit_model.specs.Rules.Verdict.{told_orders, holds_it}
use Rattle.wit_model.specs.Rules.Verdict.{holds_nothing, sleeps_under_spin, chain_asked, ruling}
use Rattle.wit_model.proofs.Histories.Accepted.{passed, same_reply}
use Rattle.wit_model.proofs.Orders.Ends.{newest-one, found-last, all-last, found-passes}

-- the lock is asked for behind another one
pub record IsBehind (q : TypedRequest) (c : List Instance) (last : Instance) : Type 0 where
  pub is_last : last_or None c ≡ Some last
  pub free : find (is_of q.lock.0) c ≡ None

-- behind one of another type, by an order that isn't a direct one
pub record IsNewBehind (g : Basis) (q : TypedRequest) (c : List Instance)
    (last : Instance) : Type 0 where
  pub behind : IsBehind q c last
  pub apart : has_type_of g q last ≡ false
  pub new : is_direct g.orders (type_held g last).0 q.type_no.0 ≡ false

-- the order behind the last held lock is learnt
pub record Learns (g : Basis) (q : TypedRequest) (c : List Instance) (r : Reply) : Type 0 where
  pub last : Instance
  pub is_new : IsNewBehind g q c last
  pub orderly : find (violates g q) (reverse c) ≡ None
  pub allowed : is_learnt g q last ≡ true
  pub reply : r ≡ Adopted (type_held g last) q.type_no

-- no held lock is of the type
abbrev pub AreApart : Basis → TypedRequest → List Instance → Type 0
AreApart g q c = find (has_type_of g q) (reverse c) ≡ None

-- the orders behind all held locks are learnt
pub record LearnsAll (g : Basis) (q : TypedRequest) (c : List Instance) (r : Reply) : Type 0 where
  pub apart : AreApart g q c
  pub orderly : find (violates g q) (reverse c) ≡ None
  pub reply : r ≡ AdoptedAll (orders_behind q (new_parents g q [] (reverse c)))

-- a held lock is of the type: the last one, where the last one alone is compared with
pub record Doubles (profile : Profile) (g : Basis) (q : TypedRequest) (c : List Instance)
    (r : Reply) : Type 0 where
  pub held : Instance
  pub of_chain : (has : Instance → Bool) → list_all has c ≡ true → has held ≡ true
  pub behind : profile ≡ Plain → IsBehind q c held
  pub same : has_type_of g q held ≡ true
  pub reply : doubled g q held ≡ Ok r

-- the lock is asked for behind one by an order that isn't known
pub record IsUnknown (g : Basis) (q : TypedRequest) (c : List Instance) : Type 0 where
  pub last : Instance
  pub is_new : IsNewBehind g q c last

-- a held lock violates an order
pub record Breaks (profile : Profile) (g : Basis) (q : TypedRequest) (c : List Instance)
    (r : Reply) : Type 0 where
  pub unknown : profile ≡ Plain → IsUnknown g q c
  pub held : Instance
  pub violation : find (violates g q) (reverse c) ≡ Some held
  pub reply : reported g q c held ≡ Ok r

-- the lock follows the last one by a direct order
pub record Follows (g : Basis) (q : TypedRequest) (c : List Instance) : Type 0 where
  pub last : Instance
  pub behind : IsBehind q c last
  pub direct : is_direct g.orders (type_held g last).0 q.type_no.0 ≡ true

-- no order is violated, and none is to be learnt
pub record Forgoes (g : Basis) (q : TypedRequest) (c : List Instance) : Type 0 where
  pub last : Instance
  pub is_new : IsNewBehind g q c last
  pub orderly : find (violates g q) (reverse c) ≡ None
  pub barred : is_learnt g q last ≡ false

-- no order is violated, and of all held locks none is to be learnt
pub record ForgoesAll (g : Basis) (q : TypedRequest) (c : List Instance) : Type 0 where
  pub apart : AreApart g q c
  pub orderly : find (violates g q) (reverse c) ≡ None
  pub barred : new_parents g q [] (reverse c) ≡ []

-- the lock is held
pub record Recurs (q : TypedRequest) (c : List Instance) : Type 0 where
  pub held : Instance
  pub is_held : find (is_of q.lock.0) c ≡ Some held

-- why a request passes where nothing doubles it
pub data Cause (profile : Profile) (g : Basis) (watch : Watch) (q : TypedRequest)
    (c : List Instance) : Type 0 where
  Unwatched : is_on watch ≡ false → Cause profile g watch q c
  Empty : last_or None c ≡ None → Cause profile g watch q c
  Recursion : Recurs q c → Cause profile g watch q c
  Known : profile ≡ Plain → Follows g q c → Cause profile g watch q c
  KnownAll : profile ≡ AllHeld → list_all (is_direct_behind g q) (reverse c) ≡ true
      → Cause profile g watch q c
  Untaught : profile ≡ Plain → Forgoes g q c → Cause profile g watch q c
  UntaughtAll : profile ≡ AllHeld → ForgoesAll g q c → Cause profile g watch q c

pub data Says (profile : Profile) (g : Basis) (watch : Watch) (q : TypedRequest) (c : List Instance)
    (r : Reply) : Type 0 where
  Passed : r ≡ Pass → Cause profile g watch q c → Says profile g watch q c r
  Learnt : profile ≡ Plain → Learns g q c r → Says profile g watch q c r
  LearntAll : profile ≡ AllHeld → LearnsAll g q c r → Says profile g watch q c r
  Doubled : Doubles profile g q c r → Says profile g watch q c r
  Broken : Breaks profile g q c r → Says profile g watch q c r

unlike : (A : Type 0) → AllHeld ≡ Plain → A
unlike A same = (cc)

again_passes : (q : TypedRequest) (i : Instance) (r : Reply) → again q i ≡ Ok r → r ≡ Pass
again_passes q i r ok =
    let one = passed (is_exclusive i.mode && not (is_exclusive q.mode)) _ _ r ok in
    let two = passed (not (is_exclusive i.mode) && is_exclusive q.mode) _ _ r one.1 in
    let three = passed (has_flag q.ops.0 0x04) _ _ r two.1 in
    let four =
    passed (is_exclusive i.mode && not (has_flag q.flags.0 0x01)) _ (Ok Pass) r three.1 in
    sym (same_reply four.1)

-- the last held lock alone is compared with
module _ (g : Basis) (watch : Watch) (q : TypedRequest) (c : List Instance) (r : Reply) where
  learning : (last : Instance) → IsNewBehind g q c last → find (violates g q) (reverse c) ≡ None
      → (b : Bool) → is_learnt g q last ≡ b
      → decided (told_orders Plain q (cond (b && true && true) (type_held g last ∷ []) []) ∷ [])
      ≡ Ok r
      → Says Plain g watch q c r
  learning last new orderly true is told =
      Learnt refl (record {
        last = last;
        is_new = new;
        orderly = orderly;
        allowed = is;
        reply = sym (same_reply told);
      })
  learning last new orderly false is told =
      Passed (sym (same_reply told))
      (Untaught refl (record { last = last; is_new = new; orderly = orderly; barred = is }))

  breaking : (last : Instance) → IsNewBehind g q c last → (o : Option Instance)
      → find (violates g q) (reverse c) ≡ o
      → decided (option_map (reported g q c) o ∷ teaches Plain g (last ∷ []) q ∷ []) ≡ Ok r
      → Says Plain g watch q c r
  breaking last new (Some i) sees told =
      Broken (record {
        unknown = λ plain. record { last = last; is_new = new };
        held = i;
        violation = sees;
        reply = told;
      })
  breaking last new None sees told =
      learning last new sees (is_learnt g q last) refl
      (ap (λ b. decided (told_orders Plain q (cond (is_learnt g q last && not b && true)
      (type_held g last ∷ []) []) ∷ [])) (sym new.new) ∙ told)

  following : (last : Instance) → IsBehind q c last → has_type_of g q last ≡ false
      → (b : Bool) → is_direct g.orders (type_held g last).0 q.type_no.0 ≡ b
      → decided (when (b && true) (Ok Pass) ∷ breaks_order g c q
      ∷ teaches Plain g (last ∷ []) q ∷ []) ≡ Ok r
      → Says Plain g watch q c r
  following last behind apart true is told =
      Passed (sym (same_reply told))
      (Known refl (record { last = last; behind = behind; direct = is }))
  following last behind apart false is told =
      breaking last (record { behind = behind; apart = apart; new = is })
      (find (violates g q) (reverse c)) refl told

  doubling : (last : Instance) → IsBehind q c last → (b : Bool) → has_type_of g q last ≡ b
      → decided (option_map (doubled g q) (cond b (Some last) None) ∷ follows g (last ∷ []) q
      ∷ breaks_order g c q ∷ teaches Plain g (last ∷ []) q ∷ []) ≡ Ok r → Says Plain g watch q c r
  doubling last behind true is told =
      Doubled (record {
        held = last;
        of_chain = λ has all. all-last has c last all behind.is_last;
        behind = λ plain. behind;
        same = is;
        reply = told;
      })
  doubling last behind false is told =
      following last behind is (is_direct g.orders (type_held g last).0 q.type_no.0) refl told

-- all held locks are
module _ (g : Basis) (watch : Watch) (q : TypedRequest) (c : List Instance) (r : Reply) where
  learning-all : AreApart g q c → find (violates g q) (reverse c) ≡ None → (ps : List TypeNo)
      → new_parents g q [] (reverse c) ≡ ps
      → decided (told_orders AllHeld q ps ∷ []) ≡ Ok r → Says AllHeld g watch q c r
  learning-all apart orderly [] is told =
      Passed (sym (same_reply told))
      (UntaughtAll refl (record { apart = apart; orderly = orderly; barred = is }))
  learning-all apart orderly (p ∷ ps) is told =
      LearntAll refl (record {
        apart = apart;
        orderly = orderly;
        reply = sym (same_reply told) ∙ ap (λ l. AdoptedAll (orders_behind q l)) (sym is);
      })

  breaking-all : AreApart g q c → (o : Option Instance) → find (violates g q) (reverse c) ≡ o
      → decided (option_map (reported g q c) o ∷ teaches AllHeld g (reverse c) q ∷ []) ≡ Ok r
      → Says AllHeld g watch q c r
  breaking-all apart (Some i) sees told =
      Broken (record {
        unknown = λ plain. unlike (IsUnknown g q c) plain;
        held = i;
        violation = sees;
        reply = told;
      })
  breaking-all apart None sees told =
      learning-all apart sees (new_parents g q [] (reverse c)) refl told

  following-all : AreApart g q c → (b : Bool) → list_all (is_direct_behind g q) (reverse c) ≡ b
      → decided (when b (Ok Pass) ∷ breaks_order g c q ∷ teaches AllHeld g (reverse c) q ∷ [])
      ≡ Ok r
      → Says AllHeld g watch q c r
  following-all apart true is told = Passed (sym (same_reply told)) (KnownAll refl is)
  following-all apart false is told = breaking-all apart (find (violates g q) (reverse c)) refl told

  doubling-all : (o : Option Instance) → find (has_type_of g q) (reverse c) ≡ o
      → decided (option_map (doubled g q) o ∷ follows g (reverse c) q ∷ breaks_order g c q
      ∷ teaches AllHeld g (reverse c) q ∷ []) ≡ Ok r → Says AllHeld g watch q c r
  doubling-all None is told =
      following-all is (list_all (is_direct_behind g q) (reverse c)) refl told
  doubling-all (Some i) is told =
      Doubled (record {
        held = i;
        of_chain = λ has all. found-last has (has_type_of g q) c i all is;
        behind = λ plain. unlike (IsBehind q c i) plain;
        same = found-passes (has_type_of g q) (reverse c) i is;
        reply = told;
      })

-- the rules that compare it with these, and what they stand with
abbrev later_rules : Profile → Basis → List Instance → List Instance → TypedRequest → List Rule
later_rules profile g c held q =
    doubles g held q ∷ follows g held q ∷ breaks_order g c q ∷ teaches profile g held q ∷ []

comparing : (profile : Profile) (g : Basis) (watch : Watch) (q : TypedRequest) (c : List Instance)
    (r : Reply) (last : Instance) → IsBehind q c last
    → decided (later_rules profile g c (compared profile c) q) ≡ Ok r → Says profile g watch q c r
comparing Plain g watch q c r last behind told =
    doubling g watch q c r last behind (has_type_of g q last) refl
    (ap (λ held. decided (later_rules Plain g c held q)) (sym (newest-one c last behind.is_last))
    ∙ told)
comparing AllHeld g watch q c r last behind told =
    doubling-all g watch q c r (find (has_type_of g q) (reverse c)) refl told

module _ (profile : Profile) (g : Basis) (watch : Watch) (q : TypedRequest) (c : List Instance)
    (r : Reply) where
  recurring : (last : Instance) → last_or None c ≡ Some last → (o : Option Instance)
      → find (is_of q.lock.0) c ≡ o
      → decided (option_map (again q) o ∷ later_rules profile g c (compared profile c) q) ≡ Ok r
      → Says profile g watch q c r
  recurring last is_last (Some i) there told =
      Passed (again_passes q i r told) (Recursion (record { held = i; is_held = there }))
  recurring last is_last None free told =
      comparing profile g watch q c r last (record { is_last = is_last; free = free }) told

  holding : (o : Option Instance) → last_or None c ≡ o
      → decided (holds_nothing o ∷ holds_it c q ∷ later_rules profile g c (compared profile c) q)
      ≡ Ok r → Says profile g watch q c r
  holding None is told = Passed (sym (same_reply told)) (Empty is)
  holding (Some last) is told = recurring last is (find (is_of q.lock.0) c) refl told

  sleeping : (spin : List Instance) (b : Bool)
      → decided (when b (Err SleepUnderSpin) ∷ holds_nothing (last_or None c) ∷ holds_it c q
      ∷ later_rules profile g c (compared profile c) q) ≡ Ok r
      → Says profile g watch q c r
  sleeping spin true told = (cc)
  sleeping spin false told = holding (last_or None c) refl told

  watching : (spin : List Instance) (b : Bool) → is_on watch ≡ b
      → decided (when (not b) (Ok Pass) ∷ sleeps_under_spin g spin q
      ∷ holds_nothing (last_or None c) ∷ holds_it c q
      ∷ later_rules profile g c (compared profile c) q) ≡ Ok r → Says profile g watch q c r
  watching spin false is told = Passed (sym (same_reply told)) (Unwatched is)
  watching spin true is told =
      sleeping spin (not (is_spin (class_of q.type_no.0 g.types))
      && is_some (last_or None spin)) told

pub ruled : (profile : Profile) (g : Basis) (watch : Watch) (sleep spin : List Instance)
    (q : TypedRequest) (r : Reply)
    → ruling profile g watch sleep spin q ≡ Ok r
    → Says profile g watch q (chain_asked g sleep spin q) r
ruled profile g watch sleep spin q r ok =
    watching profile g watch q (chain_asked g sleep spin q) r spin (is_on watch) refl ok
