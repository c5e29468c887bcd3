-- What the verdict on a request needs, and that it is the rules' verdict.
use Rattle.std.proofs.Common.{◌≡◌, ℕ, ◌+◌, ◌-◌, ◌*◌, ◌≤◌, Bool, true, false, cond, eqb, List, []}
use Rattle.std.proofs.Common.{◌∷◌, length, map, reverse, get_or, refl, sym, ap, ap₂, ◌∙◌, subst}
use Rattle.std.proofs.Common.{arith, Err, Ok, Result}
use Rattle.std.specs.List.{All, AllByRecursion, list_all}
use Rattle.std.proofs.lemmas.Bool.{and_parts, and_from, lt-ltb, le-leb}
use Rattle.std.proofs.lemmas.List.{length-map, get_or_default}
use Rattle.std.proofs.lemmas.List.Elements.{All-map, All-from_recursion}
use Rattle.wit_model.specs.declared.profiles.Profile.{Profile}
use Rattle.wit_model.specs.declared.locks.Instance.{Instance}
use Rattle.wit_model.specs.declared.locks.Lock.{Lock}
use Rattle.wit_model.specs.declared.locks.LockType.{LockType}
use Rattle.wit_model.specs.declared.locks.TypeNo.{TypeNo}
use Rattle.wit_model.specs.declared.locks.Watch.{Watch}
use Rattle.wit_model.specs.declared.calls.TypedRequest.{TypedRequest}
use Rattle.wit_model.specs.declared.calls.Request.{Request}
use Rattle.wit_model.specs.Rules.Chunks.{Chunks, IsList, chain_of, list_of}
use Rattle.wit_model.specs.Rules.Groups.{flat}
use Rattle.wit_model.specs.Rules.History.{chain, is_held}
use Rattle.wit_model.specs.Rules.Locks.{locks_of, lock_at, unknown_lock}
use Rattle.wit_model.specs.Rules.Numbers.{is_given, IsGiven, IsNumber}
use Rattle.wit_model.specs.Rules.State.{Story, State, Seat, Known, state_of, typed_locks, seat_at}
use Rattle.wit_model.specs.Rules.State.{chain_in, is_seat, found_of}
use Rattle.wit_model.specs.Rules.Verdict.{Basis, ruling, basis_of, typed_request, chain_asked}
use Rattle.wit_model.specs.Rules.Verdict.{orders_behind, verdict}
use Rattle.wit_model.proofs.Chains.Held.{made_sane}
use Rattle.wit_model.proofs.Chains.Stands.{stands-chain}
use Rattle.wit_model.proofs.Histories.Legal.{seat_at-state, one_chain, sane_legal}
use Rattle.wit_model.proofs.Numbered.{with_number-or}
use Rattle.wit_model.proofs.Orders.Orderly.{lock-type}
use Rattle.wit_model.proofs.Orders.Reads.{same-ruling, parents-same}
use Rattle.wit_model.proofs.Orders.Learnt.{chain-held}
use Rattle.wit_model.proofs.Orders.TypedLocks.{length-typed}
use Rattle.wit_table.specs.Known.{Names}
use Rattle.wit_matrix.specs.Relation.{Relation, HasSameOrders, HasSameFound}
use Rattle.wit_matrix.proofs.Settled.{same_before}
use Rattle.wit_model.specs.Rules.Defining.{are_of_two_kinds, defining, define}
use Rattle.wit_model.specs.declared.calls.Reply.{Reply}
use Rattle.wit_model.specs.declared.calls.Reply.TheVariants as reply
use Rattle.wit_model.specs.declared.calls.Adoption.{Adoption}
use Rattle.wit_model.specs.declared.faults.Fault.{Fault}
use Rattle.wit_model.specs.declared.faults.Fault.TheVariants.{KindMismatch, SameType, WrongOrder}
use Rattle.wit_model.specs.declared.sizes.TheConstants.Limits.{MOST_SEATS}
use Rattle.wit_check.specs.Bases.{basis, AreTypes}
use Rattle.wit_check.specs.Answers.{new_orders}
use Rattle.wit_check.specs.Held.{sleep_chain, spin_chain, IsJudgeable}
use Rattle.wit_core.specs.declared.verifier.Verifier.TheInside.{Inside}
use Rattle.wit_core.specs.Kept.{start_in, history_in, story_in, known_in}
use Rattle.wit_waiting.specs.Seats.{seat_in, locks_in, HoldFor}
use Rattle.wit_core.specs.Verdict.{orders_taught}
use Rattle.wit_core.proofs.Apt.{known-is}
use Rattle.wit_core.proofs.HeldSeats.{stands-filter}
use Rattle.wit_core.proofs.Keeping.{types_few}
use Rattle.wit_core.proofs.Now.{now, seat-given, locks-told, view-is}
use Rattle.wit_core.proofs.Seen.{IsSeenAs, as_itself}

-- a test that each passes, as a fact of each
all-of : {X : Type 0} (p : X → Bool) (P : X → Type 0) → ((x : X) → p x ≡ true → P x) → (xs : List X)
    → list_all p xs ≡ true → AllByRecursion P xs
all-of p P from [] all = tt
all-of p P from (x ∷ xs) all = let parts =
    and_parts (p x) (list_all p xs) all in (from x parts.0, all-of p P from xs parts.1)

-- the answer to the defining of an order reads which orders are direct and which types are before
-- which
defining-same : (types : List LockType) (os ps : List Adoption) (a b : TypeNo) → HasSameOrders os ps
    → defining types os a b ≡ defining types ps a b
defining-same types os ps a b direct =
    ap₂ (λ x y. cond {A = Result Reply Fault} (are_of_two_kinds types a b) (Err KindMismatch)
    (cond (eqb a.0 b.0) (Err SameType)
    (cond x (Err WrongOrder) (cond y (Ok reply.Known) (Ok (reply.Adopted a b))))))
    (same_before os ps direct b.0 a.0) (direct a.0 b.0)

module _ {v : Inside} {s : Story} (this : IsSeenAs v s) where
  -- what is known of types and locks by these, with the orders and the pairs that are kept
  abbrev with_names : List LockType → List TypeNo → List (List ℕ × List ℕ) → Basis
  with_names ts ls bs =
      record {
        types = ts;
        lock_types = ls;
        orders = v.known.known.orders;
        found = found_of (start_in v) (history_in v);
        blessed = bs;
      }

  locks-are : v.known.known.locks ≡ typed_locks (start_in v) (history_in v)
  locks-are = ap (λ (x : Known). x.locks) (known-is v this.tied)

  -- a lock that was made has a known type
  pub type-given : (l : ℕ) → is_given v.known.known.locks l ≡ true
      → IsGiven v.known.known.types (lock_at v.known.known.locks l).type_no.0
  type-given l is =
      subst (λ (x : Known). IsGiven x.types (lock_at x.locks l).type_no.0)
      (sym (known-is v this.tied))
      (lock-type (start_in v) (history_in v) l
      (subst (λ (x : Known). is_given x.locks l ≡ true) (known-is v this.tied) is))

  pub asked-given : (l : ℕ) → is_given (state_of s).known.locks l ≡ true
      → IsGiven v.known.known.types (lock_at v.known.known.locks l).type_no.0
  asked-given l is =
      type-given l (subst (λ (x : State). is_given x.known.locks l ≡ true) (sym (now this)) is)

  -- so has the lock of a request
  pub request-given : (q : Request) (asked : TypedRequest) (types : List LockType)
      → types ≡ v.known.known.types → asked ≡ typed_request (state_of s).known q
      → is_given (state_of s).known.locks q.lock.0 ≡ true → IsGiven types asked.type_no.0
  request-given q asked types same is given =
      subst (λ ts. IsGiven ts asked.type_no.0) (sym same)
      (subst (λ (n : TypeNo). IsGiven v.known.known.types n.0)
      (ap (λ (x : State). (lock_at x.known.locks q.lock.0).type_no) (now this)
      ∙ sym (ap (λ (a : TypedRequest). a.type_no) is)) (asked-given q.lock.0 given))

  -- so has each lock's place
  pub types-given : (names : Names) (types : List TypeNo) → names.types ≡ v.known.known.types
      → types ≡ map (λ (l : Lock). l.type_no) v.known.known.locks → AreTypes names types
  types-given names types same is =
      subst (λ ts. All (λ (t : TypeNo). IsGiven ts t.0) types) (sym same)
      (subst (All (λ (t : TypeNo). IsGiven v.known.known.types t.0)) (sym is)
      (All-map (λ (t : TypeNo). IsGiven v.known.known.types t.0)
      (λ (l : Lock). l.type_no) v.known.known.locks
      (λ i d lt. subst (λ (l : Lock). IsGiven v.known.known.types l.type_no.0)
      (with_number-or v.known.known.locks (i + 1) unknown_lock (omega arith)
      ∙ ap (λ n. get_or v.known.known.locks n unknown_lock)
      (let e : i + 1 - 1 ≡ i = omega arith in e)
      ∙ get_or_default v.known.known.locks i unknown_lock d lt)
      (type-given (i + 1) (and_from _ _ (lt-ltb 0 (i + 1) (omega arith))
      (le-leb (i + 1) (length v.known.known.locks) (omega (arith, lt))))))))

  pub matrix-sized : (size : ℕ) → size ≡ v.known.most_types → length v.known.known.types ≤ size
  matrix-sized size is = let few = types_few v this.tied in let most =
      this.tied.types in omega (arith, is, few, most)

  -- the answer over the table and the matrix is the rules'
  pub definition-told : (names : Names) (relation : Relation) (a b : ℕ) (p c : TypeNo)
      → names.types ≡ v.known.known.types → HasSameOrders relation.orders v.known.known.orders
      → p ≡ (lock_at v.known.known.locks a).type_no → c ≡ (lock_at v.known.known.locks b).type_no
      → defining names.types relation.orders p c ≡ define (state_of s).known a b
  definition-told names relation a b p c types direct parent child =
      defining-same names.types relation.orders v.known.known.orders p c direct
      ∙ ap (λ ts. defining ts v.known.known.orders p c) types
      ∙ ap₂ (λ x y. defining v.known.known.types v.known.known.orders x y) parent child
      ∙ ap (λ (x : State). define x.known a b) (now this)

  module _ (t : ℕ) (is : is_seat (state_of s) t ≡ true) (c : Chunks)
      (holds : HoldFor v.seats c) where
    given : IsGiven v.seats.seats t
    given = seat-given this t is

    pub seat-within : IsNumber MOST_SEATS t
    seat-within = (given.0, omega (arith, given.1, holds.few))

    pub list-within : IsList c (2 * t)
    list-within = (omega (arith, given.0), omega (arith, given.1, holds.lists))

    seat-before : is_seat (state_of (story_in v)) t ≡ true
    seat-before = subst (λ (x : Story). is_seat (state_of x) t ≡ true) (sym this.seen) is

    pub chain-of-list : (spin : Bool) → chain_of c (list_of spin t)
        ≡ locks_in spin (seat_in v.seats t)
    chain-of-list spin = ap flat (holds.groups t spin given)

    chain-now : (spin : Bool) → chain_of c (list_of spin t) ≡ chain spin t (history_in v)
    chain-now spin =
        chain-of-list spin ∙ locks-told (as_itself this.tied) t spin
        ∙ ap (λ x. chain_in spin x) (seat_at-state (start_in v) v.known.files
        (history_in v) t seat-before) ∙ one_chain spin t (history_in v)

    made-typed : (types : List TypeNo) → types ≡ map (λ (l : Lock). l.type_no) v.known.known.locks
        → (l : ℕ) → IsGiven (locks_of (history_in v)) l → IsGiven types l
    made-typed types are l made =
        let a = ap length are in
        let b = length-map v.known.known.locks (λ (l : Lock). l.type_no) in
        let c = ap length locks-are in
        let d = length-typed (start_in v) (history_in v) in
        (made.0, omega (arith, made.1, a, b, c, d))

    pub judgeable : (types : List TypeNo)
        → types ≡ map (λ (l : Lock). l.type_no) v.known.known.locks → (spin : Bool)
        → IsJudgeable types (chain_of c (list_of spin t))
    judgeable types are spin =
        let sane = sane_legal (start_in v) v.known.files (history_in v) this.tied.legal in
        let one = λ (l : ℕ). stands-chain spin t l (history_in v) sane in
        subst (IsJudgeable types) (sym (chain-now spin)) (record {
          once = λ l. omega (arith, one l, stands-filter l (chain spin t (history_in v)));
          typed =
              All-from_recursion (λ (i : Instance). IsGiven types i.lock.0)
              (chain spin t (history_in v))
              (all-of (λ (i : Instance). is_held t i.lock.0 (history_in v))
              (λ (i : Instance). IsGiven types i.lock.0)
              (λ i held. made-typed types are i.lock.0
              (made_sane t i.lock.0 (history_in v) sane held))
              (chain spin t (history_in v)) (chain-held spin t (history_in v)));
        })

    -- what is told of the table, the matrix's orders and the lists is told of the state
    told-now : {X : Type 0} (F : Basis → Watch → List Instance → List Instance → TypedRequest → X)
        (names : Names) (types : List TypeNo) (watch : Watch) (q : Request) (asked : TypedRequest)
        → names.types ≡ v.known.known.types → names.blessed ≡ v.known.known.blessed
        → types ≡ map (λ (l : Lock). l.type_no) v.known.known.locks → watch ≡ v.watch
        → asked ≡ typed_request (state_of s).known q
        → F (with_names names.types types names.blessed) watch (sleep_chain c t)
        (spin_chain c t) asked
        ≡ F (basis_of (state_of s).known) (state_of s).watch (seat_at (state_of s) t).sleep
        (seat_at (state_of s) t).spin (typed_request (state_of s).known q)
    told-now F names types watch q asked same_types same_blessed are watches is =
        ap₂ (λ ts bs. F (with_names ts types bs) watch (sleep_chain c t) (spin_chain c t) asked)
        same_types same_blessed
        ∙ ap₂ (λ ls w. F (with_names v.known.known.types ls v.known.known.blessed) w
        (sleep_chain c t) (spin_chain c t) asked) are watches
        ∙ ap₂ (λ sl sp. F (basis_of (known_in v)) v.watch sl sp asked) (chain-of-list false)
        (chain-of-list true)
        ∙ ap (F (basis_of (known_in v)) v.watch (locks_in false (seat_in v.seats t))
        (locks_in true (seat_in v.seats t))) is
        ∙ ap (λ (x : Seat). F (basis_of (known_in v)) v.watch x.sleep x.spin
        (typed_request (state_of s).known q)) (sym (view-is v.seats t))
        ∙ ap (λ (x : State). F (basis_of x.known) x.watch (seat_at x t).sleep (seat_at x t).spin
        (typed_request (state_of s).known q)) (now this)

    module _ (names : Names) (relation : Relation) (types : List TypeNo) (q : Request)
        (asked : TypedRequest)
        (same_types : names.types ≡ v.known.known.types) (same_blessed : names.blessed
        ≡ v.known.known.blessed) (direct : HasSameOrders relation.orders v.known.known.orders)
        (pairs : HasSameFound relation.found v.known.known.found)
        (are : types ≡ map (λ (l : Lock). l.type_no) v.known.known.locks)
        (is_asked : asked ≡ typed_request (state_of s).known q) where
      pairs-told : HasSameFound relation.found (found_of (start_in v) (history_in v))
      pairs-told i j = pairs i j ∙ this.tied.found i j

      -- the ruling over the table and the matrix is the rules' verdict
      pub verdict-told : (profile : Profile) (watch : Watch) → profile ≡ v.profile → watch ≡ v.watch
          → ruling profile (basis names relation types) watch (sleep_chain c t)
          (spin_chain c t) asked
          ≡ verdict (state_of s).profile (state_of s).known (state_of s).watch
          (seat_at (state_of s) t) q
      verdict-told profile watch profile_is watches =
          same-ruling (basis names relation types) v.known.known.orders
          (found_of (start_in v) (history_in v)) direct
          (same_before relation.orders v.known.known.orders direct) pairs-told
          profile watch (sleep_chain c t) (spin_chain c t) asked
          ∙ told-now (ruling profile) names types watch q asked same_types same_blessed are
          watches is_asked
          ∙ ap (λ p. verdict p (state_of s).known (state_of s).watch (seat_at (state_of s) t) q)
          (profile_is ∙ ap (λ (x : State). x.profile) (now this))

      -- and so are the orders that it teaches
      pub orders-told : new_orders (basis names relation types)
          (chain_asked (basis names relation types) (sleep_chain c t) (spin_chain c t) asked) asked
          ≡ orders_taught (state_of s) t q
      orders-told =
          ap (orders_behind asked)
          (parents-same (basis names relation types) v.known.known.orders
          (found_of (start_in v) (history_in v)) direct
          (same_before relation.orders v.known.known.orders direct) pairs-told
          asked [] (reverse (chain_asked (basis names relation types) (sleep_chain c t)
          (spin_chain c t) asked)))
          ∙ told-now (λ g w sleep spin a. new_orders g (chain_asked g sleep spin a) a) names types
          v.watch q asked same_types same_blessed are refl is_asked
