-- The log entries that are owed to the seats, after an entry.
use Rattle.std.proofs.Common.{◌≡◌, ℕ, zero, suc, ◌+◌, ◌<◌, ◌≤◌, Bool, true, false, not, ◌&&◌, cond}
use Rattle.std.proofs.Common.{nat_lt, List, [], ◌∷◌, map, filter, find, sum_by, Option, Some, None}
use Rattle.std.proofs.Common.{refl, ap, ap₂, ◌∙◌, arith}
use Rattle.std.specs.List.{range_with_len}
use Rattle.std.proofs.lemmas.Bool.{ltb-true, ltb-false, false≢true}
use Rattle.std.proofs.lemmas.List.Sums.{sum_by-cons, sum_by_push}
use Rattle.wit_model.specs.declared.locks.LockNo.{LockNo}
use Rattle.wit_model.specs.declared.locks.Mode.{Mode}
use Rattle.wit_model.specs.declared.locks.Site.{Site}
use Rattle.wit_model.specs.declared.locks.Instance.{Instance}
use Rattle.wit_model.specs.declared.calls.NewLock.{NewLock}
use Rattle.wit_model.specs.declared.calls.Request.{Request}
use Rattle.wit_model.specs.declared.calls.Call.{Call}
use Rattle.wit_model.specs.declared.calls.Call.TheVariants.{Init, Check, Note, NoteTry, GiveUp}
use Rattle.wit_model.specs.declared.calls.Call.TheVariants.{Unlock}
use Rattle.wit_model.specs.declared.calls.Reply.{Reply}
use Rattle.wit_model.specs.declared.calls.Reply.TheVariants.{Recorded, Unlocked}
use Rattle.wit_model.specs.declared.calls.Entry.{Entry}
use Rattle.wit_model.specs.Rules.Locks.{locks_of, is_spin_lock, is_of_kind}
use Rattle.wit_model.specs.Rules.History.{Nothing, act, chain, pending, pending_after, is_held}
use Rattle.wit_model.specs.Rules.History.{instance, asked_mode, asked_site, Act, Marks, Turns}
use Rattle.wit_model.specs.Rules.State.{seat_of, seats_of, recorded_in, owed_for, owed_by}
use Rattle.wit_model.specs.Rules.Verdict.{is_of}
use Rattle.wit_model.proofs.Chains.Sane.{IsSane}
use Rattle.wit_model.proofs.Chains.HeldLocks.{taken, changed}
use Rattle.wit_model.proofs.Chains.Found.{if_some, found}
use Rattle.wit_model.proofs.Chains.Changes.{at, is_other}
use Rattle.wit_model.proofs.Chains.After.{recursed, fewer, noted, unlocked, part_after}
use Rattle.wit_model.proofs.Chains.Seats.{seat_after, sum-step, entry, seat_after-quiet}
use Rattle.wit_model.proofs.Chains.Stands.{stands, stands-chain, sum-changed, sum-removed}
use Rattle.wit_model.proofs.Histories.Legal.{one_chain, own_kind}
use Rattle.wit_model.proofs.Chains.Acts.{is_even}

-- an acquisition counts one more
pub recorded-noted : (l : ℕ) (m : Mode) (s : Site) (c : List Instance) (o : Option Instance)
    → find (is_of l) c ≡ o → stands l c ≤ 1
    → recorded_in (noted l m s c o) ≡ recorded_in c + 1
recorded-noted l m s c None is one = sum_by_push (λ (i : Instance). i.count + 1) c (taken l m s)
recorded-noted l m s c (Some i) is one =
    let e =
    sum-changed (λ (j : Instance). j.count + 1) l (recursed s) c i is one in omega (arith, e)

-- a release counts one fewer
pub recorded-unlocked : (l : ℕ) (c : List Instance) (i : Instance) → find (is_of l) c ≡ Some i
    → stands l c ≤ 1
    → recorded_in (unlocked l c (Some i)) + 1 ≡ recorded_in c
recorded-unlocked l c i is one = go (nat_lt 0 i.count) refl
  where
    go : (b : Bool) → nat_lt 0 i.count ≡ b
        → recorded_in (cond (nat_lt 0 i.count) (map (at l fewer) c) (filter (is_other l) c)) + 1
        ≡ recorded_in c
    go true up =
        rw up (let e = sum-changed (λ (j : Instance). j.count + 1) l fewer c i is one in
        let some = ltb-true 0 i.count up in omega (arith, e))
    go false up =
        rw up (let e = sum-removed (λ (j : Instance). j.count + 1) l c i is one in
        let none = ltb-false 0 i.count up in omega (arith, e))

-- of the two chains, that of the lock's kind changes
both_noted : (b : Bool) (l : ℕ) (m : Mode) (s : Site) (c d : List Instance) → stands l c ≤ 1
    → stands l d ≤ 1
    → recorded_in (cond (not b) (noted l m s c (find (is_of l) c)) c)
    + recorded_in (cond b (noted l m s d (find (is_of l) d)) d)
    ≡ recorded_in c + recorded_in d + 1
both_noted true l m s c d one two =
    omega (arith, recorded-noted l m s d (find (is_of l) d) refl two)
both_noted false l m s c d one two =
    omega (arith, recorded-noted l m s c (find (is_of l) c) refl one)

both_unlocked : (b : Bool) (l : ℕ) (c d : List Instance) (i : Instance)
    → find (is_of l) (cond b d c) ≡ Some i → stands l c ≤ 1 → stands l d ≤ 1
    → recorded_in (cond (not b) (unlocked l c (find (is_of l) c)) c)
    + recorded_in (cond b (unlocked l d (find (is_of l) d)) d) + 1
    ≡ recorded_in c + recorded_in d
both_unlocked true l c d i is one two = rw is (omega (arith, recorded-unlocked l d i is two))
both_unlocked false l c d i is one two = rw is (omega (arith, recorded-unlocked l c i is one))

-- the entries owed to the first n seats
abbrev pub owed_to : ℕ → List Entry → ℕ
owed_to n h = sum_by owed_by (seats_of n h)

-- an entry changes what is owed to its own seat
pub owed-step : (n : ℕ) (x : Entry) (h : List Entry) → IsSane (x ∷ h) → 0 < x.seat.0 → x.seat.0 ≤ n
    → owed_to n (x ∷ h) + owed_by (seat_of h x.seat.0)
    ≡ owed_to n h + owed_by (seat_after (locks_of h) x (seat_of h x.seat.0))
owed-step n x h sane some within = sum-step owed_by n x h sane some within

-- a call that does nothing to the locks of its seat may change its request
pub owed-quiet : (n t : ℕ) (c : Call) (r : Reply) (h : List Entry) → IsSane (entry t c r ∷ h)
    → 0 < t → t ≤ n → act c r ≡ Nothing
    → owed_to n (entry t c r ∷ h) + owed_for (pending t h)
    ≡ owed_to n h + owed_for (pending_after c (pending t h))
owed-quiet n t c r h sane some within quiet =
    let e = owed-step n (entry t c r) h sane some within in
    let f = ap owed_by (seat_after-quiet (locks_of h) t c r (seat_of h t) quiet) in
    omega (arith, e, f)

count-even : (f : Instance → Instance) → ((i : Instance) → (f i).count ≡ i.count)
    → (l : ℕ) (c : List Instance) → recorded_in (map (at l f) c) ≡ recorded_in c
count-even f same l [] = refl
count-even f same l (i ∷ c) =
    let a = sum_by-cons (λ (j : Instance). j.count + 1) (at l f i) (map (at l f) c) in
    let b = sum_by-cons (λ (j : Instance). j.count + 1) i c in
    omega (arith, a, b, here (is_of l i), count-even f same l c)
  where
    here : (b : Bool) → (cond b (f i) i).count ≡ i.count
    here true = same i
    here false = refl

either-count : (b : Bool) (c d : List Instance) → recorded_in c ≡ recorded_in d
    → recorded_in (cond b c d) ≡ recorded_in d
either-count true c d same = same
either-count false c d same = refl

part-even : (k : Bool) (ls : List NewLock) (a : Act) (m : Mode) (s : Site) (c : List Instance)
    → is_even a ≡ true → recorded_in (part_after k ls a m s c) ≡ recorded_in c
part-even k ls Nothing m s c even = refl
part-even k ls (Turns l new) m s c even =
    either-count (is_of_kind k ls l) (map (at l (changed (Turns l new) s)) c) c
    (count-even (changed (Turns l new) s) (λ i. refl) l c)
part-even k ls (Marks l new) m s c even =
    either-count (is_of_kind k ls l) (map (at l (changed (Marks l new) s)) c) c
    (count-even (changed (Marks l new) s) (λ i. refl) l c)
part-even k ls a m s c even = absurd (false≢true even)

-- a call that leaves the request and the acquisitions leaves what is owed
pub owed-even : (n t : ℕ) (c : Call) (r : Reply) (h : List Entry) → IsSane (entry t c r ∷ h) → 0 < t
    → t ≤ n → is_even (act c r) ≡ true
    → pending_after c (pending t h) ≡ pending t h → owed_to n (entry t c r ∷ h) ≡ owed_to n h
owed-even n t c r h sane some within even keeps =
    let e = owed-step n (entry t c r) h sane some within in
    let m = asked_mode c (pending t h) in
    let s = asked_site c (pending t h) in
    let f = part-even false (locks_of h) (act c r) m s (chain false t h) even in
    let g = part-even true (locks_of h) (act c r) m s (chain true t h) even in
    let p = ap owed_for keeps in
    omega (arith, e, f, g, p)

pub owed-init : (n t : ℕ) (lock : NewLock) (r : Reply) (h : List Entry)
    → IsSane (entry t (Init lock) r ∷ h) → 0 < t → t ≤ n
    → owed_to n (entry t (Init lock) r ∷ h) ≡ owed_to n h
owed-init n t lock r h sane some within = let e =
    owed-step n (entry t (Init lock) r) h sane some within in omega (arith, e)

pub owed-check : (n t : ℕ) (q : Request) (r : Reply) (h : List Entry)
    → IsSane (entry t (Check q) r ∷ h) → 0 < t → t ≤ n → pending t h ≡ None
    → owed_to n (entry t (Check q) r ∷ h) ≡ owed_to n h + 2
owed-check n t q r h sane some within idle =
    let e = owed-step n (entry t (Check q) r) h sane some within in
    let f : owed_for (pending t h) ≡ 0 = ap owed_for idle in
    omega (arith, e, f)

pub owed-note : (n t : ℕ) (l : LockNo) (q : Request) (h : List Entry)
    → IsSane (entry t (Note l) Recorded ∷ h) → 0 < t → t ≤ n → pending t h ≡ Some q
    → owed_to n (entry t (Note l) Recorded ∷ h) + 1 ≡ owed_to n h
owed-note n t l q h sane some within asked =
    let e = owed-step n (entry t (Note l) Recorded) h sane some within in
    let f : owed_for (pending t h) ≡ 2 = ap owed_for asked in
    let g =
    both_noted (is_spin_lock (locks_of h) l.0) l.0 (asked_mode (Note l) (pending t h))
    (asked_site (Note l) (pending t h))
    (chain false t h) (chain true t h) (stands-chain false t l.0 h sane.1)
    (stands-chain true t l.0 h sane.1) in
    omega (arith, e, f, g)

-- a try that is recorded owes its release
pub owed-try : (n t : ℕ) (l : LockNo) (m : Mode) (site : Site) (h : List Entry)
    → IsSane (entry t (NoteTry l m site) Recorded ∷ h) → 0 < t → t ≤ n
    → owed_to n (entry t (NoteTry l m site) Recorded ∷ h) ≡ owed_to n h + 1
owed-try n t l m site h sane some within =
    let e = owed-step n (entry t (NoteTry l m site) Recorded) h sane some within in
    let g = both_noted (is_spin_lock (locks_of h) l.0) l.0 m site
    (chain false t h) (chain true t h) (stands-chain false t l.0 h sane.1)
    (stands-chain true t l.0 h sane.1) in
    omega (arith, e, g)

-- what a request that ends without being recorded gives back
pub owed-unnoted : (n t : ℕ) (l : LockNo) (r : Reply) (q : Request) (h : List Entry)
    → IsSane (entry t (Note l) r ∷ h) → 0 < t → t ≤ n → act (Note l) r ≡ Nothing
    → pending t h ≡ Some q → owed_to n (entry t (Note l) r ∷ h) + 2 ≡ owed_to n h
owed-unnoted n t l r q h sane some within quiet asked =
    let e = owed-quiet n t (Note l) r h sane some within quiet in
    let f : owed_for (pending t h) ≡ 2 = ap owed_for asked in
    omega (arith, e, f)

pub owed-give_up : (n t : ℕ) (l : LockNo) (r : Reply) (q : Request) (h : List Entry)
    → IsSane (entry t (GiveUp l) r ∷ h) → 0 < t → t ≤ n
    → pending t h ≡ Some q → owed_to n (entry t (GiveUp l) r ∷ h) + 2 ≡ owed_to n h
owed-give_up n t l r q h sane some within asked =
    let e = owed-quiet n t (GiveUp l) r h sane some within refl in
    let f : owed_for (pending t h) ≡ 2 = ap owed_for asked in
    omega (arith, e, f)

-- a call that leaves the request and the locks leaves what is owed
pub owed-same : (n t : ℕ) (c : Call) (r : Reply) (h : List Entry) → IsSane (entry t c r ∷ h) → 0 < t
    → t ≤ n → act c r ≡ Nothing
    → pending_after c (pending t h) ≡ pending t h → owed_to n (entry t c r ∷ h) ≡ owed_to n h
owed-same n t c r h sane some within quiet keeps =
    let e = owed-quiet n t c r h sane some within quiet in
    let f = ap owed_for keeps in
    omega (arith, e, f)

pub owed-unlock : (n t : ℕ) (l : LockNo) (m : Mode) (h : List Entry)
    → IsSane (entry t (Unlock l m) Unlocked ∷ h) → 0 < t → t ≤ n → is_held t l.0 h ≡ true
    → owed_to n (entry t (Unlock l m) Unlocked ∷ h) + 1 ≡ owed_to n h
owed-unlock n t l m h sane some within is =
    let e = owed-step n (entry t (Unlock l m) Unlocked) h sane some within in
    let own : is_of_kind (is_spin_lock (locks_of h) l.0) (locks_of h) l.0 ≡ true =
    own_kind (is_spin_lock (locks_of h) l.0) h l.0 refl in
    let here : find (is_of l.0) (cond (is_spin_lock (locks_of h) l.0) (chain true t h)
    (chain false t h)) ≡ Some (instance t h l.0)
    = ap (λ c. find (is_of l.0) c) (one_chain (is_spin_lock (locks_of h) l.0) t h)
    ∙ found (is_spin_lock (locks_of h) l.0) t l.0 h sane.1
    ∙ ap₂ (λ a b. if_some (a && b) (instance t h l.0)) is own in
    let g =
    both_unlocked (is_spin_lock (locks_of h) l.0) l.0 (chain false t h) (chain true t h)
    (instance t h l.0) here
    (stands-chain false t l.0 h sane.1) (stands-chain true t l.0 h sane.1) in
    omega (arith, e, g)

owed-none : (a n : ℕ) → sum_by owed_by (map (seat_of []) (range_with_len a n)) ≡ 0
owed-none a zero = refl
owed-none a (suc n) =
    let e = sum_by-cons owed_by (seat_of [] a) (map (seat_of []) (range_with_len (a + 1) n)) in
    omega (arith, e, owed-none (a + 1) n)

-- nothing is owed at the start
pub owed_to-nil : (n : ℕ) → owed_to n [] ≡ 0
owed_to-nil n = owed-none 1 n
