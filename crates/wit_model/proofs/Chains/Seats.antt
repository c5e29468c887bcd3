-- The seats after an entry: one is set.
use Rattle.std.proofs.Common.{◌≡◌, ℕ, zero, suc, ◌+◌, ◌-◌, ◌<◌, ◌≤◌, Bool, true, false, not, cond}
use Rattle.std.proofs.Common.{List, ◌∷◌, map, length, set, get_or, find, sum_by, Option, Some, None}
use Rattle.std.proofs.Common.{refl, ap, ap₂, sym, ◌∙◌, arith}
use Rattle.std.specs.List.{range_with_len}
use Rattle.std.proofs.lemmas.Bool.{eq-eqb, ne_eqb}
use Rattle.std.proofs.lemmas.List.Sums.{sum_by-set}
use Rattle.std.proofs.lemmas.List.FromFn.{length-map-range_with_len, get_or-map-range_with_len}
use Rattle.wit_model.specs.declared.locks.Instance.{Instance}
use Rattle.wit_model.specs.declared.calls.NewLock.{NewLock}
use Rattle.wit_model.specs.declared.calls.Request.{Request}
use Rattle.wit_model.specs.declared.calls.Call.{Call}
use Rattle.wit_model.specs.declared.calls.Call.TheVariants.{Note, NoteTry, Unlock}
use Rattle.wit_model.specs.declared.calls.Reply.{Reply}
use Rattle.wit_model.specs.declared.calls.Reply.TheVariants.{Recorded, Unlocked}
use Rattle.wit_model.specs.declared.calls.Entry.{Entry}
use Rattle.wit_model.specs.declared.locks.LockNo.{LockNo}
use Rattle.wit_model.specs.declared.locks.Mode.{Mode}
use Rattle.wit_model.specs.declared.locks.Site.{Site}
use Rattle.wit_model.specs.Rules.Locks.{locks_of, is_spin_lock}
use Rattle.wit_model.specs.Rules.Verdict.{is_of}
use Rattle.wit_model.specs.Rules.History.{Act, Nothing, act, act_by, chain, pending, pending_after}
use Rattle.wit_model.specs.Rules.History.{asked_mode, asked_site, Marks, Turns}
use Rattle.wit_model.specs.Rules.SeatGroups.{seat_groups}
use Rattle.wit_model.specs.Rules.State.{Seat, seat_of, seats_of, no_seat}
use Rattle.wit_model.proofs.Chains.Sane.{IsSane}
use Rattle.wit_model.proofs.Chains.Changes.{at}
use Rattle.wit_model.proofs.Chains.After.{noted, unlocked, part_after, chain-step}
use Rattle.wit_model.proofs.Chains.GroupSteps.{groups_entered, withdrawn, groups_after, groups-step}

-- a seat after an entry of its own, where these are the locks
abbrev pub seat_after : List NewLock → Entry → Seat → Seat
seat_after ls x s = record {
  sleep =
      part_after false ls (act x.call x.reply) (asked_mode x.call s.pending)
      (asked_site x.call s.pending) s.sleep;
  spin =
      part_after true ls (act x.call x.reply) (asked_mode x.call s.pending)
      (asked_site x.call s.pending) s.spin;
  sleep_groups = groups_after false ls (act x.call x.reply) s.sleep s.sleep_groups;
  spin_groups = groups_after true ls (act x.call x.reply) s.spin s.spin_groups;
  pending = pending_after x.call s.pending;
}

make : List Instance → List Instance → List (List ℕ) → List (List ℕ) → Option Request → Seat
make sleep spin sleep_groups spin_groups p =
    record {
      sleep = sleep;
      spin = spin;
      sleep_groups = sleep_groups;
      spin_groups = spin_groups;
      pending = p;
    }

seat_is : (h : List Entry) (t : ℕ) (sleep spin : List Instance)
    (sleep_groups spin_groups : List (List ℕ)) (p : Option Request)
    → chain false t h ≡ sleep → chain true t h ≡ spin → seat_groups false t h ≡ sleep_groups
    → seat_groups true t h ≡ spin_groups → pending t h ≡ p
    → seat_of h t ≡ make sleep spin sleep_groups spin_groups p
unfolding make
seat_is h t sleep spin sleep_groups spin_groups p es en eg en' ep =
    ap₂ (λ c d. make c d (seat_groups false t h) (seat_groups true t h) (pending t h)) es en
    ∙ (ap₂ (λ c d. make sleep spin c d (pending t h)) eg en'
    ∙ ap (λ q. make sleep spin sleep_groups spin_groups q) ep)

pub act-own : (x : Entry) → act_by x.seat.0 x ≡ act x.call x.reply
act-own x = rw (eq-eqb x.seat.0 x.seat.0 refl) refl

pub act-other : (t : ℕ) (x : Entry) → (x.seat.0 ≡ t → ⊥) → act_by t x ≡ Nothing
act-other t x other = rw (ne_eqb x.seat.0 t other) refl

pub seat-own : (x : Entry) (h : List Entry) → IsSane (x ∷ h)
    → seat_of (x ∷ h) x.seat.0 ≡ seat_after (locks_of h) x (seat_of h x.seat.0)
unfolding make
seat-own x h sane =
    let part =
    λ (k : Bool) (a : Act). part_after k (locks_of h) a (asked_mode x.call (pending x.seat.0 h))
    (asked_site x.call (pending x.seat.0 h)) (chain k x.seat.0 h) in
    let groups =
    λ (k : Bool) (a : Act). groups_after k (locks_of h) a (chain k x.seat.0 h)
    (seat_groups k x.seat.0 h) in
    seat_is (x ∷ h) x.seat.0 (part false (act x.call x.reply)) (part true (act x.call x.reply))
    (groups false (act x.call x.reply)) (groups true (act x.call x.reply))
    (pending_after x.call (pending x.seat.0 h))
    (chain-step false x.seat.0 x h sane ∙ ap (λ a. part false a) (act-own x))
    (chain-step true x.seat.0 x h sane ∙ ap (λ a. part true a) (act-own x))
    (groups-step false x.seat.0 x h sane ∙ ap (λ a. groups false a) (act-own x))
    (groups-step true x.seat.0 x h sane ∙ ap (λ a. groups true a) (act-own x))
    (rw (eq-eqb x.seat.0 x.seat.0 refl) refl)

pub seat-other : (t : ℕ) (x : Entry) (h : List Entry) → IsSane (x ∷ h) → (x.seat.0 ≡ t → ⊥)
    → seat_of (x ∷ h) t ≡ seat_of h t
unfolding make
seat-other t x h sane other =
    let part =
    λ (k : Bool) (a : Act). part_after k (locks_of h) a (asked_mode x.call (pending t h))
    (asked_site x.call (pending t h)) (chain k t h) in
    let groups =
    λ (k : Bool) (a : Act). groups_after k (locks_of h) a (chain k t h) (seat_groups k t h) in
    seat_is (x ∷ h) t (chain false t h) (chain true t h) (seat_groups false t h)
    (seat_groups true t h) (pending t h)
    (chain-step false t x h sane ∙ ap (λ a. part false a) (act-other t x other))
    (chain-step true t x h sane ∙ ap (λ a. part true a) (act-other t x other))
    (groups-step false t x h sane ∙ ap (λ a. groups false a) (act-other t x other))
    (groups-step true t x h sane ∙ ap (λ a. groups true a) (act-other t x other))
    (rw (ne_eqb x.seat.0 t other) refl)

map-other : {X : Type 0} (f g : ℕ → X) (j : ℕ) → ((t : ℕ) → (j ≡ t → ⊥) → f t ≡ g t) → (a n : ℕ)
    → j < a → map f (range_with_len a n) ≡ map g (range_with_len a n)
map-other f g j same a zero lt = refl
map-other f g j same a (suc n) lt =
    ap₂ (λ x xs. x ∷ xs) (same a (λ (e : j ≡ a). let no : ⊥ = omega arith in no))
    (map-other f g j same (a + 1) n (omega arith))

-- one value of a function's list is set
map-set_one : {X : Type 0} (f g : ℕ → X) (j : ℕ) → ((t : ℕ) → (j ≡ t → ⊥) → f t ≡ g t) → (a n i : ℕ)
    → a + i ≡ j → i < n
    → map f (range_with_len a n) ≡ set (map g (range_with_len a n)) i (f j)
map-set_one f g j same a zero i at lt = absurd (omega arith)
map-set_one f g j same a (suc n) zero at lt =
    let here : a ≡ j =
    omega arith in ap₂ (λ x xs. x ∷ xs) (ap f here)
    (map-other f g j same (a + 1) n (omega arith))
map-set_one f g j same a (suc n) (suc i) at lt =
    ap₂ (λ x xs. x ∷ xs) (same a (λ (e : j ≡ a). let no : ⊥ = omega arith in no))
    (map-set_one f g j same (a + 1) n i (omega arith) (omega arith))

pub get_or-seats_of : (n t : ℕ) (h : List Entry) (s : Seat) → 0 < t → t ≤ n
    → get_or (seats_of n h) (t - 1) s ≡ seat_of h t
get_or-seats_of n t h s some within =
    get_or-map-range_with_len (seat_of h) 1 n (t - 1) t s (omega arith) (omega arith)

pub seats_of-set : (n : ℕ) (x : Entry) (h : List Entry) → IsSane (x ∷ h) → 0 < x.seat.0
    → x.seat.0 ≤ n
    → seats_of n (x ∷ h) ≡ set (seats_of n h) (x.seat.0 - 1) (seat_of (x ∷ h) x.seat.0)
seats_of-set n x h sane some within =
    map-set_one (seat_of (x ∷ h)) (seat_of h) x.seat.0 (λ t other. seat-other t x h sane other) 1 n
    (x.seat.0 - 1) (omega arith) (omega arith)

-- the seats after an entry: its own is set to what its act leaves, by the step of a program
pub seats_of-entry : (n : ℕ) (x : Entry) (h : List Entry) → IsSane (x ∷ h) → 0 < x.seat.0
    → x.seat.0 ≤ n → (s : Seat)
    → seats_of n (x ∷ h) ≡ set (seats_of n h) (x.seat.0 - 1)
    (seat_after (locks_of h) x (get_or (seats_of n h) (x.seat.0 - 1) s))
seats_of-entry n x h sane some within s =
    seats_of-set n x h sane some within
    ∙ ap (λ r. set (seats_of n h) (x.seat.0 - 1) r)
    (seat-own x h sane ∙ ap (λ q. seat_after (locks_of h) x q)
    (sym (get_or-seats_of n x.seat.0 h s some within)))

-- and a sum over them changes by what its own seat changes
pub sum-step : (g : Seat → ℕ) (n : ℕ) (x : Entry) (h : List Entry) → IsSane (x ∷ h) → 0 < x.seat.0
    → x.seat.0 ≤ n
    → sum_by g (seats_of n (x ∷ h)) + g (seat_of h x.seat.0)
    ≡ sum_by g (seats_of n h) + g (seat_after (locks_of h) x (seat_of h x.seat.0))
sum-step g n x h sane some within =
    let e = sum_by-set g (seats_of n h) (x.seat.0 - 1) (seat_of (x ∷ h) x.seat.0) no_seat
    (let len : x.seat.0 - 1 < length (seats_of n h) = omega
    (arith, length-map-range_with_len (seat_of h) 1 n) in len) in
    let f = ap (λ ss. sum_by g ss) (seats_of-set n x h sane some within) in
    let own = ap g (get_or-seats_of n x.seat.0 h no_seat some within) in
    let k = ap g (seat-own x h sane) in
    omega (arith, e, f, own, k)

-- an entry of the log
abbrev pub entry : ℕ → Call → Reply → Entry
entry t c r = record { seat = record { 0 = t }; call = c; reply = r }

-- a seat after a call that does nothing to its locks
pub seat_after-quiet : (ls : List NewLock) (t : ℕ) (c : Call) (r : Reply) (s : Seat)
    → act c r ≡ Nothing
    → seat_after ls (entry t c r) s ≡ record s { pending = pending_after c s.pending }
unfolding make
seat_after-quiet ls t c r s quiet =
    ap (λ a. make (part_after false ls a (asked_mode c s.pending) (asked_site c s.pending) s.sleep)
    (part_after true ls a (asked_mode c s.pending) (asked_site c s.pending) s.spin)
    (groups_after false ls a s.sleep s.sleep_groups) (groups_after true ls a s.spin s.spin_groups)
    (pending_after c s.pending)) quiet

-- a seat that has acquired this lock once more, in this mode at this site, and asks for this
abbrev pub acquired : List NewLock → ℕ → Mode → Site → Option Request → Seat → Seat
acquired ls l m site p s = record {
  sleep = cond (not (is_spin_lock ls l)) (noted l m site s.sleep (find (is_of l) s.sleep)) s.sleep;
  spin = cond (is_spin_lock ls l) (noted l m site s.spin (find (is_of l) s.spin)) s.spin;
  sleep_groups =
      cond (not (is_spin_lock ls l)) (groups_entered l s.sleep_groups (find (is_of l) s.sleep))
      s.sleep_groups;
  spin_groups =
      cond (is_spin_lock ls l) (groups_entered l s.spin_groups (find (is_of l) s.spin))
      s.spin_groups;
  pending = p;
}

pub seat_after-note : (ls : List NewLock) (t : ℕ) (l : LockNo) (q : Request) (s : Seat)
    → s.pending ≡ Some q
    → seat_after ls (entry t (Note l) Recorded) s ≡ acquired ls l.0 q.mode q.site None s
unfolding make
seat_after-note ls t l q s asked =
    ap (λ (p : Option Request). seat_after ls (entry t (Note l) Recorded)
    (make s.sleep s.spin s.sleep_groups s.spin_groups p)) asked

pub seat_after-try : (ls : List NewLock) (t : ℕ) (l : LockNo) (m : Mode) (site : Site) (s : Seat)
    → seat_after ls (entry t (NoteTry l m site) Recorded) s ≡ acquired ls l.0 m site s.pending s
seat_after-try ls t l m site s = refl

pub seat_after-unlock : (ls : List NewLock) (t : ℕ) (l : LockNo) (m : Mode) (s : Seat)
    → seat_after ls (entry t (Unlock l m) Unlocked) s ≡ record {
      sleep =
          cond (not (is_spin_lock ls l.0))
          (unlocked l.0 s.sleep (find (is_of l.0) s.sleep)) s.sleep;
      spin = cond (is_spin_lock ls l.0) (unlocked l.0 s.spin (find (is_of l.0) s.spin)) s.spin;
      sleep_groups =
          cond (not (is_spin_lock ls l.0)) (withdrawn l.0 s.sleep_groups (find (is_of l.0) s.sleep))
          s.sleep_groups;
      spin_groups =
          cond (is_spin_lock ls l.0) (withdrawn l.0 s.spin_groups (find (is_of l.0) s.spin))
          s.spin_groups;
      pending = s.pending;
    }
seat_after-unlock ls t l m s = refl

-- a seat that holds this lock otherwise
abbrev pub reheld : List NewLock → ℕ → (Instance → Instance) → Seat → Seat
reheld ls l f s = record s {
  sleep = cond (not (is_spin_lock ls l)) (map (at l f) s.sleep) s.sleep;
  spin = cond (is_spin_lock ls l) (map (at l f) s.spin) s.spin;
}

-- in another mode
abbrev pub with_mode : Mode → Instance → Instance
with_mode m i = record i { mode = m }

pub seat_after-turn : (ls : List NewLock) (t : ℕ) (c : Call) (r : Reply) (l : ℕ) (m : Mode)
    (s : Seat) → act c r ≡ Turns l m → pending_after c s.pending ≡ s.pending
    → seat_after ls (entry t c r) s ≡ reheld ls l (with_mode m) s
unfolding make
seat_after-turn ls t c r l m s acts keeps =
    ap₂ (λ a p. make (part_after false ls a (asked_mode c s.pending)
    (asked_site c s.pending) s.sleep)
    (part_after true ls a (asked_mode c s.pending) (asked_site c s.pending) s.spin)
    (groups_after false ls a s.sleep s.sleep_groups)
    (groups_after true ls a s.spin s.spin_groups) p) acts keeps

-- with another mark
abbrev pub with_mark : Bool → Instance → Instance
with_mark b i = record i { norelease = b }

pub seat_after-mark : (ls : List NewLock) (t : ℕ) (c : Call) (r : Reply) (l : ℕ) (b : Bool)
    (s : Seat) → act c r ≡ Marks l b → pending_after c s.pending ≡ s.pending
    → seat_after ls (entry t c r) s ≡ reheld ls l (with_mark b) s
unfolding make
seat_after-mark ls t c r l b s acts keeps =
    ap₂ (λ a p. make (part_after false ls a (asked_mode c s.pending)
    (asked_site c s.pending) s.sleep)
    (part_after true ls a (asked_mode c s.pending) (asked_site c s.pending) s.spin)
    (groups_after false ls a s.sleep s.sleep_groups)
    (groups_after true ls a s.spin s.spin_groups) p) acts keeps
