-- Seats as the rules see them, after an acquisition and a release.
use Rattle.std.proofs.Common.{◌≡◌, ℕ, ◌+◌, Bool, true, false, not, cond, nat_lt, List, [], ◌∷◌}
use Rattle.std.proofs.Common.{◌++◌, length, map, filter, find, Option, Some, None, refl, sym, ap}
use Rattle.std.proofs.Common.{ap₂, ◌∙◌, arith}
use Rattle.std.proofs.lemmas.List.{length-map, map-append}
use Rattle.std.proofs.lemmas.List.Sums.{sum_by-cons}
use Rattle.std.specs.List.{sum_by}
use Rattle.wit_model.specs.declared.locks.Instance.{Instance}
use Rattle.wit_model.specs.declared.locks.LockNo.{LockNo}
use Rattle.wit_model.specs.declared.locks.Mode.{Mode}
use Rattle.wit_model.specs.declared.locks.Site.{Site}
use Rattle.wit_model.specs.declared.calls.NewLock.{NewLock}
use Rattle.wit_model.specs.declared.calls.Request.{Request}
use Rattle.wit_model.specs.Rules.Groups.{flat, group_has_room, joined, opens, is_filled, tidied}
use Rattle.wit_model.specs.Rules.Groups.{left}
use Rattle.wit_model.specs.Rules.Locks.{is_spin_lock}
use Rattle.wit_model.specs.Rules.State as model
use Rattle.wit_model.specs.Rules.Verdict.{is_of}
use Rattle.wit_model.proofs.Chains.After.{noted, unlocked}
use Rattle.wit_model.proofs.Chains.Changes.{at}
use Rattle.wit_model.proofs.Chains.Effects.{is_not}
use Rattle.wit_model.proofs.Chains.GroupSteps.{groups_entered, withdrawn}
use Rattle.wit_model.proofs.Chains.Regrouping.{flat-joined, flat-left}
use Rattle.wit_model.proofs.Chains.Seats as chains
use Rattle.wit_model.proofs.Chains.Stands.{stands}
use Rattle.wit_model.proofs.Lists.{map-filter}
use Rattle.wit_held.specs.Chains.{is_other, change_lock, recursed, fewer, recorded, recorded_by}
use Rattle.wit_held.specs.Chains.{forgotten, forgotten_by}
use Rattle.wit_held.specs.Chains as held
use Rattle.wit_core.specs.Acquiring.{taken}
use Rattle.wit_waiting.specs.Seats.{numbers, seat_view}
use Rattle.wit_waiting.specs.Seats.{Holdings, asking, having_acquired, having_released, chunks_held}

abbrev number : Instance → ℕ
number i = i.lock.0

-- the groups by their numbers
pub opens-numbers : (gs : List (List Instance)) → opens (numbers gs) ≡ opens gs
opens-numbers [] = refl
opens-numbers (g ∷ []) = ap (λ n. not (nat_lt n 5)) (length-map g number)
opens-numbers (g ∷ g' ∷ gs) = opens-numbers (g' ∷ gs)

numbers-joined : (i : Instance) (gs : List (List Instance))
    → numbers (joined i gs) ≡ joined i.lock.0 (numbers gs)
numbers-joined i [] = refl
numbers-joined i (g ∷ []) =
    by (group_has_room g) ∙ ap (λ n. cond (nat_lt n 5) ((map number g ++ i.lock.0 ∷ []) ∷ [])
    (map number g ∷ (i.lock.0 ∷ []) ∷ [])) (sym (length-map g number))
  where
    by : (b : Bool) → numbers (cond b ((g ++ i ∷ []) ∷ []) (g ∷ (i ∷ []) ∷ []))
        ≡ cond b ((map number g ++ i.lock.0 ∷ []) ∷ []) (map number g ∷ (i.lock.0 ∷ []) ∷ [])
    by true = ap (λ ns. ns ∷ []) (map-append number g (i ∷ []))
    by false = refl
numbers-joined i (g ∷ g' ∷ gs) = ap (λ ns. map number g ∷ ns) (numbers-joined i (g' ∷ gs))

numbers-filled : (gs : List (List Instance)) → numbers (filter is_filled gs)
    ≡ filter is_filled (numbers gs)
numbers-filled [] = refl
numbers-filled (g ∷ gs) =
    by (is_filled g) ∙ ap₂ (λ n ns. cond (nat_lt 0 n) (map number g ∷ ns) ns)
    (sym (length-map g number)) (numbers-filled gs)
  where
    by : (b : Bool) → numbers (cond b (g ∷ filter is_filled gs) (filter is_filled gs))
        ≡ cond b (map number g ∷ numbers (filter is_filled gs)) (numbers (filter is_filled gs))
    by true = refl
    by false = refl

numbers-tidied : (gs : List (List Instance)) → numbers (tidied gs) ≡ tidied (numbers gs)
numbers-tidied [] = refl
numbers-tidied (g ∷ []) = refl
numbers-tidied (g ∷ g' ∷ gs) = numbers-filled (g ∷ g' ∷ gs)

numbers-left : (l : ℕ) (gs : List (List Instance))
    → numbers (left (is_other l) gs) ≡ left (is_not l) (numbers gs)
numbers-left l gs = numbers-tidied (map (filter (is_other l)) gs) ∙ ap tidied (each gs)
  where
    each : (hs : List (List Instance)) → numbers (map (filter (is_other l)) hs)
        ≡ map (filter (is_not l)) (numbers hs)
    each [] = refl
    each (h ∷ hs) = ap₂ (λ n ns. n ∷ ns) (map-filter number (is_not l) h) (each hs)

module _ (l : ℕ) (f : Instance → Instance) (keeps : (i : Instance) → (f i).lock.0 ≡ i.lock.0) where
  number-changed : (g : List Instance) → map number (map (held.at_lock l f) g) ≡ map number g
  number-changed [] = refl
  number-changed (i ∷ g) = ap₂ (λ n ns. n ∷ ns) (by (is_of l i)) (number-changed g)
    where
      by : (b : Bool) → (cond b (f i) i).lock.0 ≡ i.lock.0
      by true = keeps i
      by false = refl

  pub numbers-changed : (gs : List (List Instance)) → numbers (change_lock l f gs) ≡ numbers gs
  numbers-changed [] = refl
  numbers-changed (g ∷ gs) = ap₂ (λ n ns. n ∷ ns) (number-changed g) (numbers-changed gs)

pub flat-changed : (l : ℕ) (f : Instance → Instance) (gs : List (List Instance))
    → flat (change_lock l f gs) ≡ map (at l f) (flat gs)
flat-changed l f [] = refl
flat-changed l f (g ∷ gs) =
    ap (λ is. map (at l f) g ++ is) (flat-changed l f gs) ∙ sym (map-append (at l f) g (flat gs))

-- after an acquisition
flat-recorded : (l : LockNo) (m : Mode) (site : Site) (gs : List (List Instance))
    (o : Option Instance)
    → flat (recorded_by (taken l m site) gs o) ≡ noted l.0 m site (flat gs) o
flat-recorded l m site gs None = flat-joined (taken l m site) gs
flat-recorded l m site gs (Some i) = flat-changed l.0 (recursed site) gs

numbers-recorded : (l : LockNo) (m : Mode) (site : Site) (gs : List (List Instance))
    (o : Option Instance)
    → numbers (recorded_by (taken l m site) gs o) ≡ groups_entered l.0 (numbers gs) o
numbers-recorded l m site gs None = numbers-joined (taken l m site) gs
numbers-recorded l m site gs (Some i) = numbers-changed l.0 (recursed site) (λ j. refl) gs

-- and after a release
flat-forgotten : (l : ℕ) (gs : List (List Instance)) (o : Option Instance)
    → flat (forgotten_by l gs o) ≡ unlocked l (flat gs) o
flat-forgotten l gs None = refl
flat-forgotten l gs (Some i) = by (nat_lt 0 i.count)
  where
    by : (b : Bool) → flat (cond b (change_lock l fewer gs) (left (is_other l) gs))
        ≡ cond b (map (at l fewer) (flat gs)) (filter (is_other l) (flat gs))
    by true = flat-changed l fewer gs
    by false = flat-left (is_other l) gs

numbers-forgotten : (l : ℕ) (gs : List (List Instance)) (o : Option Instance)
    → numbers (forgotten_by l gs o) ≡ withdrawn l (numbers gs) o
numbers-forgotten l gs None = refl
numbers-forgotten l gs (Some i) = by (nat_lt 0 i.count)
  where
    by : (b : Bool) → numbers (cond b (change_lock l fewer gs) (left (is_other l) gs))
        ≡ cond b (numbers gs) (left (is_not l) (numbers gs))
    by true = numbers-changed l fewer (λ j. refl) gs
    by false = numbers-left l gs

abbrev pub seat : List Instance → List Instance → List (List ℕ) → List (List ℕ)
    → Option Request → model.Seat
seat sleep spin sleep_groups spin_groups p =
    record {
      sleep = sleep;
      spin = spin;
      sleep_groups = sleep_groups;
      spin_groups = spin_groups;
      pending = p;
    }

-- a seat that acquired a lock of its kind
pub acquired-view : (ls : List NewLock) (l : LockNo) (m : Mode) (site : Site) (p : Option Request)
    (spin : Bool) (s : Holdings) → spin ≡ is_spin_lock ls l.0
    → seat_view (asking p (having_acquired spin (taken l m site) s))
    ≡ chains.acquired ls l.0 m site p (seat_view s)
acquired-view ls l m site p spin s kind = by spin ∙ ap (form s) kind
  where
    form : Holdings → Bool → model.Seat
    form r b = seat
        (cond (not b) (noted l.0 m site (flat r.sleep) (find (is_of l.0) (flat r.sleep)))
        (flat r.sleep))
        (cond b (noted l.0 m site (flat r.spin) (find (is_of l.0) (flat r.spin))) (flat r.spin))
        (cond (not b) (groups_entered l.0 (numbers r.sleep) (find (is_of l.0) (flat r.sleep)))
        (numbers r.sleep))
        (cond b (groups_entered l.0 (numbers r.spin) (find (is_of l.0) (flat r.spin)))
        (numbers r.spin))
        p

    by : (b : Bool) → seat_view (asking p (having_acquired b (taken l m site) s)) ≡ form s b
    by true = ap₂ (λ c gs. seat (flat s.sleep) c (numbers s.sleep) gs p)
        (flat-recorded l m site s.spin (find (is_of l.0) (flat s.spin)))
        (numbers-recorded l m site s.spin (find (is_of l.0) (flat s.spin)))
    by false = ap₂ (λ c gs. seat c (flat s.spin) gs (numbers s.spin) p)
        (flat-recorded l m site s.sleep (find (is_of l.0) (flat s.sleep)))
        (numbers-recorded l m site s.sleep (find (is_of l.0) (flat s.sleep)))

-- a seat that released a lock of its kind
abbrev unlocked_form : ℕ → Holdings → Bool → model.Seat
unlocked_form l r b = seat
    (cond (not b) (unlocked l (flat r.sleep) (find (is_of l) (flat r.sleep))) (flat r.sleep))
    (cond b (unlocked l (flat r.spin) (find (is_of l) (flat r.spin))) (flat r.spin))
    (cond (not b) (withdrawn l (numbers r.sleep) (find (is_of l) (flat r.sleep))) (numbers r.sleep))
    (cond b (withdrawn l (numbers r.spin) (find (is_of l) (flat r.spin))) (numbers r.spin))
    r.pending

pub released-view : (ls : List NewLock) (l : ℕ) (spin : Bool) (s : Holdings)
    → spin ≡ is_spin_lock ls l
    → seat_view (having_released spin l s) ≡ unlocked_form l s (is_spin_lock ls l)
released-view ls l spin s kind = by spin ∙ ap (unlocked_form l s) kind
  where
    by : (b : Bool) → seat_view (having_released b l s) ≡ unlocked_form l s b
    by true = ap₂ (λ c gs. seat (flat s.sleep) c (numbers s.sleep) gs s.pending)
        (flat-forgotten l s.spin (find (is_of l) (flat s.spin)))
        (numbers-forgotten l s.spin (find (is_of l) (flat s.spin)))
    by false = ap₂ (λ c gs. seat c (flat s.spin) gs (numbers s.spin) s.pending)
        (flat-forgotten l s.sleep (find (is_of l) (flat s.sleep)))
        (numbers-forgotten l s.sleep (find (is_of l) (flat s.sleep)))

-- the chunks of all seats
pub chunks-viewed : (ss : List Holdings) → sum_by model.chunks_of (map seat_view ss)
    ≡ sum_by chunks_held ss
chunks-viewed [] = refl
chunks-viewed (s ∷ ss) =
    let a = sum_by-cons model.chunks_of (seat_view s) (map seat_view ss) in
    let b = sum_by-cons chunks_held s ss in
    omega (
      arith,
      a,
      b,
      chunks-viewed ss,
      length-map s.sleep (map number),
      length-map s.spin (map number),
    )

-- how often a lock stands in a chain
pub stands-filter : (l : ℕ) (c : List Instance) → stands l c ≡ held.stands l c
unfolding stands
stands-filter l [] = refl
stands-filter l (i ∷ c) = by (is_of l i) (stands-filter l c)
  where
    by : (b : Bool) → stands l c ≡ held.stands l c
        → cond b 1 0 + stands l c ≡ length (cond b (i ∷ filter (is_of l) c) (filter (is_of l) c))
    by true e = omega (arith, e)
    by false e = omega (arith, e)
