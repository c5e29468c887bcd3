-- The lists hold what the seats hold after the history.
use Rattle.std.proofs.Common.{◌≡◌, ℕ, ◌*◌, Bool, true, false, List, [], ◌∷◌, ◌++◌, length, map}
use Rattle.std.proofs.Common.{refl, sym, ap, ap₂, ◌∙◌, subst, arith}
use Rattle.std.proofs.lemmas.List.{length-map}
use Rattle.std.proofs.lemmas.List.FromFn.{length-map-range_with_len}
use Rattle.wit_model.specs.declared.locks.Instance.{Instance}
use Rattle.wit_model.specs.declared.calls.Entry.{Entry}
use Rattle.wit_model.specs.Rules.Chunks.{Chunks}
use Rattle.wit_model.specs.Rules.Groups.{flat}
use Rattle.wit_model.specs.Rules.History.{chain, instance}
use Rattle.wit_model.specs.Rules.Numbers.{IsNumber}
use Rattle.wit_model.specs.Rules.SeatGroups.{seat_groups, held_groups}
use Rattle.wit_model.specs.Rules.State.{Story, State, seat_of}
use Rattle.wit_model.specs.Rules.State as model
use Rattle.wit_model.proofs.Chains.Regrouping.{groups-chain}
use Rattle.wit_model.proofs.Chains.Seats.{get_or-seats_of}
use Rattle.wit_model.proofs.Histories.Legal.{sane_legal}
use Rattle.wit_core.specs.declared.verifier.Verifier.TheInside.{Inside}
use Rattle.wit_waiting.specs.Seats.{numbers, seat_view}
use Rattle.wit_core.specs.Held.{HoldAll}
use Rattle.wit_core.specs.Kept.{IsTied, start_in, history_in}
use Rattle.wit_waiting.specs.Seats.{Holdings, seat_in, groups_held, HoldFor}
use Rattle.wit_core.proofs.Now.{view-is}
use Rattle.wit_model.proofs.Numbered.{with_number-or}
use Rattle.wit_core.proofs.Seen.{IsSeenAs}

-- lists that have the same lengths and are the same when they are joined
cut : {X : Type 0} (a b c d : List X) → length a ≡ length b → a ++ c ≡ b ++ d → (a ≡ b) × (c ≡ d)
cut [] [] c d len is = (refl, is)
cut [] (y ∷ b) c d len is = absurd (omega (arith, len))
cut (x ∷ a) [] c d len is = absurd (omega (arith, len))
cut (x ∷ a) (y ∷ b) c d len is =
    let head : x ≡ y = cc in
    let rest : a ++ c ≡ b ++ d = cc in
    let parts = cut a b c d (omega (arith, len)) rest in
    (ap₂ (λ z zs. z ∷ zs) head parts.0, parts.1)

same-groups : (gs hs : List (List Instance)) → numbers gs ≡ numbers hs → flat gs ≡ flat hs → gs ≡ hs
same-groups [] [] shape is = refl
same-groups [] (h ∷ hs) shape is = absurd (let len = ap length shape in omega (arith, len))
same-groups (g ∷ gs) [] shape is = absurd (let len = ap length shape in omega (arith, len))
same-groups (g ∷ gs) (h ∷ hs) shape is =
    let here : map (λ (i : Instance). i.lock.0) g ≡ map (λ (i : Instance). i.lock.0) h = cc in
    let rest : numbers gs ≡ numbers hs = cc in
    let len : length g ≡ length h =
    sym (length-map g (λ (i : Instance). i.lock.0)) ∙ ap length here
    ∙ length-map h (λ (i : Instance). i.lock.0) in
    let parts = cut g h (flat gs) (flat hs) len is in
    ap₂ (λ x xs. x ∷ xs) parts.0 (same-groups gs hs rest parts.1)

-- held groups by their numbers
numbers-row : (t : ℕ) (h : List Entry) (ls : List ℕ)
    → map (λ (i : Instance). i.lock.0) (map (instance t h) ls) ≡ ls
numbers-row t h [] = refl
numbers-row t h (l ∷ ls) = ap (λ ns. l ∷ ns) (numbers-row t h ls)

numbers-held : (t : ℕ) (h : List Entry) (gs : List (List ℕ))
    → numbers (map (map (instance t h)) gs) ≡ gs
numbers-held t h [] = refl
numbers-held t h (g ∷ gs) = ap₂ (λ x xs. x ∷ xs) (numbers-row t h g) (numbers-held t h gs)

module _ (v : Inside) (k : IsTied v) where
  seats-now : map seat_view v.seats.seats ≡ model.seats_of v.limits.seats (history_in v)
  seats-now = ap (λ (x : State). x.seats) k.state

  count-now : length v.seats.seats ≡ v.limits.seats
  count-now =
      sym (length-map v.seats.seats seat_view) ∙ ap length seats-now
      ∙ length-map-range_with_len (seat_of (history_in v)) 1 v.limits.seats

  seat-is : (t : ℕ) → IsNumber v.limits.seats t
      → seat_view (seat_in v.seats t) ≡ seat_of (history_in v) t
  seat-is t given =
      sym (view-is v.seats t) ∙ ap (λ ss. model.seat_among ss t) seats-now
      ∙ (with_number-or (model.seats_of v.limits.seats (history_in v)) t model.no_seat given.0
      ∙ get_or-seats_of v.limits.seats t (history_in v) model.no_seat given.0 given.1)

  chain-by : (b : Bool) (s : Holdings) → flat (groups_held b s) ≡ model.chain_in b (seat_view s)
  chain-by true s = refl
  chain-by false s = refl

  chain-of : (b : Bool) (u : ℕ) (h : List Entry) → model.chain_in b (seat_of h u) ≡ chain b u h
  chain-of true u h = refl
  chain-of false u h = refl

  -- each seat holds what the history has it hold
  pub chain-held : (t : ℕ) (spin : Bool) → IsNumber v.limits.seats t
      → flat (groups_held spin (seat_in v.seats t)) ≡ chain spin t (history_in v)
  chain-held t spin given =
      chain-by spin (seat_in v.seats t) ∙ ap (model.chain_in spin) (seat-is t given)
      ∙ chain-of spin t (history_in v)

  groups-held : (t : ℕ) (spin : Bool) → IsNumber v.limits.seats t
      → groups_held spin (seat_in v.seats t) ≡ held_groups spin t (history_in v)
  groups-held t spin given =
      same-groups (groups_held spin (seat_in v.seats t)) (held_groups spin t (history_in v))
      (groups-by spin (seat_in v.seats t) ∙ ap (model.groups_in spin) (seat-is t given)
      ∙ groups-of spin t (history_in v)
      ∙ sym (numbers-held t (history_in v) (seat_groups spin t (history_in v))))
      (chain-held t spin given ∙ sym
      (groups-chain spin t (history_in v)
      (sane_legal (start_in v) v.known.files (history_in v) k.legal)))
    where
      groups-by : (b : Bool) (s : Holdings) → numbers (groups_held b s)
          ≡ model.groups_in b (seat_view s)
      groups-by true s = refl
      groups-by false s = refl

      groups-of : (b : Bool) (u : ℕ) (h : List Entry)
          → model.groups_in b (seat_of h u) ≡ seat_groups b u h
      groups-of true u h = refl
      groups-of false u h = refl

-- the chunks hold what the seats hold
module _ {v : Inside} {s : Story} (this : IsSeenAs v s) (c : Chunks)
    (holds : HoldFor v.seats c) where
  pub holds-all : HoldAll s c
  holds-all =
      subst (λ (x : Story). HoldAll x c) this.seen (record {
        size = holds.size ∙ this.tied.chunks;
        lists = holds.lists ∙ ap (λ n. 2 * n) (count-now v this.tied);
        groups =
            λ t spin given. holds.groups t spin
            (given.0, omega (arith, given.1, count-now v this.tied))
            ∙ groups-held v this.tied t spin given;
        placed = holds.placed;
      })
