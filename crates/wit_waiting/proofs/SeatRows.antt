-- Seats by their lists and requests.
use Rattle.std.proofs.Common.{◌≡◌, ℕ, ◌-◌, ◌*◌, ◌<◌, ◌≤◌, Bool, true, false, not, ◌&&◌, cond, eqb}
use Rattle.std.proofs.Common.{List, [], Option, Some, None, length, map, set, get_or, find, is_some}
use Rattle.std.proofs.Common.{unwrap_or, nat_lt, nat_le, replicate, refl, sym, ap, ap₂, ◌∙◌, subst}
use Rattle.std.proofs.Common.{arith}
use Rattle.std.specs.List.{range_with_len, slice_get}
use Rattle.std.proofs.lemmas.Bool.{and_parts, lt-ltb, ltb-true, leb-true}
use Rattle.std.proofs.lemmas.Option.{slice_get-get_or, slice_get_past}
use Rattle.std.proofs.lemmas.List.{length-replicate, get_or_default}
use Rattle.wit_model.specs.declared.locks.Instance.{Instance}
use Rattle.wit_model.specs.declared.calls.Request.{Request}
use Rattle.wit_model.specs.declared.sizes.TheConstants.Limits.{MOST_SEATS}
use Rattle.wit_model.specs.Rules.Chunks.{Chunks, IsList, IsNew, groups_of, chain_of, set_groups}
use Rattle.wit_model.specs.Rules.Chunks.{list_of}
use Rattle.wit_model.specs.Rules.Groups.{flat, opens}
use Rattle.wit_model.specs.Rules.Numbers.{is_given, IsGiven}
use Rattle.wit_model.specs.Rules.Verdict.{is_of}
use Rattle.wit_model.proofs.Numbered.{with_number-or, with_number-none}
use Rattle.wit_held.specs.Chains.{recorded, forgotten, is_unrecorded, after_record, after_forget}
use Rattle.wit_waiting.specs.Seats.{Holdings, Seating, no_holdings, idle_seating, seat_in, groups_held}
use Rattle.wit_waiting.specs.Seats.{locks_in, free_in, with_seat, asking, in_groups, having_acquired}
use Rattle.wit_waiting.specs.Seats.{having_released, has_no_room, after_acquired, HoldFor}
use Rattle.wit_waiting.specs.Seated.{seat_by, seats_by, seating_in, AreSeated}
use Rattle.wit_waiting.specs.declared.seats.Seats.TheInside.{Inside}
use Rattle.wit_waiting.proofs.SeatLists.{map-alike, get_or-nils, seat_with, seats-count, seat-is}
use Rattle.wit_waiting.proofs.SeatLists.{groups-is, request-set, list-given, list-set, free-by}

pub given-tested : (r : Seating) (t : ℕ) → is_given r.seats t ≡ true → IsGiven r.seats t
given-tested r t is =
    let parts = and_parts (nat_lt 0 t) (nat_le t (length r.seats)) is in
    let some = ltb-true 0 t parts.0 in
    let within = leb-true t (length r.seats) parts.1 in
    (omega (arith, some), omega (arith, within))

pub no_request-now : (r : Seating) (t : ℕ) → is_given r.seats t ≡ false
    → None ≡ (seat_in r t).pending
no_request-now r t none =
    sym (ap (λ (s : Option Holdings). (unwrap_or s no_holdings).pending)
    (with_number-none r.seats t none))

-- what a method reads, by what its caller sees
module _ (o : Inside) (r : Seating) (seen : seating_in o ≡ r) where
  pub count-now : length r.seats ≡ length o.requests.items
  count-now = sym (ap (λ (x : Seating). length x.seats) seen) ∙ seats-count o.lists o.requests.items

  pub is_seat-now : (t n : ℕ) → n ≡ length o.requests.items → 0 < t
      → nat_le t n ≡ is_given r.seats t
  is_seat-now t n len some =
      sym (ap (λ m. nat_lt 0 t && nat_le t m) (count-now ∙ sym len)
      ∙ ap (λ b. b && nat_le t n) (lt-ltb 0 t some))

  module _ (k : AreSeated o) (t : ℕ) (given : IsGiven r.seats t) where
    given-in : IsGiven (seats_by o.lists o.requests.items) t
    given-in = subst (λ (x : Seating). IsGiven x.seats t) (sym seen) given

    pub within-row : t - 1 < length o.requests.items
    within-row = let g = given-in in omega (arith, g.0, g.1, seats-count o.lists o.requests.items)

    pub number-now : (0 < t) × (t ≤ MOST_SEATS)
    number-now = let g =
        given-in in (g.0, omega (arith, g.1, seats-count o.lists o.requests.items, k.few))

    pub seat-now : seat_in r t ≡ seat_by o.lists o.requests.items t
    seat-now =
        ap (λ (x : Seating). seat_in x t) (sym seen) ∙ with_number-or
        (seats_by o.lists o.requests.items) t no_holdings given.0
        ∙ seat-is o.lists o.requests.items t given-in no_holdings

    pub request-now : (p : Option Request) → p ≡ get_or o.requests.items (t - 1) p
        → p ≡ (seat_in r t).pending
    request-now p is =
        is ∙ get_or_default o.requests.items (t - 1) p None within-row
        ∙ sym (ap (λ (s : Holdings). s.pending) seat-now)

    module _ (list : ℕ) (spin : Bool) (is : list ≡ list_of spin t) where
      pub list-now : IsList o.lists list
      list-now =
          subst (IsList o.lists) (sym is)
          (list-given o.lists o.requests.items k.lists t spin given-in)

      groups-now : groups_of o.lists list ≡ groups_held spin (seat_in r t)
      groups-now =
          ap (groups_of o.lists) is ∙ sym (groups-is o.lists o.requests.items spin t)
          ∙ ap (groups_held spin) (sym seat-now)

      pub chain-now : chain_of o.lists list ≡ locks_in spin (seat_in r t)
      chain-now = ap flat groups-now

      pub item-now : (i : ℕ) (d : Instance) → i < length (chain_of o.lists list)
          → d ≡ get_or (chain_of o.lists list) i d
          → Some d ≡ slice_get (locks_in spin (seat_in r t)) i
      item-now i d lt held =
          ap Some held ∙ sym (slice_get-get_or (chain_of o.lists list) i d lt)
          ∙ ap (λ c. slice_get c i) chain-now

      pub beyond-now : (i : ℕ) → length (chain_of o.lists list) ≤ i
          → None ≡ slice_get (locks_in spin (seat_in r t)) i
      beyond-now i past =
          sym (slice_get_past (chain_of o.lists list) i past) ∙ ap (λ c. slice_get c i) chain-now

  pub free-now : AreSeated o → length o.lists.unused ≡ free_in r
  free-now k = free-by o.lists o.requests.items k.lists k.placed ∙ ap free_in seen

  pub holds-now : AreSeated o → HoldFor r o.lists
  holds-now k = record {
    few = omega (arith, k.few, count-now);
    groups = λ t spin given. groups-now k t given (list_of spin t) spin refl;
    lists = k.lists ∙ ap (λ n. 2 * n) (sym count-now);
    size = ap (λ (x : Seating). x.chunks) seen;
    placed = k.placed;
  }

abbrev pub row : List Holdings → ℕ → Seating
row seats chunks = record { seats = seats; chunks = chunks }

-- what a method leaves, by what its caller sees
module _ (o : Inside) (r : Seating) (seen : seating_in o ≡ r) (k : AreSeated o) (t : ℕ)
    (given : IsGiven r.seats t) where
  pub asked-now : (p : Option Request)
      → row (seats_by o.lists (set o.requests.items (t - 1) p)) o.lists.size
      ≡ with_seat t (asking p) r
  asked-now p =
      ap (λ ss. row ss o.lists.size)
      (request-set o.lists o.requests.items t p (given-in o r seen k t given))
      ∙ ap (with_seat t (asking p)) seen

  module _ (list : ℕ) (spin : Bool) (is : list ≡ list_of spin t) (c : Chunks)
      (size : c.size ≡ o.lists.size) where
    pub written-now : (change : List (List Instance) → List (List Instance))
        → c.groups ≡ set_groups o.lists list (change (groups_of o.lists list))
        → row (seats_by c o.requests.items) c.size ≡ with_seat t (in_groups spin change) r
    written-now change groups =
        let at : c.groups ≡ set_groups o.lists (list_of spin t)
        (change (groups_of o.lists (list_of spin t))) =
        groups ∙ ap (λ n. set_groups o.lists n (change (groups_of o.lists n))) is in
        ap₂ row
        (list-set o.lists o.requests.items k.lists t (given-in o r seen k t given) c
        (change (groups_of o.lists (list_of spin t))) spin at
        ∙ ap (set (seats_by o.lists o.requests.items) (t - 1))
        (same spin ∙ ap (in_groups spin change)
        (sym (seat-is o.lists o.requests.items t (given-in o r seen k t given) no_holdings))))
        size
        ∙ ap (with_seat t (in_groups spin change)) seen
      where
        same : (b : Bool) → in_groups b (λ old. change (groups_of o.lists (list_of b t)))
            (seat_by o.lists o.requests.items t)
            ≡ in_groups b change (seat_by o.lists o.requests.items t)
        same true = refl
        same false = refl

    -- a release
    pub forgotten-now : (l : ℕ) → c.groups ≡ after_forget o.lists list l
        → row (seats_by c o.requests.items) c.size ≡ with_seat t (having_released spin l) r
    forgotten-now l groups = written-now (forgotten l) groups

    -- an acquisition
    pub room-now : (l : ℕ) → is_unrecorded o.lists list l ≡ has_no_room r t spin l
    room-now l =
        ap₂ (λ gs n. not (is_some (find (is_of l) (flat gs))) && (opens gs && eqb n 0))
        (groups-now o r seen k t given list spin is) (free-now o r seen k)

    unrecorded-now : c.groups ≡ o.lists.groups → row (seats_by c o.requests.items) c.size ≡ r
    unrecorded-now groups =
        ap₂ (λ gss n. row (seats_by (record o.lists { groups = gss }) o.requests.items) n)
        groups size ∙ seen

    pub recorded-now : (i : Instance) → c.groups ≡ after_record o.lists list i
        → row (seats_by c o.requests.items) c.size ≡ after_acquired t spin i r
    recorded-now i groups = go (is_unrecorded o.lists list i.lock.0) refl
      where
        go : (b : Bool) → is_unrecorded o.lists list i.lock.0 ≡ b
            → row (seats_by c o.requests.items) c.size ≡ after_acquired t spin i r
        go true full =
            unrecorded-now (groups ∙ ap (λ b. cond b o.lists.groups
            (set_groups o.lists list (recorded i (groups_of o.lists list)))) full)
            ∙ sym (ap (λ b. cond b r (with_seat t (having_acquired spin i) r))
            (sym (room-now i.lock.0) ∙ full))
        go false room =
            written-now (recorded i) (groups
            ∙ ap (λ b. cond b o.lists.groups
            (set_groups o.lists list (recorded i (groups_of o.lists list)))) room)
            ∙ sym (ap (λ b. cond b r (with_seat t (having_acquired spin i) r))
            (sym (room-now i.lock.0) ∙ room))

-- new seats
module _ (seats chunks lists : ℕ) (count : lists ≡ 2 * seats) (c : Chunks)
    (ps : List (Option Request)) (new : IsNew chunks lists c)
    (none : ps ≡ replicate seats None) where
  ps-length : length ps ≡ seats
  ps-length = ap length none ∙ length-replicate seats None

  no_groups : (list : ℕ) → groups_of c list ≡ []
  no_groups list = ap (λ gss. get_or gss (list - 1) []) new.groups ∙ get_or-nils lists (list - 1) []

  seat-idle : (t : ℕ) → seat_by c ps t ≡ no_holdings
  seat-idle t =
      ap₂ (λ a b. seat_with a b (get_or ps (t - 1) None)) (no_groups (list_of false t))
      (no_groups (list_of true t))
      ∙ ap (seat_with [] []) (ap (λ qs. get_or qs (t - 1) None) none
      ∙ get_or-nils seats (t - 1) None)

  pub row-idle : row (seats_by c ps) c.size ≡ idle_seating seats chunks
  row-idle =
      ap₂ row (ap (λ n. map (seat_by c ps) (range_with_len 1 n)) ps-length
      ∙ map-alike (seat_by c ps) no_holdings seat-idle 1 seats) new.size
