-- The state after each accepted call.
use Rattle.std.proofs.Common.{◌≡◌, ℕ, ◌-◌, ◌<◌, ◌≤◌, Bool, List, [], ◌∷◌, ◌++◌, Option, None, Some}
use Rattle.std.proofs.Common.{length, map, set, get_or, refl, sym, ap, ◌∙◌, arith}
use Rattle.std.proofs.lemmas.List.FromFn.{length-map-range_with_len}
use Rattle.std.proofs.lemmas.List.{set-get_or, set-set, get_or-set_same, map-set, get_or-map}
use Rattle.std.proofs.lemmas.List.{length-map}
use Rattle.wit_model.specs.declared.profiles.Profile.{Profile}
use Rattle.wit_model.specs.declared.locks.LockNo.{LockNo}
use Rattle.wit_model.specs.declared.locks.Mode.{Mode}
use Rattle.wit_model.specs.declared.locks.Site.{Site}
use Rattle.wit_model.specs.declared.locks.Watch.{Watch}
use Rattle.wit_model.specs.declared.locks.Lock.{Lock}
use Rattle.wit_model.specs.declared.calls.Call.{Call}
use Rattle.wit_model.specs.declared.calls.Call.TheVariants.{Note, NoteTry, Unlock}
use Rattle.wit_model.specs.declared.calls.Reply.{Reply}
use Rattle.wit_model.specs.declared.calls.Reply.TheVariants.{Recorded, Unlocked}
use Rattle.wit_model.specs.declared.calls.Request.{Request}
use Rattle.wit_model.specs.declared.calls.Entry.{Entry}
use Rattle.wit_model.specs.Rules.Locks.{locks_of, is_spin_lock}
use Rattle.wit_model.specs.Rules.Locks.{made_among}
use Rattle.wit_model.specs.Rules.Orders.{adopted}
use Rattle.wit_model.specs.Rules.Types.{types_after}
use Rattle.wit_model.specs.Rules.Sizes.{Sizes}
use Rattle.wit_model.specs.Rules.History.{Nothing, act, pending, pending_after}
use Rattle.wit_model.specs.Rules.State.{Start, State, Known, state_of, known_of, seat_of, seats_of}
use Rattle.wit_model.specs.Rules.State.{types_of, typed_locks, orders_of, found_of, found_after}
use Rattle.wit_model.specs.Rules.State as model
use Rattle.wit_model.proofs.Chains.Sane.{IsSane}
use Rattle.wit_model.proofs.Chains.Seats.{entry, seat_after, seat_after-quiet, seat_after-note}
use Rattle.wit_model.proofs.Chains.Seats.{seat_after-try, seat_after-unlock, seats_of-entry}
use Rattle.wit_model.proofs.Chains.Seats.{get_or-seats_of}
use Rattle.wit_model.proofs.Orders.Types.{typed-same}
use Rattle.wit_core.specs.Acquiring.{taken}
use Rattle.wit_waiting.specs.Seats.{seat_view}
use Rattle.wit_waiting.specs.Seats.{Holdings, Seating, no_holdings, with_seat, asking, having_acquired}
use Rattle.wit_waiting.specs.Seats.{having_released}
use Rattle.wit_core.proofs.HeldSeats.{acquired-view, released-view}

-- a state by its parts
abbrev pub state : Sizes → Profile → ℕ → Known → List ℕ → List model.Seat → Watch → ℕ → State
state sizes profile files known destroyed seats watch used =
    record {
      sizes = sizes;
      profile = profile;
      files = files;
      known = known;
      destroyed = destroyed;
      seats = seats;
      watch = watch;
      used = used;
    }

pub same_state : (sizes : Sizes) (profile : Profile) (f f' : ℕ) (k k' : Known) (d d' : List ℕ)
    (ss ss' : List model.Seat) (w w' : Watch) (u u' : ℕ)
    → f ≡ f' → k ≡ k' → d ≡ d' → ss ≡ ss' → w ≡ w' → u ≡ u'
    → state sizes profile f k d ss w u ≡ state sizes profile f' k' d' ss' w' u'
same_state sizes profile f f' k k' d d' ss ss' w w' u u' ef ek ed es ew eu =
    ap (λ x. state sizes profile x k d ss w u) ef ∙ (ap (λ x. state sizes profile f' x d ss w u) ek
    ∙ (ap (λ x. state sizes profile f' k' x ss w u) ed
    ∙ (ap (λ x. state sizes profile f' k' d' x w u) es
    ∙ (ap (λ x. state sizes profile f' k' d' ss' x u) ew
    ∙ ap (λ x. state sizes profile f' k' d' ss' w' x) eu))))

pub same_locks : (k : Known) (locks : List Lock) → locks ≡ k.locks → record k { locks = locks } ≡ k
same_locks k locks e = ap (λ (ls : List Lock). record k { locks = ls }) e

-- a seat that is changed twice
pub seat-twice : (seating : Seating) (t : ℕ) (f g : Holdings → Holdings)
    → t - 1 < length seating.seats → with_seat t f (with_seat t g seating)
    ≡ with_seat t (λ s. f (g s)) seating
seat-twice seating t f g lt =
    ap (λ ss. record seating { seats = ss })
    (ap (λ s. set (set seating.seats (t - 1) (g (get_or seating.seats (t - 1) no_holdings)))
    (t - 1) (f s))
    (get_or-set_same seating.seats (t - 1) (g (get_or seating.seats (t - 1) no_holdings))
    no_holdings lt)
    ∙ set-set seating.seats (t - 1) (g (get_or seating.seats (t - 1) no_holdings))
    (f (g (get_or seating.seats (t - 1) no_holdings))))

-- what is added to the state by a call that makes no lock and teaches nothing
module _ (start : Start) (files : List (List ℕ)) (h : List Entry) (seating : Seating)
    (same : map seat_view seating.seats ≡ seats_of start.sizes.seats h) (t : ℕ) (some : 0 < t)
    (within : t ≤ start.sizes.seats) where
  pub in-row : t - 1 < length seating.seats
  in-row =
      let count : length seating.seats ≡ start.sizes.seats =
      sym (length-map seating.seats seat_view) ∙ ap length same
      ∙ length-map-range_with_len (seat_of h) 1 start.sizes.seats in
      omega (arith, some, within, count)

  abbrev here : Holdings
  here = get_or seating.seats (t - 1) no_holdings

  here-is : seat_view here ≡ seat_of h t
  here-is =
      sym (get_or-map seat_view seating.seats (t - 1) no_holdings (seat_view no_holdings) in-row)
      ∙ ap (λ ss. get_or ss (t - 1) (seat_view no_holdings)) same
      ∙ get_or-seats_of start.sizes.seats t h (seat_view no_holdings) some within

  pub request-is : (p : Option Request) → pending t h ≡ p → here.pending ≡ p
  request-is p is = ap (λ (s : model.Seat). s.pending) here-is ∙ is

  -- the seat of the entry is changed as the rules say
  pub seats-after : (call : Call) (reply : Reply) (change : Holdings → Holdings)
      → IsSane (entry t call reply ∷ h)
      → seat_view (change here) ≡ seat_after (locks_of h) (entry t call reply) (seat_view here)
      → map seat_view (with_seat t change seating).seats
      ≡ seats_of start.sizes.seats (entry t call reply ∷ h)
  seats-after call reply change sane is =
      map-set seat_view seating.seats (t - 1) (change here)
      ∙ ap (set (map seat_view seating.seats) (t - 1))
      (is ∙ ap (seat_after (locks_of h) (entry t call reply))
      (here-is ∙ sym (get_or-seats_of start.sizes.seats t h
      (seat_view no_holdings) some within)))
      ∙ ap (λ ss. set ss (t - 1) (seat_after (locks_of h) (entry t call reply)
      (get_or (seats_of start.sizes.seats h) (t - 1) (seat_view no_holdings)))) same
      ∙ sym (seats_of-entry start.sizes.seats (entry t call reply) h sane some within
      (seat_view no_holdings))

  -- an entry that does nothing to the locks of its seat
  pub seats-quiet : (call : Call) (reply : Reply) (p : Option Request)
      → IsSane (entry t call reply ∷ h) → act call reply ≡ Nothing
      → pending_after call (pending t h) ≡ p
      → map seat_view (with_seat t (asking p) seating).seats
      ≡ seats_of start.sizes.seats (entry t call reply ∷ h)
  seats-quiet call reply p sane quiet asks =
      seats-after call reply (asking p) sane
      (ap (λ (o : Option Request). record (seat_view here) { pending = o })
      (sym asks ∙ ap (pending_after call) (sym (request-is (pending t h) refl)))
      ∙ sym (seat_after-quiet (locks_of h) t call reply (seat_view here) quiet))

  -- one that leaves the seat
  pub seats-same : (call : Call) (reply : Reply) → IsSane (entry t call reply ∷ h)
      → act call reply ≡ Nothing → pending_after call (pending t h) ≡ pending t h
      → map seat_view seating.seats ≡ seats_of start.sizes.seats (entry t call reply ∷ h)
  seats-same call reply sane quiet keeps =
      ap (map seat_view) (sym (set-get_or seating.seats (t - 1) no_holdings))
      ∙ ap (λ p. map seat_view (with_seat t (asking p) seating).seats)
      (request-is (pending t h) refl)
      ∙ seats-quiet call reply (pending t h) sane quiet keeps

  module _ (l : LockNo) (spin : Bool) (kind : spin ≡ is_spin_lock (locks_of h) l.0) where
    pub seats-note : (q : Request) → IsSane (entry t (Note l) Recorded ∷ h) → pending t h ≡ Some q
        → map seat_view (with_seat t
        (λ s. asking None (having_acquired spin (taken l q.mode q.site) s)) seating).seats
        ≡ seats_of start.sizes.seats (entry t (Note l) Recorded ∷ h)
    seats-note q sane asked =
        seats-after (Note l) Recorded
        (λ s. asking None (having_acquired spin (taken l q.mode q.site) s)) sane
        (acquired-view (locks_of h) l q.mode q.site None spin here kind
        ∙ sym (seat_after-note (locks_of h) t l q (seat_view here) (request-is (Some q) asked)))

    pub seats-try : (m : Mode) (site : Site) → IsSane (entry t (NoteTry l m site) Recorded ∷ h)
        → map seat_view (with_seat t (having_acquired spin (taken l m site)) seating).seats
        ≡ seats_of start.sizes.seats (entry t (NoteTry l m site) Recorded ∷ h)
    seats-try m site sane =
        seats-after (NoteTry l m site) Recorded (having_acquired spin (taken l m site)) sane
        (acquired-view (locks_of h) l m site here.pending spin here kind
        ∙ sym (seat_after-try (locks_of h) t l m site (seat_view here)))

    pub seats-unlock : (m : Mode) → IsSane (entry t (Unlock l m) Unlocked ∷ h)
        → map seat_view (with_seat t (having_released spin l.0) seating).seats
        ≡ seats_of start.sizes.seats (entry t (Unlock l m) Unlocked ∷ h)
    seats-unlock m sane =
        seats-after (Unlock l m) Unlocked (having_released spin l.0) sane
        (released-view (locks_of h) l.0 spin here kind
        ∙ sym (seat_after-unlock (locks_of h) t l m (seat_view here)))

-- what is known after a call that makes no lock and teaches nothing
pub known-same : (start : Start) (h : List Entry) (t : ℕ) (call : Call) (r : Reply)
    (makes : types_after call (types_of start h) ≡ types_of start h)
    → made_among (types_of start h) call ≡ [] → adopted call r ≡ []
    → found_after (typed_locks start h) r (found_of start h) ≡ found_of start h
    → known_of start h ≡ known_of start (entry t call r ∷ h)
known-same start h t call r types locks orders found =
    sym
    (ap (λ ts. record {
      types = ts;
      locks = typed_locks start (entry t call r ∷ h);
      orders = adopted call r ++ orders_of start h;
      found =
          found_after (typed_locks start h) r (found_of start h);
      blessed = start.blessed;
    }) types
    ∙ ap (λ ls. record {
      types = types_of start h;
      locks = ls;
      orders = adopted call r ++ orders_of start h;
      found =
          found_after (typed_locks start h) r (found_of start h);
      blessed = start.blessed;
    })
    (typed-same start h t call r locks)
    ∙ ap (λ os. record {
      types = types_of start h;
      locks = typed_locks start h;
      orders = os ++ orders_of start h;
      found =
          found_after (typed_locks start h) r (found_of start h);
      blessed = start.blessed;
    }) orders
    ∙ ap (λ fs. record {
      types = types_of start h;
      locks = typed_locks start h;
      orders = orders_of start h;
      found = fs;
      blessed = start.blessed;
    }) found)
