-- A new verifier.
use Rattle.std.proofs.Common.{◌≡◌, ℕ, zero, suc, ◌+◌, true, false, List, [], ◌∷◌, Option, None}
use Rattle.std.proofs.Common.{IfSome, String, length, map, replicate, refl, sym, ap, ap₂, ◌∙◌}
use Rattle.std.proofs.Common.{subst}
use Rattle.std.specs.List.{range_with_len}
use Rattle.std.specs.Option.{option_map}
use Rattle.std.specs.Global.{Vec, Global}
use Rattle.wit_model.specs.declared.locks.Class.{Class}
use Rattle.wit_model.specs.declared.locks.TypeNo.{TypeNo}
use Rattle.wit_model.specs.declared.locks.Watch.TheVariants.{On}
use Rattle.wit_model.specs.Rules.Sizes.{Sizes}
use Rattle.wit_model.specs.Rules.Locks.{destroyed_of}
use Rattle.wit_model.specs.Rules.Start.{start_fault}
use Rattle.wit_model.specs.Rules.Orders.{is_found}
use Rattle.wit_model.specs.Rules.State.{Start, Story, fresh, Known, state_of, seat_of, owed}
use Rattle.wit_model.specs.Rules.State.{found_of}
use Rattle.wit_model.specs.Rules.Step.{IsLegal}
use Rattle.wit_model.proofs.Chains.Regrouping.{seat_groups-nil}
use Rattle.wit_model.proofs.Chains.Owed.{owed_to-nil}
use Rattle.wit_core.specs.declared.verifier.Verifier.TheInside.{Inside}
use Rattle.wit_known.specs.Fresh.{start_of}
use Rattle.wit_waiting.specs.Seats.{seat_view}
use Rattle.wit_core.specs.Journal.{Journal}
use Rattle.wit_core.specs.Plans.{planned}
use Rattle.wit_core.specs.declared.ready.Ready.{Ready}
use Rattle.wit_core.specs.Kept.{IsReady, IsTied, start_in, history_in, story_in, known_in}
use Rattle.wit_core.specs.Kept.{state_in}
use Rattle.wit_known.specs.Known.{nothing_known}
use Rattle.wit_known.specs.Listed.{all_listed, pairs_of, lists_entered}
use Rattle.wit_waiting.specs.Seats.{Seating, no_holdings, idle_seating}
use Rattle.wit_known.proofs.Entering.{IsBegun}
use Rattle.wit_core.proofs.Keeping.{same_story}
use Rattle.wit_core.proofs.Steps.{same_state}
use Rattle.wit_known.specs.Live.{live_flags}

-- seats that hold nothing are those of no history
seats-idle : (a n : ℕ) → map seat_view (replicate n no_holdings)
    ≡ map (seat_of []) (range_with_len a n)
seats-idle a zero = refl
seats-idle a (suc n) =
    ap₂ (λ s ss. s ∷ ss) (sym (ap₂
    (λ gs hs. record (seat_view no_holdings) { sleep_groups = gs; spin_groups = hs })
    (seat_groups-nil false a) (seat_groups-nil true a)))
    (seats-idle (a + 1) n)

-- a new verifier
module _ (v : Inside) (sizes : Sizes) (lists : List (Vec (Class × String Global)))
    (blessed : List (String Global × String Global))
    (limits : v.limits ≡ sizes) (same_lists : v.lists.items ≡ lists)
    (begun : IsBegun sizes (all_listed lists) (pairs_of blessed) v.known)
    (seats : v.seats ≡ idle_seating sizes.seats sizes.chunks) (watch : v.watch ≡ On)
    (log : v.log ≡ record { limit = sizes.log; history = []; owed = 0; spare = v.log.spare })
    (unready : v.ready ≡ None) where
  start_begun : start_in v ≡ start_of v.profile sizes lists blessed
  start_begun =
      ap (λ (x : Sizes). record (start_in v) { sizes = x }) limits
      ∙ (ap (λ ls. record {
        sizes = sizes;
        profile = v.profile;
        lists = all_listed ls;
        blessed = v.known.known.blessed;
      }) same_lists
      ∙ ap (λ (x : Known). record {
        sizes = sizes;
        profile = v.profile;
        lists = all_listed lists;
        blessed = x.blessed;
      }) (begun.known))

  no_history : history_in v ≡ []
  no_history = ap (λ (l : Journal). l.history) log

  no_files : v.known.files ≡ []
  no_files = begun.files

  pub story_begun : story_in v ≡ fresh (start_of v.profile sizes lists blessed)
  story_begun =
      ap (λ (o : Option Ready). record (story_in v) { ready = option_map planned o }) unready
      ∙ same_story _ _ _ _ _ _ start_begun no_files no_history

  none_found : found_of (start_in v) (history_in v) ≡ []
  none_found = ap (found_of (start_in v)) no_history

  known_begun : known_in v
      ≡ lists_entered (record nothing_known { blessed = pairs_of blessed }) (all_listed lists)
  known_begun =
      ap₂ (λ (x : Known) (fs : List (TypeNo × TypeNo)). record x { found = fs }) begun.known
      none_found

  state_begun : state_in v ≡ state_of (fresh (start_of v.profile sizes lists blessed))
  state_begun =
      ap (λ (x : Sizes). record (state_in v) { sizes = x }) limits
      ∙ same_state sizes v.profile _ _ _ _ _ _ _ _ _ _ _ _
      (ap (λ (l : List (List ℕ)). length l) no_files) known_begun (ap destroyed_of no_history)
      (ap (λ (r : Seating). map seat_view r.seats) seats ∙ seats-idle 1 sizes.seats) watch
      (ap (λ (l : Journal). length l.history) log)

  pub kept_begun : start_fault (start_of v.profile sizes lists blessed) ≡ None → IsTied v
  kept_begun accepted =
      let owes : owed (state_in v) ≡ 0 = ap owed state_begun ∙ owed_to-nil sizes.seats in
      record {
        started = subst (λ (s : Start). start_fault s ≡ None) (sym start_begun) accepted;
        legal = subst (λ (s : Story). IsLegal s.start s.files s.history) (sym story_begun) tt;
        state = state_begun ∙ ap state_of (sym story_begun);
        found = λ a b.
            ap (λ (x : Known). is_found x.found a b) begun.known
            ∙ ap (λ fs. is_found fs a b) (sym none_found);
        live =
            begun.live ∙ sym (ap₂ (λ (x : Known) h. live_flags (length x.locks) (destroyed_of h))
            begun.known no_history);
        owed = ap (λ (l : Journal). l.owed) log ∙ sym owes;
        limit = ap (λ (l : Journal). l.limit) log ∙ ap (λ (x : Sizes). x.log) (sym limits);
        types = (begun.types ∙ sym (ap (λ (x : Sizes). x.types) limits));
        chunks = ap (λ (r : Seating). r.chunks) seats ∙ sym (ap (λ (x : Sizes). x.chunks) limits);
        ready = subst (λ (o : Option Ready). IfSome o (IsReady v)) (sym unready) tt;
      }
