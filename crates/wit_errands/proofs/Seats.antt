-- A seat after the first part of a run is what its own deeds make of it, as they look.
use Rattle.std.proofs.Common.{◌≡◌, ℕ, true, false, eqb, List, [], ◌∷◌, ◌++◌, map, refl, ap}
use Rattle.std.proofs.Common.{ap₂, sym, ◌∙◌, subst, inl, inr}
use Rattle.std.specs.List.{list_all}
use Rattle.std.proofs.lemmas.Bool.{cases_Bool, eqb-true, eqb-false}
use Rattle.wit_model.specs.declared.calls.NewLock.{NewLock}
use Rattle.wit_model.specs.declared.calls.Call.{Call}
use Rattle.wit_model.specs.declared.calls.Call.TheVariants.{Check, DefineOrder}
use Rattle.wit_model.specs.declared.calls.Reply.{Reply}
use Rattle.wit_model.specs.declared.calls.Entry.{Entry}
use Rattle.wit_model.specs.Rules.Locks.{locks_of}
use Rattle.wit_model.specs.Rules.History.{Act, act, asked_mode, asked_site, pending_after}
use Rattle.wit_model.specs.Rules.State.{Seat, seat_of}
use Rattle.wit_model.specs.World.Deeds.{Deed, Logged, PassedOver, Take, TryTake, Free, RawUp}
use Rattle.wit_model.specs.World.Deeds.{RawDown, thread_of, own, log_of}
use Rattle.wit_model.specs.World.Reordering.{kept_reply, kept}
use Rattle.wit_model.proofs.Chains.Sane.{IsSane}
use Rattle.wit_model.proofs.Chains.After.{part_after}
use Rattle.wit_model.proofs.Chains.GroupSteps.{groups_after}
use Rattle.wit_model.proofs.Chains.Seats.{seat_after, seat-own, seat-other}
use Rattle.wit_model.proofs.World.Own.{own-mine, own-other}
use Rattle.wit_errands.specs.Settled.{is_calm}
use Rattle.wit_errands.proofs.Calm.{calm-parts, made-calm}
use Rattle.wit_errands.proofs.Looks.{Alike, log-append}

-- what its thread sees of an entry
abbrev kept_entry : Entry → Entry
kept_entry e = record { seat = e.seat; call = e.call; reply = kept_reply e.call e.reply }

act-kept : (c : Call) (r : Reply) → act c (kept_reply c r) ≡ act c r
act-kept (Check q) r = refl
act-kept (DefineOrder a b) r = refl
act-kept c r = refl

after : List NewLock → Call → Seat → Act → Seat
after ls c s a = record {
  sleep = part_after false ls a (asked_mode c s.pending) (asked_site c s.pending) s.sleep;
  spin = part_after true ls a (asked_mode c s.pending) (asked_site c s.pending) s.spin;
  sleep_groups = groups_after false ls a s.sleep s.sleep_groups;
  spin_groups = groups_after true ls a s.spin s.spin_groups;
  pending = pending_after c s.pending;
}

seat-kept : (ls : List NewLock) (e : Entry) (s : Seat)
    → seat_after ls (kept_entry e) s ≡ seat_after ls e s
unfolding after
seat-kept ls e s = ap (λ a. after ls e.call s a) (act-kept e.call e.reply)

-- a seat after these deeds of its own
abbrev seat_by : List NewLock → Seat → List Deed → Seat
seat_by ls s [] = s
seat_by ls s (Logged e ∷ o) = seat_after ls e (seat_by ls s o)
seat_by ls s (PassedOver u c ∷ o) = seat_by ls s o
seat_by ls s (Take u m mode ∷ o) = seat_by ls s o
seat_by ls s (TryTake u m mode ∷ o) = seat_by ls s o
seat_by ls s (Free u m ∷ o) = seat_by ls s o
seat_by ls s (RawUp u m ∷ o) = seat_by ls s o
seat_by ls s (RawDown u m ∷ o) = seat_by ls s o

module _ (t : ℕ) (first : List Deed) where
  abbrev as_looks : List Deed → Seat
  as_looks v =
      seat_by (locks_of (log_of first)) (seat_of (log_of first) t) (map kept (own t v))

  -- a deed that is no entry
  silent : (d : Deed) (v : List Deed)
      → ((s : Seat) (o : List Deed) → seat_by (locks_of (log_of first)) s (kept d ∷ o)
      ≡ seat_by (locks_of (log_of first)) s o)
      → as_looks v ≡ as_looks (d ∷ v)
  silent d v none =
      elim (cases_Bool (eqb (thread_of d) t)) [
        | inl is ↦ sym (ap (λ o. seat_by (locks_of (log_of first)) (seat_of (log_of first) t)
            (map kept o)) (own-mine t d v is)
            ∙ none (seat_of (log_of first) t) (map kept (own t v)))
        | inr is ↦ sym (ap (λ o. seat_by (locks_of (log_of first)) (seat_of (log_of first) t)
            (map kept o)) (own-other t d v is))
      ]

  entered : (e : Entry) (v : List Deed) → IsSane (log_of (Logged e ∷ v ++ first))
      → locks_of (log_of (v ++ first)) ≡ locks_of (log_of first)
      → seat_of (log_of (v ++ first)) t ≡ as_looks v
      → seat_of (log_of (Logged e ∷ v ++ first)) t ≡ as_looks (Logged e ∷ v)
  entered e v sane locks before =
      elim (cases_Bool (eqb e.seat.0 t)) [
        | inl is ↦
            subst (λ k. seat_of (e ∷ log_of (v ++ first)) k
            ≡ seat_after (locks_of (log_of (v ++ first))) e (seat_of (log_of (v ++ first)) k))
            (eqb-true e.seat.0 t is) (seat-own e (log_of (v ++ first)) sane)
            ∙ (ap₂ (λ ls s. seat_after ls e s) locks before
            ∙ (sym (seat-kept (locks_of (log_of first)) e (as_looks v))
            ∙ sym (ap (λ o. seat_by (locks_of (log_of first)) (seat_of (log_of first) t)
            (map kept o)) (own-mine t (Logged e) v is))))
        | inr is ↦
            seat-other t e (log_of (v ++ first)) sane (eqb-false e.seat.0 t is)
            ∙ (before ∙ sym (ap (λ o. seat_by (locks_of (log_of first)) (seat_of (log_of first) t)
            (map kept o)) (own-other t (Logged e) v is)))
      ]

  pub seat-looks : (v : List Deed) → IsSane (log_of (v ++ first)) → list_all is_calm (log_of v) ≡ true
      → seat_of (log_of (v ++ first)) t ≡ as_looks v
  seat-looks [] sane calm = refl
  seat-looks (Logged e ∷ v) sane calm =
      let parts = calm-parts e (log_of v) calm in
      entered e v sane
      (ap (λ h. locks_of h) (log-append v first)
      ∙ made-calm (log_of first) (log_of v) parts.before)
      (seat-looks v sane.1 parts.before)
  seat-looks (PassedOver u c ∷ v) sane calm =
      seat-looks v sane calm ∙ silent (PassedOver u c) v (λ s o. refl)
  seat-looks (Take u m mode ∷ v) sane calm =
      seat-looks v sane calm ∙ silent (Take u m mode) v (λ s o. refl)
  seat-looks (TryTake u m mode ∷ v) sane calm =
      seat-looks v sane calm ∙ silent (TryTake u m mode) v (λ s o. refl)
  seat-looks (Free u m ∷ v) sane calm =
      seat-looks v sane calm ∙ silent (Free u m) v (λ s o. refl)
  seat-looks (RawUp u m ∷ v) sane calm =
      seat-looks v sane calm ∙ silent (RawUp u m) v (λ s o. refl)
  seat-looks (RawDown u m ∷ v) sane calm =
      seat-looks v sane calm ∙ silent (RawDown u m) v (λ s o. refl)

  -- where its own deeds look the same, the seat is the same
  pub seat-alike : (v w : List Deed) → IsSane (log_of (v ++ first)) → IsSane (log_of (w ++ first))
      → list_all is_calm (log_of v) ≡ true → list_all is_calm (log_of w) ≡ true → Alike t v w
      → seat_of (log_of (v ++ first)) t ≡ seat_of (log_of (w ++ first)) t
  seat-alike v w sane sane' calm calm' same =
      seat-looks v sane calm
      ∙ (ap (λ o. seat_by (locks_of (log_of first)) (seat_of (log_of first) t) o) same
      ∙ sym (seat-looks w sane' calm'))
