-- The short recording tells of its run, and the one with a report of a deadlock.
use Rattle.std.proofs.Common.{◌≡◌, ℕ, ◌<◌, Bool, true, false, cond, eqb, List, [], ◌∷◌, refl, ap}
use Rattle.std.proofs.Common.{sym, ◌∙◌, subst, inl, inr, arith}
use Rattle.std.proofs.lemmas.Bool.{true≢false}
use Rattle.std.proofs.lemmas.Bool.Decides.{eqb_tells}
use Rattle.wit_model.specs.declared.locks.Class.{Class}
use Rattle.wit_model.specs.declared.calls.Request.{Request}
use Rattle.wit_model.specs.declared.calls.Call.{Call}
use Rattle.wit_model.specs.declared.calls.Call.TheVariants.{Check}
use Rattle.wit_model.specs.declared.calls.Entry.{Entry}
use Rattle.wit_model.specs.Rules.History.{num, place, mode, mark, site}
use Rattle.wit_model.specs.Rules.SeatGroups.{seat_groups}
use Rattle.wit_model.specs.Rules.Step.{IsLegal}
use Rattle.wit_model.specs.World.Deeds.{Deed, Logged, PassedOver, Take, TryTake, Free, RawUp}
use Rattle.wit_model.specs.World.Deeds.{RawDown, log_of, shares}
use Rattle.wit_model.specs.World.Examples.{small, files, request, agreed, in_turn, crossed}
use Rattle.wit_recordings.specs.Recordings.{TellsOf, AsksWithin, AllAskWithin, TellsOfDeeds, types_in, recorded_once}
use Rattle.wit_model.proofs.World.Covering.{legal_world}
use Rattle.wit_model.proofs.World.Runs.{is_world}

abbrev pub is_check : Call → Bool
is_check (Check q) = true
is_check _ = false

module _ (Pairs : Class × List ℕ → Class × List ℕ → Type 0) (named : ℕ → Class × List ℕ) where
  -- what is to be shown of a request, and of what came before it
  abbrev pub needed : Call → ℕ → List Deed → Type 0 → Type 0
  needed (Check q) t v rest =
      ((l : ℕ) → 0 < shares t l v → Pairs (named l) (named q.lock.0)) × rest
  needed _ t v rest = rest

  abbrev pub Needs : List Deed → Type 0
  Needs [] = Unit {0}
  Needs (Logged e ∷ v) = needed e.call e.seat.0 v (Needs v)
  Needs (d ∷ v) = Needs v

  request-told : (e : Entry) (v : List Deed) (rest : Type 0) (c : Call) → e.call ≡ c
      → needed c e.seat.0 v rest → AsksWithin Pairs named (Logged e) v × rest
  request-told e v rest (Check p) is need = (
    (λ q l asks unheld some.
        let same : ◌≡◌ {A = Call} (Check p) (Check q) = sym is ∙ asks in
        let request : p ≡ q = cc in
        subst (λ (r : Request). Pairs (named l) (named r.lock.0)) request (need.0 l some)),
    need.1,
  )
  request-told e v rest c is need =
      ((λ q l asks unheld some. absurd (true≢false (sym (ap is_check (sym is ∙ asks))))), need)

  pub told-all : (w : List Deed) → Needs w → AllAskWithin Pairs named w
  told-all [] need = tt
  told-all (Logged e ∷ w) need =
      let both = request-told e w (Needs w) e.call refl need in (both.0, told-all w both.1)
  told-all (Take u m mode ∷ w) need = (tt, told-all w need)
  told-all (TryTake u m mode ∷ w) need = (tt, told-all w need)
  told-all (PassedOver u c ∷ w) need = (tt, told-all w need)
  told-all (Free u m ∷ w) need = (tt, told-all w need)
  told-all (RawUp u m ∷ w) need = (tt, told-all w need)
  told-all (RawDown u m ∷ w) need = (tt, told-all w need)

pub nothing : (A : Type 0) → 0 < 0 → A
nothing A is = absurd (omega (arith, is))

pair : TellsOf (log_of recorded_once) (types_in agreed 1) (types_in agreed 2)
unfolding num
pair = inl (record {
  request = request 3 2;
  asks = refl;
  unheld = refl;
  other = 2;
  holds = refl;
  first = refl;
  second = refl;
})

pair-told : (l : ℕ) → 0 < cond (eqb 1 l) 1 0
    → TellsOf (log_of recorded_once) (types_in agreed l) (types_in agreed 2)
pair-told l some =
    elim (eqb_tells 1 l) [
      | inl is ↦
          subst (λ m. TellsOf (log_of recorded_once) (types_in agreed m) (types_in agreed 2)) is.1 pair
      | inr is ↦
          nothing (TellsOf (log_of recorded_once) (types_in agreed l) (types_in agreed 2))
          (subst (λ b. 0 < cond b 1 0) is.0 some)
    ]

pub shorter-legal : IsLegal small files (log_of recorded_once)
unfolding num place mode mark site seat_groups
shorter-legal = legal_world small files recorded_once (is_world small files recorded_once refl refl)

-- two of the run's four requests come behind a held lock
pub shorter-told : TellsOfDeeds (log_of recorded_once) (types_in agreed) agreed
shorter-told =
    told-all (TellsOf (log_of recorded_once)) (types_in agreed) agreed (
      pair-told,
      ((λ l some. nothing _ some), (pair-told, ((λ l some. nothing _ some), tt))),
    )

-- ---- the recording with a report

A-first : TellsOf (log_of in_turn) (types_in in_turn 1) (types_in in_turn 2)
unfolding num
A-first = inr (inr (inr (inr (inr (inr (inl (record {
  request = request 2 2;
  asks = refl;
  unheld = refl;
  other = 1;
  holds = refl;
  first = refl;
  second = refl;
})))))))

B-first : TellsOf (log_of in_turn) (types_in in_turn 2) (types_in in_turn 1)
unfolding num
B-first = inl (record {
  request = request 1 4;
  asks = refl;
  unheld = refl;
  other = 2;
  holds = refl;
  first = refl;
  second = refl;
})

told-of : (n m l : ℕ) → TellsOf (log_of in_turn) (types_in in_turn n) (types_in in_turn m)
    → 0 < cond (eqb n l) 1 0 → TellsOf (log_of in_turn) (types_in in_turn l) (types_in in_turn m)
told-of n m l told some =
    elim (eqb_tells n l) [
      | inl is ↦
          subst (λ k. TellsOf (log_of in_turn) (types_in in_turn k) (types_in in_turn m)) is.1 told
      | inr is ↦
          nothing (TellsOf (log_of in_turn) (types_in in_turn l) (types_in in_turn m))
          (subst (λ b. 0 < cond b 1 0) is.0 some)
    ]

pub crossed-told : TellsOfDeeds (log_of in_turn) (types_in in_turn) crossed
crossed-told =
    told-all (TellsOf (log_of in_turn)) (types_in in_turn) crossed (
      (λ l some. told-of 1 2 l A-first some),
      (
        (λ l some. told-of 2 1 l B-first some),
        ((λ l some. nothing _ some), ((λ l some. nothing _ some), tt)),
      ),
    )
