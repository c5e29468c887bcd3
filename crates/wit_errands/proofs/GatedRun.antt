-- The run with a gate: a reversal is reported, and whoever asks while it has a lock has the gate.
use Rattle.std.proofs.Common.{◌≡◌, ℕ, ◌<◌, Bool, true, ◌&&◌, ◌||◌, not, nat_lt, List, []}
use Rattle.std.proofs.Common.{◌∷◌, ◌++◌, reverse, refl, ap, sym, ◌∙◌, subst, inl, inr, arith}
use Rattle.std.specs.List.{list_any}
use Rattle.std.proofs.lemmas.Bool.{and_parts, or_cases}
use Rattle.std.proofs.lemmas.Bool.{ltb-true}
use Rattle.std.proofs.lemmas.Bool.{not-true}
use Rattle.std.proofs.lemmas.Bool.Decides.{eqb_tells}
use Rattle.wit_model.specs.declared.locks.Mode.TheVariants.{Exclusive}
use Rattle.wit_model.specs.declared.calls.Request.{Request}
use Rattle.wit_model.specs.declared.calls.Call.TheVariants.{Check, Note}
use Rattle.wit_model.specs.declared.calls.Reply.TheVariants.{Pass, Adopted, Recorded}
use Rattle.wit_model.specs.Rules.History.{num, place, mode, mark, site}
use Rattle.wit_model.specs.Rules.SeatGroups.{seat_groups}
use Rattle.wit_model.specs.Rules.Verdict.{is_exclusive}
use Rattle.wit_model.specs.World.Deeds.{Deed, Take}
use Rattle.wit_model.specs.World.Deeds.{own, shares, raw_mode}
use Rattle.wit_model.specs.World.Stages.{Asked, stage}
use Rattle.wit_model.specs.World.Examples.{small, files, by, request, locks, unlocks}
use Rattle.wit_model.specs.World.Examples as examples
use Rattle.wit_model.proofs.World.Own.{shares-own}
use Rattle.wit_model.proofs.World.Runs.{is_world}
use Rattle.wit_errands.specs.Laws.{IsGated}
use Rattle.wit_errands.specs.Errands.{Errand}
use Rattle.wit_errands.specs.Examples.{three_made, then_gated, gated, GatedReverses, GatedHasNone}
use Rattle.wit_errands.proofs.GatedRuns.{never-hangs}
use Rattle.wit_errands.proofs.Looks.{own-append}
use Rattle.wit_errands.specs.Settled.{gets}
use Rattle.wit_errands.proofs.Silent.{silent-none}
use Rattle.wit_errands.proofs.EachMoment.{is_asking, all_so, so-at, others-none, ends-empty, over}

-- ---- the errands

first_errand : Errand 1 three_made then_gated
unfolding num
first_errand = record {
  before = [];
  way = reverse (locks 1 1 1 Pass ++ locks 1 2 2 (Adopted (record { 0 = 1 }) (record { 0 = 2 })));
  entry =
      record {
        seat = record { 0 = 1 };
        call = Check (request 3 3);
        reply = Adopted (record { 0 = 2 }) (record { 0 = 3 });
      };
  request = request 3 3;
  after =
      reverse (Take 1 3 Exclusive ∷ by 1 (Note (record { 0 = 3 })) Recorded ∷ unlocks 1 3
      ++ unlocks 1 2 ++ unlocks 1 1);
  whole = refl;
  asks = refl;
  nothing = λ l. refl;
  unheld = refl;
}

second_errand : Errand 2 three_made then_gated
unfolding num
second_errand = record {
  before = [];
  way = reverse (locks 2 1 4 Pass ++ locks 2 3 5 (Adopted (record { 0 = 1 }) (record { 0 = 3 })));
  entry =
      record {
        seat = record { 0 = 2 };
        call = Check (request 2 6);
        reply = examples.reverses 3 5 2 6;
      };
  request = request 2 6;
  after = [];
  whole = refl;
  asks = refl;
  nothing = λ l. refl;
  unheld = refl;
}

pub gated-reverses : GatedReverses
unfolding num place mode mark site seat_groups first_errand second_errand
gated-reverses = (is_world small files gated refl refl, refl, (first_errand, second_errand, refl, refl))

-- ---- who asks has the gate, or nothing

stands : ℕ → List Deed → Bool
stands t now =
    not (is_asking (stage t (own t now)))
    || ((nat_lt 0 (shares t 1 now) && is_exclusive (raw_mode t 1 now))
    || not (list_any gets (own t now)))

HasGate : ℕ → List Deed → Type 0
HasGate t now = (0 < shares t 1 now) × (is_exclusive (raw_mode t 1 now) ≡ true)

by-standing : (t l : ℕ) (q : Request) (now : List Deed) → stands t now ≡ true
    → stage t (own t now) ≡ Asked q → 0 < shares t l now → HasGate t now
unfolding stands HasGate
by-standing t l q now is asks had =
    elim (or_cases (nat_lt 0 (shares t 1 now) && is_exclusive (raw_mode t 1 now))
    (not (list_any gets (own t now)))
    (sym (ap (λ s. not (is_asking s) || ((nat_lt 0 (shares t 1 now)
    && is_exclusive (raw_mode t 1 now)) || not (list_any gets (own t now)))) asks) ∙ is)) [
      | inl gate ↦
          let parts =
          and_parts (nat_lt 0 (shares t 1 now)) (is_exclusive (raw_mode t 1 now)) gate in
          (ltb-true 0 (shares t 1 now) parts.0, parts.1)
      | inr silent ↦ absurd (let none = sym (shares-own t l now)
          ∙ silent-none t l (own t now) (not-true (list_any gets (own t now)) silent) in let no : ⊥ = omega (arith, none, had) in no)
    ]

first-stands : all_so (stands 1) gated ≡ true
unfolding stands num
first-stands = refl

second-stands : all_so (stands 2) gated ≡ true
unfolding stands num
second-stands = refl

is-gated : IsGated 1 gated
unfolding HasGate num
is-gated later now t l q whole asks had =
    elim (eqb_tells 1 t) [
      | inl one ↦ by-standing t l q now
          (subst (λ k. stands k now ≡ true) one.1
          (so-at (stands 1) later now (ap (λ w. all_so (stands 1) w) (sym whole) ∙ first-stands))) asks had
      | inr first ↦
          elim (eqb_tells 2 t) [
            | inl two ↦ by-standing t l q now
                (subst (λ k. stands k now ≡ true) two.1
                (so-at (stands 2) later now (ap (λ w. all_so (stands 2) w) (sym whole) ∙ second-stands)))
                asks had
            | inr second ↦
                let none = others-none t gated refl first.1 second.1 in
                let now_none =
                ends-empty (own t later) (own t now)
                (sym (own-append t later now) ∙ (ap (λ w. own t w) (sym whole) ∙ none)) in
                absurd (over q (sym (ap (λ o. stage t o) now_none) ∙ asks))
          ]
    ]

pub has-none : GatedHasNone
has-none v threads reordered circle =
    never-hangs small v gated 1 is-gated reordered threads circle
