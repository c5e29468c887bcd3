-- What is known of a world that is kept.
use Rattle.std.proofs.Common.{◌≡◌, ℕ, ◌+◌, ◌-◌, ◌<◌, ◌≤◌, Bool, true, false, ◌&&◌, cond, nat_lt}
use Rattle.std.proofs.Common.{nat_le, List, [], ◌∷◌, ◌++◌, length, None, Some, is_some, Result, Ok}
use Rattle.std.proofs.Common.{Err, refl, ap, sym, ◌∙◌, subst, arith}
use Rattle.std.specs.Option.{option_map}
use Rattle.std.proofs.lemmas.Bool.{and_parts, ltb-true, ltb-false, leb-true, lt-ltb}
use Rattle.std.proofs.lemmas.List.FromFn.{length-map-range_with_len}
use Rattle.wit_model.specs.declared.faults.Fault.{Fault}
use Rattle.wit_model.specs.declared.locks.FileNo.{FileNo}
use Rattle.wit_model.specs.declared.locks.Instance.{Instance}
use Rattle.wit_model.specs.declared.calls.Call.{Call}
use Rattle.wit_model.specs.declared.calls.Entry.{Entry}
use Rattle.wit_model.specs.declared.calls.Reply.{Reply}
use Rattle.wit_model.specs.declared.raw_steps.RawStep.{RawStep}
use Rattle.wit_model.specs.Rules.Files.{NamesFile, is_known_file}
use Rattle.wit_model.specs.Rules.History.{num, is_held, instance}
use Rattle.wit_model.specs.Rules.Numbers.{is_given, is_number}
use Rattle.wit_model.specs.Rules.State.{Start, Story, state_of, seat_of, is_seat}
use Rattle.wit_model.specs.Rules.Step.{held_by, IsLegal}
use Rattle.wit_model.specs.World.Deeds.{Deed}
use Rattle.wit_model.specs.World.Steps.{IsWorld}
use Rattle.wit_model.specs.World.Scenes.{Scene, opening, stage_at, deed_of, stepped, step_raw}
use Rattle.wit_model.specs.World.Scenes.{answer_in, scene_after}
use Rattle.wit_model.specs.World.Shown.{Shows, deed_called}
use Rattle.wit_model.proofs.Chains.Found.{if_some}
use Rattle.wit_model.proofs.Histories.Legal.{held_by-state, sane_legal}
use Rattle.wit_model.proofs.World.Calling.{call-deed, world-named, shown-named}
use Rattle.wit_model.proofs.World.Covering.{legal_world}
use Rattle.wit_model.proofs.World.Opening.{opening-shows}
use Rattle.wit_model.proofs.World.Stepping.{seat-shown, step-deed}
use Rattle.wit_world.specs.Kept.{IsKept}

pub number-tested : (story : Story) (t : ℕ) → 0 < t
    → nat_le t story.start.sizes.seats ≡ is_seat (state_of story) t
number-tested story t some =
    sym (ap (λ b. b && nat_le t story.start.sizes.seats) (lt-ltb 0 t some))
    ∙ sym (ap (λ n. is_number n t)
    (length-map-range_with_len (seat_of story.history) 1 story.start.sizes.seats))

-- ---- it begins, and goes on

pub kept-opening : (story : Story) → story.history ≡ [] → IsKept (opening story)
kept-opening story empty = record { deeds = []; world = tt; shown = opening-shows story empty }

kept-by : (s : Scene) (start : Start) (files : List (List ℕ)) (w : List Deed)
    → IsWorld start files w → Shows start files w s → IsKept s
kept-by s start files w world shown = record {
  deeds = w;
  world =
      subst (λ x. IsWorld x s.story.files w) (sym shown.begun)
      (subst (λ y. IsWorld start y w) (sym shown.named) world);
  shown =
      subst (λ x. Shows x s.story.files w s) (sym shown.begun)
      (subst (λ y. Shows start y w s) (sym shown.named) shown);
}

module _ (s : Scene) (k : IsKept s) where
  pub kept-stepped : (t l : ℕ) (step : RawStep)
      → step_raw s t l step ≡ Ok (stepped s (deed_of (stage_at s t) t l step))
      → IsKept (stepped s (deed_of (stage_at s t) t l step))
  kept-stepped t l step ok =
      let next =
      step-deed s.story.start s.story.files k.deeds s k.shown k.world t l
      (stepped s (deed_of (stage_at s t) t l step)) step ok in
      kept-by (stepped s (deed_of (stage_at s t) t l step)) s.story.start s.story.files
      (deed_of (stage_at s t) t l step ∷ k.deeds) next.0 next.1

  pub kept-called : (t : ℕ) (call : Call) (r : Reply) → answer_in s t call ≡ Ok r
      → IsKept (scene_after s t call r)
  kept-called t call r ok =
      let next = call-deed s.story.start s.story.files k.deeds s k.shown t call r k.world ok in
      kept-by (scene_after s t call r) s.story.start s.story.files
      (deed_called t call r ∷ k.deeds) next.0 next.1

  pub kept-named : (name : List ℕ) (r : Result FileNo Fault) (new : Story)
      → NamesFile s.story name r new → IsKept (record s { story = new })
  kept-named name (Err fault) new told =
      subst (λ (x : Story). IsKept (record s { story = x })) (sym told.2) k
  kept-named name (Ok f) new told =
      subst (λ (x : Story). IsKept (record s { story = x })) (sym told.1)
      (go (is_known_file name s.story.files))
    where
      go : (b : Bool) → IsKept (record
          s {
            story = record s.story {
              files = cond b s.story.files
                  (s.story.files ++ name ∷ []);
            };
          })
      go true = k
      go false = record {
        deeds = k.deeds;
        world = world-named s.story.start s.story.files name k.deeds k.world;
        shown = shown-named s.story.start s.story.files name k.deeds s k.shown;
      }

  -- ---- seats and what they hold

  pub seat-is : (t : ℕ) → is_seat (state_of s.story) t ≡ is_given s.stages t
  seat-is t =
      seat-shown s.story.start s.story.files k.deeds s k.shown t
      ∙ ap (λ n. is_number n t) (sym k.shown.seats)

  pub seat-within : (t : ℕ) → is_seat (state_of s.story) t ≡ true → (0 < t) × (t ≤ length s.stages)
  seat-within t is =
      let parts = and_parts (nat_lt 0 t) (nat_le t (length s.stages)) (sym (seat-is t) ∙ is) in
      (ltb-true 0 t parts.0, leb-true t (length s.stages) parts.1)

  legal : IsLegal s.story.start s.story.files s.story.history
  legal =
      subst (λ (h : List Entry). IsLegal s.story.start s.story.files h) (sym k.shown.logs)
      (legal_world s.story.start s.story.files k.deeds k.world)

  module _ (t l : ℕ) (seat : is_seat (state_of s.story) t ≡ true) where
    recorded-is : option_map (λ (i : Instance). i.count) (held_by (state_of s.story) t l)
        ≡ option_map (λ (i : Instance). i.count)
        (if_some (is_held t l s.story.history) (instance t s.story.history l))
    recorded-is =
        ap (λ o. option_map (λ (i : Instance). i.count) o)
        (held_by-state s.story.start s.story.files s.story.history t l seat
        (sane_legal s.story.start s.story.files s.story.history legal))

    pub held-is : is_some (option_map (λ (i : Instance). i.count) (held_by (state_of s.story) t l))
        ≡ is_held t l s.story.history
    held-is =
        ap is_some recorded-is ∙ go (is_held t l s.story.history) (instance t s.story.history l)
      where
        go : (b : Bool) (i : Instance)
            → is_some (option_map (λ (x : Instance). x.count) (if_some b i)) ≡ b
        go true i = refl
        go false i = refl

    -- recursions count from the second acquisition on
    pub num-some : (n : ℕ) → option_map (λ (i : Instance). i.count) (held_by (state_of s.story) t l)
        ≡ Some n → num t l s.story.history ≡ n + 1
    num-some n is = go (is_held t l s.story.history) refl (sym recorded-is ∙ is)
      where
        go : (b : Bool) → is_held t l s.story.history ≡ b
            → option_map (λ (x : Instance). x.count) (if_some b (instance t s.story.history l))
            ≡ Some n → num t l s.story.history ≡ n + 1
        go true held is =
            let some = ltb-true 0 (num t l s.story.history) held in
            let count : num t l s.story.history - 1 ≡ n = cc in
            omega (arith, some, count)
        go false held is = (cc)

    pub num-none : option_map (λ (i : Instance). i.count) (held_by (state_of s.story) t l) ≡ None
        → num t l s.story.history ≡ 0
    num-none is = go (is_held t l s.story.history) refl (sym recorded-is ∙ is)
      where
        go : (b : Bool) → is_held t l s.story.history ≡ b
            → option_map (λ (x : Instance). x.count) (if_some b (instance t s.story.history l))
            ≡ None → num t l s.story.history ≡ 0
        go true held is = (cc)
        go false held is = let none =
            ltb-false 0 (num t l s.story.history) held in omega (arith, none)
