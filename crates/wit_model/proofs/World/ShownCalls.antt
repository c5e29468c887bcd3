-- A call of a world, and what a scene shows then.
use Rattle.std.proofs.Common.{◌≡◌, ℕ, Bool, true, false, cond, nat_lt, List, ◌∷◌, refl, ap, ap₂}
use Rattle.std.proofs.Common.{sym, ◌∙◌, subst}
use Rattle.wit_model.specs.declared.calls.Call.{Call}
use Rattle.wit_model.specs.declared.calls.Call.TheVariants.{Unlock}
use Rattle.wit_model.specs.declared.calls.Reply.{Reply}
use Rattle.wit_model.specs.Rules.Numbers.{is_number, with_changed}
use Rattle.wit_model.specs.Rules.History.{num}
use Rattle.wit_model.specs.Rules.State.{Start, state_of}
use Rattle.wit_model.specs.Rules.Step.{story_after, is_logged, logged}
use Rattle.wit_model.specs.World.Deeds.{Deed, Logged, PassedOver, own, log_of}
use Rattle.wit_model.specs.World.Stages.{Forgot, stage_passed, stage_called, stage_logged}
use Rattle.wit_model.specs.World.Scenes.{Scene, RawLock, shares_among, shares_of, raw_called}
use Rattle.wit_model.specs.World.Scenes.{scene_after}
use Rattle.wit_model.specs.World.Shown.{IsTidy, Shows, deed_called}
use Rattle.wit_model.proofs.World.Placed.{raw-called, length-called}
use Rattle.wit_model.proofs.World.Own.{shares-own, num-own}
use Rattle.wit_model.proofs.World.Shown.{stages-after, seats-after}

module _ (start : Start) (files : List (List ℕ)) (w : List Deed) (s : Scene)
    (shown : Shows start files w s) where
  pub state-shown : state_of s.story ≡ state_of (story_after start files (log_of w))
  state-shown =
      ap (λ (x : Start). state_of (story_after x s.story.files s.story.history)) shown.begun
      ∙ (ap (λ h. state_of (story_after start s.story.files h)) shown.logs
      ∙ ap (λ names. state_of (story_after start names (log_of w))) shown.named)

  stage-called : (t : ℕ) (call : Call)
      → stage_called (λ l. nat_lt (shares_of s.raw t l) (num t l s.story.history)) call
      ≡ stage_logged t call (own t w)
  stage-called t (Unlock l mode) =
      ap₂ (λ a b. Forgot l.0 (nat_lt a b)) (shown.had t l.0 ∙ sym (shares-own t l.0 w))
      (ap (λ h. num t l.0 h) shown.logs ∙ sym (num-own t l.0 w))
  stage-called t call = refl

  pub call-shows : (t : ℕ) (call : Call) (r : Reply) → is_number start.sizes.seats t ≡ true
      → Shows start files (deed_called t call r ∷ w) (scene_after s t call r)
  call-shows t call r seat = go (is_logged r)
    where
      go : (b : Bool) → Shows start files
          (cond b (Logged (record { seat = record { 0 = t }; call = call; reply = r }))
          (PassedOver t call) ∷ w) (record {
            story = cond b (logged s.story t call r) s.story;
            raw = cond b (raw_called call s.raw) s.raw;
            stages =
                with_changed s.stages t (cond b
                (stage_called (λ l. nat_lt (shares_of s.raw t l) (num t l s.story.history)) call)
                (stage_passed call));
          })
      go true = record {
        begun = shown.begun;
        logs = ap (λ h. record { seat = record { 0 = t }; call = call; reply = r } ∷ h) shown.logs;
        named = shown.named;
        locks =
            length-called start (record { seat = record { 0 = t }; call = call; reply = r })
            (log_of w) s.raw shown.locks;
        had =
            λ u l. ap (λ (k : RawLock). shares_among u k.holders) (raw-called call s.raw l)
            ∙ shown.had u l;
        modes =
            λ u l some. ap (λ (k : RawLock). k.mode) (raw-called call s.raw l)
            ∙ shown.modes u l some;
        tidy =
            λ l. subst (λ (k : RawLock). IsTidy k.holders) (sym (raw-called call s.raw l))
            (shown.tidy l);
        stages =
            stages-after start files w s shown
            (Logged (record { seat = record { 0 = t }; call = call; reply = r }))
            (stage_called (λ l. nat_lt (shares_of s.raw t l) (num t l s.story.history)) call) seat
            (stage-called t call);
        seats =
            seats-after start files w s shown t (stage_called (λ l. nat_lt (shares_of s.raw t l)
            (num t l s.story.history)) call);
      }
      go false = record {
        begun = shown.begun;
        logs = shown.logs;
        named = shown.named;
        locks = shown.locks;
        had = shown.had;
        modes = shown.modes;
        tidy = shown.tidy;
        stages =
            stages-after start files w s shown (PassedOver t call) (stage_passed call) seat refl;
        seats = seats-after start files w s shown t (stage_passed call);
      }
