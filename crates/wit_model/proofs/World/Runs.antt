-- That a given list of deeds is a world is found by computing: what the verifier answers, and a
-- test of each deed.
use Rattle.std.proofs.Common.{◌≡◌, ℕ, Bool, true, not, ◌&&◌, nat_lt, List, [], ◌∷◌, Result, Ok}
use Rattle.std.proofs.lemmas.Bool.{and_parts, ltb-true, not-true}
use Rattle.wit_model.specs.declared.faults.Fault.{Fault}
use Rattle.wit_model.specs.declared.calls.Reply.{Reply}
use Rattle.wit_model.specs.declared.calls.Reply.TheVariants.{Ignored}
use Rattle.wit_model.specs.Rules.Numbers.{is_number}
use Rattle.wit_model.specs.Rules.State.{Start}
use Rattle.wit_model.specs.Rules.Verdict.{is_exclusive}
use Rattle.wit_model.specs.Rules.Step.{answer_of, story_after, is_logged}
use Rattle.wit_model.specs.World.Deeds.{Deed, Logged, PassedOver, Take, TryTake, Free, RawUp}
use Rattle.wit_model.specs.World.Deeds.{RawDown, log_of, shares, raw_mode}
use Rattle.wit_model.specs.World.Stages.{may_follow}
use Rattle.wit_model.specs.World.Steps.{admits, is_alone, IsWorld}

module _ (start : Start) (files : List (List ℕ)) where
  -- what is answered to the calls of a world
  abbrev answers : List Deed → List (Result Reply Fault)
  answers [] = []
  answers (Logged e ∷ w) =
      answer_of (story_after start files (log_of w)) e.seat.0 e.call ∷ answers w
  answers (PassedOver t call ∷ w) =
      answer_of (story_after start files (log_of w)) t call ∷ answers w
  answers (d ∷ w) = answers w

  -- the replies that stand in it
  abbrev replies : List Deed → List (Result Reply Fault)
  replies [] = []
  replies (Logged e ∷ w) = Ok e.reply ∷ replies w
  replies (PassedOver t call ∷ w) = Ok Ignored ∷ replies w
  replies (d ∷ w) = replies w

  abbrev is_allowed : Deed → List Deed → Bool
  is_allowed (Logged e) w = is_logged e.reply
  is_allowed (PassedOver t call) w = true
  is_allowed (Take t l mode) w =
      is_number start.sizes.seats t && admits start.sizes.seats l mode w
  is_allowed (TryTake t l mode) w =
      is_number start.sizes.seats t && admits start.sizes.seats l mode w
  is_allowed (Free t l) w = nat_lt 0 (shares t l w)
  is_allowed (RawUp t l) w =
      is_alone start.sizes.seats t l w && not (is_exclusive (raw_mode t l w))
  is_allowed (RawDown t l) w = nat_lt 0 (shares t l w) && is_exclusive (raw_mode t l w)

  abbrev can_all : List Deed → Bool
  can_all [] = true
  can_all (d ∷ w) = (may_follow d w && is_allowed d w) && can_all w

  pub is_world : (w : List Deed) → answers w ≡ replies w → can_all w ≡ true → IsWorld start files w
  is_world [] same can = tt
  is_world (Logged e ∷ w) same can =
      let answer : answer_of (story_after start files (log_of w)) e.seat.0 e.call
      ≡ Ok e.reply = cc in
      let past : answers w ≡ replies w = cc in
      let parts = and_parts _ _ can in
      let now = and_parts _ _ parts.0 in ((now.0, (answer, now.1)), is_world w past parts.1)
  is_world (PassedOver t call ∷ w) same can =
      let answer : answer_of (story_after start files (log_of w)) t call ≡ Ok Ignored = cc in
      let past : answers w ≡ replies w = cc in
      let parts = and_parts _ _ can in
      let now = and_parts _ _ parts.0 in ((now.0, answer), is_world w past parts.1)
  is_world (Take t l mode ∷ w) same can =
      let parts = and_parts _ _ can in
      let now = and_parts _ _ parts.0 in
      ((now.0, and_parts _ _ now.1), is_world w same parts.1)
  is_world (TryTake t l mode ∷ w) same can =
      let parts = and_parts _ _ can in
      let now = and_parts _ _ parts.0 in
      ((now.0, and_parts _ _ now.1), is_world w same parts.1)
  is_world (Free t l ∷ w) same can =
      let parts = and_parts _ _ can in
      let now =
      and_parts _ _ parts.0 in (
        (now.0, ltb-true 0 (shares t l w) now.1),
        is_world w same parts.1,
      )
  is_world (RawUp t l ∷ w) same can =
      let parts = and_parts _ _ can in
      let now = and_parts _ _ parts.0 in
      let then =
      and_parts _ _ now.1 in (
        (now.0, (then.0, not-true (is_exclusive (raw_mode t l w)) then.1)),
        is_world w same parts.1,
      )
  is_world (RawDown t l ∷ w) same can =
      let parts = and_parts _ _ can in
      let now = and_parts _ _ parts.0 in
      let then =
      and_parts _ _ now.1 in (
        (now.0, (ltb-true 0 (shares t l w) then.0, then.1)),
        is_world w same parts.1,
      )
