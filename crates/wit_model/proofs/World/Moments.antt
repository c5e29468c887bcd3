-- Each moment of a world reorders it; and a thread's part of the log is the log of its own deeds.
use Rattle.std.proofs.Common.{◌≡◌, ℕ, true, false, eqb, List, [], ◌∷◌, ◌++◌, map, refl, ap, ◌∙◌}
use Rattle.std.proofs.Common.{inl, inr}
use Rattle.std.proofs.lemmas.Bool.{cases_Bool}
use Rattle.std.proofs.lemmas.List.{map-append}
use Rattle.std.proofs.lemmas.List.Elements.{filter-append}
use Rattle.wit_model.specs.Rules.History.{own_entries}
use Rattle.wit_model.specs.Rules.State.{Start}
use Rattle.wit_model.specs.World.Deeds.{Deed, Logged, PassedOver, Take, TryTake, Free, RawUp}
use Rattle.wit_model.specs.World.Deeds.{RawDown, thread_of, own, log_of}
use Rattle.wit_model.specs.World.Steps.{IsWorld}
use Rattle.wit_model.specs.World.Reordering.{kept, IsReordering}
use Rattle.wit_model.proofs.World.Own.{own-mine, own-other}

earlier : (start : Start) (files : List (List ℕ)) (later w : List Deed)
    → IsWorld start files (later ++ w) → IsWorld start files w
earlier start files [] w world = world
earlier start files (d ∷ later) w world = earlier start files later w world.1

pub moment_reorders : (start : Start) (files : List (List ℕ)) (later w : List Deed)
    → IsWorld start files (later ++ w) → IsReordering start w (later ++ w)
moment_reorders start files later w world = record {
  files = files;
  world = earlier start files later w world;
  same =
      λ t. (
        map kept (own t later),
        ap (λ o. map kept o)
            (filter-append (λ d. eqb (thread_of d) t) later w)
            ∙ map-append kept (own t later) (own t w),
      );
}

mine : (t : ℕ) (d : Deed) (o w : List Deed) → eqb (thread_of d) t ≡ true
    → log_of o ≡ own_entries t (log_of w) → log_of (d ∷ o) ≡ own_entries t (log_of (d ∷ w))
mine t (Logged e) o w is same = rw is (ap (λ h. e ∷ h) same)
mine t (Take u m mode) o w is same = same
mine t (TryTake u m mode) o w is same = same
mine t (PassedOver u c) o w is same = same
mine t (Free u m) o w is same = same
mine t (RawUp u m) o w is same = same
mine t (RawDown u m) o w is same = same

other : (t : ℕ) (d : Deed) (o w : List Deed) → eqb (thread_of d) t ≡ false
    → log_of o ≡ own_entries t (log_of w) → log_of o ≡ own_entries t (log_of (d ∷ w))
other t (Logged e) o w is same = rw is same
other t (Take u m mode) o w is same = same
other t (TryTake u m mode) o w is same = same
other t (PassedOver u c) o w is same = same
other t (Free u m) o w is same = same
other t (RawUp u m) o w is same = same
other t (RawDown u m) o w is same = same

pub own-logged : (t : ℕ) (w : List Deed) → log_of (own t w) ≡ own_entries t (log_of w)
own-logged t [] = refl
own-logged t (d ∷ w) =
    elim (cases_Bool (eqb (thread_of d) t)) [
      | inl is ↦ ap log_of (own-mine t d w is) ∙ mine t d (own t w) w is (own-logged t w)
      | inr is ↦ ap log_of (own-other t d w is) ∙ other t d (own t w) w is (own-logged t w)
    ]
