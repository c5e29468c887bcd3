-- Worlds: which deed may come next. The verifier answers calls by its rules, and a lock has one
-- exclusive holder or any number of shared ones.
use Rattle.std.specs.Prelude.{ℕ, ◌<◌, ◌≡◌, Bool, true, false, not, ◌&&◌, ◌||◌, ◌==◌, List, [], ◌∷◌}
use Rattle.std.specs.Prelude.{Ok}
use Rattle.std.specs.List.{list_all, range_with_len}
use Rattle.wit_model.specs.declared.locks.Mode.{Mode}
use Rattle.wit_model.specs.declared.locks.Mode.TheVariants.{Shared, Exclusive}
use Rattle.wit_model.specs.declared.calls.Reply.TheVariants.{Ignored}
use Rattle.wit_model.specs.Rules.Numbers.{is_number}
use Rattle.wit_model.specs.Rules.State.{Start}
use Rattle.wit_model.specs.Rules.Verdict.{is_exclusive}
use Rattle.wit_model.specs.Rules.Step.{answer_of, story_after, is_logged}
use Rattle.wit_model.specs.World.Deeds.{Deed, Logged, PassedOver, Take, TryTake, Free, RawUp}
use Rattle.wit_model.specs.World.Deeds.{RawDown, log_of, shares, raw_mode}
use Rattle.wit_model.specs.World.Stages.{may_follow}

-- whether lock l may be had so, where threads count from 1 to this many: exclusive where nobody has
-- it, the asker included, and shared where nobody has it exclusively
abbrev pub admits : ℕ → ℕ → Mode → List Deed → Bool
admits threads l Exclusive w = list_all (λ t. shares t l w == 0) (range_with_len 1 threads)
admits threads l Shared w =
    list_all (λ t. (shares t l w == 0) || not (is_exclusive (raw_mode t l w)))
    (range_with_len 1 threads)

-- whether t has the only share of lock l
abbrev pub is_alone : ℕ → ℕ → ℕ → List Deed → Bool
is_alone threads t l w =
    (shares t l w == 1) && list_all (λ u. (u == t) || (shares u l w == 0))
    (range_with_len 1 threads)

-- whether the verifier, or the lock itself, allows a deed
abbrev pub Allows : Start → List (List ℕ) → Deed → List Deed → Type 0
Allows start files (Logged e) w =
    (answer_of (story_after start files (log_of w)) e.seat.0 e.call ≡ Ok e.reply)
    × (is_logged e.reply ≡ true)
Allows start files (PassedOver t call) w =
    answer_of (story_after start files (log_of w)) t call ≡ Ok Ignored
Allows start files (Take t l mode) w =
    (is_number start.sizes.seats t ≡ true) × (admits start.sizes.seats l mode w ≡ true)
Allows start files (TryTake t l mode) w =
    (is_number start.sizes.seats t ≡ true) × (admits start.sizes.seats l mode w ≡ true)
Allows start files (Free t l) w = 0 < shares t l w
Allows start files (RawUp t l) w =
    (is_alone start.sizes.seats t l w ≡ true) × (is_exclusive (raw_mode t l w) ≡ false)
Allows start files (RawDown t l) w =
    (0 < shares t l w) × (is_exclusive (raw_mode t l w) ≡ true)

-- whether a deed may come next: by what its thread did last, and by what is allowed
abbrev pub CanDo : Start → List (List ℕ) → Deed → List Deed → Type 0
CanDo start files d w = (may_follow d w ≡ true) × Allows start files d w

-- a world over a start, where these files are named: each deed could come when it came. Its log is
-- a legal history
abbrev pub IsWorld : Start → List (List ℕ) → List Deed → Type 0
IsWorld start files [] = Unit {0}
IsWorld start files (d ∷ w) = CanDo start files d w × IsWorld start files w
