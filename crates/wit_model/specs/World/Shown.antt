-- What a scene shows of a world.
use Rattle.std.specs.Prelude.{ℕ, ◌<◌, ◌≡◌, Bool, true, false, not, ◌&&◌, ◌||◌, ◌==◌, nat_lt, List}
use Rattle.std.specs.Prelude.{[], ◌∷◌, length, if◌then◌else◌}
use Rattle.wit_model.specs.declared.calls.Call.{Call}
use Rattle.wit_model.specs.declared.calls.Reply.{Reply}
use Rattle.wit_model.specs.Rules.History.{is_held}
use Rattle.wit_model.specs.Rules.State.{Start, typed_locks}
use Rattle.wit_model.specs.Rules.Verdict.{is_exclusive}
use Rattle.wit_model.specs.Rules.Step.{is_logged}
use Rattle.wit_model.specs.World.Deeds.{Deed, Logged, PassedOver, own, log_of, shares, raw_mode}
use Rattle.wit_model.specs.World.Stages.{Stage, Asked, stage}
use Rattle.wit_model.specs.World.Scenes.{Scene, raw_of, shares_among, shares_of, stage_at}

-- nobody stands twice among the holders of a lock, or with no share
abbrev pub IsTidy : List (ℕ × ℕ) → Type 0
IsTidy [] = Unit {0}
IsTidy (x ∷ xs) = (0 < x.1) × (shares_among x.0 xs ≡ 0) × IsTidy xs

-- it has the world's log, its shares with their modes, and each thread's stage
pub record Shows (start : Start) (files : List (List ℕ)) (w : List Deed) (s : Scene) : Type 0 where
  pub begun : s.story.start ≡ start
  pub logs : s.story.history ≡ log_of w
  pub named : s.story.files ≡ files
  pub locks : length s.raw ≡ length (typed_locks start (log_of w))
  pub had : (t l : ℕ) → shares_of s.raw t l ≡ shares t l w
  pub modes : (t l : ℕ) → 0 < shares t l w → (raw_of s.raw l).mode ≡ raw_mode t l w
  pub tidy : (l : ℕ) → IsTidy (raw_of s.raw l).holders
  pub stages : (t : ℕ) → stage_at s t ≡ stage t (own t w)
  pub seats : length s.stages ≡ start.sizes.seats

-- the deed that a call is once it got this reply
abbrev pub deed_called : ℕ → Call → Reply → Deed
deed_called t call r =
    if is_logged r
    then Logged (record { seat = record { 0 = t }; call = call; reply = r })
    else PassedOver t call

-- ---- who waits for whom, by raw shares

-- whether t, at this stage, waits for u: it asks for a lock that it doesn't hold by the record, and
-- another thread has a share that bars it
abbrev pub is_barred_by : Scene → ℕ → ℕ → Stage → Bool
is_barred_by s t u (Asked q) =
    not (is_held t q.lock.0 s.story.history)
    && (not (u == t)
    && (nat_lt 0 (shares_of s.raw u q.lock.0)
    && (is_exclusive (raw_of s.raw q.lock.0).mode || is_exclusive q.mode)))
is_barred_by s t u at = false

abbrev pub waits_in : Scene → ℕ → ℕ → Bool
waits_in s t u = is_barred_by s t u (stage_at s t)

abbrev pub WaitsIn : Scene → ℕ → ℕ → Type 0
WaitsIn s t u = waits_in s t u ≡ true
