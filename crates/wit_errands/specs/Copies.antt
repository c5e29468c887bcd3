-- Copies of errands: threads that do what others did in a run, however many.
use Rattle.std.specs.Prelude.{ℕ, ◌≡◌, true, ◌==◌, List, [], ◌∷◌, ◌++◌, map}
use Rattle.std.specs.Prelude.{if◌then◌else◌}
use Rattle.wit_model.specs.World.Deeds.{Deed, Logged, PassedOver, Take, TryTake, Free, RawUp}
use Rattle.wit_model.specs.World.Deeds.{RawDown, own, shares}
use Rattle.wit_model.specs.World.Reordering.{kept}
use Rattle.wit_errands.specs.Settled.{are_free}
use Rattle.wit_errands.specs.Errands.{Errand, AsksFor}

-- the deed, done by t
abbrev pub done_by : ℕ → Deed → Deed
done_by t (Logged e) =
    Logged (record { seat = record { 0 = t }; call = e.call; reply = e.reply })
done_by t (PassedOver u call) = PassedOver t call
done_by t (Take u l mode) = Take t l mode
done_by t (TryTake u l mode) = TryTake t l mode
done_by t (Free u l) = Free t l
done_by t (RawUp u l) = RawUp t l
done_by t (RawDown u l) = RawDown t l

-- a thread that does an errand of a thread of the run: of itself, or of another one
pub record Copier (first deeds : List Deed) : Type 0 where
  pub thread : ℕ
  pub model : ℕ
  pub errand : Errand model first deeds

module _ {first deeds : List Deed} where
  abbrev pub copying : List (Copier first deeds) → List ℕ
  copying copiers = map (λ (c : Copier first deeds). c.thread) copiers

  -- the errand with its request, done by the copier
  abbrev pub copied : Copier first deeds → List Deed
  copied c = map (done_by c.thread) (Logged c.errand.entry ∷ c.errand.way)

  abbrev pub copied_by : List (Copier first deeds) → ℕ → List Deed
  copied_by [] t = []
  copied_by (c ∷ others) t = if c.thread == t then copied c else copied_by others t

  -- since a moment in which it had nothing, its thread has done in v what the errand was, and
  -- nothing else
  pub record HasCopied (v : List Deed) (c : Copier first deeds) : Type 0 where
    pub before : List Deed
    pub looks : map kept (own c.thread v) ≡ map kept (copied c ++ before)
    pub nothing : (l : ℕ) → shares c.thread l before ≡ 0

  abbrev pub AllCopied : List Deed → List (Copier first deeds) → Type 0
  AllCopied v [] = Unit {0}
  AllCopied v (c ∷ others) = HasCopied v c × AllCopied v others

  -- from a by these to b, each asks for what the next one has
  abbrev pub CopyOn : Copier first deeds → List (Copier first deeds) → Copier first deeds → Type 0
  CopyOn a [] b = AsksFor a.errand b.errand
  CopyOn a (c ∷ others) b = AsksFor a.errand c.errand × CopyOn c others b

  abbrev pub IsCopiedRound : List (Copier first deeds) → Type 0
  IsCopiedRound [] = ⊥
  IsCopiedRound (a ∷ others) = CopyOn a others a

  -- these copies can be gone together
  pub record MeetCopied (threads : ℕ) (copiers : List (Copier first deeds)) : Type 0 where
    pub together : List Deed
    pub copies : (t : ℕ) → map kept (own t together) ≡ map kept (copied_by copiers t)
    pub free : are_free threads together ≡ true
