-- What covers the log of a run tells of the run's deeds, where each thread has recorded what it has
-- when it asks.
use Rattle.std.proofs.Common.{◌≡◌, ℕ, true, false, List, [], ◌∷◌, ◌++◌, refl, sym, ◌∙◌, subst}
use Rattle.std.proofs.Common.{inl, inr, ⊎_elim}
use Rattle.wit_model.specs.declared.locks.Class.{Class}
use Rattle.wit_model.specs.declared.calls.Request.{Request}
use Rattle.wit_model.specs.declared.calls.Call.TheVariants.{Check}
use Rattle.wit_model.specs.declared.calls.Entry.{Entry}
use Rattle.wit_model.specs.Rules.Beginnings.{IsBeginning}
use Rattle.wit_model.specs.Rules.Numbers.{IsGiven}
use Rattle.wit_model.specs.Rules.Locks.{locks_of, lock_of}
use Rattle.wit_model.specs.Rules.History.{is_held}
use Rattle.wit_model.specs.Rules.State.{Start}
use Rattle.wit_model.specs.Rules.Step.{IsLegal}
use Rattle.wit_model.specs.World.Deeds.{Deed, Logged, PassedOver, Take, TryTake, Free, RawUp}
use Rattle.wit_model.specs.World.Deeds.{RawDown, log_of}
use Rattle.wit_recordings.specs.Recordings.{named_type, TellsOf, Covers}
use Rattle.wit_recordings.specs.Recordings.{TellsOfDeeds, types_in}
use Rattle.wit_recordings.specs.Duty.{KeepsDuty, AllAskRecorded}
use Rattle.wit_model.proofs.Chains.Held.{made_sane}
use Rattle.wit_model.proofs.Histories.Legal.{sane_legal}
use Rattle.wit_model.proofs.Orders.TypedLocks.{made-known}
use Rattle.wit_model.proofs.VerdictLaws.Judged.{checked}
use Rattle.wit_recordings.proofs.Circles.{given-more}
use Rattle.wit_recordings.proofs.Told.{known-stays}

-- ---- what is told stays told

longer-covers : (later h : List Entry) → Covers (later ++ h) h
longer-covers [] h a b told = told
longer-covers (e ∷ later) h a b told = inr (longer-covers later h a b told)

pub beginning-covered : (h g : List Entry) → IsBeginning h g → Covers g h
beginning-covered h g begins =
    subst (λ x. Covers x h) (sym begins.1) (longer-covers begins.0 h)

pub duty-covers : (g more h : List Entry) (e : Entry)
    → Covers g h → IsBeginning g more → KeepsDuty more e h → Covers more (e ∷ h)
duty-covers g more h e cover begins duty a b told =
    ⊎_elim (λ now. duty a b now)
    (λ before. beginning-covered g more begins a b (cover a b before)) told

-- ---- what covers a run's log tells of the run

-- the locks made so far have these types
abbrev AreTyped : List Entry → (ℕ → Class × List ℕ) → Type 0
AreTyped h types = (l : ℕ) → IsGiven (locks_of h) l → named_type (lock_of (locks_of h) l) ≡ types l

typed-before : (e : Entry) (h : List Entry) (types : ℕ → Class × List ℕ) → AreTyped (e ∷ h) types
    → AreTyped h types
typed-before e h types typed l given =
    sym (known-stays e h l given) ∙ typed l (given-more e h l given)

covers-before : (g : List Entry) (e : Entry) (h : List Entry) → Covers g (e ∷ h) → Covers g h
covers-before g e h cover a b told = cover a b (inr told)

module _ (start : Start) (files : List (List ℕ)) (g : List Entry) (types : ℕ → Class × List ℕ) where
  request-told : (e : Entry) (h : List Entry) (q : Request) (l : ℕ) → IsLegal start files (e ∷ h)
      → AreTyped h types → Covers g (e ∷ h) → e.call ≡ Check q
      → is_held e.seat.0 q.lock.0 h ≡ false → is_held e.seat.0 l h ≡ true
      → TellsOf g (types l) (types q.lock.0)
  request-told e h q l legal typed cover asks unheld holds =
      cover (types l) (types q.lock.0) (inl (record {
        request = q;
        asks = asks;
        unheld = unheld;
        other = l;
        holds = holds;
        first = typed l (made_sane e.seat.0 l h (sane_legal start files h legal.2) holds);
        second = typed q.lock.0
            (made-known start h q.lock.0 (checked start files e h q legal asks).lock);
      }))

  deeds-told : (w : List Deed) → IsLegal start files (log_of w) → AreTyped (log_of w) types
      → AllAskRecorded w → Covers g (log_of w) → TellsOfDeeds g types w
  deeds-told [] legal typed recorded cover = tt
  deeds-told (Logged e ∷ w) legal typed recorded cover =
      let before = typed-before e (log_of w) types typed in (
        (λ q l asks unheld some. request-told e (log_of w) q l legal before cover asks unheld
            (recorded.0 q l asks unheld some)),
        deeds-told w legal.2 before recorded.1 (covers-before g e (log_of w) cover),
      )
  deeds-told (Take u m mode ∷ w) legal typed recorded cover =
      (tt, deeds-told w legal typed recorded.1 cover)
  deeds-told (TryTake u m mode ∷ w) legal typed recorded cover =
      (tt, deeds-told w legal typed recorded.1 cover)
  deeds-told (PassedOver u c ∷ w) legal typed recorded cover =
      (tt, deeds-told w legal typed recorded.1 cover)
  deeds-told (Free u m ∷ w) legal typed recorded cover =
      (tt, deeds-told w legal typed recorded.1 cover)
  deeds-told (RawUp u m ∷ w) legal typed recorded cover =
      (tt, deeds-told w legal typed recorded.1 cover)
  deeds-told (RawDown u m ∷ w) legal typed recorded cover =
      (tt, deeds-told w legal typed recorded.1 cover)

pub run-told : (start : Start) (files : List (List ℕ)) (w : List Deed) (g : List Entry)
    → IsLegal start files (log_of w) → Covers g (log_of w) → AllAskRecorded w
    → TellsOfDeeds g (types_in w) w
run-told start files w g legal cover recorded =
    deeds-told start files g (types_in w) w legal (λ l given. refl) recorded cover
