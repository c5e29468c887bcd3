-- What is recorded by answers covers all calls.
use Rattle.std.proofs.Common.{◌≡◌, ℕ, true, false, List, [], ◌∷◌, ◌++◌, refl, sym}
use Rattle.std.proofs.Common.{◌∙◌, subst, ⊎_elim}
use Rattle.wit_condensed.specs.declared.chain.Asked.{Asked}
use Rattle.wit_condensed.specs.declared.chain.Link.{Link}
use Rattle.wit_condensed.specs.declared.condensed.Condensed.{Condensed}
use Rattle.wit_condensed.specs.Chains.{has_lock, has_type}
use Rattle.wit_model.specs.declared.calls.Entry.{Entry}
use Rattle.wit_model.specs.Rules.Beginnings.{IsBeginning}
use Rattle.wit_model.specs.Rules.State.{Start}
use Rattle.wit_model.specs.Rules.Step.{IsLegal}
use Rattle.wit_recordings.specs.Duty.{KeepsDuty}
use Rattle.wit_recordings.specs.Recordings.{NamedType, TellsOf, Covers}
use Rattle.wit_recordings.proofs.Covered.{beginning-covered, duty-covers}
use Rattle.wit_duty.specs.Streams.{IsKept, HasChain, IsRecorded, Begun, Written, Called}
use Rattle.wit_duty.specs.Streams.{Known, Asking, locks_with}
use Rattle.wit_duty.proofs.Answered.{empty-kept, kept-stays, known-told, answer-kept, answer-tells}
use Rattle.wit_duty.proofs.Writing.{writes-later}

pub pairs-duty : (named : ℕ → NamedType) (g h : List Entry) (e : Entry) (links : List Link)
    (asked : Asked) → HasChain named h e links asked
    → (has_lock links asked.lock ≡ false → (a : ℕ) → has_type links a ≡ true
    → TellsOf g (named a) (named asked.type_no))
    → KeepsDuty g e h
pairs-duty named g h e links asked chain told a b now =
    let asks = chain.asks now.request now.asks now.unheld in
    let link = chain.holds now.other now.holds in
    subst (λ x. TellsOf g x b) (sym link.1.1 ∙ now.first)
    (subst (λ y. TellsOf g (named link.0) y) (sym asks.0 ∙ now.second)
    (told asks.1 link.0 link.1.0))

legal-end : (start : Start) (files : List (List ℕ)) (later g : List Entry)
    → IsLegal start files (later ++ g) → IsLegal start files g
legal-end start files [] g legal = legal
legal-end start files (e ∷ later) g legal = legal-end start files later g legal.2

legal-before : (start : Start) (files : List (List ℕ)) (g more : List Entry) → IsBeginning g more
    → IsLegal start files more → IsLegal start files g
legal-before start files g more begins legal =
    legal-end start files begins.0 g (subst (IsLegal start files) begins.1 legal)

-- it has the sets, and covers the calls
record IsSound (named : ℕ → NamedType) (h : List Entry) (sets : Condensed) (g : List Entry)
    : Type 0 where
  kept : IsKept named sets g
  covers : Covers g h

same-stream : (g : List Entry) → IsBeginning g g
same-stream g = ([], refl)

sound : (start : Start) (files : List (List ℕ)) → {named : ℕ → NamedType} {h : List Entry}
    {sets : Condensed} {g : List Entry} → IsRecorded named h sets g → IsLegal start files g
    → IsSound named h sets g
sound start files (Begun named sets empty) legal = record {
  kept = empty-kept named sets [] empty;
  covers = λ a b told. absurd told;
}
sound start files (Written named h sets g more so begins) legal =
    let before = sound start files so (legal-before start files g more begins legal) in
    record {
      kept = kept-stays named sets g more before.kept begins;
      covers = λ a b told. beginning-covered g more begins a b (before.covers a b told);
    }
sound start files (Called named h sets g e so none) legal =
    let before = sound start files so legal in
    record {
      kept = before.kept;
      covers = λ a b told. ⊎_elim (λ now. absurd (none a b now)) (λ old. before.covers a b old) told;
    }
sound start files (Known named h sets g e links asked so chain known) legal =
    let before = sound start files so legal in
    record {
      kept = before.kept;
      covers = duty-covers g g h e before.covers (same-stream g)
          (pairs-duty named g h e links asked chain
          (λ unheld. known-told named sets g links asked.type_no before.kept known));
    }
sound start files (Asking named h old new g more e t links asked so chain answered) legal =
    let later = writes-later t (locks_with links asked) answered.lines g more answered.written in
    let before = sound start files so (legal-before start files g more later legal) in
    record {
      kept = answer-kept start files named t old new g more links asked answered legal before.kept;
      covers = duty-covers g more h e before.covers later
          (pairs-duty named more h e links asked chain
          (answer-tells start files named t old new g more links asked answered legal before.kept));
    }

pub recorded-covers : (start : Start) (files : List (List ℕ)) (named : ℕ → NamedType)
    (h : List Entry) (sets : Condensed) (g : List Entry) → IsRecorded named h sets g
    → IsLegal start files g → Covers g h
recorded-covers start files named h sets g so legal = (sound start files so legal).covers
