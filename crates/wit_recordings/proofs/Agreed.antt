-- The short recording condenses the log of its run.
use Rattle.std.proofs.Common.{◌≡◌, ℕ, List, [], ◌∷◌, refl, ap, sym, ◌∙◌, subst, inl}
use Rattle.std.proofs.Common.{inr}
use Rattle.std.specs.Prelude.{codes}
use Rattle.std.proofs.lemmas.Bool.{true≢false}
use Rattle.wit_model.specs.declared.locks.Class.{Class}
use Rattle.wit_model.specs.declared.locks.Class.TheVariants.{SleepMutex}
use Rattle.wit_model.specs.declared.calls.Request.{Request}
use Rattle.wit_model.specs.declared.calls.Call.{Call}
use Rattle.wit_model.specs.declared.calls.Call.TheVariants.{Check}
use Rattle.wit_model.specs.declared.calls.Entry.{Entry}
use Rattle.wit_model.specs.Rules.Locks.{locks_of, lock_of}
use Rattle.wit_model.specs.Rules.History.{num, place}
use Rattle.wit_model.specs.World.Deeds.{log_of}
use Rattle.wit_model.specs.World.Examples.{request, agreed}
use Rattle.wit_recordings.specs.Recordings.{named_type, chain_types, AsksBehindChain, HasRequest}
use Rattle.wit_recordings.specs.Recordings.{Condenses, recorded_once}
use Rattle.wit_recordings.proofs.Shorter.{is_check}

module _ (g : List Entry) where
  -- what is to be shown of a request, and of what came before it
  abbrev needed : Call → ℕ → List Entry → Type 0 → Type 0
  needed (Check q) t h rest =
      ((a : Class × List ℕ) (cs : List (Class × List ℕ)) → chain_types t h ≡ a ∷ cs
      → HasRequest g (a ∷ cs) (named_type (lock_of (locks_of h) q.lock.0))) × rest
  needed _ t h rest = rest

  abbrev Needs : List Entry → Type 0
  Needs [] = Unit {0}
  Needs (e ∷ h) = needed e.call e.seat.0 h (Needs h)

  request-kept : (e : Entry) (h : List Entry) (c : Call) → e.call ≡ c
      → needed c e.seat.0 h (Needs h)
      → ((a : Class × List ℕ) (cs : List (Class × List ℕ)) (b : Class × List ℕ)
      → AsksBehindChain h e (a ∷ cs) b → HasRequest g (a ∷ cs) b) × Needs h
  request-kept e h (Check p) is need = (
    (λ a cs b now.
        let same : ◌≡◌ {A = Call} (Check p) (Check now.request) = sym is ∙ now.asks in
        let request : p ≡ now.request = cc in
        subst (λ x. HasRequest g (a ∷ cs) x)
        (ap (λ (r : Request). named_type (lock_of (locks_of h) r.lock.0)) request ∙ now.second)
        (need.0 a cs now.first)),
    need.1,
  )
  request-kept e h c is need =
      ((λ a cs b now. absurd (true≢false (sym (ap is_check (sym is ∙ now.asks))))), need)

  condensed-by : (h : List Entry) → Needs h → Condenses g h
  condensed-by [] need = λ a cs b has. absurd has
  condensed-by (e ∷ h) need = λ a cs b has.
      let both = request-kept e h e.call refl need in
      either a cs b both.0 (condensed-by h both.1) has
    where
      either : (a : Class × List ℕ) (cs : List (Class × List ℕ)) (b : Class × List ℕ)
          → ((x : Class × List ℕ) (xs : List (Class × List ℕ)) (y : Class × List ℕ)
          → AsksBehindChain h e (x ∷ xs) y → HasRequest g (x ∷ xs) y)
          → Condenses g h → HasRequest (e ∷ h) (a ∷ cs) b → HasRequest g (a ∷ cs) b
      either a cs b now before (inl here) = now a cs b here
      either a cs b now before (inr there) = before a cs b there

abbrev first : Class × List ℕ
first = (SleepMutex, codes "A")

abbrev second : Class × List ℕ
second = (SleepMutex, codes "B")

behind-first : HasRequest (log_of recorded_once) (first ∷ []) second
unfolding num place
behind-first = inl (record {
  request = request 3 2;
  asks = refl;
  unheld = refl;
  first = refl;
  second = refl;
})

kept : (a : Class × List ℕ) (cs : List (Class × List ℕ)) → first ∷ [] ≡ a ∷ cs
    → HasRequest (log_of recorded_once) (a ∷ cs) second
kept a cs is = subst (λ xs. HasRequest (log_of recorded_once) xs second) is behind-first

alone : (a : Class × List ℕ) (cs : List (Class × List ℕ)) (b : Class × List ℕ)
    → ◌≡◌ {A = List (Class × List ℕ)} [] (a ∷ cs) → HasRequest (log_of recorded_once) (a ∷ cs) b
alone a cs b is = (cc)

pub agreed-condensed : Condenses (log_of recorded_once) (log_of agreed)
unfolding num place
agreed-condensed =
    condensed-by (log_of recorded_once) (log_of agreed)
    (kept, ((λ a cs is. alone a cs first is), (kept, ((λ a cs is. alone a cs first is), tt))))
