-- What is known of a call that is prepared, and what the answer to one teaches.
use Rattle.std.proofs.Common.{◌≡◌, ℕ, List, [], ◌∷◌, ◌++◌, Option, None, Some, IfSome, Result, Ok}
use Rattle.std.proofs.Common.{Err, IfOk, refl, sym, ap, ◌∙◌, subst}
use Rattle.std.specs.Option.{option_map}
use Rattle.wit_model.specs.declared.faults.Fault.{Fault}
use Rattle.wit_model.specs.declared.calls.Adoption.{Adoption}
use Rattle.wit_model.specs.declared.calls.Call.{Call}
use Rattle.wit_model.specs.declared.calls.Call.TheVariants.{Check, DefineOrder}
use Rattle.wit_model.specs.declared.calls.Reply.{Reply}
use Rattle.wit_model.specs.declared.calls.Reply.TheVariants.{Ignored}
use Rattle.wit_model.specs.declared.calls.Entry.{Entry}
use Rattle.wit_model.specs.Rules.Orders.{AreDistinct, adopted}
use Rattle.wit_model.specs.Rules.Preparing.{IsPrepared, Prepares}
use Rattle.wit_model.specs.Rules.Start.{start_fault}
use Rattle.wit_model.specs.Rules.State.{Story, orders_of}
use Rattle.wit_model.specs.Rules.Step.{answer_of, IsLegal}
use Rattle.wit_model.proofs.Chains.Seats.{entry}
use Rattle.wit_model.proofs.Orders.Once.{distinct_legal}
use Rattle.wit_matrix.specs.Relation.{OrdersAmong}
use Rattle.wit_core.specs.declared.ready.Ready.{Ready}
use Rattle.wit_core.specs.declared.verifier.Verifier.TheInside.{Inside}
use Rattle.wit_core.specs.declared.calls.attempt.Attempt.{Attempt}
use Rattle.wit_core.specs.declared.calls.attempt.Attempt.TheVariants.{Made, Teaches}
use Rattle.wit_core.specs.Attempts.{Attempts, told}
use Rattle.wit_core.specs.Kept.{IsReady}
use Rattle.wit_core.specs.Plans.{planned_call, planned}
use Rattle.wit_core.proofs.Keeping.{orders_within}
use Rattle.wit_core.proofs.Seen.{IsSeenAs}

same_pair : (p q : ℕ × Call) → ◌≡◌ {A = Option (ℕ × Call)} (Some p) (Some q) → p ≡ q
same_pair p q is = cc

module _ {v : Inside} {s : Story} (this : IsSeenAs v s) (r : Ready) (there : v.ready ≡ Some r) where
  pub is_ready : IsReady v r
  is_ready = subst (λ (o : Option Ready). IfSome o (IsReady v)) there this.tied.ready

  module _ (t : ℕ) (call : Call) (asked : IsPrepared s t call) where
    same_call : planned r ≡ (t, call)
    same_call =
        same_pair (planned r) (t, call)
        (sym (ap (λ (o : Option Ready). option_map planned o) there)
        ∙ (ap (λ (x : Story). x.ready) this.seen ∙ asked))

    pub ready_answer : answer_of s t call ≡ Ok r.reply
    ready_answer =
        subst (λ (p : ℕ × Call). answer_of s p.0 p.1 ≡ Ok r.reply) same_call
        (subst (λ (x : Story). answer_of x r.seat.0 (planned_call r.plan) ≡ Ok r.reply) this.seen
        is_ready.answer)

no_more : (call : Call) → adopted call Ignored ≡ []
no_more (Check q) = refl
no_more (DefineOrder a b) = refl
no_more _ = refl

-- what holds of the orders of each legal history holds of those with what the answer to a call
-- teaches
teaches : (P : List Adoption → Type 0) (s : Story) → IsLegal s.start s.files s.history
    → ((h : List Entry) → IsLegal s.start s.files h → P (orders_of s.start h))
    → (t : ℕ) (call : Call) (r : Reply) → answer_of s t call ≡ Ok r
    → P (adopted call r ++ orders_of s.start s.history)
teaches P s legal all t call Ignored ok =
    subst (λ os. P (os ++ orders_of s.start s.history)) (sym (no_more call)) (all s.history legal)
teaches P s legal all t call r ok = all (entry t call r ∷ s.history) (ok, refl, legal)

module _ (s : Story) (started : start_fault s.start ≡ None)
    (legal : IsLegal s.start s.files s.history) (t : ℕ) (call : Call) where
  among : (reply : Reply) → answer_of s t call ≡ Ok reply
      → OrdersAmong s.start.sizes.types (adopted call reply ++ orders_of s.start s.history)
  among =
      teaches (OrdersAmong s.start.sizes.types) s legal
      (λ h is. orders_within s.start s.files h started is) t call

  distinct : (reply : Reply) → answer_of s t call ≡ Ok reply
      → AreDistinct (adopted call reply ++ orders_of s.start s.history)
  distinct = teaches AreDistinct s legal (λ h is. distinct_legal s.start s.files h is) t call

  module _ (new : Story) where
    pub teaches_among : (r : Result Reply Fault) → Prepares s t call r new
        → IfOk r (λ reply. OrdersAmong s.start.sizes.types
        (adopted call reply ++ orders_of s.start s.history))
    teaches_among (Ok reply) told = among reply told.0
    teaches_among (Err fault) told = tt

    pub teaches_distinct : (r : Result Reply Fault) → Prepares s t call r new
        → IfOk r (λ reply. AreDistinct (adopted call reply ++ orders_of s.start s.history))
    teaches_distinct (Ok reply) told = distinct reply told.0
    teaches_distinct (Err fault) told = tt

    pub attempted_among : (r : Result Attempt Fault) → Attempts s t call r new
        → IfOk r (λ attempt. OrdersAmong s.start.sizes.types
        (adopted call (told attempt) ++ orders_of s.start s.history))
    attempted_among (Ok (Made reply)) did = among reply did.1.0
    attempted_among (Ok (Teaches again reply)) did = among reply did.3.0
    attempted_among (Err fault) did = tt

    pub attempted_distinct : (r : Result Attempt Fault) → Attempts s t call r new
        → IfOk r (λ attempt. AreDistinct
        (adopted call (told attempt) ++ orders_of s.start s.history))
    attempted_distinct (Ok (Made reply)) did = distinct reply did.1.0
    attempted_distinct (Ok (Teaches again reply)) did = distinct reply did.3.0
    attempted_distinct (Err fault) did = tt
