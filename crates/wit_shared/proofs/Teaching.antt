-- What a call leaves that is prepared first, and then made.
use Rattle.std.proofs.Common.{◌≡◌, ◌≢◌, ℕ, Bool, true, false, cond, List, [], ◌++◌, reverse, Result}
use Rattle.std.proofs.Common.{Ok, Err, Some, refl, sym, ap, ◌∙◌, subst, inr}
use Rattle.std.specs.Prelude.{IsOk}
use Rattle.std.specs.Result.{IsErrAnd}
use Rattle.std.proofs.lemmas.Bool.{false≢true}
use Rattle.std.proofs.lemmas.List.{reverse-append}
use Rattle.wit_model.specs.declared.calls.Adoption.{Adoption}
use Rattle.wit_model.specs.declared.calls.Call.{Call}
use Rattle.wit_model.specs.declared.calls.Call.TheVariants.{Check, DefineOrder}
use Rattle.wit_model.specs.declared.calls.Reply.{Reply}
use Rattle.wit_model.specs.declared.calls.Reply.TheVariants.{Ignored}
use Rattle.wit_model.specs.declared.faults.Fault.{Fault}
use Rattle.wit_model.specs.declared.faults.Fault.TheVariants.{OutOfMemory}
use Rattle.wit_model.specs.Rules.Orders.{adopted}
use Rattle.wit_model.specs.Rules.Preparing.{Prepares}
use Rattle.wit_model.specs.Rules.State.{Story, orders_of}
use Rattle.wit_model.specs.Rules.Step.{AnswersOrFails, IsEntered, answer_of, grown, is_logged, logged}
use Rattle.wit_observers.specs.Shown.{Published}
use Rattle.wit_shared.specs.Publishing.{IsSame, Makes, published}

none_of : (call : Call) → adopted call Ignored ≡ []
none_of (Check q) = refl
none_of (DefineOrder a b) = refl
none_of _ = refl

-- what teaches is logged
pub kept : (call : Call) (reply : Reply) → adopted call reply ≢ [] → is_logged reply ≡ true
kept call Ignored teaches = absurd (teaches (none_of call))
kept call _ teaches = refl

module _ (s : Story) (t : ℕ) (call : Call) (reply : Reply) (teaches : adopted call reply ≢ [])
    (answer : answer_of s t call ≡ Ok reply) where
  -- it may be refused for want of memory
  pub wants : (r : Result Reply Fault) → IsErrAnd r (λ e. e ≡ OutOfMemory)
      → AnswersOrFails s t call r s
  wants (Ok told) is = elim is [ ]
  wants (Err fault) is = (
    inr (
      is,
      subst (λ (r : Result Reply Fault). IsEntered r) (sym answer)
          (kept call reply teaches),
    ),
    refl,
  )

  -- or is made, and all that was adopted then is published
  pub all_published : (new : Story) (r : Result Reply Fault) (p : Published) → AnswersOrFails s t call r new
      → IsOk r → p ≡ record (published s) {
        orders = (published s).orders ++ reverse (adopted call reply);
      } → p ≡ published new
  all_published new (Err fault) p did ok is = absurd (false≢true ok)
  all_published new (Ok told) p did ok is =
      is
      ∙ ap (λ (os : List Adoption). record (published s) { orders = os })
      (sym (reverse-append (adopted call reply) (orders_of s.start s.history)))
      ∙ ap (λ (x : Story). published x)
      (sym (did.1 ∙ ap (grown s t call) same ∙ ap (λ b. cond b (logged s t call reply) s)
      (kept call reply teaches)))
    where
      same : told ≡ reply
      same = let e : Ok told ≡ Ok reply = sym did.0 ∙ answer in cc

-- ---- what was prepared first

same_if : (b : Bool) (old new ready : Story) → IsSame old ready → new ≡ cond b ready old
    → IsSame old new
same_if true old new ready is e = subst (IsSame old) (sym e) is
same_if false old new ready is e = subst (IsSame old) (sym e) refl

pub made_ready : (old ready new : Story) (t : ℕ) (call : Call) (reply : Reply)
    (r : Result Reply Fault) → Prepares old t call (Ok reply) ready
    → AnswersOrFails ready t call r new → Makes old t call r new
made_ready old ready new t call reply r told did = record {
  before = ready;
  same = same_if (is_logged reply) old ready (record old { ready = Some (t, call) }) refl
      told.1;
  did = did;
}

pub ready_answer : (old ready : Story) (t : ℕ) (call again : Call) (reply : Reply) → again ≡ call
    → Prepares old t call (Ok reply) ready → answer_of ready t again ≡ Ok reply
ready_answer old ready t call again reply is told =
    ap (λ c. answer_of ready t c) is
    ∙ ap (λ (x : Story). answer_of x t call)
    (same_if (is_logged reply) old ready (record old { ready = Some (t, call) }) refl told.1)
    ∙ told.0
