-- What a call that adopts nothing leaves published.
use Rattle.std.proofs.Common.{◌≡◌, ℕ, Bool, true, false, cond, List, [], ◌++◌, reverse, Result, Ok}
use Rattle.std.proofs.Common.{Err, refl, ap, ◌∙◌}
use Rattle.wit_model.specs.declared.faults.Fault.{Fault}
use Rattle.wit_model.specs.declared.locks.FileNo.{FileNo}
use Rattle.wit_model.specs.declared.calls.Adoption.{Adoption}
use Rattle.wit_model.specs.declared.calls.Call.{Call}
use Rattle.wit_model.specs.declared.calls.Reply.{Reply}
use Rattle.wit_model.specs.Rules.Files.{NamesFile}
use Rattle.wit_model.specs.Rules.Orders.{adopted}
use Rattle.wit_model.specs.Rules.State.{Story, orders_of}
use Rattle.wit_model.specs.Rules.Step.{Answers, AnswersOrFails, is_logged, logged}
use Rattle.wit_observers.specs.Shown.{Published}
use Rattle.wit_shared.specs.Publishing.{published}

-- what is published once these are adopted
abbrev behind : Story → List Adoption → Published
behind s more =
    record { orders = reverse (more ++ orders_of s.start s.history); size = s.start.sizes.types }

stays_if : (b : Bool) (old : Story) (t : ℕ) (call : Call) (reply : Reply) → adopted call reply ≡ []
    → published (cond b (logged old t call reply) old) ≡ published old
stays_if true old t call reply none = ap (behind old) none
stays_if false old t call reply none = refl

pub stays_or_fails : (old : Story) (t : ℕ) (call : Call) (result : Result Reply Fault) (new : Story)
    → AnswersOrFails old t call result new
    → ((reply : Reply) → adopted call reply ≡ []) → published new ≡ published old
stays_or_fails old t call (Ok reply) new did none =
    ap published did.1 ∙ stays_if (is_logged reply) old t call reply (none reply)
stays_or_fails old t call (Err fault) new did none = ap published did.1

pub stays_so : (old : Story) (t : ℕ) (call : Call) (result : Result Reply Fault) (new : Story)
    → Answers old t call result new
    → ((reply : Reply) → adopted call reply ≡ []) → published new ≡ published old
stays_so old t call (Ok reply) new did none =
    ap published did.1 ∙ stays_if (is_logged reply) old t call reply (none reply)
stays_so old t call (Err fault) new did none = ap published did.1

pub stays_named : (name : List ℕ) (old : Story) (result : Result FileNo Fault) (new : Story)
    → NamesFile old name result new
    → published new ≡ published old
stays_named name old (Ok f) new did = ap published did.1
stays_named name old (Err fault) new did = ap published did.2
