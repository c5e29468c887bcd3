-- The texts and lists that C is told.
use Rattle.std.specs.Prelude.{ℕ, ℤ, ◌≡◌, ◌⊎◌, List, [], Option, Result, Ok, Err, length}
use Rattle.std.specs.Prelude.{unwrap_or}
use Rattle.wit_model.specs.declared.assertions.AssertAnswer.{AssertAnswer}
use Rattle.wit_model.specs.declared.calls.Reply.{Reply}
use Rattle.wit_model.specs.declared.faults.Fault.{Fault}
use Rattle.wit_model.specs.declared.flags.LockAssert.{LockAssert}
use Rattle.wit_model.specs.declared.flags.WarnFlags.{WarnFlags}
use Rattle.wit_model.specs.declared.locks.LockNo.{LockNo}
use Rattle.wit_model.specs.Rules.Assertions.{step_assert}
use Rattle.wit_model.specs.Rules.Circles.{TellsCircle, Waits}
use Rattle.wit_model.specs.Rules.State.{Story, state_of, typed_locks, orders_of, types_of}
use Rattle.wit_model.specs.Rules.Warnings.{warned}
use Rattle.wit_model.specs.Trace.Outcomes.{reply_text}
use Rattle.wit_model.specs.Trace.Paths.{path}
use Rattle.wit_model.specs.Trace.Views as views
use Rattle.wit_c.specs.Numbers.{fault_number, lock_in}
use Rattle.wit_c.specs.Texts.{IsTold, IsUntold, IsToldOrFails}
use Rattle.wit_c.specs.declared.kept_verifier.KeptVerifier.{KeptVerifier}

-- what is reported by the answer that is kept
abbrev pub answer_text : Story → Result Reply Fault → List ℕ
answer_text story (Ok reply) = reply_text story reply
answer_text story (Err fault) = []

abbrev pub last_text : KeptVerifier → List ℕ
last_text kept = answer_text kept.verifier kept.last

abbrev pub locks_text : ℕ → KeptVerifier → List ℕ
locks_text seat kept = views.locks_text kept.verifier seat

abbrev pub all_locks_text : KeptVerifier → List ℕ
all_locks_text kept = views.all_locks_text kept.verifier

abbrev pub graph_text : KeptVerifier → List ℕ
graph_text kept = views.graph_text kept.verifier

abbrev pub warning_text : ℕ → Option LockNo → WarnFlags → KeptVerifier → List ℕ
warning_text seat named flags kept =
    let s = kept.verifier in
    views.warn_text (typed_locks s.start s.history) s.files (warned (state_of s) seat named flags)

-- the text of a warning, where 0 names no lock
unfoldable pub TellsWarning : ℕ → ℕ → WarnFlags → KeptVerifier → List ℕ → ℤ → List ℕ → Type 0
TellsWarning seat named flags kept old n new =
    IsToldOrFails (warning_text seat (lock_in named) flags kept) old n new

-- the text of what an assertion comes to; or its fault, and the buffer stays
abbrev pub IsAssertTold : Story → ℕ → Result AssertAnswer Fault → List ℕ → ℤ → List ℕ → Type 0
IsAssertTold s lock (Ok answer) old n new =
    IsToldOrFails (views.assert_text (typed_locks s.start s.history) lock answer) old n new
IsAssertTold s lock (Err fault) old n new = (n ≡ fault_number fault) × (new ≡ old)

abbrev pub TellsAssertion : ℕ → ℕ → LockAssert → KeptVerifier → List ℕ → ℤ → List ℕ → Type 0
TellsAssertion seat lock flags kept old n new =
    IsAssertTold kept.verifier lock (step_assert (state_of kept.verifier) seat lock flags)
    old n new

-- the types on the path of adopted orders from one to the other; none where none leads there
abbrev pub path_types : ℕ → ℕ → KeptVerifier → List ℕ
path_types a b kept =
    let s = kept.verifier in
    unwrap_or (path (orders_of s.start s.history) (length (types_of s.start s.history)) a b) []

-- the seats of a circle of those that wait, or none exactly where none do
unfoldable pub TellsSeats : KeptVerifier → List ℕ → ℤ → List ℕ → Type 0
TellsSeats kept old n new =
    ((circle : Option (List ℕ)) × (TellsCircle (Waits (state_of kept.verifier)) circle
    × IsTold (unwrap_or circle []) old n new)) ⊎ IsUntold old n new

-- the text of such a circle
unfoldable pub TellsCircleText : KeptVerifier → List ℕ → ℤ → List ℕ → Type 0
TellsCircleText kept old n new =
    ((circle : Option (List ℕ)) × (TellsCircle (Waits (state_of kept.verifier)) circle
    × IsTold (views.circle_text (state_of kept.verifier) circle) old n new)) ⊎ IsUntold old n new
