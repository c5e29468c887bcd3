-- The orders that a check teaches, its answer, and what that tells.
use Rattle.std.specs.Prelude.{ℕ, ◌≡◌, Bool, not, ◌&&◌, List}
use Rattle.wit_model.specs.declared.locks.TypeNo.{TypeNo}
use Rattle.wit_model.specs.declared.calls.Call.TheVariants.{Check}
use Rattle.wit_model.specs.declared.calls.Request.{Request}
use Rattle.wit_model.specs.declared.calls.TypedRequest.{TypedRequest}
use Rattle.wit_model.specs.Rules.History.{is_on}
use Rattle.wit_model.specs.Rules.Locks.{has_flag, lock_at}
use Rattle.wit_model.specs.Rules.State.{State, Story, state_of, seat_at}
use Rattle.wit_model.specs.Rules.Step.{answer_of}
use Rattle.wit_model.specs.Rules.Verdict.{basis_of, typed_request, chain_asked, is_exclusive}
use Rattle.wit_check.specs.declared.answers.Verdict.{Verdict}
use Rattle.wit_check.specs.Answers.{answer_by, new_orders}

-- the orders that a seat's request teaches behind all the locks of its kind that it holds
abbrev pub orders_taught : State → ℕ → Request → List (TypeNo × TypeNo)
orders_taught s t q =
    let g = basis_of s.known in
    let asked = typed_request s.known q in
    new_orders g (chain_asked g (seat_at s t).sleep (seat_at s t).spin asked) asked

-- a request without what is known of its lock
abbrev pub untyped : TypedRequest → Request
untyped asked = record {
  lock = asked.lock;
  site = asked.site;
  mode = asked.mode;
  ops = asked.ops;
}

-- the answer to a seat's request tells this verdict
abbrev pub IsToldBy : Story → ℕ → Request → Verdict → Type 0
IsToldBy s t q v =
    answer_of s t (Check q) ≡ answer_by (orders_taught (state_of s) t q) v

-- a request that passes tells that its seat doesn't hold the lock: everything is watched, and who
-- holds the lock can't have it so once more
abbrev pub tells_new : State → Request → Bool
tells_new s q =
    is_on s.watch && is_exclusive q.mode
    && not (has_flag (lock_at s.known.locks q.lock.0).made.flags.0 0x01)
