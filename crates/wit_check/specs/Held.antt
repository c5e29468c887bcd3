-- The two lists of a seat's held locks: of the sleep kind, and of the spin kind.
use Rattle.std.specs.Prelude.{ℕ, ◌≤◌, true, false, List, length, filter}
use Rattle.std.specs.List.{All}
use Rattle.wit_model.specs.declared.locks.TypeNo.{TypeNo}
use Rattle.wit_model.specs.declared.locks.Instance.{Instance}
use Rattle.wit_model.specs.Rules.Numbers.{IsGiven}
use Rattle.wit_model.specs.Rules.Chunks.{Chunks, chain_of, list_of}
use Rattle.wit_model.specs.Rules.Verdict.{is_of}

abbrev pub sleep_chain : Chunks → ℕ → List Instance
sleep_chain c seat = chain_of c (list_of false seat)

abbrev pub spin_chain : Chunks → ℕ → List Instance
spin_chain c seat = chain_of c (list_of true seat)

-- no lock stands in it twice
abbrev pub HasEachOnce : List Instance → Type 0
HasEachOnce c = (l : ℕ) → length (filter (is_of l) c) ≤ 1

-- each of its locks has a type
abbrev pub IsTyped : List TypeNo → List Instance → Type 0
IsTyped lock_types c = All (λ (i : Instance). IsGiven lock_types i.lock.0) c

-- a chain that a request can be judged by
pub record IsJudgeable (lock_types : List TypeNo) (c : List Instance) : Type 0 where
  pub once : HasEachOnce c
  pub typed : IsTyped lock_types c
