-- Runs from a moment on in which nobody has a lock, as from the one in which all locks are made.
use Rattle.std.specs.Prelude.{ℕ, ◌+◌, ◌≤◌, ◌≡◌, Bool, true, false, not, ◌&&◌, nat_lt, List, []}
use Rattle.std.specs.Prelude.{◌∷◌, ◌++◌, length, sum_by, if◌then◌else◌}
use Rattle.std.specs.List.{list_all, range_with_len}
use Rattle.wit_model.specs.declared.locks.Watch.TheVariants.{On}
use Rattle.wit_model.specs.declared.calls.Call.{Call}
use Rattle.wit_model.specs.declared.calls.Call.TheVariants.{Init, SetWatch, Destroy, DefineOrder}
use Rattle.wit_model.specs.declared.calls.Entry.{Entry}
use Rattle.wit_model.specs.Laws.{is_exhaustion}
use Rattle.wit_model.specs.Rules.History.{is_on, watch_of, own_entries}
use Rattle.wit_model.specs.Rules.State.{Start, seat_of, chunks_of, owed_by}
use Rattle.wit_model.specs.World.Deeds.{Deed, Take, TryTake, RawUp, log_of, shares}
use Rattle.wit_model.specs.World.Steps.{admits, is_alone, IsWorld}

-- ---- what is called

-- no lock is made or destroyed, no order defined, and everything is watched
abbrev pub is_calm_call : Call → Bool
is_calm_call (Init lock) = false
is_calm_call (Destroy l) = false
is_calm_call (DefineOrder a b) = false
is_calm_call (SetWatch level) = is_on level
is_calm_call _ = true

-- and the chunks don't run out
abbrev pub is_calm : Entry → Bool
is_calm e = is_calm_call e.call && not (is_exhaustion e.reply)

-- ---- that nothing runs out, even where all threads have at once the most that each ever has

abbrev pub larger : ℕ → ℕ → ℕ
larger a b = if nat_lt a b then b else a

-- the greatest value that this has at any moment of a history
abbrev pub most : (List Entry → ℕ) → List Entry → ℕ
most f [] = f []
most f (e ∷ h) = larger (f (e ∷ h)) (most f h)

-- the sum of these over the threads from 1 to this many
abbrev pub most_of_all : ℕ → (ℕ → List Entry → ℕ) → List Entry → ℕ
most_of_all threads f h = sum_by (λ t. most (f t) h) (range_with_len 1 threads)

-- the chunks that t has
abbrev pub chunks_at : ℕ → List Entry → ℕ
chunks_at t h = chunks_of (seat_of h t)

-- the entries that t made, and those that it will still need
abbrev pub entries_at : ℕ → List Entry → ℕ
entries_at t h = length (own_entries t h) + owed_by (seat_of h t)

-- ---- a run

-- after the first part nobody has a lock, and everything is watched; then the threads do these
-- deeds: locks are neither made nor destroyed any more, no order is defined, and everything is
-- watched. There is room for all threads at once
pub record IsSettled (start : Start) (files : List (List ℕ)) (first deeds : List Deed)
    : Type 0 where
  pub world : IsWorld start files (deeds ++ first)
  pub nothing : (t l : ℕ) → shares t l first ≡ 0
  pub watched : watch_of (log_of first) ≡ On
  pub calm : list_all is_calm (log_of deeds) ≡ true
  pub chunks : most_of_all start.sizes.seats chunks_at (log_of (deeds ++ first))
      ≤ start.sizes.chunks
  pub log : most_of_all start.sizes.seats entries_at (log_of (deeds ++ first)) ≤ start.sizes.log

-- whether a deed gets a lock
abbrev pub gets : Deed → Bool
gets (Take t l mode) = true
gets (TryTake t l mode) = true
gets _ = false

-- ---- what the locks alone admit

-- whether a deed may come after these, as far as the locks go that others have
abbrev pub is_free : ℕ → Deed → List Deed → Bool
is_free threads (Take t l mode) w = admits threads l mode w
is_free threads (TryTake t l mode) w = admits threads l mode w
is_free threads (RawUp t l) w = is_alone threads t l w
is_free threads d w = true

-- whether each may come after those before it
abbrev pub are_free : ℕ → List Deed → Bool
are_free threads [] = true
are_free threads (d ∷ w) = is_free threads d w && are_free threads w
