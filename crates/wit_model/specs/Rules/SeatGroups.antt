-- The groups in which the locks of one kind that a seat holds lie after a history. A history is
-- newest entry first: a cons is the next call.
use Rattle.std.specs.Prelude.{ℕ, Bool, not, ◌&&◌, ◌==◌, List, [], ◌∷◌, map, if◌then◌else◌}
use Rattle.wit_model.specs.declared.locks.Instance.{Instance}
use Rattle.wit_model.specs.declared.calls.Entry.{Entry}
use Rattle.wit_model.specs.Rules.Locks.{locks_of, is_of_kind}
use Rattle.wit_model.specs.Rules.History.{Act, Records, Releases, act_by, is_held, rises, instance}
use Rattle.wit_model.specs.Rules.Groups.{joined, left}

-- whether t stops holding l by the entry e
abbrev pub falls : ℕ → ℕ → Entry → List Entry → Bool
falls t l e h = is_held t l h && not (is_held t l (e ∷ h))

-- a lock of this kind that becomes held joins the groups, and one that stops being held leaves them
abbrev pub regrouped : Bool → ℕ → Act → Entry → List Entry → List (List ℕ) → List (List ℕ)
regrouped kind t (Records l) e h gs =
    if is_of_kind kind (locks_of h) l && rises t l e h then joined l gs else gs
regrouped kind t (Releases l) e h gs =
    if is_of_kind kind (locks_of h) l && falls t l e h then left (λ m. not (m == l)) gs else gs
regrouped kind t _ e h gs = gs

-- the groups of a seat's held locks of one kind, oldest first
unfoldable pub seat_groups : Bool → ℕ → List Entry → List (List ℕ)
seat_groups kind t [] = []
seat_groups kind t (e ∷ h) = regrouped kind t (act_by t e) e h (seat_groups kind t h)

-- as the seat holds them
abbrev pub held_groups : Bool → ℕ → List Entry → List (List Instance)
held_groups kind t h = map (map (instance t h)) (seat_groups kind t h)
