-- Held locks in groups, oldest first, as the chunks of a list of held locks in subr_witness.c: each
-- group has room for five. These words are the same for lock numbers and for whole instances.
use Rattle.std.specs.Prelude.{ℕ, ◌-◌, ◌≤◌, Bool, true, not, List, [], ◌∷◌, ◌++◌, length, map}
use Rattle.std.specs.Prelude.{filter, nat_lt, slice_set, if◌then◌else◌}
use Rattle.std.specs.List.{flat_map, remove, slice_index_or}
use Rattle.wit_model.specs.declared.chunks.TheConstants.{CHUNK}

-- the groups joined in order
abbrev pub flat : {X : Type 0} → List (List X) → List X
flat gs = flat_map (λ g. g) gs

-- whether a group has room for one more
abbrev pub group_has_room : {X : Type 0} → List X → Bool
group_has_room g = nat_lt (length g) CHUNK

-- a new one joins the newest group, or opens a group where that one is full
abbrev pub joined : {X : Type 0} → X → List (List X) → List (List X)
joined x [] = (x ∷ []) ∷ []
joined x (g ∷ []) = if group_has_room g then (g ++ x ∷ []) ∷ [] else g ∷ (x ∷ []) ∷ []
joined x (g ∷ g' ∷ gs) = g ∷ joined x (g' ∷ gs)

-- whether a new one opens a group
abbrev pub opens : {X : Type 0} → List (List X) → Bool
opens [] = true
opens (g ∷ []) = not (group_has_room g)
opens (g ∷ g' ∷ gs) = opens (g' ∷ gs)

abbrev pub is_filled : {X : Type 0} → List X → Bool
is_filled g = nat_lt 0 (length g)

-- an empty group is left out unless it is the only one
abbrev pub tidied : {X : Type 0} → List (List X) → List (List X)
tidied [] = []
tidied (g ∷ []) = g ∷ []
tidied (g ∷ g' ∷ gs) = filter is_filled (g ∷ g' ∷ gs)

-- those who don't stay leave their groups
abbrev pub left : {X : Type 0} → (X → Bool) → List (List X) → List (List X)
left stays gs = tidied (map (filter stays) gs)

-- the groups where the one at this place, counted from the oldest, is edited within its group
abbrev pub edited_at : {X : Type 0} → (ℕ → List X → List X) → ℕ → List (List X) → List (List X)
edited_at edit i [] = []
edited_at edit i (g ∷ gs) =
    if nat_lt i (length g) then edit i g ∷ gs else g ∷ edited_at edit (i - length g) gs

-- another one stands at this place
abbrev pub replaced_at : {X : Type 0} → ℕ → X → List (List X) → List (List X)
replaced_at i x gs = edited_at (λ k g. slice_set g k x) i gs

-- the one at this place leaves its group, in which the later ones move down
abbrev pub removed_at : {X : Type 0} → ℕ → List (List X) → List (List X)
removed_at i gs = tidied (edited_at (λ k g. remove g k) i gs)

-- the groups where the one at this place of this group is edited within its group
abbrev pub edited_in : {X : Type 0} → (ℕ → List X → List X) → ℕ → ℕ → List (List X) → List (List X)
edited_in edit k i gs = slice_set gs k (edit i (slice_index_or gs k []))

abbrev pub replaced_in : {X : Type 0} → ℕ → ℕ → X → List (List X) → List (List X)
replaced_in k i x gs = edited_in (λ n g. slice_set g n x) k i gs

abbrev pub removed_in : {X : Type 0} → ℕ → ℕ → List (List X) → List (List X)
removed_in k i gs = tidied (edited_in (λ n g. remove g n) k i gs)

-- no group has more than five
abbrev pub AreShort : {X : Type 0} → List (List X) → Type 0
AreShort [] = Unit {0}
AreShort (g ∷ gs) = (length g ≤ CHUNK) × AreShort gs

-- none is empty
abbrev pub AreFilled : {X : Type 0} → List (List X) → Type 0
AreFilled [] = Unit {0}
AreFilled (g ∷ gs) = (1 ≤ length g) × AreFilled gs

-- none is empty unless it is the only one
abbrev pub AreTidy : {X : Type 0} → List (List X) → Type 0
AreTidy [] = Unit {0}
AreTidy (g ∷ []) = Unit {0}
AreTidy (g ∷ g' ∷ gs) = AreFilled (g ∷ g' ∷ gs)
