-- A list's newest chunk.
use Rattle.std.proofs.Common.{◌≡◌, ℕ, ◌-◌, ◌<◌, not, nat_lt, List, [], ◌∷◌, length, get_or, Some}
use Rattle.std.proofs.Common.{is_some, slice_get}
use Rattle.std.proofs.Common.{ap, sym, ◌∙◌, subst, arith}
use Rattle.std.proofs.lemmas.Bool.{true≢false}
use Rattle.std.proofs.lemmas.List.{length-map, get_or-map}
use Rattle.std.proofs.lemmas.Option.{get_or_from_slice_get, slice_get_within}
use Rattle.wit_model.specs.declared.locks.Instance.{Instance}
use Rattle.wit_model.specs.Rules.Groups.{group_has_room, opens}
use Rattle.wit_model.specs.Rules.Rows.{row, groups_at, AreWithin}
use Rattle.wit_model.proofs.Chains.Grouping.{opens-newest}

-- the newest chunk decides whether a new lock opens one
pub opens-at : (rows : List (List Instance)) (ps : List ℕ) (p : ℕ)
    → slice_get ps (length ps - 1) ≡ Some p → opens (groups_at rows ps)
    ≡ not (nat_lt (length (row rows p)) 5)
opens-at rows [] p at = absurd (true≢false (sym (ap is_some at)))
opens-at rows (q ∷ qs) p at =
    let last : length (q ∷ qs) - 1 ≡ length qs = omega arith in
    let is : get_or (q ∷ qs) (length qs) 0 ≡ p =
    get_or_from_slice_get (q ∷ qs) (length qs) p 0 (sym (ap (slice_get (q ∷ qs)) last) ∙ at) in
    opens-newest (row rows q) (groups_at rows qs)
    ∙ ap (λ (g : List Instance). not (group_has_room g))
    (ap (λ n. get_or (groups_at rows (q ∷ qs)) n []) (length-map qs (row rows))
    ∙ get_or-map (row rows) (q ∷ qs) (length qs) 0 [] (omega arith)
    ∙ ap (row rows) is)

pub newest-within : (ps : List ℕ) (p size : ℕ) → slice_get ps (length ps - 1) ≡ Some p
    → AreWithin size ps → p < size
newest-within ps p size at within =
    subst (λ q. q < size) (get_or_from_slice_get ps (length ps - 1) p 0 at)
    (within (length ps - 1) 0 (slice_get_within ps (length ps - 1) p at))
