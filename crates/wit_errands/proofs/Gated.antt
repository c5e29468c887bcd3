-- Two threads with a lock in common are never both at requests that they make with it.
use Rattle.std.proofs.Common.{◌≡◌, ℕ, ◌<◌, true, ◌||◌, nat_lt, List, ◌++◌, ap, sym}
use Rattle.std.proofs.Common.{◌∙◌, subst}
use Rattle.std.proofs.lemmas.Bool.{and_parts, or_from, ltb-true, true≢false}
use Rattle.wit_model.specs.Rules.State.{Start}
use Rattle.wit_model.specs.Rules.Verdict.{is_exclusive}
use Rattle.wit_model.specs.World.Deeds.{Deed, shares, raw_mode}
use Rattle.wit_model.specs.World.Reordering.{IsReordering}
use Rattle.wit_model.proofs.World.Exclusion.{exclusive_alone}
use Rattle.wit_errands.specs.Errands.{Errand, keeps, IsAtRequest}
use Rattle.wit_errands.proofs.Waiting.{has-there}

pub kept-apart : (start : Start) (first deeds v : List Deed) (t u l : ℕ)
    (a : Errand t first deeds) (b : Errand u first deeds)
    → ((i k : ℕ) → shares i k first ≡ 0) → (u ≡ t → ⊥) → 0 < shares t l a.way
    → keeps u b.way l (raw_mode t l a.way) ≡ true → IsReordering start v (deeds ++ first)
    → IsAtRequest a v → IsAtRequest b v → ⊥
kept-apart start first deeds v t u l a b nothing other had gate reordered mine theirs =
    let parts =
    and_parts (nat_lt 0 (shares u l b.way))
    (is_exclusive (raw_mode u l b.way) || is_exclusive (raw_mode t l a.way)) gate in
    let some = ltb-true 0 (shares u l b.way) parts.0 in
    let a-has = has-there u t first deeds b a v theirs mine nothing in
    let b-has = has-there t u first deeds a b v mine theirs nothing in
    let one =
    subst (λ n. 0 < n) (sym (a-has.counts l)) had in
    let two =
    subst (λ n. 0 < n) (sym (b-has.counts l)) some in
    let files = reordered.files in
    let world = reordered.world in
    let t-mild = exclusive_alone start files v t u l world other one two in
    let u-mild =
    exclusive_alone start files v u t l world (λ (e : t ≡ u). other (sym e)) two one in
    let t-mode = a-has.modes l had in
    let u-mode = b-has.modes l some in
    true≢false (sym parts.1
    ∙ or_from (is_exclusive (raw_mode u l b.way)) (is_exclusive (raw_mode t l a.way))
    (ap is_exclusive (sym u-mode) ∙ u-mild) (ap is_exclusive (sym t-mode) ∙ t-mild))
