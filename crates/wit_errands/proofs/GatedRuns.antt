-- Where whoever asks for a lock while it has one has the gate too, no reordering hangs.
use Rattle.std.proofs.Common.{◌≡◌, ℕ, ◌<◌, true, List, [], ◌∷◌}
use Rattle.std.proofs.Common.{refl, ap, sym, ◌∙◌, subst}
use Rattle.std.proofs.lemmas.Bool.{true≢false}
use Rattle.wit_model.specs.Rules.State.{Start}
use Rattle.wit_model.specs.Rules.Verdict.{is_exclusive}
use Rattle.wit_model.specs.World.Deeds.{Deed}
use Rattle.wit_model.specs.World.Deeds.{own, shares, raw_mode}
use Rattle.wit_model.specs.World.Waiting.{IsWaiting, IsDeadlock}
use Rattle.wit_model.specs.World.Reordering.{IsReordering}
use Rattle.wit_model.proofs.World.Exclusion.{exclusive_alone}
use Rattle.wit_errands.specs.Laws.{IsGated}
use Rattle.wit_errands.proofs.Looks.{shares-alike, mode-alike, stage-alike}
use Rattle.wit_errands.proofs.Moments.{moment}
use Rattle.wit_errands.proofs.Queues.{first-waits, last-waited_for}

module _ (start : Start) (v w : List Deed) (gate : ℕ) (gated : IsGated gate w)
    (reordered : IsReordering start v w) where
  -- who waits and is waited for has the gate
  has-gate : (p t u : ℕ) → IsWaiting v p t → IsWaiting v t u
      → (0 < shares t gate v) × (is_exclusive (raw_mode t gate v) ≡ true)
  has-gate p t u before x =
      let b = reordered.same t in
      let m = moment t (own t v) w b.0 b.1 in
      let l = before.request.lock.0 in
      let asks = stage-alike t m.now v m.same ∙ x.asks in
      let had = subst (λ n. 0 < n) (sym (shares-alike t l m.now v m.same)) before.taken in
      let has = gated m.later m.now t l x.request m.whole asks had in (
        subst (λ n. 0 < n) (shares-alike t gate m.now v m.same) has.0,
        ap is_exclusive (sym (mode-alike t gate m.now v m.same)) ∙ has.1,
      )

  two-gates : (p t u x : ℕ) → IsWaiting v p t → IsWaiting v t u → IsWaiting v u x → ⊥
  two-gates p t u x one two three =
      let mine = has-gate p t u one two in
      let theirs = has-gate t u x two three in
      true≢false (sym mine.1
      ∙ exclusive_alone start reordered.files v t u gate reordered.world two.another mine.0
      theirs.0)

  pub never-hangs : (threads : List ℕ) → IsDeadlock v threads → ⊥
  never-hangs [] circle = circle
  never-hangs (t ∷ []) circle = circle.another refl
  never-hangs (t ∷ u ∷ ts) circle =
      let next = first-waits (IsWaiting v) u ts t circle.1 in
      let last = last-waited_for (IsWaiting v) u ts t circle.1 in
      two-gates last.0 t u next.0 last.1 circle.0 next.1
