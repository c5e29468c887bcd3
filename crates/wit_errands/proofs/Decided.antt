-- Threads hang exactly where they have errands that meet in a round.
use Rattle.std.proofs.Common.{◌≡◌, ℕ, ◌↔◌, false, List, ◌++◌, sym, subst}
use Rattle.std.specs.List.{list_any}
use Rattle.wit_model.specs.Rules.State.{Start}
use Rattle.wit_model.specs.World.Deeds.{Deed}
use Rattle.wit_model.specs.World.Waiting.{IsDeadlock}
use Rattle.wit_model.specs.World.Reordering.{IsReordering}
use Rattle.wit_errands.specs.Settled.{IsSettled, gets}
use Rattle.wit_errands.specs.Errands.{Asker, IsRound, AreDistinct, threads_of, Meet}
use Rattle.wit_errands.proofs.Found.{hanging-have}
use Rattle.wit_errands.proofs.Meeting.{hanging-meet}
use Rattle.wit_errands.proofs.Rounds.{meeting-hangs}

module _ (start : Start) (files : List (List ℕ)) (first deeds : List Deed) (threads : List ℕ)
    (settled : IsSettled start files first deeds) (quiet : list_any gets first ≡ false)
    (distinct : AreDistinct threads) where
  abbrev Hangs : Type 0
  Hangs = (v : List Deed) × IsReordering start v (deeds ++ first) × IsDeadlock v threads

  abbrev HasErrands : Type 0
  HasErrands =
      (askers : List (Asker first deeds)) × (threads_of askers ≡ threads) × IsRound askers
      × Meet start.sizes.seats askers

  hang-have : Hangs → HasErrands
  hang-have hangs =
      let v = hangs.0 in
      let found = hanging-have start first deeds v threads quiet hangs.1 hangs.2 in
      let circle = subst (λ ts. IsDeadlock v ts) (sym found.1) hangs.2 in
      let meet = hanging-meet start first deeds v found.0 settled.nothing hangs.1 circle found.2 in
      (found.0, found.1, meet.0, meet.1)

  have-hang : HasErrands → Hangs
  have-hang has =
      let apart = subst (λ ts. AreDistinct ts) (sym has.1) distinct in
      let hangs = meeting-hangs start files first deeds settled has.0 apart has.3 has.2 in
      (hangs.0 ++ first, hangs.1, subst (λ ts. IsDeadlock (hangs.0 ++ first) ts) has.1 hangs.2)

  pub errands-decide : Hangs ↔ HasErrands
  errands-decide = (hang-have, have-hang)
