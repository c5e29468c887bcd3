use Rattle.std.proofs.Common.{◌≡◌, ℕ, Option, None, IfSome, find, ap, sym, subst, ◌∙◌}
use Rattle.std.proofs.lemmas.Bool.{eqb-true}
use Rattle.wit_model.specs.declared.locks.LockNo.{LockNo}
use Rattle.wit_model.specs.Rules.Chunks.{chain_of}
use Rattle.wit_model.specs.Rules.Verdict.{is_of}
use Rattle.wit_waiting.specs.Seated.{IsUnheld}
use Rattle.wit_waiting.proofs.SeatRows.{number-now, chain-now}
use Rattle.wit_waiting.proofs.seats.Seats.is_unheld.Goals as goal

pub list_of-requires : goal.list_of-requires
list_of-requires c =
    number-now c.self.inside c.args.self.now c.self.view_is c.self.invariant c.args.seat.0
    c.requires

pub returns-then-list-list_of : goal.returns-then-list-list_of
returns-then-list-list_of c same =
    ap (find (is_of c.args.lock.0))
    (sym (chain-now c.self.inside c.args.self.now c.self.view_is c.self.invariant c.args.seat.0
    c.requires c.in-Some.list c.args.spin (c.if-list-list_of.true ∙ c.list_of.ensures)))
    ∙ subst (λ (l : ℕ). find (is_of l) (chain_of c.self.inside.lists c.in-Some.list) ≡ None)
    (eqb-true _ _ same)
    (subst (λ (o : Option (ℕ × LockNo)). IfSome o (IsUnheld c.self.inside.lists)) c.in-Some.is
    c.self.invariant.unheld)
