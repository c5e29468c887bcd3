use Rattle.std.proofs.Common.{refl}
use Rattle.wit_model.specs.declared.calls.Call.TheVariants.{GiveUp}
use Rattle.wit_model.specs.declared.calls.Reply.TheVariants.{Done}
use Rattle.wit_core.proofs.Keeping.{kept_entered}
use Rattle.wit_core.proofs.Entries.Accepting.{accepted, given}
use Rattle.wit_core.proofs.Entries.GivingUp.{give_up_owed, leaves_give_up}
use Rattle.wit_core.proofs.Seen.{seen_as}
use Rattle.wit_core.proofs.Whole.{kept, kept_let_go}
use Rattle.wit_core.proofs.verifier.Verifier.enter_give_up.Goals as goal

pub clear-requires : goal.clear-requires
clear-requires c =
    given (seen_as c.self.invariant c.self.view_is) c.args.seat.0
    (GiveUp c.args.lock) Done c.requires

pub push_owed-requires : goal.push_owed-requires
push_owed-requires c =
    give_up_owed (seen_as c.self.invariant c.self.view_is) c.args.seat.0 c.args.lock c.requires

pub invariant_of-self : goal.invariant_of-self
invariant_of-self c =
    kept_let_go c.self.inside c.self.inside.known c.clear.new.self c.self.inside.watch c.push_owed.new.self _
    c.let_go.ensures (kept (
    kept_entered c.self.inside c.args.seat.0 _ _ _ _ _ _ _ _ c.clear.new.self _
    c.push_owed.new.self _
    (leaves_give_up (seen_as c.self.invariant c.self.view_is) c.args.seat.0 c.args.lock c.requires)
    refl c.clear.ensures refl c.push_owed.ensures c.self.invariant.tied.found
    c.self.invariant.tied refl
    (accepted (seen_as c.self.invariant c.self.view_is) c.args.seat.0
    (GiveUp c.args.lock) Done c.requires)))
