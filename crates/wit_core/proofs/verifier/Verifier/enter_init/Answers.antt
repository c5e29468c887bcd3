use Rattle.std.proofs.Common.{◌∷◌, ◌++◌, [], true, refl, ap, sym, subst, arith, ◌∙◌}
use Rattle.wit_model.specs.declared.calls.Call.TheVariants.{Init}
use Rattle.wit_model.specs.declared.calls.NewLock.{NewLock}
use Rattle.wit_known.specs.Known.{Facts, with_lock, IsAdmitted}
use Rattle.wit_model.specs.declared.calls.Reply.TheVariants.{Made}
use Rattle.wit_core.proofs.Keeping.{kept_entered, log_after}
use Rattle.wit_core.proofs.Entries.Accepting.{accepted}
use Rattle.wit_core.proofs.Entries.Making.{admitted, init_few, init_room, leaves_init}
use Rattle.wit_core.proofs.Seen.{seen_as}
use Rattle.wit_core.proofs.Whole.{kept, kept_let_go, kept_roomy}
use Rattle.wit_core.proofs.verifier.Verifier.enter_init.Goals as goal

pub add_lock-requires-clause-few : goal.add_lock-requires-clause-few
add_lock-requires-clause-few c =
    let few =
    init_few (seen_as c.self.invariant c.self.view_is) c.args.seat.0 c.args.made
    c.args.number c.requires in
    omega (arith, few, c.locks-most.ensures.value, c.locks-most.ensures.within)

pub add_lock-requires-clause-admitted : goal.add_lock-requires-clause-admitted
add_lock-requires-clause-admitted c =
    subst (IsAdmitted c.self.inside.known) (sym (c.in_ok-known.ensures ∙ c.get.ensures))
    (admitted (seen_as c.self.invariant c.self.view_is) c.args.seat.0 c.args.made
    c.args.number c.requires)

pub push-requires-clause-room : goal.push-requires-clause-room
push-requires-clause-room c =
    init_room (seen_as c.self.invariant c.self.view_is) c.args.seat.0 c.args.made c.args.number _
    c.requires c.reserve.ensures.same

pub invariant_of-self-2 : goal.invariant_of-self-2
invariant_of-self-2 c =
    kept_let_go c.self.inside c.add_lock.new.self c.self.inside.seats c.self.inside.watch c.push.new.self _
    c.let_go.ensures (kept (
    kept_entered c.self.inside c.args.seat.0 _ _ _ _ _ _ _ c.add_lock.new.self c.self.inside.seats
    c.self.inside.watch c.push.new.self _
    (leaves_init (seen_as c.self.invariant c.self.view_is) c.args.seat.0 c.args.made
    c.args.number c.requires)
    (c.in_ok-add_lock.ensures.ok
    ∙ ap (λ (l : NewLock). record c.self.inside.known {
      known = with_lock c.self.inside.known.known
          l;
      live = c.self.inside.known.live ++ true ∷ [];
    })
    (c.in_ok-known.ensures ∙ c.get.ensures)) refl refl
    (log_after c.self.inside.log c.reserve.new.self c.push.new.self _ 0 _ c.reserve.ensures.same
    c.push.ensures)
    c.self.invariant.tied.found c.self.invariant.tied refl
    (accepted (seen_as c.self.invariant c.self.view_is) c.args.seat.0
    (Init c.args.made) (Made c.args.number) c.requires)))

pub invariant_of-self : goal.invariant_of-self
invariant_of-self c =
    kept_roomy c.self.inside c.self.inside.known c.reserve.new.self c.self.invariant refl
    c.reserve.ensures.same (omega arith) c.reserve.ensures.grows

pub invariant_of-self-in_err-add_lock : goal.invariant_of-self-in_err-add_lock
invariant_of-self-in_err-add_lock c =
    let same = c.in_err-add_lock.ensures.err in
    kept_roomy c.self.inside c.add_lock.new.self c.reserve.new.self c.self.invariant
    (same ∙ ap (λ (f : Facts). record c.self.inside.known { spare = f.spare }) (sym same))
    c.reserve.ensures.same
    (let spare = ap (λ (f : Facts). f.spare) same in omega (arith, spare)) c.reserve.ensures.grows
