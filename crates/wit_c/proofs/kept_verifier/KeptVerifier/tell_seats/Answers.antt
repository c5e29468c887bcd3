use Rattle.std.proofs.Common.{◌≡◌, ℤ, sym, subst, ◌∙◌, arith, to_z, of_z, w64, to_z-of_z}
use Rattle.wit_c.specs.Views.{TellsSeats}
use Rattle.wit_c.proofs.Circles.{seats_told}
use Rattle.wit_c.proofs.kept_verifier.KeptVerifier.tell_seats.Goals as goal

pub returns-in-Ok : goal.returns-in-Ok
returns-in-Ok c =
    let fits : to_z w64 (of_z w64 c.tell.result) ≡ c.tell.result = grind (arith, to_z-of_z) in
    subst (λ (n : ℤ). TellsSeats c.args.self.now c.args.to.now n c.tell.new.to) (sym fits)
    (seats_told c.args.self.now c.in-Ok-Some.field-0 c.in-Ok-Some.seats c.deref.result.now
    c.deref-in-Ok.result.now c.args.to.now c.tell.result c.tell.new.to c.in-Ok-Some.ensures.ok
    c.in-Ok-Some.field-0-is c.deref.ensures.value
    (c.deref-in-Ok.ensures.value ∙ c.in-Ok.ensures) c.tell.ensures)
