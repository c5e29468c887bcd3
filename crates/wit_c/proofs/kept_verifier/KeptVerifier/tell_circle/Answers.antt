use Rattle.std.proofs.Common.{◌≡◌, ℤ, sym, subst, arith, to_z, of_z, w64, to_z-of_z}
use Rattle.wit_c.specs.Views.{TellsCircleText}
use Rattle.wit_c.proofs.Circles.{circle_told}
use Rattle.wit_c.proofs.kept_verifier.KeptVerifier.tell_circle.Goals as goal

pub returns-in-Ok-Some : goal.returns-in-Ok-Some
returns-in-Ok-Some c =
    let fits : to_z w64 (of_z w64 c.tell_waits.result) ≡ c.tell_waits.result =
    grind (arith, to_z-of_z) in
    subst (λ (n : ℤ). TellsCircleText c.args.self.now c.args.to.now n c.tell_waits.new.to) (sym fits)
    (circle_told c.args.self.now c.in-Ok-Some.field-0 c.in-Ok-Some.seats c.deref.result.now
    c.args.to.now c.tell_waits.result c.tell_waits.new.to c.in-Ok-Some.ensures.ok
    c.in-Ok-Some.field-0-is c.deref.ensures.value c.tell_waits.ensures)
