-- Of which thread and of which lock a deed is.
use Rattle.std.proofs.Common.{◌≡◌, ℕ, Bool, true, false, ◌&&◌, eqb, refl}
use Rattle.std.proofs.lemmas.Bool.{eq-eqb, true≢false}
use Rattle.wit_model.specs.declared.locks.Mode.{Mode}
use Rattle.wit_model.specs.declared.locks.Mode.TheVariants.{Shared, Exclusive}
use Rattle.wit_model.specs.Rules.Verdict.{is_exclusive}
use Rattle.wit_model.specs.World.Deeds.{are_these}

either_true : (a b : Bool) → b ≡ true → (a && b) ≡ a
either_true true b is = is
either_true false b is = refl

either_false : (a b : Bool) → b ≡ false → (a && b) ≡ false
either_false true b is = is
either_false false b is = refl

-- of a thread that didn't do it, or a lock to which it wasn't done
pub these-here : (t l u m : ℕ) → m ≡ l → are_these t l u m ≡ eqb u t
these-here t l u m same = either_true (eqb u t) (eqb m l) (eq-eqb m l same)

pub these-elsewhere : (t l u m : ℕ) → eqb m l ≡ false → are_these t l u m ≡ false
these-elsewhere t l u m other = either_false (eqb u t) (eqb m l) other

pub both-shared : (a b : Mode) → is_exclusive a ≡ false → is_exclusive b ≡ false → a ≡ b
both-shared Exclusive b one two = absurd (true≢false one)
both-shared Shared Exclusive one two = absurd (true≢false two)
both-shared Shared Shared one two = refl
